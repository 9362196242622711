-- The table of copies that travel.
use Rattle.std.proofs.Common.{ap}
use Rattle.std.specs.Prelude.{ℕ, pos, true, List, drop, refl, ◌&&◌}
use Rattle.sqlite.specs.Listing.{understood}
use Rattle.sqlite.specs.Order.{column}
use Rattle.sqlite.specs.Table.{Table as SqlTable}
use Rattle.sqlite_schema.specs.declared.schema.Index.{Index}
use Rattle.sqlite_tied.specs.Compute.{everything}
use Rattle.sql_maps.proofs.FillLemmas.{single_fills}
use Rattle.terms.specs.Limits.{IsTransit}
use Rattle.terms.specs.Pictures.{put}
use Rattle.terms.specs.declared.row.TransitRow.{TransitRow}
use Rattle.circ_tables.specs.Cells.{number_key, transit_cells}
use Rattle.circ_tables.specs.Encoding.{IsEncoded, Any}
use Rattle.circ_tables.specs.TableMaps.{all_held, to_list, from_list, with_held}
use Rattle.circ_tables.specs.Numbered.{IsNumbered, IsNumberTable, grown, in_each, put_terms, put_shows, nat_of, option_of, option_back, optional_suits}
use Rattle.circ_tables.specs.Reading.{Table}
use Rattle.circ_tables.specs.Shape as shape
use Rattle.circ_tables.specs.TableSchemas.{has_first}

abbrev pub transits : Table ℕ TransitRow
transits = record {
  shape = shape.transits;
  place = shape.transits_place;
  since = 1;
  key = number_key;
  cells = transit_cells;
  IsLegal = IsTransit;
  rows = λ P. P.transits;
  set = λ P k row. record P { transits = put P.transits k row };
}

texts_are : (more : List SqlTable) (others : List Index) → IsNumbered (grown more others) shape.transits_place shape.transits
unfolding understood everything
texts_are more others = record {
  listed = refl;
  primary = refl;
  uncounted = refl;
  key_cell = λ r. refl;
  shows = λ given r. refl;
  put = record { command_is = refl; bare = (refl, refl) };
  take = record { command_is = refl; bare = (refl, refl) };
  get = record { command_is = refl; bare = (refl, refl); unlisted = refl };
  all = record { command_is = refl; bare = (refl, refl); unlisted = refl };
  first = record { command_is = refl; bare = (refl, refl); unlisted = refl };
  batch = record { command_is = refl; bare = (refl, refl); unlisted = refl };
}

pub transits_are : IsNumberTable transits (λ r. r.copy)
transits_are = record {
  newest = has_first;
  texts = in_each shape.transits_place shape.transits texts_are;
  keyed = λ k. refl;
  first_cell = λ r. refl;
  from_one = λ r legal. legal.0.0;
  fills = λ r. single_fills shape.transits (pos r.copy) (drop 1 (transit_cells r)) (put_terms shape.transits)
      (put_shows shape.transits) 4 3 refl refl (ap (λ b. b && true) (optional_suits r.hold)) refl (λ there rest. refl) (λ there r new. refl)
      (λ id. refl);
  back = λ v. record { copy = nat_of (column v 0); goal = nat_of (column v 1); hold = option_of (column v 2) };
  back_is = λ r _ i. record { copy = r.copy; goal = r.goal; hold = option_back r.hold i };
  rows_are = λ maps P is. is.transits;
  legal = λ P is. is.transits;
  with_rows = λ P u. record P { transits = u };
  set_is = λ P k row. refl;
  framed = λ maps P m u is held. from_list _ _
      (with_held (all_held P) shape.transits_place (λ w. IsEncoded Any number_key transit_cells w u) m maps (to_list _ _ is) held);
}
