-- The table of patrons.
use Rattle.std.specs.Prelude.{ℕ, pos, List, drop, refl}
use Rattle.sqlite.specs.Listing.{understood}
use Rattle.sqlite.specs.Order.{column}
use Rattle.sqlite.specs.Table.{Table as SqlTable}
use Rattle.sqlite_schema.specs.declared.schema.Index.{Index}
use Rattle.sqlite_tied.specs.Compute.{everything}
use Rattle.sql_maps.proofs.FillLemmas.{single_fills}
use Rattle.terms.specs.Limits.{IsPatron}
use Rattle.terms.specs.Pictures.{put}
use Rattle.terms.specs.declared.row.PatronRow.{PatronRow}
use Rattle.circ_tables.specs.Cells.{number_key, patron_cells}
use Rattle.circ_tables.specs.Encoding.{IsEncoded, Any}
use Rattle.circ_tables.specs.TableMaps.{all_held, to_list, from_list, with_held}
use Rattle.circ_tables.specs.Numbered.{IsNumbered, IsNumberTable, grown, in_each, put_terms, put_shows, nat_of, text_of}
use Rattle.circ_tables.specs.Reading.{Table}
use Rattle.circ_tables.specs.Shape as shape
use Rattle.circ_tables.specs.TableSchemas.{has_first}

abbrev pub patrons : Table ℕ PatronRow
patrons = record {
  shape = shape.patrons;
  place = shape.patrons_place;
  since = 1;
  key = number_key;
  cells = patron_cells;
  IsLegal = IsPatron;
  rows = λ P. P.patrons;
  set = λ P k row. record P { patrons = put P.patrons k row };
}

texts_are : (more : List SqlTable) (others : List Index) → IsNumbered (grown more others) shape.patrons_place shape.patrons
unfolding understood everything
texts_are more others = record {
  listed = refl;
  primary = refl;
  uncounted = refl;
  key_cell = λ r. refl;
  shows = λ given r. refl;
  put = record { command_is = refl; bare = (refl, refl) };
  take = record { command_is = refl; bare = (refl, refl) };
  get = record { command_is = refl; bare = (refl, refl); unlisted = refl };
  all = record { command_is = refl; bare = (refl, refl); unlisted = refl };
  first = record { command_is = refl; bare = (refl, refl); unlisted = refl };
  batch = record { command_is = refl; bare = (refl, refl); unlisted = refl };
}

pub patrons_are : IsNumberTable patrons (λ r. r.patron)
patrons_are = record {
  newest = has_first;
  texts = in_each shape.patrons_place shape.patrons texts_are;
  keyed = λ k. refl;
  first_cell = λ r. refl;
  from_one = λ r legal. legal.0.0;
  fills = λ r. single_fills shape.patrons (pos r.patron) (drop 1 (patron_cells r)) (put_terms shape.patrons)
      (put_shows shape.patrons) 6 5 refl refl refl refl (λ there rest. refl) (λ there r new. refl) (λ id. refl);
  back = λ v. record {
    patron = nat_of (column v 0);
    kind = nat_of (column v 1);
    card_key = text_of (column v 2);
    name = text_of (column v 3);
    owed = nat_of (column v 4);
  };
  back_is = λ r _ i. record { patron = r.patron; kind = r.kind; card_key = r.card_key; name = r.name; owed = r.owed };
  rows_are = λ maps P is. is.patrons;
  legal = λ P is. is.patrons;
  with_rows = λ P u. record P { patrons = u };
  set_is = λ P k row. refl;
  framed = λ maps P m u is held. from_list _ _
      (with_held (all_held P) shape.patrons_place (λ w. IsEncoded Any number_key patron_cells w u) m maps (to_list _ _ is) held);
}
