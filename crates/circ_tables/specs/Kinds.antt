-- The table of patron kinds.
use Rattle.std.specs.Prelude.{ℕ, pos, List, drop, refl}
use Rattle.sqlite.specs.Listing.{understood}
use Rattle.sqlite.specs.Order.{column}
use Rattle.sqlite.specs.Table.{Table as SqlTable}
use Rattle.sqlite_schema.specs.declared.schema.Index.{Index}
use Rattle.sqlite_tied.specs.Compute.{everything}
use Rattle.sql_maps.proofs.FillLemmas.{single_fills}
use Rattle.terms.specs.Limits.{IsKind}
use Rattle.terms.specs.Pictures.{put}
use Rattle.terms.specs.declared.row.KindRow.{KindRow}
use Rattle.circ_tables.specs.Cells.{number_key, kind_cells}
use Rattle.circ_tables.specs.Encoding.{IsEncoded, Any}
use Rattle.circ_tables.specs.TableMaps.{all_held, to_list, from_list, with_held}
use Rattle.circ_tables.specs.Numbered.{IsNumbered, IsNumberTable, grown, in_each, put_terms, put_shows, nat_of}
use Rattle.circ_tables.specs.Reading.{Table}
use Rattle.circ_tables.specs.Shape as shape
use Rattle.circ_tables.specs.TableSchemas.{has_first}

abbrev pub kinds : Table ℕ KindRow
kinds = record {
  shape = shape.kinds;
  place = shape.kinds_place;
  since = 1;
  key = number_key;
  cells = kind_cells;
  IsLegal = IsKind;
  rows = λ P. P.kinds;
  set = λ P k row. record P { kinds = put P.kinds k row };
}

texts_are : (more : List SqlTable) (others : List Index) → IsNumbered (grown more others) shape.kinds_place shape.kinds
unfolding understood everything
texts_are more others = record {
  listed = refl;
  primary = refl;
  uncounted = refl;
  key_cell = λ r. refl;
  shows = λ given r. refl;
  put = record { command_is = refl; bare = (refl, refl) };
  take = record { command_is = refl; bare = (refl, refl) };
  get = record { command_is = refl; bare = (refl, refl); unlisted = refl };
  all = record { command_is = refl; bare = (refl, refl); unlisted = refl };
  first = record { command_is = refl; bare = (refl, refl); unlisted = refl };
  batch = record { command_is = refl; bare = (refl, refl); unlisted = refl };
}

pub kinds_are : IsNumberTable kinds (λ r. r.kind)
kinds_are = record {
  newest = has_first;
  texts = in_each shape.kinds_place shape.kinds texts_are;
  keyed = λ k. refl;
  first_cell = λ r. refl;
  from_one = λ r legal. legal.0.0;
  fills = λ r. single_fills shape.kinds (pos r.kind) (drop 1 (kind_cells r)) (put_terms shape.kinds)
      (put_shows shape.kinds) 5 4 refl refl refl refl (λ there rest. refl) (λ there r new. refl) (λ id. refl);
  back = λ v. record { kind = nat_of (column v 0); loans = nat_of (column v 1); holds = nat_of (column v 2); debt = nat_of (column v 3) };
  back_is = λ r _ i. record { kind = r.kind; loans = r.loans; holds = r.holds; debt = r.debt };
  rows_are = λ maps P is. is.kinds;
  legal = λ P is. is.kinds;
  with_rows = λ P u. record P { kinds = u };
  set_is = λ P k row. refl;
  framed = λ maps P m u is held. from_list _ _
      (with_held (all_held P) shape.kinds_place (λ w. IsEncoded Any number_key kind_cells w u) m maps (to_list _ _ is) held);
}
