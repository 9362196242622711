-- The table of branches.
use Rattle.std.specs.Prelude.{ℕ, pos, List, drop, refl}
use Rattle.sqlite.specs.Listing.{understood}
use Rattle.sqlite.specs.Order.{column}
use Rattle.sqlite.specs.Table.{Table as SqlTable}
use Rattle.sqlite_schema.specs.declared.schema.Index.{Index}
use Rattle.sqlite_tied.specs.Compute.{everything}
use Rattle.sql_maps.proofs.FillLemmas.{single_fills}
use Rattle.terms.proofs.WordLemmas.{closed_by, closed_by-mask_text}
use Rattle.terms.specs.Limits.{IsBranch}
use Rattle.terms.specs.Pictures.{put}
use Rattle.terms.specs.declared.row.BranchRow.{BranchRow}
use Rattle.circ_tables.specs.Cells.{number_key, branch_cells}
use Rattle.circ_tables.specs.Encoding.{IsEncoded, Any}
use Rattle.circ_tables.specs.TableMaps.{all_held, to_list, from_list, with_held}
use Rattle.circ_tables.specs.Numbered.{IsNumbered, IsNumberTable, grown, in_each, put_terms, put_shows, nat_of, text_of}
use Rattle.circ_tables.specs.Reading.{Table}
use Rattle.circ_tables.specs.Shape as shape
use Rattle.circ_tables.specs.TableSchemas.{has_first}

abbrev pub branches : Table ℕ BranchRow
branches = record {
  shape = shape.branches;
  place = shape.branches_place;
  since = 1;
  key = number_key;
  cells = branch_cells;
  IsLegal = IsBranch;
  rows = λ P. P.branches;
  set = λ P k row. record P { branches = put P.branches k row };
}

texts_are : (more : List SqlTable) (others : List Index) → IsNumbered (grown more others) shape.branches_place shape.branches
unfolding understood everything
texts_are more others = record {
  listed = refl;
  primary = refl;
  uncounted = refl;
  key_cell = λ r. refl;
  shows = λ given r. refl;
  put = record { command_is = refl; bare = (refl, refl) };
  take = record { command_is = refl; bare = (refl, refl) };
  get = record { command_is = refl; bare = (refl, refl); unlisted = refl };
  all = record { command_is = refl; bare = (refl, refl); unlisted = refl };
  first = record { command_is = refl; bare = (refl, refl); unlisted = refl };
  batch = record { command_is = refl; bare = (refl, refl); unlisted = refl };
}

pub branches_are : IsNumberTable branches (λ r. r.branch)
branches_are = record {
  newest = has_first;
  texts = in_each shape.branches_place shape.branches texts_are;
  keyed = λ k. refl;
  first_cell = λ r. refl;
  from_one = λ r legal. legal.0.0;
  fills = λ r. single_fills shape.branches (pos r.branch) (drop 1 (branch_cells r)) (put_terms shape.branches)
      (put_shows shape.branches) 5 4 refl refl refl refl (λ there rest. refl) (λ there r new. refl) (λ id. refl);
  back = λ v. record { branch = nat_of (column v 0); pickup = nat_of (column v 1); week = closed_by (text_of (column v 2)); name = text_of (column v 3) };
  back_is = λ r legal i. record { branch = r.branch; pickup = r.pickup; week = closed_by-mask_text r.week legal.2.seven i; name = r.name };
  rows_are = λ maps P is. is.branches;
  legal = λ P is. is.branches;
  with_rows = λ P u. record P { branches = u };
  set_is = λ P k row. refl;
  framed = λ maps P m u is held. from_list _ _
      (with_held (all_held P) shape.branches_place (λ w. IsEncoded Any number_key branch_cells w u) m maps (to_list _ _ is) held);
}
