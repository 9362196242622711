-- The table of copies.
use Rattle.std.specs.Prelude.{◌≡◌, ℕ, pos, List, drop, refl, zero, suc}
use Rattle.sqlite.specs.Listing.{understood}
use Rattle.sqlite.specs.Order.{column}
use Rattle.sqlite.specs.Table.{Table as SqlTable}
use Rattle.sqlite_schema.specs.declared.schema.Index.{Index}
use Rattle.sqlite_tied.specs.Compute.{everything}
use Rattle.sql_maps.proofs.FillLemmas.{single_fills}
use Rattle.terms.specs.Limits.{IsCopy}
use Rattle.terms.specs.Pictures.{put}
use Rattle.terms.specs.declared.row.Condition.{Condition}
use Rattle.terms.specs.declared.row.Condition.TheVariants.{Present, Missing, Withdrawn}
use Rattle.terms.specs.declared.row.CopyRow.{CopyRow}
use Rattle.circ_tables.specs.Cells.{number_key, condition_number, copy_cells}
use Rattle.circ_tables.specs.Encoding.{IsEncoded, Any}
use Rattle.circ_tables.specs.TableMaps.{all_held, to_list, from_list, with_held}
use Rattle.circ_tables.specs.Numbered.{IsNumbered, IsNumberTable, grown, in_each, put_terms, put_shows, nat_of}
use Rattle.circ_tables.specs.Reading.{Table}
use Rattle.circ_tables.specs.Shape as shape
use Rattle.circ_tables.specs.TableSchemas.{has_first}

abbrev pub copies : Table ℕ CopyRow
copies = record {
  shape = shape.copies;
  place = shape.copies_place;
  since = 1;
  key = number_key;
  cells = copy_cells;
  IsLegal = IsCopy;
  rows = λ P. P.copies;
  set = λ P k row. record P { copies = put P.copies k row };
}

abbrev pub condition_of : ℕ → Condition
condition_of zero = Present
condition_of (suc zero) = Missing
condition_of _ = Withdrawn

condition_back : (s : Condition) → condition_of (condition_number s) ≡ s
condition_back Present = refl
condition_back Missing = refl
condition_back Withdrawn = refl

texts_are : (more : List SqlTable) (others : List Index) → IsNumbered (grown more others) shape.copies_place shape.copies
unfolding understood everything
texts_are more others = record {
  listed = refl;
  primary = refl;
  uncounted = refl;
  key_cell = λ r. refl;
  shows = λ given r. refl;
  put = record { command_is = refl; bare = (refl, refl) };
  take = record { command_is = refl; bare = (refl, refl) };
  get = record { command_is = refl; bare = (refl, refl); unlisted = refl };
  all = record { command_is = refl; bare = (refl, refl); unlisted = refl };
  first = record { command_is = refl; bare = (refl, refl); unlisted = refl };
  batch = record { command_is = refl; bare = (refl, refl); unlisted = refl };
}

pub copies_are : IsNumberTable copies (λ r. r.copy)
copies_are = record {
  newest = has_first;
  texts = in_each shape.copies_place shape.copies texts_are;
  keyed = λ k. refl;
  first_cell = λ r. refl;
  from_one = λ r legal. legal.0.0;
  fills = λ r. single_fills shape.copies (pos r.copy) (drop 1 (copy_cells r)) (put_terms shape.copies)
      (put_shows shape.copies) 7 6 refl refl refl refl (λ there rest. refl) (λ there r new. refl) (λ id. refl);
  back = λ v. record {
    copy = nat_of (column v 0);
    title = nat_of (column v 1);
    kind = nat_of (column v 2);
    home = nat_of (column v 3);
    price = nat_of (column v 4);
    condition = condition_of (nat_of (column v 5));
  };
  back_is = λ r _ i. record { copy = r.copy; title = r.title; kind = r.kind; home = r.home; price = r.price; condition = condition_back r.condition i };
  rows_are = λ maps P is. is.copies;
  legal = λ P is. is.copies;
  with_rows = λ P u. record P { copies = u };
  set_is = λ P k row. refl;
  framed = λ maps P m u is held. from_list _ _
      (with_held (all_held P) shape.copies_place (λ w. IsEncoded Any number_key copy_cells w u) m maps (to_list _ _ is) held);
}
