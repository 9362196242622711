-- The table of account lines.
use Rattle.std.proofs.Common.{ap}
use Rattle.std.specs.Prelude.{◌≡◌, ℕ, pos, true, List, drop, refl, zero, suc, ◌&&◌}
use Rattle.sqlite.specs.Listing.{understood}
use Rattle.sqlite.specs.Order.{column}
use Rattle.sqlite.specs.Table.{Table as SqlTable}
use Rattle.sqlite_schema.specs.declared.schema.Index.{Index}
use Rattle.sqlite_tied.specs.Compute.{everything}
use Rattle.sql_maps.proofs.FillLemmas.{single_fills}
use Rattle.terms.specs.Limits.{IsLine}
use Rattle.terms.specs.Pictures.{put}
use Rattle.terms.specs.declared.row.LineRow.{LineRow}
use Rattle.terms.specs.declared.row.Sort.{Sort}
use Rattle.terms.specs.declared.row.Sort.TheVariants.{Fine, Price, Payment, Waiver, Charge}
use Rattle.circ_tables.specs.Cells.{number_key, sort_number, line_cells}
use Rattle.circ_tables.specs.Encoding.{IsEncoded, Any}
use Rattle.circ_tables.specs.TableMaps.{all_held, to_list, from_list, with_held}
use Rattle.circ_tables.specs.Numbered.{IsNumbered, IsNumberTable, grown, in_each, put_terms, put_shows, nat_of, option_of, option_back, optional_suits}
use Rattle.circ_tables.specs.Reading.{Table}
use Rattle.circ_tables.specs.Shape as shape
use Rattle.circ_tables.specs.TableSchemas.{has_first}

abbrev pub lines : Table ℕ LineRow
lines = record {
  shape = shape.lines;
  place = shape.lines_place;
  since = 1;
  key = number_key;
  cells = line_cells;
  IsLegal = IsLine;
  rows = λ P. P.lines;
  set = λ P k row. record P { lines = put P.lines k row };
}

abbrev pub sort_of : ℕ → Sort
sort_of zero = Fine
sort_of (suc zero) = Price
sort_of (suc (suc zero)) = Payment
sort_of (suc (suc (suc zero))) = Waiver
sort_of _ = Charge

sort_back : (s : Sort) → sort_of (sort_number s) ≡ s
sort_back Fine = refl
sort_back Price = refl
sort_back Payment = refl
sort_back Waiver = refl
sort_back Charge = refl

texts_are : (more : List SqlTable) (others : List Index) → IsNumbered (grown more others) shape.lines_place shape.lines
unfolding understood everything
texts_are more others = record {
  listed = refl;
  primary = refl;
  uncounted = refl;
  key_cell = λ r. refl;
  shows = λ given r. refl;
  put = record { command_is = refl; bare = (refl, refl) };
  take = record { command_is = refl; bare = (refl, refl) };
  get = record { command_is = refl; bare = (refl, refl); unlisted = refl };
  all = record { command_is = refl; bare = (refl, refl); unlisted = refl };
  first = record { command_is = refl; bare = (refl, refl); unlisted = refl };
  batch = record { command_is = refl; bare = (refl, refl); unlisted = refl };
}

pub lines_are : IsNumberTable lines (λ r. r.line)
lines_are = record {
  newest = has_first;
  texts = in_each shape.lines_place shape.lines texts_are;
  keyed = λ k. refl;
  first_cell = λ r. refl;
  from_one = λ r legal. legal.0.0;
  fills = λ r. single_fills shape.lines (pos r.line) (drop 1 (line_cells r)) (put_terms shape.lines) (put_shows shape.lines) 7 6 refl refl
      (ap (λ b. b && true) (optional_suits r.loan)) refl (λ there rest. refl) (λ there r new. refl) (λ id. refl);
  back = λ v. record {
    line = nat_of (column v 0);
    patron = nat_of (column v 1);
    day = nat_of (column v 2);
    sort = sort_of (nat_of (column v 3));
    amount = nat_of (column v 4);
    loan = option_of (column v 5);
  };
  back_is = λ r _ i. record { line = r.line; patron = r.patron; day = r.day; sort = sort_back r.sort i; amount = r.amount; loan = option_back r.loan i };
  rows_are = λ maps P is. is.lines;
  legal = λ P is. is.lines;
  with_rows = λ P u. record P { lines = u };
  set_is = λ P k row. refl;
  framed = λ maps P m u is held. from_list _ _
      (with_held (all_held P) shape.lines_place (λ w. IsEncoded Any number_key line_cells w u) m maps (to_list _ _ is) held);
}
