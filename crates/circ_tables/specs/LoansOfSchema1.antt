-- The loans table of schemas 1 and 2, which is empty from schema 3 on.
use Rattle.std.proofs.Common.{ap}
use Rattle.std.specs.Prelude.{ℕ, pos, true, List, drop, refl, ◌&&◌}
use Rattle.sqlite.specs.Listing.{understood}
use Rattle.sqlite.specs.Order.{column}
use Rattle.sqlite.specs.Table.{Table as SqlTable}
use Rattle.sqlite_schema.specs.declared.schema.Index.{Index}
use Rattle.sqlite_tied.specs.Compute.{everything}
use Rattle.sql_maps.proofs.FillLemmas.{single_fills}
use Rattle.terms.specs.Limits.{IsLoan1}
use Rattle.terms.specs.Pictures.{put}
use Rattle.terms.specs.declared.row.LoanRow1.{LoanRow1}
use Rattle.circ_tables.specs.Cells.{number_key, loan1_cells}
use Rattle.circ_tables.specs.Encoding.{IsEncoded, Any}
use Rattle.circ_tables.specs.TableMaps.{all_held, to_list, from_list, with_held}
use Rattle.circ_tables.specs.Numbered.{IsNumbered, IsNumberTable, grown, in_each, put_terms, put_shows, nat_of, option_of, option_back, optional_suits}
use Rattle.circ_tables.specs.Reading.{Table}
use Rattle.circ_tables.specs.Shape as shape
use Rattle.circ_tables.specs.TableSchemas.{has_first}

abbrev pub loans1 : Table ℕ LoanRow1
loans1 = record {
  shape = shape.loans1;
  place = shape.loans1_place;
  since = 1;
  key = number_key;
  cells = loan1_cells;
  IsLegal = IsLoan1;
  rows = λ P. P.loans1;
  set = λ P k row. record P { loans1 = put P.loans1 k row };
}

texts_are : (more : List SqlTable) (others : List Index) → IsNumbered (grown more others) shape.loans1_place shape.loans1
unfolding understood everything
texts_are more others = record {
  listed = refl;
  primary = refl;
  uncounted = refl;
  key_cell = λ r. refl;
  shows = λ given r. refl;
  put = record { command_is = refl; bare = (refl, refl) };
  take = record { command_is = refl; bare = (refl, refl) };
  get = record { command_is = refl; bare = (refl, refl); unlisted = refl };
  all = record { command_is = refl; bare = (refl, refl); unlisted = refl };
  first = record { command_is = refl; bare = (refl, refl); unlisted = refl };
  batch = record { command_is = refl; bare = (refl, refl); unlisted = refl };
}

pub loans1_are : IsNumberTable loans1 (λ r. r.loan)
loans1_are = record {
  newest = has_first;
  texts = in_each shape.loans1_place shape.loans1 texts_are;
  keyed = λ k. refl;
  first_cell = λ r. refl;
  from_one = λ r legal. legal.0.0;
  fills = λ r. single_fills shape.loans1 (pos r.loan) (drop 1 (loan1_cells r)) (put_terms shape.loans1)
      (put_shows shape.loans1) 12 11 refl refl (ap (λ b. b && true) (optional_suits r.ended)) refl (λ there rest. refl)
      (λ there r new. refl) (λ id. refl);
  back = λ v. record {
    loan = nat_of (column v 0);
    copy = nat_of (column v 1);
    patron = nat_of (column v 2);
    branch = nat_of (column v 3);
    made = nat_of (column v 4);
    due = nat_of (column v 5);
    period = nat_of (column v 6);
    renewals_left = nat_of (column v 7);
    rate =
        nat_of (column v 8);
    cap = nat_of (column v 9);
    ended = option_of (column v 10);
  };
  back_is = λ r _ i. record {
    loan = r.loan;
    copy = r.copy;
    patron = r.patron;
    branch = r.branch;
    made = r.made;
    due = r.due;
    period
        = r.period;
    renewals_left = r.renewals_left;
    rate = r.rate;
    cap = r.cap;
    ended = option_back r.ended i;
  };
  rows_are = λ maps P is. is.loans1;
  legal = λ P is. is.loans1;
  with_rows = λ P u. record P { loans1 = u };
  set_is = λ P k row. refl;
  framed = λ maps P m u is held. from_list _ _
      (with_held (all_held P) shape.loans1_place (λ w. IsEncoded Any number_key loan1_cells w u) m maps (to_list _ _ is) held);
}
