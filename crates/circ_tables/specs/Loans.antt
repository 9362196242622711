-- The table of loans, which exists from schema 3 on.
use Rattle.std.proofs.Common.{ap}
use Rattle.std.specs.Prelude.{ℕ, pos, true, List, [], drop, refl, ◌&&◌}
use Rattle.sqlite.specs.Kind.TheVariants.{Integer}
use Rattle.sqlite.specs.Listing.{understood}
use Rattle.sqlite.specs.Order.{column}
use Rattle.sqlite.specs.Table.{Table as SqlTable}
use Rattle.sqlite_schema.specs.declared.schema.Index.{Index}
use Rattle.sqlite_tied.specs.Compute.{everything}
use Rattle.sql_maps.proofs.FillLemmas.{single_fills, suits_kind}
use Rattle.terms.specs.Limits.{IsLoan}
use Rattle.terms.specs.Pictures.{put}
use Rattle.terms.specs.declared.row.LoanRow.{LoanRow}
use Rattle.circ_tables.specs.Cells.{number, number_key, loan_cells}
use Rattle.circ_tables.specs.Encoding.{IsEncoded, Any}
use Rattle.circ_tables.specs.TableMaps.{all_held, to_list, from_list, with_held}
use Rattle.circ_tables.specs.Numbered.{IsNumbered, IsNumberTable, grown_from, put_terms, put_shows, nat_of, option_of, option_back, optional_suits}
use Rattle.circ_tables.specs.Reading.{Table}
use Rattle.circ_tables.specs.Shape as shape
use Rattle.circ_tables.specs.TableSchemas.{has_third, since_third}

abbrev pub loans : Table ℕ LoanRow
loans = record {
  shape = shape.loans;
  place = shape.loans_place;
  since = 3;
  key = number_key;
  cells = loan_cells;
  IsLegal = IsLoan;
  rows = λ P. P.loans;
  set = λ P k row. record P { loans = put P.loans k row };
}

texts_are : (more : List SqlTable) (others : List Index) → IsNumbered (grown_from shape.third more others) shape.loans_place shape.loans
unfolding understood everything
texts_are more others = record {
  listed = refl;
  primary = refl;
  uncounted = refl;
  key_cell = λ r. refl;
  shows = λ given r. refl;
  put = record { command_is = refl; bare = (refl, refl) };
  take = record { command_is = refl; bare = (refl, refl) };
  get = record { command_is = refl; bare = (refl, refl); unlisted = refl };
  all = record { command_is = refl; bare = (refl, refl); unlisted = refl };
  first = record { command_is = refl; bare = (refl, refl); unlisted = refl };
  batch = record { command_is = refl; bare = (refl, refl); unlisted = refl };
}

pub loans_are : IsNumberTable loans (λ r. r.loan)
loans_are = record {
  newest = has_third;
  texts = since_third (λ n. IsNumbered (shape.schema_at n) shape.loans_place shape.loans) (texts_are [] [])
      (texts_are (shape.tables_after shape.third 4) (shape.indexes_after shape.third 4));
  keyed = λ k. refl;
  first_cell = λ r. refl;
  from_one = λ r legal. legal.0.0;
  fills = λ r. single_fills shape.loans (pos r.loan) (drop 1 (loan_cells r)) (put_terms shape.loans) (put_shows shape.loans) 13 12 refl refl
      (ap (λ b. b && (suits_kind Integer (number r.grace) && true)) (optional_suits r.ended)) refl (λ there rest. refl)
      (λ there r new. refl) (λ id. refl);
  back = λ v. record {
    loan = nat_of (column v 0);
    copy = nat_of (column v 1);
    patron = nat_of (column v 2);
    branch = nat_of (column v 3);
    made = nat_of (column v 4);
    due = nat_of (column v 5);
    period = nat_of (column v 6);
    renewals_left = nat_of (column v 7);
    rate =
        nat_of (column v 8);
    cap = nat_of (column v 9);
    ended = option_of (column v 10);
    grace = nat_of (column v 11);
  };
  back_is = λ r _ i. record {
    loan = r.loan;
    copy = r.copy;
    patron = r.patron;
    branch = r.branch;
    made = r.made;
    due = r.due;
    period
        = r.period;
    renewals_left = r.renewals_left;
    rate = r.rate;
    cap = r.cap;
    ended = option_back r.ended i;
    grace = r.grace;
  };
  rows_are = λ maps P is. is.loans;
  legal = λ P is. is.loans;
  with_rows = λ P u. record P { loans = u };
  set_is = λ P k row. refl;
  framed = λ maps P m u is held. from_list _ _
      (with_held (all_held P) shape.loans_place (λ w. IsEncoded Any number_key loan_cells w u) m maps (to_list _ _ is) held);
}
