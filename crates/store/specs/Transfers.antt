-- The tables that a step carries over, each with its next one.
use Rattle.std.proofs.Common.{◌≡◌, ℕ, ◌==◌, ◌&&◌, true, refl, ap, ap₂, arith}
use Rattle.std.proofs.lemmas.Bool.{eq-eqb, and_parts}
use Rattle.std.proofs.lemmas.Bool.Decides.{Decides-eqb}
use Rattle.terms.specs.Schemas.{carried, carried_rule, carried_loan}
use Rattle.terms.specs.declared.row.RuleRow.{RuleRow}
use Rattle.terms.specs.declared.row.RuleRow1.{RuleRow1}
use Rattle.terms.specs.declared.row.LoanRow.{LoanRow}
use Rattle.terms.specs.declared.row.LoanRow1.{LoanRow1}
use Rattle.terms.specs.declared.row.HoldRow.{HoldRow}
use Rattle.terms.specs.declared.row.HoldRow1.{HoldRow1}
use Rattle.circ_tables.specs.Encoding.{Pair}
use Rattle.circ_tables.specs.Holds.{holds}
use Rattle.circ_tables.specs.HoldsOfSchema1.{holds1}
use Rattle.circ_tables.specs.Loans.{loans}
use Rattle.circ_tables.specs.LoansOfSchema1.{loans1}
use Rattle.circ_tables.specs.Rules.{rules}
use Rattle.circ_tables.specs.RulesOfSchema1.{rules1}
use Rattle.sql_maps.proofs.MapLemmas.{same_keys}
use Rattle.circ_tables.specs.Cells.{number_key, pair_key}
use Rattle.store.specs.Carrying.{Transfer, IsTransfer}

number_keys : (j k : ℕ) → number_key j ≡ number_key k → j ≡ k
number_keys j k same = cc

pair_keys : (j k : Pair) → pair_key j.0 j.1 ≡ pair_key k.0 k.1 → j ≡ k
pair_keys j k same =
    let first : j.0 ≡ k.0 = cc in
    let second : j.1 ≡ k.1 = cc in
    λ i. (first i, second i)

pair_met : (j k : Pair) → ((j.0 == k.0) && (j.1 == k.1)) ≡ true → j ≡ k
pair_met j k same =
    let parts = and_parts (j.0 == k.0) (j.1 == k.1) same in
    let first = (Decides-eqb j.0 k.0).0 parts.0 in
    let second = (Decides-eqb j.1 k.1).0 parts.1 in
    λ i. (first i, second i)

-- The holds of schema 1 become those of schema 2.
abbrev pub holds_transfer : Transfer ℕ HoldRow1 HoldRow
holds_transfer = record {
  key_of = λ r. r.hold;
  new_key = λ r. r.hold;
  same = λ j k. j == k;
  carried = carried;
  with_both = λ P f g. record P { holds = g; holds1 = f };
}

pub holds_carried : IsTransfer holds1 holds holds_transfer
holds_carried = record {
  there = (omega arith, omega arith);
  was_there = (omega arith, omega arith);
  apart = refl;
  own = λ k. eq-eqb k k refl;
  met = λ j k same. (Decides-eqb j k).0 same;
  same = λ P. refl;
  old_rows = λ P f g. refl;
  taken = λ P f g k. refl;
  put_in = λ P f g k n. refl;
  key_is = λ r. refl;
  keys = number_keys;
  own_keys = λ k. (same_keys (number_key k) refl, same_keys (number_key k) refl);
  legal = λ r is. (is.0, is.1, is.2, is.3, is.4, is.5, tt);
  limits = λ P f g is old new. record {
    meta = is.meta;
    branches = is.branches;
    closed_days = is.closed_days;
    kinds = is.kinds;
    rules = is.rules;
    rules1 = is.rules1;
    patrons = is.patrons;
    titles = is.titles;
    copies = is.copies;
    loans = is.loans;
    loans1 = is.loans1;
    holds = new;
    holds1 = old;
    transits = is.transits;
    lines = is.lines;
    kept = is.kept;
    barcodes = is.barcodes;
    notes = is.notes;
  };
}

-- The loans of schema 2 become those of schema 3.
abbrev pub loans_transfer : Transfer ℕ LoanRow1 LoanRow
loans_transfer = record {
  key_of = λ r. r.loan;
  new_key = λ r. r.loan;
  same = λ j k. j == k;
  carried = carried_loan;
  with_both = λ P f g. record P { loans = g; loans1 = f };
}

pub loans_carried : IsTransfer loans1 loans loans_transfer
loans_carried = record {
  there = (omega arith, omega arith);
  was_there = (omega arith, omega arith);
  apart = refl;
  own = λ k. eq-eqb k k refl;
  met = λ j k same. (Decides-eqb j k).0 same;
  same = λ P. refl;
  old_rows = λ P f g. refl;
  taken = λ P f g k. refl;
  put_in = λ P f g k n. refl;
  key_is = λ r. refl;
  keys = number_keys;
  own_keys = λ k. (same_keys (number_key k) refl, same_keys (number_key k) refl);
  legal = λ r is. (is.0, is.1, is.2, is.3, is.4, is.5, is.6, is.7, is.8, is.9, is.10, omega arith);
  limits = λ P f g is old new. record {
    meta = is.meta;
    branches = is.branches;
    closed_days = is.closed_days;
    kinds = is.kinds;
    rules = is.rules;
    rules1 = is.rules1;
    patrons = is.patrons;
    titles = is.titles;
    copies = is.copies;
    loans = new;
    loans1 = old;
    holds = is.holds;
    holds1 = is.holds1;
    transits = is.transits;
    lines = is.lines;
    kept = is.kept;
    barcodes = is.barcodes;
    notes = is.notes;
  };
}

-- So do the rules.
abbrev pub rules_transfer : Transfer Pair RuleRow1 RuleRow
rules_transfer = record {
  key_of = λ r. (r.kind, r.copy_kind);
  new_key = λ r. (r.kind, r.copy_kind);
  same = λ a b. (a.0 == b.0)
      && (a.1 == b.1);
  carried = carried_rule;
  with_both = λ P f g. record P { rules = λ k c. g (k, c); rules1 = λ k c. f (k, c) };
}

pub rules_carried : IsTransfer rules1 rules rules_transfer
rules_carried = record {
  there = (omega arith, omega arith);
  was_there = (omega arith, omega arith);
  apart = refl;
  own = λ k. ap₂ (λ a b. a && b) (eq-eqb k.0 k.0 refl) (eq-eqb k.1 k.1 refl);
  met = pair_met;
  same = λ P. refl;
  old_rows = λ P f g. refl;
  taken = λ P f g k. refl;
  put_in = λ P f g k n. refl;
  key_is = λ r. refl;
  keys = pair_keys;
  own_keys = λ k. (same_keys (pair_key k.0 k.1) refl, same_keys (pair_key k.0 k.1) refl);
  legal = λ r is. (is.0, is.1, is.2, is.3, is.4, is.5, omega arith);
  limits = λ P f g is old new. record {
    meta = is.meta;
    branches = is.branches;
    closed_days = is.closed_days;
    kinds = is.kinds;
    rules = λ k c r e. let it = new (k, c) r e in (ap (λ (q : Pair). q.0) it.0, ap (λ (q : Pair). q.1) it.0, it.1);
    rules1 = λ k c r e. let it = old (k, c) r e in (ap (λ (q : Pair). q.0) it.0, ap (λ (q : Pair). q.1) it.0, it.1);
    patrons = is.patrons;
    titles = is.titles;
    copies = is.copies;
    loans = is.loans;
    loans1 = is.loans1;
    holds = is.holds;
    holds1 = is.holds1;
    transits = is.transits;
    lines = is.lines;
    kept = is.kept;
    barcodes = is.barcodes;
    notes = is.notes;
  };
}
