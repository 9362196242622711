-- How the tables of one schema become those of the next.
use Rattle.std.specs.Prelude.{◌≡◌, ℕ, zero, suc, None, option_map}
use Rattle.terms.specs.declared.row.RuleRow.{RuleRow}
use Rattle.terms.specs.declared.row.RuleRow1.{RuleRow1}
use Rattle.terms.specs.declared.row.LoanRow.{LoanRow}
use Rattle.terms.specs.declared.row.LoanRow1.{LoanRow1}
use Rattle.terms.specs.declared.row.HoldRow.{HoldRow}
use Rattle.terms.specs.declared.row.HoldRow1.{HoldRow1}
use Rattle.terms.specs.declared.row.Thing.{Thing}
use Rattle.terms.specs.Pictures.{Picture}

-- A hold of schema 1 in schema 2: without a first day.
abbrev pub carried : HoldRow1 → HoldRow
carried r = record {
  hold = r.hold;
  patron = r.patron;
  title = r.title;
  branch = r.branch;
  state = r.state;
  copy = r.copy;
  limit_day
      = r.limit_day;
  first_day = None;
}

-- A rule and a loan of schema 2 in schema 3: without grace days.
abbrev pub carried_rule : RuleRow1 → RuleRow
carried_rule r = record { kind = r.kind; copy_kind = r.copy_kind; period = r.period; renewals = r.renewals; rate = r.rate; cap = r.cap; grace = 0 }

abbrev pub carried_loan : LoanRow1 → LoanRow
carried_loan r =
    record {
      loan = r.loan;
      copy = r.copy;
      patron = r.patron;
      branch = r.branch;
      made = r.made;
      due = r.due;
      period = r.period;
      renewals_left = r.renewals_left;
      rate = r.rate;
      cap = r.cap;
      ended = r.ended;
      grace = 0;
    }

-- No row is in the tables that come with schema 4.
pub record HasNoLabels (P : Picture) : Type 0 where
  pub barcodes : (t : Thing) → P.barcodes t ≡ None
  pub notes : (n : ℕ) → P.notes n ≡ None

-- The tables are those of a library of schema 3, and `meta` says so.
pub record IsOfSchema3 (P : Picture) : Type 0 where
  pub names : P.meta.schema ≡ 3
  pub later_labels : HasNoLabels P

-- They are those of a library of schema 2.
pub record IsOfSchema2 (P : Picture) : Type 0 where
  pub names : P.meta.schema ≡ 2
  pub later_rules : (k c : ℕ) → P.rules k c ≡ None
  pub later_loans : (l : ℕ) → P.loans l ≡ None
  pub later_labels : HasNoLabels P

-- They are those of a library of schema 1.
pub record IsOfSchema1 (P : Picture) : Type 0 where
  pub names : P.meta.schema ≡ 1
  pub later : (h : ℕ) → P.holds h ≡ None
  pub later_rules : (k c : ℕ) → P.rules k c ≡ None
  pub later_loans : (l : ℕ) → P.loans l ≡ None
  pub later_labels : HasNoLabels P

-- The tables of schema 1, migrated to schema 2: each hold is carried over, and no other row is changed but
-- that of `meta`, which names the schema.
abbrev pub led_to_2 : Picture → Picture
led_to_2 P = record P { meta = record P.meta { schema = 2 }; holds = λ h. option_map carried (P.holds1 h); holds1 = λ _. None }

-- The tables of schema 2, migrated to schema 3: each rule and each loan is carried over.
abbrev pub led_to_3 : Picture → Picture
led_to_3 P =
    record P {
      meta = record P.meta { schema = 3 };
      rules = λ k c. option_map carried_rule (P.rules1 k c);
      rules1 = λ _ _. None;
      loans = λ l. option_map carried_loan (P.loans1 l);
      loans1 = λ _. None;
    }

-- The tables of schema 3, migrated to schema 4: no row is changed but that of `meta`.
abbrev pub led_to_4 : Picture → Picture
led_to_4 P = record P { meta = record P.meta { schema = 4 }; barcodes = λ _. None; notes = λ _. None }

-- The tables are those of a library of schema n.
abbrev pub IsOfSchema : ℕ → Picture → Type 0
IsOfSchema (suc zero) P = IsOfSchema1 P
IsOfSchema (suc (suc zero)) P = IsOfSchema2 P
IsOfSchema (suc (suc (suc zero))) P = IsOfSchema3 P
IsOfSchema n P = P.meta.schema ≡ n

-- The tables of schema n, migrated by one step, and by this many.
abbrev pub led_on : ℕ → Picture → Picture
led_on (suc zero) P = led_to_2 P
led_on (suc (suc zero)) P = led_to_3 P
led_on (suc (suc (suc zero))) P = led_to_4 P
led_on _ P = P

abbrev pub led_by : ℕ → ℕ → Picture → Picture
led_by zero n P = P
led_by (suc steps) n P = led_by steps (suc n) (led_on n P)
