-- Libraries of older schemas: their commands, lines, fines, legal histories, and table rows.
use Rattle.std.specs.Prelude.{◌≡◌, ℕ, suc, zero, ◌*◌, min, Bool, true, false, IsTrue, List, [], ◌∷◌, Option, Some, None, option_map}
use Rattle.terms.specs.declared.command.Command.{Command}
use Rattle.terms.specs.declared.command.Command.TheVariants.{PlaceHold, Grace, CopyBarcode, PatronBarcode, DropBarcode, Charge, PayAt}
use Rattle.terms.specs.declared.row.RuleRow.{RuleRow}
use Rattle.terms.specs.declared.row.RuleRow1.{RuleRow1}
use Rattle.terms.specs.declared.row.LoanRow.{LoanRow}
use Rattle.terms.specs.declared.row.LoanRow1.{LoanRow1}
use Rattle.terms.specs.declared.row.HoldRow.{HoldRow}
use Rattle.terms.specs.declared.row.HoldRow1.{HoldRow1}
use Rattle.terms.specs.Limits.{InLimits, ClosesFewDays}
use Rattle.terms.specs.Money.{fine_for}
use Rattle.terms.specs.Schemas.{IsOfSchema1, IsOfSchema2, IsOfSchema3, led_to_2, led_to_3, led_to_4}
use Rattle.terms.specs.declared.row.HoldState.{HoldState}
use Rattle.terms.specs.declared.command.Owner.{Owner}
use Rattle.model.specs.History.{History}
use Rattle.model.specs.Places.{Place, Nowhere, place, place_after, state_after, limit_after_by}
use Rattle.model.specs.Accounts.{Line, posting, lines_then}
use Rattle.model.specs.Sights.{Sight, sight}
use Rattle.model.specs.Checks.{first_failing}
use Rattle.model.specs.Refusals.{checks_by}
use Rattle.model.specs.Answers.{accepted_by, answer_by, answer}
use Rattle.model.specs.Requests.{Kept, kept_after, kept_of, IsAcceptedBy, IsLegal}
use Rattle.model.specs.Picture.{Picture, picture, meta_row, rule_row, loan_row, hold_row}

-- ---- histories of an older schema

-- Each command of the history is one of these.
abbrev pub AreOf : (Command → Bool) → History → Type 0
AreOf is_of [] = Unit {0}
AreOf is_of (e ∷ H) = IsTrue (is_of e.command) × AreOf is_of H

-- What was kept for an owner's key, by the sights of that schema.
abbrev pub kept_of_by : (History → Sight) → History → Owner → List ℕ → Option Kept
kept_of_by sight_of [] o k = None
kept_of_by sight_of (e ∷ H) o k = kept_after e (accepted_by H (sight_of H) e.command) o k (kept_of_by sight_of H o k)

-- Each event of a legal history was a command of that schema, accepted after the history before it by its
-- sight.
abbrev pub IsLegalBy : (Command → Bool) → (History → Sight) → History → Type 0
IsLegalBy is_of sight_of [] = Unit {0}
IsLegalBy is_of sight_of (e ∷ H) =
    IsTrue (is_of e.command)
    × IsAcceptedBy e H (first_failing (checks_by H (sight_of H) e.owner e.command)) (kept_of_by sight_of H e.owner e.key)
    × IsLegalBy is_of sight_of H

-- A history that was legal is legal, shows what it showed, and every command gets the same answer.
pub record StandsStill (is_of : Command → Bool) (sight_of : History → Sight) (H : History) : Type 0 where
  pub legal : IsLegal H
  pub of_schema : AreOf is_of H
  pub shows : sight_of H ≡ sight H
  pub kept : (o : Owner) (k : List ℕ) → kept_of_by sight_of H o k ≡ kept_of H o k
  pub answers : (o : Owner) (c : Command) → answer_by H (sight_of H) o c ≡ answer H o c

abbrev pub OldListsStand : (Command → Bool) → (History → Sight) → Type 0
OldListsStand is_of sight_of = (H : History) → IsLegalBy is_of sight_of H → StandsStill is_of sight_of H

-- ---- schema 3

-- A command of schema 3: nothing had a barcode, and there were neither charges nor counters.
abbrev pub is_of_schema_3 : Command → Bool
is_of_schema_3 (CopyBarcode c barcode) = false
is_of_schema_3 (PatronBarcode p barcode) = false
is_of_schema_3 (DropBarcode barcode) = false
is_of_schema_3 (Charge p n b text) = false
is_of_schema_3 (PayAt p n b) = false
is_of_schema_3 _ = true

abbrev pub AreOfSchema3 : History → Type 0
AreOfSchema3 = AreOf is_of_schema_3

-- What a history showed: what it shows today.
abbrev pub sight3 : History → Sight
sight3 = sight

abbrev pub IsLegal3 : History → Type 0
IsLegal3 = IsLegalBy is_of_schema_3 sight3

-- ---- schema 2

-- A command of schema 2: no rule had grace days either.
abbrev pub is_of_schema_2 : Command → Bool
is_of_schema_2 (Grace k c days) = false
is_of_schema_2 x = is_of_schema_3 x

abbrev pub AreOfSchema2 : History → Type 0
AreOfSchema2 = AreOf is_of_schema_2

-- The fines of schemas 1 and 2 had no grace days: each open day late cost the rate.
abbrev pub no_grace : ℕ → ℕ
no_grace l = 0

-- Without grace days the fine is theirs.
abbrev pub FinesWithoutGrace : Type 0
FinesWithoutGrace = (days rate cap : ℕ) → fine_for days rate cap 0 ≡ min (days * rate) cap

-- The lines of all accounts.
abbrev pub lines2 : History → List Line
lines2 [] = []
lines2 (e ∷ H) = lines_then H (place H) no_grace (posting e.command) (lines2 H)

-- What a history showed.
abbrev pub sight2 : History → Sight
sight2 H = record (sight H) { grace = no_grace; lines = lines2 H }

abbrev pub IsLegal2 : History → Type 0
IsLegal2 = IsLegalBy is_of_schema_2 sight2

-- ---- schema 1

-- A command of schema 1: no hold had a first day either.
abbrev pub is_of_schema_1 : Command → Bool
is_of_schema_1 (PlaceHold p t b (Some d)) = false
is_of_schema_1 x = is_of_schema_2 x

abbrev pub AreOfSchema1 : History → Type 0
AreOfSchema1 = AreOf is_of_schema_1

-- The line of schema 1 ignored first days: a hold stood in it as soon as it was placed.
abbrev pub begun_at_once : ℕ → Bool
begun_at_once h = true

abbrev mutual
  -- Where a copy was.
  pub place1 : History → ℕ → Place
  place1 [] c = Nowhere
  place1 (e ∷ H) c = place_after H (place1 H) (state1 H) begun_at_once e.command c

  -- The state of a hold.
  pub state1 : History → ℕ → Option HoldState
  state1 [] h = None
  state1 (e ∷ H) h = state_after H (place1 H) (state1 H) begun_at_once e.command h

-- The shelf limit of a hold.
abbrev pub limit1 : History → ℕ → Option ℕ
limit1 [] h = None
limit1 (e ∷ H) h = limit_after_by H (place1 H) (state1 H) begun_at_once e.command h (limit1 H h)

-- The lines of all accounts.
abbrev pub lines1 : History → List Line
lines1 [] = []
lines1 (e ∷ H) = lines_then H (place1 H) no_grace (posting e.command) (lines1 H)

-- What a history showed.
abbrev pub sight1 : History → Sight
sight1 H = record { place = place1 H; state = state1 H; begun = begun_at_once; limit = limit1 H; grace = no_grace; lines = lines1 H }

abbrev pub IsLegal1 : History → Type 0
IsLegal1 = IsLegalBy is_of_schema_1 sight1

-- Each history of schema 1 is one of schema 2, and each of schema 2 one of schema 3.
abbrev pub Schema1IsWithinSchema2 : Type 0
Schema1IsWithinSchema2 = (H : History) → AreOfSchema1 H → AreOfSchema2 H

abbrev pub Schema2IsWithinSchema3 : Type 0
Schema2IsWithinSchema3 = (H : History) → AreOfSchema2 H → AreOfSchema3 H

-- ---- tables

-- The columns of a rule and of a loan in schemas 1 and 2: all but the grace days.
abbrev pub rule1_columns : RuleRow → RuleRow1
rule1_columns r = record { kind = r.kind; copy_kind = r.copy_kind; period = r.period; renewals = r.renewals; rate = r.rate; cap = r.cap }

abbrev pub loan1_columns : LoanRow → LoanRow1
loan1_columns r =
    record {
      loan = r.loan;
      copy = r.copy;
      patron = r.patron;
      branch = r.branch;
      made = r.made;
      due = r.due;
      period = r.period;
      renewals_left = r.renewals_left;
      rate = r.rate;
      cap = r.cap;
      ended = r.ended;
    }

-- The columns of a hold in schema 1: all but the first day.
abbrev pub hold1_columns : HoldRow → HoldRow1
hold1_columns r = record { hold = r.hold; patron = r.patron; title = r.title; branch = r.branch; state = r.state; copy = r.copy; limit_day = r.limit_day }

-- The row of a rule.
abbrev pub rule_row1 : History → ℕ → ℕ → Option RuleRow1
rule_row1 H k c = option_map rule1_columns (rule_row H k c)

-- The row of a loan.
abbrev pub loan_row1 : History → ℕ → Option LoanRow1
loan_row1 H l = option_map loan1_columns (loan_row H l)

-- The row of a hold.
abbrev pub hold_row1 : History → ℕ → Option HoldRow1
hold_row1 H h = option_map hold1_columns (hold_row H h)

-- The tables of schema 3: there are no barcodes and no notes, every other row is as in the newest schema.
abbrev pub picture3 : History → Picture
picture3 H = record (picture H) { meta = record (meta_row H) { schema = 3 }; barcodes = λ _. None; notes = λ _. None }

-- The tables of schema 2: rules and loans stand in its own tables, every other row is as in schema 3.
abbrev pub picture2 : History → Picture
picture2 H = record (picture3 H) {
  meta = record (meta_row H) { schema = 2 };
  rules = λ _ _. None;
  rules1 = rule_row1 H;
  loans = λ _. None;
  loans1 = loan_row1 H;
}

-- The tables of schema 1: holds stand in its own table, every other row is as in schema 2.
abbrev pub picture1 : History → Picture
picture1 H = record (picture2 H) { meta = record (meta_row H) { schema = 1 }; holds = λ _. None; holds1 = hold_row1 H }

-- A history that was legal with schema n, and its tables.
abbrev pub IsLegalAt : ℕ → History → Type 0
IsLegalAt (suc zero) H = IsLegal1 H
IsLegalAt (suc (suc zero)) H = IsLegal2 H
IsLegalAt (suc (suc (suc zero))) H = IsLegal3 H
IsLegalAt _ H = IsLegal H

abbrev pub picture_at : ℕ → History → Picture
picture_at (suc zero) H = picture1 H
picture_at (suc (suc zero)) H = picture2 H
picture_at (suc (suc (suc zero))) H = picture3 H
picture_at _ H = picture H

-- The tables of an older schema become those of the next, and keep the same limits.
pub record IsLed (old : Picture) (led_to : Picture → Picture) (new : Picture) : Type 0 where
  pub led : led_to old ≡ new
  pub limits : InLimits new → InLimits old
  pub closed_days : ClosesFewDays new → ClosesFewDays old

-- This holds after every history of the older schema's commands, with both schemas' tables after that same
-- history.
abbrev pub OldTablesAreLed : Type 0
OldTablesAreLed = (H : History)
    → (AreOfSchema1 H → IsOfSchema1 (picture1 H) × IsLed (picture1 H) led_to_2 (picture2 H))
    × (AreOfSchema2 H → IsOfSchema2 (picture2 H) × IsLed (picture2 H) led_to_3 (picture3 H))
    × (AreOfSchema3 H → IsOfSchema3 (picture3 H) × IsLed (picture3 H) led_to_4 (picture H))
