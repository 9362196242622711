-- Lists that were legal with an older schema still are, and its tables are migrated to the next, with every
-- rule, loan and hold unchanged.
use Rattle.std.proofs.Common.{◌≡◌, ℕ, ◌*◌, ◌≤◌, ◌==◌, ◌&&◌, nat_le, Bool, true, false, cond, List, [], ◌∷◌, ◌++◌, refl, sym, ◌∙◌, ap, arith, subst}
use Rattle.std.specs.Prelude.{Option, Some, None, option_map, option_and_then, unwrap_or, IsTrue, min}
use Rattle.std.proofs.lemmas.Bool.{leb-true}
use Rattle.terms.specs.declared.command.Command.{Command}
use Rattle.terms.specs.declared.command.Command.TheVariants.{Rule, Grace, CheckOut, PlaceHold, CheckIn, Missing, Pay, Waive}
use Rattle.terms.specs.declared.command.Command.TheVariants.{CopyBarcode, PatronBarcode, Charge, PayAt}
use Rattle.terms.specs.declared.row.Sort.TheVariants.{Payment, Waiver}
use Rattle.terms.specs.declared.row.Thing.{Thing}
use Rattle.terms.specs.declared.row.RuleRow1.{RuleRow1}
use Rattle.terms.specs.declared.row.LoanRow1.{LoanRow1}
use Rattle.terms.specs.declared.row.HoldRow1.{HoldRow1}
use Rattle.terms.specs.declared.row.HoldState.{HoldState}
use Rattle.terms.specs.Limits.{InLimits, IsRule1, IsLoan1, IsHold1}
use Rattle.terms.specs.Schemas.{IsOfSchema1, IsOfSchema2, IsOfSchema3, carried, carried_rule, carried_loan, led_to_2, led_to_3, led_to_4}
use Rattle.model.specs.History.{Event, History, Terms, rule_of, rule_after, PatronFacts, patron_of, CopyFacts, copy_of, next_loan}
use Rattle.model.specs.History.{HoldFacts, has_begun, hold_made, hold_of, hold_after, next_hold, today, labelling, barcode_after, barcode_of}
use Rattle.model.specs.Places.{place, place_after, state, state_after, kept_for, limit, limit_after_by, first_day_of, is_begun}
use Rattle.model.specs.Loans.{LoanFacts, loan_of, loan_after, terms_for, no_terms, grace_of}
use Rattle.model.specs.Picture.{picture, rule_row, rule_columns, loan_row, loan_columns, hold_row, hold_with, hold_by, note_row}
use Rattle.model.specs.Schemas.{AreOf, kept_of_by, IsLegalBy, OldListsStand, is_of_schema_2, AreOfSchema2, IsLegal2, no_grace}
use Rattle.model.specs.Schemas.{FinesWithoutGrace, lines2, sight2, is_of_schema_1, AreOfSchema1, begun_at_once, place1, state1, limit1}
use Rattle.model.specs.Schemas.{lines1, sight1, Schema1IsWithinSchema2, rule1_columns, loan1_columns, hold1_columns, picture1, picture2}
use Rattle.model.specs.Schemas.{OldTablesAreLed, is_of_schema_3, AreOfSchema3, IsLegal3, sight3, picture3, Schema2IsWithinSchema3}
use Rattle.model.specs.Accounts.{posting, lines, lines_then, lines_after, line_of, fine_line, price_line}
use Rattle.model.specs.Sights.{Sight, sight}
use Rattle.model.specs.Checks.{first_failing}
use Rattle.model.specs.Refusals.{checks_by}
use Rattle.model.specs.Answers.{accepted_by, answer_by}
use Rattle.model.specs.Requests.{kept_after, kept_of, IsAcceptedBy, IsAccepted, IsLegal}
use Rattle.terms.specs.declared.command.Owner.{Owner}
use Rattle.model.proofs.ClaimsLaw.{map-some}
use Rattle.model.proofs.SettingRanges.{none-some, set-if}
use Rattle.model.proofs.Unnoted.{AreUnnoted, unnoted-append, unnoted-line, unnoted-fine, unnoted-price, no-note-in}

-- ---- lists that show what they showed stand

module _ (is_of : Command → Bool) (sight_of : History → Sight) (same : (H : History) → AreOf is_of H → sight_of H ≡ sight H) where
  are-of : (H : History) → IsLegalBy is_of sight_of H → AreOf is_of H
  are-of [] legal = tt
  are-of (e ∷ H) legal = (legal.0, are-of H legal.2)

  kept-same : (H : History) → AreOf is_of H → (o : Owner) (k : List ℕ) → kept_of_by sight_of H o k ≡ kept_of H o k
  kept-same [] old o k = refl
  kept-same (e ∷ H) old o k =
      let shown = same H old.1 in
      let before = kept-same H old.1 o k in
      λ i. kept_after e (accepted_by H (shown i) e.command) o k (before i)

  accepted-still : (e : Event) (H : History) → AreOf is_of H
      → IsAcceptedBy e H (first_failing (checks_by H (sight_of H) e.owner e.command)) (kept_of_by sight_of H e.owner e.key) → IsAccepted e H
  accepted-still e H old was = record {
    changes = was.changes;
    enrolled = was.enrolled;
    allowed = was.allowed;
    unrefused = ap (λ s. first_failing (checks_by H s e.owner e.command)) (sym (same H old)) ∙ was.unrefused;
    fresh = sym (kept-same H old e.owner e.key) ∙ was.fresh;
  }

  legal-still : (H : History) → IsLegalBy is_of sight_of H → IsLegal H
  legal-still [] legal = tt
  legal-still (e ∷ H) legal = (accepted-still e H (are-of H legal.2) legal.1, legal-still H legal.2)

  accepted-back : (e : Event) (H : History) → AreOf is_of H → IsAccepted e H
      → IsAcceptedBy e H (first_failing (checks_by H (sight_of H) e.owner e.command)) (kept_of_by sight_of H e.owner e.key)
  accepted-back e H old is = record {
    changes = is.changes;
    enrolled = is.enrolled;
    allowed = is.allowed;
    unrefused = ap (λ s. first_failing (checks_by H s e.owner e.command)) (same H old) ∙ is.unrefused;
    fresh = kept-same H old e.owner e.key ∙ is.fresh;
  }

  -- A legal list of its commands was legal with it.
  legal-back : (H : History) → AreOf is_of H → IsLegal H → IsLegalBy is_of sight_of H
  legal-back [] old legal = tt
  legal-back (e ∷ H) old legal = (old.0, accepted-back e H old.1 legal.0, legal-back H old.1 legal.1)

  lists-stand : OldListsStand is_of sight_of
  lists-stand H legal =
      let old = are-of H legal in
      record {
        legal = legal-still H legal;
        of_schema = old;
        shows = same H old;
        kept = kept-same H old;
        answers = λ o c. ap (λ s. answer_by H s o c) (same H old);
      }

-- ---- lists of schema 3

-- A list that was legal with schema 3 is legal, with the same answers.
pub stands-3 : OldListsStand is_of_schema_3 sight3
stands-3 = lists-stand is_of_schema_3 sight3 (λ H old. refl)

-- A legal list of commands of schema 3 was legal with it.
pub legal-3 : (H : History) → AreOfSchema3 H → IsLegal H → IsLegal3 H
legal-3 = legal-back is_of_schema_3 sight3 (λ H old. refl)

-- ---- no loan of schema 2 has grace days

rule-plain-by : (H : History) (x : Command) (k c : ℕ) → IsTrue (is_of_schema_2 x) → ((t : Terms) → rule_of H k c ≡ Some t → t.grace ≡ 0)
    → (t : Terms) → rule_after x k c (rule_of H k c) ≡ Some t → t.grace ≡ 0
rule-plain-by H (Rule n m period renewals rate most) k c old before t e =
    set-if (λ q. q.grace ≡ 0) ((n == k) && (m == c)) (record { period = period; renewals = renewals; rate = rate; cap = most; grace = 0 })
    (rule_of H k c) (λ _. refl) before t e
rule-plain-by H (Grace n m days) k c old before t e = let never : ⊥ = cc in absurd never
rule-plain-by H _ k c old before t e = before t e

rule-plain : (H : History) → AreOfSchema2 H → (k c : ℕ) (t : Terms) → rule_of H k c ≡ Some t → t.grace ≡ 0
rule-plain [] old k c t e = absurd (none-some t e)
rule-plain (e ∷ H) old k c t f = rule-plain-by H e.command k c old.0 (rule-plain H old.1 k c) t f

terms-plain : (H : History) (p c : ℕ) → AreOfSchema2 H → (unwrap_or (terms_for H p c) no_terms).grace ≡ 0
terms-plain H p c old = go (patron_of H p) (copy_of H c)
  where
    of_rule : (k m : ℕ) (y : Option Terms) → rule_of H k m ≡ y → (unwrap_or y no_terms).grace ≡ 0
    of_rule k m (Some t) e = rule-plain H old k m t e
    of_rule k m None e = refl

    go : (x : Option PatronFacts) (y : Option CopyFacts)
        → (unwrap_or (option_and_then (λ q. option_and_then (λ r. rule_of H q.kind r.kind) y) x) no_terms).grace ≡ 0
    go (Some q) (Some r) = of_rule q.kind r.kind (rule_of H q.kind r.kind) refl
    go (Some q) None = refl
    go None y = refl

loan-plain-by : (H : History) (x : Command) (l : ℕ) → AreOfSchema2 H → ((r : LoanFacts) → loan_of H l ≡ Some r → r.terms.grace ≡ 0)
    → (r : LoanFacts) → loan_after H x l (loan_of H l) ≡ Some r → r.terms.grace ≡ 0
loan-plain-by H (CheckOut p c b) l old before r e =
    set-if (λ q. q.terms.grace ≡ 0) (next_loan H == l)
    (record { copy = c; patron = p; branch = b; made = today H; terms = unwrap_or (terms_for H p c) no_terms }) (loan_of H l)
    (λ _. terms-plain H p c old) before r e
loan-plain-by H _ l old before r e = before r e

loan-plain : (H : History) → AreOfSchema2 H → (l : ℕ) (r : LoanFacts) → loan_of H l ≡ Some r → r.terms.grace ≡ 0
loan-plain [] old l r e = absurd (none-some r e)
loan-plain (e ∷ H) old l r f = loan-plain-by H e.command l old.1 (loan-plain H old.1 l) r f

grace-same : (H : History) → AreOfSchema2 H → no_grace ≡ grace_of H
grace-same H old = λ i l. go l (loan_of H l) refl i
  where
    go : (l : ℕ) (y : Option LoanFacts) → loan_of H l ≡ y → 0 ≡ unwrap_or (option_map (λ r. r.terms.grace) y) 0
    go l (Some r) e = sym (loan-plain H old l r e)
    go l None e = refl

-- ---- lists of schema 2

lines2-same : (H : History) → AreOfSchema2 H → lines2 H ≡ lines H
lines2-same [] old = refl
lines2-same (e ∷ H) old =
    let graces = grace-same H old.1 in
    let ended = lines2-same H old.1 in
    λ i. lines_then H (place H) (graces i) (posting e.command) (ended i)

-- They show what they showed.
sight2-same : (H : History) → AreOfSchema2 H → sight2 H ≡ sight H
sight2-same H old =
    let graces = grace-same H old in
    let ended = lines2-same H old in
    λ i. record (sight H) { grace = graces i; lines = ended i }

-- A list that was legal with schema 2 is legal, with the same answers.
pub stands-2 : OldListsStand is_of_schema_2 sight2
stands-2 = lists-stand is_of_schema_2 sight2 sight2-same

-- A legal list of commands of schema 2 was legal with it.
pub legal-2 : (H : History) → AreOfSchema2 H → IsLegal H → IsLegal2 H
legal-2 = legal-back is_of_schema_2 sight2 sight2-same

pub fines-without-grace : FinesWithoutGrace
fines-without-grace days rate most = go (nat_le days 0) refl
  where
    go : (x : Bool) → nat_le days 0 ≡ x → elim x as (λ _. ℕ) [ true ↦ 0 | false ↦ min (days * rate) most ] ≡ min (days * rate) most
    go true e =
        let none : days ≤ 0 = leb-true _ _ e in
        let same : 0 ≡ days = omega (arith, none) in
        subst (λ d. 0 ≡ min (d * rate) most) same (omega arith)
    go false e = refl

-- ---- lists of schema 1

within-by : (x : Command) → IsTrue (is_of_schema_1 x) → IsTrue (is_of_schema_2 x)
within-by (PlaceHold p t b d) old = refl
within-by _ old = old

within-3-by : (x : Command) → IsTrue (is_of_schema_2 x) → IsTrue (is_of_schema_3 x)
within-3-by (Grace k c days) old = refl
within-3-by _ old = old

pub within-schema-3 : Schema2IsWithinSchema3
within-schema-3 [] old = tt
within-schema-3 (e ∷ H) old = (within-3-by e.command old.0, within-schema-3 H old.1)

pub within-schema-2 : Schema1IsWithinSchema2
within-schema-2 [] old = tt
within-schema-2 (e ∷ H) old = (within-by e.command old.0, within-schema-2 H old.1)

-- With the commands of schema 1 no hold has a first day.
no-first_day-by : (H : History) (c : Command) (h : ℕ) → IsTrue (is_of_schema_1 c) → first_day_of H h ≡ None
    → option_and_then (λ r. r.first_day) (hold_after H (hold_made c) h (hold_of H h)) ≡ None
no-first_day-by H (PlaceHold p t b None) h old before = go (next_hold H == h)
  where
    go : (x : Bool) → option_and_then (λ r. r.first_day) (cond x (Some (record { patron = p; title = t; branch = b; first_day = None })) (hold_of H h)) ≡ None
    go true = refl
    go false = before
no-first_day-by H (PlaceHold p t b (Some d)) h old before = let never : ⊥ = cc in absurd never
no-first_day-by H _ h old before = before

no-first_day : (H : History) → AreOfSchema1 H → (h : ℕ) → first_day_of H h ≡ None
no-first_day [] old h = refl
no-first_day (e ∷ H) old h = no-first_day-by H e.command h old.0 (no-first_day H old.1 h)

-- Each hold of theirs has begun.
begun-same : (H : History) → AreOfSchema1 H → begun_at_once ≡ is_begun H
begun-same H old = λ i h. ap (has_begun (today H)) (sym (no-first_day H old h)) i

places-same : (H : History) → AreOfSchema1 H → (place1 H ≡ place H) × (state1 H ≡ state H)
places-same [] old = (refl, refl)
places-same (e ∷ H) old =
    let before = places-same H old.1 in
    let begun = begun-same H old.1 in
    (λ i c. place_after H (before.0 i) (before.1 i) (begun i) e.command c, λ i h. state_after H (before.0 i) (before.1 i) (begun i) e.command h)

limit-same : (H : History) → AreOfSchema1 H → limit1 H ≡ limit H
limit-same [] old = refl
limit-same (e ∷ H) old =
    let before = places-same H old.1 in
    let limits = limit-same H old.1 in
    let begun = begun-same H old.1 in
    λ i h. limit_after_by H (before.0 i) (before.1 i) (begun i) e.command h (limits i h)

lines1-same : (H : History) → AreOfSchema1 H → lines1 H ≡ lines H
lines1-same [] old = refl
lines1-same (e ∷ H) old =
    let before = places-same H old.1 in
    let graces = grace-same H (within-schema-2 H old.1) in
    let ended = lines1-same H old.1 in
    λ i. lines_then H (before.0 i) (graces i) (posting e.command) (ended i)

-- They show what they showed.
sight1-same : (H : History) → AreOfSchema1 H → sight1 H ≡ sight H
sight1-same H old =
    let here = places-same H old in
    let begun = begun-same H old in
    let limits = limit-same H old in
    let graces = grace-same H (within-schema-2 H old) in
    let ended = lines1-same H old in
    λ i. record { place = here.0 i; state = here.1 i; begun = begun i; limit = limits i; grace = graces i; lines = ended i }

-- A list that was legal with schema 1 is legal, with the same answers.
pub stands-1 : OldListsStand is_of_schema_1 sight1
stands-1 = lists-stand is_of_schema_1 sight1 sight1-same

-- ---- tables of schema 3 are led

-- With the commands of schema 3 nothing has a barcode.
no-barcode-by : (x : Command) (t : Thing) → IsTrue (is_of_schema_3 x) → barcode_after (labelling x) t None ≡ None
no-barcode-by (CopyBarcode c barcode) t old = let never : ⊥ = cc in absurd never
no-barcode-by (PatronBarcode p barcode) t old = let never : ⊥ = cc in absurd never
no-barcode-by _ t old = refl

no-barcode : (H : History) → AreOfSchema3 H → (t : Thing) → barcode_of H t ≡ None
no-barcode [] old t = refl
no-barcode (e ∷ H) old t = ap (barcode_after (labelling e.command) t) (no-barcode H old.1 t) ∙ no-barcode-by e.command t old.0

unnoted-by : (H : History) (x : Command) → IsTrue (is_of_schema_3 x) → AreUnnoted (lines H) → AreUnnoted (lines_after H (posting x) (lines H))
unnoted-by H (CheckIn c b) old was = unnoted-append (lines H) (fine_line H (grace_of H) (place H c)) was (unnoted-fine H (place H c))
unnoted-by H (Missing c) old was = unnoted-append (lines H) (fine_line H (grace_of H) (place H c) ++ price_line H c (place H c)) was
    (unnoted-append (fine_line H (grace_of H) (place H c)) (price_line H c (place H c)) (unnoted-fine H (place H c)) (unnoted-price H c (place H c)))
unnoted-by H (Pay p n) old was = unnoted-append (lines H) (line_of H p Payment None n) was (unnoted-line H p Payment None n)
unnoted-by H (Waive p n) old was = unnoted-append (lines H) (line_of H p Waiver None n) was (unnoted-line H p Waiver None n)
unnoted-by H (Charge p n b text) old was = let never : ⊥ = cc in absurd never
unnoted-by H (PayAt p n b) old was = let never : ⊥ = cc in absurd never
unnoted-by H _ old was = was

unnoted : (H : History) → AreOfSchema3 H → AreUnnoted (lines H)
unnoted [] old = tt
unnoted (e ∷ H) old = unnoted-by H e.command old.0 (unnoted H old.1)

no-note : (H : History) → AreOfSchema3 H → (n : ℕ) → note_row H n ≡ None
no-note H old n = no-note-in H (lines H) n n (unnoted H old)

pub of_schema_3 : (H : History) → IsOfSchema3 (picture3 H)
of_schema_3 H = record { names = refl; later_labels = record { barcodes = λ t. refl; notes = λ n. refl } }

pub led-3 : (H : History) → AreOfSchema3 H → led_to_4 (picture3 H) ≡ picture H
led-3 H old = λ i. record (picture H) {
  barcodes = λ t. option_map (λ x. record { thing = t; barcode = x }) (sym (no-barcode H old t) i);
  notes = λ n. sym (no-note H old n) i;
}

-- The tables of schema 3 keep to the limits that those of the newest schema keep to.
pub limits3 : (H : History) → InLimits (picture H) → InLimits (picture3 H)
limits3 H within = record {
  meta = (omega arith, within.meta.1, within.meta.2, within.meta.3, within.meta.4);
  branches = within.branches;
  closed_days = within.closed_days;
  kinds = within.kinds;
  rules = within.rules;
  rules1 = within.rules1;
  patrons = within.patrons;
  titles = within.titles;
  copies = within.copies;
  loans = within.loans;
  loans1 = within.loans1;
  holds = within.holds;
  holds1 = within.holds1;
  transits = within.transits;
  lines = within.lines;
  kept = within.kept;
  barcodes = λ t r e. absurd (none-some r e);
  notes = λ n r e. absurd (none-some r e);
}

-- ---- tables of schema 2 are led

pub of_schema_2 : (H : History) → IsOfSchema2 (picture2 H)
of_schema_2 H = record { names = refl; later_rules = λ k c. refl; later_loans = λ l. refl; later_labels = record { barcodes = λ t. refl; notes = λ n. refl } }

-- A rule and a loan have all that they had, and still no grace days.
rule-back : (H : History) (k c : ℕ) (y : Option Terms) → ((t : Terms) → y ≡ Some t → t.grace ≡ 0)
    → option_map carried_rule (option_map rule1_columns (option_map (rule_columns H k c) y)) ≡ option_map (rule_columns H k c) y
rule-back H k c (Some t) none = λ i. Some (record (rule_columns H k c t) { grace = sym (none t refl) i })
rule-back H k c None none = refl

loan-back : (H : History) (l : ℕ) (y : Option LoanFacts) → ((r : LoanFacts) → y ≡ Some r → r.terms.grace ≡ 0)
    → option_map carried_loan (option_map loan1_columns (option_map (loan_columns H l) y)) ≡ option_map (loan_columns H l) y
loan-back H l (Some r) none = λ i. Some (record (loan_columns H l r) { grace = sym (none r refl) i })
loan-back H l None none = refl

pub led-2 : (H : History) → AreOfSchema2 H → led_to_3 (picture2 H) ≡ picture3 H
led-2 H old = λ i. record (picture3 H) {
  rules = λ k c. rule-back H k c (rule_of H k c) (rule-plain H old k c) i;
  loans = λ l. loan-back H l (loan_of H l) (loan-plain H old l) i;
}

rules1-in : (H : History) → InLimits (picture3 H) → (k c : ℕ) (r : RuleRow1) → (picture2 H).rules1 k c ≡ Some r → (r.kind ≡ k) × (r.copy_kind ≡ c) × IsRule1 r
rules1-in H within k c r e =
    let m = map-some rule1_columns (rule_row H k c) r e in
    let f = within.rules k c m.0 m.1 in
    subst (λ q. (q.kind ≡ k) × (q.copy_kind ≡ c) × IsRule1 q) m.2 (f.0, f.1, (f.2.0, f.2.1, f.2.2, f.2.3, f.2.4, f.2.5))

loans1-in : (H : History) → InLimits (picture3 H) → (l : ℕ) (r : LoanRow1) → (picture2 H).loans1 l ≡ Some r → (r.loan ≡ l) × IsLoan1 r
loans1-in H within l r e =
    let m = map-some loan1_columns (loan_row H l) r e in
    let f = within.loans l m.0 m.1 in
    let i = f.1 in
    subst (λ q. (q.loan ≡ l) × IsLoan1 q) m.2 (f.0, (i.0, i.1, i.2, i.3, i.4, i.5, i.6, i.7, i.8, i.9, i.10))

-- The tables of schema 2 keep to the limits that those of schema 3 keep to.
pub limits2 : (H : History) → InLimits (picture3 H) → InLimits (picture2 H)
limits2 H within = record {
  meta = (omega arith, within.meta.1, within.meta.2, within.meta.3, within.meta.4);
  branches = within.branches;
  closed_days = within.closed_days;
  kinds = within.kinds;
  rules = λ k c r e. absurd (none-some r e);
  rules1 = rules1-in H within;
  patrons = within.patrons;
  titles = within.titles;
  copies = within.copies;
  loans = λ l r e. absurd (none-some r e);
  loans1 = loans1-in H within;
  holds = within.holds;
  holds1 = within.holds1;
  transits = within.transits;
  lines = within.lines;
  kept = within.kept;
  barcodes = within.barcodes;
  notes = within.notes;
}

-- ---- tables of schema 1 are led

pub of_schema_1 : (H : History) → IsOfSchema1 (picture1 H)
of_schema_1 H = record {
  names = refl;
  later = λ h. refl;
  later_rules = λ k c. refl;
  later_loans = λ l. refl;
  later_labels = record { barcodes = λ t. refl; notes = λ n. refl };
}

-- A hold has all that it had, and still no first day.
carried-back : (h : ℕ) (facts : Option HoldFacts) (s : Option HoldState) (kept until : Option ℕ) → option_and_then (λ r. r.first_day) facts ≡ None
    → option_map carried (option_map hold1_columns (hold_by h facts s kept until)) ≡ hold_by h facts s kept until
carried-back h (Some r) (Some s) kept until none = λ i. Some (record (hold_with h s kept until r) { first_day = sym none i })
carried-back h None (Some s) kept until none = refl
carried-back h facts None kept until none = refl

pub led-1 : (H : History) → AreOfSchema1 H → led_to_2 (picture1 H) ≡ picture2 H
led-1 H old = λ i. record (picture2 H) { holds = λ h. carried-back h (hold_of H h) (state H h) (kept_for H h) (limit H h) (no-first_day H old h) i }

holds1-in : (H : History) → InLimits (picture2 H) → (h : ℕ) (r : HoldRow1) → (picture1 H).holds1 h ≡ Some r → (r.hold ≡ h) × IsHold1 r
holds1-in H within h r e =
    let m = map-some hold1_columns (hold_row H h) r e in
    let f = within.holds h m.0 m.1 in
    subst (λ q. (q.hold ≡ h) × IsHold1 q) m.2 (f.0, (f.1.0, f.1.1, f.1.2, f.1.3, f.1.4, f.1.5))

-- The tables of schema 1 keep to the limits that those of schema 2 keep to.
pub limits1 : (H : History) → InLimits (picture2 H) → InLimits (picture1 H)
limits1 H within = record {
  meta = (omega arith, within.meta.1, within.meta.2, within.meta.3, within.meta.4);
  branches = within.branches;
  closed_days = within.closed_days;
  kinds = within.kinds;
  rules = within.rules;
  rules1 = within.rules1;
  patrons = within.patrons;
  titles = within.titles;
  copies = within.copies;
  loans = within.loans;
  loans1 = within.loans1;
  holds = λ h r e. absurd (none-some r e);
  holds1 = holds1-in H within;
  transits = within.transits;
  lines = within.lines;
  kept = within.kept;
  barcodes = within.barcodes;
  notes = within.notes;
}

pub tables-led : OldTablesAreLed
tables-led H = (
  λ old. (of_schema_1 H, record { led = led-1 H old; limits = limits1 H; closed_days = λ few. few }),
  λ old. (of_schema_2 H, record { led = led-2 H old; limits = limits2 H; closed_days = λ few. few }),
  λ old. (of_schema_3 H, record { led = led-3 H old; limits = limits3 H; closed_days = λ few. few }),
)
