-- In every legal history whose commands have their forms: loans, holds and places are within their limits.
use Rattle.terms.specs.declared.limits.TheConstants.{LAST_TODAY}
use Rattle.std.proofs.lemmas.Bool.{and_parts, leb-true, ltb-true}
use Rattle.std.proofs.Common.{◌≡◌, ℕ, ◌==◌, Bool, false, cond, [], ◌∷◌, refl, sym, ap, ◌∙◌, subst, arith, IfSome, nat_lt, nat_le, ◌<◌, ◌≤◌}
use Rattle.std.specs.Prelude.{Option, Some, None, is_none, option_map, option_and_then, unwrap_or}
use Rattle.std.specs.Option.{option_or}
use Rattle.calendar.specs.Days.{IsDayNumber}
use Rattle.terms.specs.Limits.{IsSmall, IsLarge, IsGiven}
use Rattle.terms.specs.declared.command.Owner.{Owner}
use Rattle.terms.specs.declared.command.Command.{Command}
use Rattle.terms.specs.declared.command.Command.TheVariants.{CheckOut, CheckIn, Missing}
use Rattle.terms.specs.declared.refusal.Refusal.TheVariants as check
use Rattle.model.specs.History.{History, today, Terms, rule_of, PatronFacts, patron_of, title_of, CopyFacts, copy_of, next_loan, HoldFacts}
use Rattle.model.specs.History.{hold_made, hold_of, hold_after, next_hold}
use Rattle.model.specs.Places.{Place, Shelf, HoldShelf, Transit, Loan, place, state, route_by, goal_of, home_of, is_begun}
use Rattle.model.specs.Loans.{LoanFacts, loan_of, loan_after, ended, ended_after, is_loan_of_copy, terms_for, no_terms}
use Rattle.model.specs.Invariant.{Invariant}
use Rattle.model.specs.Refusals.{refusal, checks, is_bad_first_day}
use Rattle.model.specs.Requests.{IsLegal}
use Rattle.model.specs.Forms.{HasForms}
use Rattle.model.proofs.Passing.{passed}
use Rattle.model.proofs.MadeHolds.{placeable}
use Rattle.model.proofs.Bindings.{not-false}
use Rattle.model.proofs.DueDayLaws.{checked_out-terms}
use Rattle.model.proofs.Invariants.{legal-Invariant}
use Rattle.model.proofs.PlaceSteps.{KeepsPlaces, route-keeps, place_after-keeps}
use Rattle.model.proofs.SettingRanges.{SettingRanges, TermsIn, legal-SettingRanges, set-if, there, none-some}

abbrev LoanIn : LoanFacts → Type 0
LoanIn r = IsLarge r.copy × IsLarge r.patron × IsSmall r.branch × IsDayNumber r.made × TermsIn r.terms

abbrev HoldIn : HoldFacts → Type 0
HoldIn r = IsLarge r.patron × IsLarge r.title × IsSmall r.branch × IfSome r.first_day IsDayNumber

-- The branch, the hold or the loan of a place lies in its limits.
abbrev pub PlaceIn : Place → Type 0
PlaceIn (Shelf b) = IsSmall b
PlaceIn (HoldShelf h) = IsGiven h
PlaceIn (Transit g None) = IsSmall g
PlaceIn (Transit g (Some h)) = IsSmall g × IsGiven h
PlaceIn (Loan l) = IsGiven l
PlaceIn _ = Unit {0}

-- Loans, holds and places lie in their limits.
pub record LendingRanges (H : History) : Type 0 where
  pub loans : (l : ℕ) (r : LoanFacts) → loan_of H l ≡ Some r → LoanIn r
  pub ends : (l d : ℕ) → ended H l ≡ Some d → IsDayNumber d
  pub holds : (h : ℕ) (r : HoldFacts) → hold_of H h ≡ Some r → HoldIn r
  pub places : (c : ℕ) → PlaceIn (place H c)

module _ (H : History) (inv : Invariant H) (settings : SettingRanges H) where
  pub today-in : IsDayNumber (today H)
  today-in = (inv.today_from, omega (arith, inv.today_to))

  pub home-in : (c : ℕ) (f : CopyFacts) → copy_of H c ≡ Some f → IsSmall (home_of H c)
  home-in c f e = subst IsSmall (sym (ap (λ y. unwrap_or (option_map (λ r. r.home) y) 0) e)) (settings.copies c f e).3

  terms-in : (p c : ℕ) (t : Terms) → terms_for H p c ≡ Some t → TermsIn t
  terms-in p c t e = go (patron_of H p) (copy_of H c) e
    where
      go : (x : Option PatronFacts) (y : Option CopyFacts) → option_and_then (λ q. option_and_then (λ r. rule_of H q.kind r.kind) y) x ≡ Some t → TermsIn t
      go (Some q) (Some r) f = (settings.rules q.kind r.kind t f).2
      go (Some q) None f = absurd (none-some t f)
      go None y f = absurd (none-some t f)

module _ (H : History) (inv : Invariant H) (settings : SettingRanges H) (before : LendingRanges H) (o : Owner) where
  goal-in : (h : ℕ) (r : HoldFacts) → hold_of H h ≡ Some r → IsSmall (goal_of H h)
  goal-in h r e = subst IsSmall (sym (ap (λ y. unwrap_or (option_map (λ q. q.branch) y) 0) e)) (before.holds h r e).2

  loans-step : (x : Command) → refusal H o x ≡ None → (l : ℕ) (r : LoanFacts) → loan_after H x l (loan_of H l) ≡ Some r → LoanIn r
  loans-step (CheckOut p c b) ok l r e =
      let pass = passed (checks H o (CheckOut p c b)) ok in
      let patron = there (patron_of H p) (not-false _ (pass check.UnknownPatron)) in
      let copy = there (copy_of H c) (not-false _ (pass check.UnknownCopy)) in
      let branch = there _ (not-false _ (pass check.UnknownBranch)) in
      let t = checked_out-terms H o p c b ok in
      let terms : TermsIn (unwrap_or (terms_for H p c) no_terms) =
      subst (λ y. TermsIn (unwrap_or y no_terms)) (sym t.1) (terms-in H inv settings p c t.0 t.1) in
      let made : LoanFacts = record { copy = c; patron = p; branch = b; made = today H; terms = unwrap_or (terms_for H p c) no_terms } in
      set-if LoanIn (next_loan H == l) made (loan_of H l)
      (λ _. (
        (settings.copies c copy.0 copy.1).0,
        (settings.patrons p patron.0 patron.1).0,
        (settings.branches b branch.0 branch.1).0,
        today-in H inv settings,
        terms,
      )) (before.loans l) r e
  loans-step _ ok l r e = before.loans l r e

  ended-now : (l c d : ℕ) → option_or (ended H l) (cond (is_loan_of_copy H l c) (Some (today H)) None) ≡ Some d → IsDayNumber d
  ended-now l c d e = go (ended H l) (is_loan_of_copy H l c) refl e
    where
      go : (y : Option ℕ) (x : Bool) → ended H l ≡ y → option_or y (cond x (Some (today H)) None) ≡ Some d → IsDayNumber d
      go (Some z) x q f = before.ends l d (q ∙ f)
      go None x q f = set-if IsDayNumber x (today H) None (λ _. today-in H inv settings) (λ z g. absurd (none-some z g)) d f

  ends-step : (x : Command) (l d : ℕ) → ended_after H x l (ended H l) ≡ Some d → IsDayNumber d
  ends-step (CheckIn c b) l d e = ended-now l c d e
  ends-step (Missing c) l d e = ended-now l c d e
  ends-step _ l d e = before.ends l d e

  -- A first day that a hold is to have is a day of the calendar.
  first_day-in : (d : Option ℕ) → is_bad_first_day H d ≡ false → IfSome d IsDayNumber
  first_day-in None ok = tt
  first_day-in (Some d) ok =
      let pass = and_parts (nat_lt (today H) d) (nat_le d LAST_TODAY) (not-false _ ok) in
      let later : today H < d = ltb-true _ _ pass.0 in
      let low : d ≤ LAST_TODAY = leb-true _ _ pass.1 in
      (omega (arith, inv.today_from, later), omega (arith, low))

  holds-step : (x : Command) (made : Option HoldFacts) → hold_made x ≡ made → refusal H o x ≡ None → (h : ℕ) (r : HoldFacts)
      → hold_after H made h (hold_of H h) ≡ Some r → HoldIn r
  holds-step x (Some made) is ok h r e =
      let pass = placeable H o x made ok is in
      let patron = there (patron_of H made.patron) (not-false _ pass.patron) in
      let title = there-not (title_of H made.title) pass.title in
      let branch = there _ (not-false _ pass.branch) in
      set-if HoldIn (next_hold H == h) made (hold_of H h)
      (λ _. (
        (settings.patrons made.patron patron.0 patron.1).0,
        (settings.titles made.title title.0 title.1).0,
        (settings.branches made.branch branch.0 branch.1).0,
        first_day-in made.first_day pass.later,
      )) (before.holds h) r e
    where
      there-not : {A : Type 0} (y : Option A) → is_none y ≡ false → (x : A) × (y ≡ Some x)
      there-not (Some x) f = (x, refl)
      there-not None f = let never : ⊥ = cc in absurd never
  holds-step x None is ok h r e = before.holds h r e

  -- ---- where copies go

  given-in : (h : ℕ) (r : HoldFacts) → hold_of H h ≡ Some r → IsGiven h
  given-in h r e = let made = inv.made_hold h r e in (made.0, omega (arith, made.1, inv.holds_left))

  places-keep : KeepsPlaces H PlaceIn
  places-keep = record {
    now = before.places;
    to_hold = λ h r e. (given-in h r e, (goal-in h r e, given-in h r e));
    to_home = λ c f e. (home-in H inv settings c f e, home-in H inv settings c f e);
    arrives = λ g h p. p.1;
    let_go = λ g h p. p.0;
    acquired = λ b r e. (settings.branches b r e).0;
    rehomed = λ b r e. (settings.branches b r e).0;
    lent = λ room. (omega arith, omega (arith, room));
    missing = tt;
    withdrawn = tt;
  }

  pub routed-in : (c b : ℕ) (f : CopyFacts) → copy_of H c ≡ Some f → PlaceIn (route_by H (place H) (state H) (is_begun H) c b)
  routed-in c b f known = route-keeps H inv PlaceIn places-keep o c b f known

pub legal-LendingRanges : (H : History) → IsLegal H → HasForms H → LendingRanges H
legal-LendingRanges [] legal forms = record {
  loans = λ l r e. absurd (none-some r e);
  ends = λ l d e. absurd (none-some d e);
  holds = λ h r e. absurd (none-some r e);
  places = λ c. tt;
}
legal-LendingRanges (e ∷ H) legal forms =
    let before : LendingRanges H = legal-LendingRanges H legal.1 forms.2 in
    let inv : Invariant H = legal-Invariant H legal.1 in
    let settings : SettingRanges H = legal-SettingRanges H legal.1 forms.2 in
    let ok = legal.0.unrefused in
    record {
      loans = loans-step H inv settings before e.owner e.command ok;
      ends = ends-step H inv settings before e.owner e.command;
      holds = holds-step H inv settings before e.owner e.command (hold_made e.command) refl ok;
      places = place_after-keeps H inv PlaceIn
          (places-keep H inv settings before e.owner) e.owner e.command ok;
    }
