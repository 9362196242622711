-- Every legal history keeps the invariant.
use Rattle.std.proofs.Common.{◌≡◌, ℕ, ◌==◌, true, false, [], ◌∷◌, refl, ap}
use Rattle.std.specs.Prelude.{Option, Some, None, is_none}
use Rattle.std.specs.List.{list_any}
use Rattle.std.proofs.lemmas.Bool.{true_from_ne_false, eq-eqb}
use Rattle.terms.specs.declared.row.HoldState.{HoldState}
use Rattle.model.specs.History.{History, HoldFacts, hold_made, hold_of, CopyFacts, copy_of, copies}
use Rattle.model.specs.Places.{place, state, goal_of}
use Rattle.model.specs.Requests.{IsLegal}
use Rattle.model.proofs.Bindings.{IsBound, listed}
use Rattle.model.proofs.Legal.{legal-bound}
use Rattle.model.specs.Invariant.{Bound, Invariant}
use Rattle.model.proofs.Balance.{account_covers}
use Rattle.model.proofs.HoldRows.{hold-numbered, loan-numbered, hold-stated}
use Rattle.model.proofs.SettingLaws.{SettingLaws, legal-SettingLaws}
use Rattle.model.proofs.MoneyLaws.{MoneyLaws, legal-MoneyLaws, owed-bound}
use Rattle.model.proofs.AccountLaws.{legal-AccountLaws}
use Rattle.model.proofs.LoanLaws.{LoanLaws, legal-LoanLaws}
use Rattle.model.proofs.PlaceLaws.{PlaceLaws, place-step}

bound-of : (H : History) → IsBound H → Bound (goal_of H) (place H) (state H)
bound-of H b = record { once = b.bound.once; fits = b.bound.fits; kept = b.bound.kept }

pub legal-PlaceLaws : (H : History) → IsLegal H → PlaceLaws H
legal-PlaceLaws [] legal = record { somewhere = λ c e. refl; at_home = λ c b e. let never : ⊥ = cc in absurd never; of_title = λ c h s. absurd s }
legal-PlaceLaws (e ∷ H) legal =
    let b : IsBound H = legal-bound H legal.1 in
    let step = place-step H (legal-PlaceLaws H legal.1) (legal-LoanLaws H legal.1) (bound-of H b) e.owner b.unplaced e.command (hold_made e.command) refl in
    record { somewhere = λ c. (step c).0; at_home = λ c. (step c).1; of_title = λ c. (step c).2 }

placed-of : (H : History) → IsBound H → (h : ℕ) (s : HoldState) → state H h ≡ Some s → (r : HoldFacts) × (hold_of H h ≡ Some r)
placed-of H b h s e = go (hold_of H h) refl
  where
    go : (o : Option HoldFacts) → hold_of H h ≡ o → (r : HoldFacts) × (hold_of H h ≡ Some r)
    go (Some r) f = (r, f)
    go None f = let none : state H h ≡ None = b.unplaced h f in let never : ⊥ = cc in absurd never

listed-of : (H : History) (c : ℕ) (r : CopyFacts) → copy_of H c ≡ Some r → list_any (λ x. c == x) (copies H) ≡ true
listed-of H c r e = true_from_ne_false (list_any (λ x. c == x) (copies H)) (λ shut.
    let off : (c == c) ≡ false = listed H (λ x. c == x) c shut (ap is_none e) in
    let on : (c == c) ≡ true = eq-eqb c c refl in
    let never : ⊥ = cc in never)

pub legal-Invariant : (H : History) → IsLegal H → Invariant H
legal-Invariant H legal =
    let b : IsBound H = legal-bound H legal in
    let l : LoanLaws H = legal-LoanLaws H legal in
    let p : PlaceLaws H = legal-PlaceLaws H legal in
    let settings : SettingLaws H = legal-SettingLaws H legal in
    let money : MoneyLaws H = legal-MoneyLaws H legal in
    record {
      today_from = settings.today_from;
      today_to = settings.today_to;
      unset = settings.unset;
      singles_once = settings.once;
      few_singles = settings.few_singles;
      pickups = settings.pickups;
      terms = settings.terms;
      loan_caps = money.caps;
      prices = settings.prices;
      borrowers = (legal-AccountLaws H legal).borrowers;
      strangers = (legal-AccountLaws H legal).strangers;
      covered = λ p. account_covers H p legal;
      debts = λ p. owed-bound H p money;
      on_loan = l.on_loan;
      open_loan = l.open_loan;
      made_loan = l.made_loan;
      loan_numbered = loan-numbered H;
      fresh_loan = l.fresh_loan;
      made_hold = l.made_hold;
      hold_numbered = hold-numbered H;
      loans_left = money.loans_left;
      holds_left = money.holds_left;
      lines_left = money.lines_left;
      placed = placed-of H b;
      stated = hold-stated H;
      acquired = λ c r e. ((λ at. let none : copy_of H c ≡ None = p.somewhere c at in let never : ⊥ = cc in never), listed-of H c r e);
      unknown = l.unknown;
      at_home = p.at_home;
      bound = bound-of H b;
      of_title = p.of_title;
    }
