-- Another's loans and holds are unknown to a patron.
use Rattle.std.proofs.Common.{◌≡◌, ℕ, ◌==◌, Bool, true, false, not, ◌&&◌, List, [], ◌∷◌, refl, sym, ◌∙◌, ap}
use Rattle.std.specs.Prelude.{Option, Some, None, option_map, unwrap_or, is_some}
use Rattle.terms.specs.declared.command.Owner.TheVariants.{Desk, Patron as Reader}
use Rattle.terms.specs.declared.command.Command.{Command}
use Rattle.terms.specs.declared.command.Command.TheVariants.{Renew, CancelHold, Unshelve, UnshelveCancelled}
use Rattle.terms.specs.declared.refusal.Refusal.TheVariants.{UnknownLoan, UnknownHold}
use Rattle.terms.specs.declared.row.LoanRow.{LoanRow}
use Rattle.terms.specs.declared.row.HoldRow.{HoldRow}
use Rattle.terms.specs.declared.row.HoldState.{HoldState}
use Rattle.model.specs.Checks.{Check, first_failing}
use Rattle.model.specs.Invariant.{Invariant}
use Rattle.model.specs.History.{History, HoldFacts, hold_of}
use Rattle.model.specs.Places.{state, patron_of_hold}
use Rattle.model.specs.Loans.{LoanFacts, loan_of}
use Rattle.model.specs.Accounts.{borrower}
use Rattle.model.specs.Refusals.{refusal, checks, has_loan, has_hold, is_own}
use Rattle.model.specs.Picture.{loan_columns, loan_row, hold_columns, hold_row}
use Rattle.model.proofs.Invariants.{legal-Invariant}
use Rattle.circ_core.specs.Owners.{names_one, LoansApart, HoldsApart, OwnersAreKeptApart}
use Rattle.circ_core.proofs.Claims.{loan_row-is, hold_row-is, hold_row-from}
use Rattle.model.proofs.ClosedDays.{eq-sym}

and_false : (a b : Bool) → b ≡ false → (a && b) ≡ false
and_false true b e = e
and_false false b e = refl

abbrev after_first : List Check → List Check
after_first (k ∷ ks) = ks
after_first [] = []

map-none : {A B : Type 0} (f : A → B) (o : Option A) → option_map f o ≡ None → o ≡ None
map-none f None e = refl
map-none f (Some x) e = let never : ⊥ = cc in absurd never

module _ (H : History) (p : ℕ) where
  -- ---- loans

  -- The tables of the patron and of the desk differ in the first check alone.
  loan_table : (l : ℕ) → has_loan H (Reader p) l ≡ has_loan H Desk l → refusal H (Reader p) (Renew l) ≡ refusal H Desk (Renew l)
  loan_table l e = ap (λ x. first_failing ((UnknownLoan, not x) ∷ after_first (checks H Desk (Renew l)))) e

  borrower-is : (l : ℕ) (r : LoanRow) → loan_row H l ≡ Some r → borrower H l ≡ r.patron
  borrower-is l r e =
      let f : (f : LoanFacts) × (loan_of H l ≡ Some f) × (loan_columns H l f ≡ r) = loan_row-is H l r e in
      ap (λ o. unwrap_or (option_map (λ x. x.patron) o) 0) f.1 ∙ ap (λ x. x.patron) f.2

  own_loan : (l : ℕ) (r : LoanRow) (b : Bool) → loan_row H l ≡ Some r → (r.patron == p) ≡ b → is_own H (Reader p) (borrower H l) ≡ b
  own_loan l r b e q = ap (λ n. p == n) (borrower-is l r e) ∙ eq-sym p r.patron ∙ q

  loans_apart : (l : ℕ) → LoansApart H p l
  loans_apart l = record {
    others = λ r e q. ap (λ x. first_failing ((UnknownLoan, not x) ∷ after_first (checks H Desk (Renew l))))
        (and_false (is_some (loan_of H l)) _ (own_loan l r false e q));
    own = λ r e q. loan_table l (ap (λ x. is_some (loan_of H l) && x) (own_loan l r true e q));
    none = λ e. let gone : loan_of H l ≡ None = map-none (loan_columns H l) (loan_of H l) e in
        loan_table l (ap (λ o. is_some o && is_own H (Reader p) (borrower H l)) gone ∙ sym (ap (λ o. is_some o && true) gone));
  }

  -- ---- holds

  hold_table : (h : ℕ) → has_hold H (Reader p) h ≡ has_hold H Desk h → refusal H (Reader p) (CancelHold h) ≡ refusal H Desk (CancelHold h)
  hold_table h e = ap (λ x. first_failing ((UnknownHold, not x) ∷ after_first (checks H Desk (CancelHold h)))) e

  holder-is : (h : ℕ) (r : HoldRow) → hold_row H h ≡ Some r → patron_of_hold H h ≡ r.patron
  holder-is h r e =
      let f : (s : HoldState) × (f : HoldFacts) × (state H h ≡ Some s) × (hold_of H h ≡ Some f) × (hold_columns H h s f ≡ r) = hold_row-is H h r e in
      ap (λ o. unwrap_or (option_map (λ x. x.patron) o) 0) f.3 ∙ ap (λ x. x.patron) f.4

  own_hold : (h : ℕ) (r : HoldRow) (b : Bool) → hold_row H h ≡ Some r → (r.patron == p) ≡ b → is_own H (Reader p) (patron_of_hold H h) ≡ b
  own_hold h r b e q = ap (λ n. p == n) (holder-is h r e) ∙ eq-sym p r.patron ∙ q

  -- A hold without a row was never placed.
  no_hold : Invariant H → (h : ℕ) → hold_row H h ≡ None → hold_of H h ≡ None
  no_hold inv h e = go (hold_of H h) refl
    where
      go : (o : Option HoldFacts) → hold_of H h ≡ o → o ≡ None
      go None f = refl
      go (Some r) f =
          let s : (s : HoldState) × (state H h ≡ Some s) = inv.stated h r f in
          let row : hold_row H h ≡ Some (hold_columns H h s.0 r) = hold_row-from H h s.0 r s.1 f in
          let never : ⊥ = cc in absurd never

  holds_apart : Invariant H → (h : ℕ) → HoldsApart H p h
  holds_apart inv h = record {
    others = λ r e q. ap (λ x. first_failing ((UnknownHold, not x) ∷ after_first (checks H Desk (CancelHold h))))
        (and_false (is_some (hold_of H h)) _ (own_hold h r false e q));
    own = λ r e q. hold_table h (ap (λ x. is_some (hold_of H h) && x) (own_hold h r true e q));
    none = λ e. let gone : hold_of H h ≡ None = no_hold inv h e in
        hold_table h (ap (λ o. is_some o && is_own H (Reader p) (patron_of_hold H h)) gone ∙ sym (ap (λ o. is_some o && true) gone));
  }

-- ---- the other commands

not_owned : (H : History) (p : ℕ) (command : Command) → names_one command ≡ false → refusal H (Reader p) command ≡ refusal H Desk command
not_owned H p (Renew l) e = let never : ⊥ = cc in absurd never
not_owned H p (CancelHold h) e = let never : ⊥ = cc in absurd never
not_owned H p (Unshelve h) e = let never : ⊥ = cc in absurd never
not_owned H p (UnshelveCancelled h) e = let never : ⊥ = cc in absurd never
not_owned H p _ e = refl

pub owners_apart : OwnersAreKeptApart
owners_apart H legal = record { loans = λ p l. loans_apart H p l; holds = λ p h. holds_apart H p (legal-Invariant H legal) h; others = not_owned H }
