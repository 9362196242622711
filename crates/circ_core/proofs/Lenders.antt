-- In every legal history a loan's branch and borrower exist, and so does its copy while it is open.
use Rattle.std.proofs.Common.{◌≡◌, ℕ, ◌==◌, Bool, true, false, cond, not, ◌∷◌, [], refl, sym, ap, ◌∙◌}
use Rattle.std.specs.Prelude.{Option, Some, None, is_some, unwrap_or}
use Rattle.std.specs.Option.{option_or}
use Rattle.terms.specs.declared.command.Owner.{Owner}
use Rattle.terms.specs.declared.command.Command.{Command}
use Rattle.terms.specs.declared.command.Command.TheVariants.{Branch, AmendBranch, CheckOut}
use Rattle.terms.specs.declared.refusal.Refusal.TheVariants as check
use Rattle.model.specs.History.{History, today, branch_of, branch_after, PatronFacts, patron_of, CopyFacts, copy_of, next_loan}
use Rattle.model.specs.Places.{Nowhere, Loan}
use Rattle.model.specs.Loans.{LoanFacts, loan_of, loan_after, ended, terms_for, no_terms}
use Rattle.model.specs.Refusals.{checks, refusal, has_branch}
use Rattle.model.specs.Requests.{IsLegal}
use Rattle.model.specs.Invariant.{Invariant}
use Rattle.model.proofs.Passing.{passed}
use Rattle.model.proofs.Amending.{amended-none}

some-not : {A : Type 0} (o : Option A) → not (is_some o) ≡ false → o ≡ None → ⊥
some-not (Some x) e f = let never : ⊥ = cc in never
some-not None e f = let never : ⊥ = cc in never

none-or : {A : Type 0} (a b : Option A) → option_or a b ≡ None → a ≡ None
none-or (Some x) b e = let never : ⊥ = cc in absurd never
none-or None b e = refl

abbrev HaveLenders : History → Type 0
HaveLenders H = (l : ℕ) (r : LoanFacts) → loan_of H l ≡ Some r → branch_of H r.branch ≡ None → ⊥

module _ (H : History) (lenders : HaveLenders H) (o : Owner) where
  -- A branch that is there stays.
  stays : (x : Command) (b : ℕ) → branch_after x b (branch_of H b) ≡ None → branch_of H b ≡ None
  stays (Branch n pickup name) b e = none-or (branch_of H b) _ e
  stays (AmendBranch n pickup name) b e = amended-none (n == b) _ (branch_of H b) e
  stays _ b e = e

  step : (x : Command) → refusal H o x ≡ None → (l : ℕ) (r : LoanFacts) → loan_after H x l (loan_of H l) ≡ Some r
      → branch_after x r.branch (branch_of H r.branch) ≡ None → ⊥
  step (CheckOut p n b) ok l r e none = go (next_loan H == l) e
    where
      there : not (has_branch H b) ≡ false
      there = (passed (checks H o (CheckOut p n b)) ok check.UnknownBranch)

      go : (x : Bool) → cond x (Some
          (record { copy = n; patron = p; branch = b; made = today H; terms = unwrap_or (terms_for H p n) no_terms }))
          (loan_of H l) ≡ Some r → ⊥
      go true f =
          let same : ◌≡◌ {A = LoanFacts} (record { copy = n; patron = p; branch = b; made = today H; terms = unwrap_or (terms_for H p n) no_terms }) r = cc in
          some-not (branch_of H b) there (ap (λ m. branch_of H m) (ap (λ y. y.branch) same) ∙ none)
      go false f = lenders l r f none
  step x ok l r e none = lenders l r e (stays x r.branch none)

pub legal-lenders : (H : History) → IsLegal H → HaveLenders H
legal-lenders [] legal = λ l r e none. let never : ⊥ = cc in never
legal-lenders (e ∷ H) legal = step H (legal-lenders H legal.1) e.owner e.command legal.0.unrefused

module _ (H : History) (inv : Invariant H) (l : ℕ) (r : LoanFacts) (made : loan_of H l ≡ Some r) where
  pub borrower-there : (f : PatronFacts) × (patron_of H r.patron ≡ Some f)
  borrower-there = go (patron_of H r.patron) refl
    where
      go : (o : Option PatronFacts) → patron_of H r.patron ≡ o → (f : PatronFacts) × (patron_of H r.patron ≡ Some f)
      go (Some f) e = (f, e)
      go None e = absurd (inv.borrowers l r made e)

  pub lent_copy-there : ended H l ≡ None → (x : CopyFacts) × (copy_of H r.copy ≡ Some x)
  lent_copy-there still = go (copy_of H r.copy) refl
    where
      go : (o : Option CopyFacts) → copy_of H r.copy ≡ o → (x : CopyFacts) × (copy_of H r.copy ≡ Some x)
      go (Some x) f = (x, f)
      go None f = let clash : Nowhere ≡ Loan l = sym (inv.unknown r.copy f) ∙ inv.open_loan l r made still in let never : ⊥ = cc in absurd never
