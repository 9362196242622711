-- In every legal history borrowers are enrolled, and only enrolled patrons have lines.
use Rattle.std.proofs.Common.{◌≡◌, ℕ, zero, suc, ◌==◌, Bool, true, false, cond, not, List, [], ◌∷◌, ◌++◌, refl, sym, ◌∙◌, ap}
use Rattle.std.specs.Prelude.{Option, Some, None, option_map, unwrap_or, is_some, filter}
use Rattle.std.specs.Option.{option_or}
use Rattle.std.proofs.lemmas.Bool.{eqb-true}
use Rattle.std.proofs.lemmas.List.Elements.{filter-append}
use Rattle.terms.specs.declared.command.Owner.{Owner}
use Rattle.terms.specs.declared.row.Sort.{Sort}
use Rattle.terms.specs.declared.row.Sort.TheVariants.{Fine, Price, Charge as ChargeSort}
use Rattle.terms.specs.declared.command.Command.{Command}
use Rattle.terms.specs.declared.command.Command.TheVariants.{SetCardKey, AmendPatron}
use Rattle.terms.specs.declared.command.Command.TheVariants.{Patron, CheckOut}
use Rattle.terms.specs.declared.refusal.Refusal.TheVariants as check
use Rattle.model.specs.History.{History, today, patron_of, patron_after, next_loan}
use Rattle.model.specs.Places.{Place, Loan, place}
use Rattle.model.specs.Loans.{LoanFacts, loan_of, loan_after, ended, grace_of, terms_for, no_terms}
use Rattle.model.specs.Accounts.{Note, Line, Posting, Returned, Lost, Settled, Charged, NoPosting, posting, noted_line, lines, lines_after, fine_line}
use Rattle.model.specs.Accounts.{price_line, fine_now, price_of, borrower, account}
use Rattle.model.specs.Refusals.{checks, refusal, has_patron}
use Rattle.model.specs.Requests.{IsLegal}
use Rattle.model.proofs.Passing.{passed}
use Rattle.model.proofs.Postings.{settling, charging}
use Rattle.model.proofs.LoanLaws.{LoanLaws, legal-LoanLaws}
use Rattle.model.proofs.Amending.{amended-none}

pub record AccountLaws (H : History) : Type 0 where
  pub borrowers : (l : ℕ) (r : LoanFacts) → loan_of H l ≡ Some r → patron_of H r.patron ≡ None → ⊥
  pub strangers : (p : ℕ) → patron_of H p ≡ None → account H p ≡ []

some-not : {A : Type 0} (o : Option A) → not (is_some o) ≡ false → o ≡ None → ⊥
some-not (Some x) e f = let never : ⊥ = cc in never
some-not None e f = let never : ⊥ = cc in never

none-or : {A : Type 0} (a b : Option A) → option_or a b ≡ None → a ≡ None
none-or (Some x) b e = let never : ⊥ = cc in absurd never
none-or None b e = refl

module _ (H : History) (inv : AccountLaws H) (loans_ok : LoanLaws H) (o : Owner) where
  -- Who is enrolled stays so.
  enrolled : (x : Command) (p : ℕ) → patron_after x p (patron_of H p) ≡ None → patron_of H p ≡ None
  enrolled (Patron n k card_key name) p e = none-or (patron_of H p) _ e
  enrolled (SetCardKey n card_key) p e = amended-none (n == p) _ (patron_of H p) e
  enrolled (AmendPatron n kind name) p e = amended-none (n == p) _ (patron_of H p) e
  enrolled _ p e = e

  borrowers-step : (x : Command) → refusal H o x ≡ None → (l : ℕ) (r : LoanFacts) → loan_after H x l (loan_of H l) ≡ Some r
      → patron_after x r.patron (patron_of H r.patron) ≡ None → ⊥
  borrowers-step (CheckOut p n b) ok l r e none = go (next_loan H == l) e
    where
      k : not (has_patron H p) ≡ false
      k = (passed (checks H o (CheckOut p n b)) ok check.UnknownPatron)

      go : (x : Bool) → cond x (Some
          (record { copy = n; patron = p; branch = b; made = today H; terms = unwrap_or (terms_for H p n) no_terms }))
          (loan_of H l) ≡ Some r → ⊥
      go true f =
          let same : ◌≡◌ {A = LoanFacts} (record { copy = n; patron = p; branch = b; made = today H; terms = unwrap_or (terms_for H p n) no_terms }) r = cc in
          some-not (patron_of H p) k (ap (λ m. patron_of H m) (ap (λ y. y.patron) same) ∙ none)
      go false f = inv.borrowers l r f none
  borrowers-step x ok l r e none = inv.borrowers l r e (enrolled x r.patron none)

  -- Lines of others.
  line-other : (q p : ℕ) (s : Sort) (l : Option ℕ) (remark : Option Note) (n : ℕ) → (q ≡ p → ⊥)
      → filter (λ x. x.patron == p) (noted_line H q s l remark n) ≡ []
  line-other q p s l remark zero ne = refl
  line-other q p s l remark (suc n) ne = go (q == p) refl
    where
      go : (x : Bool) → (q == p) ≡ x → cond {A = List Line} x (record { patron = q; day = today H; sort = s; amount = suc n; loan = l; note = remark } ∷ []) [] ≡ []
      go true e = absurd (ne (eqb-true q p e))
      go false e = refl

  borrower-other : (c l p : ℕ) → place H c ≡ Loan l → patron_of H p ≡ None → borrower H l ≡ p → ⊥
  borrower-other c l p at none same =
      let r : (r : LoanFacts) × (loan_of H l ≡ Some r) × (r.copy ≡ c) × (ended H l ≡ None) = loans_ok.on_loan c l at in
      let who : borrower H l ≡ r.0.patron = ap (λ y. unwrap_or (option_map (λ z. z.patron) y) 0) r.1 in
      inv.borrowers l r.0 r.1 (ap (λ m. patron_of H m) (sym who ∙ same) ∙ none)

  fine-other : (c p : ℕ) (at : Place) → place H c ≡ at → patron_of H p ≡ None → filter (λ x. x.patron == p) (fine_line H (grace_of H) at) ≡ []
  fine-other c p (Loan l) at none = line-other (borrower H l) p Fine (Some l) None (fine_now H (grace_of H) l) (borrower-other c l p at none)
  fine-other c p _ at none = refl

  price-other : (c p : ℕ) (at : Place) → place H c ≡ at → patron_of H p ≡ None → filter (λ x. x.patron == p) (price_line H c at) ≡ []
  price-other c p (Loan l) at none = line-other (borrower H l) p Price (Some l) None (price_of H c) (borrower-other c l p at none)
  price-other c p _ at none = refl

  grown : (p : ℕ) (more : List Line) → patron_of H p ≡ None → filter (λ x. x.patron == p) more ≡ [] → filter (λ x. x.patron == p) (lines H ++ more) ≡ []
  grown p more none e = filter-append (λ x. x.patron == p) (lines H) more ∙ ap (λ xs. xs ++ filter (λ x. x.patron == p) more) (inv.strangers p none) ∙ e

  paid-other : (q p : ℕ) → not (has_patron H q) ≡ false → patron_of H p ≡ None → q ≡ p → ⊥
  paid-other q p has none same = some-not (patron_of H q) has (ap (λ m. patron_of H m) same ∙ none)

  -- A patron who isn't enrolled has no line after a posting either.
  strangers-then : (x : Command) (made : Posting) → posting x ≡ made → refusal H o x ≡ None → (p : ℕ) → patron_of H p ≡ None
      → filter (λ y. y.patron == p) (lines_after H made (lines H)) ≡ []
  strangers-then x (Returned c) e ok p none = grown p (fine_line H (grace_of H) (place H c)) none (fine-other c p (place H c) refl none)
  strangers-then x (Lost c) e ok p none =
      grown p (fine_line H (grace_of H) (place H c) ++ price_line H c (place H c)) none
      (filter-append (λ x. x.patron == p) (fine_line H (grace_of H) (place H c)) (price_line H c (place H c))
      ∙ ap (λ xs. xs ++ filter (λ x. x.patron == p) (price_line H c (place H c))) (fine-other c p (place H c) refl none)
      ∙ price-other c p (place H c) refl none)
  strangers-then x (Settled q sort remark n) e ok p none =
      grown p (noted_line H q sort None remark n) none (line-other q p sort None remark n (paid-other q p (settling H o x q n sort remark ok e).patron none))
  strangers-then x (Charged q remark n) e ok p none =
      grown p (noted_line H q ChargeSort None (Some remark) n) none
      (line-other q p ChargeSort None (Some remark) n (paid-other q p (charging H o x q n remark ok e).patron none))
  strangers-then x NoPosting e ok p none = inv.strangers p none

  strangers-step : (x : Command) → refusal H o x ≡ None → (p : ℕ) → patron_after x p (patron_of H p) ≡ None
      → filter (λ y. y.patron == p) (lines_after H (posting x) (lines H)) ≡ []
  strangers-step x ok p none = strangers-then x (posting x) refl ok p (enrolled x p none)

pub legal-AccountLaws : (H : History) → IsLegal H → AccountLaws H
legal-AccountLaws [] legal = record { borrowers = λ l r e. let never : ⊥ = cc in absurd never; strangers = λ p e. refl }
legal-AccountLaws (e ∷ H) legal =
    let inv : AccountLaws H = legal-AccountLaws H legal.1 in
    let laws : LoanLaws H = legal-LoanLaws H legal.1 in
    record {
      borrowers = borrowers-step H inv laws e.owner e.command legal.0.unrefused;
      strangers = strangers-step H inv laws e.owner e.command legal.0.unrefused;
    }
