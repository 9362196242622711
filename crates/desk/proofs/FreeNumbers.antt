-- After a legal history no loan, hold or line has the next number or a later one.
use Rattle.std.proofs.Common.{◌≡◌, ℕ, ◌+◌, ◌≤◌, ◌<◌, zero, suc, List, [], ◌∷◌, length, refl, ap, arith}
use Rattle.std.specs.Prelude.{Option, Some, None, option_map, option_and_then}
use Rattle.terms.specs.declared.row.MetaRow.{MetaRow}
use Rattle.store.specs.Numbers.{AreFree}
use Rattle.model.specs.Accounts.{Line, lines, nth_line}
use Rattle.model.specs.History.{History, loans, HoldFacts, holds, hold_of}
use Rattle.model.specs.Loans.{LoanFacts, loan_of}
use Rattle.model.specs.Picture.{picture, loan_row, loan_columns, hold_row, hold_columns, line_columns}
use Rattle.model.specs.Requests.{IsLegal}
use Rattle.model.proofs.Legal.{legal-bound}
use Rattle.model.proofs.LoanLaws.{legal-LoanLaws}

loan-none : (H : History) → IsLegal H → (l : ℕ) → loans H + 1 ≤ l → loan_row H l ≡ None
loan-none H legal l past = go (loan_of H l) refl
  where
    go : (o : Option LoanFacts) → loan_of H l ≡ o → loan_row H l ≡ None
    go None e = ap (option_map (loan_columns H l)) e
    go (Some r) e = let made : (1 ≤ l) × (l ≤ loans H) = (legal-LoanLaws H legal).made_loan l r e in absurd (omega (arith, made.1, past))

hold-none : (H : History) → IsLegal H → (h : ℕ) → holds H + 1 ≤ h → hold_row H h ≡ None
hold-none H legal h past = go (hold_of H h) refl
  where
    go : (o : Option HoldFacts) → hold_of H h ≡ o → hold_row H h ≡ None
    go None e = ap (option_and_then (λ s. option_map (hold_columns H h s) (hold_of H h))) ((legal-bound H legal).unplaced h e)
    go (Some r) e = let made : (1 ≤ h) × (h ≤ holds H) = (legal-LoanLaws H legal).made_hold h r e in absurd (omega (arith, made.1, past))

nth-none : (xs : List Line) (n : ℕ) → length xs < n → nth_line xs n ≡ None
nth-none [] n past = refl
nth-none (x ∷ xs) zero past = refl
nth-none (x ∷ xs) (suc zero) past = absurd (omega (arith, past))
nth-none (x ∷ xs) (suc (suc n)) past = nth-none xs (suc n) (omega (arith, past))

-- So each number that can be given is free.
pub legal-free : (H : History) → IsLegal H → (after : MetaRow) → AreFree (picture H) after
legal-free H legal after = record {
  loans = λ l low high. loan-none H legal l low;
  holds = λ h low high. hold-none H legal h low;
  lines = λ n low high. ap (option_map (line_columns H n)) (nth-none (lines H) n (omega (arith, low)));
}
