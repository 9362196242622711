use Rattle.std.proofs.Common.{◌≡◌, ℕ, ◌+◌, ◌<◌, List, [], ◌∷◌, ◌++◌, length, take, sym, ◌∙◌, ap, subst, arith}
use Rattle.std.proofs.lemmas.List.{take_all, take_more}
use Rattle.terms.specs.declared.row.CopyRow.{CopyRow}
use Rattle.desk.specs.Touching.{Adds, HasLoanAmong}
use Rattle.desk.proofs.Looking.{◌⨾◌, gives, fails}
use Rattle.desk.proofs.TitleReaders.{borrowers-then}
use Rattle.desk.proofs.readers.add_borrowers.Goals as goal

pub returns-in_err-add_borrower : goal.returns-in_err-add_borrower
returns-in_err-add_borrower g c = fails _ c.from_residual.ensures (c.copies.invariant ⨾ c.in_err-add_borrower.ensures) (λ _ _ _. (tt, λ _. tt))

pub copies-preserved : goal.copies-preserved
copies-preserved g c =
    let xs : List CopyRow = c.args.copies.now in
    let i : ℕ = c.copies.copy-index in
    let r : CopyRow = c.copy-item.result in
    let within : i < length xs = omega (arith, c.copies-test.true) in
    let more : take (i + 1) xs ≡ take i xs ++ r ∷ [] = take_more xs i r within ∙ ap (λ x. take i xs ++ x ∷ []) (sym c.copy-item.is) in
    gives (c.copies.invariant ⨾ c.in_ok-add_borrower.ensures) (λ _ _ _. (tt, λ _. tt))
    (λ H legal _ is. subst (λ (rows : List CopyRow). Adds (HasLoanAmong H rows) c.args.readers.now c.add_borrower.new.readers) (sym more)
    (borrowers-then H (take i xs) r c.args.readers.now c.copies.readers c.add_borrower.new.readers is.0 is.1))

pub returns : goal.returns
returns g c = gives c.copies.invariant (λ _ _ _. tt)
    (λ H legal _ is. subst (λ (rows : List CopyRow). Adds (HasLoanAmong H rows) c.args.readers.now c.copies.readers)
    (take_all c.copies.copy-index c.args.copies.now c.copies-test.false) is)
