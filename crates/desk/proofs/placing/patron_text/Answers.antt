use Rattle.std.proofs.Common.{sym, ◌∙◌, ap}
use Rattle.std.specs.Prelude.{is_some}
use Rattle.model.proofs.RowRanges.{legal-rows}
use Rattle.desk.proofs.Looking.{looked, ◌⨾◌, gives, stops, fails, damaged}
use Rattle.desk.proofs.Owning.{patron-in}
use Rattle.desk.proofs.Placings.{patron-there, patron-words}
use Rattle.desk.proofs.placing.patron_text.Goals as goal

pub returns-in_err-row : goal.returns-in_err-row
returns-in_err-row g c = fails _ c.from_residual-in_err-row.ensures
    (c.in_ok-patron.ensures ⨾ looked c.in_err-row.ensures (λ H legal forms. patron-in H legal forms _) legal-rows) (λ H list here. (here, λ _. tt))

pub returns-in_err-after_place-in-Some-2 : goal.returns-in_err-after_place-in-Some-2
returns-in_err-after_place-in-Some-2 g c = stops _ c.from_residual-in_err-after_place-in-Some-2.ensures
    (c.in_ok-patron.ensures ⨾ looked c.in_ok-row.ensures (λ H legal forms. patron-in H legal forms _) legal-rows)

pub returns-in_ok-after_place-in-Some-2 : goal.returns-in_ok-after_place-in-Some-2
returns-in_ok-after_place-in-Some-2 g c =
    gives (c.in_ok-patron.ensures ⨾ looked c.in_ok-row.ensures (λ H legal forms. patron-in H legal forms _) legal-rows) (λ H list here. (here, λ _. tt))
    (λ H legal here is. c.in_ok-after_place-in-Some-2.ensures ∙ patron-words H c.in-Some.patron _ c.in-Some-2.row (sym is.0 ∙ c.in-Some.is) (sym is.1
    ∙ c.in-Some-2.is))

pub returns-in-None : goal.returns-in-None
returns-in-None g c =
    damaged (c.in_ok-patron.ensures ⨾ looked c.in_ok-row.ensures (λ H legal forms. patron-in H legal forms _) legal-rows) (λ H list here. (here, λ _. tt))
    (λ H list here is.
    let there = patron-there H list.0 c.args.copy c.in-Some.patron (sym is.0 ∙ c.in-Some.is) in
    let none = sym there ∙ ap is_some (sym is.1 ∙ c.in-None.is) in
    let never : ⊥ = cc in never)
