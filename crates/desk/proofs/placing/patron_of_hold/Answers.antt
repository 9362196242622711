use Rattle.std.proofs.Common.{◌≡◌, sym, ◌∙◌, ap, subst}
use Rattle.std.specs.Prelude.{Some, IfSome, is_some, option_map, true}
use Rattle.model.specs.Picture.{picture}
use Rattle.model.specs.Places.{patron_of_hold}
use Rattle.model.proofs.RowRanges.{legal-rows}
use Rattle.desk.proofs.Looking.{looked, gives, fails, damaged}
use Rattle.desk.proofs.Owning.{hold-in}
use Rattle.desk.proofs.Placings.{hold-patron}
use Rattle.desk.proofs.placing.patron_of_hold.Goals as goal

pub returns-in_err-row : goal.returns-in_err-row
returns-in_err-row g c = fails _ c.from_residual.ensures
    (looked c.in_err-row.ensures (λ H legal forms. hold-in H legal forms _) legal-rows) (λ _ _ _. tt)

pub returns-in-Some-2 : goal.returns-in-Some-2
returns-in-Some-2 g c = gives (looked c.in_ok-row.ensures (λ H legal forms. hold-in H legal forms _) legal-rows) (λ _ _ _. tt)
    (λ H legal there found.
    let row = hold-patron H c.in-Some.number c.in-Some-2.row (sym found ∙ c.in-Some-2.is) in
    ap Some (sym row) ∙ sym (ap (λ o. option_map (patron_of_hold H) o) c.in-Some.is))

pub returns-in-None : goal.returns-in-None
returns-in-None g c = damaged (looked c.in_ok-row.ensures (λ H legal forms. hold-in H legal forms _) legal-rows) (λ _ _ _. tt)
    (λ H list there found.
    let known : is_some ((picture H).holds c.in-Some.number) ≡ true = subst (λ o. IfSome o (λ h. is_some ((picture H).holds h) ≡ true)) c.in-Some.is there in
    let none = sym known ∙ ap is_some (sym found ∙ c.in-None.is) in
    let never : ⊥ = cc in never)
