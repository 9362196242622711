use Rattle.std.proofs.Common.{◌++◌, ◌∷◌, sym, ◌∙◌, ap₂}
use Rattle.desk.proofs.Looking.{idle, ◌⨾◌, gives, stops, fails, damaged}
use Rattle.desk.proofs.Placings.{place-told, place-at, copy-line}
use Rattle.desk.proofs.Sound.{copy-title}
use Rattle.desk.proofs.placing.copy_text.Goals as goal

pub returns-in_default : goal.returns-in_default
returns-in_default g c = damaged idle (λ _ _ _. tt) (λ H list given none.
    let it = place-told H list.0 list.1 c.args.row.now.copy c.args.row.now c.args.rows.now given.0 given.1 in
    c.in_default.not-Some it.0 (c.place_of.ensures ∙ it.1))

pub returns-in_err-title : goal.returns-in_err-title
returns-in_err-title g c = fails _ c.from_residual.ensures c.in_err-title.ensures
    (λ H list given. copy-title H list.0 c.args.row.now.copy c.args.row.now given.0)

pub returns-in_err-line : goal.returns-in_err-line
returns-in_err-line g c = fails _ c.from_residual-in_err-line.ensures (c.in_ok-title.ensures ⨾ c.in_err-line.ensures) (λ H list given. (
  copy-title H list.0 c.args.row.now.copy c.args.row.now given.0,
  λ _. place-at H list.0 list.1 c.args.row.now.copy c.args.row.now c.args.rows.now c.in-Some.place given.0 given.1 (sym c.place_of.ensures ∙ c.in-Some.is),
))

pub returns-in_err-add_line : goal.returns-in_err-add_line
returns-in_err-add_line g c = stops _ c.from_residual-in_err-add_line.ensures (c.in_ok-title.ensures ⨾ c.in_ok-line.ensures)

pub returns : goal.returns
returns g c = gives (c.in_ok-title.ensures ⨾ c.in_ok-line.ensures) (λ H list given. (
  copy-title H list.0 c.args.row.now.copy c.args.row.now given.0,
  λ _. place-at H list.0 list.1 c.args.row.now.copy c.args.row.now c.args.rows.now c.in-Some.place given.0 given.1 (sym c.place_of.ensures ∙ c.in-Some.is),
)) (λ H legal given is.
    c.in_ok-add_line.ensures
    ∙ ap₂ (λ a b. a ++ (10 ∷ b)) (c.in_ok-text.ensures ∙ copy-line H c.args.row.now.copy c.args.row.now c.in_ok-title.title given.0 is.0)
    (c.deref.ensures ∙ is.1))
