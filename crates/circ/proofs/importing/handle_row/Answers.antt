use Rattle.std.proofs.Common.{◌≡◌, ◌∙◌, ap, subst}
use Rattle.terms.specs.Texts.{request_text}
use Rattle.terms.specs.declared.command.Caller.TheVariants.{Desk}
use Rattle.terms.specs.declared.command.Request.{Request}
use Rattle.desk.specs.Answering.{Handled}
use Rattle.circ.specs.Importing.{request_of}
use Rattle.circ.proofs.importing.handle_row.Goals as goal

pub returns : goal.returns
returns g c =
    let is : record { caller = Desk; key = c.in_ok-key.key; command = c.from-command.result } ≡ request_of c.args.row =
    λ i. record { caller = Desk; key = (c.in_ok-key.ensures ∙ ap request_text c.from-command.ensures) i; command = c.from-command.ensures i } in
    subst (λ (r : Request). Handled r g.S.Store c.args.desk.now c.handle.new.self c.handle.result) is c.handle.ensures.handled
