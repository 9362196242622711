use Rattle.std.proofs.Common.{ℕ, List, [], ◌∷◌, ◌++◌, sym, subst}
use Rattle.std.specs.Prelude.{IfSome}
use Rattle.web.specs.Receiving.{IsAnswer}
use Rattle.circ.specs.Exits.{exit_for}
use Rattle.circ.specs.Sending.{TellsReceived}
use Rattle.circ.proofs.Sent.{line-written, an-answer}
use Rattle.circ.proofs.sending.receive.Goals as goal

pub returns-in-Ok : goal.returns-in-Ok
returns-in-Ok g c =
    let came = g.I.Read.remaining c.args.input.now in
    let body = c.as_str.result.now in
    let status = c.in-Ok.answer.status in
    line-written (TellsReceived came) (exit_for status) (body ++ 10 ∷ []) _ _ c.tell_answer.result
    (an-answer came status body
    (subst (λ (b : List ℕ). IfSome came (λ bytes. IsAnswer bytes status b)) (sym c.as_str.ensures.value) c.in-Ok.ensures))
    c.tell_answer.ensures
