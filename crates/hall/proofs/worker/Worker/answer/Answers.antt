use Rattle.std.proofs.Common.{sym, subst, rules}
use Rattle.std.specs.Prelude.{Some}
use Rattle.web.specs.declared.answer.Answer.TheVariants.{Refused}
use Rattle.web.specs.declared.asked.Asked.{Asked}
use Rattle.terms.specs.declared.refusal.Refusal.TheVariants.{NotAllowed}
use Rattle.hall.specs.Serving.{MeetsAsked}
use Rattle.hall.proofs.Replies.{nothing-met, page-met, desk-page-met}
use Rattle.hall.proofs.worker.Worker.answer.Goals as goal

pub returns-in-Nothing : goal.returns-in-Nothing
returns-in-Nothing g c =
    subst (λ (a : Asked). MeetsAsked a c.args.self.now c.args.self.now (Some (Refused NotAllowed))) (sym c.in-Nothing.is) (nothing-met c.args.self.now)

pub returns-in-Page : goal.returns-in-Page
returns-in-Page g c =
    let e = c.answer_from_board.ensures in
    subst (λ (a : Asked). MeetsAsked a c.args.self.now c.answer_from_board.new.self (Some c.answer_from_board.result)) (sym c.in-Page.is)
    (page-met c.args.self.now c.answer_from_board.new.self c.answer_from_board.result e.on e.same c.in-Page.patron c.in-Page.card_key e.told)

pub returns-in-Some : goal.returns-in-Some
returns-in-Some g c =
    let b = c.answer_from_board-in-Some in
    subst (λ (a : Asked). MeetsAsked a c.args.self.now b.new.self (Some b.result)) (sym c.in-Request.is)
    (desk-page-met c.args.self.now b.new.self b.result b.ensures.on b.ensures.same c.in-Some.patron c.in-Request.request (search rules) b.ensures.told)
