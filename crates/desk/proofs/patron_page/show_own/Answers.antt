use Rattle.std.proofs.Common.{true, false, sym, ◌∙◌, ap}
use Rattle.terms.specs.declared.command.Owner.TheVariants.{Patron}
use Rattle.terms.specs.declared.command.Command.TheVariants.{Page}
use Rattle.terms.specs.declared.reply.Reply.{Reply}
use Rattle.terms.specs.declared.reply.Reply.TheVariants.{Refused}
use Rattle.terms.specs.declared.refusal.Refusal.TheVariants.{NotAllowed}
use Rattle.model.specs.Answers.{answer}
use Rattle.desk.proofs.Looking.{◌⨾◌, gives, fails, learns-on}
use Rattle.desk.proofs.PageFor.{shows-page}
use Rattle.desk.proofs.patron_page.show_own.Goals as goal

pub returns-in_err-shows_own_key : goal.returns-in_err-shows_own_key
returns-in_err-shows_own_key g c = shows-page c.args.patron c.args.card_key.now (fails _ c.from_residual.ensures c.in_err-shows_own_key.ensures (λ _ _ _. tt))

pub returns-then-not-branch : goal.returns-then-not-branch
returns-then-not-branch g c = shows-page c.args.patron c.args.card_key.now (gives c.in_ok-shows_own_key.ensures (λ _ _ _. tt) (λ H legal _ is.
    let known = sym is ∙ c.if-not-branch.true in
    sym (ap (λ b. elim b as (λ _. Reply) [ true ↦ answer H (Patron c.args.patron) (Page c.args.patron) | false ↦ Refused NotAllowed ]) known)))

pub returns : goal.returns
returns g c = shows-page c.args.patron c.args.card_key.now
    (learns-on (c.in_ok-shows_own_key.ensures ⨾ c.show.ensures) (λ _ _ _. (tt, λ _. tt)) (λ H legal _ reply is.
    let known = sym is.0 ∙ c.if-not-branch.false in
    is.1 (Patron c.args.patron)
    ∙ sym (ap (λ b. elim b as (λ _. Reply) [ true ↦ answer H (Patron c.args.patron) (Page c.args.patron) | false ↦ Refused NotAllowed ]) known)))
