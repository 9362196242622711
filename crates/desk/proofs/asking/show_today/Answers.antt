use Rattle.std.proofs.Common.{◌∙◌, ap}
use Rattle.terms.specs.declared.reply.Reply.TheVariants.{Shown}
use Rattle.terms.specs.declared.row.MetaRow.{MetaRow}
use Rattle.model.proofs.RowRanges.{legal-rows}
use Rattle.desk.specs.Asking.{today_words}
use Rattle.desk.proofs.Looking.{looked, gives, stops, fails}
use Rattle.desk.proofs.asking.show_today.Goals as goal

pub returns-in_err-meta : goal.returns-in_err-meta
returns-in_err-meta g c = fails _ c.from_residual.ensures (looked c.in_err-meta.ensures legal-rows legal-rows) (λ _ _ _. tt)

pub returns-in_err-text : goal.returns-in_err-text
returns-in_err-text g c = stops _ c.from_residual-in_err-text.ensures (looked c.in_ok-meta.ensures legal-rows legal-rows)

pub returns : goal.returns
returns g c = gives (looked c.in_ok-meta.ensures legal-rows legal-rows) (λ _ _ _. tt)
    (λ H legal given is owner. c.shown.ensures ∙ ap Shown (c.in_ok-text.ensures ∙ ap (λ (row : MetaRow). today_words row.today) is))
