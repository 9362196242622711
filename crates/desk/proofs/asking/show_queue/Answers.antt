use Rattle.std.proofs.Common.{refl, sym, ◌∙◌, ap}
use Rattle.terms.specs.declared.row.MetaRow.{MetaRow}
use Rattle.model.proofs.RowRanges.{legal-rows}
use Rattle.std.specs.Prelude.{is_some}
use Rattle.terms.specs.declared.refusal.Refusal.TheVariants.{UnknownTitle}
use Rattle.model.specs.Asking.{listed, queue_list}
use Rattle.model.specs.History.{title_of}
use Rattle.desk.specs.Asking.{reply_if}
use Rattle.desk.proofs.Looking.{looked, ◌⨾◌, learns-on, fails}
use Rattle.desk.proofs.Replies.{queue-answer}
use Rattle.desk.proofs.asking.show_queue.Goals as goal

pub returns-in_err-meta : goal.returns-in_err-meta
returns-in_err-meta g c = fails _ c.from_residual.ensures (looked c.in_err-meta.ensures legal-rows legal-rows) (λ _ _ _. tt)

pub returns : goal.returns
returns g c = learns-on (looked c.in_ok-meta.ensures legal-rows legal-rows ⨾ c.show_of_title.ensures)
    (λ H list given. (tt, λ is. (ap (λ (row : MetaRow). row.today) is, refl)))
    (λ H legal given reply is owner. is.1
    ∙ ap (λ n. reply_if (is_some (title_of H c.args.title)) UnknownTitle (listed (queue_list H c.args.title) n)) c.number.ensures.value
    ∙ sym (queue-answer H owner c.args.title c.args.after))
