use Rattle.std.proofs.Common.{refl, sym, ◌∙◌, ap}
use Rattle.terms.specs.declared.row.MetaRow.{MetaRow}
use Rattle.model.proofs.RowRanges.{legal-rows}
use Rattle.terms.specs.declared.refusal.Refusal.TheVariants.{UnknownBranch}
use Rattle.model.specs.Asking.{listed, closed_days_list}
use Rattle.model.specs.Refusals.{has_branch}
use Rattle.desk.specs.Asking.{reply_if}
use Rattle.desk.proofs.Looking.{looked, ◌⨾◌, learns-on, fails}
use Rattle.desk.proofs.Replies.{closed-days-answer}
use Rattle.desk.proofs.asking.show_closed_days.Goals as goal

pub returns-in_err-meta : goal.returns-in_err-meta
returns-in_err-meta g c = fails _ c.from_residual.ensures (looked c.in_err-meta.ensures legal-rows legal-rows) (λ _ _ _. tt)

pub returns : goal.returns
returns g c = learns-on (looked c.in_ok-meta.ensures legal-rows legal-rows ⨾ c.show_of_branch.ensures)
    (λ H list given. (tt, λ is. (ap (λ (row : MetaRow). row.today) is, refl)))
    (λ H legal given reply is owner. is.1
    ∙ ap (λ n. reply_if (has_branch H c.args.branch) UnknownBranch (listed (closed_days_list H c.args.branch) n)) c.number.ensures.value
    ∙ sym (closed-days-answer H owner c.args.branch c.args.after))
