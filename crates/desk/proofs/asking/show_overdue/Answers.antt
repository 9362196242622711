use Rattle.std.proofs.Common.{refl, sym, ◌∙◌, ap}
use Rattle.std.specs.Prelude.{None}
use Rattle.terms.specs.declared.refusal.Refusal.TheVariants.{UnknownBranch}
use Rattle.model.specs.Asking.{listed, overdue_list}
use Rattle.model.specs.Refusals.{has_branch}
use Rattle.desk.specs.Asking.{reply_if}
use Rattle.desk.proofs.Looking.{◌⨾◌, learns-on, gives, fails}
use Rattle.desk.proofs.Replies.{overdue-answer, branch-there, refused-if}
use Rattle.desk.proofs.asking.show_overdue.Goals as goal

pub returns-in_err-lender : goal.returns-in_err-lender
returns-in_err-lender g c = fails _ c.from_residual.ensures c.in_err-lender.ensures (λ _ _ _. tt)

pub returns-in-Some : goal.returns-in-Some
returns-in-Some g c = learns-on (c.in_ok-lender.ensures ⨾ c.show_of_branch.ensures)
    (λ H list given. (tt, λ is. let lender = rw c.in-Some.is at is in (lender.2, refl)))
    (λ H legal given reply is owner.
    let lender = rw c.in-Some.is at is.0 in
    is.1 ∙ ap (λ n. reply_if (has_branch H c.args.branch) UnknownBranch (listed (overdue_list H c.in-Some.lender.branch) n)) c.number.ensures.value
    ∙ ap (λ b. reply_if (has_branch H c.args.branch) UnknownBranch (listed (overdue_list H b) c.args.after)) lender.1
    ∙ sym (overdue-answer H owner c.args.branch c.args.after))

pub returns-in-None : goal.returns-in-None
returns-in-None g c = gives c.in_ok-lender.ensures (λ _ _ _. tt) (λ H legal given is owner.
    refused-if H _ _ _ (branch-there H c.args.branch None (sym (rw c.in-None.is at is))) ∙ sym (overdue-answer H owner c.args.branch c.args.after))
