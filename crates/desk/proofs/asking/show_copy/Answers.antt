use Rattle.std.proofs.Common.{sym, ◌∙◌}
use Rattle.model.proofs.RowRanges.{legal-rows}
use Rattle.desk.proofs.Looking.{looked, ◌⨾◌, learns-on, fails}
use Rattle.desk.proofs.Replies.{copy-answer}
use Rattle.desk.proofs.asking.show_copy.Goals as goal

pub returns-in_err-rows : goal.returns-in_err-rows
returns-in_err-rows g c = fails _ c.from_residual.ensures (looked c.in_err-rows.ensures legal-rows legal-rows) (λ _ _ _. tt)

pub returns : goal.returns
returns g c = learns-on (looked c.in_ok-rows.ensures legal-rows legal-rows ⨾ c.reply_for_copy.ensures) (λ H list given. (tt, λ is. is))
    (λ H legal given reply is owner. is.1 ∙ sym (copy-answer H owner c.args.copy))
