use Rattle.std.proofs.Common.{◌≤◌, arith}
use Rattle.model.proofs.RowRanges.{legal-rows}
use Rattle.desk.proofs.Looking.{looked, learns-on}
use Rattle.desk.proofs.SettingRows.{closed-days-batch}
use Rattle.desk.proofs.settings.ClosedDaysOfListed.batch.Goals as goal

pub returns : goal.returns
returns g c = learns-on (looked c.closed_days_after.ensures legal-rows legal-rows) (λ _ _ _. tt)
    (λ H legal now rows batch.
    let after : c.args.after ≤ c.later_of-from.result = c.later_of-from.ensures.after in
    let today : c.args.self.now.today ≤ c.later_of-from.result = c.later_of-from.ensures.today in
    closed-days-batch H c.args.self.now.branch c.args.self.now.today c.args.after c.later_of-from.result now
    (λ d more. (omega (arith, today, more), omega (arith, after, more))) c.later_of-from.ensures.least rows.items batch)
