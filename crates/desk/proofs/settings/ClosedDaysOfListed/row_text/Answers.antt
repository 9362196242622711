use Rattle.desk.proofs.Looking.{idle, gives}
use Rattle.desk.proofs.SettingRows.{closed-day-listed}
use Rattle.desk.proofs.settings.ClosedDaysOfListed.row_text.Goals as goal

pub returns : goal.returns
returns g c = gives idle (λ _ _ _. tt) (λ H legal given none. (
  closed-day-listed H c.args.self.now.branch c.args.self.now.today c.args.row.now given.0 given.1.0 given.1.1,
  c.in_ok-closed_day_row.ensures,
))
