use Rattle.std.proofs.Common.{sym, ◌∙◌}
use Rattle.model.proofs.Invariants.{legal-Invariant}
use Rattle.desk.proofs.Looking.{◌⨾◌, gives, stops, fails}
use Rattle.desk.proofs.ListNumbers.{pulls-to, not-pulled}
use Rattle.desk.proofs.ListRows.{pull-text}
use Rattle.desk.proofs.Sound.{hold-title}
use Rattle.desk.proofs.lists.PullsAtListed.row_text.Goals as goal

pub returns-in_err-copy : goal.returns-in_err-copy
returns-in_err-copy g c = fails _ c.from_residual.ensures c.in_err-copy.ensures (λ H list given. (given.0, given.1.0))

pub returns-in_default : goal.returns-in_default
returns-in_default g c = gives c.in_ok-copy.ensures (λ H list given. (given.0, given.1.0))
    (λ H legal given is. not-pulled H c.args.self.now.branch c.args.row.now.hold (sym is ∙ c.in_default.is))

pub returns-in_err-title : goal.returns-in_err-title
returns-in_err-title g c = fails _ c.from_residual-in_err-title.ensures (c.in_ok-copy.ensures ⨾ c.in_err-title.ensures)
    (λ H list given. ((given.0, given.1.0), λ _. hold-title H list.0 c.args.row.now.hold c.args.row.now given.1.0))

pub returns-in_err-pull_row : goal.returns-in_err-pull_row
returns-in_err-pull_row g c = stops _ c.from_residual-in_err-pull_row.ensures (c.in_ok-copy.ensures ⨾ c.in_ok-title.ensures)

pub returns : goal.returns
returns g c = gives (c.in_ok-copy.ensures ⨾ c.in_ok-title.ensures)
    (λ H list given. ((given.0, given.1.0), λ _. hold-title H list.0 c.args.row.now.hold c.args.row.now given.1.0)) (λ H legal given is. (
      pulls-to H (legal-Invariant H legal) c.args.self.now.branch c.in-Some.copy c.args.row.now given.1.0 (sym is.0 ∙ c.in-Some.is),
      c.in_ok-pull_row.ensures
          ∙ pull-text H c.args.self.now.branch c.in-Some.copy c.args.row.now c.in_ok-title.title given.1.0 (sym is.0 ∙ c.in-Some.is) is.1,
    ))
