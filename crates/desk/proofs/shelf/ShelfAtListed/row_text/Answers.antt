use Rattle.std.proofs.Common.{◌∙◌}
use Rattle.model.proofs.Invariants.{legal-Invariant}
use Rattle.desk.proofs.Looking.{idle, gives, stops, fails, damaged}
use Rattle.desk.proofs.ShelfLists.{ready-lists}
use Rattle.desk.proofs.ShelfRows.{shelf-line}
use Rattle.desk.proofs.Sound.{hold-title, ready-copy, ready-limit}
use Rattle.desk.proofs.shelf.ShelfAtListed.row_text.Goals as goal

pub returns-in_default : goal.returns-in_default
returns-in_default g c = damaged idle (λ _ _ _. tt) (λ H list given _.
    let copy = ready-copy H list.0 c.args.row.now (given.1.0, given.1.1.1) in c.in_default.not-Some copy.0 copy.1)

pub returns-in_default-limit_day : goal.returns-in_default-limit_day
returns-in_default-limit_day g c = damaged idle (λ _ _ _. tt) (λ H list given _.
    let until = ready-limit H list.0 list.1 c.args.row.now (given.1.0, given.1.1.1) in c.in_default-limit_day.not-Some until.0 until.1)

pub returns-in_err-title : goal.returns-in_err-title
returns-in_err-title g c = fails _ c.from_residual.ensures c.in_err-title.ensures
    (λ H list given. hold-title H list.0 c.args.row.now.hold c.args.row.now given.1.0)

pub returns-in_err-shelf_row : goal.returns-in_err-shelf_row
returns-in_err-shelf_row g c = stops _ c.from_residual-in_err-shelf_row.ensures c.in_ok-title.ensures

pub returns : goal.returns
returns g c = gives c.in_ok-title.ensures (λ H list given. hold-title H list.0 c.args.row.now.hold c.args.row.now given.1.0) (λ H legal given titled. (
  ready-lists H (legal-Invariant H legal) c.args.self.now.branch c.args.row.now given.1.0 given.1.1,
  c.in_ok-shelf_row.ensures
      ∙ shelf-line H c.args.row.now c.in-Some.copy c.in-Some-limit_day.limit_day c.in_ok-title.title given.1.0 c.in-Some.is c.in-Some-limit_day.is titled,
))
