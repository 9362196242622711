use Rattle.std.proofs.Common.{◌∙◌}
use Rattle.model.proofs.Invariants.{legal-Invariant}
use Rattle.model.proofs.References.{legal-references}
use Rattle.desk.proofs.Looking.{gives, stops, fails}
use Rattle.desk.proofs.ListNumbers.{transits-to}
use Rattle.desk.proofs.ListRows.{travel-row}
use Rattle.desk.proofs.lists.TransitsToListed.row_text.Goals as goal

pub returns-in_err-title : goal.returns-in_err-title
returns-in_err-title g c = fails _ c.from_residual.ensures c.in_err-title.ensures
    (λ H list given. (legal-references H list.0).transit_copy c.args.row.now.copy c.args.row.now given.1.0)

pub returns-in_err-travel_row : goal.returns-in_err-travel_row
returns-in_err-travel_row g c = stops _ c.from_residual-in_err-travel_row.ensures c.in_ok-title.ensures

pub returns : goal.returns
returns g c = gives c.in_ok-title.ensures (λ H list given. (legal-references H list.0).transit_copy c.args.row.now.copy c.args.row.now given.1.0)
    (λ H legal given is. (
      transits-to H (legal-Invariant H legal) c.args.self.now.branch c.args.row.now given.1.0 given.1.1,
      c.in_ok-travel_row.ensures ∙ travel-row H c.args.self.now.branch c.args.row.now c.in_ok-title.title given.1.0 is,
    ))
