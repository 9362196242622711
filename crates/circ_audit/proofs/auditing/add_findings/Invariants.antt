use Rattle.std.proofs.Common.{◌-◌, length}
use Rattle.circ_audit.specs.declared.auditing.TheConstants.{MOST_FINDINGS}
use Rattle.circ_audit.specs.Findings.{AreFindingsBefore, place_of_part}
use Rattle.circ_audit.proofs.Found.{from_of}
use Rattle.circ_audit.proofs.auditing.add_findings.Given as goal

abbrev pub invariant-loop-part : goal.invariant-loop-part
invariant-loop-part l = AreFindingsBefore l.tables (place_of_part l.part) (from_of l.after) l.found.items

abbrev pub decreases-loop-part : goal.decreases-loop-part
decreases-loop-part l = MOST_FINDINGS - length l.found.items
