use Rattle.std.proofs.Common.{◌-◌}
use Rattle.circ_audit.specs.declared.numbers.Series.TheVariants as series
use Rattle.circ_audit.specs.declared.parts.Part.TheVariants as part
use Rattle.circ_audit.specs.Findings.{AreFindingsBefore, place_of_part}
use Rattle.circ_audit.proofs.auditing.audit_all.Given as goal

abbrev pub invariant-loop-found : goal.invariant-loop-found
invariant-loop-found l = AreFindingsBefore l.tables (place_of_part l.part) 0 l.found.items

abbrev pub decreases-loop-found : goal.decreases-loop-found
decreases-loop-found l = place_of_part (part.Numbers series.Lines) - place_of_part l.part
