use Rattle.std.proofs.Common.{◌-◌, ◌<◌}
use Rattle.circ_audit.specs.declared.auditing.Finding.{Finding}
use Rattle.circ_audit.specs.declared.numbers.Series.TheVariants as series
use Rattle.circ_audit.specs.declared.parts.Part.TheVariants as part
use Rattle.circ_audit.specs.Findings.{Keeps, place_of, place_of_part}
use Rattle.circ_audit.proofs.auditing.audit.Given as goal

abbrev pub invariant-loop-number : goal.invariant-loop-number
invariant-loop-number l = (finding : Finding) → place_of finding < place_of_part l.part → Keeps l.tables finding

abbrev pub decreases-loop-number : goal.decreases-loop-number
decreases-loop-number l = place_of_part (part.Numbers series.Lines) - place_of_part l.part
