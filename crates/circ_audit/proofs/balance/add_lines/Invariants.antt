use Rattle.std.proofs.Common.{◌*◌, ◌^◌, take}
use Rattle.circ_audit.specs.Rows.{charge, credit}
use Rattle.circ_audit.specs.Spans.{AreWithin, AddsRows}
use Rattle.circ_audit.proofs.balance.add_lines.Given as goal

abbrev pub invariant-loop-line : goal.invariant-loop-line
invariant-loop-line l = record {
  charges : AddsRows charge (take l.line-index l.lines) l.initial.charges l.charges;
  credits : AddsRows credit (take l.line-index l.lines) l.initial.credits l.credits;
  charged : AreWithin (l.line-index * 2 ^ 64) l.charges;
  credited : AreWithin (l.line-index * 2 ^ 64) l.credits;
}
