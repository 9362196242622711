use Rattle.std.proofs.Common.{◌≡◌, drop}
use Rattle.model.specs.Checks.{first_failing}
use Rattle.circ_core.proofs.checks.first_refusal.Given as goal

abbrev pub invariant-loop-refusal : goal.invariant-loop-refusal
invariant-loop-refusal l = first_failing l.checks ≡ first_failing (drop l.refusal-index l.checks)
