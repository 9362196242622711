use Rattle.std.proofs.Common.{rules}
use Rattle.terms.proofs.Fronts.{failed-first, second-failed, second-out}
use Rattle.circ.proofs.checking.write_check_end.Goals as goal

pub returns-in_err-write_end : goal.returns-in_err-write_end
returns-in_err-write_end g c = record {
  all = search rules;
  front = failed-first c.from_residual.result _ _ _ _ (rw c.end_of.ensures at c.in_err-write_end.ensures.front);
}

pub returns : goal.returns
returns g c = record {
  all = second-out c.write_checked.result _ _ _ _ _ (rw c.end_of.ensures at c.in_ok-write_end.ensures.all) c.write_checked.ensures.all;
  front = second-failed c.write_checked.result _ _ _ _ _ (rw c.end_of.ensures at c.in_ok-write_end.ensures.all) c.write_checked.ensures.front;
}
