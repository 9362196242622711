use Rattle.std.proofs.Common.{rules}
use Rattle.desk.proofs.Looking.{on-err-any}
use Rattle.terms.proofs.Fronts.{failed-first, front-after}
use Rattle.circ.proofs.checking.tell_parts.Goals as goal

pub returns-in_err-write_all_bad : goal.returns-in_err-write_all_bad
returns-in_err-write_all_bad g c = record {
  exit_is = search rules;
  writes = record { all = search rules; front = failed-first c.from_residual.result _ _ _ _ c.in_err-write_all_bad.ensures.front };
}

pub returns-in_err-write_check_end : goal.returns-in_err-write_check_end
returns-in_err-write_check_end g c = record {
  exit_is = search rules;
  writes = record {
    all = search rules;
    front = on-err-any c.from_residual-in_err-write_check_end.result
        (front-after _ _ _ _ _ c.in_ok-write_all_bad.ensures.all (rw c.count_of-count.ensures at c.in_err-write_check_end.ensures.front));
  };
}
