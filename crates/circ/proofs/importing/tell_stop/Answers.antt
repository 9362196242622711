use Rattle.std.proofs.Common.{rules}
use Rattle.desk.proofs.Looking.{on-err-any}
use Rattle.terms.proofs.Fronts.{failed-first, front-after}
use Rattle.circ.proofs.importing.tell_stop.Goals as goal

pub returns-in_err-tell_fault : goal.returns-in_err-tell_fault
returns-in_err-tell_fault g c = record {
  exit_is = search rules;
  writes = record { all = search rules; front = failed-first c.from_residual.result _ _ _ _ c.in_err-tell_fault.ensures.writes.front };
}

pub returns-in_err-write_counts : goal.returns-in_err-write_counts
returns-in_err-write_counts g c = record {
  exit_is = search rules;
  writes = record {
    all = search rules;
    front = on-err-any c.from_residual-in_err-write_counts.result
        (front-after _ _ _ _ _ c.in_ok-tell_fault.ensures.writes.all c.in_err-write_counts.ensures.front);
  };
}
