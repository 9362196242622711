use Rattle.std.proofs.Common.{rules}
use Rattle.desk.proofs.Looking.{on-err-any}
use Rattle.terms.proofs.Fronts.{failed-first, front-after}
use Rattle.circ.proofs.importing.tell_end.Goals as goal

pub returns-in_err-write_end : goal.returns-in_err-write_end
returns-in_err-write_end g c = record {
  exit_is = search rules;
  writes = record { all = search rules; front = failed-first c.from_residual.result _ _ _ _ c.in_err-write_end.ensures.front };
}

pub returns-in_err-write_counts : goal.returns-in_err-write_counts
returns-in_err-write_counts g c = record {
  exit_is = search rules;
  writes = record {
    all = search rules;
    front = on-err-any c.from_residual-in_err-write_counts.result
        (front-after _ _ _ _ _ c.in_ok-write_end.ensures.all c.in_err-write_counts.ensures.front);
  };
}
