use Rattle.std.proofs.Common.{rules}
use Rattle.desk.proofs.Looking.{on-err-any}
use Rattle.terms.proofs.Fronts.{failed-first, front-after}
use Rattle.circ.proofs.lines.tell_reply.Goals as goal

pub returns-in_err-write_reply : goal.returns-in_err-write_reply
returns-in_err-write_reply g c = record {
  exit_is = search rules;
  writes = record { all = search rules; front = failed-first c.from_residual.result _ _ _ _ c.in_err-write_reply.ensures.front };
}

pub returns-in_err-write_bytes : goal.returns-in_err-write_bytes
returns-in_err-write_bytes g c = record {
  exit_is = search rules;
  writes = record {
    all = search rules;
    front = on-err-any c.from_residual-in_err-write_bytes.result
        (front-after _ _ _ _ _ c.in_ok-write_reply.ensures.all c.in_err-write_bytes.ensures.front);
  };
}
