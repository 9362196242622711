use Rattle.std.proofs.Common.{rules}
use Rattle.terms.proofs.Fronts.{failed-first, second-out, second-failed}
use Rattle.circ.proofs.Halls.{both-told}
use Rattle.circ.proofs.serving.tell_end.Goals as goal

pub returns-in_err-tell_threads-in-false-Some : goal.returns-in_err-tell_threads-in-false-Some
returns-in_err-tell_threads-in-false-Some g c =
    both-told c.args.are_whole c.args.fault c.in-false-Some.fault _ _ c.from_residual.result c.in-false-Some.is-0 c.in-false-Some.is-1
    (record {
      exit_is = search rules;
      writes = record { all = search rules; front = failed-first c.from_residual.result _ _ _ _ c.in_err-tell_threads-in-false-Some.ensures.writes.front };
    })

pub returns-in_ok-tell_threads-in-false-Some : goal.returns-in_ok-tell_threads-in-false-Some
returns-in_ok-tell_threads-in-false-Some g c =
    both-told c.args.are_whole c.args.fault c.in-false-Some.fault _ _ c.tell_service_fault-in-false-Some.result c.in-false-Some.is-0
    c.in-false-Some.is-1 (record {
      exit_is = c.tell_service_fault-in-false-Some.ensures.exit_is;
      writes = record {
        all = second-out c.tell_service_fault-in-false-Some.result _ _ _ _ _ c.in_ok-tell_threads-in-false-Some.ensures.writes.all
            c.tell_service_fault-in-false-Some.ensures.writes.all;
        front = second-failed c.tell_service_fault-in-false-Some.result _ _ _ _ _ c.in_ok-tell_threads-in-false-Some.ensures.writes.all
            c.tell_service_fault-in-false-Some.ensures.writes.front;
      };
    })
