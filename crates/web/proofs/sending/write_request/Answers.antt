use Rattle.std.proofs.Common.{rules}
use Rattle.terms.proofs.Fronts.{front-after, front-before, second-out, second-failed}
use Rattle.web.proofs.AnswerLemmas.{on-err-any, writes-as}
use Rattle.web.proofs.sending.write_request.Goals as goal

pub returns-in_err-write_start : goal.returns-in_err-write_start
returns-in_err-write_start g c = record {
  all = search rules;
  front = on-err-any c.from_residual.result (front-before _ _ _ _ c.in_err-write_start.ensures.front);
}

pub returns-in_err-write_fields : goal.returns-in_err-write_fields
returns-in_err-write_fields g c = record {
  all = search rules;
  front = on-err-any c.from_residual-in_err-write_fields.result
      (front-after _ _ _ _ _ c.in_ok-write_start.ensures.all (front-before _ _ _ _ c.in_err-write_fields.ensures.front));
}

pub returns : goal.returns
returns g c =
    let last = writes-as c.write_bytes.result _ _ _ _ c.as_bytes.ensures.value c.write_bytes.ensures in
    record {
      all = second-out c.write_bytes.result _ _ _ _ _ c.in_ok-write_start.ensures.all
          (second-out c.write_bytes.result _ _ _ _ _ c.in_ok-write_fields.ensures.all last.all);
      front = second-failed c.write_bytes.result _ _ _ _ _ c.in_ok-write_start.ensures.all
          (second-failed c.write_bytes.result _ _ _ _ _ c.in_ok-write_fields.ensures.all last.front);
    }
