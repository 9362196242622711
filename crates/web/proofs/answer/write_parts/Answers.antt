use Rattle.std.proofs.Common.{rules}
use Rattle.terms.proofs.Fronts.{front-after, front-before, second-out, second-failed}
use Rattle.web.proofs.AnswerLemmas.{on-err-any}
use Rattle.web.proofs.answer.write_parts.Goals as goal

pub returns-in_err-write_start : goal.returns-in_err-write_start
returns-in_err-write_start g c = record {
  all = search rules;
  front = on-err-any c.from_residual.result (front-before _ _ _ _ c.in_err-write_start.ensures.front);
}

pub returns-in_err-write_pieces : goal.returns-in_err-write_pieces
returns-in_err-write_pieces g c = record {
  all = search rules;
  front = on-err-any c.from_residual-in_err-write_pieces.result
      (front-after _ _ _ _ _ c.in_ok-write_start.ensures.all (front-before _ _ _ _ c.in_err-write_pieces.ensures.front));
}

pub returns-in_err-write_fields : goal.returns-in_err-write_fields
returns-in_err-write_fields g c = record {
  all = search rules;
  front = on-err-any c.from_residual-in_err-write_fields.result
      (front-after _ _ _ _ _ c.in_ok-write_start.ensures.all
      (front-after _ _ _ _ _ c.in_ok-write_pieces.ensures.all (front-before _ _ _ _ c.in_err-write_fields.ensures.front)));
}

pub returns : goal.returns
returns g c = record {
  all = second-out c.write_pieces-2.result _ _ _ _ _ c.in_ok-write_start.ensures.all
      (second-out c.write_pieces-2.result _ _ _ _ _ c.in_ok-write_pieces.ensures.all
      (second-out c.write_pieces-2.result _ _ _ _ _ c.in_ok-write_fields.ensures.all c.write_pieces-2.ensures.all));
  front = second-failed c.write_pieces-2.result _ _ _ _ _ c.in_ok-write_start.ensures.all
      (second-failed c.write_pieces-2.result _ _ _ _ _ c.in_ok-write_pieces.ensures.all
      (second-failed c.write_pieces-2.result _ _ _ _ _ c.in_ok-write_fields.ensures.all c.write_pieces-2.ensures.front));
}
