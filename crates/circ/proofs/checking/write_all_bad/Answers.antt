use Rattle.std.proofs.Common.{rules}
use Rattle.terms.proofs.Fronts.{failed-first, second-failed, second-out}
use Rattle.circ.proofs.checking.write_all_bad.Goals as goal

pub returns-in_err-write_header : goal.returns-in_err-write_header
returns-in_err-write_header g c = record {
  all = search rules;
  front = failed-first c.from_residual.result _ _ _ _ c.in_err-write_header.ensures.front;
}

pub returns : goal.returns
returns g c = record {
  all = second-out c.write_bad_rows.result _ _ _ _ _ c.in_ok-write_header.ensures.all c.write_bad_rows.ensures.all;
  front = second-failed c.write_bad_rows.result _ _ _ _ _ c.in_ok-write_header.ensures.all c.write_bad_rows.ensures.front;
}
