use Rattle.std.proofs.Common.{◌∙◌}
use Rattle.web.proofs.AnswerLemmas.{same_answer, status_body, allowed, no_line, writes-as}
use Rattle.web.proofs.answer.write_failed.Goals as goal

pub returns-in-MethodNotAllowed : goal.returns-in-MethodNotAllowed
returns-in-MethodNotAllowed g c =
    writes-as c.write_number.result _ _ _ _
    (same_answer _ _ _ _ _ _ c.code-code.ensures (allowed c.args.status.now _ _ c.in-MethodNotAllowed.is (c.as_bytes.ensures.value ∙ c.as_str.ensures.value))
    (status_body _ _ (c.from-number.ensures ∙ (c.as_u16.ensures.value ∙ c.code-code.ensures))))
    c.write_number.ensures

pub returns-in_default : goal.returns-in_default
returns-in_default g c =
    writes-as c.write_number-in_default.result _ _ _ _
    (same_answer _ _ _ _ _ _ c.code-code.ensures (no_line c.args.status.now c.in_default.not-MethodNotAllowed)
    (status_body _ _ (c.from-number.ensures ∙ (c.as_u16.ensures.value ∙ c.code-code.ensures))))
    c.write_number-in_default.ensures
