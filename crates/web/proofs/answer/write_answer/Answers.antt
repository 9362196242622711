use Rattle.std.proofs.Common.{◌∙◌, [], refl, ap, sym}
use Rattle.web.specs.Answers.{answer_bytes}
use Rattle.web.proofs.AnswerLemmas.{same_answer, refusal_body, fault_body, writes-as}
use Rattle.web.proofs.answer.write_answer.Goals as goal

pub returns-in-Refused : goal.returns-in-Refused
returns-in-Refused g c =
    writes-as c.write_number.result _ _ _ _
    (same_answer _ _ [] [] _ _ c.status_of_refusal.ensures refl (refusal_body _ _ c.number.ensures.value)
    ∙ ap answer_bytes (sym c.in-Refused.is)) c.write_number.ensures

pub returns-in-Faulted : goal.returns-in-Faulted
returns-in-Faulted g c =
    writes-as c.write_number-in-Faulted.result _ _ _ _
    (same_answer _ _ [] [] _ _ refl refl (fault_body _ _ c.number-in-Faulted.ensures) ∙ ap answer_bytes (sym c.in-Faulted.is)) c.write_number-in-Faulted.ensures
