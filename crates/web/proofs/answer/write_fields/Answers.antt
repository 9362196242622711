use Rattle.std.proofs.Common.{◌∙◌}
use Rattle.web.proofs.AnswerLemmas.{fields_written, writes-as}
use Rattle.web.proofs.answer.write_fields.Goals as goal

pub returns : goal.returns
returns g c = writes-as c.write_pieces.result _ _ _ _
    (fields_written c.as_bytes.result.now c.args.size (c.as_bytes.ensures.value ∙ c.format.ensures.text)) c.write_pieces.ensures
