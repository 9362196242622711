use Rattle.web.proofs.AnswerLemmas.{sending_written, writes-as}
use Rattle.std.proofs.Common.{◌∙◌}
use Rattle.web.proofs.sending.write_start.Goals as goal

pub returns : goal.returns
returns g c =
    writes-as c.write_pieces.result _ _ _ _
    (sending_written c.as_bytes.result.now c.as_bytes-2.result.now _ _ (c.as_bytes.ensures.value ∙ c.as_str.ensures.value)
    (c.as_bytes-2.ensures.value ∙ c.as_str-2.ensures.value))
    c.write_pieces.ensures
