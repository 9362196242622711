use Rattle.web.proofs.ReceivingLemmas.{told_read}
use Rattle.web.proofs.receiving.read_told_body.Goals as goal

pub returns : goal.returns
returns g c = told_read c.read_body.result _ _ c.args.front.now c.in-Some.size (rw c.in-Some.is at c.told_length.ensures) c.read_body.ensures.body
