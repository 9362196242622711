use Rattle.web.proofs.ReceivingLemmas.{answer_is}
use Rattle.web.proofs.receiving.read_answer_with.Goals as goal

pub returns : goal.returns
returns g c =
    let found = rw c.in-Some.is at c.in_ok-spans.ensures.filled in
    let head = rw c.in-Some.is at c.in_ok-spans.ensures.head in
    answer_is c.read_rest.result _ _ _ c.read_answer_head.new.headers c.in-Some.spans found.1 head c.read_rest.ensures.status c.read_rest.ensures.body
