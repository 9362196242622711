use Rattle.model.proofs.CheckOrder.{refused-in-order}
use Rattle.model.proofs.check_order_law.Goals as goal

pub returns : goal.returns
returns c = refused-in-order
