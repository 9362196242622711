use Rattle.std.proofs.Common.{rules}
use Rattle.circ_audit.proofs.Adding.{adds-same}
use Rattle.circ_audit.proofs.balance.add_line.Goals as goal

pub returns-then-is_charge-clause-charges : goal.returns-then-is_charge-clause-charges
returns-then-is_charge-clause-charges c = adds-same _ _ _ _ (λ n. search rules) c.add.ensures

pub returns-else-is_charge-clause-credits : goal.returns-else-is_charge-clause-credits
returns-else-is_charge-clause-credits c = adds-same _ _ _ _ (λ n. search rules) c.add-else-is_charge.ensures
