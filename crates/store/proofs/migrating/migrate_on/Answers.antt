use Rattle.std.proofs.Common.{refl, arith, rules}
use Rattle.store.proofs.SchemaSteps.{untold, not_led, newest_stays, older_led}
use Rattle.store.proofs.migrating.migrate_on.Goals as goal

pub returns-in_err-schema_inside : goal.returns-in_err-schema_inside
returns-in_err-schema_inside g c = untold g.S.Store _ c.from_residual.ensures c.in_err-schema_inside.ensures

pub returns-in-1 : goal.returns-in-1
returns-in-1 g c = older_led g.S.Store 1 (rw c.in-1.is at c.in_ok-schema_inside.ensures) (omega arith, omega arith) _ (search rules) (search rules)

pub returns-in-2 : goal.returns-in-2
returns-in-2 g c = older_led g.S.Store 2 (rw c.in-2.is at c.in_ok-schema_inside.ensures) (omega arith, omega arith) _ (search rules) (search rules)

pub returns-in-3 : goal.returns-in-3
returns-in-3 g c = older_led g.S.Store 3 (rw c.in-3.is at c.in_ok-schema_inside.ensures) (omega arith, omega arith) _ (search rules) (search rules)

pub returns-in-4 : goal.returns-in-4
returns-in-4 g c = newest_stays g.S.Store c.in_ok-schema_inside.field-0 c.in_ok-schema_inside.ensures c.in-4.is 4 refl

pub returns-in_default : goal.returns-in_default
returns-in_default g c =
    let n = c.in_ok-schema_inside.field-0 in
    not_led g.S.Store n c.in_ok-schema_inside.ensures (λ known. let low = known.0 in let high = known.1 in omega (arith, low, high))
