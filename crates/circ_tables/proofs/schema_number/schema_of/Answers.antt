use Rattle.std.proofs.Common.{rules, arith}
use Rattle.sqlite.specs.Held.{state}
use Rattle.sqlite.specs.State.{HasCleanDisk}
use Rattle.sql_maps.proofs.LookLemmas.{ok_then}
use Rattle.circ_tables.proofs.schema_number.schema_of.Goals as goal

pub returns-clause-named : goal.returns-clause-named
returns-clause-named g c clean =
    let late : HasCleanDisk (state g.S.Store c.rollback.new.self.0) = search rules in
    let early : HasCleanDisk (state g.S.Store c.schema_inside-schema.new.tx.conn.now) = omega (arith, c.rollback.ensures.survives.clean) in
    ok_then c.schema_inside-schema.result (λ n is more others maps holds. (is more others maps holds).0)
    (rw c.transaction-tx.ensures.begun at (c.schema_inside-schema.ensures.named early))

pub returns-clause-stored : goal.returns-clause-stored
returns-clause-stored g c clean =
    let late : HasCleanDisk (state g.S.Store c.rollback.new.self.0) = search rules in
    let early : HasCleanDisk (state g.S.Store c.schema_inside-schema.new.tx.conn.now) = omega (arith, c.rollback.ensures.survives.clean) in
    rw c.transaction-tx.ensures.begun at (c.schema_inside-schema.ensures.stored early)
