use Rattle.std.proofs.Common.{true, refl}
use Rattle.sqlite.specs.Held.{state}
use Rattle.sqlite.specs.Steps.{over_memory}
use Rattle.sqlite_trees.proofs.Doubt.{no_doubt}
use Rattle.store.proofs.FileLemmas.{schema_less}
use Rattle.store.proofs.memory.Store+MemStore.in_memory.Goals as goal

pub returns-clause-made : goal.returns-clause-made
returns-clause-made c =
    let empty = c.in_ok-conn.ensures.empty in
    c.in_ok-store.ensures.created.empty (no_doubt true refl) (schema_less (state over_memory c.in_ok-conn.conn).now (empty.1 empty.0.is_open).0 empty.2)

pub returns-clause-open : goal.returns-clause-open
returns-clause-open c = (no_doubt true refl, refl)
