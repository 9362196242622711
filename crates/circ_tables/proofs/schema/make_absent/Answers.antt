use Rattle.sqlite.specs.Held.{state}
use Rattle.sql_maps.proofs.CallLemmas.{on_ok}
use Rattle.sql_maps.proofs.CreateLemmas.{run_moves}
use Rattle.circ_tables.specs.Shape.{schema_at}
use Rattle.circ_tables.proofs.MakeLemmas.{absent_at}
use Rattle.circ_tables.proofs.schema.make_absent.Goals as goal

pub returns : goal.returns
returns g c = record {
  works = c.run.ensures.works;
  moves = λ clean begun.
      let old = state g.S.Store c.args.tx.now.conn.now in
      let new = state g.S.Store c.run.new.tx.conn.now in
      on_ok c.run.result (run_moves (schema_at 3) (schema_at 3) _ (absent_at c.args.at _ c.absent_text_at.ensures) old new)
      (c.run.ensures.runs clean begun);
  fault = c.run.ensures.fault;
}
