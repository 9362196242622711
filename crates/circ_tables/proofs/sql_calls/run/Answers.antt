use Rattle.std.proofs.Common.{refl, subst, sym, rules}
use Rattle.sqlite.specs.Held.{state}
use Rattle.sqlite.specs.State.{KeepsCommit}
use Rattle.sql_maps.proofs.CallLemmas.{run_keeps, run_left, same_keeps}
use Rattle.sql_maps.specs.Calls.{Keeps}
use Rattle.circ_tables.proofs.sql_calls.run.Goals as goal

pub returns-in-Err : goal.returns-in-Err
returns-in-Err g c =
    let old = state g.S.Store c.args.tx.now.conn.now in
    let new = state g.S.Store c.execute.new.self.conn.now in
    record {
      works = record {
        same_reference = search rules;
        kept = λ clean. run_keeps _ _ old new c.execute.result
            (λ ended. subst (λ h. KeepsCommit old (state g.S.Store h)) (sym (c.execute.ensures.ended ended).1) (same_keeps old)) (c.execute.ensures.runs clean);
        survives = search rules;
      };
      runs = λ clean begun. tt;
      leaves = λ clean. run_left _ _ old new c.in-Err.error
          (λ over. subst (λ h. Keeps old (state g.S.Store h)) (sym (c.execute.ensures.ended over).1)
          (record { now = refl; committed = refl; mode = refl })) (c.in-Err.ensures.runs clean);
      fault = search rules;
    }
