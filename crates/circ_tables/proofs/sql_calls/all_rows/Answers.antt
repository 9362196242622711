use Rattle.std.proofs.Common.{rules, refl}
use Rattle.sqlite.specs.Held.{state}
use Rattle.sql_maps.proofs.ReadLemmas.{all_left}
use Rattle.circ_tables.proofs.sql_calls.all_rows.Goals as goal

pub returns-in-Ok : goal.returns-in-Ok
returns-in-Ok g c = record {
  asks = record {
    clean = search rules;
    mode = search rules;
    leaves = λ clean bare. all_left _ _ (state g.S.Store c.args.conn.now) (state g.S.Store c.query_all.new.self) c.args.conn.now.schema refl
        bare c.query_all.result (c.query_all.ensures.ok clean) (c.query_all.ensures.err clean);
    survives = search rules;
  };
  shown = search rules;
  fault = search rules;
}

pub returns-in-Err : goal.returns-in-Err
returns-in-Err g c = record {
  asks = record {
    clean = search rules;
    mode = search rules;
    leaves = λ clean bare. all_left _ _ (state g.S.Store c.args.conn.now) (state g.S.Store c.query_all.new.self) c.args.conn.now.schema refl
        bare c.query_all.result (c.query_all.ensures.ok clean) (c.query_all.ensures.err clean);
    survives = search rules;
  };
  shown = search rules;
  fault = search rules;
}
