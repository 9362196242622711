use Rattle.std.proofs.Common.{refl, rules}
use Rattle.sqlite.specs.Held.{state}
use Rattle.sql_maps.proofs.ReadLemmas.{row_left}
use Rattle.circ_tables.proofs.sql_calls.first_row.Goals as goal

pub returns-in-Ok : goal.returns-in-Ok
returns-in-Ok g c = record {
  asks = record {
    clean = search rules;
    mode = search rules;
    leaves = λ clean bare. row_left _ _ (state g.S.Store c.args.conn.now) (state g.S.Store c.query_row.new.self) c.args.conn.now.schema refl
        bare c.query_row.result (c.query_row.ensures.row clean);
    survives = search rules;
  };
  finds = search rules;
  fault = search rules;
}

pub returns-in-Err-QueryReturnedNoRows : goal.returns-in-Err-QueryReturnedNoRows
returns-in-Err-QueryReturnedNoRows g c = record {
  asks = record {
    clean = search rules;
    mode = search rules;
    leaves = λ clean bare. row_left _ _ (state g.S.Store c.args.conn.now) (state g.S.Store c.query_row.new.self) c.args.conn.now.schema refl
        bare c.query_row.result (c.query_row.ensures.row clean);
    survives = search rules;
  };
  finds = search rules;
  fault = search rules;
}

pub returns-in-Err : goal.returns-in-Err
returns-in-Err g c = record {
  asks = record {
    clean = search rules;
    mode = search rules;
    leaves = λ clean bare. row_left _ _ (state g.S.Store c.args.conn.now) (state g.S.Store c.query_row.new.self) c.args.conn.now.schema refl
        bare c.query_row.result (c.query_row.ensures.row clean);
    survives = search rules;
  };
  finds = search rules;
  fault = search rules;
}
