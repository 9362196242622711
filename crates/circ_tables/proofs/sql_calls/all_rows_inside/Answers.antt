use Rattle.std.proofs.Common.{rules}
use Rattle.circ_tables.proofs.QueryLemmas.{query_works}
use Rattle.circ_tables.proofs.sql_calls.all_rows_inside.Goals as goal

pub returns-in-Ok : goal.returns-in-Ok
returns-in-Ok g c = record {
  works = query_works g.S.Store _ _ _ _ _ c.query_all.result c.query_all.ensures.same_reference c.query_all.ensures.survives
      c.query_all.ensures.ok c.query_all.ensures.err;
  shown = search rules;
  fault = search rules;
}

pub returns-in-Err : goal.returns-in-Err
returns-in-Err g c = record {
  works = query_works g.S.Store _ _ _ _ _ c.query_all.result c.query_all.ensures.same_reference c.query_all.ensures.survives
      c.query_all.ensures.ok c.query_all.ensures.err;
  shown = search rules;
  fault = search rules;
}
