use Rattle.std.proofs.Common.{rules}
use Rattle.circ_tables.proofs.SingleLemmas.{meta_of, meta_read}
use Rattle.circ_tables.proofs.meta.get_meta.Goals as goal

pub returns-in_err-rows : goal.returns-in_err-rows
returns-in_err-rows g c = meta_of g.S.Store _ _ c.from_residual.result
    (record { shown = search rules; limits = search rules; stored = search rules }) c.all_rows.ensures.asks

pub returns : goal.returns
returns g c =
    meta_of g.S.Store _ _ c.lone_row.result
    (meta_read g.S.Store _ _ c.lone_row.result _ _ c.as_slice.ensures.value c.in_ok-rows.ensures.shown c.lone_row.ensures.cells
    c.lone_row.ensures.limits c.lone_row.ensures.stored) c.all_rows.ensures.asks
