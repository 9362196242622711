use Rattle.std.proofs.Common.{◌∙◌}
use Rattle.desk.proofs.WholeReports.{header-cut, rows-failed, end-failed, end-cut, report-out}
use Rattle.desk.proofs.reported.write_report.Goals as goal

pub returns-in_err-write_bytes : goal.returns-in_err-write_bytes
returns-in_err-write_bytes g c = rw (← c.as_bytes.ensures.value) (header-cut (g.L.Listed.Needs c.args.list.now) (g.L.Listed.list c.args.list.now) g.L.Reported.count_words _
    _ c.from_residual.ensures c.in_err-write_bytes.ensures.front)

pub returns-in_err-told : goal.returns-in_err-told
returns-in_err-told g c = rw (← c.as_bytes.ensures.value) (rows-failed (g.L.Listed.Needs c.args.list.now) (g.L.Listed.list c.args.list.now) g.L.Reported.count_words _
    c.in_ok-write_bytes.ensures.all _ c.from_residual-in_err-told.ensures c.in_err-told.ensures)

pub returns-in_err-last : goal.returns-in_err-last
returns-in_err-last g c = rw (← c.as_bytes.ensures.value) (end-failed (g.L.Listed.Needs c.args.list.now) (g.L.Listed.list c.args.list.now) g.L.Reported.count_words _
    c.in_ok-write_bytes.ensures.all c.in_ok-told.told c.in_ok-told.ensures _ c.from_residual-in_err-last.ensures)

pub returns-in_err-write_bytes-2 : goal.returns-in_err-write_bytes-2
returns-in_err-write_bytes-2 g c = rw (← c.as_bytes.ensures.value) (end-cut (g.L.Listed.Needs c.args.list.now) (g.L.Listed.list c.args.list.now) g.L.Reported.count_words _
    c.in_ok-write_bytes.ensures.all c.in_ok-told.told c.in_ok-told.ensures _ (c.as_bytes-2.ensures.value ∙ c.in_ok-last.ensures)
    _ c.from_residual-in_err-write_bytes-2.ensures c.in_err-write_bytes-2.ensures.front)

pub returns : goal.returns
returns g c = rw (← c.as_bytes.ensures.value) (report-out (g.L.Listed.Needs c.args.list.now) (g.L.Listed.list c.args.list.now) g.L.Reported.count_words _
    c.in_ok-write_bytes.ensures.all c.in_ok-told.told c.in_ok-told.ensures _ (c.as_bytes-2.ensures.value ∙ c.in_ok-last.ensures) _ c.in_ok-write_bytes-2.ensures.all)
