use Rattle.std.proofs.Common.{sym, subst}
use Rattle.store.specs.Library.{Held}
use Rattle.front.specs.Understood.{texts_of}
use Rattle.circ.specs.Saying.{SaysLine}
use Rattle.circ.specs.Reporting.{TellsAnyReport}
use Rattle.circ.specs.Auditing.{SaysAudit, SaysAuditAll}
use Rattle.circ_runs.specs.declared.work.DeskWork.{DeskWork}
use Rattle.circ_runs.specs.Running.{DoesAtDesk}
use Rattle.circ_runs.proofs.Asked.{as-served}
use Rattle.circ_runs.proofs.working.work_at.Goals as goal

pub returns-in-Audit : goal.returns-in-Audit
returns-in-Audit g c =
    let before = g.W.Write.contents c.args.writer.now in
    let after = g.W.Write.contents c.audit-told.new.writer in
    let new = c.audit-told.new.store in
    subst (λ (w : DeskWork). DoesAtDesk g.S.Store g.M.Copies.Read.remaining g.M.Surroundings.outside _ w c.args.desk new before after c.audit-told.result)
    (sym c.in-Audit.is)
    (subst (λ (d : Held g.row.S.Denot). SaysAudit g.S.Store d new before after c.audit-told.result) c.into_store-tables.ensures c.audit-told.ensures)

pub returns-in-AuditAll : goal.returns-in-AuditAll
returns-in-AuditAll g c =
    let before = g.W.Write.contents c.args.writer.now in
    let after = g.W.Write.contents c.audit_all-found.new.writer in
    let new = c.audit_all-found.new.store in
    let found = c.audit_all-found.result.0 in
    let told = c.audit_all-found.result.1 in
    subst (λ (w : DeskWork). DoesAtDesk g.S.Store g.M.Copies.Read.remaining g.M.Surroundings.outside _ w c.args.desk new before after told)
    (sym c.in-AuditAll.is) (
      found,
      subst (λ (d : Held g.row.S.Denot). SaysAuditAll g.S.Store d new found before after told) c.into_store-store.ensures
          c.audit_all-found.ensures,
    )

pub returns-in-Request : goal.returns-in-Request
returns-in-Request g c =
    let before = g.W.Write.contents c.args.writer.now in
    let after = g.W.Write.contents c.one-told.new.writer in
    let asked = c.in-Request in
    subst (λ (w : DeskWork). DoesAtDesk g.S.Store g.M.Copies.Read.remaining g.M.Surroundings.outside _ w c.args.desk c.into_store.result before after c.one-told.result)
    (sym asked.is)
    (subst (λ (d : Held g.row.S.Denot). SaysLine asked.key (texts_of asked.words.now) g.S.Store c.args.desk d before after c.one-told.result)
    (sym c.into_store.ensures) c.one-told.ensures)

pub returns-in-Report : goal.returns-in-Report
returns-in-Report g c =
    let before = g.W.Write.contents c.args.writer.now in
    let after = g.W.Write.contents c.report-told.new.writer in
    let asked = c.in-Report in
    subst (λ (w : DeskWork). DoesAtDesk g.S.Store g.M.Copies.Read.remaining g.M.Surroundings.outside _ w c.args.desk c.into_store-in-Report.result before after c.report-told.result)
    (sym asked.is)
    (subst (λ (d : Held g.row.S.Denot). TellsAnyReport asked.wanted g.S.Store c.args.desk d before after c.report-told.result)
    (sym c.into_store-in-Report.ensures) c.report-told.ensures)

pub returns-in-Serve : goal.returns-in-Serve
returns-in-Serve g c =
    let asked = c.in-Serve in
    as-served g.S.Store g.M.Copies.Read.remaining g.M.Surroundings.outside _ (g.W.Write.contents c.args.writer.now)
    (g.W.Write.contents c.serve_port-desk.new.writer) c.serve_port-desk.result.1
    c.args.work asked.path asked.workers asked.web c.args.desk c.serve_port-desk.result.0 c.into_store-in-Serve.result
    asked.is c.into_store-in-Serve.ensures c.serve_port-desk.ensures
