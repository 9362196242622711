use Rattle.circ.specs.declared.arguments.Run.TheVariants.{File, Import, Report, Audit, AuditAll, Migrate}
use Rattle.circ_runs.specs.declared.absent.Absent.TheVariants.{Made, Refused}
use Rattle.circ_runs.specs.declared.work.DeskWork.TheVariants as work
use Rattle.circ_runs.specs.declared.work.Work.TheVariants.{Desk, Migration}
use Rattle.circ_runs.proofs.Asked.{as-asked}
use Rattle.circ_runs.proofs.working.do_run.Goals.{in-File, in-Import, in-Report, in-Audit, in-AuditAll, in-Migrate}
use Rattle.circ_runs.proofs.working.do_run.Goals as goal

pub returns : goal.returns
returns g c =
    let so = as-asked g.S.Store g.M.Copies.Read.remaining g.M.Surroundings.outside _ (g.W.Write.contents c.args.writer.now)
    (g.W.Write.contents c.work_in.new.writer) c.work_in.result c.args.asked c.match-asked.absent c.work_in.ensures in
    elim c.match-asked.branch [
      | in-File w ↦ let v = w.in-File in so (File v.path v.key v.words) (v.path, Made, Desk (work.Request v.key v.words)) v.is w.absent-is (λ h. h)
      | in-Import w ↦ let v = w.in-Import in so (Import v.path v.copies) (v.path, Made, Desk (work.Import v.copies)) v.is w.absent-is (λ h. h)
      | in-Report w ↦ let v = w.in-Report in so (Report v.path v.report) (v.path, Refused, Desk (work.Report v.report)) v.is w.absent-is (λ h. h)
      | in-Audit w ↦ let v = w.in-Audit in so (Audit v.path) (v.path, Refused, Desk work.Audit) v.is w.absent-is (λ h. h)
      | in-AuditAll w ↦ let v = w.in-AuditAll in so (AuditAll v.path) (v.path, Refused, Desk work.AuditAll) v.is w.absent-is (λ h. h)
      | in-Migrate w ↦ let v = w.in-Migrate in so (Migrate v.path) (v.path, Refused, Migration v.path) v.is w.absent-is (λ h. h)
    ]
