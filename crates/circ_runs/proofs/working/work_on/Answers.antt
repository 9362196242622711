use Rattle.std.proofs.Common.{refl, sym, subst}
use Rattle.circ_runs.specs.declared.work.Work.{Work}
use Rattle.circ_runs.specs.Running.{Does}
use Rattle.circ_runs.proofs.working.work_on.Goals as goal

pub returns-in-Desk : goal.returns-in-Desk
returns-in-Desk g c =
    let did = c.on_desk.ensures in (
      did.0,
      did.1,
      subst (λ (w : Work). Does g.S.Store g.M.Copies.Read.remaining g.M.Surroundings.outside _ w c.args.tables did.0
          (g.W.Write.contents c.args.writer.now) (g.W.Write.contents c.on_desk.new.writer) c.on_desk.result.1)
          (sym c.in-Desk.is) did.2,
    )

pub returns-in-Migration : goal.returns-in-Migration
returns-in-Migration g c = (
  c.migrate-told.new.store,
  refl,
  subst (λ (w : Work). Does g.S.Store g.M.Copies.Read.remaining g.M.Surroundings.outside _ w c.args.tables c.migrate-told.new.store
      (g.W.Write.contents c.args.writer.now) (g.W.Write.contents c.migrate-told.new.writer) c.migrate-told.result)
      (sym c.in-Migration.is) c.migrate-told.ensures,
)
