use Rattle.store.proofs.SchemaSteps.{leads_one, leads_failed, leads_then, migrates_all, from_newest, from_third}
use Rattle.store.proofs.store.Store.migrate.Goals.{else-branch-lt-SCHEMA-via-then-branch-lt-SCHEMA+in_ok-step-2+else-branch-lt-SCHEMA-2}
use Rattle.store.proofs.store.Store.migrate.Goals.{else-branch-lt-SCHEMA-via-else-branch-lt-SCHEMA}
use Rattle.store.proofs.store.Store.migrate.Goals as goal

pub returns-in_err-step : goal.returns-in_err-step
returns-in_err-step g c =
    let settled = g.met.S.Store.settled in
    migrates_all g.S.Store settled _ (leads_failed g.S.Store settled 1 _ c.from_residual.ensures (rw c.self.view_is at c.in_err-step.ensures))

pub returns-in_err-step-2 : goal.returns-in_err-step-2
returns-in_err-step-2 g c =
    let settled = g.met.S.Store.settled in
    migrates_all g.S.Store settled _
    (leads_then g.S.Store settled 1 c.in_ok-step.field-0 _ c.if-branch-lt-SCHEMA.true (rw c.self.view_is at c.in_ok-step.ensures)
    (leads_failed g.S.Store settled 2 _ c.from_residual-in_err-step-2.ensures c.in_err-step-2.ensures))

pub returns-in_err-step-3 : goal.returns-in_err-step-3
returns-in_err-step-3 g c =
    let settled = g.met.S.Store.settled in
    migrates_all g.S.Store settled _
    (leads_then g.S.Store settled 1 c.in_ok-step.field-0 _ c.if-branch-lt-SCHEMA.true (rw c.self.view_is at c.in_ok-step.ensures)
    (leads_then g.S.Store settled 2 c.in_ok-step-2.field-0 _ c.if-branch-lt-SCHEMA-2.true c.in_ok-step-2.ensures
    (leads_failed g.S.Store settled 3 _ c.from_residual-in_err-step-3.ensures c.in_err-step-3.ensures)))

pub returns-in_ok-step-3 : goal.returns-in_ok-step-3
returns-in_ok-step-3 g c =
    let settled = g.met.S.Store.settled in
    migrates_all g.S.Store settled _
    (leads_then g.S.Store settled 1 c.in_ok-step.field-0 _ c.if-branch-lt-SCHEMA.true (rw c.self.view_is at c.in_ok-step.ensures)
    (leads_then g.S.Store settled 2 c.in_ok-step-2.field-0 _ c.if-branch-lt-SCHEMA-2.true c.in_ok-step-2.ensures
    (leads_one g.S.Store settled 3 c.in_ok-step-3.field-0 tt (from_third c.in_ok-step-3.field-0) c.in_ok-step-3.ensures)))

pub returns-else-branch-lt-SCHEMA : goal.returns-else-branch-lt-SCHEMA
returns-else-branch-lt-SCHEMA g c =
    let settled = g.met.S.Store.settled in
    elim c.else-branch-lt-SCHEMA.branch [
      | else-branch-lt-SCHEMA-via-then-branch-lt-SCHEMA+in_ok-step-2+else-branch-lt-SCHEMA-2 w ↦
          rw w.self-is (migrates_all g.S.Store settled _
          (leads_then g.S.Store settled 1 c.in_ok-step.field-0 _ w.if-branch-lt-SCHEMA.true (rw c.self.view_is at c.in_ok-step.ensures)
          (leads_one g.S.Store settled 2 w.in_ok-step-2.field-0 tt (from_newest 2 w.in_ok-step-2.field-0 w.if-branch-lt-SCHEMA-2.false) w.in_ok-step-2.ensures)))
      | else-branch-lt-SCHEMA-via-else-branch-lt-SCHEMA w ↦
          rw w.self-is (migrates_all g.S.Store settled _
          (leads_one g.S.Store settled 1 c.in_ok-step.field-0 tt (from_newest 1 c.in_ok-step.field-0 w.if-branch-lt-SCHEMA.false)
          (rw c.self.view_is at c.in_ok-step.ensures)))
    ]
