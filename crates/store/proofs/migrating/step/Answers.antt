use Rattle.std.proofs.Common.{◌≡◌, ◌∙◌, inl, inr, IsTrue, true≢false, refl, sym, rules, arith, subst}
use Rattle.sqlite.specs.Held.{state}
use Rattle.sqlite.specs.State.{HasCleanDisk, Survives, KeepsCommit}
use Rattle.store.specs.Commit.{Brings, HasDone}
use Rattle.store.specs.Migrating.{MakesOneStep, MigratesOn}
use Rattle.store.proofs.ChangeSteps.{begun as in_transaction, IsBack, err_then, commit_survives, drop_survives, commit_has_done, undone_is}
use Rattle.store.proofs.migrating.step.Goals as goal

pub returns-in-Ok : goal.returns-in-Ok
returns-in-Ok g c =
    let old = c.args.conn.now in
    let last = c.migrate_on.new.tx.conn.now in
    let begun = c.transaction-tx.ensures.begun in
    let end = c.commit.new.self.0 in
    let to = c.in_ok-schema.schema in
    let same : end ≡ c.conn-2-1.given.0 = search rules in
    let made : HasCleanDisk (state g.S.Store last) → MigratesOn to (state g.S.Store old).now (state g.S.Store last).now =
    λ clean. rw begun at (c.in_ok-schema.ensures.migrates clean (rw begun refl)) in
    record {
      idle = search rules;
      done = λ clean n there.
          let late : HasCleanDisk (state g.S.Store end) = search rules in
          let early : HasCleanDisk (state g.S.Store last) = omega (arith, c.commit.ensures.survives.clean) in
          subst (λ h. HasDone (MigratesOn to) (state g.S.Store old) (state g.S.Store h)) same
          (commit_has_done g.S.Store (MigratesOn to) old last end (made early)
          (rw begun at (c.in_ok-schema.ensures.kept early (rw begun refl) n (rw begun there))) (c.in-Ok.ensures.ok late).1);
      undone = search rules;
      survives = subst (λ h. Survives (state g.S.Store old) (state g.S.Store h) (Brings MakesOneStep (state g.S.Store old).now)) same
          (commit_survives g.S.Store MakesOneStep old last end (λ clean. (to, made clean)) (rw begun at c.migrate_on.ensures.survives) c.commit.ensures.survives);
      sound = search rules;
    }

pub returns-in-Err : goal.returns-in-Err
returns-in-Err g c =
    let old = c.args.conn.now in
    let last = c.migrate_on.new.tx.conn.now in
    let begun = c.transaction-tx.ensures.begun in
    let end = c.commit.new.self.0 in
    let to = c.in_ok-schema.schema in
    let same : end ≡ c.conn-2-1.given.0 = search rules in
    let made : HasCleanDisk (state g.S.Store last) → MigratesOn to (state g.S.Store old).now (state g.S.Store last).now =
    λ clean. rw begun at (c.in_ok-schema.ensures.migrates clean (rw begun refl)) in
    record {
      idle = search rules;
      done = search rules;
      undone = λ clean is n there. subst (λ h. IsBack g.S.Store old h) same (λ late open_there.
          let early : HasCleanDisk (state g.S.Store last) = omega (arith, c.commit.ensures.survives.clean) in
          let kept : KeepsCommit (state g.S.Store (in_transaction g.S.Store MakesOneStep old)) (state g.S.Store last) =
          rw begun at (c.in_ok-schema.ensures.kept early (rw begun refl) n (rw begun there)) in
          let inside = c.in_ok-schema.ensures.inside early (rw begun refl) n (rw begun there) in
          let settled : IsTrue (state g.S.Store old).is_open → (state g.S.Store old).now ≡ (state g.S.Store old).committed = c.committed_is_held.ensures in
          elim (c.in-Err.ensures.err late) [
            | inl fails ↦ undone_is g.S.Store old last end settled kept fails.3 open_there
            | inr ended ↦ absurd (true≢false (sym inside ∙ ended.1))
          ]) clean is;
      survives = subst (λ h. Survives (state g.S.Store old) (state g.S.Store h) (Brings MakesOneStep (state g.S.Store old).now)) same
          (commit_survives g.S.Store MakesOneStep old last end (λ clean. (to, made clean)) (rw begun at c.migrate_on.ensures.survives) c.commit.ensures.survives);
      sound = search rules;
    }

pub returns-in_err-schema : goal.returns-in_err-schema
returns-in_err-schema g c =
    let old = c.args.conn.now in
    let last = c.migrate_on.new.tx.conn.now in
    let begun = c.transaction-tx.ensures.begun in
    let end = c.drop-tx.new.self.0 in
    let same : end ≡ c.conn-1.given.0 = search rules in
    let early : HasCleanDisk (state g.S.Store end) → HasCleanDisk (state g.S.Store last) = λ late. omega (arith, c.drop-tx.ensures.survives.clean) in
    record {
      idle = search rules;
      done = search rules;
      undone = λ clean is n there. err_then c.from_residual.result (subst (λ h. IsBack g.S.Store old h) same (λ late open_there.
          let kept : KeepsCommit (state g.S.Store (in_transaction g.S.Store MakesOneStep old)) (state g.S.Store last) =
          rw begun at (c.in_err-schema.ensures.kept (early late) (rw begun refl) n (rw begun there)) in
          let settled : IsTrue (state g.S.Store old).is_open → (state g.S.Store old).now ≡ (state g.S.Store old).committed = c.committed_is_held.ensures in
          undone_is g.S.Store old last end settled kept (c.drop-tx.ensures.undone late) open_there) clean is);
      survives = subst (λ h. Survives (state g.S.Store old) (state g.S.Store h) (Brings MakesOneStep (state g.S.Store old).now)) same
          (drop_survives g.S.Store MakesOneStep old last end (rw begun at c.migrate_on.ensures.survives) c.drop-tx.ensures.survives);
      sound = λ clean told n known P ready.
          let late : HasCleanDisk (state g.S.Store end) = search rules in
          c.migrate_on.ensures.sound (early late) (rw begun refl) (search rules) n known P (rw begun ready);
    }
