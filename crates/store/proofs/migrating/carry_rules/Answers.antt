use Rattle.store.proofs.PartsOfSteps.{migrates_failed, rules_unread, rules_moved}
use Rattle.store.proofs.migrating.carry_rules.Goals as goal

pub returns-in_err-old : goal.returns-in_err-old
returns-in_err-old g c = migrates_failed g.S.Store _ c.from_residual.ensures (λ P ready. ready) (rules_unread c.in_err-old.ensures)

pub returns : goal.returns
returns g c = rules_moved g.S.Store c.carry_batch.result c.in_ok-old.ensures (rw (c.as_slice.ensures.value) at c.carry_batch.ensures)
