use Rattle.std.proofs.Common.{refl}
use Rattle.terms.specs.Limits.{InLimits}
use Rattle.terms.specs.Schemas.{IsOfSchema1, led_to_2}
use Rattle.circ_tables.specs.HoldsOfSchema1.{holds1}
use Rattle.store.specs.Carrying.{all_over}
use Rattle.store.specs.Migrating.{AreLedIfNamed}
use Rattle.store.specs.Transfers.{holds_transfer}
use Rattle.store.proofs.PartsOfSteps.{migrates_then, migrates_failed, made_migrates, encoded_1, HoldsMoved, made_moved, led_to_second}
use Rattle.store.proofs.migrating.migrate_to_2.Goals as goal

pub returns-in_err-make_second-clause-migrates : goal.returns-in_err-make_second-clause-migrates
returns-in_err-make_second-clause-migrates g c =
    migrates_failed g.S.Store _ c.from_residual.ensures (λ P ready. ready)
    (made_migrates g.S.Store _ 1 2 13 refl (λ P. IsOfSchema1 P × InLimits P) encoded_1 c.in_err-make_second.ensures)

pub returns-in_err-carry_all-clause-migrates : goal.returns-in_err-carry_all-clause-migrates
returns-in_err-carry_all-clause-migrates g c =
    migrates_failed g.S.Store _ c.from_residual-in_err-carry_all.ensures (λ P ready. ready)
    (migrates_then g.S.Store HoldsMoved (λ P. IsOfSchema1 P × InLimits P) (all_over holds1 holds_transfer) made_moved
    (λ P ready. (ready, (ready.1, ready.0.later))) (λ P ready. refl)
    (made_migrates g.S.Store _ 1 2 13 refl (λ P. IsOfSchema1 P × InLimits P) encoded_1 c.in_ok-make_second.ensures) c.in_err-carry_all.ensures)

pub returns-clause-migrates : goal.returns-clause-migrates
returns-clause-migrates g c =
    migrates_then g.S.Store (AreLedIfNamed 1) (λ P. IsOfSchema1 P × InLimits P) led_to_2 led_to_second (λ P ready. (ready, ready.1.meta)) (λ P ready. refl)
    (migrates_then g.S.Store HoldsMoved (λ P. IsOfSchema1 P × InLimits P) (all_over holds1 holds_transfer) made_moved
    (λ P ready. (ready, (ready.1, ready.0.later))) (λ P ready. refl)
    (made_migrates g.S.Store _ 1 2 13 refl (λ P. IsOfSchema1 P × InLimits P) encoded_1 c.in_ok-make_second.ensures) c.in_ok-carry_all.ensures)
    c.name_schema.ensures.named

pub returns-clause-told : goal.returns-clause-told
returns-clause-told g c = c.name_schema.ensures.told
