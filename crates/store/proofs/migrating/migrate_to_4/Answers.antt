use Rattle.std.proofs.Common.{refl}
use Rattle.terms.specs.Limits.{InLimits}
use Rattle.terms.specs.Pictures.{Picture}
use Rattle.terms.specs.Schemas.{IsOfSchema3, led_to_4}
use Rattle.store.specs.Migrating.{AreLedIfNamed}
use Rattle.store.proofs.PartsOfSteps.{migrates_then, migrates_failed, made_migrates, encoded_3, AreMadeBeside, made_labels, led_to_fourth, led_to_4_is}
use Rattle.store.proofs.migrating.migrate_to_4.Goals as goal

abbrev IsReady : Picture → Type 0
IsReady P = IsOfSchema3 P × InLimits P

pub returns-in_err-make_absent_indexes-clause-migrates : goal.returns-in_err-make_absent_indexes-clause-migrates
returns-in_err-make_absent_indexes-clause-migrates g c =
    migrates_failed g.S.Store _ c.from_residual.ensures (λ P ready. ready)
    (made_migrates g.S.Store _ 3 3 16 refl IsReady encoded_3 c.in_err-make_absent_indexes.ensures)

pub returns-in_err-make_fourth-clause-migrates : goal.returns-in_err-make_fourth-clause-migrates
returns-in_err-make_fourth-clause-migrates g c =
    migrates_failed g.S.Store _ c.from_residual-in_err-make_fourth.ensures (λ P ready. ready)
    (migrates_then g.S.Store (AreMadeBeside 16) IsReady (λ P. P) made_labels (λ P ready. (ready, ready)) (λ P ready. refl)
    (made_migrates g.S.Store _ 3 3 16 refl IsReady encoded_3 c.in_ok-make_absent_indexes.ensures)
    (made_migrates g.S.Store _ 3 4 16 refl IsReady encoded_3 c.in_err-make_fourth.ensures))

pub returns-clause-migrates : goal.returns-clause-migrates
returns-clause-migrates g c =
    migrates_then g.S.Store (AreLedIfNamed 3) IsReady led_to_4 led_to_fourth (λ P ready. (ready, ready.1.meta)) led_to_4_is
    (migrates_then g.S.Store (AreMadeBeside 16) IsReady (λ P. P) made_labels (λ P ready. (ready, ready)) (λ P ready. refl)
    (made_migrates g.S.Store _ 3 3 16 refl IsReady encoded_3 c.in_ok-make_absent_indexes.ensures)
    (made_migrates g.S.Store _ 3 4 16 refl IsReady encoded_3 c.in_ok-make_fourth.ensures))
    c.name_schema.ensures.named

pub returns-clause-told : goal.returns-clause-told
returns-clause-told g c = c.name_schema.ensures.told
