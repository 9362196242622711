use Rattle.std.proofs.Common.{refl}
use Rattle.terms.specs.Limits.{InLimits}
use Rattle.terms.specs.Pictures.{Picture}
use Rattle.terms.specs.Schemas.{IsOfSchema2, led_to_3}
use Rattle.circ_tables.specs.LoansOfSchema1.{loans1}
use Rattle.circ_tables.specs.RulesOfSchema1.{rules1}
use Rattle.store.specs.Carrying.{all_over}
use Rattle.store.specs.Migrating.{AreLedIfNamed}
use Rattle.store.specs.Transfers.{rules_transfer, loans_transfer, rules_carried}
use Rattle.store.proofs.MigrateLemmas.{all_over_limits}
use Rattle.store.proofs.PartsOfSteps.{migrates_then, migrates_failed, made_migrates, encoded_2, own_rules, RulesMoved, made_rules, LoansMoved, made_loans, led_to_third}
use Rattle.store.proofs.migrating.migrate_to_3.Goals as goal

abbrev IsReady : Picture → Type 0
IsReady P = IsOfSchema2 P × InLimits P

pub returns-in_err-make_third-clause-migrates : goal.returns-in_err-make_third-clause-migrates
returns-in_err-make_third-clause-migrates g c =
    migrates_failed g.S.Store _ c.from_residual.ensures (λ P ready. ready) (made_migrates g.S.Store _ 2 3 14 refl IsReady encoded_2 c.in_err-make_third.ensures)

pub returns-in_err-carry_rules-clause-migrates : goal.returns-in_err-carry_rules-clause-migrates
returns-in_err-carry_rules-clause-migrates g c =
    migrates_failed g.S.Store _ c.from_residual-in_err-carry_rules.ensures (λ P ready. ready)
    (migrates_then g.S.Store RulesMoved IsReady (all_over rules1 rules_transfer) made_rules
    (λ P ready. (ready, (ready.1, λ k. ready.0.later_rules k.0 k.1))) (λ P ready. refl)
    (made_migrates g.S.Store _ 2 3 14 refl IsReady encoded_2 c.in_ok-make_third.ensures) c.in_err-carry_rules.ensures)

pub returns-in_err-carry_all-clause-migrates : goal.returns-in_err-carry_all-clause-migrates
returns-in_err-carry_all-clause-migrates g c =
    migrates_failed g.S.Store _ c.from_residual-in_err-carry_all.ensures (λ P ready. ready)
    (migrates_then g.S.Store LoansMoved IsReady (λ P. all_over loans1 loans_transfer (all_over rules1 rules_transfer P)) made_loans
    (λ P ready. (ready, (all_over_limits rules_carried P ready.1 (own_rules P ready.1), ready.0.later_loans))) (λ P ready. refl)
    (migrates_then g.S.Store RulesMoved IsReady (all_over rules1 rules_transfer) made_rules
    (λ P ready. (ready, (ready.1, λ k. ready.0.later_rules k.0 k.1))) (λ P ready. refl)
    (made_migrates g.S.Store _ 2 3 14 refl IsReady encoded_2 c.in_ok-make_third.ensures) c.in_ok-carry_rules.ensures) c.in_err-carry_all.ensures)

pub returns-clause-migrates : goal.returns-clause-migrates
returns-clause-migrates g c =
    migrates_then g.S.Store (AreLedIfNamed 2) IsReady led_to_3 led_to_third (λ P ready. (ready, ready.1.meta)) (λ P ready. refl)
    (migrates_then g.S.Store LoansMoved IsReady (λ P. all_over loans1 loans_transfer (all_over rules1 rules_transfer P)) made_loans
    (λ P ready. (ready, (all_over_limits rules_carried P ready.1 (own_rules P ready.1), ready.0.later_loans))) (λ P ready. refl)
    (migrates_then g.S.Store RulesMoved IsReady (all_over rules1 rules_transfer) made_rules
    (λ P ready. (ready, (ready.1, λ k. ready.0.later_rules k.0 k.1))) (λ P ready. refl)
    (made_migrates g.S.Store _ 2 3 14 refl IsReady encoded_2 c.in_ok-make_third.ensures) c.in_ok-carry_rules.ensures) c.in_ok-carry_all.ensures)
    c.name_schema.ensures.named

pub returns-clause-told : goal.returns-clause-told
returns-clause-told g c = c.name_schema.ensures.told
