use Rattle.std.proofs.Common.{◌≡◌, arith, ◌∙◌}
use Rattle.std.proofs.lemmas.Int.{ints}
use Rattle.std.specs.Prelude.{IfOk, Result, Ok}
use Rattle.jiff_core.specs.declared.civil.date.Date.{Date}
use Rattle.calendar.proofs.DayLemmas.{civil_of_parts}
use Rattle.calendar.proofs.day.parts.Goals as goal

of_ok : {E : Type 0} (r : Result Date E) (d : Date) (P : Date → Type 0) → r ≡ Ok d → IfOk r P → P d
of_ok r d P e h = rw e at h

pub overflow_cast-result : goal.overflow_cast-result
overflow_cast-result c =
    let z = of_ok _ _ _ c.unwrap-date.ensures c.from_unix_epoch_day.ensures.value in
    let p = civil_of_parts c.unwrap-date.result c.args.number c.requires (z ∙ omega (arith, ints)) in
    (grind (arith, ints, p.0, p.3), grind (arith, ints, p.0, p.3))

pub returns-clause-year : goal.returns-clause-year
returns-clause-year c =
    let z = of_ok _ _ _ c.unwrap-date.ensures c.from_unix_epoch_day.ensures.value in
    let p = civil_of_parts c.unwrap-date.result c.args.number c.requires (z ∙ omega (arith, ints)) in
    (omega (arith, ints, p.0, p.3), omega (arith, ints, p.0, p.3))

pub returns-clause-month : goal.returns-clause-month
returns-clause-month c =
    let z = of_ok _ _ _ c.unwrap-date.ensures c.from_unix_epoch_day.ensures.value in
    let p = civil_of_parts c.unwrap-date.result c.args.number c.requires (z ∙ omega (arith, ints)) in
    (p.1, omega (arith, p.1, p.4))

pub returns-clause-day : goal.returns-clause-day
returns-clause-day c =
    let z = of_ok _ _ _ c.unwrap-date.ensures c.from_unix_epoch_day.ensures.value in
    let p = civil_of_parts c.unwrap-date.result c.args.number c.requires (z ∙ omega (arith, ints)) in
    (p.2, omega (arith, p.2, p.5))
