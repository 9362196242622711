use Rattle.std.proofs.Common.{◌≡◌, ℕ, arith, ℤ, pos, sym, ap, subst, ◌∙◌}
use Rattle.std.proofs.lemmas.Int.{ints}
use Rattle.jiff_core.specs.Calendar.{IsCivilDate, days_from_civil}
use Rattle.jiff_core.specs.Date.{epoch_day}
use Rattle.jiff_core.specs.declared.civil.date.Date.{Date}
use Rattle.jiff_core.proofs.DateLemmas.{civil}
use Rattle.calendar.proofs.day.civil_day.Goals as goal

abbrev Numbered : ℤ → ℕ → ℕ → ℤ → Type 0
Numbered y m d z = IsCivilDate y m d × (days_from_civil y m d ≡ z)

numbered : (date : Date) (y m d : ℕ) (z : ℤ) → date.year ≡ pos y → date.month ≡ m → date.day ≡ d → epoch_day date ≡ z → Numbered (pos y) m d z
numbered date y m d z a g h f =
    subst (λ (v : ℤ). Numbered v m d z) a
    (subst (λ (v : ℕ). Numbered date.year v d z) g (subst (λ (v : ℕ). Numbered date.year date.month v z) h (civil date, f)))

pub returns-else-number-lt0-clause-some : goal.returns-else-number-lt0-clause-some
returns-else-number-lt0-clause-some c =
    let date = c.in-Ok.date in
    let made = c.in-Ok.ensures.value in
    let z = c.to_unix_epoch_day-number.result in
    let is : z ≡ epoch_day c.to_plain.result = c.to_unix_epoch_day-number.ensures.value in
    let same : epoch_day c.to_plain.result ≡ epoch_day date = ap epoch_day c.to_plain.ensures in
    numbered date c.args.year c.args.month c.args.day _ (omega (arith, ints, made.0)) (omega (arith, ints, made.1))
    (omega (arith, ints, made.2)) (sym same ∙ sym is ∙ grind (arith, ints))
