use Rattle.std.proofs.Common.{◌≡◌, ℕ, ap, ◌∙◌}
use Rattle.calendar.specs.Days.{day_text, date_text}
use Rattle.calendar.proofs.DayLemmas.{day_text-is}
use Rattle.calendar.proofs.day.Day.ascii.Goals as goal

same_date : (y m d y₂ m₂ d₂ : ℕ) → y ≡ y₂ → m ≡ m₂ → d ≡ d₂ → date_text y m d ≡ date_text y₂ m₂ d₂
same_date y m d y₂ m₂ d₂ a b c = cc

pub returns : goal.returns
returns c =
    let p = c.parts-year.ensures in
    same_date _ _ _ _ _ _ p.year.0 p.month.0 p.day.0 ∙ (day_text-is c.self.inside.number ∙ ap day_text c.self.view_is)
