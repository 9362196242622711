use Rattle.std.proofs.Common.{◌≡◌, ℕ, ◌/◌, ◌%◌, ◌≤◌, ◌++◌, ◌∷◌, ap, arith, ◌∙◌, List, refl, subst}
use Rattle.std.proofs.lemmas.Fmt.{decimal_digit}
use Rattle.std.specs.Fmt.{decimal, WritesOnOk}
use Rattle.calendar.specs.Days.{day_text, date_text}
use Rattle.calendar.proofs.DayLemmas.{day_text-is}
use Rattle.calendar.proofs.day.DayDisplay.fmt.Goals as goal

-- eight digits and two hyphens, as they are printed, are the text of the date
printed : (y m d : ℕ) → y ≤ 9999 → m ≤ 12 → d ≤ 31
    → decimal (y / 100 / 10) ++ (decimal (y / 100 % 10)
    ++ (decimal (y % 100 / 10) ++ (decimal (y % 100 % 10)
    ++ (45 ∷ (decimal (m / 10) ++ (decimal (m % 10) ++ (45 ∷ (decimal (d / 10) ++ decimal (d % 10)))))))))
    ≡ date_text y m d
printed y m d a b c =
    let e1 = decimal_digit (y / 100 / 10) (omega arith) in
    let e2 = decimal_digit (y / 100 % 10) (omega arith) in
    let e3 = decimal_digit (y % 100 / 10) (omega arith) in
    let e4 = decimal_digit (y % 100 % 10) (omega arith) in
    let e5 = decimal_digit (m / 10) (omega arith) in
    let e6 = decimal_digit (m % 10) (omega arith) in
    let e7 = decimal_digit (d / 10) (omega arith) in
    let e8 = decimal_digit (d % 10) (omega arith) in
    rw (e1, e2, e3, e4, e5, e6, e7, e8) refl

same_date : (y m d y₂ m₂ d₂ : ℕ) → y ≡ y₂ → m ≡ m₂ → d ≡ d₂ → date_text y m d ≡ date_text y₂ m₂ d₂
same_date y m d y₂ m₂ d₂ a b c = cc

pub returns-clause-writes : goal.returns-clause-writes
returns-clause-writes g c =
    let p = c.parts-year.ensures in
    let y = c.parts-year.result.0 in
    let m = c.parts-year.result.1 in
    let d = c.parts-year.result.2 in
    subst (λ (bs : List ℕ). WritesOnOk g.W.Write.write_str_gives c.args.f.now c.write.result bs c.write.new.self)
    (printed y m d p.year.1 p.month.1 p.day.1
    ∙ (same_date _ _ _ _ _ _ p.year.0 p.month.0 p.day.0 ∙ (day_text-is c.self.inside.number ∙ ap day_text c.self.view_is)))
    c.write.ensures.writes
