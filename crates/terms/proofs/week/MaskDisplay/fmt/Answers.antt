use Rattle.std.proofs.Common.{◌≡◌, ℕ, List, Bool, [], ◌∷◌, ◌++◌, refl, subst, ap, ◌∙◌}
use Rattle.std.specs.Fmt.{WritesOnOk}
use Rattle.terms.specs.Texts.{mask_text, weekday_letter}
use Rattle.terms.proofs.week.MaskDisplay.fmt.Goals as goal

-- the letters of the seven weekdays, one after another
lettered : (closed : List Bool) (a b c d e f g : List ℕ) → a ≡ weekday_letter closed 0 ∷ [] → b ≡ weekday_letter closed 1 ∷ []
    → c ≡ weekday_letter closed 2 ∷ []
    → d ≡ weekday_letter closed 3 ∷ [] → e ≡ weekday_letter closed 4 ∷ [] → f ≡ weekday_letter closed 5 ∷ [] → g ≡ weekday_letter closed 6 ∷ []
    → a ++ (b ++ (c ++ (d ++ (e ++ (f ++ g))))) ≡ mask_text closed
lettered closed a b c d e f g ia ib ic id ie if₁ ig = rw (ia, ib, ic, id, ie, if₁, ig) refl

pub returns-clause-writes : goal.returns-clause-writes
returns-clause-writes g c =
    subst (λ (bs : List ℕ). WritesOnOk g.W.Write.write_str_gives c.args.f.now c.write.result bs c.write.new.self)
    (lettered c.self.inside.closed _ _ _ _ _ _ _ c.letter-monday.ensures c.letter-tuesday.ensures c.letter-wednesday.ensures
    c.letter-thursday.ensures c.letter-friday.ensures c.letter-saturday.ensures c.letter-sunday.ensures
    ∙ ap mask_text c.self.view_is)
    c.write.ensures.writes
