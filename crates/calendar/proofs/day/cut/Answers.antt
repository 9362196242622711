use Rattle.std.proofs.Common.{◌≡◌, ℕ, zero, suc, ◌+◌, ◌*◌, ◌/◌, ◌%◌, ◌<◌, List, [], ◌∷◌, length, get_or, drop, arith, ◌∙◌, ap}
use Rattle.std.proofs.Math.Seq.{drop-cons}
use Rattle.std.proofs.lemmas.Grind.{common_steps}
use Rattle.calendar.specs.Days.{two_digits, date_text}
use Rattle.calendar.proofs.day.cut.Goals as goal

century_of : (hi lo : ℕ) → lo < 100 → (hi * 100 + lo) / 100 ≡ hi
century_of hi lo l = omega arith

rest_of : (hi lo : ℕ) → lo < 100 → (hi * 100 + lo) % 100 ≡ lo
rest_of hi lo l = omega arith

joined : (t : List ℕ) (a b c d e f g h : ℕ) (hi lo m dd : ℕ) → lo < 100
    → t ≡ a ∷ b ∷ c ∷ d ∷ 45 ∷ e ∷ f ∷ 45 ∷ g ∷ h ∷ []
    → two_digits hi ≡ a ∷ b ∷ [] → two_digits lo ≡ c ∷ d ∷ [] → two_digits m ≡ e ∷ f ∷ [] → two_digits dd ≡ g ∷ h ∷ []
    → t ≡ date_text (hi * 100 + lo) m dd
joined t a b c d e f g h hi lo m dd small whole p q r s =
    let x = century_of hi lo small in
    let y = rest_of hi lo small in
    rw (x, y) cc

-- n items from i on
abbrev listing : ℕ → ℕ → List ℕ → List ℕ
listing i zero t = []
listing i (suc n) t = get_or t i 0 ∷ listing (suc i) n t

listing-is : (n i : ℕ) (t : List ℕ) → i + n ≡ length t → drop i t ≡ listing i n t
listing-is zero i t h = grind (arith, common_steps)
listing-is (suc n) i t h =
    let lt : i < length t = omega arith in
    drop-cons t i 0 lt ∙ ap (λ r. get_or t i 0 ∷ r) (listing-is n (suc i) t (omega arith))

pub returns-clause-some : goal.returns-clause-some
returns-clause-some c =
    let p1 = c.in_ok-century.ensures.some in
    let p2 = c.in_ok-year.ensures.some in
    let p3 = c.in_ok-pair.ensures.some in
    let p4 = c.in_ok-pair-2.ensures.some in
    let t = c.args.text.now in
    let ten = listing-is 10 0 t (omega arith) in
    (omega (arith, p1.0, p2.0), p3.0, p4.0, joined _ _ _ _ _ _ _ _ _ c.in_ok-century.century _ _ _ p2.0 (cc ten) p1.1 p2.1 p3.1 p4.1)
