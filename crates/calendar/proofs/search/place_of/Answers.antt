use Rattle.std.proofs.lemmas.Bool.Decides.{Decides-eqb}
use Rattle.std.specs.Prelude.{◌==◌}
use Rattle.std.proofs.Common.{◌≡◌, ℕ, Bool, false, ◌∙◌, arith}
use Rattle.calendar.proofs.search.place_of.Goals.{else-place-len-via-then-place-len+else-eq, else-place-len-via-else-place-len}
use Rattle.calendar.proofs.SinglesLemmas.{IsPlaceFor-apart, has_day-IsPlaceFor}
use Rattle.calendar.proofs.search.place_of.Goals as goal

differs : (x d : ℕ) (r : Bool) → r ≡ (x == d) → r ≡ false → x ≡ d → ⊥
differs x d r e f same = let t = (Decides-eqb x d).1 same in cc

pub returns-else-place-len-clause-missing : goal.returns-else-place-len-clause-missing
returns-else-place-len-clause-missing g c =
    let p = rw c.number.ensures.value at c.count_below-place.ensures.below in
    has_day-IsPlaceFor c.args.singles.now c.args.day c.count_below-place.result
    (IsPlaceFor-apart c.args.singles.now c.args.day c.count_below-place.result c.requires.rising p
    (λ lt same. elim c.else-place-len.branch [
      | else-place-len-via-then-place-len+else-eq w ↦ differs _ _ _ w.eq.ensures w.if-eq.false (w.at.ensures.day ∙ same)
      | else-place-len-via-else-place-len w ↦ absurd (omega (arith, w.if-place-len.false, c.len.ensures))
    ]))
