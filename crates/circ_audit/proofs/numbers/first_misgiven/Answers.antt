use Rattle.std.proofs.Common.{◌≡◌, ◌<◌, ◌≤◌, ℕ, false, List, drop, sym, ◌∙◌, ap, subst, true≢false}
use Rattle.std.specs.Prelude.{is_some}
use Rattle.terms.specs.Orders.{Rise}
use Rattle.terms.proofs.OrderLemmas.{ordered-as}
use Rattle.circ_audit.specs.References.{has}
use Rattle.circ_audit.specs.Numbers.{IsGiven, IsPlaceOf}
use Rattle.circ_audit.specs.Sound.{FailsFirst}
use Rattle.circ_audit.proofs.Gaps.{zero-not-there, rise-drop, rest-is, misgiven-after}
use Rattle.circ_audit.proofs.numbers.first_misgiven.Goals.{else-is_none-via-then-is_none+else-begins_with_zero, else-is_none-via-else-is_none}
use Rattle.circ_audit.proofs.numbers.first_misgiven.Goals as goal

pub first_misgiven_in-requires-clause-rise : goal.first_misgiven_in-requires-clause-rise
first_misgiven_in-requires-clause-rise g c =
    let last_of = g.R.Keyed.last_of in
    let rows = c.as_slice-2.result.now in
    subst (Rise last_of) (sym (rest-is last_of rows c.place_of-place.result))
    (rise-drop last_of rows c.place_of-place.result
    (ordered-as g.R.Ordered.comes_before (λ r s. last_of r < last_of s) g.met.R.Numbered.by_number rows c.as_slice-2.ensures.ordered))

pub returns : goal.returns
returns g c =
    let last_of = g.R.Keyed.last_of in
    let place = c.place_of-place.result in
    misgiven-after last_of c.args.rows.now c.args.next place c.args.after c.first_misgiven_in.result
    (subst (λ (from : ℕ). IsPlaceOf last_of c.args.rows.now from place) c.next_of-from.ensures c.place_of-place.ensures)
    (λ none. elim c.else-is_none.branch [
      | else-is_none-via-then-is_none+else-begins_with_zero w ↦
          subst (λ (rows : List _). has last_of rows 0 ≡ false) w.as_slice.ensures.rows
          (zero-not-there last_of w.as_slice.result.now
          (ordered-as g.R.Ordered.comes_before (λ r s. last_of r < last_of s) g.met.R.Numbered.by_number w.as_slice.result.now w.as_slice.ensures.ordered)
          (sym w.begins_with_zero.ensures ∙ w.if-begins_with_zero.false))
      | else-is_none-via-else-is_none w ↦ absurd (true≢false (sym w.if-is_none.ensures ∙ ap is_some none))
    ])
    (subst (λ (from : ℕ). FailsFirst (λ n. from ≤ n → IsGiven last_of c.args.next (drop place c.args.rows.now) n) c.first_misgiven_in.result)
    c.next_of-from.ensures
    (subst (λ (rows : List _). FailsFirst (λ n. c.next_of-from.result ≤ n → IsGiven last_of c.args.next (drop place rows) n) c.first_misgiven_in.result)
    c.as_slice-2.ensures.rows
    (subst (λ (rows : List _). FailsFirst (λ n. c.next_of-from.result ≤ n → IsGiven last_of c.args.next rows n) c.first_misgiven_in.result)
    (rest-is last_of c.as_slice-2.result.now place) c.first_misgiven_in.ensures)))
