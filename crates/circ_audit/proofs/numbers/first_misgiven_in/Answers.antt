use Rattle.std.proofs.Common.{◌≡◌, ◌≤◌, ℕ, ◌-◌, Option, sym, ◌∙◌, ap, subst, arith}
use Rattle.std.specs.Prelude.{option_map, slice_get}
use Rattle.circ_audit.specs.Numbers.{IsGiven}
use Rattle.circ_audit.specs.Sound.{FailsFirst}
use Rattle.circ_audit.proofs.Gaps.{too-few, as-many}
use Rattle.circ_audit.proofs.numbers.first_misgiven_in.Goals as goal

pub returns-then-found-given : goal.returns-then-found-given
returns-then-found-given g c =
    let given = c.saturating_sub-given.ensures in
    let less = c.if-found-given.true in
    too-few g.R.Keyed.last_of c.args.from c.requires.positive c.args.rows.now c.requires.rise c.requires.above c.before_gap-found.result
    c.before_gap-found.ensures c.args.next (omega (arith, less, given))

pub returns : goal.returns
returns g c =
    let given = c.saturating_sub-given.ensures in
    let high = c.if-found-given.false in
    let same : c.saturating_sub-given.result ≡ c.args.next - c.args.from = omega (arith, given) in
    subst (λ (o : Option ℕ). FailsFirst (λ n. c.args.from ≤ n → IsGiven g.R.Keyed.last_of c.args.next c.args.rows.now n) o)
    (sym (c.number_at.ensures ∙ ap (λ (n : ℕ). option_map g.R.Keyed.last_of (slice_get c.args.rows.now n)) same))
    (as-many g.R.Keyed.last_of c.args.from c.requires.positive c.args.rows.now c.requires.rise c.requires.above c.before_gap-found.result
    c.before_gap-found.ensures c.args.next (omega (arith, high, same)))
