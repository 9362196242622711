use Rattle.std.proofs.Common.{Some}
use Rattle.std.specs.Prelude.{IfSome}
use Rattle.terms.specs.Limits.{IsHold}
use Rattle.circ_tables.specs.Holds.{holds_are}
use Rattle.circ_tables.proofs.ReadingLemmas.{selects_then, selects_gives, selects_fails}
use Rattle.circ_tables.proofs.ShownLemmas.{are_encoded}
use Rattle.circ_tables.proofs.TurnLemmas.{nobody, nobody_yet, begun_if, later_if, in_turn, lesser_legal}
use Rattle.circ_tables.proofs.holds.first_in_line.Goals as goal

pub returns-in_default : goal.returns-in_default
returns-in_default g c =
    let first = rw c.in_default.is at c.in_ok-waiting.ensures in
    selects_gives first (λ maps db held found. nobody db maps held c.args.title c.args.today found) tt

pub returns-then-not-has_begun : goal.returns-then-not-has_begun
returns-then-not-has_begun g c =
    selects_gives c.in_ok-waiting.ensures (λ maps db held found.
    nobody_yet db maps held c.args.title c.args.today c.in-Some.waiting (rw c.in-Some.is at found)
    (later_if c.args.today c.in-Some.waiting c.has_begun.result c.has_begun.ensures c.if-not-has_begun.true))
    tt

pub returns-in_err-begun : goal.returns-in_err-begun
returns-in_err-begun g c = selects_fails _ _ c.from_residual-in_err-begun.ensures
    (selects_then (are_encoded holds_are) c.in_ok-waiting.ensures c.in_err-begun.ensures)

pub returns : goal.returns
returns g c =
    let begun = begun_if c.args.today c.in-Some.waiting c.has_begun.result c.has_begun.ensures c.if-not-has_begun.false in
    let legal : IfSome (Some c.in-Some.waiting) IsHold = rw c.in-Some.is at c.in_ok-waiting.ensures.limits in
    selects_gives (selects_then (are_encoded holds_are) c.in_ok-waiting.ensures c.in_ok-begun.ensures)
    (λ maps db held found.
    in_turn db maps held c.args.title c.args.today c.in-Some.waiting (rw c.in-Some.is at found.0) begun c.in_ok-begun.begun c.lesser.result
    found.1 c.lesser.ensures)
    (lesser_legal c.in-Some.waiting c.in_ok-begun.begun c.lesser.result legal c.in_ok-begun.ensures.limits c.lesser.ensures)
