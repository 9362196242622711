use Rattle.std.proofs.Common.{◌≡◌, length}
use denote.Text.{Utf8}
use denote.Shadow.{shadow}
use Rattle.finding.specs.Finding.{folded, occurs_in}
use Rattle.finding.proofs.searching.occurs.Given as goal

abbrev pub invariant-loop-text_left : goal.invariant-loop-text_left
invariant-loop-text_left l = shadow (Utf8 l.text_left)
    × (occurs_in (folded l.fn.word) (folded l.fn.text) ≡ occurs_in (folded l.fn.word) (folded l.text_left))

abbrev pub decreases-loop-text_left : goal.decreases-loop-text_left
decreases-loop-text_left l = length l.text_left
