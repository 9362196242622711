use Rattle.std.proofs.Common.{◌≡◌, length}
use denote.Text.{Utf8}
use denote.Shadow.{shadow}
use Rattle.finding.specs.Finding.{folded, begins_with}
use Rattle.finding.proofs.searching.begins.Given as goal

abbrev pub invariant-loop-letter : goal.invariant-loop-letter
invariant-loop-letter l = shadow (Utf8 l.word_left) × shadow (Utf8 l.text_left)
    × (begins_with (folded l.fn.word) (folded l.fn.text) ≡ begins_with (folded l.word_left) (folded l.text_left))

abbrev pub decreases-loop-letter : goal.decreases-loop-letter
decreases-loop-letter l = length l.word_left
