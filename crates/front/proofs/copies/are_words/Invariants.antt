use Rattle.std.proofs.Common.{◌≡◌, ◌<◌, ℕ}
use Rattle.csv.specs.Records.{field_at, fields_of}
use Rattle.terms.specs.Commands.{texts}
use Rattle.front.proofs.copies.are_words.Given as goal

abbrev pub invariant-loop-place : goal.invariant-loop-place
invariant-loop-place l = (k : ℕ) → k < l.place → field_at (fields_of l.fn.fields) k ≡ field_at (texts l.fn.words) k
