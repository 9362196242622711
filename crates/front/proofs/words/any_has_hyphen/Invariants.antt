use Rattle.std.proofs.Common.{◌≡◌, drop}
use Rattle.std.specs.List.{list_any}
use Rattle.front.specs.Understood.{begins_with_hyphen, texts_of}
use Rattle.front.proofs.words.any_has_hyphen.Given as goal

abbrev pub invariant-loop-word : goal.invariant-loop-word
invariant-loop-word l =
    list_any begins_with_hyphen (texts_of (drop l.word-index l.words)) ≡ list_any begins_with_hyphen (texts_of l.words)
