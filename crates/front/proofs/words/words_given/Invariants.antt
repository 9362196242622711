use Rattle.std.proofs.Common.{◌≡◌, map, take, Some}
use Rattle.clap.specs.Words.{first_value, found_of}
use Rattle.terms.specs.Commands.{column, texts}
use Rattle.front.specs.Line.{names_in}
use Rattle.front.proofs.words.words_given.Given as goal

abbrev pub invariant-loop-part : goal.invariant-loop-part
invariant-loop-part l =
    map Some (texts l.words.items) ≡ map (first_value (found_of l.given)) (names_in (map column (take l.part-index l.parts)))
