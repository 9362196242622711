use Rattle.std.proofs.Common.{sym}
use Rattle.clap.specs.Words.{first_value, found_of}
use Rattle.front.proofs.DeskLine.{none-given}
use Rattle.front.proofs.words.words_given.Goals as goal

pub returns-in_default-clause-refused : goal.returns-in_default-clause-refused
returns-in_default-clause-refused c = λ found e.
    none-given (first_value (found_of c.args.given.now)) c.args.parts.now c.loop-part.part-index _ found c.loop-part-test.true (sym c.in_default.ensures) e
