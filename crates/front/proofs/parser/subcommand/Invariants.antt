use Rattle.std.proofs.Common.{map, take}
use Rattle.terms.specs.Commands.{column}
use Rattle.front.specs.Line.{IsApp, command_app, names_in}
use Rattle.front.proofs.parser.subcommand.Given as goal

abbrev pub invariant-loop-part : goal.invariant-loop-part
invariant-loop-part l = IsApp l.line (command_app l.name (names_in (map column (take l.part-index l.parts))))
