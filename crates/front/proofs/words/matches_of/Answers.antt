use Rattle.std.proofs.Common.{◌∙◌, ap, map}
use Rattle.clap.specs.Words.{App, takes}
use Rattle.terms.specs.Commands.{column}
use Rattle.front.specs.Understood.{texts_of}
use Rattle.front.proofs.DeskLine.{rows-parsed}
use Rattle.front.proofs.Faults.{not_refused}
use Rattle.front.proofs.words.matches_of.Goals as goal

pub returns-in-Ok-clause-read : goal.returns-in-Ok-clause-read
returns-in-Ok-clause-read c = λ shape.
    rows-parsed c.in_ok-line.line (texts_of c.args.words.now) (c.args.name.now, map column c.args.parts.now) _ shape c.in_ok-line.ensures
    c.in-Ok.ensures.matches

pub returns-in-Err-clause-refused : goal.returns-in-Err-clause-refused
returns-in-Err-clause-refused c = λ e t.
    not_refused c.fault_of.result
    (c.fault_of.ensures (c.in-Err.ensures.passes (ap (λ (line : App). takes line (texts_of c.args.words.now)) c.in_ok-line.ensures.app ∙ t))) e
