use Rattle.std.proofs.Common.{◌∙◌, map, sym, drop}
use Rattle.clap.specs.Words.{found_of, subcommand_rows_of}
use Rattle.terms.proofs.Faults.{same_error}
use Rattle.terms.specs.Commands.{column}
use Rattle.front.specs.Understood.{texts_of}
use Rattle.front.proofs.DeskLine.{taken-by_shape, values-by_shape, rows_there, Somes-same}
use Rattle.terms.specs.Commands.{texts}
use Rattle.front.proofs.words.words_after_name.Goals as goal

pub returns-in_err-matches-clause-refused : goal.returns-in_err-matches-clause-refused
returns-in_err-matches-clause-refused c = λ e shape.
    c.in_err-matches.ensures.refused (same_error _ c.in_err-matches.field-0.0 _ c.from_residual.ensures.1 e)
    (taken-by_shape (texts_of c.args.words.now) (c.args.name.now, map column c.args.parts.now) shape)

pub returns-in_default-clause-refused : goal.returns-in_default-clause-refused
returns-in_default-clause-refused c = λ e shape.
    rows_there (texts_of c.args.words.now) (c.args.name.now, map column c.args.parts.now) shape (subcommand_rows_of c.in_ok-matches.matches) (c.in_ok-matches.ensures.read shape)
    c.in_default.ensures.rows

pub returns-in-Some-2-clause-read : goal.returns-in-Some-2-clause-read
returns-in-Some-2-clause-read c = λ shape.
    let given = c.in-Some.given.now in
    let values = values-by_shape (texts_of c.args.words.now) (c.args.name.now, map column c.args.parts.now) shape (subcommand_rows_of c.in_ok-matches.matches) (found_of given)
    (c.in_ok-matches.ensures.read shape) c.in-Some.ensures.rows in
    let read = rw c.in-Some-2.is at c.in_ok-found.ensures.read in
    Somes-same (texts c.in-Some-2.found.items) (drop 1 (texts_of c.args.words.now)) (read ∙ values)

pub returns-clause-refused : goal.returns-clause-refused
returns-clause-refused c = λ e shape.
    let given = c.in-Some.given.now in
    let values = values-by_shape (texts_of c.args.words.now) (c.args.name.now, map column c.args.parts.now) shape (subcommand_rows_of c.in_ok-matches.matches) (found_of given)
    (c.in_ok-matches.ensures.read shape) c.in-Some.ensures.rows in
    let refused = rw c.in-None.is at c.in_ok-found.ensures.refused in
    refused (drop 1 (texts_of c.args.words.now)) (sym values)
