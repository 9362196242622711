use Rattle.std.proofs.Common.{rules}
use Rattle.terms.specs.declared.command.Command.{Command}
use Rattle.terms.specs.declared.command.Command.TheVariants.{Ask}
use Rattle.terms.specs.declared.question.Question.{Question}
use Rattle.terms.specs.declared.question.Question.TheVariants as question
use Rattle.terms.specs.Commands.{IsReadAs, texts}
use Rattle.terms.specs.Texts.{command_words}
use Rattle.terms.proofs.words.read_command.Goals as goal

-- Questions apart: all names in one search are more than it takes.
pub returns-in_default-clause-refused : goal.returns-in_default-clause-refused
unfolding command_words
returns-in_default-clause-refused c = λ e. record { none = unread }
  where
    unasked : (q : Question) → IsReadAs c.args.name.now (texts c.args.values.now) (Ask q) → ⊥
    unasked question.Today read = search rules
    unasked _ read = search rules

    unread : (x : Command) → IsReadAs c.args.name.now (texts c.args.values.now) x → ⊥
    unread (Ask q) read = unasked q read
    unread _ read = search rules
