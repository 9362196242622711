use Rattle.std.proofs.Common.{[], ◌∷◌, ◌++◌, sym, ◌∙◌, ap₂}
use Rattle.std.specs.Prelude.{codes, decimal}
use Rattle.calendar.specs.Days.{day_text}
use Rattle.model.specs.Asking.{sort_word}
use Rattle.desk.specs.Asking.{words_of_loan}
use Rattle.desk.proofs.Placings.{spaced-after}
use Rattle.desk.proofs.lists.charge_row.Goals as goal

pub returns : goal.returns
returns c = c.in_ok-push_str.ensures.bytes ∙ ap₂ ◌++◌ c.in_ok-text.ensures (c.deref.ensures ∙ c.in_ok-charged.ensures)
    ∙ sym (spaced-after (codes "line") (decimal c.args.row.now.line ∷ day_text c.args.row.now.day ∷ sort_word c.args.row.now.sort
    ∷ decimal c.args.row.now.amount ∷ []) (words_of_loan c.args.loan c.args.title.now))
