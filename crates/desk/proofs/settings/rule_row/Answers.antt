use Rattle.std.proofs.Common.{[], ◌∷◌, ◌++◌, sym, ◌∙◌, ap₂}
use Rattle.std.specs.Prelude.{codes, decimal}
use Rattle.desk.specs.Asking.{fine_words}
use Rattle.desk.proofs.Placings.{spaced-after}
use Rattle.desk.proofs.settings.rule_row.Goals as goal

pub returns : goal.returns
returns c = c.in_ok-push_str.ensures.bytes ∙ ap₂ ◌++◌ c.in_ok-text.ensures (c.deref.ensures ∙ c.in_ok-fines.ensures)
    ∙ sym (spaced-after (codes "rule") (decimal c.args.row.now.kind ∷ decimal c.args.row.now.copy_kind ∷ codes "period" ∷ decimal c.args.row.now.period
    ∷ codes "renewals" ∷ decimal c.args.row.now.renewals ∷ []) (fine_words c.args.row.now))
