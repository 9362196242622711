use Rattle.std.proofs.Common.{sym, ◌∙◌}
use Rattle.model.proofs.Settings.{rules-shown, rule-told}
use Rattle.desk.proofs.Looking.{idle, gives}
use Rattle.desk.proofs.settings.RulesOfListed.row_text.Goals as goal

pub returns : goal.returns
returns g c = gives idle (λ _ _ _. tt) (λ H legal given none. (
  (rules-shown H c.args.self.now.kind c.args.row.now.copy_kind).1 (c.args.row.now, given.1),
  c.in_ok-rule_row.ensures ∙ sym (rule-told H c.args.self.now.kind c.args.row.now.copy_kind c.args.row.now given.1),
))
