use Rattle.std.proofs.Common.{sym, ◌∙◌}
use Rattle.model.proofs.Settings.{branches-shown, branch-told}
use Rattle.desk.proofs.Looking.{idle, gives}
use Rattle.desk.proofs.settings.BranchesListed.row_text.Goals as goal

pub returns : goal.returns
returns g c = gives idle (λ _ _ _. tt) (λ H legal given none. (
  (branches-shown H c.args.row.now.branch).1 (c.args.row.now, given.1),
  c.in_ok-branch_row.ensures ∙ sym (branch-told H c.args.row.now.branch c.args.row.now given.1),
))
