use Rattle.std.proofs.Common.{sym, ◌∙◌}
use Rattle.model.proofs.Settings.{kinds-shown, kind-told}
use Rattle.desk.proofs.Looking.{idle, gives}
use Rattle.desk.proofs.settings.KindsListed.row_text.Goals as goal

pub returns : goal.returns
returns g c = gives idle (λ _ _ _. tt) (λ H legal given none. (
  (kinds-shown H c.args.row.now.kind).1 (c.args.row.now, given.1),
  c.in_ok-kind_row.ensures ∙ sym (kind-told H c.args.row.now.kind c.args.row.now given.1),
))
