use Rattle.std.proofs.Common.{sym, ap, ◌∙◌}
use Rattle.std.specs.Prelude.{Some, None}
use Rattle.model.proofs.RowRanges.{legal-rows}
use Rattle.desk.specs.Placing.{after_space}
use Rattle.desk.proofs.Labellings.{note-words-is}
use Rattle.desk.proofs.Looking.{looked, gives, fails, stops}
use Rattle.desk.proofs.labelling.note_text.Goals as goal

pub returns-in_err-row : goal.returns-in_err-row
returns-in_err-row g c = fails _ c.from_residual.ensures (looked c.in_err-row.ensures legal-rows legal-rows) (λ _ _ _. tt)

pub returns-in_err-after_line-in-Some : goal.returns-in_err-after_line-in-Some
returns-in_err-after_line-in-Some g c = stops _ c.from_residual-in_err-after_line-in-Some.ensures (looked c.in_ok-row.ensures legal-rows legal-rows)

pub returns-in_ok-after_line-in-Some : goal.returns-in_ok-after_line-in-Some
returns-in_ok-after_line-in-Some g c = gives (looked c.in_ok-row.ensures legal-rows legal-rows) (λ _ _ _. tt) (λ H legal given found.
    c.in_ok-after_line-in-Some.ensures ∙ ap after_space (note-words-is H c.args.line (Some c.in-Some.row) (sym c.in-Some.is ∙ found)))

pub returns-in-None : goal.returns-in-None
returns-in-None g c = gives (looked c.in_ok-row.ensures legal-rows legal-rows) (λ _ _ _. tt) (λ H legal given found.
    c.new.ensures.bytes ∙ ap after_space (note-words-is H c.args.line None (sym c.in-None.is ∙ found)))
