use Rattle.std.proofs.Common.{map, sym, ◌∙◌, ap, subst}
use Rattle.terms.specs.declared.row.PatronRow.{PatronRow}
use Rattle.model.proofs.RowRanges.{legal-rows}
use Rattle.desk.specs.Showing.{AreEnrolled}
use Rattle.desk.proofs.Enrolled.{enrolled}
use Rattle.desk.proofs.Looking.{looked, gives, stops, fails}
use Rattle.desk.proofs.Sound.{is-readable}
use Rattle.desk.proofs.showing.patrons.Goals as goal

pub returns-in_err-rows : goal.returns-in_err-rows
returns-in_err-rows g c = fails _ c.from_residual.ensures (looked c.in_err-rows.ensures legal-rows is-readable) (λ _ _ _. tt)

pub returns-in_err-numbers : goal.returns-in_err-numbers
returns-in_err-numbers g c = stops _ c.from_residual-in_err-numbers.ensures (looked c.in_ok-rows.ensures legal-rows is-readable)

pub returns : goal.returns
returns g c = gives (looked c.in_ok-rows.ensures legal-rows is-readable) (λ _ _ _. tt)
    (λ H legal _ are. subst (AreEnrolled H) (sym (c.in_ok-numbers.ensures ∙ ap (map (λ (r : PatronRow). r.patron)) c.as_slice.ensures.rows))
    (enrolled H c.in_ok-rows.rows are))
