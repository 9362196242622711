use Rattle.std.proofs.Common.{sym, ◌∙◌}
use Rattle.model.proofs.Invariants.{legal-Invariant}
use Rattle.model.proofs.RowRanges.{legal-rows}
use Rattle.desk.proofs.Looking.{looked, gives-formed, stops, fails, damaged}
use Rattle.desk.proofs.ListNumbers.{copies-to}
use Rattle.desk.proofs.Placings.{place-told, place-at, copy-row}
use Rattle.desk.proofs.lists.CopiesOfListed.row_text.Goals as goal

pub returns-in_err-rows : goal.returns-in_err-rows
returns-in_err-rows g c = fails _ c.from_residual.ensures (looked c.in_err-rows.ensures legal-rows legal-rows) (λ _ _ _. tt)

pub returns-in_default : goal.returns-in_default
returns-in_default g c = damaged (looked c.in_ok-rows.ensures legal-rows legal-rows) (λ _ _ _. tt) (λ H list given is.
    let it = place-told H list.0 list.1 c.args.row.now.copy c.args.row.now c.in_ok-rows.rows given.1.0 is in
    c.in_default.not-Some it.0 (c.place_of.ensures ∙ it.1))

pub returns-in_err-copy_row : goal.returns-in_err-copy_row
returns-in_err-copy_row g c = stops _ c.from_residual-in_err-copy_row.ensures (looked c.in_ok-rows.ensures legal-rows legal-rows)

pub returns : goal.returns
returns g c = gives-formed (looked c.in_ok-rows.ensures legal-rows legal-rows) (λ _ _ _. tt) (λ H list given is. (
  copies-to H (legal-Invariant H list.0) c.args.self.now.title c.args.row.now given.1.0 given.1.1,
  c.in_ok-copy_row.ensures
      ∙ copy-row H c.args.row.now.copy c.in-Some.place
      (place-at H list.0 list.1 c.args.row.now.copy c.args.row.now c.in_ok-rows.rows c.in-Some.place given.1.0 is (sym c.place_of.ensures ∙ c.in-Some.is)),
))
