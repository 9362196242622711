use Rattle.std.proofs.Common.{◌++◌, ◌∷◌, List, ℕ, Option, sym, ap, append-nil, ◌∙◌}
use Rattle.std.specs.Prelude.{option_map, string_bytes}
use Rattle.terms.specs.declared.row.BarcodeRow.{BarcodeRow}
use Rattle.model.proofs.RowRanges.{legal-rows}
use Rattle.desk.specs.Labelling.{barcode_tail}
use Rattle.desk.proofs.Labellings.{barcode-is, no-row}
use Rattle.desk.proofs.Looking.{looked, gives, fails, stops}
use Rattle.desk.proofs.labelling.with_barcode.Goals as goal
use Rattle.desk.proofs.labelling.with_barcode.Goals.{in-Some+in_ok-line+in_ok-add_line, in_default}

pub returns-in_err-row : goal.returns-in_err-row
returns-in_err-row g c = fails _ c.from_residual.ensures (looked c.in_err-row.ensures legal-rows legal-rows) (λ _ _ _. tt)

pub returns-in_err-line : goal.returns-in_err-line
returns-in_err-line g c = stops _ c.from_residual-in_err-line.ensures (looked c.in_ok-row.ensures legal-rows legal-rows)

pub returns-in_err-add_line : goal.returns-in_err-add_line
returns-in_err-add_line g c = stops _ c.from_residual-in_err-add_line.ensures (looked c.in_ok-row.ensures legal-rows legal-rows)

pub returns : goal.returns
returns g c = gives (looked c.in_ok-row.ensures legal-rows legal-rows) (λ _ _ _. tt) (λ H legal given found.
    let barcode = barcode-is H c.args.thing c.in_ok-row.field-0 found in
    elim c.match-branch-2.branch [
      | in-Some+in_ok-line+in_ok-add_line w ↦ rw w.text-is (w.in_ok-add_line.ensures
          ∙ ap (λ (line : List ℕ). string_bytes c.args.lines ++ (10 ∷ line)) (w.deref.ensures ∙ w.in_ok-line.ensures)
          ∙ ap (λ (o : Option (List ℕ)). string_bytes c.args.lines ++ barcode_tail o)
          (ap (option_map (λ (r : BarcodeRow). r.barcode)) (sym w.in-Some.is) ∙ barcode))
      | in_default w ↦ rw w.text-is (sym (append-nil (string_bytes c.args.lines))
          ∙ ap (λ (o : Option (List ℕ)). string_bytes c.args.lines ++ barcode_tail o)
          (ap (option_map (λ (r : BarcodeRow). r.barcode)) (sym (no-row c.in_ok-row.field-0 w.in_default.not-Some)) ∙ barcode))
    ])
