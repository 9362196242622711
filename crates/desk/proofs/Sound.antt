-- Rows left by a list of accepted requests: none is damaged, and what they name exists.
use Rattle.std.proofs.Common.{◌≡◌, ℕ, true, sym, ◌∙◌, ap}
use Rattle.std.specs.Prelude.{Some, is_some}
use Rattle.terms.specs.declared.row.CopyRow.{CopyRow}
use Rattle.terms.specs.declared.row.LoanRow.{LoanRow}
use Rattle.terms.specs.declared.row.HoldRow.{HoldRow}
use Rattle.store.specs.Reads.{IsReadable}
use Rattle.model.specs.History.{History}
use Rattle.model.specs.Forms.{HasForms}
use Rattle.model.specs.Picture.{picture}
use Rattle.model.specs.Requests.{IsLegal}
use Rattle.model.proofs.ClosedDays.{closes-few}
use Rattle.model.proofs.LimitLaws.{limit-is}
use Rattle.model.proofs.References.{legal-references}
use Rattle.model.proofs.RowRanges.{legal-rows}
use Rattle.model.proofs.Runs.{forms-whole}
use Rattle.desk.specs.Reporting.{IsReadyRow}
use Rattle.desk.proofs.Shown.{has-one-copy}
use Rattle.circ_core.proofs.Claims.{hold_row-is}
use Rattle.terms.specs.declared.row.HoldState.{HoldState}
use Rattle.terms.specs.declared.row.HoldState.TheVariants.{Ready}
use Rattle.model.specs.History.{HoldFacts, hold_of}
use Rattle.model.specs.Places.{state, limit}
use Rattle.model.specs.Picture.{hold_columns, if_ready}

pub is-readable : (H : History) → IsLegal H → HasForms H → IsReadable (picture H)
is-readable H legal forms = (legal-rows H legal forms, closes-few H legal)

module _ (H : History) (legal : IsLegal H) where
  pub copy-title : (c : ℕ) (r : CopyRow) → (picture H).copies c ≡ Some r → is_some ((picture H).titles r.title) ≡ true
  copy-title = (legal-references H legal).copy_title

  pub loan-copy : (l : ℕ) (r : LoanRow) → (picture H).loans l ≡ Some r → is_some ((picture H).copies r.copy) ≡ true
  loan-copy = (legal-references H legal).loan_copy

  pub hold-title : (h : ℕ) (r : HoldRow) → (picture H).holds h ≡ Some r → is_some ((picture H).titles r.title) ≡ true
  hold-title = (legal-references H legal).hold_title

-- A ready hold names its copy and has its shelf limit.
pub ready-copy : (H : History) → IsLegal H → (r : HoldRow) → IsReadyRow r H → (copy : ℕ) × (r.copy ≡ Some copy)
ready-copy H legal r is = let one = has-one-copy H legal r.hold r is.0 is.1 in (one.copy, one.named)

pub ready-limit : (H : History) → IsLegal H → HasForms H → (r : HoldRow) → IsReadyRow r H → (day : ℕ) × (r.limit_day ≡ Some day)
ready-limit H legal forms r is =
    let row : (s : HoldState) × (f : HoldFacts) × (state H r.hold ≡ Some s) × (hold_of H r.hold ≡ Some f)
    × (hold_columns H r.hold s f ≡ r) = hold_row-is H r.hold r is.0 in
    let ready : row.0 ≡ Ready = ap (λ (y : HoldRow). y.state) row.4 ∙ is.1 in
    let until = limit-is H r.hold legal (forms-whole H forms) (row.2 ∙ ap Some ready) in
    (until.0, sym (ap (λ (y : HoldRow). y.limit_day) row.4) ∙ ap (λ (s : HoldState). if_ready (Some s) (limit H r.hold)) ready ∙ until.1)
