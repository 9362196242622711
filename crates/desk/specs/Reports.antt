-- The desk's reports as one type: their texts, and the outcome of writing one.
use Rattle.std.specs.Prelude.{◌≡◌, ℕ, List, Option, None, Result, Err, OnOk, OnErr}
use Rattle.std.specs.Io.KnownBytes.{Appends, Keeps}
use Rattle.store.specs.Library.{Ghosts, Held, state, IsClean}
use Rattle.circ_tables.specs.Encoding.{HasPicture}
use Rattle.terms.specs.Limits.{InLimits}
use Rattle.terms.specs.Pictures.{Picture}
use Rattle.terms.specs.declared.fault.Fault.TheVariants.{Stored}
use Rattle.terms.specs.declared.refusal.Refusal.{Refusal}
use Rattle.terms.specs.declared.refusal.Refusal.TheVariants.{UnknownBranch}
use Rattle.model.specs.History.{History}
use Rattle.model.specs.Picture.{picture}
use Rattle.model.specs.Reports.{overdue, till, shelf}
use Rattle.desk.specs.Answering.{Shows, DeskLooks}
use Rattle.desk.specs.Written.{HasBranch, SendsFront}
use Rattle.desk.specs.declared.report_fault.ReportFault.{ReportFault}
use Rattle.desk.specs.declared.report_fault.ReportFault.TheVariants.{Refused, Faulted, NotWritten}
use Rattle.desk.specs.declared.reports.Report.{Report}
use Rattle.desk.specs.declared.reports.Report.TheVariants.{Overdue, Till, Shelf}

-- The report after a list of accepted requests.
abbrev pub report_text : History → Report → List ℕ
report_text H (Overdue branch) = overdue H branch
report_text H (Till day) = till H day
report_text H (Shelf branch) = shelf H branch

-- The report exists: for any day, or for an existing branch.
abbrev pub IsThere : History → Report → Type 0
IsThere H (Overdue branch) = HasBranch H branch
IsThere H (Till day) = Unit {0}
IsThere H (Shelf branch) = HasBranch H branch

-- The report doesn't exist: its branch is unknown.
abbrev pub IsUnknown : History → Report → Type 0
IsUnknown H (Overdue branch) = (picture H).branches branch ≡ None
IsUnknown H (Till day) = ⊥
IsUnknown H (Shelf branch) = (picture H).branches branch ≡ None

-- A report's bytes were written, or it was refused, or a write or the database failed. `before` and `after`
-- are the writer's bytes before and after.
pub record WritesAnyReport {S T : Type 0} (report : Report)
    (g : Ghosts S) (old new : Held S) (before after : Option (List ℕ))
    (result : Result T ReportFault) : Type 0 where
  -- the report exists, and it went out as the tables show it
  pub written : IsClean g new
      → OnOk result ((H : History) → Shows (state g old) H
      → IsThere H report × Appends before after (report_text H report))
  -- a refusal is that of an unknown branch, and nothing went out
  pub refused : (refusal : Refusal) → result ≡ Err (Refused refusal)
      → (refusal ≡ UnknownBranch) × Keeps before after
  -- the report's branch is unknown, and the tables show what they showed
  pub unknown : IsClean g new → (refusal : Refusal) → result ≡ Err (Refused refusal)
      → (H : History) → Shows (state g old) H → IsUnknown H report × Shows (state g new) H
  -- if a write or the database failed, a beginning of the report went out
  pub cut : OnErr result (SendsFront (λ H. report_text H report) g old new before after)
  -- fault 93 doesn't come if the tables show a list of accepted requests
  pub sound : IsClean g new → result ≡ Err (Faulted Stored) → (H : History) → Shows (state g old) H
      → ⊥
  -- for a till report it comes only if a row is out of its limits, whatever the rows
  pub stored : (day : ℕ) → report ≡ Till day → IsClean g new → result ≡ Err (Faulted Stored)
      → (P : Picture) → HasPicture (state g old).now P → InLimits P → ⊥
  -- if a write failed, the report exists, and the tables show what they showed
  pub stays : IsClean g new → result ≡ Err NotWritten → (H : History) → Shows (state g old) H
      → IsThere H report × Shows (state g new) H
  -- whatever the outcome, the tables show what they showed
  pub looks : DeskLooks (state g old) (state g new) result
