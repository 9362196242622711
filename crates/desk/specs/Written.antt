-- The outcome of writing a report.
use Rattle.std.specs.Prelude.{◌≡◌, ℕ, List, Option, Some, None, Err, Result, OnOk, OnErr}
use Rattle.std.specs.Io.KnownBytes.{Appends, Keeps}
use Rattle.store.specs.Library.{Ghosts, Held, state, IsClean}
use Rattle.circ_tables.specs.Encoding.{HasPicture}
use Rattle.terms.specs.Limits.{InLimits}
use Rattle.terms.specs.Pictures.{Picture}
use Rattle.terms.specs.declared.fault.Fault.TheVariants.{Stored}
use Rattle.terms.specs.declared.refusal.Refusal.{Refusal}
use Rattle.terms.specs.declared.refusal.Refusal.TheVariants.{UnknownBranch}
use Rattle.terms.specs.declared.row.BranchRow.{BranchRow}
use Rattle.model.specs.History.{History}
use Rattle.model.specs.Picture.{picture}
use Rattle.model.specs.Reports.{till}
use Rattle.desk.specs.Answering.{Shows, DeskLooks}
use Rattle.desk.specs.Parts.{IsFront}
use Rattle.desk.specs.declared.report_fault.ReportFault.{ReportFault}
use Rattle.desk.specs.declared.report_fault.ReportFault.TheVariants.{Refused, Faulted, NotWritten}

-- The branch exists.
abbrev pub HasBranch : History → ℕ → Type 0
HasBranch H branch = (row : BranchRow) × ((picture H).branches branch ≡ Some row)

-- Some bytes went out: after each list of accepted requests that the tables showed, they are a beginning of
-- its report. `before` and `after` are the writer's bytes before and after.
pub record SendsFront {S : Type 0} (text : History → List ℕ)
    (g : Ghosts S) (old new : Held S) (before after : Option (List ℕ)) : Type 0 where
  pub sent : List ℕ
  pub wrote : Appends before after sent
  pub front : IsClean g new → (H : History) → Shows (state g old) H → IsFront sent (text H)

-- A branch's report was written, or refused, or a write or the database failed. `before` and `after` are the
-- writer's bytes before and after.
pub record WritesReport {S T : Type 0} (text : History → List ℕ) (branch : ℕ)
    (g : Ghosts S) (old new : Held S) (before after : Option (List ℕ))
    (result : Result T ReportFault) : Type 0 where
  -- the report went out, as the tables show it
  pub written : IsClean g new
      → OnOk result ((H : History) → Shows (state g old) H → Appends before after (text H))
  -- the branch exists
  pub known : IsClean g new
      → OnOk result ((H : History) → Shows (state g old) H → HasBranch H branch)
  -- a refusal is that of an unknown branch, and nothing went out
  pub refused : (refusal : Refusal) → result ≡ Err (Refused refusal)
      → (refusal ≡ UnknownBranch) × Keeps before after
  -- the branch doesn't exist, and the tables show what they showed
  pub unknown : IsClean g new → (refusal : Refusal) → result ≡ Err (Refused refusal)
      → (H : History) → Shows (state g old) H
      → ((picture H).branches branch ≡ None) × Shows (state g new) H
  -- if a write or the database failed, a beginning of the report went out
  pub cut : OnErr result (SendsFront text g old new before after)
  -- fault 93 doesn't come if the tables show a list of accepted requests
  pub sound : IsClean g new → result ≡ Err (Faulted Stored) → (H : History) → Shows (state g old) H
      → ⊥
  -- if a write failed, the branch exists, and the tables show what they showed
  pub stays : IsClean g new → result ≡ Err NotWritten → (H : History) → Shows (state g old) H
      → HasBranch H branch × Shows (state g new) H
  -- whatever the outcome, the tables show what they showed
  pub looks : DeskLooks (state g old) (state g new) result

-- A day's till report was written, or a write or the database failed.
pub record WritesTill {S T : Type 0} (day : ℕ)
    (g : Ghosts S) (old new : Held S) (before after : Option (List ℕ))
    (result : Result T ReportFault) : Type 0 where
  -- the report went out, as the tables show it
  pub written : IsClean g new
      → OnOk result ((H : History) → Shows (state g old) H → Appends before after (till H day))
  -- it is never refused
  pub refused : (refusal : Refusal) → result ≡ Err (Refused refusal) → ⊥
  -- if a write or the database failed, a beginning of the report went out
  pub cut : OnErr result (SendsFront (λ H. till H day) g old new before after)
  -- fault 93 doesn't come if the tables show a list of accepted requests
  pub sound : IsClean g new → result ≡ Err (Faulted Stored) → (H : History) → Shows (state g old) H
      → ⊥
  -- it comes only if a row is out of its limits, whatever the rows: no sum of lines is too large to be
  -- reported
  pub stored : IsClean g new → result ≡ Err (Faulted Stored) → (P : Picture)
      → HasPicture (state g old).now P → InLimits P → ⊥
  -- if a write failed, the tables show what they showed
  pub stays : IsClean g new → result ≡ Err NotWritten → (H : History) → Shows (state g old) H
      → Shows (state g new) H
  -- whatever the outcome, the tables show what they showed
  pub looks : DeskLooks (state g old) (state g new) result
