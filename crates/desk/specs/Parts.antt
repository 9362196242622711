-- The parts of a report, in the order they go out.
use Rattle.std.specs.Prelude.{◌≡◌, ◌<◌, ◌-◌, ℕ, List, ◌++◌, length, slice_get, Option, Some, None, option_map}
use Rattle.std.specs.Prelude.{Result, Err, IfOk, OnErr}
use Rattle.std.specs.Io.KnownBytes.{Appends}
use Rattle.store.specs.Library.{Ghosts, Held, state, IsClean}
use Rattle.circ_tables.specs.declared.by_number.TheConstants.{BATCH_ROWS}
use Rattle.terms.specs.declared.fault.Fault.{Fault}
use Rattle.terms.specs.declared.fault.Fault.TheVariants.{Memory, Stored}
use Rattle.terms.specs.declared.refusal.Refusal.{Refusal}
use Rattle.model.specs.History.{History}
use Rattle.desk.specs.Answering.{Shows, Stays, DeskLooks}
use Rattle.desk.specs.declared.report_fault.ReportFault.{ReportFault}
use Rattle.desk.specs.declared.report_fault.ReportFault.TheVariants.{Refused, Faulted, NotWritten}

-- Any list of accepted requests.
abbrev pub IsAny : History → Type 0
IsAny H = Unit {0}

-- `sent` is a beginning of `bytes`, possibly empty or whole.
abbrev pub IsFront : List ℕ → List ℕ → Type 0
IsFront sent bytes = (rest : List ℕ) × (bytes ≡ sent ++ rest)

-- A part of a report was written, if the list of accepted requests satisfies `If`: `Is` relates the answer to
-- what went out, and `Cut` says what may have gone out before an error. `before` and `after` are the writer's
-- bytes before and after.
pub record WritesPart {S T : Type 0} (If : History → Type 0) (Is : History → T → List ℕ → Type 0)
    (Cut : History → List ℕ → Type 0) (g : Ghosts S) (old new : Held S) (before after : Option (List ℕ))
    (result : Result T ReportFault) : Type 0 where
  -- these bytes went out
  pub sent : List ℕ
  pub wrote : Appends before after sent
  -- on success they are what `Is` says
  pub told : IsClean g new
      → IfOk result (λ x. (H : History) → Shows (state g old) H → If H → Is H x sent)
  -- if a write or the database failed, they are what `Cut` says
  pub front : IsClean g new
      → OnErr result ((H : History) → Shows (state g old) H → If H → Cut H sent)
  -- it is never refused
  pub refused : (refusal : Refusal) → result ≡ Err (Refused refusal) → ⊥
  -- fault 93 never comes after such a list
  pub sound : IsClean g new → result ≡ Err (Faulted Stored) → (H : History) → Shows (state g old) H
      → If H → ⊥
  -- after a failed write the tables show what they showed
  pub stays : IsClean g new → result ≡ Err NotWritten → Stays (state g old) (state g new)
  -- whatever the outcome, the tables are only read
  pub looks : DeskLooks (state g old) (state g new) result

-- A text of the list was written.
abbrev pub WritesText : {S T : Type 0} → (History → Type 0) → (History → List ℕ)
    → Ghosts S → Held S → Held S → Option (List ℕ) → Option (List ℕ) → Result T ReportFault → Type 0
WritesText If text = WritesPart If (λ H _ sent. sent ≡ text H) (λ H sent. IsFront sent (text H))

-- The fault that is told where a text could not be made.
abbrev pub fault_of_text : ReportFault → Fault
fault_of_text (Faulted fault) = fault
fault_of_text _ = Memory

-- The number of a batch's last row if more may follow; none if the batch isn't full.
abbrev pub IsLast : {R : Type 0} → (R → ℕ) → List R → Option ℕ → Type 0
IsLast number_of rows None = length rows < BATCH_ROWS
IsLast number_of rows (Some last) = option_map number_of (slice_get rows (length rows - 1)) ≡ Some last
