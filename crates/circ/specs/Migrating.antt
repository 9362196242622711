-- What migrating a library to the newest schema writes, and how the program ends.
use Rattle.std.specs.Prelude.{◌≡◌, ◌≤◌, ◌<◌, ◌⊎◌, ℕ, List, Option, Result, IfOk, OnErr}
use Rattle.std.specs.Io.KnownBytes.{Appends}
use Rattle.store.specs.Library.{Ghosts, Held, State, state, IsClean, IsOpen, IsAsItWas}
use Rattle.store.specs.Migrating.{AreThere, MigratesUp, IsLedInPart, CannotBeLed}
use Rattle.store.specs.Schemas.{IsKnown, IsOlder}
use Rattle.store.specs.Stops.{Leaves, KeepsPictureAt, LeavesPicture}
use Rattle.circ_tables.specs.Encoding.{HasPictureAt}
use Rattle.terms.specs.Writing.{AppendsFront}
use Rattle.terms.specs.Texts.{fault_number}
use Rattle.terms.specs.declared.fault.Fault.{Fault}
use Rattle.terms.specs.declared.fault.Fault.TheVariants.{Stored}
use Rattle.terms.specs.declared.limits.TheConstants.{SCHEMA}
use Rattle.model.specs.Forms.{HasForms}
use Rattle.model.specs.History.{History}
use Rattle.model.specs.Picture.{picture}
use Rattle.model.specs.Schemas.{IsLegalAt, picture_at}
use Rattle.desk.specs.Answering.{Shows, Stays}
use Rattle.circ.specs.declared.lines.Exit.{Exit}
use Rattle.circ.specs.declared.lines.Exit.TheVariants.{Done, Faulted}
use Rattle.circ.specs.Lines.{schema_line, fault_line}

-- The tables of schema n show what a list of requests leaves there that was legal with it, and so does
-- anything that a stop may leave.
pub record ShowsAt (n : ℕ) (s : State) (H : History) : Type 0 where
  pub legal : IsLegalAt n H
  pub forms : HasForms H
  pub tables : KeepsPictureAt n s (picture_at n H)

-- A schema from n to the newest.
abbrev pub IsFrom : ℕ → ℕ → Type 0
IsFrom n m = (n ≤ m) × (m ≤ SCHEMA)

-- A stop leaves what the list leaves in one of these schemas.
abbrev pub LeavesOneSchema : ℕ → State → History → Type 0
LeavesOneSchema n s H = Leaves s (λ db. (m : ℕ) × IsFrom n m × HasPictureAt m db (picture_at m H))

-- The line is the newest schema. A library of any schema now shows the same list of accepted requests in the
-- newest. Whatever the tables of a schema named by `meta` showed, no row that a step carried over or changed
-- was damaged.
pub record SaysLed {S : Type 0} (g : Ghosts S) (old new : Held S) (line : List ℕ)
    (exit : Exit) : Type 0 where
  pub line_is : line ≡ schema_line
  pub exit_is : exit ≡ Done
  pub led : IsClean g new → (n : ℕ) → IsKnown n → (H : History) → ShowsAt n (state g old) H
      → Shows (state g new) H
  pub same : IsClean g new → Stays (state g old) (state g new)
  pub legal : IsClean g new → (n : ℕ) → AreThere n (state g old).now
      → MigratesUp (state g old).now (state g new).now

-- The line is a fault, which isn't 93 if the tables showed a list of accepted requests. They show the same
-- list, if the database is still open, in their schema or in that of the last whole step, which wasn't the
-- final one.
pub record SaysNotLed {S : Type 0} (g : Ghosts S) (old new : Held S) (line : List ℕ)
    (exit : Exit) : Type 0 where
  pub fault : Fault
  pub line_is : line ≡ fault_line (fault_number fault)
  pub exit_is : exit ≡ Faulted
  pub sound : IsClean g new → fault ≡ Stored → (n : ℕ) → IsKnown n → (H : History)
      → ¬ ShowsAt n (state g old) H
  pub shown : IsClean g new → IsOpen g new → (n : ℕ) → IsKnown n → (H : History)
      → ShowsAt n (state g old) H → (m : ℕ) × IsFrom n m × (IsOlder n → m < SCHEMA) × ShowsAt m (state g new) H
  pub same : IsClean g new → IsOpen g new → Stays (state g old) (state g new)
  -- tables with other rows are unchanged, or as the first of two steps left them
  pub nothing : IsClean g new → IsOpen g new → (n : ℕ) → AreThere n (state g old).now
      → IsAsItWas (state g old) (state g new) ⊎ IsLedInPart (state g old) (state g new)

-- The line is the newest schema, or a fault.
abbrev pub SaysOneOf : {S : Type 0} → Ghosts S → Held S → Held S → List ℕ → Exit → Type 0
SaysOneOf g old new line exit = SaysLed g old new line exit ⊎ SaysNotLed g old new line exit

-- A library was migrated to the newest schema, or not, and a line was written.
pub record SaysMigration {S E : Type 0} (g : Ghosts S) (old new : Held S)
    (before after : Option (List ℕ)) (result : Result Exit E) : Type 0 where
  pub clean : IsClean g new → IsClean g old
  -- the line went out
  pub written : IfOk result
      (λ exit. (line : List ℕ) × SaysOneOf g old new line exit × Appends before after line)
  -- a stop leaves the list in its old schema or in a later one
  pub left : IsClean g new → (n : ℕ) → IsKnown n → (H : History) → ShowsAt n (state g old) H
      → LeavesOneSchema n (state g new) H
  pub left_same : IsClean g new → (H : History) → Shows (state g old) H
      → LeavesPicture (state g new) (picture H)
  -- tables of an older schema stay unchanged if the next step carries over or changes a damaged row of them
  pub left_damaged : IsClean g new → CannotBeLed (state g old).now
      → Leaves (state g old) (λ db. db ≡ (state g old).now)
      → Leaves (state g new) (λ db. db ≡ (state g old).now)
  -- if a write failed, a beginning of the line went out
  pub cut : OnErr result
      ((line : List ℕ) × (exit : Exit) × SaysOneOf g old new line exit
      × AppendsFront before after line)
