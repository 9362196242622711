-- What a call that only reads leaves.
use Rattle.std.specs.Prelude.{◌≡◌, List, ℕ, Option, None, Ok, Err, Result, IfOk, OnOk, IfSome, IsSome, IsTrue, option_map}
use Rattle.sqlite.specs.Held.{Held, state}
use Rattle.sqlite.specs.State.{State, HasCleanDisk}
use Rattle.sqlite.specs.Store.{Ghosts}
use Rattle.sqlite.specs.Tree.{Trees}
use Rattle.sqlite.specs.Effect.{Database}
use Rattle.sql_maps.specs.Maps.{Maps, Holds}
use Rattle.terms.specs.Limits.{InLimits, ClosesFewDays, IsOwner}
use Rattle.terms.specs.declared.command.Owner.{Owner}
use Rattle.terms.specs.Pictures.{Picture}
use Rattle.terms.specs.declared.fault.Fault.{Fault}
use Rattle.terms.specs.declared.fault.Fault.TheVariants.{Stored}
use Rattle.circ_tables.specs.Cells.{kept_key}
use Rattle.circ_tables.specs.Encoding.{HasPicture, reply_of}
use Rattle.circ_tables.specs.Shape.{schema, kept_place}
use Rattle.circ_tables.specs.declared.kept.KeptReply.{KeptReply}
use Rattle.circ_tables.specs.Reading.{Table}
use Rattle.store.specs.Library.{HasTables, StaysReady}

-- A call that only reads, whatever rows the tables have.
pub record Reads {A : Type 0} (old new : State) (result : Result A Fault) : Type 0 where
  -- the step limit is as it was, and only a failure of the disk shuts the database
  pub ready : StaysReady old new
  pub clean : HasCleanDisk new → HasCleanDisk old
  -- after an answer the database holds what it held
  pub answered : HasCleanDisk new → HasTables old.now → OnOk result (new.now ≡ old.now)
  -- after a fault too, if it is still open
  pub same : HasCleanDisk new → IsTrue new.is_open → HasTables old.now → new.now ≡ old.now
  -- a stop leaves only what it would have left before
  pub left : HasCleanDisk new → HasTables old.now → (trees : Trees) → new.may_leave trees → old.may_leave trees

-- All rows can be read: they are within their limits, and no branch has more single closed days than allowed.
abbrev pub IsReadable : Picture → Type 0
IsReadable P = InLimits P × ClosesFewDays P

-- What a store's read-only call promises: if the tables' picture meets its needs, what was found is true of
-- it; no fault of a stored row comes if all rows of the picture can be read.
pub record Looked {S A : Type 0} (Needs : Picture → Type 0) (Is : Picture → A → Type 0) (Readable : Picture → Type 0)
    (g : Ghosts S) (old new : Held S) (result : Result A Fault) : Type 0 where
  pub reads : Reads (state g old) (state g new) result
  pub shown : HasCleanDisk (state g new) → IfOk result (λ x. (P : Picture) → HasPicture (state g old).now P
      → Needs P → Is P x × ((state g new).now ≡ (state g old).now))
  pub sound : HasCleanDisk (state g new) → result ≡ Err Stored
      → (P : Picture) → HasPicture (state g old).now P → Readable P → ⊥

-- Something is kept under a caller's key, whatever it is and whatever other rows there are.
abbrev pub IsUsed : Owner → List ℕ → Database → Type 0
IsUsed owner key db = (maps : Maps) → Holds schema db maps → IsSome (maps kept_place (kept_key owner key))

-- What is kept under a caller's key was looked up: the reply, if there is one.
pub record LooksUpKept {S : Type 0} (owner : Owner) (key : List ℕ)
    (g : Ghosts S) (old new : Held S) (result : Result (Option KeptReply) Fault) : Type 0 where
  pub looked : Looked (λ _. IsOwner owner) (λ P kept. kept ≡ option_map reply_of (P.kept owner key)) (λ P. InLimits P × IsOwner owner) g old new result
  -- nothing is found only where nothing is kept, whatever rows the tables have
  pub unused : HasCleanDisk (state g new) → result ≡ Ok None → HasTables (state g old).now → ¬ IsUsed owner key (state g old).now

-- The row of a key was looked up.
abbrev pub Finds : {K R S : Type 0} → Table K R → K → Ghosts S → Held S → Held S → Result (Option R) Fault → Type 0
Finds t key = Looked (λ P. IfSome (t.rows P key) t.IsLegal) (λ P row. row ≡ t.rows P key) InLimits
