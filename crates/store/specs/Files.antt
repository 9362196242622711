-- What a store over two files finds in them.
use Rattle.std.specs.Prelude.{◌≡◌, ◌≤◌, ◌⊎◌, ℕ, [], IsTrue}
use Rattle.sqlite.specs.Effect.{Database, IsDatabase}
use Rattle.sqlite.specs.State.{State, HasCleanDisk, IsLive, Opens}
use Rattle.sqlite.specs.Recovery.{Image}
use Rattle.sqlite.specs.Files.{HoldsDatabase}
use Rattle.sqlite.specs.Start.{FindsIn}
use Rattle.terms.specs.Pictures.{Picture}
use Rattle.circ_tables.specs.Encoding.{HasPicture, HasPictureAt, HasNoLibrary}
use Rattle.store.specs.Commit.{empty_library}
use Rattle.store.specs.Schemas.{IsKnown}
use Rattle.store.specs.Stops.{KeepsPicture, KeepsPictureAt}

-- The files hold a database that shows the picture.
abbrev pub HoldsPicture : Image → Picture → Type 0
HoldsPicture image P = ∥ ((db : Database) × HasPicture db P × HoldsDatabase image db.trees) ∥₁

-- They hold one that shows one of the two pictures, in these schemas.
abbrev pub HoldsEitherAt : ℕ → ℕ → Image → Picture → Picture → Type 0
HoldsEitherAt n m image P Q = ∥ ((db : Database) × (HasPictureAt n db P ⊎ HasPictureAt m db Q) × HoldsDatabase image db.trees) ∥₁

-- A database was opened over files with this content.
pub record Connected (image : Image) (conn : State) : Type 0 where
  pub found : FindsIn image conn
  pub opens : Opens conn
  pub live : IsLive conn

abbrev pub Connects : Image → State → Type 0
Connects image conn = HasCleanDisk conn → Connected image conn

-- The disk has failed or refused a call.
abbrev pub HasFailed : State → Type 0
HasFailed s = 1 ≤ s.faults

-- A store was opened over files with this content: its tables are what was committed there, and nothing is
-- uncommitted.
pub record OpensImage (image : Image) (it : State) : Type 0 where
  pub found : FindsIn image it
  pub sound : IsDatabase it.committed
  pub settled : it.now ≡ it.committed
  -- the schema is known, and what was committed is shown, now and after a stop
  pub known : (n : ℕ) → IsKnown n → (P : Picture) → HasPictureAt n it.committed P → KeepsPictureAt n it P × IsKnown P.meta.schema
  -- that is the database that the files hold
  pub shown : (n : ℕ) → IsKnown n → (db : Database) (P : Picture) → HoldsDatabase image db.trees → HasPictureAt n db P → KeepsPictureAt n it P
  -- if a stop left one of two, of any schemas, it is one of them
  pub either : (n m : ℕ) → IsKnown n → IsKnown m → (P Q : Picture) → HoldsEitherAt n m image P Q
      → ∥ KeepsPictureAt n it P ⊎ KeepsPictureAt m it Q ∥₁

-- A store was opened over files with this content, and it is open unless the disk has failed.
pub record OpensOver (image : Image) (it : State) : Type 0 where
  pub found : HasCleanDisk it → IsTrue it.is_open → OpensImage image it
  pub is_open : HasCleanDisk it → IsTrue it.is_open ⊎ HasFailed it

-- A store was made over files that held no library: if the database file was empty it is a new one, whatever
-- stop comes.
pub record CreatesOver (image : Image) (it : State) : Type 0 where
  pub none : HasCleanDisk it → (db : Database) → HoldsDatabase image db.trees → HasNoLibrary db
  pub made : HasCleanDisk it → image.db ≡ [] → KeepsPicture it empty_library
