-- What a call says of its database.
use Rattle.std.specs.Prelude.{◌≡◌, ◌⊎◌, ℕ, List, Option, Some, None, Ok, Err}
use Rattle.sqlite.specs.Order.{Row}
use Rattle.sqlite.specs.State.{State, QueriesRow, IsRolledBack}
use Rattle.sqlite.specs.declared.error.Error.TheVariants.{QueryReturnedNoRows}

-- the text shows this row first, or none
abbrev pub FindsRow : List ℕ → Row → State → State → Option Row → Type 0
FindsRow text params old new (Some row) = QueriesRow text params old new (Ok row)
FindsRow text params old new None = QueriesRow text params old new (Err QueryReturnedNoRows)

-- what was there is still there
pub record Keeps (old new : State) : Type 0 where
  pub now : new.now ≡ old.now
  pub committed : new.committed ≡ old.committed
  pub mode : new.in_transaction ≡ old.in_transaction

-- nothing was changed, or the transaction is undone
abbrev pub IsKeptOrUndone : State → State → Type 0
IsKeptOrUndone old new = Keeps old new ⊎ IsRolledBack old new
