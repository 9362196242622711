-- What single rows of a library's tables say, as the laws read them.
use Rattle.std.specs.Prelude.{ℕ, ◌==◌, ◌&&◌, Bool, true, false, List, find, Option, Some, None, is_some, is_none, if◌then◌else◌}
use Rattle.terms.specs.declared.row.CopyRow.{CopyRow}
use Rattle.terms.specs.declared.row.Condition.{Condition}
use Rattle.terms.specs.declared.row.Condition.TheVariants.{Present}
use Rattle.terms.specs.declared.row.LoanRow.{LoanRow}
use Rattle.terms.specs.declared.row.HoldRow.{HoldRow}
use Rattle.terms.specs.declared.row.HoldState.{HoldState}
use Rattle.terms.specs.declared.row.HoldState.TheVariants.{Waiting, Ready}
use Rattle.terms.specs.declared.row.TransitRow.{TransitRow}
use Rattle.terms.specs.declared.row.LineRow.{LineRow}
use Rattle.terms.specs.declared.row.Sort.{Sort}
use Rattle.terms.specs.declared.row.Sort.TheVariants.{Fine, Price, Charge}

-- The number is the one that is named.
abbrev pub names : Option ℕ → ℕ → Bool
names (Some m) n = m == n
names None n = false

-- ---- tests

-- The library has the copy.
abbrev pub is_present : Condition → Bool
is_present Present = true
is_present _ = false

-- The hold is ready.
abbrev pub is_ready : HoldState → Bool
is_ready Ready = true
is_ready _ = false

-- The hold waits.
abbrev pub is_waiting : HoldState → Bool
is_waiting Waiting = true
is_waiting _ = false

-- The sort is one of what is owed: a fine, a price or a charge.
abbrev pub is_charge : Sort → Bool
is_charge Fine = true
is_charge Price = true
is_charge Charge = true
is_charge _ = false

-- ---- the copy that a row claims

-- An open loan claims its copy.
abbrev pub lent_copy : LoanRow → Option ℕ
lent_copy r = if is_none r.ended then Some r.copy else None

-- A ready hold claims the copy that its row names.
abbrev pub shelved_copy : HoldRow → Option ℕ
shelved_copy r = if is_ready r.state then r.copy else None

-- A transit claims its copy.
abbrev pub travelling_copy : TransitRow → Option ℕ
travelling_copy r = Some r.copy

-- A condition other than present claims its copy.
abbrev pub absent_copy : CopyRow → Option ℕ
absent_copy r = if is_present r.condition then None else Some r.copy

-- ---- holds and the copies that serve them

-- The row of a copy: the first with its number.
abbrev pub copy_row : List CopyRow → ℕ → Option CopyRow
copy_row rows copy = find (λ r. r.copy == copy) rows

-- The row of a hold: the first with its number.
abbrev pub hold_row : List HoldRow → ℕ → Option HoldRow
hold_row rows hold = find (λ r. r.hold == hold) rows

-- The row exists and is of a copy of the title.
abbrev pub is_titled : Option CopyRow → ℕ → Bool
is_titled (Some r) title = r.title == title
is_titled None title = false

-- A copy is named, and its row is of the title.
abbrev pub is_copy_of : List CopyRow → Option ℕ → ℕ → Bool
is_copy_of copies (Some copy) title = is_titled (copy_row copies copy) title
is_copy_of copies None title = false

-- A ready hold names a shelf limit and a copy of its title; any other names neither.
abbrev pub is_fit : List CopyRow → HoldRow → Bool
is_fit copies r =
    if is_ready r.state
    then is_some r.limit_day && is_copy_of copies r.copy r.title
    else is_none r.copy && is_none r.limit_day

-- A transit serves a hold with a row: the hold waits, the goal is its pick-up branch, and the copy is of its
-- title.
abbrev pub serves : List CopyRow → TransitRow → Option HoldRow → Bool
serves copies r (Some hold) =
    is_waiting hold.state && ((hold.branch == r.goal) && is_copy_of copies (Some r.copy) hold.title)
serves copies r None = false

-- ---- lines of accounts

-- The amount of a line if it is the patron's.
abbrev pub amount_of : LineRow → ℕ → ℕ
amount_of r patron = if r.patron == patron then r.amount else 0

-- What a line charges the patron: a fine, a price or a charge.
abbrev pub charge : LineRow → ℕ → ℕ
charge r patron = if is_charge r.sort then amount_of r patron else 0

-- What a line takes off the patron's charges: a payment or a waiver.
abbrev pub credit : LineRow → ℕ → ℕ
credit r patron = if is_charge r.sort then 0 else amount_of r patron
