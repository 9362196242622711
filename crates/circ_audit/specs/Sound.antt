-- The five laws of sound tables, and the first broken one.
use Rattle.std.specs.Prelude.{◌≡◌, ◌↔◌, ℕ, ◌+◌, ◌<◌, ◌≤◌, true, All, count_by, sum_by, Option, Some, Result, Ok, Err, MatchOption}
use Rattle.terms.specs.declared.tables.Tables.{Tables}
use Rattle.circ_audit.specs.declared.auditing.Finding.{Finding}
use Rattle.circ_audit.specs.declared.auditing.Finding.TheVariants.{Claims, Binding, Balance, Reference, Numbers}
use Rattle.circ_audit.specs.declared.references.Table.{Table}
use Rattle.circ_audit.specs.declared.numbers.Series.{Series}
use Rattle.circ_audit.specs.References.{IsReferred, place_of_table}
use Rattle.circ_audit.specs.Numbers.{IsNumbered, place_of_series}
use Rattle.circ_audit.specs.Rows.{names, lent_copy, shelved_copy, travelling_copy, absent_copy, hold_row, is_fit, serves, charge, credit}

-- The number of claims that the rows make on a copy: by open loans, ready holds, transits, and a condition
-- other than present.
abbrev pub claims_on : Tables → ℕ → ℕ
claims_on t copy =
    count_by (λ r. names (lent_copy r) copy) t.loans
    + count_by (λ r. names (shelved_copy r) copy) t.holds
    + count_by (λ r. names (travelling_copy r) copy) t.transits
    + count_by (λ r. names (absent_copy r) copy) t.copies

-- At most one claim is made on the copy.
abbrev pub IsClaimedOnce : Tables → ℕ → Type 0
IsClaimedOnce t copy = claims_on t copy ≤ 1

-- At most one transit names the hold.
abbrev pub IsServedOnce : Tables → ℕ → Type 0
IsServedOnce t hold = count_by (λ r. names r.hold hold) t.transits ≤ 1

-- The hold's row fits its state.
abbrev pub IsFit : Tables → ℕ → Type 0
IsFit t hold = All (λ r. r.hold ≡ hold → is_fit t.copies r ≡ true) t.holds

-- Each transit that names the hold serves it.
abbrev pub IsServed : Tables → ℕ → Type 0
IsServed t hold =
    All (λ r. r.hold ≡ Some hold → serves t.copies r (hold_row t.holds hold) ≡ true) t.transits

-- The hold and at most one copy are bound to each other: its row fits its state, each transit that names it
-- serves it, and at most one does.
pub record IsRightlyBound (t : Tables) (hold : ℕ) : Type 0 where
  pub fit : IsFit t hold
  pub served : IsServed t hold
  pub once : IsServedOnce t hold

-- A patron's fines, prices and charges.
abbrev pub charges_of : Tables → ℕ → ℕ
charges_of t patron = sum_by (λ r. charge r patron) t.lines

-- A patron's payments and waivers.
abbrev pub credits_of : Tables → ℕ → ℕ
credits_of t patron = sum_by (λ r. credit r patron) t.lines

-- The debt in the patron's own row is the charges less the payments and waivers.
abbrev pub IsBalanced : Tables → ℕ → Type 0
IsBalanced t patron =
    All (λ r. r.patron ≡ patron → r.owed + credits_of t patron ≡ charges_of t patron) t.patrons

-- ---- all numbers

abbrev pub AreAllClaimed : Tables → Type 0
AreAllClaimed t = (copy : ℕ) → IsClaimedOnce t copy

abbrev pub AreAllBound : Tables → Type 0
AreAllBound t = (hold : ℕ) → IsRightlyBound t hold

abbrev pub AreAllBalanced : Tables → Type 0
AreAllBalanced t = (patron : ℕ) → IsBalanced t patron

abbrev pub AreAllReferred : Tables → Type 0
AreAllReferred t = (table : Table) (n : ℕ) → IsReferred t table n

abbrev pub AreAllNumbered : Tables → Type 0
AreAllNumbered t = (series : Series) (n : ℕ) → IsNumbered t series n

-- The tables keep the five laws.
pub record IsSound (t : Tables) : Type 0 where
  pub claims : AreAllClaimed t
  pub bindings : AreAllBound t
  pub balance : AreAllBalanced t
  pub references : AreAllReferred t
  pub numbers : AreAllNumbered t

-- The law fails for the number and holds for every lower one.
pub record IsLeastBroken (Law : ℕ → Type 0) (n : ℕ) : Type 0 where
  pub broken : Law n → ⊥
  pub below : (m : ℕ) → m < n → Law m

-- Of laws in an order, those before this one hold, and this is the lowest number for which it fails.
pub record IsFirstAmong {A : Type 0} (place_of : A → ℕ) (Law : A → ℕ → Type 0) (a : A) (n : ℕ)
    : Type 0 where
  pub before : (b : A) → place_of b < place_of a → (m : ℕ) → Law b m
  pub least : IsLeastBroken (Law a) n

-- The lowest row of the first table with a row that names a missing one.
abbrev pub IsFirstReference : Tables → Table → ℕ → Type 0
IsFirstReference t = IsFirstAmong place_of_table (IsReferred t)

-- The lowest wrong number of the first series that has one.
abbrev pub IsFirstMisnumbered : Tables → Series → ℕ → Type 0
IsFirstMisnumbered t = IsFirstAmong place_of_series (IsNumbered t)

-- The finding is the lowest number for which a law fails, and the earlier laws hold for every number.
abbrev pub IsFirstBroken : Tables → Finding → Type 0
IsFirstBroken t (Claims copy) = IsLeastBroken (IsClaimedOnce t) copy
IsFirstBroken t (Binding hold) = AreAllClaimed t × IsLeastBroken (IsRightlyBound t) hold
IsFirstBroken t (Balance patron) = AreAllClaimed t × AreAllBound t × IsLeastBroken (IsBalanced t) patron
IsFirstBroken t (Reference table n) =
    AreAllClaimed t × AreAllBound t × AreAllBalanced t × IsFirstReference t table n
IsFirstBroken t (Numbers series n) =
    AreAllClaimed t × AreAllBound t × AreAllBalanced t × AreAllReferred t × IsFirstMisnumbered t series n

-- The law holds for every number, or this is the lowest for which it fails.
abbrev pub FailsFirst : (ℕ → Type 0) → Option ℕ → Type 0
FailsFirst Law found = MatchOption found ((n : ℕ) → Law n) (λ n. IsLeastBroken Law n)

-- The tables were audited.
pub record Audits (t : Tables) (result : Result (Unit {0}) Finding) : Type 0 where
  -- they are found sound exactly if they keep the five laws
  pub sound : (result ≡ Ok tt) ↔ IsSound t
  -- a finding is given exactly if it is the first broken law
  pub found : (finding : Finding) → (result ≡ Err finding) ↔ IsFirstBroken t finding
