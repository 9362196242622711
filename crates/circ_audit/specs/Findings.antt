-- All findings of an audit, in its order.
use Rattle.std.specs.Prelude.{◌≡◌, ◌⊎◌, ◌+◌, ◌<◌, ◌≤◌, ℕ, List, [], ◌∷◌, length, All, Contains, Result, Ok, Err, ⊤}
use Rattle.std.specs.List.{AllPairs}
use Rattle.terms.specs.declared.tables.Tables.{Tables}
use Rattle.circ_audit.specs.declared.auditing.Finding.{Finding}
use Rattle.circ_audit.specs.declared.auditing.Finding.TheVariants.{Claims, Binding, Balance, Reference, Numbers}
use Rattle.circ_audit.specs.declared.auditing.TheConstants.{MOST_FINDINGS}
use Rattle.circ_audit.specs.declared.parts.Part.{Part}
use Rattle.circ_audit.specs.declared.parts.Part.TheVariants as part
use Rattle.circ_audit.specs.declared.references.Table.TheVariants as table
use Rattle.circ_audit.specs.Sound.{IsClaimedOnce, IsRightlyBound, IsBalanced}
use Rattle.circ_audit.specs.References.{IsReferred, place_of_table}
use Rattle.circ_audit.specs.Numbers.{IsNumbered, place_of_series}

-- ---- the parts of an audit

-- The law that a part looks at.
abbrev pub PartLaw : Tables → Part → ℕ → Type 0
PartLaw t part.Claims = IsClaimedOnce t
PartLaw t part.Bindings = IsRightlyBound t
PartLaw t part.Balances = IsBalanced t
PartLaw t (part.References table) = IsReferred t table
PartLaw t (part.Numbers series) = IsNumbered t series

-- The place of a part in the order of the audit: series come after the last table.
abbrev pub place_of_part : Part → ℕ
place_of_part part.Claims = 0
place_of_part part.Bindings = 1
place_of_part part.Balances = 2
place_of_part (part.References table) = 3 + place_of_table table
place_of_part (part.Numbers series) = 4 + place_of_table table.Notes + place_of_series series

-- What a part finds of a number.
abbrev pub finding_of : Part → ℕ → Finding
finding_of part.Claims n = Claims n
finding_of part.Bindings n = Binding n
finding_of part.Balances n = Balance n
finding_of (part.References table) n = Reference table n
finding_of (part.Numbers series) n = Numbers series n

-- The part that has the finding.
abbrev pub part_of : Finding → Part
part_of (Claims n) = part.Claims
part_of (Binding n) = part.Bindings
part_of (Balance n) = part.Balances
part_of (Reference table n) = part.References table
part_of (Numbers series n) = part.Numbers series

-- The number that the finding is of.
abbrev pub number_of : Finding → ℕ
number_of (Claims n) = n
number_of (Binding n) = n
number_of (Balance n) = n
number_of (Reference table n) = n
number_of (Numbers series n) = n

abbrev pub place_of : Finding → ℕ
place_of finding = place_of_part (part_of finding)

-- ---- findings

-- The finding's law holds for its number.
abbrev pub Keeps : Tables → Finding → Type 0
Keeps t finding = PartLaw t (part_of finding) (number_of finding)

-- The finding's law fails for its number, whatever comes before it in the audit.
abbrev pub IsBroken : Tables → Finding → Type 0
IsBroken t finding = Keeps t finding → ⊥

-- The finding is one of the parts before this place, or there one of the numbers before this one.
abbrev pub IsBefore : ℕ → ℕ → Finding → Type 0
IsBefore place n finding = (place_of finding < place) ⊎ ((place_of finding ≡ place) × (number_of finding < n))

-- The finding comes before the other in the order of the audit: laws in their order, of a law its tables in theirs,
-- of these the numbers.
abbrev pub ComesBefore : Finding → Finding → Type 0
ComesBefore finding other = IsBefore (place_of other) (number_of other) finding

-- As many as may be were found, and each comes before this finding.
pub record IsLeftOut (found : List Finding) (finding : Finding) : Type 0 where
  pub full : length found ≡ MOST_FINDINGS
  pub later : All (λ other. ComesBefore other finding) found

-- These are the findings among some: each is broken, they are in order, so that none is there twice, there are no
-- more than may be, and of every other the law holds, or it comes after as many as may be.
pub record AreFindingsAmong (t : Tables) (Among : Finding → Type 0) (found : List Finding) : Type 0 where
  pub broken : All (IsBroken t) found
  pub ordered : AllPairs ComesBefore found
  pub few : length found ≤ MOST_FINDINGS
  pub among : All Among found
  pub every : (finding : Finding) → Among finding
      → Keeps t finding ⊎ (Contains found finding ⊎ IsLeftOut found finding)

-- These are all findings, or the first ones, as many as may be.
abbrev pub AreFindings : Tables → List Finding → Type 0
AreFindings t = AreFindingsAmong t (λ finding. ⊤)

-- These are those before a place and a number, or the first ones.
abbrev pub AreFindingsBefore : Tables → ℕ → ℕ → List Finding → Type 0
AreFindingsBefore t place n = AreFindingsAmong t (IsBefore place n)

-- What an audit that ends at the first finding answers.
abbrev pub first_of : List Finding → Result (Unit {0}) Finding
first_of [] = Ok tt
first_of (finding ∷ others) = Err finding
