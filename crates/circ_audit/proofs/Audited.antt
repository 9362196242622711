-- The first finding of an audit, and the order of findings.
use Rattle.std.proofs.Common.{◌≡◌, ◌⊎◌, ℕ, zero, suc, ◌+◌, ◌<◌, ◌≤◌, List, [], ◌∷◌, length, get_or, Result, Ok, Err, refl, sym, ◌∙◌, ap, subst, inl, inr, arith}
use Rattle.std.specs.Prelude.{Contains}
use Rattle.std.proofs.lemmas.Bool.{cases_lt}
use Rattle.terms.specs.declared.tables.Tables.{Tables}
use Rattle.circ_audit.specs.declared.auditing.Finding.{Finding}
use Rattle.circ_audit.specs.declared.auditing.Finding.TheVariants.{Claims, Binding, Balance, Reference, Numbers}
use Rattle.circ_audit.specs.declared.numbers.Series.{Series}
use Rattle.circ_audit.specs.declared.numbers.Series.TheVariants as series
use Rattle.circ_audit.specs.declared.parts.Part.{Part}
use Rattle.circ_audit.specs.declared.parts.Part.TheVariants as part
use Rattle.circ_audit.specs.declared.references.Table.{Table}
use Rattle.circ_audit.specs.declared.references.Table.TheVariants as table
use Rattle.circ_audit.specs.References.{IsReferred, place_of_table}
use Rattle.circ_audit.specs.Numbers.{IsNumbered, place_of_series}
use Rattle.circ_audit.specs.Sound.{IsClaimedOnce, IsRightlyBound, IsBalanced, IsLeastBroken, IsFirstReference, IsFirstMisnumbered}
use Rattle.circ_audit.specs.Sound.{AreAllClaimed, AreAllBound, AreAllBalanced, AreAllReferred, AreAllNumbered, IsFirstBroken, Audits}
use Rattle.circ_audit.specs.Findings.{PartLaw, place_of_part, finding_of, part_of, number_of, place_of, Keeps, IsBroken, IsBefore, ComesBefore}
use Rattle.circ_audit.specs.Findings.{IsLeftOut, AreFindings, first_of}
use Rattle.circ_audit.proofs.Firsts.{least-unique}
use Rattle.circ_audit.proofs.Referring.{among-broken, among-unique}

-- A finding is one value.
same-finding : (a b : Finding) → ◌≡◌ {A = Result (Unit {0}) Finding} (Err a) (Err b) → a ≡ b
same-finding a b e = cc

-- The tables in their order, and the series.
abbrev tables : List Table
tables =
    table.ClosedDays ∷ table.Rules ∷ table.Patrons ∷ table.Copies ∷ table.Loans ∷ table.Holds ∷ table.Transits ∷ table.Lines ∷ table.Kept
    ∷ table.Barcodes ∷ table.Notes ∷ []

abbrev table_at : ℕ → Table
table_at place = get_or tables place table.Notes

at-table : (t : Table) → table_at (place_of_table t) ≡ t
at-table table.ClosedDays = refl
at-table table.Rules = refl
at-table table.Patrons = refl
at-table table.Copies = refl
at-table table.Loans = refl
at-table table.Holds = refl
at-table table.Transits = refl
at-table table.Lines = refl
at-table table.Kept = refl
at-table table.Barcodes = refl
at-table table.Notes = refl

one-table : (a b : Table) → place_of_table a ≡ place_of_table b → a ≡ b
one-table a b same = sym (at-table a) ∙ ap table_at same ∙ at-table b

last-table : (t : Table) → place_of_table t ≤ place_of_table table.Notes
last-table table.ClosedDays = omega arith
last-table table.Rules = omega arith
last-table table.Patrons = omega arith
last-table table.Copies = omega arith
last-table table.Loans = omega arith
last-table table.Holds = omega arith
last-table table.Transits = omega arith
last-table table.Lines = omega arith
last-table table.Kept = omega arith
last-table table.Barcodes = omega arith
last-table table.Notes = omega arith

abbrev series_at : ℕ → Series
series_at place = get_or (series.Loans ∷ series.Holds ∷ series.Lines ∷ []) place series.Lines

at-series : (s : Series) → series_at (place_of_series s) ≡ s
at-series series.Loans = refl
at-series series.Holds = refl
at-series series.Lines = refl

one-series : (a b : Series) → place_of_series a ≡ place_of_series b → a ≡ b
one-series a b same = sym (at-series a) ∙ ap series_at same ∙ at-series b

last-series : (s : Series) → place_of_series s ≤ place_of_series series.Lines
last-series series.Loans = omega arith
last-series series.Holds = omega arith
last-series series.Lines = omega arith

-- ---- parts

-- A part has its place alone.
pub one-part : (a b : Part) → place_of_part a ≡ place_of_part b → a ≡ b
one-part part.Claims part.Claims same = refl
one-part part.Bindings part.Bindings same = refl
one-part part.Balances part.Balances same = refl
one-part (part.References a) (part.References b) same = ap part.References (one-table a b (omega (arith, same)))
one-part (part.Numbers a) (part.Numbers b) same = ap part.Numbers (one-series a b (omega (arith, same)))
one-part (part.References a) (part.Numbers b) same = let few = last-table a in absurd (omega (arith, same, few))
one-part (part.Numbers a) (part.References b) same = let few = last-table b in absurd (omega (arith, same, few))
one-part part.Claims part.Bindings same = absurd (omega (arith, same))
one-part part.Claims part.Balances same = absurd (omega (arith, same))
one-part part.Claims (part.References b) same = absurd (omega (arith, same))
one-part part.Claims (part.Numbers b) same = absurd (omega (arith, same))
one-part part.Bindings part.Claims same = absurd (omega (arith, same))
one-part part.Bindings part.Balances same = absurd (omega (arith, same))
one-part part.Bindings (part.References b) same = absurd (omega (arith, same))
one-part part.Bindings (part.Numbers b) same = absurd (omega (arith, same))
one-part part.Balances part.Claims same = absurd (omega (arith, same))
one-part part.Balances part.Bindings same = absurd (omega (arith, same))
one-part part.Balances (part.References b) same = absurd (omega (arith, same))
one-part part.Balances (part.Numbers b) same = absurd (omega (arith, same))
one-part (part.References a) part.Claims same = absurd (omega (arith, same))
one-part (part.References a) part.Bindings same = absurd (omega (arith, same))
one-part (part.References a) part.Balances same = absurd (omega (arith, same))
one-part (part.Numbers a) part.Claims same = absurd (omega (arith, same))
one-part (part.Numbers a) part.Bindings same = absurd (omega (arith, same))
one-part (part.Numbers a) part.Balances same = absurd (omega (arith, same))

-- No part comes after the last series.
pub last-part : (p : Part) → place_of_part p ≤ place_of_part (part.Numbers series.Lines)
last-part part.Claims = omega arith
last-part part.Bindings = omega arith
last-part part.Balances = omega arith
last-part (part.References t) = let few = last-table t in omega (arith, few)
last-part (part.Numbers s) = let few = last-series s in omega (arith, few)

-- What a part finds is of that part and number, and a finding is what its part finds.
pub found-part : (p : Part) (n : ℕ) → part_of (finding_of p n) ≡ p
found-part part.Claims n = refl
found-part part.Bindings n = refl
found-part part.Balances n = refl
found-part (part.References t) n = refl
found-part (part.Numbers s) n = refl

pub found-number : (p : Part) (n : ℕ) → number_of (finding_of p n) ≡ n
found-number part.Claims n = refl
found-number part.Bindings n = refl
found-number part.Balances n = refl
found-number (part.References t) n = refl
found-number (part.Numbers s) n = refl

pub found-again : (finding : Finding) → finding_of (part_of finding) (number_of finding) ≡ finding
found-again (Claims n) = refl
found-again (Binding n) = refl
found-again (Balance n) = refl
found-again (Reference t n) = refl
found-again (Numbers s n) = refl

-- ---- the first finding

module _ (t : Tables) where
  audits-claims : (n : ℕ) → IsLeastBroken (IsClaimedOnce t) n → Audits t (Err (Claims n))
  audits-claims n least = record {
    sound = (λ e. let never : ⊥ = cc in absurd never, λ sound. absurd (least.broken (sound.claims n)));
    found = λ finding. (λ e. subst (IsFirstBroken t) (same-finding (Claims n) finding e) least, told finding);
  }
    where
      told : (finding : Finding) → IsFirstBroken t finding → ◌≡◌ {A = Result (Unit {0}) Finding} (Err (Claims n)) (Err finding)
      told (Claims m) first = ap (λ k. Err (Claims k)) (least-unique (IsClaimedOnce t) n m least first)
      told (Binding h) first = absurd (least.broken (first.0 n))
      told (Balance p) first = absurd (least.broken (first.0 n))
      told (Reference q m) first = absurd (least.broken (first.0 n))
      told (Numbers q m) first = absurd (least.broken (first.0 n))

  module _ (claims : AreAllClaimed t) where
    audits-binding : (n : ℕ) → IsLeastBroken (IsRightlyBound t) n → Audits t (Err (Binding n))
    audits-binding n least = record {
      sound = (λ e. let never : ⊥ = cc in absurd never, λ sound. absurd (least.broken (sound.bindings n)));
      found = λ finding. (λ e. subst (IsFirstBroken t) (same-finding (Binding n) finding e) (claims, least), told finding);
    }
      where
        told : (finding : Finding) → IsFirstBroken t finding → ◌≡◌ {A = Result (Unit {0}) Finding} (Err (Binding n)) (Err finding)
        told (Claims m) first = absurd (first.broken (claims m))
        told (Binding h) first = ap (λ k. Err (Binding k)) (least-unique (IsRightlyBound t) n h least first.1)
        told (Balance p) first = absurd (least.broken (first.1 n))
        told (Reference q m) first = absurd (least.broken (first.1 n))
        told (Numbers q m) first = absurd (least.broken (first.1 n))

    module _ (bindings : AreAllBound t) where
      audits-balance : (n : ℕ) → IsLeastBroken (IsBalanced t) n → Audits t (Err (Balance n))
      audits-balance n least = record {
        sound = (λ e. let never : ⊥ = cc in absurd never, λ sound. absurd (least.broken (sound.balance n)));
        found = λ finding. (λ e. subst (IsFirstBroken t) (same-finding (Balance n) finding e) (claims, bindings, least), told finding);
      }
        where
          told : (finding : Finding) → IsFirstBroken t finding → ◌≡◌ {A = Result (Unit {0}) Finding} (Err (Balance n)) (Err finding)
          told (Claims m) first = absurd (first.broken (claims m))
          told (Binding h) first = absurd (first.1.broken (bindings h))
          told (Balance p) first = ap (λ k. Err (Balance k)) (least-unique (IsBalanced t) n p least first.2)
          told (Reference q m) first = absurd (least.broken (first.2 n))
          told (Numbers q m) first = absurd (least.broken (first.2 n))

      module _ (balance : AreAllBalanced t) where
        audits-reference : (s : Table) (n : ℕ) → IsFirstReference t s n → Audits t (Err (Reference s n))
        audits-reference s n least = record {
          sound = (λ e. let never : ⊥ = cc in absurd never, λ sound. absurd (among-broken place_of_table (IsReferred t) one-table s n least sound.references));
          found = λ finding. (λ e. subst (IsFirstBroken t) (same-finding (Reference s n) finding e) (claims, bindings, balance, least), told finding);
        }
          where
            told : (finding : Finding) → IsFirstBroken t finding → ◌≡◌ {A = Result (Unit {0}) Finding} (Err (Reference s n)) (Err finding)
            told (Claims m) first = absurd (first.broken (claims m))
            told (Binding h) first = absurd (first.1.broken (bindings h))
            told (Balance p) first = absurd (first.2.broken (balance p))
            told (Reference q m) first =
                let same = among-unique place_of_table (IsReferred t) one-table s q n m least first.3 in
                λ i. Err (Reference (same.0 i) (same.1 i))
            told (Numbers q m) first = absurd (among-broken place_of_table (IsReferred t) one-table s n least first.3)

        module _ (references : AreAllReferred t) where
          audits-numbers : (s : Series) (n : ℕ) → IsFirstMisnumbered t s n → Audits t (Err (Numbers s n))
          audits-numbers s n least = record {
            sound = (
              λ e. let never : ⊥ = cc in absurd never,
              λ sound. absurd (among-broken place_of_series (IsNumbered t) one-series s n least sound.numbers),
            );
            found = λ finding. (
              λ e. subst (IsFirstBroken t) (same-finding (Numbers s n) finding e) (claims, bindings, balance, references, least),
              told finding,
            );
          }
            where
              told : (finding : Finding) → IsFirstBroken t finding → ◌≡◌ {A = Result (Unit {0}) Finding} (Err (Numbers s n)) (Err finding)
              told (Claims m) first = absurd (first.broken (claims m))
              told (Binding h) first = absurd (first.1.broken (bindings h))
              told (Balance p) first = absurd (first.2.broken (balance p))
              told (Reference q m) first = absurd (among-broken place_of_table (IsReferred t) one-table q m first.3 references)
              told (Numbers q m) first =
                  let same = among-unique place_of_series (IsNumbered t) one-series s q n m least first.4 in
                  λ i. Err (Numbers (same.0 i) (same.1 i))

          audits-sound : AreAllNumbered t → Audits t (Ok tt)
          audits-sound numbers = record {
            sound = (
              λ e. record { claims = claims; bindings = bindings; balance = balance; references = references; numbers = numbers },
              λ sound. refl,
            );
            found = λ finding. (λ e. let never : ⊥ = cc in absurd never, λ first. absurd (none finding first));
          }
            where
              none : (finding : Finding) → IsFirstBroken t finding → ⊥
              none (Claims m) first = first.broken (claims m)
              none (Binding h) first = first.1.broken (bindings h)
              none (Balance p) first = first.2.broken (balance p)
              none (Reference q m) first = among-broken place_of_table (IsReferred t) one-table q m first.3 references
              none (Numbers q m) first = among-broken place_of_series (IsNumbered t) one-series q m first.4 numbers

  -- A finding that is broken and before which all laws hold is the first one.
  first-broken : (finding : Finding) → IsBroken t finding → ((other : Finding) → ComesBefore other finding → Keeps t other) → IsFirstBroken t finding
  first-broken (Claims n) broken before = record { broken = broken; below = λ m lt. before (Claims m) (inr (refl, lt)) }
  first-broken (Binding n) broken before = (
    λ m. before (Claims m) (inl (omega arith)),
    record { broken = broken; below = λ m lt. before (Binding m) (inr (refl, lt)) },
  )
  first-broken (Balance n) broken before = (
    λ m. before (Claims m) (inl (omega arith)),
    λ m. before (Binding m) (inl (omega arith)),
    record { broken = broken; below = λ m lt. before (Balance m) (inr (refl, lt)) },
  )
  first-broken (Reference s n) broken before = (
    λ m. before (Claims m) (inl (omega arith)),
    λ m. before (Binding m) (inl (omega arith)),
    λ m. before (Balance m) (inl (omega arith)),
    record {
      before = λ b low m. before (Reference b m) (inl (omega (arith, low)));
      least = record { broken = broken; below = λ m lt. before (Reference s m) (inr (refl, lt)) };
    },
  )
  first-broken (Numbers s n) broken before = (
    λ m. before (Claims m) (inl (omega arith)),
    λ m. before (Binding m) (inl (omega arith)),
    λ m. before (Balance m) (inl (omega arith)),
    λ b m. before (Reference b m) (inl (let few = last-table b in omega (arith, few))),
    record {
      before = λ b low m. before (Numbers b m) (inl (omega (arith, low)));
      least = record { broken = broken; below = λ m lt. before (Numbers s m) (inr (refl, lt)) };
    },
  )

  audits-first : (finding : Finding) → IsFirstBroken t finding → Audits t (Err finding)
  audits-first (Claims n) first = audits-claims n first
  audits-first (Binding n) first = audits-binding first.0 n first.1
  audits-first (Balance n) first = audits-balance first.0 first.1 n first.2
  audits-first (Reference s n) first = audits-reference first.0 first.1 first.2 s n first.3
  audits-first (Numbers s n) first = audits-numbers first.0 first.1 first.2 first.3 s n first.4

  pub audits-broken : (finding : Finding) → IsBroken t finding → ((other : Finding) → ComesBefore other finding → Keeps t other) → Audits t (Err finding)
  audits-broken finding broken before = audits-first finding (first-broken finding broken before)

  pub audits-kept : ((finding : Finding) → Keeps t finding) → Audits t (Ok tt)
  audits-kept keeps =
      audits-sound (λ n. keeps (Claims n)) (λ n. keeps (Binding n)) (λ n. keeps (Balance n)) (λ s n. keeps (Reference s n)) (λ s n. keeps (Numbers s n))

  -- The law holds for every number of the parts before this one.
  module _ (p : Part) (before : (finding : Finding) → place_of finding < place_of_part p → Keeps t finding) where
    part-law : (finding : Finding) → place_of finding ≡ place_of_part p → PartLaw t p (number_of finding) → Keeps t finding
    part-law finding same law = subst (λ (q : Part). PartLaw t q (number_of finding)) (sym (one-part (part_of finding) p same)) law

    -- What the part finds first is the first of all.
    pub audits-part : (n : ℕ) → IsLeastBroken (PartLaw t p) n → Audits t (Err (finding_of p n))
    audits-part n least = audits-broken (finding_of p n)
        (λ keeps. least.broken (subst (λ (m : ℕ). PartLaw t p m) (found-number p n)
        (subst (λ (q : Part). PartLaw t q (number_of (finding_of p n))) (found-part p n) keeps)))
        (λ other comes. go other (subst (λ (m : ℕ). IsBefore (place_of_part p) m other) (found-number p n)
        (subst (λ (q : Part). IsBefore (place_of_part q) (number_of (finding_of p n)) other) (found-part p n) comes)))
      where
        go : (other : Finding) → IsBefore (place_of_part p) n other → Keeps t other
        go other (inl less) = before other less
        go other (inr same) = part-law other same.0 (least.below (number_of other) same.1)

    module _ (law : (n : ℕ) → PartLaw t p n) where
      pub next-part : (finding : Finding) → place_of finding < place_of_part p + 1 → Keeps t finding
      next-part finding lt = go (cases_lt (place_of finding) (place_of_part p))
        where
          go : (place_of finding < place_of_part p) ⊎ (place_of_part p ≤ place_of finding) → Keeps t finding
          go (inl less) = before finding less
          go (inr le) = part-law finding (omega (arith, lt, le)) (law (number_of finding))

      -- Without a next part the tables are sound.
      pub audits-end : ((q : Part) → place_of_part q ≤ place_of_part p) → Audits t (Ok tt)
      audits-end last = audits-kept (λ finding. next-part finding (let le : place_of finding ≤ place_of_part p = last (part_of finding) in omega (arith, le)))

  -- ---- of all findings

  -- No finding comes before one that comes before it.
  pub not-both : (a b : Finding) → ComesBefore a b → ComesBefore b a → ⊥
  not-both a b (inl less) (inl more) = omega (arith, less, more)
  not-both a b (inl less) (inr same) = let is = same.0 in omega (arith, less, is)
  not-both a b (inr same) (inl more) = let is = same.0 in omega (arith, more, is)
  not-both a b (inr same) (inr other) = let less = same.1 in let more = other.1 in omega (arith, less, more)

  -- The head of all findings is the first, and without any the tables are sound.
  pub audits-head : (found : List Finding) → AreFindings t found → Audits t (first_of found)
  audits-head [] are = audits-kept (λ finding. keeps finding (are.every finding tt))
    where
      keeps : (finding : Finding) → Keeps t finding ⊎ (Contains [] finding ⊎ IsLeftOut [] finding) → Keeps t finding
      keeps finding (inl is) = is
      keeps finding (inr (inl contains)) = let within : contains.0 < 0 = contains.1 in absurd (omega (arith, within))
      keeps finding (inr (inr out)) = let full = out.full in absurd (omega (arith, full))
  audits-head (first ∷ others) are = audits-broken first (are.broken 0 first (omega arith)) (λ other before. keeps other before (are.every other tt))
    where
      listed : (other : Finding) (k : ℕ) → k < length (first ∷ others) → get_or (first ∷ others) k other ≡ other → ComesBefore other first → ⊥
      listed other zero within is before = let same : first ≡ other = is in not-both other first before (subst (λ f. ComesBefore first f) same (subst (λ f. ComesBefore f first) (sym same) before))
      listed other (suc k) within is before = not-both first other (subst (ComesBefore first) is (are.ordered 0 (suc k) other (omega arith) within)) before

      keeps : (other : Finding) → ComesBefore other first → Keeps t other ⊎ (Contains (first ∷ others) other ⊎ IsLeftOut (first ∷ others) other) → Keeps t other
      keeps other before (inl is) = is
      keeps other before (inr (inl contains)) = absurd (listed other contains.0 contains.1 contains.2 before)
      keeps other before (inr (inr out)) = absurd (not-both first other (out.later 0 first (omega arith)) before)
