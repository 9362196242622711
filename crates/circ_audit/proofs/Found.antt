-- The findings of an audit, part by part and one by one.
use Rattle.std.proofs.Common.{◌≡◌, ◌⊎◌, ℕ, ◌+◌, ◌<◌, ◌≤◌, true, List, [], ◌∷◌, ◌++◌, length, get_or, length-append, Option, Some, None, refl, sym, ◌∙◌, ap, subst, inl, inr, arith}
use Rattle.std.specs.Prelude.{All, Contains}
use Rattle.std.proofs.lemmas.Bool.{cases_lt, lt-ltb, ltb-true}
use Rattle.std.proofs.lemmas.List.Elements.{All-nil, All-push, Contains-push, Contains-append_left}
use Rattle.std.proofs.lemmas.List.Quantifiers.{all_pairs_push}
use Rattle.terms.specs.declared.tables.Tables.{Tables}
use Rattle.circ_audit.specs.declared.auditing.Finding.{Finding}
use Rattle.circ_audit.specs.declared.auditing.TheConstants.{MOST_FINDINGS}
use Rattle.circ_audit.specs.declared.parts.Part.{Part}
use Rattle.circ_audit.specs.Findings.{PartLaw, place_of_part, finding_of, part_of, number_of, place_of, Keeps, IsBroken, IsBefore, ComesBefore}
use Rattle.circ_audit.specs.Findings.{IsLeftOut, AreFindings, AreFindingsBefore}
use Rattle.circ_audit.specs.Spans.{is_after, HoldsAfter, FailsAfter}
use Rattle.circ_audit.proofs.Audited.{one-part, found-part, found-number, found-again}

-- The lowest number after the other.
abbrev pub from_of : Option ℕ → ℕ
from_of (Some n) = n + 1
from_of None = 0

comes-after : (after : Option ℕ) (n : ℕ) → from_of after ≤ n → is_after after n ≡ true
comes-after None n low = refl
comes-after (Some m) n low = lt-ltb m n (omega (arith, low))

-- Before a place and number, or not.
before-or-not : (place n : ℕ) (finding : Finding) → IsBefore place n finding
    ⊎ ((place < place_of finding) ⊎ ((place_of finding ≡ place) × (n ≤ number_of finding)))
before-or-not place n finding = go (cases_lt (place_of finding) place) (cases_lt place (place_of finding)) (cases_lt (number_of finding) n)
  where
    go : (place_of finding < place) ⊎ (place ≤ place_of finding) → (place < place_of finding) ⊎ (place_of finding ≤ place)
        → (number_of finding < n) ⊎ (n ≤ number_of finding)
        → IsBefore place n finding ⊎ ((place < place_of finding) ⊎ ((place_of finding ≡ place) × (n ≤ number_of finding)))
    go (inl lt) _ _ = inl (inl lt)
    go (inr low) (inl past) _ = inr (inl past)
    go (inr low) (inr high) (inl less) = inl (inr (omega (arith, low, high), less))
    go (inr low) (inr high) (inr from) = inr (inr (omega (arith, low, high), from))

-- None is before the first place.
pub none-before : (t : Tables) → AreFindingsBefore t 0 0 []
none-before t = record {
  broken = All-nil (IsBroken t);
  ordered = λ i j d less within. absurd (omega (arith, within));
  few = omega arith;
  among = All-nil (IsBefore 0 0);
  every = λ finding before. absurd (never finding before);
}
  where
    never : (finding : Finding) → IsBefore 0 0 finding → ⊥
    never finding (inl less) = omega (arith, less)
    never finding (inr same) = let less = same.1 in omega (arith, less)

-- Where every finding is before the place, these are all.
pub all-before-place : (t : Tables) (place : ℕ) (found : List Finding) → ((part : Part) → place_of_part part < place) → AreFindingsBefore t place 0 found
    → AreFindings t found
all-before-place t place found every are = record {
  broken = are.broken;
  ordered = are.ordered;
  few = are.few;
  among = λ k d within. tt;
  every = λ finding among. are.every finding (inl (every (part_of finding)));
}

module _ (t : Tables) (part : Part) (after : Option ℕ) (found : List Finding)
    (are : AreFindingsBefore t (place_of_part part) (from_of after) found) where
  abbrev here : ℕ
  here = place_of_part part

  abbrev from : ℕ
  from = from_of after

  -- What is before the number is before the next place.
  before-next : (finding : Finding) → IsBefore here from finding → IsBefore (here + 1) 0 finding
  before-next finding (inl less) = inl (omega (arith, less))
  before-next finding (inr same) = let is = same.0 in inl (omega (arith, is))

  -- Every finding before the next place that isn't before the number is of this part and from the number on.
  of-part : (finding : Finding) → IsBefore (here + 1) 0 finding → IsBefore here from finding ⊎ ((place_of finding ≡ here) × (from ≤ number_of finding))
  of-part finding before = go (before-or-not here from finding) before
    where
      go : IsBefore here from finding ⊎ ((here < place_of finding) ⊎ ((place_of finding ≡ here) × (from ≤ number_of finding))) → IsBefore (here + 1) 0 finding
          → IsBefore here from finding ⊎ ((place_of finding ≡ here) × (from ≤ number_of finding))
      go (inl is) next = inl is
      go (inr (inr is)) next = inr is
      go (inr (inl past)) (inl less) = absurd (omega (arith, past, less))
      go (inr (inl past)) (inr same) = let less = same.1 in absurd (omega (arith, less))

  -- What comes after the number in this part comes after each that is found.
  found-before : (finding : Finding) → place_of finding ≡ here → from ≤ number_of finding → All (λ other. ComesBefore other finding) found
  found-before finding same low k d within = go (are.among k d within)
    where
      go : IsBefore here from (get_or found k d) → ComesBefore (get_or found k d) finding
      go (inl less) = inl (omega (arith, less, same))
      go (inr is) = let equal = is.0 in let less = is.1 in inr (omega (arith, equal, same), omega (arith, less, low))

  -- The part is done where each later finding of it keeps its law, was found or is left out.
  part-over : ((finding : Finding) → place_of finding ≡ here → from ≤ number_of finding
      → Keeps t finding ⊎ (Contains found finding ⊎ IsLeftOut found finding)) → AreFindingsBefore t (here + 1) 0 found
  part-over later = record {
    broken = are.broken;
    ordered = are.ordered;
    few = are.few;
    among = λ k d within. before-next (get_or found k d) (are.among k d within);
    every = λ finding before. go finding (of-part finding before);
  }
    where
      go : (finding : Finding) → IsBefore here from finding ⊎ ((place_of finding ≡ here) × (from ≤ number_of finding))
          → Keeps t finding ⊎ (Contains found finding ⊎ IsLeftOut found finding)
      go finding (inl before) = are.every finding before
      go finding (inr is) = later finding is.0 is.1

  -- Where as many as may be are found, later ones are left out.
  pub full-part : MOST_FINDINGS ≤ length found → AreFindingsBefore t (here + 1) 0 found
  full-part full = part-over (λ finding same low. inr (inr (record {
    full = (let few = are.few in omega (arith, few, full));
    later = found-before finding same low;
  })))

  -- The law of a finding of this part.
  part-law : (finding : Finding) → place_of finding ≡ here → PartLaw t part (number_of finding) → Keeps t finding
  part-law finding same law = subst (λ (p : Part). PartLaw t p (number_of finding)) (sym (one-part (part_of finding) part same)) law

  -- Where the law holds for all later numbers, the part is done.
  pub done-part : ((n : ℕ) → HoldsAfter after (PartLaw t part) n) → AreFindingsBefore t (here + 1) 0 found
  done-part law = part-over (λ finding same low.
      inl (part-law finding same (law (number_of finding) (comes-after after (number_of finding) low))))

  module _ (n : ℕ) (few : length found < MOST_FINDINGS) (fails : FailsAfter after (PartLaw t part) (Some n)) where
    abbrev new : Finding
    new = finding_of part n

    place-is : place_of new ≡ here
    place-is = ap place_of_part (found-part part n)

    number-is : number_of new ≡ n
    number-is = found-number part n

    -- The number comes after.
    low : from ≤ n
    low = go (cases_lt n from)
      where
        not-after : (other : Option ℕ) → n < from_of other → is_after other n ≡ true → ⊥
        not-after None lt is = omega (arith, lt)
        not-after (Some m) lt is = let above : m < n = ltb-true m n is in omega (arith, lt, above)

        go : (n < from) ⊎ (from ≤ n) → from ≤ n
        go (inl lt) = absurd (fails.broken (λ is. absurd (not-after after lt is)))
        go (inr le) = le

    is-broken : IsBroken t new
    is-broken keeps = fails.broken (λ is. subst (λ (m : ℕ). PartLaw t part m) number-is
        (subst (λ (p : Part). PartLaw t p (number_of new)) (found-part part n) keeps))

    -- It is found as well.
    pub more-found : AreFindingsBefore t here (n + 1) (found ++ new ∷ [])
    more-found = record {
      broken = All-push (IsBroken t) found new are.broken is-broken;
      ordered = all_pairs_push ComesBefore found new are.ordered (found-before new place-is (subst (λ (m : ℕ). from ≤ m) (sym number-is) low));
      few = (let size : length (found ++ new ∷ []) ≡ length found + 1 = length-append found (new ∷ []) in omega (arith, size, few));
      among = All-push (IsBefore here (n + 1)) found new (λ k d within. wider (get_or found k d) (are.among k d within))
          (inr (place-is, (let is = number-is in omega (arith, is))));
      every = λ finding before. go finding (before-or-not here from finding) before;
    }
      where
        wider : (finding : Finding) → IsBefore here from finding → IsBefore here (n + 1) finding
        wider finding (inl less) = inl less
        wider finding (inr same) = let less = same.1 in let le = low in inr (same.0, omega (arith, less, le))

        longer : (finding : Finding) → Keeps t finding ⊎ (Contains found finding ⊎ IsLeftOut found finding)
            → Keeps t finding ⊎ (Contains (found ++ new ∷ []) finding ⊎ IsLeftOut (found ++ new ∷ []) finding)
        longer finding (inl keeps) = inl keeps
        longer finding (inr (inl contains)) = inr (inl (Contains-append_left found (new ∷ []) finding contains))
        longer finding (inr (inr out)) = let full = out.full in absurd (omega (arith, full, few))

        same-new : (finding : Finding) → place_of finding ≡ here → number_of finding ≡ n → new ≡ finding
        same-new finding place number =
            sym (ap (λ (p : Part). finding_of p n) (one-part (part_of finding) part place)) ∙ sym (ap (finding_of (part_of finding)) number)
            ∙ found-again finding

        at-number : (finding : Finding) → place_of finding ≡ here → from ≤ number_of finding → (number_of finding < n) ⊎ (n ≤ number_of finding)
            → number_of finding < n + 1 → Keeps t finding ⊎ (Contains (found ++ new ∷ []) finding ⊎ IsLeftOut (found ++ new ∷ []) finding)
        at-number finding place le (inl lt) less =
            inl (part-law finding place (fails.below (number_of finding) lt (comes-after after (number_of finding) le)))
        at-number finding place le (inr ge) less = inr (inl (subst (λ (f : Finding). Contains (found ++ new ∷ []) f)
            (same-new finding place (omega (arith, ge, less))) (Contains-push found new)))

        go : (finding : Finding) → IsBefore here from finding ⊎ ((here < place_of finding) ⊎ ((place_of finding ≡ here) × (from ≤ number_of finding)))
            → IsBefore here (n + 1) finding → Keeps t finding ⊎ (Contains (found ++ new ∷ []) finding ⊎ IsLeftOut (found ++ new ∷ []) finding)
        go finding (inl before) next = longer finding (are.every finding before)
        go finding (inr (inl past)) (inl less) = absurd (omega (arith, past, less))
        go finding (inr (inl past)) (inr same) = let is = same.0 in absurd (omega (arith, past, is))
        go finding (inr (inr is)) (inl less) = let place = is.0 in absurd (omega (arith, place, less))
        go finding (inr (inr is)) (inr same) = at-number finding is.0 is.1 (cases_lt (number_of finding) n) same.1
