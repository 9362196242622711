-- The first row of each caller, taken from rows in the order of their callers.
use Rattle.std.proofs.Common.{◌≡◌, ℕ, suc, ◌-◌, ◌<◌, ◌≤◌, ◌⊎◌, inl, inr, Bool, true, false, List, [], ◌∷◌, ◌++◌, length, refl, sym, ap, subst, true≢false, arith}
use Rattle.std.specs.Prelude.{Option, Some, None, option_map, slice_get, if◌then◌else◌}
use Rattle.std.specs.List.{AllByRecursion}
use Rattle.std.proofs.lemmas.Bool.{eqb-true, eqb-false}
use Rattle.sqlite_rules.specs.Lists.{Has}
use Rattle.sqlite_rules.proofs.ListLemmas.{all_has, has_left, has_right, has_either, has_got}
use Rattle.circ_tables.specs.Cells.{owner_number}
use Rattle.terms.specs.Orders.{IsOrdered, Rise}
use Rattle.terms.specs.declared.row.KeptRow.{KeptRow}
use Rattle.store.specs.Batches.{is_of_caller, ends_with_caller, with_caller, with_callers}
use Rattle.store.proofs.BatchedRows.{last_is, rises_joined, empty_if}

-- The number of a row's caller.
abbrev pub number_of : KeptRow → ℕ
number_of r = owner_number r.caller

-- The callers never fall.
abbrev pub Climb : List KeptRow → Type 0
Climb = IsOrdered (λ r s. number_of r ≤ number_of s)

-- The last of rows that never fall has the greatest number.
pub greatest : (rows : List KeptRow) (last : KeptRow) → Climb rows → slice_get rows (length rows - 1) ≡ Some last → (r : KeptRow) → Has rows r
    → number_of r ≤ number_of last
greatest [] last climb end r there = absurd there
greatest (x ∷ []) last climb end r (inl same) = let is : x ≡ last = cc in let equal : r ≡ last = cc in subst (λ s. number_of s ≤ number_of last) (sym equal) (omega arith)
greatest (x ∷ []) last climb end r (inr none) = absurd none
greatest (x ∷ y ∷ rows) last climb end r there =
    let same : length (x ∷ y ∷ rows) - 1 ≡ suc (length (y ∷ rows) - 1) = omega arith in
    let later : slice_get (y ∷ rows) (length (y ∷ rows) - 1) ≡ Some last = subst (λ (i : ℕ). slice_get (x ∷ y ∷ rows) i ≡ Some last) same end in
    elim there [
      | inl is ↦ subst (λ s. number_of s ≤ number_of last) (sym is)
          (all_has (λ s. number_of x ≤ number_of s) (y ∷ rows) last climb.0 (has_got (y ∷ rows) (length (y ∷ rows) - 1) last later))
      | inr more ↦ greatest (y ∷ rows) last climb.1 later r more
    ]

-- The rows of `out` are some of these and of more, with each caller once.
pub record AreTakenFrom (rows more out : List KeptRow) : Type 0 where
  pub rise : Rise number_of out
  pub from : (r : KeptRow) → Has out r → Has rows r ⊎ Has more r
  pub stays : (r : KeptRow) → Has rows r → Has out r
  pub each : (r : KeptRow) → Has more r → (s : KeptRow) × Has out s × (number_of s ≡ number_of r)

-- One row more.
one_taken : (rows : List KeptRow) (x : KeptRow) → Rise number_of rows → ((r : KeptRow) → Has rows r → number_of r ≤ number_of x)
    → AreTakenFrom rows (x ∷ []) (with_caller rows x)
one_taken rows x rise low = go (slice_get rows (length rows - 1)) refl (ends_with_caller rows x.caller) refl
  where
    itself : (s : KeptRow) → Has rows s → number_of s ≡ number_of x → (r : KeptRow) → Has (x ∷ []) r → (t : KeptRow) × Has rows t × (number_of t ≡ number_of r)
    itself s there same r (inl is) = (s, there, let equal : number_of s ≡ number_of r = cc in equal)
    itself s there same r (inr none) = absurd none

    added : (r : KeptRow) → Has (x ∷ []) r → (s : KeptRow) × Has (rows ++ x ∷ []) s × (number_of s ≡ number_of r)
    added r new = (r, has_right rows (x ∷ []) r new, refl)

    above : (o : Option KeptRow) → slice_get rows (length rows - 1) ≡ o → is_of_caller x.caller o ≡ false → (r s : KeptRow) → Has rows r → Has (x ∷ []) s
        → number_of r < number_of s
    above None end differs r s there new =
        absurd (nothing rows (empty_if number_of rows (ap (option_map number_of) end)) r there)
      where
        nothing : (rows : List KeptRow) → length rows ≡ 0 → (r : KeptRow) → Has rows r → ⊥
        nothing [] none r there = there
        nothing (y ∷ rows) none r there = let never : ⊥ = cc in never
    above (Some last) end differs r s there (inl is) =
        let it = last_is number_of rows rise last end in
        let to : number_of r ≤ number_of last = it.1 r there in
        let next : number_of last ≤ number_of x = low last it.0 in
        let other = eqb-false (number_of last) (number_of x) differs in
        subst (λ t. number_of r < number_of t) (sym is) (omega (arith, to, next, other))
    above (Some last) end differs r s there (inr none) = absurd none

    go : (o : Option KeptRow) → slice_get rows (length rows - 1) ≡ o → (b : Bool) → is_of_caller x.caller (slice_get rows (length rows - 1)) ≡ b
        → AreTakenFrom rows (x ∷ []) (if b then rows else rows ++ x ∷ [])
    go o end false differs = record {
      rise = rises_joined number_of rows (x ∷ []) rise (tt, tt) (above o end (subst (λ p. is_of_caller x.caller p ≡ false) end differs));
      from = has_either rows (x ∷ []);
      stays = has_left rows (x ∷ []);
      each = added;
    }
    go None end true same = absurd (true≢false (sym (subst (λ p. is_of_caller x.caller p ≡ true) end same)))
    go (Some last) end true same = record {
      rise = rise;
      from = λ r there. inl there;
      stays = λ r there. there;
      each = itself last (has_got rows (length rows - 1) last end)
          (eqb-true (number_of last) (number_of x) (subst (λ p. is_of_caller x.caller p ≡ true) end same));
    }

-- What was taken of it comes before those that follow it.
low_on : (rows : List KeptRow) (x : KeptRow) (more : List KeptRow) → AllByRecursion (λ t. number_of x ≤ number_of t) more
    → ((r s : KeptRow) → Has rows r → Has (x ∷ more) s → number_of r ≤ number_of s) → AreTakenFrom rows (x ∷ []) (with_caller rows x)
    → (r s : KeptRow) → Has (with_caller rows x) r → Has more s → number_of r ≤ number_of s
low_on rows x more climb low one r s there new = elim (one.from r there) [
  | inl before ↦ low r s before (inr new)
  | inr (inl is) ↦ subst (λ t. number_of t ≤ number_of s) (sym is) (all_has (λ t. number_of x ≤ number_of t) more s climb new)
  | inr (inr none) ↦ absurd none
]

-- One row more, and then others.
then_taken : (rows : List KeptRow) (x : KeptRow) (more : List KeptRow) → AreTakenFrom rows (x ∷ []) (with_caller rows x)
    → AreTakenFrom (with_caller rows x) more (with_callers (with_caller rows x) more)
    → AreTakenFrom rows (x ∷ more) (with_callers (with_caller rows x) more)
then_taken rows x more one rest = record {
  rise = rest.rise;
  from = λ r there. elim (rest.from r there) [
    | inl first ↦ elim (one.from r first) [
      | inl before ↦ inl before
      | inr (inl is) ↦ inr (inl is)
      | inr (inr none) ↦ absurd none
    ]
    | inr later ↦ inr (inr later)
  ];
  stays = λ r there. rest.stays r (one.stays r there);
  each = each;
}
  where
    each : (r : KeptRow) → Has (x ∷ more) r → (s : KeptRow) × Has (with_callers (with_caller rows x) more) s × (number_of s ≡ number_of r)
    each r (inl is) = let it = one.each r (inl is) in (it.0, rest.stays it.0 it.1, it.2)
    each r (inr later) = rest.each r later

-- All rows of a list more.
pub all_taken : (rows more : List KeptRow) → Rise number_of rows → Climb more
    → ((r s : KeptRow) → Has rows r → Has more s → number_of r ≤ number_of s) → AreTakenFrom rows more (with_callers rows more)
all_taken rows [] rise climb low = record {
  rise = rise;
  from = λ r there. inl there;
  stays = λ r there. there;
  each = λ r none. absurd none;
}
all_taken rows (x ∷ more) rise climb low =
    let one = one_taken rows x rise (λ r there. low r x there (inl refl)) in
    then_taken rows x more one (all_taken (with_caller rows x) more one.rise climb.1 (low_on rows x more climb.0 low one))

-- After a batch that is empty they are as before.
pub none_taken : (rows batch : List KeptRow) → length batch ≡ 0 → with_callers rows batch ≡ rows
none_taken rows [] none = refl
none_taken rows (x ∷ batch) none = let never : ⊥ = cc in absurd never
