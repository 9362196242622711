-- Rows carried over from one table to another.
use Rattle.std.proofs.Common.{◌≡◌, ◌≢◌, ℕ, ◌<◌, ◌≤◌, ◌⊎◌, inl, inr, leb, Bool, true, false, cond, List, [], ◌∷◌, length, refl, sym, ap}
use Rattle.std.proofs.Common.{subst, ◌∙◌, arith, true≢false}
use Rattle.std.specs.Prelude.{Option, Some, None, option_map}
use Rattle.std.proofs.Math.Path.{fun_ext}
use Rattle.std.proofs.lemmas.Bool.{cases_Bool, cases_lt, false_from_ne_true, le-leb, lt-leb}
use Rattle.sqlite_rules.specs.Lists.{Has}
use Rattle.sqlite_rules.proofs.ListLemmas.{has_contained, contains_had}
use Rattle.circ_tables.specs.declared.by_number.TheConstants.{BATCH_ROWS}
use Rattle.store.specs.Carrying.{put_by}
use Rattle.store.specs.Batches.{AreRowsAfter, AreNumbered}

-- What tells two keys of a table apart.
module _ {K : Type 0} (same : K → K → Bool) (own : (k : K) → same k k ≡ true) (met : (j k : K) → same j k ≡ true → j ≡ k) where
  alike : (j k : K) → (j ≡ k) ⊎ (j ≢ k)
  alike j k = elim (cases_Bool (same j k)) [
    | inl hit ↦ inl (met j k hit)
    | inr miss ↦ inr (λ e. true≢false (sym (subst (λ i. same j i ≡ true) e (own j)) ∙ miss))
  ]

  -- An entry under its key, and under another.
  put_here : {A : Type 0} (t : K → A) (k : K) (x : A) (j : K) → k ≡ j → put_by same t k x j ≡ x
  put_here t k x j is = ap (λ b. elim b [ true ↦ x | false ↦ t j ]) (subst (λ i. same k i ≡ true) is (own k))

  put_elsewhere : {A : Type 0} (t : K → A) (k : K) (x : A) (j : K) → k ≢ j → put_by same t k x j ≡ t j
  put_elsewhere t k x j other = ap (λ b. elim b [ true ↦ x | false ↦ t j ]) (false_from_ne_true _ (λ hit. other (met k j hit)))

  -- The rows of a batch are taken out of the one table, and what they become is put into the other.
  module _ {R N : Type 0} (key_of : R → K) (carried : R → N) where
    abbrev pub all_taken : List R → (K → Option R) → K → Option R
    all_taken [] f = f
    all_taken (r ∷ more) f = all_taken more (put_by same f (key_of r) None)

    abbrev pub all_put : List R → (K → Option N) → K → Option N
    all_put [] g = g
    all_put (r ∷ more) g = all_put more (put_by same g (key_of r) (Some (carried r)))

    pub taken_none : (batch : List R) (f : K → Option R) (k : K) → f k ≡ None → all_taken batch f k ≡ None
    taken_none [] f k none = none
    taken_none (r ∷ more) f k none =
        taken_none more (put_by same f (key_of r) None) k
        (elim (alike (key_of r) k) [
          | inl is ↦ put_here f (key_of r) None k is
          | inr other ↦ put_elsewhere f (key_of r) None k other
              ∙ none
        ])

    pub taken_there : (batch : List R) (f : K → Option R) (r : R) → Has batch r → all_taken batch f (key_of r) ≡ None
    taken_there [] f r never = absurd never
    taken_there (x ∷ more) f r (inl is) =
        taken_none more (put_by same f (key_of x) None) (key_of r) (put_here f (key_of x) None (key_of r) (ap key_of (sym is)))
    taken_there (x ∷ more) f r (inr there) = taken_there more (put_by same f (key_of x) None) r there

    pub taken_elsewhere : (batch : List R) (f : K → Option R) (k : K) → ((r : R) → Has batch r → key_of r ≢ k) → all_taken batch f k ≡ f k
    taken_elsewhere [] f k other = refl
    taken_elsewhere (x ∷ more) f k other = taken_elsewhere more (put_by same f (key_of x) None) k (λ r there. other r (inr there))
        ∙ put_elsewhere f (key_of x) None k (other x (inl refl))

    pub put_nowhere : (batch : List R) (g : K → Option N) (k : K) → ((r : R) → Has batch r → key_of r ≢ k) → all_put batch g k ≡ g k
    put_nowhere [] g k other = refl
    put_nowhere (x ∷ more) g k other = put_nowhere more (put_by same g (key_of x) (Some (carried x))) k (λ r there. other r (inr there))
        ∙ put_elsewhere g (key_of x) (Some (carried x)) k (other x (inl refl))

    put_stays : (batch : List R) (g : K → Option N) (k : K) (n : N) → ((r : R) → Has batch r → key_of r ≡ k → carried r ≡ n) → g k ≡ Some n
        → all_put batch g k ≡ Some n
    put_stays [] g k n each is = is
    put_stays (x ∷ more) g k n each is =
        put_stays more (put_by same g (key_of x) (Some (carried x))) k n (λ r there. each r (inr there)) (elim (alike (key_of x) k) [
          | inl mine ↦ put_here g (key_of x) (Some (carried x)) k mine ∙ ap Some (each x (inl refl) mine)
          | inr other ↦ put_elsewhere g (key_of x) (Some (carried x)) k other ∙ is
        ])

    pub put_there : (batch : List R) (g : K → Option N) (k : K) (n : N) → ((r : R) → Has batch r → key_of r ≡ k → carried r ≡ n) → (r : R)
        → Has batch r → key_of r ≡ k → all_put batch g k ≡ Some n
    put_there [] g k n each r never mine = absurd never
    put_there (x ∷ more) g k n each r (inl is) mine =
        let here : key_of x ≡ k = ap key_of (sym is) ∙ mine in
        put_stays more (put_by same g (key_of x) (Some (carried x))) k n (λ s there. each s (inr there))
        (put_here g (key_of x) (Some (carried x)) k here ∙ ap Some (each x (inl refl) here))
    put_there (x ∷ more) g k n each r (inr there) mine =
        put_there more (put_by same g (key_of x) (Some (carried x))) k n (λ s before. each s (inr before)) r there mine

    -- A batch that has every row of the table.
    module _ (f : K → Option R) (batch : List R) (sound : (r : R) → Has batch r → f (key_of r) ≡ Some r)
        (whole : (k : K) (r : R) → f k ≡ Some r → Has batch r × (key_of r ≡ k)) where
      pub whole_taken : all_taken batch f ≡ λ _. None
      whole_taken = fun_ext (λ k. at k (f k) refl)
        where
          at : (k : K) (o : Option R) → f k ≡ o → all_taken batch f k ≡ None
          at k None e = taken_none batch f k e
          at k (Some r) e = let it = whole k r e in subst (λ j. all_taken batch f j ≡ None) it.1 (taken_there batch f r it.0)

      pub whole_put : all_put batch (λ _. None) ≡ λ k. option_map carried (f k)
      whole_put = fun_ext (λ k. at k (f k) refl)
        where
          alone : (k : K) (r : R) → f k ≡ Some r → (s : R) → Has batch s → key_of s ≡ k → carried s ≡ carried r
          alone k r e s has mine =
              let both : Some s ≡ Some r = sym (sound s has) ∙ ap f mine ∙ e in
              let one : s ≡ r = cc in
              ap carried one

          at : (k : K) (o : Option R) → f k ≡ o → all_put batch (λ _. None) k ≡ option_map carried o
          at k None e = put_nowhere batch (λ _. None) k
              (λ r has mine. (let both : None ≡ Some r = sym e ∙ ap f (sym mine) ∙ sound r has in let never : ⊥ = cc in never))
          at k (Some r) e = let it = whole k r e in put_there batch (λ _. None) k (carried r) (alone k r e) r it.0 it.1

-- The rows that are left above a number, and those that were carried over up to it.
abbrev pub left_above : {R : Type 0} → ℕ → (ℕ → Option R) → ℕ → Option R
left_above after f k = cond (leb k after) None (f k)

abbrev pub carried_to : {R N : Type 0} → (R → N) → ℕ → (ℕ → Option R) → ℕ → Option N
carried_to carried after f k = cond (leb k after) (option_map carried (f k)) None

module _ {R : Type 0} (f : ℕ → Option R) (after k : ℕ) where
  left_low : k ≤ after → left_above after f k ≡ None
  left_low low = ap (λ b. cond b None (f k)) (le-leb k after low)

  left_high : after < k → left_above after f k ≡ f k
  left_high high = ap (λ b. cond b None (f k)) (lt-leb k after high)

module _ {R N : Type 0} (carried : R → N) (f : ℕ → Option R) (after k : ℕ) where
  carried_low : k ≤ after → carried_to carried after f k ≡ option_map carried (f k)
  carried_low low = ap (λ b. cond b (option_map carried (f k)) None) (le-leb k after low)

  carried_high : after < k → carried_to carried after f k ≡ None
  carried_high high = ap (λ b. cond b (option_map carried (f k)) None) (lt-leb k after high)

-- Rows under numbers, up to one of which they are carried over.
module _ (same : ℕ → ℕ → Bool) (own : (k : ℕ) → same k k ≡ true) (told : (j k : ℕ) → same j k ≡ true → j ≡ k) {R N : Type 0}
    (number_of : R → ℕ) (carried : R → N) where
  module _ (f : ℕ → Option R) (numbered : AreNumbered f number_of) where
    -- Nothing is carried over yet.
    pub none_left : left_above 0 f ≡ f
    none_left = fun_ext at
      where
        first : (o : Option R) → f 0 ≡ o → o ≡ None
        first None is = refl
        first (Some r) is = let from : 1 ≤ 0 = (numbered 0 r is).1 in absurd (omega (arith, from))

        at : (k : ℕ) → left_above 0 f k ≡ f k
        at k = elim (cases_lt 0 k) [
          | inl high ↦ left_high f 0 k high
          | inr low ↦
              let zero : k ≡ 0 = omega (arith, low) in
              left_low f 0 k low ∙ sym (subst (λ n. f n ≡ None) (sym zero) (first (f 0) refl))
        ]

    pub none_carried : carried_to carried 0 f ≡ λ _. None
    none_carried = fun_ext at
      where
        first : (o : Option R) → f 0 ≡ o → o ≡ None
        first None is = refl
        first (Some r) is = let from : 1 ≤ 0 = (numbered 0 r is).1 in absurd (omega (arith, from))

        at : (k : ℕ) → carried_to carried 0 f k ≡ None
        at k = elim (cases_lt 0 k) [
          | inl high ↦ carried_high carried f 0 k high
          | inr low ↦
              let zero : k ≡ 0 = omega (arith, low) in
              carried_low carried f 0 k low ∙ ap (option_map carried) (subst (λ n. f n ≡ None) (sym zero) (first (f 0) refl))
        ]

    module _ (after : ℕ) (batch : List R) (is : AreRowsAfter (left_above after f) number_of after batch) where
      row_is : (r : R) → Has batch r → (f (number_of r) ≡ Some r) × (after < number_of r)
      row_is r there =
          let it = is.sound r (contains_had batch r there) in
          (sym (left_high f after (number_of r) it.1) ∙ it.0, it.1)

      -- Nothing is left above the number where the batch is empty.
      last_none : length batch ≡ 0 → (k : ℕ) → after < k → f k ≡ None
      last_none empty k high = go (f k) refl
        where
          go : (o : Option R) → f k ≡ o → o ≡ None
          go None e = refl
          go (Some r) e =
              let own : number_of r ≡ k = (numbered k r e).0 in
              elim (is.whole k r (left_high f after k high ∙ e) (omega (arith, own, high))) [
                | inl there ↦ (let lt : there.0 < length batch = there.1 in absurd (omega (arith, lt, empty)))
                | inr rest ↦ (let full : length batch ≡ BATCH_ROWS = rest.0 in absurd (omega (arith, full, empty)))
              ]

      pub all_left : length batch ≡ 0 → left_above after f ≡ λ _. None
      all_left empty = fun_ext (λ k. elim (cases_lt after k) [
        | inl high ↦ left_high f after k high ∙ last_none empty k high
        | inr low ↦ left_low f after k low
      ])

      pub all_carried : length batch ≡ 0 → carried_to carried after f ≡ λ k. option_map carried (f k)
      all_carried empty = fun_ext (λ k. elim (cases_lt after k) [
        | inl high ↦ carried_high carried f after k high ∙ sym (ap (option_map carried) (last_none empty k high))
        | inr low ↦ carried_low carried f after k low
      ])

      module _ (last : R) (there : Has batch last) (greatest : (s : R) → Has batch s → number_of s ≤ number_of last) where
        -- A row between the two numbers is one of the batch.
        met : (k : ℕ) (r : R) → f k ≡ Some r → after < k → k ≤ number_of last → Has batch r
        met k r e high low =
            let own : number_of r ≡ k = (numbered k r e).0 in
            elim (is.whole k r (left_high f after k high ∙ e) (omega (arith, own, high))) [
              | inl has ↦ has_contained batch r has
              | inr rest ↦ (let under : number_of last < k = rest.1 last (contains_had batch last there) in absurd (omega (arith, under, low)))
            ]

        low_elsewhere : (k : ℕ) → k ≤ after → (r : R) → Has batch r → number_of r ≢ k
        low_elsewhere k low r has same = let more : after < number_of r = (row_is r has).1 in absurd (omega (arith, more, same, low))

        high_elsewhere : (k : ℕ) → number_of last < k → (r : R) → Has batch r → number_of r ≢ k
        high_elsewhere k high r has same = let most : number_of r ≤ number_of last = greatest r has in absurd (omega (arith, most, same, high))

        none_elsewhere : (k : ℕ) → f k ≡ None → (r : R) → Has batch r → number_of r ≢ k
        none_elsewhere k none r has same =
            let e : f (number_of r) ≡ Some r = (row_is r has).0 in
            let never : ⊥ = let both : None ≡ Some r = sym none ∙ ap f (sym same) ∙ e in cc in
            never

        more : after < number_of last
        more = (row_is last there).1

        pub next_left : all_taken same own told number_of carried batch (left_above after f) ≡ left_above (number_of last) f
        next_left = fun_ext at
          where
            between : (k : ℕ) → after < k → k ≤ number_of last → (o : Option R) → f k ≡ o
                → all_taken same own told number_of carried batch (left_above after f) k ≡ None
            between k high low None e = taken_none same own told number_of carried batch (left_above after f) k (left_high f after k high ∙ e)
            between k high low (Some r) e =
                subst (λ n. all_taken same own told number_of carried batch (left_above after f) n ≡ None) (numbered k r e).0
                (taken_there same own told number_of carried batch (left_above after f) r (met k r e high low))

            at : (k : ℕ) → all_taken same own told number_of carried batch (left_above after f) k ≡ left_above (number_of last) f k
            at k = elim (cases_lt after k) [
              | inr low ↦ taken_none same own told number_of carried batch (left_above after f) k (left_low f after k low)
                  ∙ sym (left_low f (number_of last) k (omega (arith, low, more)))
              | inl high ↦ elim (cases_lt (number_of last) k) [
                | inl past ↦ taken_elsewhere same own told number_of carried batch (left_above after f) k (high_elsewhere k past)
                    ∙ left_high f after k high ∙ sym (left_high f (number_of last) k past)
                | inr within ↦ between k high within (f k) refl ∙ sym (left_low f (number_of last) k within)
              ]
            ]

        pub next_carried : all_put same own told number_of carried batch (carried_to carried after f) ≡ carried_to carried (number_of last) f
        next_carried = fun_ext at
          where
            same_row : (k : ℕ) (r : R) → f k ≡ Some r → (s : R) → Has batch s → number_of s ≡ k → carried s ≡ carried r
            same_row k r e s has same =
                let own : f (number_of s) ≡ Some s = (row_is s has).0 in
                let both : Some s ≡ Some r = sym own ∙ ap f same ∙ e in
                let one : s ≡ r = cc in
                ap carried one

            between : (k : ℕ) → after < k → k ≤ number_of last → (o : Option R) → f k ≡ o
                → all_put same own told number_of carried batch (carried_to carried after f) k ≡ option_map carried o
            between k high low None e = put_nowhere same own told number_of carried batch (carried_to carried after f) k (none_elsewhere k e)
                ∙ carried_high carried f after k high
            between k high low (Some r) e =
                put_there same own told number_of carried batch (carried_to carried after f) k (carried r) (same_row k r e) r
                (met k r e high low) (numbered k r e).0

            at : (k : ℕ) → all_put same own told number_of carried batch (carried_to carried after f) k ≡ carried_to carried (number_of last) f k
            at k = elim (cases_lt after k) [
              | inr low ↦
                  put_nowhere same own told number_of carried batch (carried_to carried after f) k (low_elsewhere k low) ∙ carried_low carried f after k low
                  ∙ sym (carried_low carried f (number_of last) k (omega (arith, low, more)))
              | inl high ↦ elim (cases_lt (number_of last) k) [
                | inl past ↦ put_nowhere same own told number_of carried batch (carried_to carried after f) k (high_elsewhere k past)
                    ∙ carried_high carried f after k high ∙ sym (carried_high carried f (number_of last) k past)
                | inr within ↦ between k high within (f k) refl ∙ sym (carried_low carried f (number_of last) k within)
              ]
            ]
