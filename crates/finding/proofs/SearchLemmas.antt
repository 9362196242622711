-- Words in folded texts.
use Rattle.std.proofs.Common.{◌≡◌, ◌≢◌, ℕ, List, [], ◌∷◌, Bool, true, false, ◌&&◌, nat_eq, eqb, ap, ◌∙◌, refl, arith, sym, length, ◌<◌}
use Rattle.std.proofs.lemmas.Bool.Decides.{nat_tests}
use Rattle.std.specs.List.{list_all, slice_split, position_or_len, before_first, after_first}
use Rattle.std.specs.Prelude.{filter}
use Rattle.std.proofs.lemmas.List.Splits.{slice_split_first, slice_split_none}
use Rattle.std.proofs.lemmas.List.Sums.{fails_before_first}
use Rattle.finding.specs.Finding.{begins_with, occurs_in, folded, is_filled, words, finds}
use Rattle.finding.proofs.FoldingLemmas.{folded-nil}

-- ---- a beginning

pub begins-nil : (word text : List ℕ) → word ≡ [] → begins_with word text ≡ true
unfolding begins_with
begins-nil word text w = rw w refl

pub begins-none : (word text rest : List ℕ) (c : ℕ) → word ≡ c ∷ rest → text ≡ [] → begins_with word text ≡ false
unfolding begins_with
begins-none word text rest c w t = rw (w, t) refl

pub begins-other : (word text ws ts : List ℕ) (c d : ℕ) → word ≡ c ∷ ws → text ≡ d ∷ ts → c ≢ d → begins_with word text ≡ false
unfolding begins_with
begins-other word text ws ts c d w t differ =
    let test : nat_eq c d ≡ false = grind (arith, nat_tests) in
    rw (w, t) (ap (λ (b : Bool). b && begins_with ws ts) test)

pub begins-same : (word text ws ts : List ℕ) (c d : ℕ) → word ≡ c ∷ ws → text ≡ d ∷ ts → c ≡ d → begins_with word text ≡ begins_with ws ts
unfolding begins_with
begins-same word text ws ts c d w t same =
    let test : nat_eq c d ≡ true = grind (arith, nat_tests) in
    rw (w, t) (ap (λ (b : Bool). b && begins_with ws ts) test)

-- ---- an occurrence

pub occurs-here : (word text : List ℕ) → begins_with word text ≡ true → occurs_in word text ≡ true
unfolding occurs_in
occurs-here word [] here = here
occurs-here word (c ∷ text) here = rw here refl

pub occurs-nowhere : (word text : List ℕ) → text ≡ [] → begins_with word text ≡ false → occurs_in word text ≡ false
unfolding occurs_in
occurs-nowhere word text none here = rw none (rw none at here)

pub occurs-later : (word text ts : List ℕ) (c : ℕ) → text ≡ c ∷ ts → begins_with word text ≡ false → occurs_in word text ≡ occurs_in word ts
unfolding occurs_in
occurs-later word text ts c t here = let first = rw t at here in rw (t, first) refl

-- ---- the words of a query

-- A test that the empty list passes may be asked of the parts that are empty, too.
all-filled : (test : List ℕ → Bool) (parts : List (List ℕ)) → test [] ≡ true → list_all test (filter is_filled parts) ≡ list_all test parts
all-filled test [] empty = refl
all-filled test ([] ∷ parts) empty = rw empty (all-filled test parts empty)
all-filled test ((c ∷ part) ∷ parts) empty = ap (λ (b : Bool). test (c ∷ part) && b) (all-filled test parts empty)

occurs-empty : (text : List ℕ) → occurs_in (folded []) (folded text) ≡ true
occurs-empty text = occurs-here _ _ (begins-nil _ _ folded-nil)

finds-parts : (query text : List ℕ) → finds query text ≡ list_all (λ part. occurs_in (folded part) (folded text)) (slice_split (λ c. eqb c 32) query)
unfolding finds words
finds-parts query text = all-filled (λ part. occurs_in (folded part) (folded text)) (slice_split (λ c. eqb c 32) query) (occurs-empty text)

pub finds-word : (query text word rest : List ℕ) → position_or_len (λ b. eqb b 32) query < length query → word ≡ before_first (λ b. eqb b 32) query
    → rest ≡ after_first (λ b. eqb b 32) query → finds query text ≡ occurs_in (folded word) (folded text) && finds rest text
finds-word query text word rest within front back =
    finds-parts query text ∙ ap (list_all (λ part. occurs_in (folded part) (folded text))) (slice_split_first (λ b. eqb b 32) query 0 within)
    ∙ rw (front, back) (ap (λ (b : Bool). occurs_in (folded (before_first (λ b. eqb b 32) query)) (folded text) && b)
    (sym (finds-parts (after_first (λ b. eqb b 32) query) text)))

and-true : (b : Bool) → b && true ≡ b
and-true true = refl
and-true false = refl

pub finds-last : (query text : List ℕ) → position_or_len (λ b. eqb b 32) query ≡ length query → finds query text ≡ occurs_in (folded query) (folded text)
finds-last query text whole =
    finds-parts query text
    ∙ ap (list_all (λ part. occurs_in (folded part) (folded text)))
    (slice_split_none (λ b. eqb b 32) query (λ k d h. fails_before_first (λ b. eqb b 32) query k d (omega arith)))
    ∙ and-true (occurs_in (folded query) (folded text))
