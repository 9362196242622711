-- Texts of words, taken apart: the words between spaces, and the number, day or mask that a word writes.
use Rattle.std.proofs.Common.{◌≡◌, ℕ, zero, suc, ◌<◌, ◌≤◌, ◌^◌, List, [], ◌∷◌, ◌++◌, Bool, true, false, not, ◌&&◌, length, ap, refl, arith}
use Rattle.std.proofs.Common.{map, eqb-true, Decides}
use Rattle.std.specs.Prelude.{◌==◌, if◌then◌else◌}
use Rattle.std.specs.List.{list_all}
use Rattle.std.specs.Str.{bytes_eq}
use Rattle.std.specs.Fmt.{decimal}
use Rattle.std.specs.Str.Parse.{digits_value, AllDigits}
use Rattle.std.proofs.lemmas.Slice.Eq.{bytes_eq-Decides}
use Rattle.std.proofs.lemmas.Bool.{false≢true}
use Rattle.std.proofs.lemmas.Bool.Decides.{nat_tests}
use Rattle.std.proofs.lemmas.Fmt.{decimal_is_IsNumeral}
use Rattle.std.proofs.lemmas.Str.Parse.{digit_from_value}
use Rattle.calendar.specs.Days.{day_text}
use Rattle.calendar.proofs.DayLemmas.{day_text_injective}
use Rattle.terms.specs.Forms.{is_alphanumeric, is_barcode, is_card_key, has_no_space}
use Rattle.terms.specs.Texts.{mask_text}

-- what stands before the first space, and what after it
unfoldable pub first_word : List ℕ → List ℕ
first_word [] = []
first_word (x ∷ xs) = if x == 32 then [] else x ∷ first_word xs

unfoldable pub other_words : List ℕ → List ℕ
other_words [] = []
other_words (x ∷ xs) = if x == 32 then xs else other_words xs

pub both_true : (a b : Bool) → (a && b) ≡ true → (a ≡ true) × (b ≡ true)
both_true true b h = (refl, h)
both_true false b h = absurd (false≢true h)

not_true : (a : Bool) → not a ≡ true → a ≡ false
not_true false h = refl
not_true true h = absurd (false≢true h)

pub first_word-append : (x y : List ℕ) → has_no_space x ≡ true → first_word (x ++ (32 ∷ y)) ≡ x
unfolding first_word
first_word-append [] y h = refl
first_word-append (b ∷ x) y h =
    let p = both_true (not (b == 32)) (has_no_space x) h in
    let q : (b == 32) ≡ false = not_true (b == 32) p.0 in
    rw q (ap (λ (r : List ℕ). b ∷ r) (first_word-append x y p.1))

pub first_word-alone : (x : List ℕ) → has_no_space x ≡ true → first_word x ≡ x
unfolding first_word
first_word-alone [] h = refl
first_word-alone (b ∷ x) h =
    let p = both_true (not (b == 32)) (has_no_space x) h in
    let q : (b == 32) ≡ false = not_true (b == 32) p.0 in
    rw q (ap (λ (r : List ℕ). b ∷ r) (first_word-alone x p.1))

pub other_words-append : (x y : List ℕ) → has_no_space x ≡ true → other_words (x ++ (32 ∷ y)) ≡ y
unfolding other_words
other_words-append [] y h = refl
other_words-append (b ∷ x) y h =
    let p = both_true (not (b == 32)) (has_no_space x) h in
    let q : (b == 32) ≡ false = not_true (b == 32) p.0 in
    rw q (other_words-append x y p.1)

pub no_space-append : (x y : List ℕ) → has_no_space x ≡ true → has_no_space (x ++ (32 ∷ y)) ≡ false
no_space-append [] y h = refl
no_space-append (b ∷ x) y h =
    let p = both_true (not (b == 32)) (has_no_space x) h in
    rw p.0 (no_space-append x y p.1)

no_space-digits : (ds : List ℕ) → AllDigits 10 ds → has_no_space ds ≡ true
no_space-digits [] h = refl
no_space-digits (c ∷ cs) h =
    let r = digit_from_value c h.0 in
    let q : (c == 32) ≡ false = grind (arith, nat_tests) in
    rw q (no_space-digits cs h.1)

pub no_space-decimal : (n : ℕ) → n < 2 ^ 64 → has_no_space (decimal n) ≡ true
no_space-decimal n h = no_space-digits (decimal n) (decimal_is_IsNumeral n h).0.1

-- the number that digits write
abbrev pub number : List ℕ → ℕ
number = digits_value 10

pub number-decimal : (n : ℕ) → n < 2 ^ 64 → number (decimal n) ≡ n
number-decimal n h = (decimal_is_IsNumeral n (omega arith)).1

-- the day below k whose date that is
unfoldable pub day_below : ℕ → List ℕ → ℕ
day_below zero t = 0
day_below (suc k) t = if bytes_eq (day_text k) t then k else day_below k t

day_step : (k n : ℕ) (b : Bool) → Decides b (day_text k ≡ day_text n) → n < suc k → suc k ≤ 84006 → (n < k → k ≤ 84006 → day_below k (day_text n) ≡ n)
    → (if b then k else day_below k (day_text n)) ≡ n
day_step k n true d h small before = day_text_injective k n (omega arith) (omega arith) (d.0 refl)
day_step k n false d h small before =
    let differ : k ≡ n → ⊥ = λ (e : k ≡ n). absurd (false≢true (d.1 (ap day_text e))) in
    before (omega arith) (omega arith)

pub day_below-day_text : (k n : ℕ) → n < k → k ≤ 84006 → day_below k (day_text n) ≡ n
unfolding day_below
day_below-day_text zero n h small = elim h [ ]
day_below-day_text (suc k) n h small = day_step k n _ (bytes_eq-Decides (day_text k) (day_text n)) h small (day_below-day_text k n)

-- the weekdays that seven letters close
abbrev pub closed_by : List ℕ → List Bool
closed_by t = map (λ letter. letter == 99) t

letter-back : (b : Bool) → ((if b then 99 else 111) == 99) ≡ b
letter-back true = refl
letter-back false = refl

pub closed_by-mask_text : (closed : List Bool) → length closed ≡ 7 → closed_by (mask_text closed) ≡ closed
closed_by-mask_text (a ∷ b ∷ c ∷ d ∷ e ∷ f ∷ g ∷ []) h =
    rw (letter-back a, letter-back b, letter-back c, letter-back d, letter-back e, letter-back f, letter-back g) refl
closed_by-mask_text [] h = absurd (omega (arith, h))
closed_by-mask_text (a ∷ []) h = absurd (omega (arith, h))
closed_by-mask_text (a ∷ b ∷ []) h = absurd (omega (arith, h))
closed_by-mask_text (a ∷ b ∷ c ∷ []) h = absurd (omega (arith, h))
closed_by-mask_text (a ∷ b ∷ c ∷ d ∷ []) h = absurd (omega (arith, h))
closed_by-mask_text (a ∷ b ∷ c ∷ d ∷ e ∷ []) h = absurd (omega (arith, h))
closed_by-mask_text (a ∷ b ∷ c ∷ d ∷ e ∷ f ∷ []) h = absurd (omega (arith, h))
closed_by-mask_text (a ∷ b ∷ c ∷ d ∷ e ∷ f ∷ g ∷ x ∷ xs) h = absurd (omega (arith, h))

not_space : (b : ℕ) (t : Bool) → (b == 32) ≡ t → is_alphanumeric b ≡ true → not (b == 32) ≡ true
not_space b true e h = let is : b ≡ 32 = eqb-true b 32 e in let bad : false ≡ true = rw is at h in absurd (false≢true bad)
not_space b false e h = rw e refl

no_space-alphanumeric : (t : List ℕ) → list_all is_alphanumeric t ≡ true → has_no_space t ≡ true
no_space-alphanumeric [] h = refl
no_space-alphanumeric (b ∷ t) h =
    let p = both_true (is_alphanumeric b) (list_all is_alphanumeric t) h in
    rw (not_space b (b == 32) refl p.0) (no_space-alphanumeric t p.1)

pub no_space-card_key : (t : List ℕ) → is_card_key t ≡ true → has_no_space t ≡ true
unfolding is_card_key
no_space-card_key t h =
    let p = both_true _ _ h in
    let q = both_true _ _ p.1 in
    no_space-alphanumeric t q.1

pub no_space-barcode : (t : List ℕ) → is_barcode t ≡ true → has_no_space t ≡ true
unfolding is_barcode
no_space-barcode t h =
    let p = both_true _ _ h in
    let q = both_true _ _ p.1 in
    no_space-alphanumeric t q.1
