use Rattle.std.proofs.Common.{◌≡◌, ◌≢◌, ℕ, ◌+◌, ◌*◌, ◌-◌, ◌<◌, ◌≤◌, ◌^◌, List, [], ◌∷◌, length, get_or, sym, ap, ◌∙◌, arith, rules, tests}
use Rattle.std.proofs.Common.{Result, Ok, Err, true}
use Rattle.std.specs.Str.{all_ascii_digits}
use Rattle.std.specs.Fmt.{decimal}
use Rattle.std.specs.Str.Parse.{ParsesUnsigned}
use Rattle.std.proofs.lemmas.Str.Parse.{IsNumeralModel, numerals_by_fold, parse_plain}
use Rattle.std.proofs.lemmas.Fmt.{parse-decimal, decimal-digits_value, first_decimal, decimal_nonempty, length-decimal-le, decimal_is_IsNumeral}
use Rattle.std.specs.Int.{IsInRange}
use Rattle.std.proofs.lemmas.Str.Parse.{digit_at}
use Rattle.std.proofs.Common.{zero, suc}
use Rattle.terms.proofs.reading.read_large.Goals as goal
use Rattle.terms.proofs.reading.read_large.Goals.{else-first-eq48-via-then-first-eq48+else-bytes-gt1, else-first-eq48-via-else-first-eq48}

abbrev read_on : ℕ → List ℕ → ℕ
read_on n [] = n
read_on n (c ∷ cs) = read_on (10 * n + (c - 48)) cs

own : IsNumeralModel (λ ds. all_ascii_digits ds ≡ true) (read_on 0)
own = numerals_by_fold _ (search rules) read_on (search rules)

first_digit : (n : ℕ) → n < 2 ^ 64 → IsInRange 48 57 (get_or (decimal n) 0 0)
first_digit n h = let d = (decimal_is_IsNumeral n (omega arith)).0 in digit_at (decimal n) 0 d.1 d.0

not_long : (n : ℕ) → n < 2 ^ 64 → get_or (decimal n) 0 0 ≡ 48 → length (decimal n) ≤ 1
not_long zero h e = length-decimal-le 1 0 (omega arith) (omega arith) (omega arith)
not_long (suc n) h e = absurd (omega (arith, first_decimal (suc n) (omega arith) (omega arith)))

written : {E : Type 0} (bs : List ℕ) (r : Result ℕ E) (number : ℕ) → ParsesUnsigned 64 10 bs r → r ≡ Ok number → get_or bs 0 0 ≢ 43
    → (get_or bs 0 0 ≡ 48 → length bs ≡ 1) → bs ≡ decimal number
written {E = E} bs r number h is no_plus short =
    let p = rw is at (parse_plain own {E = E} 64 bs r h no_plus) in
    sym (ap decimal p.1 ∙ decimal-digits_value own bs p.0.0 p.0.1 short (omega (arith, p.0.2)))

refused : {E : Type 0} (bs : List ℕ) (r : Result ℕ E) (e : E) (n : ℕ) → ParsesUnsigned 64 10 bs r → r ≡ Err e → n < 2 ^ 64 → bs ≡ decimal n → ⊥
refused bs r e n h err small is = let ok : r ≡ Ok n = parse-decimal 64 n bs r small (omega arith) is h in cc

no_empty : (t : List ℕ) (n : ℕ) → n < 2 ^ 64 → t ≡ decimal n → length t ≡ 0 → ⊥
no_empty t n h e l = omega (arith, decimal_nonempty n (omega arith), ap length e)

no_plus : (t : List ℕ) (n : ℕ) → n < 2 ^ 64 → t ≡ decimal n → get_or t 0 0 ≡ 43 → ⊥
no_plus t n h e l = let d = first_digit n h in omega (arith, d, ap (λ (x : List ℕ). get_or x 0 0) e)

no_zero : (t : List ℕ) (n : ℕ) → n < 2 ^ 64 → t ≡ decimal n → get_or t 0 0 ≡ 48 → 1 < length t → ⊥
no_zero t n h e z l =
    let first : get_or (decimal n) 0 0 ≡ 48 = sym (ap (λ (x : List ℕ). get_or x 0 0) e) ∙ z in
    omega (arith, not_long n h first, ap length e)

pub returns-then-is_empty-clause-none : goal.returns-then-is_empty-clause-none
returns-then-is_empty-clause-none c = λ n h e.
    let same = c.as_bytes-bytes.ensures.value in
    no_empty c.as_bytes-bytes.result.now n h (same ∙ e) (search (rules, tests))

pub returns-then-first-eq43-clause-none : goal.returns-then-first-eq43-clause-none
returns-then-first-eq43-clause-none c = λ n h e. no_plus c.as_bytes-bytes.result.now n h (c.as_bytes-bytes.ensures.value ∙ e) c.if-first-eq43.true

pub returns-then-bytes-gt1-clause-none : goal.returns-then-bytes-gt1-clause-none
returns-then-bytes-gt1-clause-none c =
    λ n h e. no_zero c.as_bytes-bytes.result.now n h (c.as_bytes-bytes.ensures.value ∙ e) c.if-first-eq48.true c.if-bytes-gt1.true

pub returns-in-Ok-clause-some : goal.returns-in-Ok-clause-some
returns-in-Ok-clause-some c =
    let same : c.as_bytes-bytes.result.now ≡ c.args.text.now = c.as_bytes-bytes.ensures.value in
    written c.args.text.now c.parse.result c.in-Ok.number c.parse.ensures.value.0 c.in-Ok.is
    (λ e. c.if-first-eq43.false (ap (λ (x : List ℕ). get_or x 0 0) same ∙ e)) (λ e.
    let z : get_or c.as_bytes-bytes.result.now 0 0 ≡ 48 = ap (λ (x : List ℕ). get_or x 0 0) same ∙ e in
    let some : 0 < length c.as_bytes-bytes.result.now = search (rules, tests) in
    elim c.else-first-eq48.branch [
      | else-first-eq48-via-then-first-eq48+else-bytes-gt1 w ↦ sym (ap length same) ∙ omega (arith, w.if-bytes-gt1.false, some)
      | else-first-eq48-via-else-first-eq48 w ↦ absurd (w.if-first-eq48.false z)
    ])

pub returns-in-Err-clause-none : goal.returns-in-Err-clause-none
returns-in-Err-clause-none c = λ n h e. refused c.args.text.now c.parse.result c.in-Err.field-0 n c.parse.ensures.value.0 c.in-Err.is h e
