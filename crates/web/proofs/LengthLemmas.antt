-- The values of Content-Length.
use Rattle.std.proofs.Common.{◌≡◌, ℕ, ◌<◌, ◌≤◌, List, [], ◌∷◌, length, Bool, true, arith, rules, Result, Ok}
use Rattle.std.specs.Prelude.{nat_le}
use Rattle.std.specs.List.{list_all}
use Rattle.std.specs.Char.{is_ascii_digit}
use Rattle.std.specs.Str.{IsUtf8, IsAscii}
use Rattle.std.specs.Str.Parse.{digits_value, ParsesUnsigned}
use Rattle.std.proofs.lemmas.Bool.Decides.{nat_tests}
use Rattle.std.proofs.lemmas.Str.{IsUtf8-from_ascii}
use Rattle.std.proofs.lemmas.Str.Ascii.{IsAscii-nil, IsAscii-cons}
use Rattle.std.proofs.lemmas.Str.Parse.{IsNumeralModel, numerals_by_value, parse_gives, digits_value_short}
use Rattle.terms.proofs.WordLemmas.{both_true}
use Rattle.web.specs.declared.limits.TheConstants.{LENGTH_DIGITS}
use Rattle.web.specs.Fields.{is_length}

-- the bytes of a list that all pass a test of ASCII bytes
pub ascii-from : (p : ℕ → Bool) → ((b : ℕ) → p b ≡ true → b < 128) → (bs : List ℕ) → list_all p bs ≡ true → IsAscii bs
ascii-from p low [] h = IsAscii-nil
ascii-from p low (b ∷ bs) h = let q = both_true (p b) (list_all p bs) h in IsAscii-cons b bs (low b q.0) (ascii-from p low bs q.1)

low_digit : (b : ℕ) → is_ascii_digit b ≡ true → b < 128
low_digit b h = grind (arith, nat_tests)

own : IsNumeralModel (λ ds. list_all is_ascii_digit ds ≡ true) (digits_value 10)
own = numerals_by_value _ (search rules)

-- the parts of the form
record LengthForm (value : List ℕ) : Type 0 where
  some : 1 ≤ length value
  few : length value ≤ LENGTH_DIGITS
  digits : list_all is_ascii_digit value ≡ true

at_most : (m n : ℕ) → nat_le m n ≡ true → m ≤ n
at_most m n h = grind (arith, nat_tests)

form-of : (value : List ℕ) → is_length value ≡ true → LengthForm value
unfolding is_length
form-of value h =
    let p = both_true _ _ h in
    let q = both_true _ _ p.1 in
    record { some = at_most _ _ p.0; few = at_most _ _ q.0; digits = q.1 }

pub length-utf8 : (value : List ℕ) → is_length value ≡ true → IsUtf8 value
length-utf8 value h = IsUtf8-from_ascii value (ascii-from is_ascii_digit low_digit value (form-of value h).digits)

pub length-parses : {E : Type 0} (value : List ℕ) (r : Result ℕ E) → ParsesUnsigned 64 10 value r → is_length value ≡ true → r ≡ Ok (digits_value 10 value)
length-parses value r h form =
    let f = form-of value form in
    parse_gives own 64 value r h f.digits (omega (arith, f.some)) (omega (arith, digits_value_short own value 10 f.digits f.few))
