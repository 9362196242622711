-- The fields of a head, as names with values.
use Rattle.std.specs.Prelude.{ℕ, ◌&&◌, Bool, if◌then◌else◌, List, [], ◌∷◌, length, map, codes, bytes_eq, nat_le, Result, Ok, Err}
use Rattle.std.specs.List.{list_all}
use Rattle.std.specs.Char.{to_ascii_lowercase, is_ascii_digit}
use Rattle.std.specs.Str.Parse.{digits_value}
use Rattle.web.specs.declared.limits.TheConstants.{BODY_BYTES, LENGTH_DIGITS}
use Rattle.web.specs.declared.fault.WebStatus.{WebStatus}
use Rattle.web.specs.declared.fault.WebStatus.TheVariants.{BadRequest, PayloadTooLarge}

-- A name with its value, without the white space around it.
abbrev pub NamedValue : Type 0
NamedValue = List ℕ × List ℕ

-- Field names are equal if they are so ignoring case.
unfoldable pub same_name : List ℕ → List ℕ → Bool
same_name a b = bytes_eq (map to_ascii_lowercase a) (map to_ascii_lowercase b)

-- The values of the fields with this name, in order.
abbrev pub values_of : List ℕ → List NamedValue → List (List ℕ)
values_of name [] = []
values_of name (field ∷ fields) = if same_name field.0 name then field.1 ∷ values_of name fields else values_of name fields

-- 1 to 10 plain digits.
unfoldable pub is_length : List ℕ → Bool
is_length value = nat_le 1 (length value) && (nat_le (length value) LENGTH_DIGITS && list_all is_ascii_digit value)

-- The length that the values of Content-Length give, or the status that refuses them.
abbrev pub length_in : List (List ℕ) → Result ℕ WebStatus
length_in [] = Ok 0
length_in (value ∷ []) =
    if is_length value then (if nat_le (digits_value 10 value) BODY_BYTES then Ok (digits_value 10 value) else Err PayloadTooLarge) else Err BadRequest
length_in (first ∷ second ∷ more) = Err BadRequest

-- The length, unless there is a field Transfer-Encoding, which is refused.
abbrev pub length_unless : List (List ℕ) → Result ℕ WebStatus → Result ℕ WebStatus
length_unless [] r = r
length_unless (coding ∷ more) r = Err BadRequest

-- The length of the body, or the status that refuses the fields.
abbrev pub body_length : List NamedValue → Result ℕ WebStatus
body_length fields = length_unless (values_of (codes "Transfer-Encoding") fields) (length_in (values_of (codes "Content-Length") fields))
