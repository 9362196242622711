-- The forms of texts given from outside.
use Rattle.std.specs.Prelude.{◌≡◌, ℕ, ◌-◌, List, ◌∷◌, ◌++◌, length, slice_index, Bool, true, ◌&&◌, ◌||◌, nat_le, not, ◌==◌, IsUtf8}
use Rattle.std.specs.List.{list_all, before_first, after_first}
use Rattle.terms.specs.declared.limits.TheConstants.{LONGEST_NAME, SHORTEST_CARD_KEY, LONGEST_CARD_KEY, LONGEST_KEY, LONGEST_CLERK_NAME, LONGEST_BARCODE}

-- a byte allowed in a name: 32 or above, and not 127
abbrev pub is_plain_byte : ℕ → Bool
is_plain_byte b = nat_le 32 b && not (b == 127)

-- a name or the text of a title: 1 to 120 bytes, no control characters, no space at either end
unfoldable pub is_name : List ℕ → Bool
is_name t =
    nat_le 1 (length t) && (nat_le (length t) LONGEST_NAME && (list_all is_plain_byte t
    && (not (slice_index t 0 == 32) && not (slice_index t (length t - 1) == 32))))

-- a name in UTF-8
abbrev pub IsName : List ℕ → Type 0
IsName t = (is_name t ≡ true) × IsUtf8 t

-- an ASCII letter or digit
abbrev pub is_alphanumeric : ℕ → Bool
is_alphanumeric b = (nat_le 48 b && nat_le b 57) || ((nat_le 65 b && nat_le b 90) || (nat_le 97 b && nat_le b 122))

-- a card key or a desk key: 8 to 32 letters and digits
unfoldable pub is_card_key : List ℕ → Bool
is_card_key t = nat_le SHORTEST_CARD_KEY (length t) && (nat_le (length t) LONGEST_CARD_KEY && list_all is_alphanumeric t)

-- a byte allowed in a request key: a letter, a digit or a hyphen
abbrev pub is_key_byte : ℕ → Bool
is_key_byte b = is_alphanumeric b || (b == 45)

-- a request key given from outside: 1 to 40 letters, digits and hyphens
unfoldable pub is_outside_key : List ℕ → Bool
is_outside_key t = nat_le 1 (length t) && (nat_le (length t) LONGEST_KEY && list_all is_key_byte t)

-- no byte is a space
abbrev pub has_no_space : List ℕ → Bool
has_no_space = list_all (λ b. not (b == 32))

-- a clerk's name: 1 to 16 letters and digits
unfoldable pub is_clerk_name : List ℕ → Bool
is_clerk_name t = nat_le 1 (length t) && (nat_le (length t) LONGEST_CLERK_NAME && list_all is_alphanumeric t)

-- a barcode: 1 to 24 letters and digits
unfoldable pub is_barcode : List ℕ → Bool
is_barcode t = nat_le 1 (length t) && (nat_le (length t) LONGEST_BARCODE && list_all is_alphanumeric t)

-- the key of a clerk's request: the clerk's name, a slash and the key that was given
abbrev pub clerk_key : List ℕ → List ℕ → List ℕ
clerk_key name key = name ++ (47 ∷ key)

-- a text of that form: a clerk's name before its first slash, and a key from outside after it
unfoldable pub is_clerk_key : List ℕ → Bool
is_clerk_key t = is_clerk_name (before_first (λ b. b == 47) t) && is_outside_key (after_first (λ b. b == 47) t)

-- any key: one from outside, that of a clerk's request, or a text with a space, such as the key of a copies
-- file's row
abbrev pub is_key : List ℕ → Bool
is_key t = is_outside_key t || (is_clerk_key t || not (has_no_space t))

-- a key in UTF-8
abbrev pub IsKey : List ℕ → Type 0
IsKey t = (is_key t ≡ true) × IsUtf8 t
