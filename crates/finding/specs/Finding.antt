-- Which texts a search finds.
use Rattle.std.specs.Prelude.{ℕ, ◌+◌, ◌-◌, ◌==◌, nat_le, Bool, true, false, ◌&&◌, ◌||◌, if◌then◌else◌, List, [], ◌∷◌, map, filter, slice_index}
use Rattle.std.specs.List.{list_all, slice_split}
use Rattle.std.specs.Str.{chars}
use Rattle.finding.specs.declared.folding.TheConstants.{LETTERS}

-- A letter without case and marks: `A` to `Z` become `a` to `z`, and U+00C0 to U+017F the letters of the table.
unfoldable pub fold : ℕ → ℕ
fold c =
    if nat_le 65 c && nat_le c 90 then c + 32
    else (if nat_le 192 c && nat_le c 383 then slice_index LETTERS (c - 192) else c)

-- A text, letter by letter.
unfoldable pub folded : List ℕ → List ℕ
folded text = map fold (chars text)

-- The letters begin with a word.
unfoldable pub begins_with : List ℕ → List ℕ → Bool
begins_with [] letters = true
begins_with (c ∷ word) [] = false
begins_with (c ∷ word) (d ∷ letters) = (c == d) && begins_with word letters

-- A word occurs somewhere in the letters.
unfoldable pub occurs_in : List ℕ → List ℕ → Bool
occurs_in word [] = begins_with word []
occurs_in word (c ∷ letters) = begins_with word (c ∷ letters) || occurs_in word letters

-- A text's words: its parts between spaces that aren't empty.
abbrev pub is_filled : List ℕ → Bool
is_filled [] = false
is_filled (c ∷ part) = true

unfoldable pub words : List ℕ → List (List ℕ)
words text = filter is_filled (slice_split (λ c. c == 32) text)

-- A query finds a text if each of its words, folded, occurs in the folded text.
unfoldable pub finds : List ℕ → List ℕ → Bool
finds query text = list_all (λ word. occurs_in (folded word) (folded text)) (words query)
