-- Folded texts, letter by letter.
use Rattle.std.proofs.Common.{◌≡◌, ℕ, List, [], ◌∷◌, ◌++◌, map, ap}
use Rattle.std.proofs.lemmas.Str.{chars_past_char, chars-nil}
use Rattle.std.specs.Str.{IsUtf8}
use Rattle.std.specs.Prelude.{encode_utf8}
use Rattle.finding.specs.Finding.{fold, folded}

pub folded-nil : folded [] ≡ []
unfolding folded
folded-nil = ap (map fold) chars-nil

pub folded-letter : (text rest : List ℕ) (c : ℕ) → IsUtf8 text → text ≡ encode_utf8 c ++ rest → folded text ≡ fold c ∷ folded rest
unfolding folded
folded-letter text rest c utf8 parts = ap (map fold) (chars_past_char text rest c utf8 parts)
