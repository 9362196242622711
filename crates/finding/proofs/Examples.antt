-- Worked examples of texts that are found.
use Prim.Native.String.{String}
use lib.Utf8.{encode}
use Rattle.std.specs.Prelude.{◌≡◌, ℕ, List, [], ◌∷◌, map, codes, true, false, refl}
use Rattle.std.specs.Str.{chars, encode_utf8_all}
use Rattle.finding.specs.Finding.{fold, folded, begins_with, occurs_in, words, finds}

-- The bytes of a text.
abbrev utf8 : String → List ℕ
utf8 text = encode_utf8_all (codes text)

-- A query finds a text in any case, by parts of its words in any order.
finds_ann_bell : map (λ query. finds (utf8 query) (utf8 "Ann Bell")) ("bell an" ∷ "ann b" ∷ "ÁNN" ∷ "ann-bell" ∷ "ann  bell" ∷ [])
    ≡ true ∷ true ∷ true ∷ false ∷ true ∷ []
unfolding fold folded begins_with occurs_in words finds chars encode
finds_ann_bell = refl

-- Marked letters are found by plain ones, and the other way round.
finds_marked : map (λ query. finds (utf8 query) (utf8 "Čeněk Dvořák")) ("dvorak cen" ∷ "ĎVÓŘ" ∷ "dvorzak" ∷ []) ≡ true ∷ true ∷ false ∷ []
unfolding fold folded begins_with occurs_in words finds chars encode
finds_marked = refl

-- The first and the last letters of the table, the two that are no letters, letters beyond it, and the neighbours of both ranges.
folds : map (λ text. folded (utf8 text)) ("Àſ" ∷ "×÷" ∷ "Zß" ∷ "Ωж" ∷ "@AZ[" ∷ "0¿ƀ" ∷ []) ≡ map codes ("as" ∷ "×÷" ∷ "zs" ∷ "Ωж" ∷ "@az[" ∷ "0¿ƀ" ∷ [])
unfolding fold folded chars encode
folds = refl
