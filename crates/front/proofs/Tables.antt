-- The invariants of the loops over the table of commands.
use Rattle.std.proofs.Common.{◌≡◌, ◌∙◌, ◌<◌, ◌≤◌, ◌+◌, ℕ, true, false, refl, ap, List, [], ◌∷◌, map, length, take, drop, get_or, add-one}
use Rattle.std.proofs.Common.{drop-cons, drop_of_length-le}
use Rattle.std.specs.Prelude.{fold, String, string_bytes}
use Rattle.std.specs.List.{list_any}
use Rattle.front.specs.Understood.{begins_with_hyphen, texts_of}
use Rattle.std.proofs.lemmas.List.{map-append, take_more}
use Rattle.std.proofs.lemmas.List.Sums.{fold-append}
use Rattle.clap.specs.Words.{Text}
use Rattle.front.specs.Line.{names_in}
use Rattle.terms.specs.Commands.{Column, column}
use Rattle.terms.specs.declared.form.PartForm.{PartForm}

-- a fold over what is made of the items, with one item more
pub fold-map_more : {A B C : Type 0} (f : C → B → C) (g : A → B) (z : C) (xs : List A) (i : ℕ) (d : A) → i < length xs
    → fold f z (map g (take (i + 1) xs)) ≡ f (fold f z (map g (take i xs))) (g (get_or xs i d))
fold-map_more f g z xs i d lt =
    ap (λ ys. fold f z (map g ys)) (take_more xs i d lt)
    ∙ (ap (fold f z) (map-append g (take i xs) (get_or xs i d ∷ [])) ∙ fold-append f z (map g (take i xs)) (g (get_or xs i d) ∷ []))

-- a fold over the names of parts, with one part more
pub fold-names_more : {C : Type 0} (f : C → Text → C) (z : C) (parts : List PartForm) (i : ℕ) (d : PartForm) → i < length parts
    → fold f z (names_in (map column (take (i + 1) parts))) ≡ f (fold f z (names_in (map column (take i parts)))) (get_or parts i d).name.now
fold-names_more f z parts i d lt =
    ap (λ (ps : List PartForm). fold f z (names_in (map column ps))) (take_more parts i d lt)
    ∙ (ap (λ (cs : List Column). fold f z (names_in cs)) (map-append column (take i parts) (get_or parts i d ∷ []))
    ∙ (ap (fold f z) (map-append (λ (c : Column). c.0) (map column (take i parts)) (column (get_or parts i d) ∷ []))
    ∙ fold-append f z (names_in (map column (take i parts))) ((get_or parts i d).name.now ∷ [])))

-- a word with a hyphen, and the words after one without
pub hyphen-here : {A : Type 0} (words : List (String A)) (i : ℕ) (d : String A) → i < length words → begins_with_hyphen (string_bytes (get_or words i d)) ≡ true
    → list_any begins_with_hyphen (texts_of (drop i words)) ≡ true
hyphen-here words i d lt hit = rw (drop-cons words i d lt, hit) refl

pub hyphen-later : {A : Type 0} (words : List (String A)) (i : ℕ) (d : String A) → i < length words
    → begins_with_hyphen (string_bytes (get_or words i d)) ≡ false
    → list_any begins_with_hyphen (texts_of (drop i words)) ≡ list_any begins_with_hyphen (texts_of (drop (i + 1) words))
hyphen-later words i d lt miss = rw (add-one, drop-cons words i d lt, miss) refl

pub hyphen-none : {A : Type 0} (words : List (String A)) (i : ℕ) → length words ≤ i → list_any begins_with_hyphen (texts_of (drop i words)) ≡ false
hyphen-none words i past = rw (drop_of_length-le words past) refl
