-- Lines, one after another.
use Rattle.std.proofs.Common.{◌≡◌, ℕ, suc, ◌+◌, ◌<◌, List, [], ◌∷◌, ◌++◌, append-nil, Option, sym, ◌∙◌, ap, subst, length, take, drop, get_or, take-append-drop}
use Rattle.std.specs.Prelude.{Result, Ok, Err, OnErr, flat_map}
use Rattle.std.proofs.Math.Seq.{drop-cons}
use Rattle.std.proofs.lemmas.List.{take_more}
use Rattle.std.proofs.KnownBytes.{Appends-trans}
use Rattle.std.proofs.lemmas.Grind.{flat_map-append}
use Rattle.std.specs.Io.KnownBytes.{Appends}
use Rattle.terms.specs.Writing.{AppendsFront}
use Rattle.terms.proofs.Fronts.{front-after, front-before}

module _ {A : Type 0} (line_of : A → List ℕ) where
  -- the lines before one, that line, and the others are all of them
  lines-at : (items : List A) (i : ℕ) (d : A) → i < length items
      → flat_map line_of items ≡ flat_map line_of (take i items) ++ (line_of (get_or items i d) ++ flat_map line_of (drop (suc i) items))
  lines-at items i d h =
      ap (flat_map line_of) (sym (take-append-drop i items)) ∙ flat_map-append line_of (take i items) (drop i items)
      ∙ ap (λ (rest : List A). flat_map line_of (take i items) ++ flat_map line_of rest) (drop-cons items i d h)

  -- one line more
  pub more-lines : (a b c : Option (List ℕ)) (items : List A) (i : ℕ) (d : A) → i < length items → Appends a b (flat_map line_of (take i items))
      → Appends b c (line_of (get_or items i d)) → Appends a c (flat_map line_of (take (i + 1) items))
  more-lines a b c items i d h p q = subst (Appends a c) (sym whole) (Appends-trans a b c (flat_map line_of (take i items)) (line_of (get_or items i d)) p q)
    where
      whole : flat_map line_of (take (i + 1) items) ≡ flat_map line_of (take i items) ++ line_of (get_or items i d)
      whole =
          ap (flat_map line_of) (take_more items i d h) ∙ flat_map-append line_of (take i items) (get_or items i d ∷ [])
          ∙ ap (λ (line : List ℕ). flat_map line_of (take i items) ++ line) (append-nil (line_of (get_or items i d)))

  -- a write that failed at one of the lines
  pub failed-line : {T E : Type 0} (r : Result T E) (a b c : Option (List ℕ)) (items : List A) (i : ℕ) (d : A) → i < length items
      → Appends a b (flat_map line_of (take i items)) → AppendsFront b c (line_of (get_or items i d)) → OnErr r (AppendsFront a c (flat_map line_of items))
  failed-line (Ok x) a b c items i d h p q = tt
  failed-line (Err e) a b c items i d h p q =
      subst (AppendsFront a c) (sym (lines-at items i d h))
      (front-after a b c (flat_map line_of (take i items)) _ p (front-before b c (line_of (get_or items i d)) (flat_map line_of (drop (suc i) items)) q))
