-- The words of a command have its shape.
use Rattle.std.proofs.Common.{◌≡◌, ◌∙◌, ◌<◌, ◌+◌, false, refl, sym, ap, List, [], ◌∷◌, length, map, get_or, Some, None, arith}
use Rattle.std.proofs.lemmas.List.{length-map}
use Rattle.std.specs.Prelude.{String, string_bytes}
use Rattle.std.specs.List.{list_any}
use Rattle.clap.specs.Words.{Text}
use Rattle.terms.specs.Texts.{said, word_of, command_words}
use Rattle.terms.specs.Commands.{Column, CommandEntry, CommandsAreListed, commands, kind_of, parts_in}
use Rattle.terms.specs.declared.command.Command.{Command}
use Rattle.front.specs.Line.{HasShape}
use Rattle.front.specs.Understood.{IsUnderstoodAs, begins_with_hyphen, texts_of}

module _ (listed : CommandsAreListed) where
  -- words that are understood have the shape of a command
  pub shape_of : (words : List Text) (said_is : Command) → IsUnderstoodAs words said_is → (form : CommandEntry) × HasShape words form
  unfolding command_words
  shape_of words command h =
      let l = listed command in
      let count : length (map word_of (said command).1) ≡ length l.parts =
      length-map (said command).1 word_of ∙ (sym (length-map (said command).1 kind_of)
      ∙ (sym (ap length l.kinds) ∙ length-map l.parts (λ (part : Column). part.1))) in
      (((said command).0, l.parts), record { others = map word_of (said command).1; joined = h.written; known = l.found; count = count; plain = h.plain })

  pub no_words : {A : Type 0} (words : List (String A)) (command : Command) → length words < 1 → IsUnderstoodAs (texts_of words) command → ⊥
  no_words [] command none h = let joined = (shape_of [] command h).1.joined in absurd (cc)
  no_words (word ∷ words) command none h = absurd (omega arith)

  pub no_parts : {A : Type 0} (words : List (String A)) (d : String A) (command : Command) → 0 < length words
      → parts_in commands (string_bytes (get_or words 0 d)) ≡ None
      → IsUnderstoodAs (texts_of words) command → ⊥
  no_parts [] d command some none h = absurd (omega arith)
  no_parts (word ∷ words) d command some none h =
      let form = (shape_of (texts_of (word ∷ words)) command h).0 in
      let shape = (shape_of (texts_of (word ∷ words)) command h).1 in
      let joined : string_bytes word ∷ texts_of words ≡ form.0 ∷ shape.others = shape.joined in
      let same : string_bytes word ≡ form.0 = cc in
      let known = sym (ap (parts_in commands) same) ∙ none in
      let other = shape.known in
      absurd (cc (sym other ∙ known))

  pub other_count : {A : Type 0} (words : List (String A)) (d : String A) (parts : List Column) (command : Command) → 0 < length words
      → parts_in commands (string_bytes (get_or words 0 d)) ≡ Some parts → (length parts + 1 ≡ length words → ⊥) → IsUnderstoodAs (texts_of words) command → ⊥
  other_count [] d parts command some known other h = absurd (omega arith)
  other_count (word ∷ words) d parts command some known other h =
      let form = (shape_of (texts_of (word ∷ words)) command h).0 in
      let shape = (shape_of (texts_of (word ∷ words)) command h).1 in
      let joined : string_bytes word ∷ texts_of words ≡ form.0 ∷ shape.others = shape.joined in
      let same : string_bytes word ≡ form.0 = cc in
      let rest : texts_of words ≡ shape.others = cc in
      let found : Some parts ≡ Some form.1 = sym known ∙ (ap (parts_in commands) same ∙ shape.known) in
      let parts_are : parts ≡ form.1 = cc in
      let count : length (texts_of words) ≡ length parts = ap length rest ∙ (shape.count ∙ sym (ap length parts_are)) in
      other (omega (arith, count, length-map words string_bytes))

pub shape-made : {A : Type 0} (words : List (String A)) (d : String A) (parts : List Column) → 0 < length words
    → parts_in commands (string_bytes (get_or words 0 d)) ≡ Some parts → length parts + 1 ≡ length words → list_any begins_with_hyphen (texts_of words) ≡ false
    → HasShape (texts_of words) (string_bytes (get_or words 0 d), parts)
shape-made [] d parts some known count plain = absurd (omega arith)
shape-made (word ∷ words) d parts some known count plain =
    record {
      others = texts_of words;
      joined = refl;
      known = known;
      count = omega (arith, count, length-map words string_bytes);
      plain = plain;
    }
