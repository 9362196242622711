-- What the words after a name must be, by the kinds in the table.
use Rattle.std.proofs.Common.{◌≡◌, ◌∙◌, ◌<◌, ◌≤◌, ◌+◌, ◌^◌, ℕ, Bool, true, refl, sym, ap, subst, List, [], ◌∷◌, length, map, get_or, Option}
use Rattle.std.proofs.Common.{Some, None, zero, suc, drop, drop-cons, drop_of_length-le, arith}
use Rattle.std.specs.Prelude.{slice_get}
use Rattle.std.specs.Borrow.{Bor}
use Rattle.std.specs.Fmt.{decimal}
use Rattle.calendar.specs.Days.{IsDayNumber, day_text}
use Rattle.terms.specs.Forms.{is_card_key, is_barcode, is_name}
use Rattle.terms.specs.Commands.{AreSayable, Column, IsNoCommand, IsNoDay, IsNoNumber, IsReadAs, Text, commands, kind_of, parts_in, texts}
use Rattle.terms.specs.Laws.{AreParts}
use Rattle.terms.specs.Texts.{Part, Number, Amount, Day, Mask, CardKey, Barcode, Name, said, word_of, command_words, mask_text}
use Rattle.terms.specs.declared.command.Command.{Command}
use Rattle.terms.specs.declared.form.PartKind.{PartKind}
use Rattle.terms.specs.declared.form.PartKind.TheVariants as kind
use Rattle.terms.proofs.TableLemmas.{told}

-- the word writes a part of the kind
abbrev HasKind : PartKind → Text → Type 0
HasKind kind.Number word = (n : ℕ) × (n < 2 ^ 32) × (word ≡ decimal n)
HasKind kind.Amount word = (n : ℕ) × (n < 2 ^ 32) × (word ≡ decimal n)
HasKind kind.Day word = (n : ℕ) × IsDayNumber n × (word ≡ day_text n)
HasKind kind.Mask word = (closed : List Bool) × (length closed ≡ 7) × (word ≡ mask_text closed)
HasKind kind.CardKey word = is_card_key word ≡ true
HasKind kind.Barcode word = is_barcode word ≡ true
HasKind kind.Name word = is_name word ≡ true

abbrev HaveKinds : List PartKind → List Text → Type 0
HaveKinds [] [] = Unit {0}
HaveKinds [] (word ∷ words) = ⊥
HaveKinds (k ∷ kinds) [] = ⊥
HaveKinds (k ∷ kinds) (word ∷ words) = HasKind k word × HaveKinds kinds words

have_kinds : (parts : List Part) → AreParts parts → AreSayable parts → HaveKinds (map kind_of parts) (map word_of parts)
have_kinds [] h s = tt
have_kinds (Number n ∷ parts) h s = ((n, h.0, refl), have_kinds parts h.1 s.1)
have_kinds (Amount n ∷ parts) h s = ((n, s.0, refl), have_kinds parts h.1 s.1)
have_kinds (Day n ∷ parts) h s = ((n, h.0, refl), have_kinds parts h.1 s.1)
have_kinds (Mask closed ∷ parts) h s = ((closed, h.0, refl), have_kinds parts h.1 s.1)
have_kinds (CardKey t ∷ parts) h s = (h.0, have_kinds parts h.1 s.1)
have_kinds (Barcode t ∷ parts) h s = (h.0, have_kinds parts h.1 s.1)
have_kinds (Name t ∷ parts) h s = (h.0.0, have_kinds parts h.1 s.1)

-- the kinds of the parts that the table has under a name
abbrev kinds_of : Option (List Column) → List PartKind
kinds_of None = []
kinds_of (Some parts) = map (λ (part : Column). part.1) parts

abbrev pub kinds_under : Text → List PartKind
kinds_under name = kinds_of (parts_in commands name)

-- the words of a command have the kinds that stand under its name
have_kinds_under : (name : Text) (others : List Text) (command : Command) → IsReadAs name others command → HaveKinds (kinds_under name) others
unfolding command_words
have_kinds_under name others command h =
    let t = told command in
    let words : (said command).0 ∷ map word_of (said command).1 ≡ name ∷ others = h.1 in
    let name_is : (said command).0 ≡ name = cc in
    let others_are : map word_of (said command).1 ≡ others = cc in
    let kinds : map kind_of (said command).1 ≡ kinds_under name =
    sym t.kinds ∙ (sym (ap kinds_of t.found) ∙ ap kinds_under name_is) in
    subst (λ (ks : List PartKind). HaveKinds ks others) kinds
    (subst (λ (ws : List Text). HaveKinds (map kind_of (said command).1) ws) others_are (have_kinds (said command).1 h.0.0 h.0.1))

kind_at : (kinds : List PartKind) (words : List (Bor Text)) (k : ℕ) (d : Bor Text) (wanted : PartKind) → HaveKinds kinds (texts words)
    → slice_get kinds k ≡ Some wanted
    → HasKind wanted (get_or words k d).now
kind_at [] words k d wanted have e = absurd (cc)
kind_at (x ∷ kinds) [] k d wanted have e = absurd have
kind_at (x ∷ kinds) (word ∷ words) zero d wanted have e = let same : x ≡ wanted = cc in subst (λ (q : PartKind). HasKind q word.now) same have.0
kind_at (x ∷ kinds) (word ∷ words) (suc k) d wanted have e = kind_at kinds words k d wanted have.1 e

-- a word that isn't the amount that the name asks for at its place
pub no_amount : (name : Text) (words : List (Bor Text)) (k : ℕ) (d : Bor Text) → slice_get (kinds_under name) k ≡ Some kind.Amount
    → IsNoNumber (get_or words k d).now → IsNoCommand name (texts words)
no_amount name words k d e isnt =
    record {
      none = λ command h. let p = kind_at (kinds_under name) words k d kind.Amount
          (have_kinds_under name (texts words) command h) e in isnt.none p.0 p.1 p.2;
    }

-- a word that isn't the day that the name asks for at its place
pub no_day : (name : Text) (words : List (Bor Text)) (k : ℕ) (d : Bor Text) → slice_get (kinds_under name) k ≡ Some kind.Day
    → IsNoDay (get_or words k d).now → IsNoCommand name (texts words)
no_day name words k d e isnt =
    record {
      none = λ command h. let p = kind_at (kinds_under name) words k d kind.Day
          (have_kinds_under name (texts words) command h) e in isnt.none p.0 p.1 p.2;
    }

-- n texts from the place i on
abbrev pub listing : ℕ → ℕ → List (Bor Text) → Bor Text → List Text
listing i zero words d = []
listing i (suc n) words d = (get_or words i d).now ∷ listing (suc i) n words d

pub listing-is : (n i : ℕ) (words : List (Bor Text)) (d : Bor Text) → i + n ≡ length words → texts (drop i words) ≡ listing i n words d
listing-is zero i words d h = let past : length words ≤ i = omega arith in ap texts (drop_of_length-le words past)
listing-is (suc n) i words d h =
    let lt : i < length words = omega arith in
    ap texts (drop-cons words i d lt) ∙ ap (λ rest. (get_or words i d).now ∷ rest) (listing-is n (suc i) words d (omega arith))
