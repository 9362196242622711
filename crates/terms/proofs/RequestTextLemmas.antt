-- A request text has the words of only one command.
use Rattle.std.proofs.Common.{◌≡◌, ℕ, suc, List, [], ◌∷◌, true, length, map, ap, ap₂, sym, ◌∙◌, refl, arith, Some}
use Rattle.std.specs.List.{join_with_byte}
use Rattle.std.proofs.lemmas.List.{length-map}
use Rattle.std.proofs.lemmas.Bool.{false≢true}
use Rattle.terms.specs.Forms.{has_no_space}
use Rattle.terms.specs.Commands.{commands, kind_of, parts_in}
use Rattle.terms.specs.Laws.{IsPart, AreParts, IsCommand, RequestTextsDiffer}
use Rattle.terms.specs.Texts.{Part, Number, Amount, Day, Mask, CardKey, Barcode, Name, said, word_of, command_words, request_text}
use Rattle.terms.specs.declared.command.Command.{Command}
use Rattle.terms.specs.declared.form.PartKind.{PartKind}
use Rattle.terms.specs.declared.form.PartKind.TheVariants as kind
use Rattle.terms.proofs.TableLemmas.{are_apart, command_from, is_low, is_spaceless, told}
use Rattle.terms.proofs.WordLemmas.{both_true, closed_by, closed_by-mask_text, day_below, day_below-day_text, first_word, first_word-alone, first_word-append}
use Rattle.terms.proofs.WordLemmas.{no_space-barcode, no_space-card_key, no_space-decimal, number, number-decimal, other_words, other_words-append}

-- no word but the last has a space
AreApart : List (List ℕ) → Type 0
AreApart [] = Unit {0}
AreApart (w ∷ []) = Unit {0}
AreApart (w ∷ x ∷ ws) = (has_no_space w ≡ true) × AreApart (x ∷ ws)

-- words that are joined by spaces are told apart again
joined-once : (ws vs : List (List ℕ)) → length ws ≡ length vs → AreApart ws → AreApart vs → join_with_byte 32 ws ≡ join_with_byte 32 vs → ws ≡ vs
unfolding AreApart
joined-once [] [] long p q e = refl
joined-once [] (v ∷ vs) long p q e = absurd (omega (arith, long))
joined-once (w ∷ ws) [] long p q e = absurd (omega (arith, long))
joined-once (w ∷ []) (v ∷ []) long p q e = ap (λ (t : List ℕ). t ∷ []) e
joined-once (w ∷ []) (v ∷ y ∷ vs) long p q e = absurd (omega (arith, long))
joined-once (w ∷ x ∷ ws) (v ∷ []) long p q e = absurd (omega (arith, long))
joined-once (w ∷ x ∷ ws) (v ∷ y ∷ vs) long p q e =
    let a = join_with_byte 32 (x ∷ ws) in
    let b = join_with_byte 32 (y ∷ vs) in
    let here : w ≡ v = sym (first_word-append w a p.0) ∙ (ap first_word e ∙ first_word-append v b q.0) in
    let later : a ≡ b = sym (other_words-append w a p.0) ∙ (ap other_words e ∙ other_words-append v b q.0) in
    let count : length (x ∷ ws) ≡ length (y ∷ vs) = omega (arith, long) in
    ap₂ (λ (t : List ℕ) (ts : List (List ℕ)). t ∷ ts) here (joined-once (x ∷ ws) (y ∷ vs) count p.1 q.1 later)

-- the word of a part without spaces
spaceless : (part : Part) → IsPart part → is_spaceless part ≡ true → has_no_space (word_of part) ≡ true
spaceless (Number n) h e = no_space-decimal n (omega (arith, h))
spaceless (Amount n) h e = no_space-decimal n (omega (arith, h))
spaceless (CardKey t) h e = no_space-card_key t h
spaceless (Barcode t) h e = no_space-barcode t h
spaceless (Day n) h e = absurd (false≢true e)
spaceless (Mask closed) h e = absurd (false≢true e)
spaceless (Name t) h e = absurd (false≢true e)

words-apart : (w : List ℕ) (parts : List Part) → has_no_space w ≡ true → AreParts parts → are_apart parts ≡ true → AreApart (w ∷ map word_of parts)
unfolding AreApart
words-apart w [] plain h e = tt
words-apart w (part ∷ []) plain h e = (plain, tt)
words-apart w (part ∷ other ∷ parts) plain h e =
    let both = both_true (is_spaceless part) (are_apart (other ∷ parts)) e in
    (plain, words-apart (word_of part) (other ∷ parts) (spaceless part h.0 both.0) h.1 both.1)

-- the name is the first word
first_word-joined : (w : List ℕ) (parts : List Part) → has_no_space w ≡ true → are_apart parts ≡ true
    → first_word (join_with_byte 32 (w ∷ map word_of parts)) ≡ w
first_word-joined w [] plain e = first_word-alone w plain
first_word-joined w (part ∷ parts) plain e = first_word-append w (join_with_byte 32 (word_of part ∷ map word_of parts)) plain

-- a part is known by its kind and its word
part_from : PartKind → List ℕ → Part
part_from kind.Number t = Number (number t)
part_from kind.Amount t = Amount (number t)
part_from kind.Day t = Day (day_below 84006 t)
part_from kind.Mask t = Mask (closed_by t)
part_from kind.CardKey t = CardKey t
part_from kind.Barcode t = Barcode t
part_from kind.Name t = Name t

part_from-word_of : (part : Part) → IsPart part → part_from (kind_of part) (word_of part) ≡ part
unfolding part_from
part_from-word_of (Number n) h = ap Number (number-decimal n (omega (arith, h)))
part_from-word_of (Amount n) h = ap Amount (number-decimal n (omega (arith, h)))
part_from-word_of (Day n) h = ap Day (day_below-day_text 84006 n (omega (arith, h)) (omega arith))
part_from-word_of (Mask closed) h = ap Mask (closed_by-mask_text closed h)
part_from-word_of (CardKey t) h = refl
part_from-word_of (Barcode t) h = refl
part_from-word_of (Name t) h = refl

parts_from : List PartKind → List (List ℕ) → List Part
parts_from [] words = []
parts_from (k ∷ kinds) [] = []
parts_from (k ∷ kinds) (w ∷ words) = part_from k w ∷ parts_from kinds words

parts_from-words : (parts : List Part) → AreParts parts → parts_from (map kind_of parts) (map word_of parts) ≡ parts
unfolding parts_from
parts_from-words [] h = refl
parts_from-words (part ∷ parts) h = ap₂ (λ (p : Part) (ps : List Part). p ∷ ps) (part_from-word_of part h.0) (parts_from-words parts h.1)

first_word-request_text : (c : Command) → first_word (request_text c) ≡ (said c).0
unfolding request_text command_words
first_word-request_text c =
    let t = told c in
    first_word-joined (said c).0 (said c).1 (both_true (has_no_space (said c).0) (is_low (said c).0) t.named).0 t.apart

command_words-apart : (c : Command) → IsCommand c → AreApart (command_words c)
unfolding command_words
command_words-apart c h =
    let t = told c in
    words-apart (said c).0 (said c).1 (both_true (has_no_space (said c).0) (is_low (said c).0) t.named).0 h t.apart

-- commands with one name have parts of the same kinds
kinds-same : (a b : Command) → (said a).0 ≡ (said b).0 → map kind_of (said a).1 ≡ map kind_of (said b).1
kinds-same a b e =
    let s = told a in
    let t = told b in
    let one : Some s.parts ≡ Some t.parts = sym s.found ∙ (ap (parts_in commands) e ∙ t.found) in
    let same : s.parts ≡ t.parts = cc in
    sym s.kinds ∙ (ap (map (λ (part : List ℕ × PartKind). part.1)) same ∙ t.kinds)

words-length : (c : Command) → length (command_words c) ≡ suc (length (map kind_of (said c).1))
unfolding command_words
words-length c = ap suc (length-map (said c).1 word_of ∙ sym (length-map (said c).1 kind_of))

tail-same : (w : List ℕ) (ws vs : List (List ℕ)) (v : List ℕ) → w ∷ ws ≡ v ∷ vs → ws ≡ vs
tail-same w ws vs v e = cc

words-same : (a b : Command) → command_words a ≡ command_words b → map word_of (said a).1 ≡ map word_of (said b).1
unfolding command_words
words-same a b e = tail-same (said a).0 (map word_of (said a).1) (map word_of (said b).1) (said b).0 e

pub request_texts_differ : RequestTextsDiffer
unfolding request_text
request_texts_differ a b ha hb e =
    let names : (said a).0 ≡ (said b).0 = sym (first_word-request_text a) ∙ (ap first_word e ∙ first_word-request_text b) in
    let kinds = kinds-same a b names in
    let long : length (command_words a) ≡ length (command_words b) =
    words-length a ∙ (ap (λ (ks : List PartKind). suc (length ks)) kinds ∙ sym (words-length b)) in
    let words = words-same a b (joined-once (command_words a) (command_words b) long (command_words-apart a ha) (command_words-apart b hb) e) in
    let parts : (said a).1 ≡ (said b).1 = sym (parts_from-words (said a).1 ha) ∙ (ap₂ parts_from kinds words ∙ parts_from-words (said b).1 hb) in
    sym (told a).back ∙ (ap₂ command_from names parts ∙ (told b).back)
