-- Lines of clerks: where they end, how long they are, and that each has only one clerk.
use Rattle.std.proofs.Common.{◌≡◌, ◌≢◌, ◌∙◌, ◌<◌, ◌≤◌, ◌+◌, ℕ, zero, suc, true, false, not, refl, sym, ap, List, [], ◌∷◌, ◌++◌, length, get_or, take, drop}
use Rattle.std.proofs.Common.{Option, Some, None, All, IsAscii, IsUtf8, Bor, arith, tests, slice_index}
use Rattle.std.specs.Prelude.{◌==◌}
use Rattle.std.specs.List.{list_all}
use Rattle.std.proofs.lemmas.Bool.{and_parts, and_from, both_ways, not-true, not_from_false, eq-eqb, ne_eqb, leb-true}
use Rattle.std.proofs.lemmas.List.{length-append, take-append-drop, drop_more, get_or-take, length-take-le}
use Rattle.std.proofs.lemmas.List.Folds.{list_all-append}
use Rattle.std.proofs.lemmas.List.Elements.{All-head, All-tail}
use Rattle.std.proofs.lemmas.Str.{IsAscii-append, IsUtf8-from_ascii}
use Rattle.std.proofs.lemmas.Str.Ascii.{IsAscii-nil}
use Rattle.std.proofs.lemmas.Str.Pattern.{IsSplitOnceResult, split_after, split_parts}
use Rattle.terms.specs.Forms.{is_alphanumeric, is_clerk_name, is_card_key}
use Rattle.clerks.specs.declared.clerk.Role.{Role}
use Rattle.clerks.specs.declared.clerk.Role.TheVariants.{Desk, Lending}
use Rattle.clerks.specs.declared.clerk.Clerk.{Clerk}
use Rattle.front.specs.Keys.{role_word, name_text, line_of, IsNamed, IsClerk}
use Rattle.front.specs.KeyReading.{has_no, HasParts, IsCut, IsNoLine}

-- ---- texts without a byte

not_itself : (byte b : ℕ) → not (b == byte) ≡ true → byte ≡ b → ⊥
not_itself byte b h same = both_ways (b == byte) (not-true (b == byte) h) (eq-eqb b byte (sym same))

is_other : (byte b : ℕ) → b ≢ byte → not (b == byte) ≡ true
is_other byte b other = not_from_false (b == byte) (ne_eqb b byte other)

joined_no : (byte : ℕ) (xs ys : List ℕ) → has_no byte xs ≡ true → has_no byte ys ≡ true → has_no byte (xs ++ ys) ≡ true
joined_no byte xs ys hx hy = list_all-append (λ b. not (b == byte)) xs ys ∙ and_from _ _ hx hy

no_at : (byte : ℕ) (xs : List ℕ) → has_no byte xs ≡ true → (i : ℕ) → i < length xs → get_or xs i 0 ≢ byte
no_at byte [] h i less = absurd (omega arith)
no_at byte (b ∷ xs) h zero less = λ e. not_itself byte b (and_parts (not (b == byte)) (has_no byte xs) h).0 (sym e)
no_at byte (b ∷ xs) h (suc i) less = no_at byte xs (and_parts (not (b == byte)) (has_no byte xs) h).1 i (omega (arith, less))

no_from : (byte : ℕ) (xs : List ℕ) → ((i : ℕ) → i < length xs → get_or xs i 0 ≢ byte) → has_no byte xs ≡ true
no_from byte [] h = refl
no_from byte (b ∷ xs) h = and_from _ _ (is_other byte b (h 0 (omega arith))) (no_from byte xs (λ i less. h (suc i) (omega (arith, less))))

-- Two texts without a byte are the same if that byte and something follow both.
pub cut_once : (byte : ℕ) (a b x y : List ℕ) → has_no byte a ≡ true → has_no byte b ≡ true → a ++ (byte ∷ x) ≡ b ++ (byte ∷ y) → (a ≡ b) × (x ≡ y)
cut_once byte [] [] x y ha hb e = (refl, cc)
cut_once byte [] (d ∷ b) x y ha hb e =
    let same : byte ≡ d = cc in
    absurd (not_itself byte d (and_parts (not (d == byte)) (has_no byte b) hb).0 same)
cut_once byte (c ∷ a) [] x y ha hb e =
    let same : byte ≡ c = cc in
    absurd (not_itself byte c (and_parts (not (c == byte)) (has_no byte a) ha).0 same)
cut_once byte (c ∷ a) (d ∷ b) x y ha hb e =
    let rest : a ++ (byte ∷ x) ≡ b ++ (byte ∷ y) = cc in
    let head : c ≡ d = cc in
    let more = cut_once byte a b x y (and_parts (not (c == byte)) (has_no byte a) ha).1 (and_parts (not (d == byte)) (has_no byte b) hb).1 rest in
    let tail : a ≡ b = more.0 in
    (cc, more.1)

-- ---- letters and digits

letters_no : (byte : ℕ) (xs : List ℕ) → is_alphanumeric byte ≡ false → list_all is_alphanumeric xs ≡ true → has_no byte xs ≡ true
letters_no byte [] other letters = refl
letters_no byte (b ∷ xs) other letters =
    let parts = and_parts (is_alphanumeric b) (list_all is_alphanumeric xs) letters in
    and_from _ _ (is_other byte b (λ e. both_ways (is_alphanumeric byte) other (ap is_alphanumeric (sym e) ∙ parts.0))) (letters_no byte xs other parts.1)

letter_low : (b : ℕ) → is_alphanumeric b ≡ true → b < 128
letter_low b h = grind (arith, tests)

ascii_cons : (b : ℕ) (xs : List ℕ) → b < 128 → IsAscii xs → (i : ℕ) → slice_index (b ∷ xs) i < 128
ascii_cons b xs low h zero = low
ascii_cons b xs low h (suc i) = h i

letters_ascii : (xs : List ℕ) → list_all is_alphanumeric xs ≡ true → IsAscii xs
letters_ascii [] h = IsAscii-nil
letters_ascii (b ∷ xs) h =
    let parts = and_parts (is_alphanumeric b) (list_all is_alphanumeric xs) h in
    ascii_cons b xs (letter_low b parts.0) (letters_ascii xs parts.1)

name_letters : (name : Option (List ℕ)) → IsNamed name → list_all is_alphanumeric (name_text name) ≡ true
unfolding is_clerk_name
name_letters None h = absurd h
name_letters (Some name) h = (and_parts _ _ (and_parts _ _ h).1).1

name_short : (name : Option (List ℕ)) → IsNamed name → length (name_text name) ≤ 16
unfolding is_clerk_name
name_short None h = absurd h
name_short (Some name) h = leb-true _ _ (and_parts _ _ (and_parts _ _ h).1).0

named_text : (name : Option (List ℕ)) → IsNamed name → is_clerk_name (name_text name) ≡ true
named_text None h = absurd h
named_text (Some name) h = h

key_letters : (key : List ℕ) → is_card_key key ≡ true → list_all is_alphanumeric key ≡ true
unfolding is_card_key
key_letters key h = (and_parts _ _ (and_parts _ _ h).1).1

key_short : (key : List ℕ) → is_card_key key ≡ true → length key ≤ 32
unfolding is_card_key
key_short key h = leb-true _ _ (and_parts _ _ (and_parts _ _ h).1).0

word_letters : (role : Role) → list_all is_alphanumeric (role_word role) ≡ true
word_letters Desk = refl
word_letters Lending = refl

word_short : (role : Role) → length (role_word role) ≤ 7
word_short Desk = omega arith
word_short Lending = omega arith

name_no_space : (name : Option (List ℕ)) → IsNamed name → has_no 32 (name_text name) ≡ true
name_no_space name h = letters_no 32 (name_text name) refl (name_letters name h)

word_no_space : (role : Role) → has_no 32 (role_word role) ≡ true
word_no_space role = letters_no 32 (role_word role) refl (word_letters role)

-- ---- lines

-- A line has no newline.
pub line_no_newline : (clerk : Clerk) → IsClerk clerk → has_no 10 (line_of clerk) ≡ true
line_no_newline clerk h =
    joined_no 10 (name_text clerk.name) (32 ∷ (role_word clerk.role ++ (32 ∷ clerk.key))) (letters_no 10 (name_text clerk.name) refl (name_letters clerk.name h.name))
    (joined_no 10 (role_word clerk.role) (32 ∷ clerk.key) (letters_no 10 (role_word clerk.role) refl (word_letters clerk.role))
    (letters_no 10 clerk.key refl (key_letters clerk.key h.key)))

pub line_utf8 : (clerk : Clerk) → IsClerk clerk → IsUtf8 (line_of clerk)
line_utf8 clerk h =
    let key = ascii_cons 32 clerk.key (omega arith) (letters_ascii clerk.key (key_letters clerk.key h.key)) in
    let word = IsAscii-append (role_word clerk.role) (32 ∷ clerk.key) (letters_ascii (role_word clerk.role) (word_letters clerk.role)) key in
    let rest = ascii_cons 32 (role_word clerk.role ++ (32 ∷ clerk.key)) (omega arith) word in
    IsUtf8-from_ascii (line_of clerk) (IsAscii-append (name_text clerk.name) (32 ∷ (role_word clerk.role ++ (32 ∷ clerk.key)))
    (letters_ascii (name_text clerk.name) (name_letters clerk.name h.name)) rest)

pub line_short : (clerk : Clerk) → IsClerk clerk → length (line_of clerk) ≤ 57
line_short clerk h =
    omega (
      arith,
      length-append (name_text clerk.name) (32 ∷ (role_word clerk.role ++ (32 ∷ clerk.key))),
      length-append (role_word clerk.role) (32 ∷ clerk.key),
      name_short clerk.name h.name,
      word_short clerk.role,
      key_short clerk.key h.key,
    )

same_name : (a b : Option (List ℕ)) → IsNamed a → IsNamed b → name_text a ≡ name_text b → a ≡ b
same_name None b ha hb e = absurd ha
same_name (Some a) None ha hb e = absurd hb
same_name (Some a) (Some b) ha hb e = ap Some e

same_role : (a b : Role) → role_word a ≡ role_word b → a ≡ b
same_role Desk Desk e = refl
same_role Desk Lending e = let bad : ◌≡◌ {A = ℕ} 100 108 = cc in absurd (omega (arith, bad))
same_role Lending Desk e = let bad : ◌≡◌ {A = ℕ} 108 100 = cc in absurd (omega (arith, bad))
same_role Lending Lending e = refl

abbrev make : Option (List ℕ) → Role → List ℕ → Clerk
make name role key = record { name = name; role = role; key = key }

-- A line has only one clerk.
pub line_once : (a b : Clerk) → IsClerk a → IsClerk b → line_of a ≡ line_of b → a ≡ b
line_once a b ha hb e =
    let first = cut_once 32 (name_text a.name) (name_text b.name) (role_word a.role ++ (32 ∷ a.key)) (role_word b.role ++ (32 ∷ b.key))
    (name_no_space a.name ha.name) (name_no_space b.name hb.name) e in
    let second = cut_once 32 (role_word a.role) (role_word b.role) a.key b.key (word_no_space a.role) (word_no_space b.role) first.1 in
    let name : a.name ≡ b.name = same_name a.name b.name ha.name hb.name first.0 in
    let role : a.role ≡ b.role = same_role a.role b.role second.0 in
    let key : a.key ≡ b.key = second.1 in
    let made : make a.name a.role a.key ≡ make b.name b.role b.key = rw (name, role, key) refl in
    made

-- ---- the parts of a line

pub unsplit : (line : List ℕ) → IsSplitOnceResult 32 line None → IsNoLine line
unsplit line none clerk h e =
    split_after 32 line (name_text clerk.name) (role_word clerk.role ++ (32 ∷ clerk.key)) None none (omega arith) e
    (no_at 32 (name_text clerk.name) (name_no_space clerk.name h.name))

after_name : (line : List ℕ) (name rest : Bor (List ℕ)) → IsSplitOnceResult 32 line (Some (name, rest)) → (clerk : Clerk) → IsClerk clerk → line ≡ line_of clerk
    → rest.now ≡ role_word clerk.role ++ (32 ∷ clerk.key)
after_name line name rest cut clerk h e =
    (split_after 32 line (name_text clerk.name) (role_word clerk.role ++ (32 ∷ clerk.key)) (Some (name, rest)) cut (omega arith) e
    (no_at 32 (name_text clerk.name) (name_no_space clerk.name h.name))).1

pub unsplit_rest : (line : List ℕ) (name rest : Bor (List ℕ)) → IsSplitOnceResult 32 line (Some (name, rest)) → IsSplitOnceResult 32 rest.now None → IsNoLine line
unsplit_rest line name rest cut none clerk h e =
    split_after 32 rest.now (role_word clerk.role) clerk.key None none (omega arith) (after_name line name rest cut clerk h e)
    (no_at 32 (role_word clerk.role) (word_no_space clerk.role))

pub other_word : (line : List ℕ) (name rest word key : Bor (List ℕ)) → IsSplitOnceResult 32 line (Some (name, rest))
    → IsSplitOnceResult 32 rest.now (Some (word, key)) → ((role : Role) → word.now ≢ role_word role) → IsNoLine line
other_word line name rest word key cut second other clerk h e =
    other clerk.role (split_after 32 rest.now (role_word clerk.role) clerk.key (Some (word, key)) second (omega arith) (after_name line name rest cut clerk h e)
    (no_at 32 (role_word clerk.role) (word_no_space clerk.role))).0

pub parts_made : (line : List ℕ) (name rest word key : Bor (List ℕ)) (role : Role) → IsSplitOnceResult 32 line (Some (name, rest))
    → IsSplitOnceResult 32 rest.now (Some (word, key)) → word.now ≡ role_word role → HasParts line name.now role key.now
parts_made line name rest word key role cut second is =
    let first = split_parts 32 line (Some (name, rest)) cut (omega arith) in
    let more = split_parts 32 rest.now (Some (word, key)) second (omega arith) in
    record {
      text = first.0 ∙ ap (λ (t : List ℕ). name.now ++ (32 ∷ t)) (more.0 ∙ ap (λ (w : List ℕ). w ++ (32 ∷ key.now)) is);
      alone = no_from 32 name.now first.1;
    }

same_parts : (line name : List ℕ) (role : Role) (key : List ℕ) → HasParts line name role key → (clerk : Clerk) → IsClerk clerk → line ≡ line_of clerk
    → (name ≡ name_text clerk.name) × (key ≡ clerk.key)
same_parts line name role key parts clerk h e =
    let first = cut_once 32 name (name_text clerk.name) (role_word role ++ (32 ∷ key)) (role_word clerk.role ++ (32 ∷ clerk.key)) parts.alone
    (name_no_space clerk.name h.name) (sym parts.text ∙ e) in
    let second = cut_once 32 (role_word role) (role_word clerk.role) key clerk.key (word_no_space role) (word_no_space clerk.role) first.1 in
    (first.0, second.1)

pub other_name : (line name : List ℕ) (role : Role) (key : List ℕ) → HasParts line name role key → is_clerk_name name ≡ false → IsNoLine line
other_name line name role key parts other clerk h e =
    both_ways (is_clerk_name name) other (ap is_clerk_name (same_parts line name role key parts clerk h e).0 ∙ named_text clerk.name h.name)

pub other_key : (line name : List ℕ) (role : Role) (key : List ℕ) → HasParts line name role key → is_card_key key ≡ false → IsNoLine line
other_key line name role key parts other clerk h e =
    both_ways (is_card_key key) other (ap is_card_key (same_parts line name role key parts clerk h e).1 ∙ h.key)

-- ---- the first newline

pub cut_made : (bytes : List ℕ) (i : ℕ) → i < length bytes → get_or bytes i 0 ≡ 10 → ((k : ℕ) → k < i → get_or bytes k 0 ≢ 10)
    → IsCut bytes (Some (take i bytes, drop (i + 1) bytes))
cut_made bytes i within here before = (
  sym (take-append-drop i bytes) ∙ ap (λ (t : List ℕ). take i bytes ++ t) (drop_more bytes i 0 within ∙ ap (λ (b : ℕ). b ∷ drop (i + 1) bytes) here),
  no_from 10 (take i bytes) (λ k less.
      let below : k < i = omega (arith, less, length-take-le i bytes (omega (arith, within))) in
      λ e. before k below (sym (get_or-take i bytes k 0 below) ∙ e)),
)

pub uncut : (bytes : List ℕ) → All (λ b. b ≢ 10) bytes → IsCut bytes None
uncut [] h = refl
uncut (b ∷ bytes) h = and_from _ _ (is_other 10 b (All-head (λ b. b ≢ 10) b bytes h)) (uncut bytes (All-tail (λ b. b ≢ 10) b bytes h))
