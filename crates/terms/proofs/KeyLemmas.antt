-- Each request text has a space, or is a key from outside, so it can be the key of a copies file's row. And
-- a clerk's name, a slash and a key from outside are the key of a clerk's request, and nothing else is.
use Rattle.std.proofs.Common.{◌≡◌, ℕ, ◌+◌, List, [], ◌∷◌, ◌++◌, Bool, true, false, not, map, length, cond, drop, ap, sym, refl, ◌∙◌, arith, tests}
use Rattle.std.specs.Prelude.{◌==◌, ◌&&◌, ◌||◌}
use Rattle.std.specs.List.{join_with_byte, list_all, position_or_len, before_first, after_first}
use Rattle.std.proofs.lemmas.Bool.{and_parts, and_from, and_right}
use Rattle.std.proofs.lemmas.List.{take_at, drop_at, drop_all, length-append}
use Rattle.terms.specs.Forms.{is_alphanumeric, is_key_byte, is_outside_key, is_clerk_name, is_clerk_key, clerk_key, is_key, has_no_space}
use Rattle.terms.specs.Texts.{Part, said, word_of, command_words, request_text}
use Rattle.terms.specs.declared.command.Command.{Command}
use Rattle.terms.proofs.TableLemmas.{has_parts, told}

and_false : (b : Bool) → (b && false) ≡ false
and_false true = refl
and_false false = refl

or_true : (b : Bool) → (b || true) ≡ true
or_true true = refl
or_true false = refl

spaced : (w rest : List ℕ) → has_no_space (w ++ (32 ∷ rest)) ≡ false
spaced [] rest = refl
spaced (b ∷ w) rest = ap (λ x. not (b == 32) && x) (spaced w rest) ∙ and_false (not (b == 32))

joined-is_key : (w : List ℕ) (parts : List Part) → (has_parts parts || is_outside_key w) ≡ true → is_key (join_with_byte 32 (w ∷ map word_of parts)) ≡ true
joined-is_key w [] h = ap (λ x. x || (is_clerk_key w || not (has_no_space w))) h
joined-is_key w (part ∷ parts) h =
    let others = join_with_byte 32 (word_of part ∷ map word_of parts) in
    let text = w ++ (32 ∷ others) in
    ap (λ x. is_outside_key text || (is_clerk_key text || not x)) (spaced w others)
    ∙ (ap (λ x. is_outside_key text || x) (or_true (is_clerk_key text)) ∙ or_true (is_outside_key text))

pub request_text-is_key : (c : Command) → is_key (request_text c) ≡ true
unfolding request_text command_words
request_text-is_key c = joined-is_key (said c).0 (said c).1 (told c).keyed

-- ---- the key of a clerk's request

not-slash : (b : ℕ) → is_alphanumeric b ≡ true → (b == 47) ≡ false
not-slash b h = grind (arith, tests)

-- the first slash stands behind the letters and digits
place : (n k : List ℕ) → list_all is_alphanumeric n ≡ true → position_or_len (λ b. b == 47) (n ++ (47 ∷ k)) ≡ length n
place [] k h = refl
place (b ∷ n) k h =
    let parts = and_parts (is_alphanumeric b) (list_all is_alphanumeric n) h in
    ap (λ x. cond (not x) (1 + position_or_len (λ b. b == 47) (n ++ (47 ∷ k))) 0) (not-slash b parts.0) ∙ (ap (λ i. 1 + i) (place n k parts.1) ∙ omega arith)

before : (n k : List ℕ) → list_all is_alphanumeric n ≡ true → before_first (λ b. b == 47) (clerk_key n k) ≡ n
before n k h = take_at n (47 ∷ k) _ (sym (place n k h))

after : (n k : List ℕ) → list_all is_alphanumeric n ≡ true → after_first (λ b. b == 47) (clerk_key n k) ≡ k
after n k h = ap (λ i. drop (i + 1) (clerk_key n k)) (place n k h) ∙ (ap (drop (length n + 1)) (split-behind n k) ∙ drop_at (n ++ (47 ∷ [])) k (length n + 1) (length-append n (47 ∷ [])))
  where
    split-behind : (n k : List ℕ) → n ++ (47 ∷ k) ≡ (n ++ (47 ∷ [])) ++ k
    split-behind [] k = refl
    split-behind (b ∷ n) k = ap (λ t. b ∷ t) (split-behind n k)

has-letters : (n : List ℕ) → is_clerk_name n ≡ true → list_all is_alphanumeric n ≡ true
unfolding is_clerk_name
has-letters n h = (and_parts _ _ ((and_parts _ _ h).1)).1

pub clerk_key-is_clerk_key : (n k : List ℕ) → is_clerk_name n ≡ true → is_outside_key k ≡ true → is_clerk_key (clerk_key n k) ≡ true
unfolding is_clerk_key
clerk_key-is_clerk_key n k named given = let letters = has-letters n named in
    and_from _ _ (ap is_clerk_name (before n k letters) ∙ named) (ap is_outside_key (after n k letters) ∙ given)

pub clerk_key-is_key : (n k : List ℕ) → is_clerk_name n ≡ true → is_outside_key k ≡ true → is_key (clerk_key n k) ≡ true
clerk_key-is_key n k named given =
    ap (λ x. is_outside_key (clerk_key n k) || (x || not (has_no_space (clerk_key n k)))) (clerk_key-is_clerk_key n k named given)
    ∙ or_true (is_outside_key (clerk_key n k))

-- a text without a slash has no key after one
pub slash-none : (t : List ℕ) → position_or_len (λ b. b == 47) t ≡ length t → is_clerk_key t ≡ false
unfolding is_clerk_key is_outside_key
slash-none t none = and_right _ _ (ap is_outside_key (ap (λ i. drop (i + 1) t) none ∙ drop_all (length t + 1) t (omega arith)))

-- Equal keys of clerks' requests have the same name and the same given key.
pub clerk_keys-same : (n m j k : List ℕ) → is_clerk_name n ≡ true → is_clerk_name m ≡ true → clerk_key n j ≡ clerk_key m k → (n ≡ m) × (j ≡ k)
clerk_keys-same n m j k one other e = (
  sym (before n j (has-letters n one)) ∙ (ap (before_first (λ b. b == 47)) e ∙ before m k (has-letters m other)),
  sym (after n j (has-letters n one)) ∙ (ap (after_first (λ b. b == 47)) e ∙ after m k (has-letters m other)),
)

slashed : (n k : List ℕ) → list_all is_key_byte (n ++ (47 ∷ k)) ≡ false
slashed [] k = refl
slashed (b ∷ n) k = ap (λ x. is_key_byte b && x) (slashed n k) ∙ and_false (is_key_byte b)

-- The key of a clerk's request is no key from outside, which has no slash.
pub clerk_key-not-outside : (n k : List ℕ) → is_outside_key (clerk_key n k) ≡ false
unfolding is_outside_key
clerk_key-not-outside n k = and_right _ _ (and_right _ _ (slashed n k))
