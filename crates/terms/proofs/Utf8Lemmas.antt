-- Request texts, and texts of replies that can be kept, are UTF-8.
use Rattle.std.proofs.Common.{◌≡◌, ℕ, zero, suc, ◌+◌, ◌+◌, ◌<◌, ◌≤◌, ◌/◌, ◌%◌, List, [], ◌∷◌, ◌++◌, Bool, true, false, map, refl, sym, subst, arith}
use Rattle.std.specs.Prelude.{nat_lt, if◌then◌else◌, codes, IsUtf8, Some, None}
use Rattle.std.specs.List.{list_all, join_with_byte}
use Rattle.std.specs.Fmt.{decimal}
use Rattle.std.specs.Str.{IsAscii}
use Rattle.std.proofs.lemmas.Bool.{ltb-true}
use Rattle.std.proofs.lemmas.Bool.Decides.{nat_tests}
use Rattle.std.proofs.lemmas.Str.{IsUtf8-from_ascii, IsUtf8-append, IsUtf8-nil}
use Rattle.std.proofs.lemmas.Fmt.{IsAscii-decimal}
use Rattle.calendar.specs.Days.{IsDayNumber, day_text, date_text}
use Rattle.calendar.proofs.DayLemmas.{day_text-written}
use Rattle.terms.specs.Forms.{has_no_space, is_alphanumeric, is_barcode, is_card_key}
use Rattle.terms.specs.Texts.{Part, Number, Amount, Day, Mask, CardKey, Barcode, Name, said, word_of, mask_text, command_words, request_text}
use Rattle.terms.specs.Texts.{routed_words, reply_words, reply_text}
use Rattle.terms.specs.Laws.{IsPart, AreParts, IsCommand, IsNumber, IsAmount, IsRouted, IsKept}
use Rattle.terms.specs.declared.command.Command.{Command}
use Rattle.terms.specs.declared.reply.Routed.{Routed}
use Rattle.terms.specs.declared.reply.Routed.TheVariants.{Shelf, HoldShelf, Transit}
use Rattle.terms.specs.declared.reply.Reply.{Reply}
use Rattle.terms.specs.declared.reply.Reply.TheVariants.{Done, Lent, CheckedIn, Held, Moved, Lost, Owed, Shown, Refused}
use Rattle.terms.proofs.TableLemmas.{is_low, told}
use Rattle.terms.proofs.WordLemmas.{both_true}

low-IsAscii : (bs : List ℕ) → is_low bs ≡ true → IsAscii bs
low-IsAscii [] h i = omega arith
low-IsAscii (b ∷ bs) h zero = let p = both_true (nat_lt b 128) (is_low bs) h in ltb-true b 128 p.0
low-IsAscii (b ∷ bs) h (suc i) = let p = both_true (nat_lt b 128) (is_low bs) h in low-IsAscii bs p.1 i

low-IsUtf8 : (bs : List ℕ) → is_low bs ≡ true → IsUtf8 bs
low-IsUtf8 bs h = IsUtf8-from_ascii bs (low-IsAscii bs h)

number-IsUtf8 : (n : ℕ) → IsNumber n → IsUtf8 (decimal n)
number-IsUtf8 n h = IsUtf8-from_ascii (decimal n) (IsAscii-decimal n (omega (arith, h)))

amount-IsUtf8 : (n : ℕ) → IsAmount n → IsUtf8 (decimal n)
amount-IsUtf8 n h = IsUtf8-from_ascii (decimal n) (IsAscii-decimal n (omega (arith, h)))

below : (b : ℕ) → b < 128 → nat_lt b 128 ≡ true
below b h = grind (arith, nat_tests)

date-low : (y m d : ℕ) → y ≤ 9999 → m ≤ 99 → d ≤ 99 → is_low (date_text y m d) ≡ true
date-low y m d a b c =
    rw (
      below (48 + y / 100 / 10) (omega arith),
      below (48 + y / 100 % 10) (omega arith),
      below (48 + y % 100 / 10) (omega arith),
      below (48 + y % 100 % 10) (omega arith),
      below (48 + m / 10) (omega arith),
      below (48 + m % 10) (omega arith),
      below (48 + d / 10) (omega arith),
      below (48 + d % 10) (omega arith),
    ) refl

pub day-IsUtf8 : (n : ℕ) → IsDayNumber n → IsUtf8 (day_text n)
day-IsUtf8 n h =
    let date = day_text-written n (omega (arith, h)) in
    subst IsUtf8 (sym date.6) (low-IsUtf8 (date_text date.0 date.1 date.2)
    (date-low date.0 date.1 date.2 date.3 (omega (arith, date.4)) (omega (arith, date.5))))

letter-low : (b : Bool) → nat_lt (if b then 99 else 111) 128 ≡ true
letter-low true = refl
letter-low false = refl

mask-IsUtf8 : (closed : List Bool) → IsUtf8 (mask_text closed)
mask-IsUtf8 closed = low-IsUtf8 (mask_text closed) (rw (letter-low _, letter-low _, letter-low _, letter-low _, letter-low _, letter-low _, letter-low _) refl)

low_letter : (b : ℕ) → is_alphanumeric b ≡ true → nat_lt b 128 ≡ true
low_letter b h = grind (arith, nat_tests)

low_letters : (t : List ℕ) → list_all is_alphanumeric t ≡ true → is_low t ≡ true
low_letters [] h = refl
low_letters (b ∷ t) h =
    let p = both_true (is_alphanumeric b) (list_all is_alphanumeric t) h in
    rw (low_letter b p.0) (low_letters t p.1)

pub card_key-IsUtf8 : (t : List ℕ) → is_card_key t ≡ true → IsUtf8 t
unfolding is_card_key
card_key-IsUtf8 t h =
    let p = both_true _ _ h in
    let q = both_true _ _ p.1 in
    low-IsUtf8 t (low_letters t q.1)

pub barcode-IsUtf8 : (t : List ℕ) → is_barcode t ≡ true → IsUtf8 t
unfolding is_barcode
barcode-IsUtf8 t h =
    let p = both_true _ _ h in
    let q = both_true _ _ p.1 in
    low-IsUtf8 t (low_letters t q.1)

-- ---- words, joined by spaces

-- Each of the words is UTF-8.
abbrev AreUtf8 : List (List ℕ) → Type 0
AreUtf8 [] = Unit {0}
AreUtf8 (w ∷ ws) = IsUtf8 w × AreUtf8 ws

spaced-IsUtf8 : (xs ys : List ℕ) → IsUtf8 xs → IsUtf8 ys → IsUtf8 (xs ++ (32 ∷ ys))
spaced-IsUtf8 xs ys a b = IsUtf8-append xs (32 ∷ ys) a (IsUtf8-append (32 ∷ []) ys (low-IsUtf8 (32 ∷ []) refl) b)

joined-IsUtf8 : (ws : List (List ℕ)) → AreUtf8 ws → IsUtf8 (join_with_byte 32 ws)
joined-IsUtf8 [] h = IsUtf8-nil
joined-IsUtf8 (w ∷ []) h = h.0
joined-IsUtf8 (w ∷ x ∷ ws) h = spaced-IsUtf8 w (join_with_byte 32 (x ∷ ws)) h.0 (joined-IsUtf8 (x ∷ ws) h.1)

part-IsUtf8 : (part : Part) → IsPart part → IsUtf8 (word_of part)
part-IsUtf8 (Number n) h = number-IsUtf8 n h
part-IsUtf8 (Amount n) h = amount-IsUtf8 n h
part-IsUtf8 (Day n) h = day-IsUtf8 n h
part-IsUtf8 (Mask closed) h = mask-IsUtf8 closed
part-IsUtf8 (CardKey t) h = card_key-IsUtf8 t h
part-IsUtf8 (Barcode t) h = barcode-IsUtf8 t h
part-IsUtf8 (Name t) h = h.1

parts-are : (parts : List Part) → AreParts parts → AreUtf8 (map word_of parts)
parts-are [] h = tt
parts-are (part ∷ parts) h = (part-IsUtf8 part h.0, parts-are parts h.1)

pub request_text-IsUtf8 : (c : Command) → IsCommand c → IsUtf8 (request_text c)
unfolding request_text command_words
request_text-IsUtf8 c h =
    let name = both_true (has_no_space (said c).0) (is_low (said c).0) (told c).named in
    joined-IsUtf8 ((said c).0 ∷ map word_of (said c).1) (low-IsUtf8 (said c).0 name.1, parts-are (said c).1 h)

routed-are : (r : Routed) → IsRouted r → AreUtf8 (routed_words r)
unfolding routed_words
routed-are (Shelf branch) h =
    (low-IsUtf8 (codes "shelf") refl, (number-IsUtf8 branch h, tt))
routed-are (HoldShelf hold branch until) h = (
  low-IsUtf8 (codes "ready") refl,
  (
    number-IsUtf8 hold h.0,
    (
      low-IsUtf8 (codes "at") refl,
      (number-IsUtf8 branch h.1, (low-IsUtf8 (codes "until") refl, (day-IsUtf8 until h.2, tt))),
    ),
  ),
)
routed-are (Transit goal (Some hold)) h =
    (low-IsUtf8 (codes "transit") refl, (number-IsUtf8 goal h.0, (low-IsUtf8 (codes "for") refl, (number-IsUtf8 hold h.1, tt))))
routed-are (Transit goal None) h =
    (low-IsUtf8 (codes "transit") refl, (number-IsUtf8 goal h, tt))

reply-are : (r : Reply) → IsKept r → AreUtf8 (reply_words r)
unfolding reply_words
reply-are Done h =
    (low-IsUtf8 (codes "ok") refl, tt)
reply-are (Lent loan due) h =
    (low-IsUtf8 (codes "loan") refl, (number-IsUtf8 loan h.0, (low-IsUtf8 (codes "due") refl, (day-IsUtf8 due h.1, tt))))
reply-are (CheckedIn fine routed) h =
    (low-IsUtf8 (codes "fine") refl, (amount-IsUtf8 fine h.0, routed-are routed h.1))
reply-are (Held hold) h =
    (low-IsUtf8 (codes "hold") refl, (number-IsUtf8 hold h, tt))
reply-are (Moved routed) h = routed-are routed h
reply-are (Lost fine price) h =
    (low-IsUtf8 (codes "fine") refl, (amount-IsUtf8 fine h.0, (low-IsUtf8 (codes "price") refl, (amount-IsUtf8 price h.1, tt))))
reply-are (Owed owed) h =
    (low-IsUtf8 (codes "owed") refl, (amount-IsUtf8 owed h, tt))
reply-are (Shown _) h = absurd h
reply-are (Refused _) h = absurd h

pub reply_text-IsUtf8 : (r : Reply) → IsKept r → IsUtf8 (reply_text r)
unfolding reply_text
reply_text-IsUtf8 r h = joined-IsUtf8 (reply_words r) (reply-are r h)
