-- Day texts that are quick to compute: counted from a nearby day, not from 1970.
use Rattle.std.proofs.Common.{◌≡◌, ℕ, zero, suc, ◌+◌, ◌-◌, ◌≤◌, Bool, true, false, List, [], ◌∷◌, refl, ap, ◌∙◌, arith}
use Rattle.std.specs.Prelude.{codes, decimal, map, nat_le}
use Rattle.std.specs.List.{join_with_byte}
use Rattle.std.proofs.lemmas.Bool.{leb-true}
use Rattle.calendar.specs.Days.{Civil, civil_of, day_after, day_text, date_text}
use Rattle.terms.specs.declared.reply.Routed.TheVariants.{HoldShelf}
use Rattle.terms.specs.declared.reply.Reply.{Reply}
use Rattle.terms.specs.declared.reply.Reply.TheVariants.{Lent, CheckedIn, Moved}
use Rattle.terms.specs.Texts.{reply_text, reply_words, routed_words}

-- The date so many days later.
abbrev pub later : ℕ → Civil → Civil
later zero c = c
later (suc k) c = day_after (later k c)

civil_of-suc : (n : ℕ) → civil_of (suc n) ≡ day_after (civil_of n)
unfolding civil_of
civil_of-suc n = refl

civil_of-later : (k n : ℕ) (c : Civil) → civil_of n ≡ c → civil_of (k + n) ≡ later k c
civil_of-later zero n c e = let same : 0 + n ≡ n = omega arith in rw same e
civil_of-later (suc k) n c e = let same : suc k + n ≡ suc (k + n) = omega arith in rw same (civil_of-suc (k + n) ∙ ap day_after (civil_of-later k n c e))

-- The text of a date.
abbrev pub civil_text : Civil → List ℕ
civil_text c = date_text c.year c.month c.day

day_text-civil : (n : ℕ) → day_text n ≡ civil_text (civil_of n)
unfolding day_text
day_text-civil n = refl

-- The first day of March 2026.
abbrev march : Civil
march = record { year = 2026; month = 3; day = 1 }

civil_of-march : civil_of 20513 ≡ march
unfolding civil_of
civil_of-march = refl

-- The last day of 2190.
abbrev last_december : Civil
last_december = record { year = 2190; month = 12; day = 31 }

civil_of-last_december : civil_of 80718 ≡ last_december
unfolding civil_of
civil_of-last_december = refl

-- The text of a day, counted on from the nearer of the two days before it.
abbrev pub near_text : ℕ → List ℕ
near_text n = elim (nat_le 80718 n) [
  | true ↦ civil_text (later (n - 80718) last_december)
  | false ↦ elim (nat_le 20513 n) [ true ↦ civil_text (later (n - 20513) march) | false ↦ day_text n ]
]

from : (base n : ℕ) (c : Civil) → civil_of base ≡ c → base ≤ n → day_text n ≡ civil_text (later (n - base) c)
from base n c e le =
    let same : (n - base) + base ≡ n = omega (arith, le) in
    let on : civil_of ((n - base) + base) ≡ later (n - base) c = civil_of-later (n - base) base c e in
    day_text-civil n ∙ ap civil_text (rw same at on)

pub day_text-near : (n : ℕ) → day_text n ≡ near_text n
day_text-near n = late (nat_le 80718 n) refl (nat_le 20513 n) refl
  where
    late : (x : Bool) → nat_le 80718 n ≡ x → (y : Bool) → nat_le 20513 n ≡ y
        → day_text n ≡ elim x as (λ _. List ℕ) [
          | true ↦ civil_text (later (n - 80718) last_december)
          | false ↦ elim y as (λ _. List ℕ) [ true ↦ civil_text (later (n - 20513) march) | false ↦ day_text n ]
        ]
    late true e y f = from 80718 n last_december civil_of-last_december (leb-true _ _ e)
    late false e true f = from 20513 n march civil_of-march (leb-true _ _ f)
    late false e false f = refl

-- The reply text, its day counted on from near by.
abbrev pub near_reply : Reply → List ℕ
near_reply (Lent loan due) = join_with_byte 32 (codes "loan" ∷ decimal loan ∷ codes "due" ∷ near_text due ∷ [])
near_reply (CheckedIn fine (HoldShelf hold branch until)) =
    join_with_byte 32 (codes "fine" ∷ decimal fine ∷ codes "ready" ∷ decimal hold ∷ codes "at" ∷ decimal branch ∷ codes "until" ∷ near_text until ∷ [])
near_reply (Moved (HoldShelf hold branch until)) =
    join_with_byte 32 (codes "ready" ∷ decimal hold ∷ codes "at" ∷ decimal branch ∷ codes "until" ∷ near_text until ∷ [])
near_reply reply = reply_text reply

reply_text-near : (reply : Reply) → reply_text reply ≡ near_reply reply
unfolding reply_text reply_words routed_words
reply_text-near (Lent loan due) = ap (λ text. join_with_byte 32 (codes "loan" ∷ decimal loan ∷ codes "due" ∷ text ∷ [])) (day_text-near due)
reply_text-near (CheckedIn fine (HoldShelf hold branch until)) =
    ap (λ text. join_with_byte 32 (codes "fine" ∷ decimal fine ∷ codes "ready" ∷ decimal hold ∷ codes "at" ∷ decimal branch ∷ codes "until"
    ∷ text ∷ [])) (day_text-near until)
reply_text-near (Moved (HoldShelf hold branch until)) =
    ap (λ text. join_with_byte 32 (codes "ready" ∷ decimal hold ∷ codes "at" ∷ decimal branch ∷ codes "until" ∷ text ∷ [])) (day_text-near until)
reply_text-near _ = refl

pub reply_texts-near : (replies : List Reply) → map reply_text replies ≡ map near_reply replies
reply_texts-near [] = refl
reply_texts-near (x ∷ xs) = ap (λ text. text ∷ map reply_text xs) (reply_text-near x) ∙ ap (λ texts. near_reply x ∷ texts) (reply_texts-near xs)
