-- A reply text is read back word by word.
use Rattle.std.proofs.Common.{◌≡◌, ℕ, List, ap, sym, ◌∙◌, refl, arith, Some, None}
use Rattle.std.specs.Prelude.{if◌then◌else◌, codes}
use Rattle.std.specs.Str.{bytes_eq}
use Rattle.terms.specs.Texts.{routed_words, reply_words, reply_text}
use Rattle.terms.specs.Laws.{IsKept, ReplyTextsDiffer}
use Rattle.terms.specs.declared.reply.Routed.{Routed}
use Rattle.terms.specs.declared.reply.Routed.TheVariants.{Shelf, HoldShelf, Transit}
use Rattle.terms.specs.declared.reply.Reply.{Reply}
use Rattle.terms.specs.declared.reply.Reply.TheVariants.{Done, Lent, CheckedIn, Held, Moved, Lost, Owed, Shown, Refused}
use Rattle.terms.specs.Forms.{has_no_space}
use Rattle.terms.proofs.WordLemmas.{first_word, other_words, first_word-append, other_words-append, no_space-append, no_space-decimal}
use Rattle.terms.proofs.WordLemmas.{number, number-decimal, day_below, day_below-day_text}

-- where the copy goes, by the words that tell it
routed_back : List ℕ → Routed
routed_back t =
    let name = first_word t in
    let a = other_words t in
    let b = other_words a in
    let c = other_words b in
    if bytes_eq name (codes "shelf") then Shelf (number a)
    else (if bytes_eq name (codes "ready") then HoldShelf (number (first_word a)) (number (first_word c)) (day_below 84006 (other_words (other_words c)))
    else (if has_no_space a then Transit (number a) None
    else Transit (number (first_word a)) (Some (number c))))

-- the reply that a reply text was made from
reply_back : List ℕ → Reply
reply_back t =
    let name = first_word t in
    let a = other_words t in
    let b = other_words a in
    let c = other_words b in
    if bytes_eq t (codes "ok") then Done
    else (if bytes_eq name (codes "loan") then Lent (number (first_word a)) (day_below 84006 c)
    else (if bytes_eq name (codes "hold") then Held (number a)
    else (if bytes_eq name (codes "owed") then Owed (number a)
    else (if bytes_eq name (codes "fine") then
    (if bytes_eq (first_word b) (codes "price") then Lost (number (first_word a)) (number c) else CheckedIn (number (first_word a)) (routed_back b))
    else Moved (routed_back t)))))

reply_back-reply_text : (r : Reply) → IsKept r → reply_back (reply_text r) ≡ r
unfolding reply_back routed_back reply_text reply_words routed_words first_word other_words
reply_back-reply_text Done h = refl
reply_back-reply_text (Lent loan due) h =
    let n0 = no_space-decimal loan (omega (arith, h)) in
    let d0 = number-decimal loan (omega (arith, h)) in
    let d1 = day_below-day_text 84006 due (omega (arith, h)) (omega arith) in
    simp (first_word-append, other_words-append, n0, d0, d1) refl
reply_back-reply_text (CheckedIn fine (Shelf branch)) h =
    let n0 = no_space-decimal fine (omega (arith, h)) in
    let d0 = number-decimal fine (omega (arith, h)) in
    let d1 = number-decimal branch (omega (arith, h)) in
    simp (first_word-append, other_words-append, n0, d0, d1) refl
reply_back-reply_text (CheckedIn fine (HoldShelf hold branch until)) h =
    let n0 = no_space-decimal fine (omega (arith, h)) in
    let d0 = number-decimal fine (omega (arith, h)) in
    let n1 = no_space-decimal hold (omega (arith, h)) in
    let d1 = number-decimal hold (omega (arith, h)) in
    let n2 = no_space-decimal branch (omega (arith, h)) in
    let d2 = number-decimal branch (omega (arith, h)) in
    let d3 = day_below-day_text 84006 until (omega (arith, h)) (omega arith) in
    simp (first_word-append, other_words-append, n0, d0, n1, d1, n2, d2, d3) refl
reply_back-reply_text (CheckedIn fine (Transit goal (Some hold))) h =
    let n0 = no_space-decimal fine (omega (arith, h)) in
    let d0 = number-decimal fine (omega (arith, h)) in
    let n1 = no_space-decimal goal (omega (arith, h)) in
    let d1 = number-decimal goal (omega (arith, h)) in
    let d2 = number-decimal hold (omega (arith, h)) in
    simp (first_word-append, other_words-append, no_space-append, n0, d0, n1, d1, d2) refl
reply_back-reply_text (CheckedIn fine (Transit goal None)) h =
    let n0 = no_space-decimal fine (omega (arith, h)) in
    let d0 = number-decimal fine (omega (arith, h)) in
    let n1 = no_space-decimal goal (omega (arith, h)) in
    let d1 = number-decimal goal (omega (arith, h)) in
    simp (first_word-append, other_words-append, n0, d0, n1, d1) refl
reply_back-reply_text (Held hold) h =
    let d0 = number-decimal hold (omega (arith, h)) in
    simp d0 refl
reply_back-reply_text (Moved (Shelf branch)) h =
    let d0 = number-decimal branch (omega (arith, h)) in
    simp d0 refl
reply_back-reply_text (Moved (HoldShelf hold branch until)) h =
    let n0 = no_space-decimal hold (omega (arith, h)) in
    let d0 = number-decimal hold (omega (arith, h)) in
    let n1 = no_space-decimal branch (omega (arith, h)) in
    let d1 = number-decimal branch (omega (arith, h)) in
    let d2 = day_below-day_text 84006 until (omega (arith, h)) (omega arith) in
    simp (first_word-append, other_words-append, n0, d0, n1, d1, d2) refl
reply_back-reply_text (Moved (Transit goal (Some hold))) h =
    let n0 = no_space-decimal goal (omega (arith, h)) in
    let d0 = number-decimal goal (omega (arith, h)) in
    let d1 = number-decimal hold (omega (arith, h)) in
    simp (first_word-append, other_words-append, no_space-append, n0, d0, d1) refl
reply_back-reply_text (Moved (Transit goal None)) h =
    let n0 = no_space-decimal goal (omega (arith, h)) in
    let d0 = number-decimal goal (omega (arith, h)) in
    simp (n0, d0) refl
reply_back-reply_text (Lost fine price) h =
    let n0 = no_space-decimal fine (omega (arith, h)) in
    let d0 = number-decimal fine (omega (arith, h)) in
    let d1 = number-decimal price (omega (arith, h)) in
    simp (first_word-append, other_words-append, n0, d0, d1) refl
reply_back-reply_text (Owed owed) h =
    let d0 = number-decimal owed (omega (arith, h)) in
    simp d0 refl
reply_back-reply_text (Shown _) h = absurd h
reply_back-reply_text (Refused _) h = absurd h

pub reply_texts_differ : ReplyTextsDiffer
reply_texts_differ a b ha hb e = sym (reply_back-reply_text a ha) ∙ (ap reply_back e ∙ reply_back-reply_text b hb)
