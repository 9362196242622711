-- What a reader takes off the front of a text, and the texts of reply forms.
use Rattle.std.proofs.Common.{◌≡◌, ◌≢◌, ℕ, ◌<◌, ◌^◌, List, ◌∷◌, ◌++◌, Option, Some, None, IfSome, IfNone, IsSome, IsSomeAnd, Bor, length}
use Rattle.std.proofs.Common.{get_or, drop, ap, sym, ◌∙◌, refl, arith}
use Rattle.std.specs.Prelude.{codes}
use Rattle.std.specs.Option.{MatchOption}
use Rattle.std.specs.Fmt.{decimal}
use Rattle.std.proofs.lemmas.Bool.{false≢true}
use Rattle.std.proofs.lemmas.List.{drop_at}
use Rattle.std.proofs.lemmas.Fmt.{decimal_is_IsNumeral}
use Rattle.std.proofs.lemmas.Str.Parse.{digit_at}
use Rattle.calendar.specs.Days.{IsDayNumber, day_text}
use Rattle.terms.specs.Texts.{routed_words, reply_words, reply_text}
use Rattle.terms.specs.Laws.{IsNumber, IsAmount, IsRouted, IsKept}
use Rattle.terms.specs.declared.reply.Routed.{Routed}
use Rattle.terms.specs.declared.reply.Routed.TheVariants.{Shelf, HoldShelf, Transit}
use Rattle.terms.specs.declared.reply.Reply.{Reply}
use Rattle.terms.specs.declared.reply.Reply.TheVariants.{Done, Lent, CheckedIn, Held, Moved, Lost, Owed, Shown, Refused}
use Rattle.terms.proofs.ReplyTextLemmas.{reply_texts_differ}

-- what follows the word, and then the space
pub dropped : (text word ys rest : List ℕ) (n : ℕ) → n ≡ length word → rest ≡ drop n text → text ≡ word ++ ys → rest ≡ ys
dropped text word ys rest n long is e = is ∙ (ap (drop n) e ∙ drop_at word ys n (sym long))

pub stripped : (bs rest : List ℕ) (r : Option (Bor (List ℕ))) → MatchOption r ((y : List ℕ) → bs ≢ 32 ∷ y) (λ x. bs ≡ 32 ∷ x.now) → bs ≡ 32
    ∷ rest → IsSomeAnd r (λ x. x.now ≡ rest)
stripped bs rest None h e = absurd (h rest e)
stripped bs rest (Some x) h e = cc

-- the text of a number has no space
pub no_space_at : (n : ℕ) → n < 2 ^ 64 → (i : ℕ) → i < length (decimal n) → get_or (decimal n) i 0 ≢ 32
no_space_at n h i l e =
    let d = (decimal_is_IsNumeral n (omega arith)).0 in
    let r = digit_at (decimal n) i d.1 l in
    omega (arith, r, e)

-- a word and a number, and with more behind them
abbrev pub number_text : List ℕ → ℕ → List ℕ
number_text word n = word ++ (32 ∷ decimal n)

abbrev pub number_and_text : List ℕ → ℕ → List ℕ → List ℕ
number_and_text word n rest = word ++ (32 ∷ (decimal n ++ (32 ∷ rest)))

abbrev pub dated_text : List ℕ → ℕ → List ℕ
dated_text word n = word ++ (32 ∷ day_text n)

-- the texts of the forms
pub shelf_text : (branch : ℕ) → reply_text (Moved (Shelf branch)) ≡ number_text (codes "shelf") branch
unfolding reply_text reply_words routed_words
shelf_text branch = refl

pub hold_shelf_text : (hold branch until : ℕ)
    → reply_text (Moved (HoldShelf hold branch until)) ≡ number_and_text (codes "ready") hold
    (number_and_text (codes "at") branch (dated_text (codes "until") until))
unfolding reply_text reply_words routed_words
hold_shelf_text hold branch until = refl

pub transit_for_text : (goal hold : ℕ) → reply_text (Moved (Transit goal (Some hold))) ≡ number_and_text (codes "transit") goal (number_text (codes "for") hold)
unfolding reply_text reply_words routed_words
transit_for_text goal hold = refl

pub transit_text : (goal : ℕ) → reply_text (Moved (Transit goal None)) ≡ number_text (codes "transit") goal
unfolding reply_text reply_words routed_words
transit_text goal = refl

pub lent_text : (loan due : ℕ) → reply_text (Lent loan due) ≡ number_and_text (codes "loan") loan (dated_text (codes "due") due)
unfolding reply_text reply_words
lent_text loan due = refl

pub lost_text : (fine price : ℕ) → reply_text (Lost fine price) ≡ number_and_text (codes "fine") fine (number_text (codes "price") price)
unfolding reply_text reply_words
lost_text fine price = refl

pub checked_in_text : (fine : ℕ) (r : Routed) → reply_text (CheckedIn fine r) ≡ number_and_text (codes "fine") fine (reply_text (Moved r))
unfolding reply_text reply_words routed_words
checked_in_text fine (Shelf branch) = refl
checked_in_text fine (HoldShelf hold branch until) = refl
checked_in_text fine (Transit goal (Some hold)) = refl
checked_in_text fine (Transit goal None) = refl

pub held_text : (hold : ℕ) → reply_text (Held hold) ≡ number_text (codes "hold") hold
unfolding reply_text reply_words
held_text hold = refl

pub owed_text : (owed : ℕ) → reply_text (Owed owed) ≡ number_text (codes "owed") owed
unfolding reply_text reply_words
owed_text owed = refl

pub done_text : reply_text Done ≡ codes "ok"
unfolding reply_text reply_words
done_text = refl

-- where no other form reads it, the text is that of a copy that left the hold shelf
pub reply_some : (t : List ℕ) (o : Option Reply)
    → (t ≡ reply_text Done → ⊥)
    → ((loan due : ℕ) → IsNumber loan → IsDayNumber due → t ≡ reply_text (Lent loan due) → IsSome {T = Reply} None)
    → ((fine price : ℕ) → IsAmount fine → IsAmount price → t ≡ reply_text (Lost fine price) → IsSome {T = Reply} None)
    → ((fine : ℕ) (r : Routed) → IsAmount fine → IsRouted r → t ≡ reply_text (CheckedIn fine r) → IsSome {T = Reply} None)
    → ((hold : ℕ) → IsNumber hold → t ≡ reply_text (Held hold) → IsSome {T = Reply} None)
    → ((owed : ℕ) → IsAmount owed → t ≡ reply_text (Owed owed) → IsSome {T = Reply} None)
    → ((r : Routed) → IsRouted r → t ≡ reply_text (Moved r) → IsSome o)
    → (r : Reply) → IsKept r → t ≡ reply_text r → IsSome o
reply_some t o done lent lost checked_in held owed moved Done h e = absurd (done e)
reply_some t o done lent lost checked_in held owed moved (Lent loan due) h e = absurd (false≢true (lent loan due h.0 h.1 e))
reply_some t o done lent lost checked_in held owed moved (CheckedIn fine r) h e = absurd (false≢true (checked_in fine r h.0 h.1 e))
reply_some t o done lent lost checked_in held owed moved (Held hold) h e = absurd (false≢true (held hold h e))
reply_some t o done lent lost checked_in held owed moved (Moved r) h e = moved r h e
reply_some t o done lent lost checked_in held owed moved (Lost fine price) h e = absurd (false≢true (lost fine price h.0 h.1 e))
reply_some t o done lent lost checked_in held owed moved (Owed n) h e = absurd (false≢true (owed n h e))
reply_some t o done lent lost checked_in held owed moved (Shown _) h e = absurd h
reply_some t o done lent lost checked_in held owed moved (Refused _) h e = absurd h

-- the reply that is read is the only one with this text
pub only_reply : (t : List ℕ) (o : Option Reply) → IfSome o (λ r. IsKept r × (t ≡ reply_text r)) → ((r : Reply) → IsKept r → t ≡ reply_text r → IsSome o)
    → (r : Reply) → IsKept r → t ≡ reply_text r → o ≡ Some r
only_reply t None s w r h e = absurd (false≢true (w r h e))
only_reply t (Some q) s w r h e = ap Some (reply_texts_differ q r s.0 h (sym s.1 ∙ e))

pub reply_sound : (t : List ℕ) (o : Option Reply) → IfSome o (λ r. IsKept r × (t ≡ reply_text r)) → IfSome o (λ r. IsKept r × (reply_text r ≡ t))
reply_sound t None s = s
reply_sound t (Some q) s = (s.0, sym s.1)

pub no_reply : (t : List ℕ) (o : Option Reply) → ((r : Reply) → IsKept r → t ≡ reply_text r → IsSome o) → IfNone o ((r : Reply) → IsKept r → reply_text r ≢ t)
no_reply t None w = λ r h e. absurd (false≢true (w r h (sym e)))
no_reply t (Some q) w = tt
