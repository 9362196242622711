-- A request that repeats an accepted one adds nothing and gets the first one's reply.
use Rattle.std.proofs.Common.{◌≡◌, ℕ, Bool, true, false, ◌&&◌, List, [], ◌∷◌, refl, sym, ap, ◌∙◌, subst}
use Rattle.std.specs.Prelude.{Option, Some, None, bytes_eq}
use Rattle.std.proofs.lemmas.Bool.{and_parts, eqb-true, eq-eqb}
use Rattle.std.proofs.lemmas.Slice.Eq.{bytes_eq-Decides}
use Rattle.terms.specs.declared.command.Owner.{Owner}
use Rattle.terms.specs.declared.command.Owner.TheVariants.{Desk, Patron as Reader}
use Rattle.terms.specs.declared.command.Request.{Request}
use Rattle.terms.specs.declared.refusal.Refusal.TheVariants.{KeyUsed, NotAllowed}
use Rattle.terms.specs.declared.reply.Reply.{Reply}
use Rattle.terms.specs.declared.reply.Reply.TheVariants.{Refused}
use Rattle.terms.specs.Texts.{request_text}
use Rattle.model.specs.History.{History}
use Rattle.model.specs.Refusals.{refusal}
use Rattle.model.specs.Answers.{accepted, answer}
use Rattle.terms.specs.Callers.{owner_of}
use Rattle.model.specs.Requests.{IsAccepted, is_allowed, only_asks, same_owner, Kept, kept_of, reply_by_key, reply_to, adds, event_of, after_one, after}
use Rattle.model.proofs.Bindings.{both}
use Rattle.model.proofs.Legal.{some-none}
use Rattle.model.proofs.Runs.{added}

pub same_owner-is : (a b : Owner) → same_owner a b ≡ true → a ≡ b
same_owner-is Desk Desk e = refl
same_owner-is (Reader p) (Reader q) e = ap Reader (eqb-true p q e)
same_owner-is Desk (Reader q) e = let never : ⊥ = cc in absurd never
same_owner-is (Reader p) Desk e = let never : ⊥ = cc in absurd never

same_owner-self : (a : Owner) → same_owner a a ≡ true
same_owner-self Desk = refl
same_owner-self (Reader p) = eq-eqb p p refl

-- An owner's key that is kept stays kept with its text and reply.
kept-event : (H : History) (r : Request) (o : Owner) (k : List ℕ) (x : Kept) → kept_of H (owner_of r.caller) r.key ≡ None
    → kept_of H o k ≡ Some x → kept_of (event_of r ∷ H) o k ≡ Some x
kept-event H r o k x fresh kept = go (same_owner (owner_of r.caller) o && bytes_eq r.key k) refl
  where
    go : (b : Bool) → (same_owner (owner_of r.caller) o && bytes_eq r.key k) ≡ b
        → (elim b as (λ _. Option Kept)
        [ true ↦ Some (record { text = request_text r.command; reply = accepted H r.command }) | false ↦ kept_of H o k ]) ≡ Some x
    go true e =
        let parts : (same_owner (owner_of r.caller) o ≡ true) × (bytes_eq r.key k ≡ true) = and_parts _ _ e in
        let owner : owner_of r.caller ≡ o = same_owner-is _ _ parts.0 in
        let key : r.key ≡ k = (bytes_eq-Decides r.key k).0 parts.1 in
        let none : kept_of H o k ≡ None = subst (λ j. kept_of H o j ≡ None) key (subst (λ w. kept_of H w r.key ≡ None) owner fresh) in
        absurd (some-none _ x kept none)
    go false e = kept

pub kept-one : (H : History) (r : Request) (o : Owner) (k : List ℕ) (x : Kept) → kept_of H o k ≡ Some x → kept_of (after_one H r) o k ≡ Some x
kept-one H r o k x kept = go (adds H r) refl
  where
    go : (b : Bool) → adds H r ≡ b → kept_of (elim b as (λ _. History) [ true ↦ event_of r ∷ H | false ↦ H ]) o k ≡ Some x
    go true e = kept-event H r o k x (added H r e).fresh kept
    go false e = kept

kept-after : (rs : List Request) (H : History) (o : Owner) (k : List ℕ) (x : Kept) → kept_of H o k ≡ Some x → kept_of (after H rs) o k ≡ Some x
kept-after [] H o k x kept = kept
kept-after (r ∷ rs) H o k x kept = kept-after rs (after_one H r) o k x (kept-one H r o k x kept)

-- What an accepted request keeps.
abbrev pub kept_by : History → Request → Kept
kept_by H r = record { text = request_text r.command; reply = accepted H r.command }

kept-new : (H : History) (r : Request) → kept_of (event_of r ∷ H) (owner_of r.caller) r.key ≡ Some (kept_by H r)
kept-new H r = go (same_owner (owner_of r.caller) (owner_of r.caller)) (bytes_eq r.key r.key) (same_owner-self (owner_of r.caller))
    ((bytes_eq-Decides r.key r.key).1 refl)
  where
    go : (x y : Bool) → x ≡ true → y ≡ true
        → (elim (x && y) as (λ _. Option Kept) [ true ↦ Some (kept_by H r) | false ↦ kept_of H (owner_of r.caller) r.key ]) ≡ Some
        (kept_by H r)
    go true true e f = refl
    go false y e f = let never : ⊥ = cc in absurd never
    go true false e f = let never : ⊥ = cc in absurd never

pub kept-first : (H : History) (r : Request) → adds H r ≡ true → kept_of (after_one H r) (owner_of r.caller) r.key ≡ Some (kept_by H r)
kept-first H r e = ap (λ b. kept_of (elim b as (λ _. History) [ true ↦ event_of r ∷ H | false ↦ H ]) (owner_of r.caller) r.key) e ∙ kept-new H r

-- ---- the reply of an accepted request

reply_at : (x y : Bool) (a : Reply) → (k : Option Kept) (H : History) (r : Request) → x ≡ true → y ≡ false
    → (elim x as (λ _. Reply) [ false ↦ Refused NotAllowed | true ↦ elim y as (λ _. Reply) [ true ↦ a | false ↦ reply_by_key H r k ] ]) ≡ reply_by_key H r k
reply_at true false a k H r e f = refl
reply_at true true a k H r e f = let never : ⊥ = cc in absurd never
reply_at false y a k H r e f = let never : ⊥ = cc in absurd never

-- An allowed request that is no page is replied to by its key.
reply-by_key : (H : History) (r : Request) → is_allowed H r.caller r.command ≡ true → only_asks r.command ≡ false
    → reply_to H r ≡ reply_by_key H r (kept_of H (owner_of r.caller) r.key)
reply-by_key H r allowed changes = reply_at _ _ (answer H (owner_of r.caller) r.command) (kept_of H (owner_of r.caller) r.key) H r allowed changes

answer-accepted : (H : History) (o : Owner) (r : Request) → refusal H o r.command ≡ None → answer H o r.command ≡ accepted H r.command
answer-accepted H o r e = ap (λ x. elim x as (λ _. Reply) [ Some refused ↦ Refused refused | None ↦ accepted H r.command ]) e

allowed-added : (H : History) (r : Request) → adds H r ≡ true → is_allowed H r.caller r.command ≡ true
allowed-added H r e = (and_parts _ _ (both _ _ e).0).0

reply-first : (H : History) (r : Request) → adds H r ≡ true → reply_to H r ≡ accepted H r.command
reply-first H r e =
    let a : IsAccepted (event_of r) H = added H r e in
    reply-by_key H r (allowed-added H r e) a.changes ∙ ap (reply_by_key H r) a.fresh ∙ answer-accepted H (owner_of r.caller) r a.unrefused

-- ---- the reply of its repetition

pub repeat-reply : (H : History) (r : Request) (x : Kept) → is_allowed H r.caller r.command ≡ true → only_asks r.command ≡ false
    → kept_of H (owner_of r.caller) r.key ≡ Some x
    → x.text ≡ request_text r.command → reply_to H r ≡ x.reply
repeat-reply H r x allowed changes kept text =
    reply-by_key H r allowed changes ∙ ap (reply_by_key H r) kept
    ∙ ap (λ b. elim b as (λ _. Reply) [ true ↦ x.reply | false ↦ Refused KeyUsed ]) ((bytes_eq-Decides x.text (request_text r.command)).1 text)

pub repeat-adds_not : (H : History) (r : Request) (x : Kept) → kept_of H (owner_of r.caller) r.key ≡ Some x → (b : Bool) → adds H r ≡ b → b ≡ false
repeat-adds_not H r x kept true e = absurd (some-none _ x kept (added H r e).fresh)
repeat-adds_not H r x kept false e = refl

-- A repeated request adds nothing and gets the first one's reply.
pub acts_once : (H : History) (first again : Request) (between : List Request) → adds H first ≡ true
    → owner_of again.caller ≡ owner_of first.caller → again.key ≡ first.key → request_text again.command ≡ request_text first.command
    → only_asks again.command ≡ false → is_allowed (after H (first ∷ between)) again.caller again.command ≡ true
    → (after_one (after H (first ∷ between)) again ≡ after H (first ∷ between)) × (reply_to (after H (first ∷ between)) again ≡ reply_to H first)
acts_once H first again between adding owner key text changes allowed = (
  ap (λ b. elim b as (λ _. History)
      [ true ↦ event_of again ∷ after (after_one H first) between | false ↦ after (after_one H first) between ])
      (repeat-adds_not (after (after_one H first) between) again (kept_by H first) kept
      (adds (after (after_one H first) between) again) refl),
  repeat-reply (after (after_one H first) between) again (kept_by H first) allowed changes kept (sym text) ∙ sym (reply-first H first adding),
)
  where
    kept : kept_of (after (after_one H first) between) (owner_of again.caller) again.key ≡ Some (kept_by H first)
    kept =
        let old : kept_of (after (after_one H first) between) (owner_of first.caller) first.key ≡ Some (kept_by H first) =
        kept-after between (after_one H first) (owner_of first.caller) first.key (kept_by H first) (kept-first H first adding) in
        subst (λ k. kept_of (after (after_one H first) between) (owner_of again.caller) k ≡ Some (kept_by H first)) (sym key)
        (subst (λ o. kept_of (after (after_one H first) between) o first.key ≡ Some (kept_by H first)) (sym owner) old)
