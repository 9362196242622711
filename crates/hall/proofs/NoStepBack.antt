-- No step back: an answer extends what was seen.
use Rattle.std.proofs.Common.{◌≡◌, ℕ, ◌+◌, true, cond, eqb, List, [], ◌∷◌, ◌++◌, length, sym, refl, ap, ◌∙◌, subst, arith, length-append}
use Rattle.board.specs.declared.entry.Entry.{Entry}
use Rattle.board.specs.declared.entry.Seen.{Seen}
use Rattle.board.specs.Showing.{StartsWith, GoesOn, IsAnswer, count_own}
use Rattle.board.proofs.Lasts.{count-cons, eqb-self}
use Rattle.terms.specs.declared.command.Request.{Request}
use Rattle.std.specs.Prelude.{Result}
use Rattle.terms.specs.declared.fault.Fault.{Fault}
use Rattle.terms.specs.declared.reply.Reply.{Reply}
use Rattle.board.proofs.Beginnings.{starts_on}
use Rattle.hall.specs.declared.messages.Message.TheVariants.{Submit}
use Rattle.hall.specs.declared.messages.View.{View}
use Rattle.hall.specs.Serving.{Working, IsAnswered, Submits, submitted}

-- A beginning that has no more of a worker than what stands before an entry of it ends before that.
before-entry : (w : ℕ) (front : List Entry) (e : Entry) (rest seen : List Entry) → e.worker ≡ w → StartsWith (front ++ e ∷ rest) seen
    → count_own w seen ≡ count_own w front → StartsWith front seen
before-entry w [] e rest [] mine s same = ([], refl)
before-entry w (f ∷ fs) e rest [] mine s same = (f ∷ fs, refl)
before-entry w [] e rest (y ∷ ys) mine s same =
    let is : e ≡ y = head s.1 in
    let one : ◌≡◌ {A = ℕ} (cond (eqb y.worker w) 1 0) 1 = ap (λ b. cond b 1 0) (subst (λ (d : Entry). eqb d.worker w ≡ true) is (eqb-self e.worker w mine)) in
    absurd (omega (arith, one, same, count-cons w y ys))
  where
    head : e ∷ rest ≡ y ∷ (ys ++ s.0) → e ≡ y
    head h = cc
before-entry w (f ∷ fs) e rest (y ∷ ys) mine s same =
    let is : f ≡ y = head s.1 in
    let alike : ◌≡◌ {A = ℕ} (cond (eqb y.worker w) 1 0) (cond (eqb f.worker w) 1 0) = ap (λ (d : Entry). cond (eqb d.worker w) 1 0) (sym is) in
    let fewer : count_own w ys ≡ count_own w fs = omega (arith, same, alike, count-cons w y ys, count-cons w f fs) in
    let more = before-entry w fs e rest ys mine (s.0, tail s.1) fewer in
    (more.0, ap (λ (d : Entry). d ∷ fs) is ∙ ap (λ l. y ∷ l) more.1)
  where
    head : f ∷ (fs ++ e ∷ rest) ≡ y ∷ (ys ++ s.0) → f ≡ y
    head h = cc

    tail : f ∷ (fs ++ e ∷ rest) ≡ y ∷ (ys ++ s.0) → fs ++ e ∷ rest ≡ ys ++ s.0
    tail h = cc

-- What the worker saw before it submitted stands before its submission.
pub later-than : (old mid new : List Entry) (w k n : ℕ) (request : Request) (answer : Result Reply Fault) → StartsWith mid old → StartsWith new mid
    → count_own w mid ≡ k → n ≡ k + 1 → (r : IsAnswer new w n request answer) → StartsWith r.front old
later-than old mid new w k n request answer on next all number r =
    let same : count_own w mid ≡ count_own w r.front = omega (arith, all, number, r.next) in
    starts_on r.front mid old (before-entry w r.front r.entry r.rest mid r.worker_is (subst (λ l. StartsWith l mid) r.seen_is next) same) on

-- What was submitted from there on was submitted from before.
pub submits : (old mid sent : Working) (request own other : Request) → mid.post ≡ old.post → Submits mid.post sent.post other → own ≡ request
    → other ≡ own → Submits old.post sent.post request
submits old mid sent request own other same is made clone =
    subst (λ (q : Request). Submits old.post sent.post q) (clone ∙ made) (subst (λ (v : View). Submits v sent.post other) same is)

-- What was submitted and came back is the answer.
pub replied : (old mid sent new : Working) (request own other : Request) (answer : Result Reply Fault) → mid.post ≡ old.post → GoesOn mid.seen old.seen
    → count_own old.post.worker mid.seen.entries ≡ length old.post.sent
    → Submits mid.post sent.post other × (sent.seen ≡ mid.seen) → new.post ≡ sent.post → GoesOn new.seen sent.seen → own ≡ request → other ≡ own
    → IsAnswer new.seen.entries sent.post.worker (length sent.post.sent) own answer → IsAnswered request old new answer
replied old mid sent new request own other answer same on all is after' next made clone r =
    let sends : Submits old.post sent.post request = submits old mid sent request own other same is.0 made clone in
    let posts : sent.post ≡ submitted old.post request = sends.1 in
    let long : length sent.post.sent ≡ length old.post.sent + 1 =
    ap (λ (v : View). length v.sent) posts
    ∙ length-append old.post.sent (Submit (record { worker = old.post.worker; number = length old.post.sent + 1; request = request })
    ∷ []) in
    let mine : sent.post.worker ≡ old.post.worker = ap (λ (v : View). v.worker) posts in
    let seen : GoesOn new.seen mid.seen = subst (λ (s : Seen). GoesOn new.seen s) is.1 next in
    let here : IsAnswer new.seen.entries old.post.worker (length old.post.sent + 1) request answer =
    subst (λ w. IsAnswer new.seen.entries w (length old.post.sent + 1) request answer) mine
    (subst (λ n. IsAnswer new.seen.entries sent.post.worker n request answer) long
    (subst (λ (q : Request). IsAnswer new.seen.entries sent.post.worker (length sent.post.sent) q answer) made r)) in
    record {
      submits = subst (λ (v : View). Submits old.post v request) (sym after') sends;
      answered = here;
      later = later-than old.seen.entries mid.seen.entries new.seen.entries old.post.worker (length old.post.sent)
          (length old.post.sent + 1) request answer on.0 seen.0 all refl here;
    }
