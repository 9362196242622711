-- What is taken of a reader, part after part.
use Rattle.std.proofs.Common.{◌≡◌, ◌≢◌, ◌⊎◌, inl, inr, ℕ, ◌-◌, ◌<◌, ◌≤◌, List, [], ◌∷◌, ◌++◌, arith, length, take, drop, map, sym, ap, ◌∙◌, subst, refl, true, Option, Some, None, Result, Ok, Err, length-take-le}
use Rattle.std.specs.Prelude.{min, IfErr}
use Rattle.std.specs.Io.KnownBytes.{Consumes, Keeps}
use Rattle.std.proofs.KnownBytes.{Consumes-nil, Consumes-trans}
use Rattle.std.proofs.lemmas.List.{append-nil, append_assoc, length-append}
use Rattle.httparse.specs.Grammar.{HasNoRequest, MayBecomeRequest}
use Rattle.web.specs.declared.limits.TheConstants.{HEAD_BYTES, HEAD_FIELDS}
use Rattle.web.specs.declared.fault.WebFault.{WebFault}
use Rattle.web.specs.declared.fault.WebFault.TheVariants as fault
use Rattle.web.specs.declared.fault.WebStatus.TheVariants.{BadRequest}
use Rattle.web.specs.Checks.{Reading}
use Rattle.web.specs.Faults.{IsNotRead}
use Rattle.httparse.specs.Spans.{IsRequestOf, IsRequestWithin, header_bytes}
use Rattle.httparse.specs.declared.spans.HeaderSpan.{HeaderSpan}
use Rattle.httparse.specs.declared.spans.RequestSpans.{RequestSpans}
use Rattle.web.specs.Fields.{NamedValue, body_length}
use Rattle.web.proofs.CheckLemmas.{has_head}
use Rattle.web.specs.Taking.{Wants, WantsRest, WantsAfter, joined, ReadsPiece, ReadsInto, ReadsWanted, Came, EndsWith, EndsFull, EndsReading, Takes, TakesHead, TakesRequest}

nil_of_length : (xs : List ℕ) → length xs ≡ 0 → xs ≡ []
nil_of_length [] h = refl
nil_of_length (x ∷ xs) h = absurd (omega arith)

pub joined-append : (new old : List (List ℕ)) → joined (new ++ old) ≡ joined old ++ joined new
joined-append [] old = sym (append-nil (joined old))
joined-append (p ∷ new) old = ap (λ (xs : List ℕ). xs ++ p) (joined-append new old) ∙ append_assoc (joined old) (joined new) p

keeps_nil : (old new : Option (List ℕ)) → Keeps old new → Consumes old new []
keeps_nil None new k = tt
keeps_nil (Some xs) None k = k
keeps_nil (Some xs) (Some ys) k = sym k

-- no head came yet: the rest of its room is wanted
pub wants_head : (got before : List ℕ) (filled : ℕ) → got ≡ take filled before → HasNoRequest (take filled before)
    → (take filled before ≡ []) ⊎ MayBecomeRequest (take filled before) → filled < length before → length before ≡ HEAD_BYTES
    → Wants got (length before - filled)
wants_head got before filled is none may room size =
    let long = length-take-le filled before (omega arith) in
    subst (λ (g : List ℕ). Wants g (length before - filled)) (sym is)
    (omega arith, inl (record { none = λ h rest head. none h rest head.reads; may_come = may; room_is = omega (arith, long) }))

module _ {A : Type 0} (reads : A → ℕ → Option (List ℕ) → A → Type 0) (remaining : A → Option (List ℕ)) where
  -- one more piece came
  pub came_more : (Want : List ℕ → ℕ → Type 0) (pieces : List (List ℕ)) (old mid new : A) (before after : List ℕ) (filled n : ℕ)
      → Came reads remaining Want pieces old mid → Want (joined pieces) (length before - filled)
      → (into : ReadsInto reads remaining mid new before after filled n) → n ≢ 0
      → Came reads remaining Want (into.piece ∷ pieces) old new
  came_more Want pieces old mid new before after filled n came wanted into some = (
    mid,
    came,
    record { room = length before - filled; wanted = wanted; read = into.read },
    (λ nil. some (sym into.size ∙ ap length nil)),
  )

  -- the end was found
  pub found_end : (Want : List ℕ → ℕ → Type 0) (got : List ℕ) (mid new : A) (before after : List ℕ) (filled n : ℕ)
      → Want got (length before - filled) → ReadsInto reads remaining mid new before after filled n → n ≡ 0
      → ReadsWanted reads remaining Want got (Some []) mid new
  found_end Want got mid new before after filled n wanted into none = record {
    room = length before - filled;
    wanted = wanted;
    read = subst (λ (p : List ℕ). ReadsPiece reads remaining (length before - filled) (Some p) mid new)
        (nil_of_length into.piece (into.size ∙ none)) into.read;
  }

  -- known bytes lose what came
  pub came-left : (Want : List ℕ → ℕ → Type 0) (pieces : List (List ℕ)) (old new : A) → Came reads remaining Want pieces old new
      → Consumes (remaining old) (remaining new) (joined pieces)
  came-left Want [] old new e = subst (λ (s : A). Consumes (remaining old) (remaining s) []) (sym e) (Consumes-nil (remaining old))
  came-left Want (p ∷ ps) old new c =
      Consumes-trans (remaining old) (remaining c.0) (remaining new) (joined ps) p (came-left Want ps old c.0 c.1) c.2.read.left

  kept-left : (old mid new : Option (List ℕ)) (bs : List ℕ) → Consumes old mid bs → Consumes mid new [] → Consumes old new bs
  kept-left old mid new bs c k = subst (λ (x : List ℕ). Consumes old new x) (append-nil bs) (Consumes-trans old mid new bs [] c k)

  pub ends-left : (Want : List ℕ → ℕ → Type 0) (got : List ℕ) (old mid new : A) (r : Reading) → Consumes (remaining old) (remaining mid) got
      → EndsReading reads remaining Want got mid new r → Consumes (remaining old) (remaining new) got
  ends-left Want got old mid new r c (inl (same, told)) = subst (λ (s : A). Consumes (remaining old) (remaining s) got) (sym same) c
  ends-left Want got old mid new r c (inr (inl (read, told))) = kept-left _ _ _ got c read.read.left
  ends-left Want got old mid new r c (inr (inr (read, told))) = kept-left _ _ _ got c (keeps_nil _ _ read.read.left)

  -- the same under another word for what is wanted
  module _ (Want Other : List ℕ → ℕ → Type 0) (widen : (got : List ℕ) (room : ℕ) → Want got room → Other got room) where
    pub wanted-as : (got : List ℕ) (piece : Option (List ℕ)) (old new : A) → ReadsWanted reads remaining Want got piece old new
        → ReadsWanted reads remaining Other got piece old new
    wanted-as got piece old new r = record { room = r.room; wanted = widen got r.room r.wanted; read = r.read }

    pub came-as : (pieces : List (List ℕ)) (old new : A) → Came reads remaining Want pieces old new → Came reads remaining Other pieces old new
    came-as [] old new e = e
    came-as (p ∷ ps) old new c = (c.0, came-as ps old c.0 c.1, wanted-as (joined ps) (Some p) c.0 new c.2, c.3)

    pub reading-as : (got : List ℕ) (mid new : A) (r : Reading) → EndsReading reads remaining Want got mid new r
        → EndsReading reads remaining Other got mid new r
    reading-as got mid new r (inl same) = inl same
    reading-as got mid new r (inr (inl (read, told))) = inr (inl (wanted-as got (Some []) mid new read, told))
    reading-as got mid new r (inr (inr (read, told))) = inr (inr (wanted-as got None mid new read, told))

    pub ends-as : {B : Type 0} (got : List ℕ) (mid new : A) (r : Result (Option B) WebFault) → EndsWith reads remaining Want got mid new r
        → EndsWith reads remaining Other got mid new r
    ends-as got mid new (Ok (Some x)) e = e
    ends-as got mid new (Ok None) (inl same) = inl same
    ends-as got mid new (Ok None) (inr read) = inr (wanted-as got (Some []) mid new read)
    ends-as got mid new (Err e) (inl same) = inl same
    ends-as got mid new (Err e) (inr (read, told)) = inr (wanted-as got None mid new read, told)

  -- the same after pieces that had come before
  module _ (Want Whole : List ℕ → ℕ → Type 0) (front : List (List ℕ))
      (after : (got : List ℕ) (room : ℕ) → Want got room → Whole (joined front ++ got) room) where
    pub wanted-after : (pieces : List (List ℕ)) (piece : Option (List ℕ)) (old new : A) → ReadsWanted reads remaining Want (joined pieces) piece old new
        → ReadsWanted reads remaining Whole (joined (pieces ++ front)) piece old new
    wanted-after pieces piece old new r = record {
      room = r.room;
      wanted = subst (λ (g : List ℕ). Whole g r.room) (sym (joined-append pieces front)) (after (joined pieces) r.room r.wanted);
      read = r.read;
    }

    pub came-after : (pieces : List (List ℕ)) (old mid new : A) → Came reads remaining Whole front old mid
        → Came reads remaining Want pieces mid new → Came reads remaining Whole (pieces ++ front) old new
    came-after [] old mid new first e = subst (λ (s : A). Came reads remaining Whole front old s) (sym e) first
    came-after (p ∷ ps) old mid new first c =
        (c.0, came-after ps old mid c.0 first c.1, wanted-after ps (Some p) c.0 new c.2, c.3)

    pub reading-after : (pieces : List (List ℕ)) (mid new : A) (r : Reading) → EndsReading reads remaining Want (joined pieces) mid new r
        → EndsReading reads remaining Whole (joined (pieces ++ front)) mid new r
    reading-after pieces mid new r (inl same) = inl same
    reading-after pieces mid new r (inr (inl (read, told))) = inr (inl (wanted-after pieces (Some []) mid new read, told))
    reading-after pieces mid new r (inr (inr (read, told))) = inr (inr (wanted-after pieces None mid new read, told))

  -- a part had no value, or met a fault, and so the request has none
  module _ {B : Type 0} (Want : List ℕ → ℕ → Type 0) where
    pub refused : (got : List ℕ) (mid new : A) (o : Option B) → o ≡ None → EndsWith reads remaining Want got mid new (Ok o)
        → EndsReading reads remaining Want got mid new (Err (fault.Status BadRequest))
    refused got mid new None is (inl same) = inl (same, tt)
    refused got mid new None is (inr read) = inr (inl (read, refl))
    refused got mid new (Some x) is e = absurd (cc)

  -- what ends a part by a fault
  abbrev pub EndsFault : (List ℕ → ℕ → Type 0) → WebFault → List ℕ → A → A → Type 0
  EndsFault Want e got mid new = ((new ≡ mid) × (e ≡ fault.Memory)) ⊎ (ReadsWanted reads remaining Want got None mid new × (e ≡ fault.Read))

  faulted : (Want : List ℕ → ℕ → Type 0) (got : List ℕ) (mid new : A) (e : WebFault)
      → EndsFault Want e got mid new → EndsReading reads remaining Want got mid new (Err e)
  faulted Want got mid new e (inl (same, told)) = inl (same, subst IsNotRead (sym told) tt)
  faulted Want got mid new e (inr (read, told)) = inr (inr (read, ap Err told))

  -- the body's buffer, of which the front had come with the head
  module _ (front size kept n : ℕ) (k : kept ≡ min front size) (wide : n ≡ size) where
    widen-rest : (got : List ℕ) (room : ℕ) → WantsRest kept n got room → WantsRest front size got room
    widen-rest got room w = (w.0, omega (arith, w.0, w.1, k, wide))

    pub body-full : {B : Type 0} (x : B) (old new : A)
        → Takes reads remaining (WantsRest kept n) (λ got mid s. EndsFull reads remaining (WantsRest kept n) got mid s (Ok true)) old new
        → Takes reads remaining (WantsRest front size)
        (λ got mid s. EndsWith reads remaining (WantsRest front size) got mid s (Ok (Some x))) old new
    body-full x old new t = record {
      pieces = t.pieces;
      mid = t.mid;
      came = came-as (WantsRest kept n) (WantsRest front size) widen-rest t.pieces old t.mid t.came;
      ends = t.ends;
    }

  -- a part of the request was read: what the request is by that
  module _ (Want Other : List ℕ → ℕ → Type 0) (widen : (got : List ℕ) (room : ℕ) → Want got room → Other got room) (old new : A) where
    pub part-faulted : (e : WebFault) (q : Reading) → q ≡ Err e → Takes reads remaining Want (EndsFault Want e) old new
        → Takes reads remaining Other (λ got mid s. EndsReading reads remaining Other got mid s q) old new
    part-faulted e q is t = record {
      pieces = t.pieces;
      mid = t.mid;
      came = came-as Want Other widen t.pieces old t.mid t.came;
      ends = reading-as Want Other widen (joined t.pieces) t.mid new q
          (subst (EndsReading reads remaining Want (joined t.pieces) t.mid new) (sym is) (faulted Want (joined t.pieces) t.mid new e t.ends));
    }

    pub part-refused : {B : Type 0} (o : Option B) → o ≡ None
        → Takes reads remaining Want (λ got mid s. EndsWith reads remaining Want got mid s (Ok o)) old new
        → Takes reads remaining Other (λ got mid s. EndsReading reads remaining Other got mid s (Err (fault.Status BadRequest))) old new
    part-refused o is t = record {
      pieces = t.pieces;
      mid = t.mid;
      came = came-as Want Other widen t.pieces old t.mid t.came;
      ends = reading-as Want Other widen (joined t.pieces) t.mid new _ (refused Want (joined t.pieces) t.mid new o is t.ends);
    }

    pub part-passed : {B : Type 0} (x : B) (q : Reading) → IfErr q IsNotRead
        → Takes reads remaining Want (λ got mid s. EndsWith reads remaining Want got mid s (Ok (Some x))) old new
        → Takes reads remaining Other (λ got mid s. EndsReading reads remaining Other got mid s q) old new
    part-passed x q unread t = record {
      pieces = t.pieces;
      mid = t.mid;
      came = came-as Want Other widen t.pieces old t.mid t.came;
      ends = inl (t.ends, unread);
    }

  pub taken : (old new : A) (r : Reading)
      → Takes reads remaining Wants (λ got mid new. EndsReading reads remaining Wants got mid new r) old new
      → TakesRequest reads remaining old new r
  taken old new r t = record {
    takes = t;
    left = ends-left Wants (joined t.pieces) old t.mid new r (came-left Wants t.pieces old t.mid t.came) t.ends;
  }

  pub nothing-taken : (old : A) (r : Reading) → r ≡ Err fault.Memory → TakesRequest reads remaining old old r
  nothing-taken old r is =
      taken old old r (record { pieces = []; mid = old; came = refl; ends = inl (refl, subst (λ (q : Reading). IfErr q IsNotRead) (sym is) tt) })

  -- the head came, and then what follows it
  pub whole-taken : (old mid new : A) (buf : List ℕ) (filled : ℕ) (headers : List HeaderSpan) (spans : RequestSpans) (r : Reading)
      → TakesHead reads remaining old mid buf (Ok (Some (spans, filled)))
      → IsRequestOf (take filled buf) headers spans → IsRequestWithin (take filled buf) headers spans
      → length (take filled buf) ≤ HEAD_BYTES → length headers ≤ HEAD_FIELDS
      → Takes reads remaining (WantsAfter (map (header_bytes (take filled buf)) (take spans.headers headers)) (drop spans.len (take filled buf)))
      (λ got m s. EndsReading reads remaining
      (WantsAfter (map (header_bytes (take filled buf)) (take spans.headers headers)) (drop spans.len (take filled buf))) got m s r) mid new
      → TakesRequest reads remaining old new r
  whole-taken old mid new buf filled headers spans r head is within long many t =
      let bytes = take filled buf in
      let fields = map (header_bytes bytes) (take spans.headers headers) in
      let front = drop spans.len bytes in
      let first = head.takes.pieces in
      let after : (got : List ℕ) (room : ℕ) → WantsAfter fields front got room → Wants (joined first ++ got) room = λ got room w. (
        w.0,
        inr (record {
          head = is.0;
          rest = front ++ got;
          size = w.1;
          has = has_head bytes got (joined first ++ got) headers spans is.0 (ap (λ (x : List ℕ). x ++ got) head.holds) is.1 within long many;
          told = ap body_length (sym is.1.fields) ∙ w.2;
          room_is = w.3;
        }),
      ) in
      let came : Came reads remaining Wants first old mid =
      subst (λ (s : A). Came reads remaining Wants first old s) (sym head.takes.ends) head.takes.came in
      taken old new r (record {
        pieces = t.pieces ++ first;
        mid = t.mid;
        came = came-after (WantsAfter fields front) Wants first after t.pieces old mid t.mid came t.came;
        ends = reading-after (WantsAfter fields front) Wants first after t.pieces t.mid new r t.ends;
      })

-- after the head's front the rest of the body is wanted
pub widen-after : (f fields : List NamedValue) (fr front : List ℕ) (size : ℕ) → fr ≡ front → f ≡ fields → Ok size ≡ body_length f
    → (got : List ℕ) (room : ℕ) → WantsRest (length fr) size got room → WantsAfter fields front got room
widen-after f fields fr front size rest same told got room w =
    (w.0, size, ap body_length (sym same) ∙ sym told, omega (arith, w.1, ap length rest, length-append front got))
