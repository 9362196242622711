use Rattle.std.proofs.Common.{◌≡◌, ◌⊎◌, ℕ, ◌+◌, ◌-◌, ◌<◌, ◌≤◌, List, [], ◌∷◌, ◌++◌, arith, length, take, drop, sym, ap, ◌∙◌, subst, rules, Option, Some, Result, Ok, Err}
use Rattle.std.proofs.Common.{None, length-take-le, refl, inl, inr}
use Rattle.std.specs.Prelude.{IfSome}
use Rattle.std.specs.Io.KnownBytes.{Consumes, IsAtEnd}
use Rattle.std.proofs.KnownBytes.{Consumes-nil, Consumes-trans}
use Rattle.std.proofs.lemmas.List.{append-nil, take-append-le, take-append-drop, length-append}
use Rattle.std.proofs.Math.Seq.{take-append_seam}
use Rattle.httparse.specs.Grammar.{ReadsRequest, HasNoRequest, MayBecomeRequest, print_request}
use Rattle.httparse.specs.declared.spans.RequestSpans.{RequestSpans}
use Rattle.web.proofs.Takings.{wants_head, came_more, found_end}
use Rattle.web.specs.Taking.{Wants, joined, Came, ReadsPiece, ReadsInto, TakesHead}
use Rattle.web.specs.declared.fault.WebFault.{WebFault}
use Rattle.web.specs.declared.fault.WebFault.TheVariants as fault
use Rattle.web.specs.declared.limits.TheConstants.{HEAD_BYTES}
use Rattle.web.specs.Heads.{HasNoHead, ReadsMore}
use Rattle.web.proofs.head.read_head.Goals as goal

-- the bytes that were read are all there are, or as many as count: where they begin with no head, none is there
none_at_end : (old new : Option (List ℕ)) (got : List ℕ) → Consumes old new got → HasNoRequest got → IsAtEnd new → IfSome old HasNoHead
none_at_end None new got c none end = tt
none_at_end (Some xs) None got c none end = elim c [ ]
none_at_end (Some xs) (Some ys) got c none end = λ h rest head.
    let e : xs ≡ got = c ∙ (ap (λ (r : List ℕ). got ++ r) end ∙ append-nil got) in
    none h rest (subst (λ (b : List ℕ). ReadsRequest b h rest) e head.reads)

front_of : (a b p r : List ℕ) → a ++ b ≡ p ++ r → length p ≤ length a → a ≡ p ++ drop (length p) a
front_of a b p r e fits =
    let l : take (length p) (a ++ b) ≡ take (length p) a = take-append-le (length p) a b fits in
    let m : take (length p) (p ++ r) ≡ p = take-append_seam p r in
    let front : take (length p) a ≡ p = sym l ∙ (ap (take (length p)) e ∙ m) in
    sym (take-append-drop (length p) a) ∙ ap (λ (f : List ℕ). f ++ drop (length p) a) front

none_within : (old new : Option (List ℕ)) (got : List ℕ) → Consumes old new got → HasNoRequest got → HEAD_BYTES ≤ length got → IfSome old HasNoHead
none_within None new got c none long = tt
none_within (Some xs) None got c none long = elim c [ ]
none_within (Some xs) (Some ys) got c none long = λ h rest head.
    let front = front_of got ys (print_request h) rest (sym c ∙ head.reads.1) (omega (arith, head.short)) in
    none h (drop (length (print_request h)) got) (head.reads.0, front)

nil_of_length : (xs : List ℕ) → length xs ≡ 0 → xs ≡ []
nil_of_length [] h = refl
nil_of_length (x ∷ xs) h = absurd (omega arith)

ended : (old mid new : Option (List ℕ)) (before after : List ℕ) (filled n : ℕ) → filled < length before
    → Consumes old mid (take filled before) → HasNoRequest (take filled before) → n ≡ 0 → ReadsMore mid new before after filled n → IfSome old HasNoHead
ended old mid new before after filled n room taken none e f =
    let front = take filled before in
    let l1 = length-take-le (filled + n) after f.within in
    let l2 = length-take-le filled before (omega arith) in
    let l3 = ap length f.holds in
    let nil : f.got ≡ [] = nil_of_length f.got (omega (arith, length-append front f.got)) in
    let same : front ++ f.got ≡ front = ap (λ (r : List ℕ). front ++ r) nil ∙ append-nil front in
    none_at_end old new (front ++ f.got) (Consumes-trans old mid new front f.got taken f.taken)
    (subst (λ (b : List ℕ). HasNoRequest b) (sym same) none) (f.end e room)

no_empty_head : HasNoRequest []
unfolding print_request
no_empty_head h rest r = let e = simp length-append at (ap length r.1) in omega (arith, e, r.0.method.0)

pub loop-filled-init : goal.loop-filled-init
loop-filled-init g c = record {
  within = omega arith;
  taken = Consumes-nil _;
  none = no_empty_head;
  may_come = inl refl;
  pieces = [];
  came = refl;
  joined_is = refl;
}

pub returns-then-n-eq0-clause-none : goal.returns-then-n-eq0-clause-none
returns-then-n-eq0-clause-none g c =
    ended _ _ _ _ _ _ _ (omega arith) c.loop-filled.invariant.taken c.loop-filled.invariant.none c.if-n-eq0.true c.in_ok-n.ensures.more

pub returns-clause-none : goal.returns-clause-none
returns-clause-none g c = none_within _ _ _ c.loop-filled.invariant.taken c.loop-filled.invariant.none
    (omega (
      arith,
      length-take-le c.loop-filled.filled c.loop-filled.buf
          (omega (arith, c.loop-filled.invariant.within, c.loop-filled.auto.buf, c.requires.size)),
      c.loop-filled-test.false,
      c.loop-filled.auto.buf,
      c.requires.size,
    ))

pub loop-filled-preserved : goal.loop-filled-preserved
loop-filled-preserved g c =
    let i = c.loop-filled.invariant in
    let into = c.in_ok-n.ensures.once in
    let size : length c.loop-filled.buf ≡ HEAD_BYTES = omega (arith, c.loop-filled.auto.buf, c.requires.size) in
    record {
      within = search rules;
      taken = subst (λ (bs : List ℕ). Consumes (g.R.Read.remaining c.args.reader.now) (g.R.Read.remaining c.fill.new.reader) bs)
          (sym into.holds) (Consumes-trans _ _ _ _ into.piece i.taken into.read.left);
      none = search rules;
      may_come = inr (rw c.in-Ok-Partial.field-0-is at c.in-Ok-Partial.ensures.unfinished);
      pieces = into.piece ∷ i.pieces;
      came = came_more g.R.Source.reads g.R.Read.remaining Wants i.pieces _ _ _ _ _ _ _ i.came
          (wants_head _ _ _ i.joined_is i.none i.may_come c.loop-filled-test.true size) into c.if-n-eq0.false;
      joined_is = ap (λ (xs : List ℕ). xs ++ into.piece) i.joined_is ∙ sym into.holds;
    }

-- the head read in part, and what one more read gave
module _ {A : Type 0} (reads : A → ℕ → Option (List ℕ) → A → Type 0) (remaining : A → Option (List ℕ)) (old mid new : A)
    (pieces : List (List ℕ)) (before after : List ℕ) (filled : ℕ) (came : Came reads remaining Wants pieces old mid)
    (is : joined pieces ≡ take filled before) (none : HasNoRequest (take filled before))
    (may : (take filled before ≡ []) ⊎ MayBecomeRequest (take filled before)) (size : length before ≡ HEAD_BYTES) where
  failed : (r : Result (Option (RequestSpans × ℕ)) WebFault) → filled < length before
      → ReadsPiece reads remaining (length before - filled) None mid new → r ≡ Err fault.Read
      → TakesHead reads remaining old new after r
  failed r room read told = subst (TakesHead reads remaining old new after) (sym told) (record {
    takes = record {
      pieces = pieces;
      mid = mid;
      came = came;
      ends = inr (record { room = length before - filled; wanted = wants_head (joined pieces) before filled is none may room size; read = read }, refl);
    };
    holds = tt;
  })

  ended_there : (n : ℕ) → filled < length before → ReadsInto reads remaining mid new before after filled n → n ≡ 0
      → TakesHead reads remaining old new after (Ok None)
  ended_there n room into zero = record {
    takes = record {
      pieces = pieces;
      mid = mid;
      came = came;
      ends = inr (found_end reads remaining Wants (joined pieces) mid new before after filled n
          (wants_head (joined pieces) before filled is none may room size) into zero);
    };
    holds = tt;
  }

  grown : (n : ℕ) → filled < length before → (into : ReadsInto reads remaining mid new before after filled n) → (n ≡ 0 → ⊥)
      → (ps : List (List ℕ)) × Came reads remaining Wants ps old new × (joined ps ≡ take (filled + n) after)
  grown n room into some = (
    into.piece ∷ pieces,
    came_more reads remaining Wants pieces old mid new before after filled n came
        (wants_head (joined pieces) before filled is none may room size) into some,
    ap (λ (xs : List ℕ). xs ++ into.piece) is ∙ sym into.holds,
  )

  whole : (n : ℕ) (head : RequestSpans) → filled < length before → ReadsInto reads remaining mid new before after filled n → (n ≡ 0 → ⊥)
      → TakesHead reads remaining old new after (Ok (Some (head, filled + n)))
  whole n head room into some =
      let m = grown n room into some in
      record { takes = record { pieces = m.0; mid = new; came = m.1; ends = refl }; holds = m.2 }

  refused : (n : ℕ) → filled < length before → ReadsInto reads remaining mid new before after filled n → (n ≡ 0 → ⊥)
      → TakesHead reads remaining old new after (Ok None)
  refused n room into some =
      let m = grown n room into some in
      record { takes = record { pieces = m.0; mid = new; came = m.1; ends = inl refl }; holds = tt }

pub returns-in_err-n-clause-takes : goal.returns-in_err-n-clause-takes
returns-in_err-n-clause-takes g c =
    let i = c.loop-filled.invariant in
    failed g.R.Source.reads g.R.Read.remaining _ _ _ i.pieces _ _ _ i.came i.joined_is i.none i.may_come
    (omega (arith, c.loop-filled.auto.buf, c.requires.size)) _ c.loop-filled-test.true c.in_err-n.ensures.once (search rules)

pub returns-then-n-eq0-clause-takes : goal.returns-then-n-eq0-clause-takes
returns-then-n-eq0-clause-takes g c =
    let i = c.loop-filled.invariant in
    ended_there g.R.Source.reads g.R.Read.remaining _ _ _ i.pieces _ _ _ i.came i.joined_is i.none i.may_come
    (omega (arith, c.loop-filled.auto.buf, c.requires.size)) _ c.loop-filled-test.true c.in_ok-n.ensures.once c.if-n-eq0.true

pub returns-in-Ok-Complete-clause-takes : goal.returns-in-Ok-Complete-clause-takes
returns-in-Ok-Complete-clause-takes g c =
    let i = c.loop-filled.invariant in
    whole g.R.Source.reads g.R.Read.remaining _ _ _ i.pieces _ _ _ i.came i.joined_is i.none i.may_come
    (omega (arith, c.loop-filled.auto.buf, c.requires.size)) _ c.in-Ok-Complete.head c.loop-filled-test.true c.in_ok-n.ensures.once c.if-n-eq0.false

pub returns-in-Err-clause-takes : goal.returns-in-Err-clause-takes
returns-in-Err-clause-takes g c =
    let i = c.loop-filled.invariant in
    refused g.R.Source.reads g.R.Read.remaining _ _ _ i.pieces _ _ _ i.came i.joined_is i.none i.may_come
    (omega (arith, c.loop-filled.auto.buf, c.requires.size)) _ c.loop-filled-test.true c.in_ok-n.ensures.once c.if-n-eq0.false

pub returns-clause-takes : goal.returns-clause-takes
returns-clause-takes g c =
    let i = c.loop-filled.invariant in
    record { takes = record { pieces = i.pieces; mid = c.loop-filled.reader; came = i.came; ends = inl refl }; holds = tt }
