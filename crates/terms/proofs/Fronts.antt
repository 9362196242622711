-- Bytes that go out in order.
use Rattle.std.proofs.Common.{◌≡◌, ℕ, suc, ◌<◌, List, [], ◌++◌, Bor, Option, None, Some, append_assoc, append-nil, sym, ◌∙◌, ap, subst}
use Rattle.std.proofs.Common.{length, take, drop, get_or, take-append-drop}
use Rattle.std.proofs.Math.Seq.{drop-cons}
use Rattle.std.proofs.lemmas.Grind.{flat_map-append}
use Rattle.std.proofs.KnownBytes.{Appends-trans}
use Rattle.std.specs.Prelude.{Result, Ok, Err, OnOk, OnErr}
use Rattle.std.specs.Io.KnownBytes.{Appends, Keeps}
use Rattle.terms.specs.Writing.{AppendsFront, joined}

-- a beginning of what follows, after all that came before, is a beginning of both
pub front-after : (a b c : Option (List ℕ)) (xs ys : List ℕ) → Appends a b xs → AppendsFront b c ys → AppendsFront a c (xs ++ ys)
front-after a b c xs ys p q = record {
  sent = xs ++ q.sent;
  rest = q.rest;
  whole = ap (λ (zs : List ℕ). xs ++ zs) q.whole ∙ sym (append_assoc xs q.sent q.rest);
  wrote = Appends-trans a b c xs q.sent p q.wrote;
}

-- a beginning is one of whatever may follow too
pub front-before : (a b : Option (List ℕ)) (xs ys : List ℕ) → AppendsFront a b xs → AppendsFront a b (xs ++ ys)
front-before a b xs ys p = record {
  sent = p.sent;
  rest = p.rest ++ ys;
  whole = ap (λ (zs : List ℕ). zs ++ ys) p.whole ∙ append_assoc p.sent p.rest ys;
  wrote = p.wrote;
}

-- what goes out after nothing
pub after-nothing : (a b c : Option (List ℕ)) (xs : List ℕ) → Keeps a b → Appends b c xs → Appends a c xs
after-nothing None b c xs p q = tt
after-nothing (Some x) None c xs p q = absurd p
after-nothing (Some x) (Some y) None xs p q = absurd q
after-nothing (Some x) (Some y) (Some z) xs p q = q ∙ ap (λ (l : List ℕ). l ++ xs) p

pub front-after-nothing : (a b c : Option (List ℕ)) (xs : List ℕ) → Keeps a b → AppendsFront b c xs → AppendsFront a c xs
front-after-nothing a b c xs p q = record { sent = q.sent; rest = q.rest; whole = q.whole; wrote = after-nothing a b c q.sent p q.wrote }

-- nothing goes out
pub appends-nothing : (a : Option (List ℕ)) → Appends a a []
appends-nothing None = tt
appends-nothing (Some x) = sym (append-nil x)

-- the pieces before one, that piece, and the others are all of them
joined-at : (pieces : List (Bor (List ℕ))) (i : ℕ) (d : Bor (List ℕ)) → i < length pieces
    → joined pieces ≡ joined (take i pieces) ++ ((get_or pieces i d).now ++ joined (drop (suc i) pieces))
joined-at pieces i d h =
    ap joined (sym (take-append-drop i pieces)) ∙ flat_map-append (λ (p : Bor (List ℕ)). p.now) (take i pieces) (drop i pieces)
    ∙ ap (λ (rest : List (Bor (List ℕ))). joined (take i pieces) ++ joined rest) (drop-cons pieces i d h)

-- a beginning of a piece after all the pieces before it is a beginning of the pieces
front-of-pieces : (a b c : Option (List ℕ)) (pieces : List (Bor (List ℕ))) (i : ℕ) (d : Bor (List ℕ)) → i < length pieces
    → Appends a b (joined (take i pieces)) → AppendsFront b c (get_or pieces i d).now → AppendsFront a c (joined pieces)
front-of-pieces a b c pieces i d h p q =
    subst (AppendsFront a c) (sym (joined-at pieces i d h))
    (front-after a b c (joined (take i pieces)) _ p (front-before b c (get_or pieces i d).now (joined (drop (suc i) pieces)) q))

-- a write that failed at its first part
pub failed-first : {T E : Type 0} (r : Result T E) (a b : Option (List ℕ)) (xs ys : List ℕ) → AppendsFront a b xs → OnErr r (AppendsFront a b (xs ++ ys))
failed-first (Ok x) a b xs ys p = tt
failed-first (Err e) a b xs ys p = front-before a b xs ys p

-- a write whose first part went out, by what became of the other part
pub second-out : {T E : Type 0} (r : Result T E) (a b c : Option (List ℕ)) (xs ys : List ℕ) → Appends a b xs → OnOk r (Appends b c ys)
    → OnOk r (Appends a c (xs ++ ys))
second-out (Ok x) a b c xs ys p q = Appends-trans a b c xs ys p q
second-out (Err e) a b c xs ys p q = tt

pub second-failed : {T E : Type 0} (r : Result T E) (a b c : Option (List ℕ)) (xs ys : List ℕ) → Appends a b xs
    → OnErr r (AppendsFront b c ys) → OnErr r (AppendsFront a c (xs ++ ys))
second-failed (Ok x) a b c xs ys p q = tt
second-failed (Err e) a b c xs ys p q = front-after a b c xs ys p q

pub failed-at : {T E : Type 0} (r : Result T E) (a b c : Option (List ℕ)) (pieces : List (Bor (List ℕ))) (i : ℕ) (d : Bor (List ℕ)) → i < length pieces
    → Appends a b (joined (take i pieces)) → AppendsFront b c (get_or pieces i d).now → OnErr r (AppendsFront a c (joined pieces))
failed-at (Ok x) a b c pieces i d h p q = tt
failed-at (Err e) a b c pieces i d h p q = front-of-pieces a b c pieces i d h p q
