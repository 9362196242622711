-- How a body is read.
use Rattle.std.proofs.Common.{◌≡◌, ℕ, ◌+◌, ◌<◌, ◌≤◌, List, [], ◌∷◌, ◌++◌, arith, length, take, sym, ap, ◌∙◌, Option, Some, None, length-take-le, refl}
use Rattle.std.specs.Io.KnownBytes.{Consumes, IsAtEnd}
use Rattle.std.proofs.KnownBytes.{Consumes-trans}
use Rattle.std.proofs.lemmas.List.{append-nil, length-append}
use Rattle.std.proofs.lemmas.List.{take-append-le, append_assoc}
use Rattle.std.proofs.lemmas.Bool.{cases_lt}
use Rattle.std.proofs.Math.Seq.{take-append_seam, take-length}
use Rattle.std.specs.Prelude.{min, true, IfSome}
use Rattle.std.proofs.Common.{inl, inr, take_all}
use Rattle.web.specs.Bodies.{FillsAll}
use Rattle.web.specs.Heads.{ReadsMore}

-- a read gave nothing, and there was room
pub fill_ended : (old mid new : Option (List ℕ)) (first before after got : List ℕ) (start filled n : ℕ) → start ≤ length first
    → filled < length before → length before ≡ length first
    → Consumes old mid got → take filled before ≡ take start first ++ got → n ≡ 0 → ReadsMore mid new before after filled n
    → (x : List ℕ) × Consumes old new x × IsAtEnd new × (start + length x < length first)
fill_ended old mid new first before after got start filled n s room same taken holds zero f =
    let a = ap length holds in
    let b = ap length f.holds in
    let c = length-take-le filled before (omega arith) in
    let d = length-take-le start first s in
    let e = length-take-le (filled + n) after f.within in (
      got ++ f.got,
      Consumes-trans old mid new got f.got taken f.taken,
      f.end zero room,
      omega (arith, a, b, c, d, e, length-append got f.got, length-append (take start first) got, length-append (take filled before) f.got),
    )

front_is : (xs ys : List ℕ) (n : ℕ) → n ≡ length xs → take n (xs ++ ys) ≡ xs
front_is xs ys n e = ap (λ (m : ℕ). take m (xs ++ ys)) e ∙ take-append_seam xs ys

nil_is : (xs : List ℕ) → length xs ≡ 0 → xs ≡ []
nil_is [] h = refl
nil_is (x ∷ xs) h = absurd (omega (arith, h))

-- the front that came with the head is shorter than the body
short_front : (front first after left got rest : List ℕ) (size kept : ℕ) → kept ≡ length front → take kept first ≡ take kept front → length after ≡ size
    → left ≡ got ++ rest → after ≡ take kept first ++ got → (size ≤ length (front ++ left)) × (take size (front ++ left) ≡ after)
short_front front first after left got rest size kept k same long is holds =
    let p : take kept first ≡ front = same ∙ (ap (λ (m : ℕ). take m front) k ∙ take-length front) in
    let a : after ≡ front ++ got = holds ∙ ap (λ (x : List ℕ). x ++ got) p in
    let whole : front ++ left ≡ after ++ rest =
    ap (λ (x : List ℕ). front ++ x) is ∙ (sym (append_assoc front got rest) ∙ ap (λ (x : List ℕ). x ++ rest) (sym a)) in
    let n = ap length whole in
    (omega (arith, n, length-append after rest, long), ap (take size) whole ∙ front_is after rest size (sym long))

-- it holds the whole body
long_front : (front first after left got : List ℕ) (size kept : ℕ) → kept ≡ size → size ≤ length front → take kept first ≡ take kept front
    → length first ≡ size → length after ≡ size
    → after ≡ take kept first ++ got → (size ≤ length (front ++ left)) × (take size (front ++ left) ≡ after)
long_front front first after left got size kept k fits same wide long holds =
    let l = ap length holds in
    let m = length-take-le kept first (omega (arith, k, wide)) in
    let nil : got ≡ [] = nil_is got (omega (arith, l, m, k, long, length-append (take kept first) got)) in
    let a : after ≡ take size front =
    holds ∙ (ap (λ (x : List ℕ). take kept first ++ x) nil
    ∙ (append-nil (take kept first) ∙ (same ∙ ap (λ (m : ℕ). take m front) k))) in
    (omega (arith, length-append front left, fits), take-append-le size front left fits ∙ sym a)

-- the buffer holds the body
pub body_whole : (old new : Option (List ℕ)) (front first after tail : List ℕ) (size kept n : ℕ) → kept ≡ min (length front) size
    → take kept first ≡ take kept front → length first ≡ size
    → length after ≡ size → n ≡ size → FillsAll old new first after kept true
    → IfSome old (λ left. (size ≤ length (front ++ left)) × (take n (after ++ tail) ≡ take size (front ++ left)))
body_whole None new front first after tail size kept n k same wide long is f = tt
body_whole (Some left) None front first after tail size kept n k same wide long is f = elim f.1 [ ]
body_whole (Some left) (Some rest) front first after tail size kept n k same wide long is f =
    let cut = front_is after tail n (is ∙ sym long) in
    let both : (size ≤ length (front ++ left)) × (take size (front ++ left) ≡ after) =
    elim (cases_lt size (length front)) [
      | inl less ↦ long_front front first after left f.0 size kept (omega (arith, k, less)) (omega (arith, less)) same wide long f.2
      | inr more ↦ short_front front first after left f.0 rest size kept (omega (arith, k, more)) same long f.1 f.2
    ] in
    (both.0, cut ∙ sym both.1)

-- a buffer that was made of the front and grew
pub resized : (front items first whole reps : List ℕ) (size kept : ℕ) → kept ≡ min (length front) size → items ≡ take kept front → first ≡ whole
    → whole ≡ take size items ++ reps → take kept first ≡ take kept front
resized front items first whole reps size kept k is same grown =
    let l = length-take-le kept front (omega (arith, k)) in
    let short : length items ≤ size = omega (arith, ap length is, l, k) in
    let all : take size items ≡ take kept front = take_all size items short ∙ is in
    ap (take kept) (same ∙ (grown ∙ ap (λ (x : List ℕ). x ++ reps) all)) ∙ front_is (take kept front) reps kept (sym l)
