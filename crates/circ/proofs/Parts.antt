-- Each worker's part in a hall.
use Rattle.std.proofs.Common.{◌≡◌, inl, inr, ℕ, zero, suc, ◌+◌, Bool, true, false, true≢false, List, [], ◌∷◌, ◌++◌, length, map, refl, sym, ap, ◌∙◌, subst, arith}
use Rattle.std.specs.Prelude.{Option, Result, Ok, Err, MatchResult, IsOk, is_ok, if◌then◌else◌}
use Rattle.std.proofs.lemmas.List.{map-append, length-append}
use Rattle.clerks.specs.declared.clerk.Clerk.{Clerk}
use Rattle.board.specs.declared.entry.Seen.{Seen}
use Rattle.hall.specs.declared.messages.Message.{Message}
use Rattle.hall.specs.declared.messages.View.{View}
use Rattle.hall.specs.Queue.{AreFirst, of, is_open, worker_view, worker_views}
use Rattle.hall.specs.Serving.{Working, AreWorkers, TookPart}
use Rattle.circ.specs.Connections.{ServesNext, ServesMany, Works, WorksOrLeaves}
use Rattle.circ.specs.Serving.{AllInTurn, TakesPart}

-- ---- lists of two

pub all-map : {C : Type 0} (P Q : ℕ → C → C → Type 0) → ((k : ℕ) (x y : C) → P k x y → Q k x y) → (k : ℕ) (xs ys : List C)
    → AllInTurn P k xs ys → AllInTurn Q k xs ys
all-map P Q f k [] [] h = tt
all-map P Q f k (x ∷ xs) (y ∷ ys) h = (f (k + 1) x y h.0, all-map P Q f (k + 1) xs ys h.1)
all-map P Q f k [] (y ∷ ys) h = absurd h
all-map P Q f k (x ∷ xs) [] h = absurd h

pub all-snoc : {C : Type 0} (P : ℕ → C → C → Type 0) (k n : ℕ) (xs ys : List C) (x y : C) → AllInTurn P k xs ys → n ≡ k + (length xs + 1)
    → P n x y → AllInTurn P k (xs ++ x ∷ []) (ys ++ y ∷ [])
all-snoc P k n [] [] x y h e p = let e' : n ≡ k + 1 = omega (arith, e) in (subst (λ m. P m x y) e' p, tt)
all-snoc P k n (a ∷ xs) (b ∷ ys) x y h e p = (h.0, all-snoc P (k + 1) n xs ys x y h.1 (omega (arith, e)) p)
all-snoc P k n [] (b ∷ ys) x y h e p = absurd h
all-snoc P k n (a ∷ xs) [] x y h e p = absurd h

snoc-apart : {T : Type 0} (xs ys : List T) (x y : T) → xs ++ x ∷ [] ≡ ys ++ y ∷ [] → (xs ≡ ys) × (x ≡ y)
snoc-apart [] [] x y e = (refl, cc)
snoc-apart (a ∷ xs) (b ∷ ys) x y e =
    let tails : xs ++ x ∷ [] ≡ ys ++ y ∷ [] = cc in
    let heads : a ≡ b = cc in
    let r = snoc-apart xs ys x y tails in (cc, r.1)
snoc-apart [] (b ∷ ys) x y e = absurd (omega (arith, length-append ys (y ∷ []), ap length e))
snoc-apart (a ∷ xs) [] x y e = absurd (omega (arith, length-append xs (x ∷ []), ap length e))

pub all-length : {C : Type 0} (P : ℕ → C → C → Type 0) (k : ℕ) (xs ys : List C) → AllInTurn P k xs ys → length xs ≡ length ys
all-length P k [] [] h = refl
all-length P k (x ∷ xs) (y ∷ ys) h = ap suc (all-length P (k + 1) xs ys h.1)
all-length P k [] (y ∷ ys) h = absurd h
all-length P k (x ∷ xs) [] h = absurd h

-- the last of these workers, and the others
pub last-worker : (all rest : List Working) (w : Working) → AreWorkers (length all) all → all ≡ rest ++ w ∷ []
    → AreWorkers (length rest) rest × (w.post ≡ worker_view (length rest + 1))
last-worker all rest w are e =
    let n : length all ≡ suc (length rest) = omega (arith, ap length e, length-append rest (w ∷ [])) in
    let posts : map (λ (x : Working). x.post) rest ++ w.post ∷ [] ≡ worker_views (length rest) ++ worker_view (suc (length rest)) ∷ [] =
    sym (map-append (λ (x : Working). x.post) rest (w ∷ []))
    ∙ (ap (map (λ (x : Working). x.post)) (sym e) ∙ (are ∙ ap worker_views n)) in
    let r = snoc-apart (map (λ (x : Working). x.post) rest) (worker_views (length rest)) w.post (worker_view (suc (length rest))) posts in
    let m : suc (length rest) ≡ length rest + 1 = omega arith in
    (r.0, r.1 ∙ ap worker_view m)

views-length : (n : ℕ) → length (worker_views n) ≡ n
views-length zero = refl
views-length (suc n) = omega (arith, length-append (worker_views n) (worker_view (suc n) ∷ []), views-length n)

posts-length : (all : List Working) → length (map (λ (x : Working). x.post) all) ≡ length all
posts-length [] = refl
posts-length (w ∷ ws) = ap suc (posts-length ws)

-- so many workers
pub workers-length : (n : ℕ) (all : List Working) → AreWorkers n all → length all ≡ n
workers-length n all are = sym (posts-length all) ∙ (ap length are ∙ views-length n)

-- what a push that succeeds makes
pub pushed : {T E X : Type 0} (r : Result T E) (l a b : List X) → IsOk r → l ≡ (if is_ok r then a else b) → l ≡ a
pushed (Ok x) l a b ok e = e
pushed (Err x) l a b ok e = absurd (true≢false (sym ok))

-- ---- threads

-- what is known once a thread is joined, or without a thread
pub joined : {H D : Type 0} (s : Result H D) (A B : H → Type 0) (E : D → Type 0) (d : D) (Q : D → Type 0)
    → MatchResult s A E → MatchResult s B (λ x. d ≡ x) → ((h : H) → A h → B h → Q d) → ((x : D) → E x → Q x) → Q d
joined (Ok h) A B E d Q a b there here = there h a b
joined (Err x) A B E d Q a b there here = subst Q (sym b) (here x a)

pub at-these : {K N C W : Type 0} (F : K → N → C → W → Type 0) (k k' : K) (n n' : N) (c c' : C) (w w' : W)
    → k ≡ k' → n ≡ n' → c ≡ c' → w ≡ w' → F k n c w → F k' n' c' w'
at-these F k k' n n' c c' w w' ek en ec ew f =
    subst (λ z. F k' n' c' z) ew (subst (λ z. F k' n' z w) ec (subst (λ z. F k' z c w) en (subst (λ z. F z n c w) ek f)))

-- ---- a worker's part

module _ {C I O : Type 0} (comes : C → I → O → C → Type 0) (goes : C → O → Bool → C → Type 0) (misses : C → Type 0)
    (remaining : I → Option (List ℕ)) (contents : O → Option (List ℕ)) (clerks : List Clerk) where
  next-worker : (old new : C) (before after : Working) → ServesNext comes goes misses remaining contents clerks old new before after
      → after.post.worker ≡ before.post.worker
  next-worker old new before after (inl one) = elim one.served.once [
    | inl same ↦ ap (λ (v : View). v.worker) same
    | inr sent ↦ ap (λ (v : View). v.worker) sent.5.1
  ]
  next-worker old new before after (inr none) = ap (λ (w : Working). w.post.worker) none.2

  many-worker : (n : ℕ) (old new : C) (before after : Working) → ServesMany comes goes misses remaining contents clerks n old new before after
      → after.post.worker ≡ before.post.worker
  many-worker zero old new before after h = ap (λ (w : Working). w.post.worker) h.1
  many-worker (suc n) old new before after h =
      next-worker h.0 new h.1 after h.3 ∙ many-worker n old h.0 before h.1 h.2

  -- the number of a worker that has left
  left-worker : (n : ℕ) (old new : C) (hired left : Working) → Works comes goes misses remaining contents clerks n old new hired left
      → left.post.worker ≡ hired.post.worker
  left-worker n old new hired left works =
      let kept = many-worker n old new hired works.last works.all in
      elim works.post [
        | inl e ↦ ap (λ (v : View). v.worker) e ∙ kept
        | inr e ↦ ap (λ (v : View). v.worker) e ∙ kept
      ]

  module _ (each n : ℕ) (got : List Message) (shown : Seen) where
    -- the worker's end was taken in
    pub takes-part : (are_whole took_part : Bool) (served k : ℕ) (old new : C) (hired left : Working) → hired.post ≡ worker_view k
        → WorksOrLeaves comes goes misses remaining contents clerks each served old new hired left
        → (is_open (of left.post.worker got) ≡ false → AreFirst left.post.worker n got left.post.sent)
        → is_open (of k got) ≡ false
        → (took_part ≡ true → TookPart n got shown left) → (are_whole ≡ true → (took_part ≡ true) × (served ≡ each))
        → TakesPart comes goes misses remaining contents clerks each n got shown are_whole k old new
    takes-part are_whole took_part served k old new hired left fresh works first gone part whole =
        let number : left.post.worker ≡ k =
        left-worker served old new hired left works.works ∙ ap (λ (v : View). v.worker) fresh in
        record {
          served = served;
          hired = hired;
          left = left;
          fresh = fresh;
          works = works;
          first = subst (λ m. AreFirst m n got left.post.sent) number
              (first (subst (λ m. is_open (of m got) ≡ false) (sym number) gone));
          whole = λ is. ((whole is).1, part (whole is).0);
        }

    -- the other workers' parts, when one more end was taken in
    pub others : (n' : ℕ) (got' : List Message) (shown' : Seen) (inner outer : Bool) → n' ≡ n → got' ≡ got → shown' ≡ shown
        → (outer ≡ true → inner ≡ true) → (k : ℕ) (old new : C)
        → TakesPart comes goes misses remaining contents clerks each n got shown inner k old new
        → TakesPart comes goes misses remaining contents clerks each n' got' shown' outer k old new
    others n' got' shown' inner outer en eg es less k old new part =
        let now : TakesPart comes goes misses remaining contents clerks each n got shown outer k old new = record {
          served = part.served;
          hired = part.hired;
          left = part.left;
          fresh = part.fresh;
          works = part.works;
          first = part.first;
          whole = λ is. part.whole (less is);
        } in
        subst (λ (m : ℕ). TakesPart comes goes misses remaining contents clerks each m got' shown' outer k old new) (sym en)
        (subst (λ (l : List Message). TakesPart comes goes misses remaining contents clerks each n l shown' outer k old new) (sym eg)
        (subst (λ (v : Seen). TakesPart comes goes misses remaining contents clerks each n got v outer k old new) (sym es) now))
