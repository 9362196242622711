-- Lists asked for part by part show each number once, and the first in line is served.
use Rattle.std.proofs.Common.{◌≡◌, ℕ, zero, suc, ◌+◌, ◌≤◌, ◌<◌, ◌==◌, Bool, true, false, cond, ◌||◌, ◌&&◌, ◌⊎◌, inl, inr, List, [], ◌∷◌, ◌++◌}
use Rattle.std.proofs.Common.{refl, sym, ◌∙◌, ap, ap₂, subst, arith, length, take, drop, nat_lt}
use Rattle.std.specs.Prelude.{filter, Option, Some, None}
use Rattle.std.proofs.lemmas.Bool.{eqb-true, and_parts, ltb-true, ltb-false, lt-ltb}
use Rattle.terms.specs.declared.limits.TheConstants.{MOST_ROWS}
use Rattle.model.specs.History.{History, numbers_to, singles_of, branches, kinds, ruled, copies, patrons, titles, loans, holds}
use Rattle.model.specs.Accounts.{lines}
use Rattle.model.proofs.Moves.{false-ne}
use Rattle.model.specs.Places.{Place, Shelf, HoldShelf, Transit, place, state, line, is_begun, route}
use Rattle.model.specs.Places.{route_to, route_from, title_of_copy, title_of_hold, goal_of}
use Rattle.model.specs.Asking.{above, shown_from, left_from, last_of, put_in, rising, first_of, is_first, is_shelf_of, travels_for}
use Rattle.model.specs.AskingLaws.{ListsRise, Rises, AreRising, has_number, AllHave, if_left, IfLeft, shown_in_turn, IsAskedToItsEnd, times, ListsShowOnce}
use Rattle.model.specs.AskingLaws.{FirstIsServed, PulledCopiesServe}
use Rattle.model.specs.Invariant.{Serves}
use Rattle.model.proofs.Members.{has, filter-has}

-- ---- lists

false-is : (b : Bool) → b ≡ true → b ≡ false → ⊥
false-is b e f = let never : true ≡ false = sym e ∙ f in cc

-- Numbers that rise from one number rise from a smaller one.
pub rises-from : (a b : ℕ) (xs : List ℕ) → a ≤ b → Rises b xs → Rises a xs
rises-from a b [] le r = tt
rises-from a b (x ∷ xs) le r = (omega (arith, le, r.0), r.1)

pub rises-take : (k a : ℕ) (xs : List ℕ) → Rises a xs → Rises a (take k xs)
rises-take zero a xs r = tt
rises-take (suc k) a [] r = tt
rises-take (suc k) a (x ∷ xs) r = (r.0, rises-take k x xs r.1)

-- The last number is not below the one before them.
pub last-above : (a : ℕ) (xs : List ℕ) → Rises a xs → a ≤ last_of a xs
last-above a [] r = omega arith
last-above a (x ∷ xs) r = let le = last-above x xs r.1 in omega (arith, le, r.0)

-- A number that is not above the one before them isn't among them.
pub times-none : (a n : ℕ) (xs : List ℕ) → Rises a xs → n ≤ a → times xs n ≡ 0
times-none a n [] r le = refl
times-none a n (x ∷ xs) r le = go (times-none x n xs r.1) (x == n) refl
  where
    go : (n ≤ x → times xs n ≡ 0) → (b : Bool) → (x == n) ≡ b → length (cond b (x ∷ filter (λ m. m == n) xs) (filter (λ m. m == n) xs)) ≡ 0
    go ih true e = let same : x ≡ n = eqb-true x n e in let never : ⊥ = omega (arith, same, r.0, le) in absurd never
    go ih false e = ih (omega (arith, r.0, le))

-- A number that is among them is above the one before them.
pub has-above : (a n : ℕ) (xs : List ℕ) → Rises a xs → has_number xs n → a < n
has-above a n [] r h = let never : ⊥ = cc in absurd never
has-above a n (x ∷ xs) r h = go (has-above x n xs r.1) (x == n) refl h
  where
    go : (has_number xs n → x < n) → (b : Bool) → (x == n) ≡ b → (b || has xs n) ≡ true → a < n
    go ih true e h = let same : x ≡ n = eqb-true x n e in omega (arith, same, r.0)
    go ih false e h = let lt = ih h in omega (arith, lt, r.0)

-- A number among them is among the first k, and the last of these is not below it, or it is among the others, and the last of the first k is below it.
abbrev Cut : ℕ → ℕ → ℕ → List ℕ → Type 0
Cut k a n xs = ((times (take k xs) n ≡ 1) × (n ≤ last_of a (take k xs)))
    ⊎ ((times (take k xs) n ≡ 0) × (last_of a (take k xs) < n) × has_number (drop k xs) n)

cut : (k a n : ℕ) (xs : List ℕ) → Rises a xs → has_number xs n → Cut k a n xs
cut zero a n xs r h = inr (refl, has-above a n xs r h, h)
cut (suc k) a n [] r h = let never : ⊥ = cc in absurd never
cut (suc k) a n (x ∷ xs) r h = go (cut k x n xs r.1) (x == n) refl h
  where
    here : x ≡ n → times (take k xs) n ≡ 0
    here same = times-none x n (take k xs) (rises-take k x xs r.1) (omega (arith, same))

    go : (has_number xs n → Cut k x n xs) → (b : Bool) → (x == n) ≡ b → (b || has xs n) ≡ true
        → ((length (cond b (x ∷ filter (λ m. m == n) (take k xs)) (filter (λ m. m == n) (take k xs))) ≡ 1) × (n ≤ last_of x (take k xs)))
        ⊎ ((length (cond b (x ∷ filter (λ m. m == n) (take k xs)) (filter (λ m. m == n) (take k xs))) ≡ 0) × (last_of x (take k xs) < n)
        × has_number (drop k xs) n)
    go ih true e h =
        let same : x ≡ n = eqb-true x n e in
        let le = last-above x (take k xs) (rises-take k x xs r.1) in
        inl (ap suc (here same), omega (arith, same, le))
    go ih false e h = ih h

-- The numbers above one rise from it.
pub rises-filter : (test : ℕ → Bool) (a : ℕ) (xs : List ℕ) → Rises a xs → Rises a (filter test xs)
rises-filter test a [] r = tt
rises-filter test a (x ∷ xs) r = go (rises-filter test x xs r.1) (test x)
  where
    go : Rises x (filter test xs) → (b : Bool) → Rises a (cond b (x ∷ filter test xs) (filter test xs))
    go ih true = (r.0, ih)
    go ih false = rises-from a x (filter test xs) (omega (arith, r.0)) ih

pub rises-are : (a : ℕ) (xs : List ℕ) → Rises a xs → AreRising xs
rises-are a [] r = tt
rises-are a (x ∷ xs) r = r.1

pub rising-filter : (test : ℕ → Bool) (xs : List ℕ) → AreRising xs → AreRising (filter test xs)
rising-filter test [] r = tt
rising-filter test (x ∷ xs) r = go (test x)
  where
    go : (b : Bool) → AreRising (cond b (x ∷ filter test xs) (filter test xs))
    go true = rises-filter test x xs r
    go false = rises-are x (filter test xs) (rises-filter test x xs r)

pub rises-above : (after : ℕ) (xs : List ℕ) → AreRising xs → Rises after (above after xs)
rises-above after [] r = tt
rises-above after (x ∷ xs) r = go (rises-above after xs (rises-are x xs r)) (nat_lt after x) refl
  where
    go : Rises after (above after xs) → (b : Bool) → nat_lt after x ≡ b → Rises after (cond b (x ∷ above after xs) (above after xs))
    go ih true e = (ltb-true after x e, rises-filter (λ n. nat_lt after n) x xs r)
    go ih false e = ih

-- ---- the lists rise

put-rises : (a n : ℕ) (xs : List ℕ) → a < n → Rises a xs → Rises a (put_in n xs)
put-rises a n [] lt r = (lt, tt)
put-rises a n (m ∷ ms) lt r = go (λ l. put-rises m n ms l r.1) (nat_lt n m) refl (n == m) refl
  where
    go : (m < n → Rises m (put_in n ms)) → (x : Bool) → nat_lt n m ≡ x → (y : Bool) → (n == m) ≡ y
        → Rises a (cond x (n ∷ m ∷ ms) (cond y (m ∷ ms) (m ∷ put_in n ms)))
    go ih true e y f = (lt, (ltb-true n m e, r.1))
    go ih false e true f = r
    go ih false e false f = (r.0, ih (omega (arith, ltb-false n m e, false-ne n m f)))

put-rising : (n : ℕ) (xs : List ℕ) → AreRising xs → AreRising (put_in n xs)
put-rising n [] r = tt
put-rising n (m ∷ ms) r = go (nat_lt n m) refl (n == m) refl
  where
    go : (x : Bool) → nat_lt n m ≡ x → (y : Bool) → (n == m) ≡ y → AreRising (cond x (n ∷ m ∷ ms) (cond y (m ∷ ms) (m ∷ put_in n ms)))
    go true e y f = (ltb-true n m e, r)
    go false e true f = r
    go false e false f = put-rises m n ms (omega (arith, ltb-false n m e, false-ne n m f)) r

pub rising-rises : (xs : List ℕ) → AreRising (rising xs)
rising-rises [] = tt
rising-rises (n ∷ ns) = put-rising n (rising ns) (rising-rises ns)

rises-append : (a n : ℕ) (xs : List ℕ) → Rises a xs → last_of a xs < n → Rises a (xs ++ n ∷ [])
rises-append a n [] r lt = (lt, tt)
rises-append a n (x ∷ xs) r lt = (r.0, rises-append x n xs r.1 lt)

last-append : (a n : ℕ) (xs : List ℕ) → last_of a (xs ++ n ∷ []) ≡ n
last-append a n [] = refl
last-append a n (x ∷ xs) = last-append x n xs

last-number : (n : ℕ) → last_of 0 (numbers_to n) ≡ n
last-number zero = refl
last-number (suc n) = last-append 0 (suc n) (numbers_to n)

numbers-rise : (n : ℕ) → Rises 0 (numbers_to n)
numbers-rise zero = tt
numbers-rise (suc n) = let last = last-number n in rises-append 0 (suc n) (numbers_to n) (numbers-rise n) (omega (arith, last))

rising-numbers : (test : ℕ → Bool) (n : ℕ) → AreRising (filter test (numbers_to n))
rising-numbers test n = rising-filter test (numbers_to n) (rises-are 0 (numbers_to n) (numbers-rise n))

pub lists-rise : ListsRise
lists-rise H = record {
  copies = λ t. rising-filter _ (rising (copies H)) (rising-rises (copies H));
  queue = λ t. rising-numbers _ (holds H);
  account = λ p. rising-numbers _ (length (lines H));
  debts = rising-filter _ (rising (patrons H)) (rising-rises (patrons H));
  overdue = λ b. rising-numbers _ (loans H);
  shelf = λ b. rising-numbers _ (holds H);
  pulls = λ b. rising-numbers _ (holds H);
  transits = λ b. rising-filter _ (rising (copies H)) (rising-rises (copies H));
  found_patrons = λ text. rising-rises (patrons H);
  found_titles = λ text. rising-rises (titles H);
  branches = rising-rises (branches H);
  closed_days = λ b. rising-filter _ (rising (singles_of H b)) (rising-rises (singles_of H b));
  kinds = rising-rises (kinds H);
  rules = λ k. rising-rises (ruled H k);
  missing_copies = rising-filter _ (rising (copies H)) (rising-rises (copies H));
  loans = λ c. rising-numbers _ (loans H);
}

-- ---- asking again and again

no-more : (a : ℕ) → a ≡ 0 + a
no-more a = omega arith

one-more : (t a b : ℕ) → t ≡ a + b → suc t ≡ suc a + b
one-more t a b e = omega (arith, e)

pub times-append : (n : ℕ) (xs ys : List ℕ) → times (xs ++ ys) n ≡ times xs n + times ys n
times-append n [] ys = no-more (times ys n)
times-append n (x ∷ xs) ys = go (times-append n xs ys) (x == n)
  where
    go : times (xs ++ ys) n ≡ times xs n + times ys n → (b : Bool)
        → length (cond b (x ∷ filter (λ m. m == n) (xs ++ ys)) (filter (λ m. m == n) (xs ++ ys)))
        ≡ length (cond b (x ∷ filter (λ m. m == n) xs) (filter (λ m. m == n) xs)) + times ys n
    go ih true = one-more (times (xs ++ ys) n) (times xs n) (times ys n) ih
    go ih false = ih

-- Each of the lists rises.
abbrev AllRise : List (List ℕ) → Type 0
AllRise [] = Unit {0}
AllRise (numbers ∷ later) = AreRising numbers × AllRise later

all-rise : (n : ℕ) (lists : List (List ℕ)) → AllHave n lists → AllRise lists
all-rise n [] h = tt
all-rise n (numbers ∷ later) h = (h.0, all-rise n later h.2)

pub none-left : (rest more : List ℕ) (n : ℕ) → times more n ≡ 0 → times (if_left rest more) n ≡ 0
none-left [] more n e = refl
none-left (next ∷ others) more n e = e

-- A number that was passed is never shown again.
passed-by : (lists : List (List ℕ)) (after n : ℕ) → n ≤ after → AllRise lists → times (shown_in_turn lists after) n ≡ 0
passed-by [] after n le rise = refl
passed-by (numbers ∷ later) after n le rise =
    let first = rises-take MOST_ROWS after (above after numbers) (rises-above after numbers rise.0) in
    let shown = shown_from numbers after in
    let last : after ≤ last_of after shown = last-above after shown first in
    let none : times shown n ≡ 0 = times-none after n shown first le in
    let more = shown_in_turn later (last_of after shown) in
    times-append n shown (if_left (left_from numbers after) more)
    ∙ ap₂ (λ x y. x + y) none (none-left (left_from numbers after) more n (passed-by later (last_of after shown) n (omega (arith, le, last)) rise.1))

pub to-come : (rest more : List ℕ) (n : ℕ) (End : Type 0) → has_number rest n → IfLeft rest End → (End → times more n ≡ 1) → times (if_left rest more) n ≡ 1
to-come [] more n End h ends f = let never : ⊥ = cc in absurd never
to-come (next ∷ others) more n End h ends f = f ends

pub lists-show-once : ListsShowOnce
lists-show-once [] after n lt have ends = absurd ends
lists-show-once (numbers ∷ later) after n lt have ends =
    let shown = shown_from numbers after in
    let more = shown_in_turn later (last_of after shown) in
    times-append n shown (if_left (left_from numbers after) more)
    ∙ go (λ l. lists-show-once later (last_of after shown) n l have.2)
    (cut MOST_ROWS after n (above after numbers) (rises-above after numbers have.0) (filter-has (λ m. nat_lt after m) n numbers (lt-ltb after n lt) have.1))
  where
    go : (last_of after (shown_from numbers after) < n → IsAskedToItsEnd later (last_of after (shown_from numbers after))
        → times (shown_in_turn later (last_of after (shown_from numbers after))) n ≡ 1)
        → Cut MOST_ROWS after n (above after numbers)
        → times (shown_from numbers after) n
        + times (if_left (left_from numbers after) (shown_in_turn later (last_of after (shown_from numbers after)))) n ≡ 1
    go ih (inl here) = ap₂ (λ x y. x + y) here.0
        (none-left (left_from numbers after) _ n (passed-by later (last_of after (shown_from numbers after)) n here.1 (all-rise n later have.2)))
    go ih (inr left) = ap₂ (λ x y. x + y) left.0
        (to-come (left_from numbers after) _ n (IsAskedToItsEnd later (last_of after (shown_from numbers after))) left.2 ends (ih left.1))

-- ---- whose turn it is

-- The first of a line is served.
first-served : (H : History) (c b h : ℕ) (hs : List ℕ) → Serves (route_to H (place H) (state H) (is_begun H) c b (h ∷ hs)) h
first-served H c b h hs = go (goal_of H h == b)
  where
    go : (x : Bool) → Serves (elim x as (λ _. Place) [ true ↦ HoldShelf h | false ↦ Transit (goal_of H h) (Some h) ]) h
    go true = refl
    go false = refl

-- A copy that travels for no hold goes to the line of its title.
routed-to : (H : History) (c b : ℕ) (p : Place) → travels_for p ≡ None
    → route_from H (place H) (state H) (is_begun H) c b p ≡ route_to H (place H) (state H) (is_begun H) c b (line H (title_of_copy H c))
routed-to H c b (Transit g (Some h)) e = let never : ⊥ = cc in absurd never
routed-to H c b (Transit g None) e = refl
routed-to H c b _ e = refl

pub first-is-served : FirstIsServed
first-is-served H t h hs c b at title free =
    let routed = routed-to H c b (place H c) free in
    let in_line : line H (title_of_copy H c) ≡ h ∷ hs = ap (line H) title ∙ at in
    subst (λ p. Serves p h) (sym (routed ∙ ap (route_to H (place H) (state H) (is_begun H) c b) in_line)) (first-served H c b h hs)

-- The first of the numbers that pass a test passes it.
first-passes : (test : ℕ → Bool) (xs : List ℕ) (c : ℕ) → first_of (filter test xs) ≡ Some c → test c ≡ true
first-passes test [] c e = let never : ⊥ = cc in absurd never
first-passes test (x ∷ xs) c e = go (first-passes test xs c) (test x) refl e
  where
    go : (first_of (filter test xs) ≡ Some c → test c ≡ true) → (b : Bool) → test x ≡ b → first_of (cond b (x ∷ filter test xs) (filter test xs)) ≡ Some c → test c ≡ true
    go ih true p e = let same : x ≡ c = cc in subst (λ n. test n ≡ true) same p
    go ih false p e = ih e

is-first : (xs : List ℕ) (h : ℕ) → is_first xs h ≡ true → (hs : List ℕ) × (xs ≡ h ∷ hs)
is-first [] h e = let never : ⊥ = cc in absurd never
is-first (x ∷ xs) h e = (xs, ap (λ n. n ∷ xs) (eqb-true x h e))

shelved-free : (b : ℕ) (p : Place) → is_shelf_of b p ≡ true → travels_for p ≡ None
shelved-free b (Shelf n) e = refl
shelved-free b (Transit n h) e = let never : ⊥ = cc in absurd never
shelved-free b _ e = refl

pub pulled-serves : PulledCopiesServe
pulled-serves H b h c e = go (is_first (line H (title_of_hold H h)) h) refl e
  where
    test : ℕ → Bool
    test d = (title_of_copy H d == title_of_hold H h) && is_shelf_of b (place H d)

    go : (x : Bool) → is_first (line H (title_of_hold H h)) h ≡ x
        → (elim x as (λ _. Option ℕ) [
          | true ↦ first_of (filter (λ d. (title_of_copy H d == title_of_hold H h) && is_shelf_of b (place H d)) (rising (copies H)))
          | false ↦ None
        ]) ≡ Some c
        → Serves (route H c b) h
    go true f e =
        let in_line = is-first (line H (title_of_hold H h)) h f in
        let parts = and_parts (title_of_copy H c == title_of_hold H h) (is_shelf_of b (place H c))
        (first-passes (λ d. (title_of_copy H d == title_of_hold H h) && is_shelf_of b (place H d)) (rising (copies H)) c e) in
        first-is-served H (title_of_hold H h) h in_line.0 c b in_line.1 (eqb-true _ _ parts.0) (shelved-free b (place H c) parts.1)
    go false f e = let never : ⊥ = cc in absurd never
