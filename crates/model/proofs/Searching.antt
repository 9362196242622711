-- A search that is asked for part by part shows each row that it finds once.
use Rattle.std.proofs.Common.{◌≡◌, ℕ, zero, suc, ◌+◌, ◌≤◌, ◌<◌, ◌==◌, Bool, true, false, cond, ◌||◌, List, [], ◌∷◌, ◌++◌, ◌⊎◌, inl, inr}
use Rattle.std.proofs.Common.{refl, sym, ◌∙◌, ap, ap₂, subst, arith, length, take, drop, nat_lt, append_assoc}
use Rattle.std.specs.Prelude.{filter, replicate}
use Rattle.std.proofs.lemmas.Bool.{eqb-true, ltb-false, lt-ltb, cases_lt}
use Rattle.std.proofs.lemmas.Bool.Decides.{nat_tests}
use Rattle.std.proofs.lemmas.List.{take-append-drop, take_all, length-take-le}
use Rattle.std.proofs.lemmas.List.Elements.{filter-append}
use Rattle.terms.specs.declared.limits.TheConstants.{MOST_ROWS, MOST_LOOKED_AT}
use Rattle.model.specs.Asking.{Search, above, last_of, looked_at, found_from, reached_from, unseen_from}
use Rattle.model.specs.AskingLaws.{Rises, AreRising, has_number, if_left, IfLeft, times}
use Rattle.model.specs.AskingLaws.{AllFind, found_in_turn, IsSearchedToItsEnd, SearchesShowOnce, SearchesShowFound, SearchesGoOn}
use Rattle.model.proofs.Moves.{false-ne}
use Rattle.model.proofs.Members.{has, filter-has}
use Rattle.model.proofs.Asking.{rises-from, rises-take, last-above, times-none, rises-filter, rises-above, times-append, none-left, to-come}

-- ---- numbers above one

-- A row that passes stays, and one that doesn't goes.
keep : (b : Bool) (x : ℕ) (xs : List ℕ) → b ≡ true → cond b (x ∷ xs) xs ≡ x ∷ xs
keep true x xs e = refl
keep false x xs e = let never : ⊥ = cc in absurd never

skip : (b : Bool) (x : ℕ) (xs : List ℕ) → b ≡ false → cond b (x ∷ xs) xs ≡ xs
skip false x xs e = refl
skip true x xs e = let never : ⊥ = cc in absurd never

not-above : (a n : ℕ) → n ≤ a → nat_lt a n ≡ false
not-above a n le = grind (arith, nat_tests)

pub rises-front : (a : ℕ) (xs ys : List ℕ) → Rises a (xs ++ ys) → Rises a xs
rises-front a [] ys r = tt
rises-front a (x ∷ xs) ys r = (r.0, rises-front x xs ys r.1)

above-all : (a : ℕ) (ys : List ℕ) → Rises a ys → above a ys ≡ ys
above-all a [] r = refl
above-all a (y ∷ ys) r =
    keep (nat_lt a y) y (above a ys) (lt-ltb a y r.0) ∙ ap (λ (zs : List ℕ). y ∷ zs) (above-all a ys (rises-from a y ys (omega (arith, r.0)) r.1))

-- Above the last of a front are the others.
pub above-last : (a : ℕ) (xs ys : List ℕ) → Rises a (xs ++ ys) → above (last_of a xs) (xs ++ ys) ≡ ys
above-last a [] ys r = above-all a ys r
above-last a (x ∷ xs) ys r =
    skip (nat_lt (last_of x xs) x) x (above (last_of x xs) (xs ++ ys)) (not-above (last_of x xs) x (last-above x xs (rises-front x xs ys r.1)))
    ∙ above-last x xs ys r.1

pub above-above : (a b : ℕ) (xs : List ℕ) → a ≤ b → above b (above a xs) ≡ above b xs
above-above a b [] le = refl
above-above a b (x ∷ xs) le = go (above-above a b xs le) (nat_lt a x) refl
  where
    go : above b (above a xs) ≡ above b xs → (t : Bool) → nat_lt a x ≡ t → above b (cond t (x ∷ above a xs) (above a xs)) ≡ above b (x ∷ xs)
    go ih true e = ap (λ (zs : List ℕ). cond (nat_lt b x) (x ∷ zs) zs) ih
    go ih false e = ih ∙ sym (skip (nat_lt b x) x (above b xs) (not-above b x (omega (arith, ltb-false a x e, le))))

filter-swap : (p q : ℕ → Bool) (xs : List ℕ) → filter p (filter q xs) ≡ filter q (filter p xs)
filter-swap p q [] = refl
filter-swap p q (x ∷ xs) = go (filter-swap p q xs) (p x) refl (q x) refl
  where
    go : filter p (filter q xs) ≡ filter q (filter p xs) → (b : Bool) → p x ≡ b → (d : Bool) → q x ≡ d
        → filter p (cond d (x ∷ filter q xs) (filter q xs)) ≡ filter q (cond b (x ∷ filter p xs) (filter p xs))
    go ih true e true f = keep (p x) x (filter p (filter q xs)) e ∙ ap (λ (zs : List ℕ). x ∷ zs) ih ∙ sym (keep (q x) x (filter q (filter p xs)) f)
    go ih true e false f = ih ∙ sym (skip (q x) x (filter q (filter p xs)) f)
    go ih false e true f = skip (p x) x (filter p (filter q xs)) e ∙ ih
    go ih false e false f = ih

times-one : (a n : ℕ) (xs : List ℕ) → Rises a xs → has_number xs n → times xs n ≡ 1
times-one a n [] r h = let never : ⊥ = cc in absurd never
times-one a n (x ∷ xs) r h = go (times-one x n xs r.1) (x == n) refl h
  where
    go : (has_number xs n → times xs n ≡ 1) → (b : Bool) → (x == n) ≡ b → (b || has xs n) ≡ true
        → length (cond b (x ∷ filter (λ m. m == n) xs) (filter (λ m. m == n) xs)) ≡ 1
    go ih true e h = let same : x ≡ n = eqb-true x n e in ap suc (times-none x n xs r.1 (omega (arith, same)))
    go ih false e h = ih h

short-take : (k : ℕ) (xs : List ℕ) → (length (take k xs) == k) ≡ false → take k xs ≡ xs
short-take k xs e = go (cases_lt (length xs) k)
  where
    go : (length xs < k) ⊎ (k ≤ length xs) → take k xs ≡ xs
    go (inl lt) = take_all k xs (omega (arith, lt))
    go (inr le) = let differ = false-ne (length (take k xs)) k e in absurd (differ (length-take-le k xs le))

-- ---- one part of a search

module _ (x : Search) (after : ℕ) (rise : AreRising x.all.numbers) where
  rows : List ℕ
  rows = above after x.all.numbers

  ahead : Rises after (above after x.all.numbers)
  ahead = rises-above after x.all.numbers rise

  rises-looked : Rises after (looked_at x after)
  rises-looked = rises-take MOST_LOOKED_AT after (above after x.all.numbers) ahead

  pub rises-found : Rises after (found_from x after)
  rises-found = rises-take MOST_ROWS after (filter x.finds (looked_at x after)) (rises-filter x.finds after (looked_at x after) rises-looked)

  pub reached-above : after ≤ reached_from x after
  reached-above = go (length (found_from x after) == MOST_ROWS)
    where
      go : (b : Bool) → after ≤ last_of after (cond b (found_from x after) (looked_at x after))
      go true = last-above after (found_from x after) rises-found
      go false = last-above after (looked_at x after) rises-looked

  -- All that are found among the rows looked at, the rows not looked at, and what is found and not shown.
  abbrev among : List ℕ
  among = filter x.finds (looked_at x after)

  abbrev beyond : List ℕ
  beyond = drop MOST_LOOKED_AT (above after x.all.numbers)

  abbrev others : List ℕ
  others = drop MOST_ROWS among ++ filter x.finds beyond

  -- Of the rows found, those shown come first, and the others are above the row where the search stops.
  pub found-split : filter x.finds (above after x.all.numbers) ≡ found_from x after ++ filter x.finds (unseen_from x after)
  found-split = go (length (found_from x after) == MOST_ROWS) refl
    where
      looked : filter x.finds (above after x.all.numbers) ≡ among ++ filter x.finds beyond
      looked =
          ap (filter x.finds) (sym (take-append-drop MOST_LOOKED_AT (above after x.all.numbers)))
          ∙ filter-append x.finds (looked_at x after) beyond

      whole : filter x.finds (above after x.all.numbers) ≡ found_from x after ++ others
      whole =
          looked ∙ ap (λ (zs : List ℕ). zs ++ filter x.finds beyond) (sym (take-append-drop MOST_ROWS among))
          ∙ append_assoc (found_from x after) (drop MOST_ROWS among) (filter x.finds beyond)

      rising-found : Rises after (found_from x after ++ others)
      rising-found = subst (Rises after) whole (rises-filter x.finds after (above after x.all.numbers) ahead)

      rising-looked : Rises after (looked_at x after ++ beyond)
      rising-looked = subst (Rises after) (sym (take-append-drop MOST_LOOKED_AT (above after x.all.numbers))) ahead

      go : (b : Bool) → (length (found_from x after) == MOST_ROWS) ≡ b
          → filter x.finds (above after x.all.numbers)
          ≡ found_from x after ++ filter x.finds (above (last_of after (cond b (found_from x after) (looked_at x after))) x.all.numbers)
      go true e =
          let m = last_of after (found_from x after) in
          let le = last-above after (found_from x after) rises-found in
          let rest : filter x.finds (above m x.all.numbers) ≡ others =
          ap (filter x.finds) (sym (above-above after m x.all.numbers le))
          ∙ filter-swap x.finds (λ n. nat_lt m n) (above after x.all.numbers)
          ∙ ap (above m) whole
          ∙ above-last after (found_from x after) others rising-found in
          whole ∙ ap (λ (zs : List ℕ). found_from x after ++ zs) (sym rest)
      go false e =
          let m = last_of after (looked_at x after) in
          let le = last-above after (looked_at x after) rises-looked in
          let rest : above m x.all.numbers ≡ beyond =
          sym (above-above after m x.all.numbers le)
          ∙ ap (above m) (sym (take-append-drop MOST_LOOKED_AT (above after x.all.numbers)))
          ∙ above-last after (looked_at x after) beyond rising-looked in
          looked ∙ ap₂ (λ (ys zs : List ℕ). ys ++ filter x.finds zs) (sym (short-take MOST_ROWS among e)) (sym rest)

-- ---- asking again and again

-- Each of the searches' rows rise.
abbrev AllRise : List Search → Type 0
AllRise [] = Unit {0}
AllRise (x ∷ later) = AreRising x.all.numbers × AllRise later

all-rise : (n : ℕ) (searches : List Search) → AllFind n searches → AllRise searches
all-rise n [] h = tt
all-rise n (x ∷ later) h = (h.0, all-rise n later h.3)

-- A number that was passed is never shown again.
passed-by : (searches : List Search) (after n : ℕ) → n ≤ after → AllRise searches → times (found_in_turn searches after) n ≡ 0
passed-by [] after n le rise = refl
passed-by (x ∷ later) after n le rise =
    let more = found_in_turn later (reached_from x after) in
    let further = reached-above x after rise.0 in
    times-append n (found_from x after) (if_left (unseen_from x after) more)
    ∙ ap₂ (λ (a b : ℕ). a + b) (times-none after n (found_from x after) (rises-found x after rise.0) le)
    (none-left (unseen_from x after) more n (passed-by later (reached_from x after) n (omega (arith, le, further)) rise.1))

pub searches-show-once : SearchesShowOnce
searches-show-once [] after n lt all ends = absurd ends
searches-show-once (x ∷ later) after n lt all ends =
    times-append n (found_from x after) (if_left (unseen_from x after) (found_in_turn later (reached_from x after)))
    ∙ go (λ past end. searches-show-once later (reached_from x after) n past all.3 end) (cases_lt (reached_from x after) n)
  where
    one : times (found_from x after) n + times (filter x.finds (unseen_from x after)) n ≡ 1
    one =
        sym (times-append n (found_from x after) (filter x.finds (unseen_from x after)))
        ∙ ap (λ (xs : List ℕ). times xs n) (sym (found-split x after all.0))
        ∙ times-one after n (filter x.finds (above after x.all.numbers))
        (rises-filter x.finds after (above after x.all.numbers) (rises-above after x.all.numbers all.0))
        (filter-has x.finds n (above after x.all.numbers) all.2 (filter-has (λ m. nat_lt after m) n x.all.numbers (lt-ltb after n lt) all.1))

    rises-unseen : Rises (reached_from x after) (filter x.finds (unseen_from x after))
    rises-unseen = rises-filter x.finds (reached_from x after) (unseen_from x after) (rises-above (reached_from x after) x.all.numbers all.0)

    go : (reached_from x after < n → IsSearchedToItsEnd later (reached_from x after) → times (found_in_turn later (reached_from x after)) n ≡ 1)
        → (reached_from x after < n) ⊎ (n ≤ reached_from x after) → times (found_from x after) n + times (if_left (unseen_from x after) (found_in_turn later (reached_from x after))) n ≡ 1
    go ih (inl past) =
        let there : has_number (unseen_from x after) n = filter-has (λ m. nat_lt (reached_from x after) m) n x.all.numbers (lt-ltb (reached_from x after) n past) all.1 in
        let later-once : times (filter x.finds (unseen_from x after)) n ≡ 1 =
        times-one (reached_from x after) n (filter x.finds (unseen_from x after)) rises-unseen (filter-has x.finds n (unseen_from x after) all.2 there) in
        let none : times (found_from x after) n ≡ 0 = omega (arith, one, later-once) in
        ap₂ (λ (a b : ℕ). a + b) none
        (to-come (unseen_from x after) (found_in_turn later (reached_from x after)) n (IsSearchedToItsEnd later (reached_from x after)) there ends
        (ih past))
    go ih (inr le) =
        let none = times-none (reached_from x after) n (filter x.finds (unseen_from x after)) rises-unseen le in
        let here : times (found_from x after) n ≡ 1 = omega (arith, one, none) in
        ap₂ (λ (a b : ℕ). a + b) here
        (none-left (unseen_from x after) (found_in_turn later (reached_from x after)) n (passed-by later (reached_from x after) n le (all-rise n later all.3)))

left-found : (test : ℕ → Bool) (left more : List ℕ) (End : Type 0) → IfLeft left End → (End → more ≡ filter test left) → if_left left more ≡ filter test left
left-found test [] more End ends f = refl
left-found test (n ∷ ns) more End ends f = f ends

pub searches-show-found : SearchesShowFound
searches-show-found x zero after rise ends = absurd ends
searches-show-found x (suc calls) after rise ends =
    ap (λ (zs : List ℕ). found_from x after ++ zs)
    (left-found x.finds (unseen_from x after) (found_in_turn (replicate calls x) (reached_from x after))
    (IsSearchedToItsEnd (replicate calls x) (reached_from x after)) ends
    (λ end. searches-show-found x calls (reached_from x after) rise end))
    ∙ sym (found-split x after rise)

-- ---- going on

last-grows : (a : ℕ) (xs : List ℕ) → Rises a xs → 0 < length xs → a < last_of a xs
last-grows a [] r lt = let never : ⊥ = omega (arith, lt) in absurd never
last-grows a (x ∷ xs) r lt = let le = last-above x xs r.1 in omega (arith, le, r.0)

if-left : (left : List ℕ) (Is : Type 0) → Is → IfLeft left Is
if-left [] Is is = tt
if-left (n ∷ ns) Is is = is

none-above : (left : List ℕ) (Is : Type 0) → left ≡ [] → IfLeft left Is
none-above [] Is e = tt
none-above (n ∷ ns) Is e = let never : ⊥ = cc in absurd never

pub searches-go-on : SearchesGoOn
searches-go-on x after rise = go (above after x.all.numbers) refl
  where
    grows : (r : ℕ) (rs : List ℕ) → above after x.all.numbers ≡ r ∷ rs → after < reached_from x after
    grows r rs e = last (length (found_from x after) == MOST_ROWS) refl
      where
        some : 0 < length (looked_at x after)
        some = subst (λ (zs : List ℕ). 0 < length (take MOST_LOOKED_AT zs)) (sym e) (omega arith)

        last : (b : Bool) → (length (found_from x after) == MOST_ROWS) ≡ b → after < last_of after (cond b (found_from x after) (looked_at x after))
        last true f =
            let full = eqb-true (length (found_from x after)) MOST_ROWS f in
            last-grows after (found_from x after) (rises-found x after rise) (omega (arith, full))
        last false f = last-grows after (looked_at x after) (rises-looked x after rise) some

    go : (zs : List ℕ) → above after x.all.numbers ≡ zs → IfLeft (unseen_from x after) (after < reached_from x after)
    go [] e = none-above (unseen_from x after) (after < reached_from x after)
        (sym (above-above after (reached_from x after) x.all.numbers (reached-above x after rise)) ∙ ap (above (reached_from x after)) e)
    go (r ∷ rs) e = if-left (unseen_from x after) (after < reached_from x after) (grows r rs e)
