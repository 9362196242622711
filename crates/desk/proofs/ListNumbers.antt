-- Which table rows belong to a requested list.
use Rattle.std.proofs.Common.{◌≡◌, ℕ, zero, suc, ◌≤◌, ◌<◌, ◌==◌, nat_lt, Bool, true, false, cond, ◌||◌, ◌&&◌, ◌⊎◌, inl, inr, List, [], ◌∷◌}
use Rattle.std.proofs.Common.{length, map, refl, sym, ◌∙◌, ap, subst, arith}
use Rattle.std.specs.Prelude.{Option, Some, None, is_none, is_some, option_map, unwrap_or, filter}
use Rattle.std.specs.Option.{option_or}
use Rattle.std.specs.List.{list_any}
use Rattle.std.proofs.lemmas.Bool.{eqb-true, eq-eqb, ltb-true, lt-ltb, false_from_ne_true}
use Rattle.terms.specs.declared.command.Command.{Command}
use Rattle.terms.specs.declared.command.Command.TheVariants.{Patron, Acquire, SetCardKey, AmendPatron, AmendCopy, Rehome}
use Rattle.terms.specs.declared.row.CopyRow.{CopyRow}
use Rattle.terms.specs.declared.row.PatronRow.{PatronRow}
use Rattle.terms.specs.declared.row.HoldRow.{HoldRow}
use Rattle.terms.specs.declared.row.LineRow.{LineRow}
use Rattle.terms.specs.declared.row.TransitRow.{TransitRow}
use Rattle.terms.specs.declared.row.HoldState.{HoldState}
use Rattle.terms.specs.declared.row.HoldState.TheVariants.{Waiting}
use Rattle.circ_core.specs.Views.{InLine}
use Rattle.circ_core.proofs.Claims.{hold_row-is}
use Rattle.circ_core.proofs.FirstInLine.{stands, stands-row, row-stands}
use Rattle.store.specs.Batches.{AreFirstRows, AreRowsAfter}
use Rattle.model.specs.History.{History, CopyFacts, copy_of, copy_after, copies, copies_after, PatronFacts, patron_of, patron_after, patrons}
use Rattle.model.specs.History.{with_card_key, with_kind, with_price, with_home, patrons_after, HoldFacts, hold_of, holds, numbers_to}
use Rattle.model.specs.Places.{Place, Nowhere, Shelf, HoldShelf, Transit, Loan, MissingCopy, WithdrawnCopy, place, state, line, title_of_copy, title_of_hold}
use Rattle.model.specs.Accounts.{Line, lines, nth_line, owed}
use Rattle.model.specs.Invariant.{Invariant}
use Rattle.model.specs.Picture.{picture, copy_columns, patron_columns, hold_columns, line_columns, transit_at}
use Rattle.model.specs.Asking.{Listing, rising, is_bound_to, copies_list, transits_list, queue_list, account_list, debts_list, is_line_of}
use Rattle.model.specs.Asking.{pulls_list, pulled_for, is_first, first_of, is_shelf_of}
use Rattle.model.specs.AskingLaws.{AreRising, has_number}
use Rattle.model.proofs.Debts.{rising-has, enrolled-has}
use Rattle.model.proofs.Members.{has, filter-has, filter-passes, numbers-has, or-right}
use Rattle.desk.specs.Listing.{HasBatch}
use Rattle.desk.proofs.Listings.{row-has}
use Rattle.model.proofs.Amending.{amended-is_some}

-- ---- a batch of a table

module _ {R : Type 0} (t : ℕ → Option R) (number_of : R → ℕ) (Passes : R → Type 0) (x : Listing)
    (numbered : (k : ℕ) (r : R) → t k ≡ Some r → number_of r ≡ k)
    (from : (k : ℕ) → has_number x.numbers k → (r : R) × (t k ≡ Some r) × Passes r) (rising_numbers : AreRising x.numbers) where
  -- The first rows that pass, from above a number on, are a batch of a list whose numbers are all those of rows that pass.
  pub batch-of : (PassesAfter : R → Type 0) (at : ℕ) (rows : List R) → ((r : R) → PassesAfter r → Passes r × (at < number_of r))
      → ((r : R) → Passes r → at < number_of r → PassesAfter r) → AreFirstRows t number_of PassesAfter rows
      → HasBatch number_of (λ r. (t (number_of r) ≡ Some r) × Passes r) x at rows
  batch-of PassesAfter at rows fine back batch = record {
    sound = λ r there. let is = batch.sound r there in let passes = fine r is.1 in ((is.0, passes.0), passes.1);
    whole = λ k is less.
        let w : (r : R) × (t k ≡ Some r) × Passes r = from k is in
        let same : number_of w.0 ≡ k = numbered k w.0 w.1 in
        elim (batch.whole k w.0 w.1 (back w.0 w.2 (subst (λ (m : ℕ). at < m) (sym same) less))) [
          | inl there ↦ inl (subst (λ (m : ℕ). has (map number_of rows) m ≡ true) same (row-has number_of rows w.0 there))
          | inr rest ↦ inr rest
        ];
    rise = batch.rise;
    few = batch.few;
    rising = rising_numbers;
  }

-- A batch of all rows of a table.
module _ {R : Type 0} (t : ℕ → Option R) (number_of : R → ℕ) (x : Listing) (numbered : (k : ℕ) (r : R) → t k ≡ Some r → number_of r ≡ k)
    (from : (k : ℕ) → has_number x.numbers k → (r : R) × (t k ≡ Some r)) (rising_numbers : AreRising x.numbers) where
  pub all-batch : (at : ℕ) (rows : List R) → AreRowsAfter t number_of at rows → HasBatch number_of (λ r. t (number_of r) ≡ Some r) x at rows
  all-batch at rows batch =
      let is = batch-of t number_of (λ r. Unit {0}) x numbered (λ k is. let w = from k is in (w.0, w.1, tt)) rising_numbers (λ r. at < number_of r) at rows
      (λ r less. (tt, less)) (λ r passes less. less) batch in
      record { sound = λ r there. let row = is.sound r there in (row.0.0, row.1); whole = is.whole; rise = is.rise; few = is.few; rising = is.rising }

-- ---- copies and patrons that are listed are there

or-cases : (x y : Bool) → (x || y) ≡ true → (x ≡ true) ⊎ (y ≡ true)
or-cases true y e = inl refl
or-cases false y e = inr e

copy-step : (H : History) (x : Command) (c : ℕ) → (has (copies H) c ≡ true → is_some (copy_of H c) ≡ true)
    → has (copies_after H x (copies H)) c ≡ true → is_some (copy_after x c (copy_of H c)) ≡ true
copy-step H (Acquire n title kind home price text) c ih e = go (n == c) refl (is_none (copy_of H n)) (copy_of H c) ih e
  where
    go : (x : Bool) → (n == c) ≡ x → (y : Bool) → (z : Option CopyFacts) → (has (copies H) c ≡ true → is_some z ≡ true)
        → has (cond y (n ∷ copies H) (copies H)) c ≡ true
        → is_some (option_or z (cond x (Some (record { title = title; kind = kind; home = home; price = price })) None)) ≡ true
    go x f y (Some r) ih e = refl
    go true f y None ih e = refl
    go false f true None ih e = elim (or-cases (n == c) (has (copies H) c) e) [
      | inl same ↦ (let never : ⊥ = cc in absurd never)
      | inr more ↦ ih more
    ]
    go false f false None ih e = ih e
copy-step H (AmendCopy n kind price) c ih e = amended-is_some (n == c) (with_price kind price) (copy_of H c) ∙ ih e
copy-step H (Rehome n home) c ih e = amended-is_some (n == c) (with_home home) (copy_of H c) ∙ ih e
copy-step H _ c ih e = ih e

pub copy-there : (H : History) (c : ℕ) → has (copies H) c ≡ true → is_some (copy_of H c) ≡ true
copy-there [] c e = let never : ⊥ = cc in absurd never
copy-there (e ∷ H) c there = copy-step H e.command c (copy-there H c) there

patron-step : (H : History) (x : Command) (p : ℕ) → (has (patrons H) p ≡ true → is_some (patron_of H p) ≡ true)
    → has (patrons_after H x (patrons H)) p ≡ true → is_some (patron_after x p (patron_of H p)) ≡ true
patron-step H (Patron n kind card_key name) p ih e = go (n == p) refl (is_none (patron_of H n)) (patron_of H p) ih e
  where
    go : (x : Bool) → (n == p) ≡ x → (y : Bool) → (z : Option PatronFacts) → (has (patrons H) p ≡ true → is_some z ≡ true)
        → has (cond y (n ∷ patrons H) (patrons H)) p ≡ true
        → is_some (option_or z (cond x (Some (record { kind = kind; card_key = card_key; name = name })) None)) ≡ true
    go x f y (Some r) ih e = refl
    go true f y None ih e = refl
    go false f true None ih e = elim (or-cases (n == p) (has (patrons H) p) e) [
      | inl same ↦ (let never : ⊥ = cc in absurd never)
      | inr more ↦ ih more
    ]
    go false f false None ih e = ih e
patron-step H (SetCardKey n card_key) p ih e = amended-is_some (n == p) (with_card_key card_key) (patron_of H p) ∙ ih e
patron-step H (AmendPatron n kind name) p ih e = amended-is_some (n == p) (with_kind kind name) (patron_of H p) ∙ ih e
patron-step H _ p ih e = ih e

pub patron-there : (H : History) (p : ℕ) → has (patrons H) p ≡ true → is_some (patron_of H p) ≡ true
patron-there [] p e = let never : ⊥ = cc in absurd never
patron-there (e ∷ H) p there = patron-step H e.command p (patron-there H p) there

some-is : {A : Type 0} (o : Option A) → is_some o ≡ true → (x : A) × (o ≡ Some x)
some-is (Some x) e = (x, refl)
some-is None e = let never : ⊥ = cc in absurd never

-- A copy that was acquired is among the copies, the other way round too.
swap : (k : ℕ) (xs : List ℕ) → list_any (λ x. k == x) xs ≡ true → has xs k ≡ true
swap k [] e = let never : ⊥ = cc in absurd never
swap k (x ∷ xs) e = elim (or-cases (k == x) (list_any (λ y. k == y) xs) e) [
  | inl same ↦ ap (λ b. b || has xs k) (eq-eqb x k (sym (eqb-true k x same)))
  | inr more ↦ or-right (x == k) (has xs k) (swap k xs more)
]

pub copy-has : (H : History) → Invariant H → (c : ℕ) (r : CopyFacts) → copy_of H c ≡ Some r → has (rising (copies H)) c ≡ true
copy-has H inv c r there = rising-has (copies H) c ∙ swap c (copies H) (inv.acquired c r there).1

-- What is in a filtered list is in the list.
pub filter-within : (f : ℕ → Bool) (k : ℕ) (xs : List ℕ) → has (filter f xs) k ≡ true → has xs k ≡ true
filter-within f k [] e = let never : ⊥ = cc in absurd never
filter-within f k (x ∷ xs) e = go (filter-within f k xs) (f x) e
  where
    go : (has (filter f xs) k ≡ true → has xs k ≡ true) → (b : Bool) → has (cond b (x ∷ filter f xs) (filter f xs)) k ≡ true → ((x == k) || has xs k) ≡ true
    go ih true e = elim (or-cases (x == k) (has (filter f xs) k) e) [
      | inl same ↦ ap (λ b. b || has xs k) same
      | inr more ↦ or-right (x == k) (has xs k) (ih more)
    ]
    go ih false e = or-right (x == k) (has xs k) (ih e)

-- ---- which rows they are

module _ (H : History) where
  -- copies of a title
  pub copies-from : (t k : ℕ) → has_number (copies_list H t).numbers k → (r : CopyRow) × ((picture H).copies k ≡ Some r) × (r.title ≡ t)
  copies-from t k is =
      let passes : (title_of_copy H k == t) ≡ true = filter-passes (λ c. title_of_copy H c == t) k (rising (copies H)) is in
      let there : has (copies H) k ≡ true = sym (rising-has (copies H) k) ∙ filter-within (λ c. title_of_copy H c == t) k (rising (copies H)) is in
      go (copy_of H k) refl (copy-there H k there) (eqb-true _ _ passes)
    where
      go : (o : Option CopyFacts) → copy_of H k ≡ o → is_some o ≡ true → title_of_copy H k ≡ t
          → (r : CopyRow) × ((picture H).copies k ≡ Some r) × (r.title ≡ t)
      go (Some f) e some title = (
        copy_columns H k f,
        ap (option_map (copy_columns H k)) e,
        sym (ap (λ (o : Option CopyFacts). unwrap_or (option_map (λ x. x.title) o) 0) e) ∙ title,
      )
      go None e some title = let never : ⊥ = cc in absurd never

  pub copies-to : Invariant H → (t : ℕ) (r : CopyRow) → (picture H).copies r.copy ≡ Some r → r.title ≡ t → has_number (copies_list H t).numbers r.copy
  copies-to inv t r there title = go (copy_of H r.copy) refl there
    where
      go : (o : Option CopyFacts) → copy_of H r.copy ≡ o → option_map (copy_columns H r.copy) o ≡ Some r → has_number (copies_list H t).numbers r.copy
      go (Some f) e q =
          let same : copy_columns H r.copy f ≡ r = cc in
          let of_title : title_of_copy H r.copy ≡ t = ap (λ (o : Option CopyFacts). unwrap_or (option_map (λ x. x.title) o) 0) e
          ∙ ap (λ (x : CopyRow). x.title) same ∙ title in
          filter-has (λ c. title_of_copy H c == t) r.copy (rising (copies H)) (eq-eqb _ _ of_title) (copy-has H inv r.copy f e)
      go None e q = let never : ⊥ = cc in absurd never

  -- copies on their way to a branch
  pub transits-from : (b k : ℕ) → has_number (transits_list H b).numbers k → (r : TransitRow) × ((picture H).transits k ≡ Some r) × (r.goal ≡ b)
  transits-from b k is = go (place H k) (filter-passes (λ c. is_bound_to b (place H c)) k (rising (copies H)) is)
    where
      go : (p : Place) → is_bound_to b p ≡ true → (r : TransitRow) × (transit_at k p ≡ Some r) × (r.goal ≡ b)
      go (Transit g h) e = (record { copy = k; goal = g; hold = h }, refl, eqb-true g b e)
      go Nowhere e = let never : ⊥ = cc in absurd never
      go (Shelf g) e = let never : ⊥ = cc in absurd never
      go (HoldShelf h) e = let never : ⊥ = cc in absurd never
      go (Loan l) e = let never : ⊥ = cc in absurd never
      go MissingCopy e = let never : ⊥ = cc in absurd never
      go WithdrawnCopy e = let never : ⊥ = cc in absurd never

  pub transit-copy : (k : ℕ) (r : TransitRow) → (picture H).transits k ≡ Some r → r.copy ≡ k
  transit-copy k r there = go (place H k) there
    where
      go : (p : Place) → transit_at k p ≡ Some r → r.copy ≡ k
      go (Transit g h) e =
          let same : ◌≡◌ {A = TransitRow} (record { copy = k; goal = g; hold = h }) r = cc in
          sym (ap (λ (x : TransitRow). x.copy) same)
      go Nowhere e = let never : ⊥ = cc in absurd never
      go (Shelf g) e = let never : ⊥ = cc in absurd never
      go (HoldShelf h) e = let never : ⊥ = cc in absurd never
      go (Loan l) e = let never : ⊥ = cc in absurd never
      go MissingCopy e = let never : ⊥ = cc in absurd never
      go WithdrawnCopy e = let never : ⊥ = cc in absurd never

  -- what a row of a travelling copy says
  pub transit-place : (r : TransitRow) → (picture H).transits r.copy ≡ Some r → place H r.copy ≡ Transit r.goal r.hold
  transit-place r there = go (place H r.copy) there
    where
      go : (p : Place) → transit_at r.copy p ≡ Some r → p ≡ Transit r.goal r.hold
      go (Transit g h) e =
          let same : ◌≡◌ {A = TransitRow} (record { copy = r.copy; goal = g; hold = h }) r = cc in
          λ i. Transit ((same i).goal) ((same i).hold)
      go Nowhere e = let never : ⊥ = cc in absurd never
      go (Shelf g) e = let never : ⊥ = cc in absurd never
      go (HoldShelf h) e = let never : ⊥ = cc in absurd never
      go (Loan l) e = let never : ⊥ = cc in absurd never
      go MissingCopy e = let never : ⊥ = cc in absurd never
      go WithdrawnCopy e = let never : ⊥ = cc in absurd never

  module _ (inv : Invariant H) where
    -- a copy with a place was acquired
    pub placed-copy : (c : ℕ) → (place H c ≡ Nowhere → ⊥) → (r : CopyFacts) × (copy_of H c ≡ Some r)
    placed-copy c somewhere = go (copy_of H c) refl
      where
        go : (o : Option CopyFacts) → copy_of H c ≡ o → (r : CopyFacts) × (copy_of H c ≡ Some r)
        go (Some r) e = (r, e)
        go None e = absurd (somewhere (inv.unknown c e))

    pub transits-to : (b : ℕ) (r : TransitRow) → (picture H).transits r.copy ≡ Some r → r.goal ≡ b → has_number (transits_list H b).numbers r.copy
    transits-to b r there goal =
        let at : place H r.copy ≡ Transit r.goal r.hold = transit-place r there in
        let f = placed-copy r.copy (λ no. let clash : Nowhere ≡ Transit r.goal r.hold = sym no ∙ at in let never : ⊥ = cc in never) in
        filter-has (λ c. is_bound_to b (place H c)) r.copy (rising (copies H)) (ap (is_bound_to b) at ∙ eq-eqb _ _ goal) (copy-has H inv r.copy f.0 f.1)

    -- holds in line: each waits for the title, and which of those that do stand in it
    pub queue-from : (t k : ℕ) → has_number (queue_list H t).numbers k
        → (r : HoldRow) × ((picture H).holds k ≡ Some r) × ((r.title ≡ t) × (r.state ≡ Waiting))
    queue-from t k is =
        let row = stands-row H inv t k (filter-passes (stands H inv t) k (numbers_to (holds H)) is) in
        (hold_columns H k Waiting row.0, row.2.there, (row.2.on_title, row.2.waits))

    pub queue-to : (t : ℕ) (r : HoldRow) → InLine (picture H) t r.hold r → has_number (queue_list H t).numbers r.hold
    queue-to t r stands_there =
        let is = row-stands H inv t r.hold r stands_there in
        filter-has (stands H inv t) r.hold (numbers_to (holds H)) is.0 (numbers-has (holds H) r.hold is.1 is.2)

    pub queue-row : (t k : ℕ) → has_number (queue_list H t).numbers k
        → (f : HoldFacts) × (hold_of H k ≡ Some f) × InLine (picture H) t k (hold_columns H k Waiting f)
    queue-row t k is = stands-row H inv t k (filter-passes (stands H inv t) k (numbers_to (holds H)) is)

    -- holds that copies are pulled for: each is the first in line for its title
    pub pulls-first : (b k : ℕ) → is_some (pulled_for H b k) ≡ true → has_number (line H (title_of_hold H k)) k
    pulls-first b k some = go (line H (title_of_hold H k)) some
      where
        go : (xs : List ℕ) → is_some (elim (is_first xs k) as (λ _. Option ℕ) [
          | true ↦ first_of (filter (λ c. (title_of_copy H c == title_of_hold H k) && is_shelf_of b (place H c)) (rising
              (copies H)))
          | false ↦ None
        ]) ≡ true
            → has_number xs k
        go [] e = let never : ⊥ = cc in absurd never
        go (m ∷ ms) e = same (m == k) refl e
          where
            same : (y : Bool) → (m == k) ≡ y → is_some (elim y as (λ _. Option ℕ) [
              | true ↦ first_of (filter (λ c. (title_of_copy H c == title_of_hold H k) && is_shelf_of b (place H c)) (rising
                  (copies H)))
              | false ↦ None
            ]) ≡ true
                → has_number (m ∷ ms) k
            same true f e = ap (λ z. z || has ms k) f
            same false f e = let never : ⊥ = cc in absurd never

    pub pulls-from : (b k : ℕ) → has_number (pulls_list H b).numbers k → (r : HoldRow) × ((picture H).holds k ≡ Some r) × (r.state ≡ Waiting)
    pulls-from b k is =
        let first = pulls-first b k (filter-passes (λ h. is_some (pulled_for H b h)) k (numbers_to (holds H)) is) in
        let row = queue-from (title_of_hold H k) k first in
        (row.0, row.1, row.2.1)

    pub pulls-to : (b copy : ℕ) (r : HoldRow) → (picture H).holds r.hold ≡ Some r → pulled_for H b r.hold ≡ Some copy
        → has_number (pulls_list H b).numbers r.hold
    pulls-to b copy r there pulled =
        let is : (s : HoldState) × (f : HoldFacts) × (state H r.hold ≡ Some s) × (hold_of H r.hold ≡ Some f)
        × (hold_columns H r.hold s f ≡ r) = hold_row-is H r.hold r there in
        let made = inv.made_hold r.hold is.1 is.3 in
        filter-has (λ h. is_some (pulled_for H b h)) r.hold (numbers_to (holds H)) (ap is_some pulled) (numbers-has (holds H) r.hold made.0 made.1)

  pub not-pulled : (b h : ℕ) → pulled_for H b h ≡ None → list_any (λ m. m == h) (pulls_list H b).numbers ≡ false
  not-pulled b h none = false_from_ne_true _ (λ is.
      let some = filter-passes (λ k. is_some (pulled_for H b k)) h (numbers_to (holds H)) is in
      let clash = sym some ∙ ap is_some none in
      let never : ⊥ = cc in never)

  -- lines of a patron's account
  pub account-from : (p k : ℕ) → has_number (account_list H p).numbers k → (r : LineRow) × ((picture H).lines k ≡ Some r) × (r.patron ≡ p)
  account-from p k is = go (nth_line (lines H) k) refl (filter-passes (is_line_of H p) k (numbers_to (length (lines H))) is)
    where
      go : (o : Option Line) → nth_line (lines H) k ≡ o → unwrap_or (option_map (λ x. x.patron == p) o) false ≡ true
          → (r : LineRow) × ((picture H).lines k ≡ Some r) × (r.patron ≡ p)
      go (Some x) e mine = (line_columns H k x, ap (option_map (line_columns H k)) e, eqb-true _ _ mine)
      go None e mine = let never : ⊥ = cc in absurd never

  nth-within : (xs : List Line) (n : ℕ) (x : Line) → nth_line xs n ≡ Some x → (1 ≤ n) × (n ≤ length xs)
  nth-within [] n x e = let never : ⊥ = cc in absurd never
  nth-within (y ∷ xs) zero x e = let never : ⊥ = cc in absurd never
  nth-within (y ∷ xs) (suc zero) x e = (omega arith, omega arith)
  nth-within (y ∷ xs) (suc (suc n)) x e = let more = nth-within xs (suc n) x e in let le : suc n ≤ length xs = more.1 in (omega arith, omega (arith, le))

  pub account-to : (p : ℕ) (r : LineRow) → (picture H).lines r.line ≡ Some r → r.patron ≡ p → has_number (account_list H p).numbers r.line
  account-to p r there mine = go (nth_line (lines H) r.line) refl there
    where
      go : (o : Option Line) → nth_line (lines H) r.line ≡ o → option_map (line_columns H r.line) o ≡ Some r → has_number (account_list H p).numbers r.line
      go (Some x) e q =
          let same : line_columns H r.line x ≡ r = cc in
          let own : x.patron ≡ p = ap (λ (y : LineRow). y.patron) same ∙ mine in
          let within = nth-within (lines H) r.line x e in
          filter-has (is_line_of H p) r.line (numbers_to (length (lines H)))
          (ap (λ (o : Option Line). unwrap_or (option_map (λ y. y.patron == p) o) false) e ∙ eq-eqb _ _ own)
          (numbers-has (length (lines H)) r.line within.0 within.1)
      go None e q = let never : ⊥ = cc in absurd never

  -- patrons who owe something
  pub debts-from : (k : ℕ) → has_number (debts_list H).numbers k → (r : PatronRow) × ((picture H).patrons k ≡ Some r) × (0 < r.owed)
  debts-from k is =
      let passes : nat_lt 0 (owed H k) ≡ true = filter-passes (λ p. nat_lt 0 (owed H p)) k (rising (patrons H)) is in
      let there : has (patrons H) k ≡ true = sym (rising-has (patrons H) k) ∙ filter-within (λ p. nat_lt 0 (owed H p)) k (rising (patrons H)) is in
      let f = some-is (patron_of H k) (patron-there H k there) in
      (patron_columns H k f.0, ap (option_map (patron_columns H k)) f.1, ltb-true _ _ passes)

  pub debts-to : (r : PatronRow) → (picture H).patrons r.patron ≡ Some r → 0 < r.owed → has_number (debts_list H).numbers r.patron
  debts-to r there owes = go (patron_of H r.patron) refl there
    where
      go : (o : Option PatronFacts) → patron_of H r.patron ≡ o → option_map (patron_columns H r.patron) o ≡ Some r
          → has_number (debts_list H).numbers r.patron
      go (Some f) e q =
          let same : patron_columns H r.patron f ≡ r = cc in
          let owed_is : owed H r.patron ≡ r.owed = ap (λ (y : PatronRow). y.owed) same in
          let enrolled : has (rising (patrons H)) r.patron ≡ true = rising-has (patrons H) r.patron ∙ enrolled-has H r.patron (ap is_none e) in
          filter-has (λ p. nat_lt 0 (owed H p)) r.patron (rising (patrons H)) (lt-ltb _ _ (subst (λ (n : ℕ). 0 < n) (sym owed_is) owes)) enrolled
      go None e q = let never : ⊥ = cc in absurd never
