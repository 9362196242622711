-- Barcodes that stand on two things, row by row.
use Rattle.std.proofs.Common.{◌≡◌, ℕ, zero, suc, ◌+◌, ◌<◌, ◌≤◌, Bool, true, false, List, [], ◌∷◌, ◌++◌, length, get_or, take, drop, append_assoc}
use Rattle.std.proofs.Common.{length-append, Some, refl, sym, ◌∙◌, ap, subst, arith}
use Rattle.std.specs.Prelude.{MatchOption, slice_get}
use Rattle.std.proofs.lemmas.List.{append-nil, take_more, take_all, take-append-le, drop_more, drop_all}
use Rattle.terms.specs.declared.row.BarcodeRow.{BarcodeRow}
use Rattle.terms.specs.Things.{thing_number}
use Rattle.circ_audit.specs.Barcodes.{has_barcode, AreDistinct, IsFirstDoubled, with_doubled, doubled_after, doubled_numbers, AreDoubled}

-- The row after those before, at its place, is the first with the barcode of one before it.
record IsFirstAfter (before rows : List BarcodeRow) (n : ℕ) : Type 0 where
  place : ℕ
  row : BarcodeRow
  there : slice_get rows place ≡ Some row
  new : (k : ℕ) (d : BarcodeRow) → k < place → has_barcode (before ++ take k rows) (get_or rows k d).barcode ≡ false
  doubled : has_barcode (before ++ take place rows) row.barcode ≡ true
  number_is : thing_number row.thing ≡ n

-- One row more stands before.
moved : (before rows : List BarcodeRow) (r : BarcodeRow) (k : ℕ) → (before ++ r ∷ []) ++ take k rows ≡ before ++ take (suc k) (r ∷ rows)
moved before rows r k = append_assoc before (r ∷ []) (take k rows)

-- The first row has no barcode of those before, and each later one is new after it.
module _ (before rows : List BarcodeRow) (r : BarcodeRow) (d : BarcodeRow) (first : has_barcode before r.barcode ≡ false) where
  new-here : has_barcode (before ++ []) r.barcode ≡ false
  new-here = ap (λ (xs : List BarcodeRow). has_barcode xs r.barcode) (append-nil before) ∙ first

  new-at : (k : ℕ) → has_barcode ((before ++ r ∷ []) ++ take k rows) (get_or rows k d).barcode ≡ false
      → has_barcode (before ++ take (suc k) (r ∷ rows)) (get_or (r ∷ rows) (suc k) d).barcode ≡ false
  new-at k later = subst (λ (xs : List BarcodeRow). has_barcode xs (get_or rows k d).barcode ≡ false) (moved before rows r k) later

none-step : (before rows : List BarcodeRow) (r d : BarcodeRow) (b : Bool) → has_barcode before r.barcode ≡ b
    → with_doubled b (thing_number r.thing) (doubled_after (before ++ r ∷ []) rows) ≡ []
    → (doubled_after (before ++ r ∷ []) rows ≡ [] → (k : ℕ) → k < length rows
    → has_barcode ((before ++ r ∷ []) ++ take k rows) (get_or rows k d).barcode ≡ false)
    → (k : ℕ) → k < length (r ∷ rows) → has_barcode (before ++ take k (r ∷ rows)) (get_or (r ∷ rows) k d).barcode ≡ false
none-step before rows r d true e some later k within = let never : ⊥ = cc in absurd never
none-step before rows r d false e none later zero within = new-here before rows r d e
none-step before rows r d false e none later (suc k) within = new-at before rows r d e k (later none k (omega (arith, within)))

-- Where none is doubled, each is new.
none-doubled : (before rows : List BarcodeRow) (d : BarcodeRow) → doubled_after before rows ≡ [] → (k : ℕ) → k < length rows
    → has_barcode (before ++ take k rows) (get_or rows k d).barcode ≡ false
none-doubled before [] d none k within = absurd (omega (arith, within))
none-doubled before (r ∷ rows) d none k within =
    none-step before rows r d (has_barcode before r.barcode) refl none (none-doubled (before ++ r ∷ []) rows d) k within

first-later : (before rows : List BarcodeRow) (r : BarcodeRow) (n : ℕ) → has_barcode before r.barcode ≡ false → IsFirstAfter (before ++ r ∷ []) rows n
    → IsFirstAfter before (r ∷ rows) n
first-later before rows r n e first = record {
  place = suc first.place;
  row = first.row;
  there = first.there;
  new = new;
  doubled = subst (λ (xs : List BarcodeRow). has_barcode xs first.row.barcode ≡ true) (moved before rows r first.place) first.doubled;
  number_is = first.number_is;
}
  where
    new : (k : ℕ) (d : BarcodeRow) → k < suc first.place → has_barcode (before ++ take k (r ∷ rows)) (get_or (r ∷ rows) k d).barcode ≡ false
    new zero d lt = new-here before rows r d e
    new (suc k) d lt = new-at before rows r d e k (first.new k d (omega (arith, lt)))

first-step : (before rows : List BarcodeRow) (r : BarcodeRow) (n : ℕ) (others : List ℕ) (b : Bool) → has_barcode before r.barcode ≡ b
    → with_doubled b (thing_number r.thing) (doubled_after (before ++ r ∷ []) rows) ≡ n ∷ others
    → (doubled_after (before ++ r ∷ []) rows ≡ n ∷ others → IsFirstAfter (before ++ r ∷ []) rows n) → IsFirstAfter before (r ∷ rows) n
first-step before rows r n others true e is later = record {
  place = 0;
  row = r;
  there = refl;
  new = λ k d lt. absurd (omega (arith, lt));
  doubled = ap (λ (xs : List BarcodeRow). has_barcode xs r.barcode) (append-nil before) ∙ e;
  number_is = (let same : thing_number r.thing ≡ n = cc in same);
}
first-step before rows r n others false e is later = first-later before rows r n e (later is)

-- Where some are, the first number is that of the first.
first-doubled : (before rows : List BarcodeRow) (n : ℕ) (others : List ℕ) → doubled_after before rows ≡ n ∷ others → IsFirstAfter before rows n
first-doubled before [] n others is = let never : ⊥ = cc in absurd never
first-doubled before (r ∷ rows) n others is =
    first-step before rows r n others (has_barcode before r.barcode) refl is (first-doubled (before ++ r ∷ []) rows n others)

-- The first numbers tell whether any is doubled.
pub doubled-are : (rows : List BarcodeRow) (most : ℕ) (found : List ℕ) → found ≡ take most (doubled_numbers rows) → AreDoubled rows most found
doubled-are rows most found is = record { numbers = is; first = λ some. go (doubled_numbers rows) refl most some is }
  where
    go : (all : List ℕ) → doubled_numbers rows ≡ all → (most : ℕ) → 0 < most → found ≡ take most all
        → MatchOption (slice_get found 0) (AreDistinct rows) (IsFirstDoubled rows)
    go all e zero some is = absurd (omega (arith, some))
    go [] e (suc most) some is =
        subst (λ (xs : List ℕ). MatchOption (slice_get xs 0) (AreDistinct rows) (IsFirstDoubled rows)) (sym is) (λ k d. none-doubled [] rows d e k)
    go (n ∷ others) e (suc most) some is =
        subst (λ (xs : List ℕ). MatchOption (slice_get xs 0) (AreDistinct rows) (IsFirstDoubled rows)) (sym is)
        (let first = first-doubled [] rows n others e in record {
          place = first.place;
          row = first.row;
          there = first.there;
          before = first.new;
          doubled = first.doubled;
          number_is = first.number_is;
        })

-- One number more, if it is doubled.
with-others : (b : Bool) (n : ℕ) (found others : List ℕ) → (found ++ with_doubled b n []) ++ others ≡ found ++ with_doubled b n others
with-others true n found others = append_assoc found (n ∷ []) others
with-others false n found others = ap (λ (xs : List ℕ). xs ++ others) (append-nil found)

-- One row more.
pub doubled-more : (rows : List BarcodeRow) (i : ℕ) (r : BarcodeRow) (found : List ℕ) → i < length rows → r ≡ get_or rows i r
    → (found ++ with_doubled (has_barcode (take i rows) r.barcode) (thing_number r.thing) []) ++ doubled_after (take (i + 1) rows) (drop (i + 1) rows)
    ≡ found ++ doubled_after (take i rows) (drop i rows)
doubled-more rows i r found lt is =
    let here : get_or rows i r ≡ r = sym is in
    let one : take (i + 1) rows ≡ take i rows ++ r ∷ [] = take_more rows i r lt ∙ ap (λ (q : BarcodeRow). take i rows ++ q ∷ []) here in
    let rest : drop i rows ≡ r ∷ drop (i + 1) rows = drop_more rows i r lt ∙ ap (λ (q : BarcodeRow). q ∷ drop (i + 1) rows) here in
    subst (λ (xs : List BarcodeRow). (found ++ with_doubled (has_barcode (take i rows) r.barcode) (thing_number r.thing) [])
    ++ doubled_after xs (drop (i + 1) rows) ≡ found ++ doubled_after (take i rows) (drop i rows)) (sym one)
    (subst (λ (xs : List BarcodeRow). (found ++ with_doubled (has_barcode (take i rows) r.barcode) (thing_number r.thing) [])
    ++ doubled_after (take i rows ++ r ∷ []) (drop (i + 1) rows) ≡ found ++ doubled_after (take i rows) xs) (sym rest)
    (with-others (has_barcode (take i rows) r.barcode) (thing_number r.thing) found (doubled_after (take i rows ++ r ∷ []) (drop (i + 1) rows))))

pub few-more : (doubled : Bool) (n most : ℕ) (found : List ℕ) → length found < most → length (found ++ with_doubled doubled n []) ≤ most
few-more true n most found less = let size : length (found ++ n ∷ []) ≡ length found + 1 = length-append found (n ∷ []) in omega (arith, size, less)
few-more false n most found less = let size : length (found ++ []) ≡ length found + 0 = length-append found [] in omega (arith, size, less)

-- As many as may be were found.
pub full-found : (most : ℕ) (found others : List ℕ) → length found ≡ most → found ≡ take most (found ++ others)
full-found most found others full =
    sym (take-append-le most found others (omega (arith, full)) ∙ take_all most found (omega (arith, full)))

-- All rows were looked at.
pub all-found : (rows : List BarcodeRow) (i most : ℕ) (found : List ℕ) → length rows ≤ i → length found ≤ most
    → take most (found ++ doubled_after (take i rows) (drop i rows)) ≡ take most (doubled_numbers rows) → found ≡ take most (doubled_numbers rows)
all-found rows i most found end few are =
    let none : drop i rows ≡ [] = drop_all i rows end in
    sym (take_all most found few) ∙ ap (take most) (sym (append-nil found))
    ∙ ap (λ (xs : List BarcodeRow). take most (found ++ doubled_after (take i rows) xs)) (sym none) ∙ are
