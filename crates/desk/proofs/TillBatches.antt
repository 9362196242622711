-- The lines of a day, batch by batch.
use Rattle.std.proofs.Common.{◌≡◌, ℕ, suc, ◌≤◌, ◌<◌, ◌+◌, ◌-◌, ◌*◌, ◌^◌, min, Bool, true, false, cond, ◌⊎◌, inl, inr, List, [], ◌∷◌, ◌++◌, length, map, refl}
use Rattle.std.proofs.Common.{append-nil, take, slice_index_or, sym, ◌∙◌, ap, subst, arith}
use Rattle.std.specs.Prelude.{Some, None, codes, decimal, filter}
use Rattle.std.specs.List.{Contains, AllByRecursion}
use Rattle.std.proofs.lemmas.Bool.{cases_lt}
use Rattle.std.proofs.lemmas.List.{take_more}
use Rattle.std.proofs.lemmas.List.Elements.{filter-append}
use Rattle.circ_tables.specs.declared.by_number.TheConstants.{BATCH_ROWS}
use Rattle.store.specs.Lists.{AreRows}
use Rattle.terms.specs.Orders.{Rise}
use Rattle.store.specs.Batches.{AreLinesAfter}
use Rattle.terms.specs.Limits.{InLimits}
use Rattle.terms.specs.declared.limits.TheConstants.{LAST_NUMBER}
use Rattle.terms.specs.Pictures.{Picture}
use Rattle.terms.specs.declared.row.LineRow.{LineRow}
use Rattle.terms.specs.declared.row.Sort.{Sort}
use Rattle.terms.specs.declared.row.Sort.TheVariants.{Fine, Price, Payment, Waiver, Charge}
use Rattle.model.specs.History.{History}
use Rattle.model.specs.Picture.{picture}
use Rattle.desk.specs.Parts.{IsLast}
use Rattle.desk.specs.Reporting.{rows_sum, capped_sum, capped_sums, day_sums, is_noted, AreLinesOf, AreSumsOf, IsTillText, IsTillTextAt, IsTillReport}
use Rattle.desk.specs.Reporting.{till_words, till_at_words}
use Rattle.desk.specs.declared.till.Sums.{Sums}
use Rattle.std.specs.Prelude.{Result}
use Rattle.store.specs.Library.{Ghosts, Held}
use Rattle.terms.specs.declared.fault.Fault.{Fault}
use Rattle.std.specs.List.{join_with_byte}
use Rattle.calendar.specs.Days.{day_text}
use Rattle.model.specs.Pages.{spaced}
use Rattle.model.specs.Reports.{till, till_rows, till_at_rows, till_line, till_sum, charges_row}
use Rattle.model.proofs.RowRanges.{legal-rows}
use Rattle.desk.specs.Answering.{Learns}
use Rattle.desk.proofs.Founds.{Found}
use Rattle.desk.proofs.Looking.{looked, learns-on}
use Rattle.desk.proofs.NumberLists.{last-is}
use Rattle.desk.proofs.RowLists.{has, contains-has, has-contains}
use Rattle.desk.proofs.Contained.{in-cases, in-none, above-first}
use Rattle.desk.proofs.ReportLines.{report-joined}
use Rattle.desk.proofs.TillLines.{till-sum, till-sum-at}
use Rattle.desk.proofs.TillSums.{sum-append, sum-cons}

-- ---- rows after rows

module _ {R : Type 0} where
  contains-first : (x : R) (rows : List R) → Contains (x ∷ rows) x
  contains-first x rows = (0, omega arith, refl)

  contains-later : (x r : R) (rows : List R) → Contains rows r → Contains (x ∷ rows) r
  contains-later x r rows at = let lt : at.0 < length rows = at.1 in (suc at.0, omega (arith, lt), at.2)

  in-either : (xs ys : List R) (r : R) → Contains (xs ++ ys) r → Contains xs r ⊎ Contains ys r
  in-either [] ys r at = inr at
  in-either (x ∷ xs) ys r at = go (λ more. in-either xs ys r more) (in-cases x r (xs ++ ys) at)
    where
      go : (Contains (xs ++ ys) r → Contains xs r ⊎ Contains ys r) → (r ≡ x) ⊎ Contains (xs ++ ys) r → Contains (x ∷ xs) r ⊎ Contains ys r
      go ih (inl same) = inl (subst (λ y. Contains (x ∷ xs) y) (sym same) (contains-first x xs))
      go ih (inr more) = elim (ih more) [ inl there ↦ inl (contains-later x r xs there) | inr there ↦ inr there ]

  in-front : (xs ys : List R) (r : R) → Contains xs r → Contains (xs ++ ys) r
  in-front [] ys r at = absurd (in-none r at)
  in-front (x ∷ xs) ys r at = elim (in-cases x r xs at) [
    | inl same ↦ subst (λ y. Contains (x ∷ (xs ++ ys)) y) (sym same) (contains-first x (xs ++ ys))
    | inr more ↦ contains-later x r (xs ++ ys) (in-front xs ys r more)
  ]

  in-back : (xs ys : List R) (r : R) → Contains ys r → Contains (xs ++ ys) r
  in-back [] ys r at = at
  in-back (x ∷ xs) ys r at = contains-later x r (xs ++ ys) (in-back xs ys r at)

  all-append : (P : R → Type 0) (xs ys : List R) → AllByRecursion P xs → ((r : R) → Contains ys r → P r) → AllByRecursion P (xs ++ ys)
  all-append P [] [] all more = tt
  all-append P [] (y ∷ ys) all more = (more y (contains-first y ys), all-append P [] ys tt (λ r at. more r (contains-later y r ys at)))
  all-append P (x ∷ xs) ys all more = (all.0, all-append P xs ys all.1 more)

  module _ (number_of : R → ℕ) where
    rise-append : (xs ys : List R) → Rise number_of xs → Rise number_of ys
        → ((r s : R) → Contains xs r → Contains ys s → number_of r < number_of s) → Rise number_of (xs ++ ys)
    rise-append [] ys up also below = also
    rise-append (x ∷ xs) ys up also below = (
      all-append (λ s. number_of x < number_of s) xs ys up.0 (λ s at. below x s (contains-first x xs) at),
      rise-append xs ys up.1 also (λ r s at there. below r s (contains-later x r xs at) there),
    )

-- ---- the lines up to a number

-- The rows are the lines of the day up to this number.
abbrev pub AreLinesTo : Picture → ℕ → ℕ → List LineRow → Type 0
AreLinesTo P d after = AreRows P.lines (λ r. r.line) (λ r. (r.day ≡ d) × (r.line ≤ after))

-- There is none up to 0.
pub no-lines : (P : Picture) (d after : ℕ) → InLimits P → after ≡ 0 → AreLinesTo P d after []
no-lines P d after legal first = record {
  sound = λ r at. absurd (in-none r at);
  whole = λ n r there passes.
      let low : r.line ≤ after = passes.1 in
      let high : 1 ≤ r.line = (legal.lines n r there).1.0.0 in
      absurd (omega (arith, low, high, first));
  rise = tt;
}

module _ (P : Picture) (d after : ℕ) (legal : InLimits P) (done rows : List LineRow) (before : AreLinesTo P d after done)
    (batch : AreLinesAfter P d after rows) where
  joined-rise : Rise (λ r. r.line) (done ++ rows)
  joined-rise = rise-append (λ (r : LineRow). r.line) done rows before.rise batch.rise (λ r s at there.
      let low : r.line ≤ after = (before.sound r at).1.1 in
      let high : after < s.line = (batch.sound s there).1.1 in
      omega (arith, low, high))

  -- A batch that isn't full is the last one.
  pub lines-all : IsLast (λ (r : LineRow). r.line) rows None → AreLinesOf P d (done ++ rows)
  lines-all short = record {
    sound = λ r at. elim (in-either done rows r at) [
      | inl there ↦ ((before.sound r there).0, (before.sound r there).1.0)
      | inr there ↦ ((batch.sound r there).0, (batch.sound r there).1.0)
    ];
    whole = λ n r there day. elim (cases_lt after r.line) [
      | inl high ↦ elim (batch.whole n r there (day, high)) [
        | inl at ↦ in-back done rows r at
        | inr rest ↦ (let full : length rows ≡ BATCH_ROWS = rest.0 in absurd (omega (arith, full, short)))
      ]
      | inr low ↦ in-front done rows r (before.whole n r there (day, low))
    ];
    rise = joined-rise;
  }

  module _ (last : ℕ) (end : IsLast (λ (r : LineRow). r.line) rows (Some last)) where
    greatest : ((k : ℕ) → has k (map (λ (r : LineRow). r.line) rows) ≡ true → k ≤ last) × (has last (map (λ (r : LineRow). r.line) rows) ≡ true)
    greatest = last-is (λ (r : LineRow). r.line) rows (length rows - 1) last batch.rise refl end

    -- The last line of a batch is above the number that it begins after.
    pub lines-go-on : after < last
    lines-go-on =
        let row : (r : LineRow) × Contains rows r × (r.line ≡ last) = has-contains (λ (r : LineRow). r.line) rows last greatest.1 in
        let high : after < row.0.line = (batch.sound row.0 row.1).1.1 in
        let same : row.0.line ≡ last = row.2 in
        omega (arith, high, same)

    -- A batch more.
    pub lines-more : AreLinesTo P d last (done ++ rows)
    lines-more = record {
      sound = λ r at. elim (in-either done rows r at) [
        | inl there ↦
            let low : r.line ≤ after = (before.sound r there).1.1 in
            let on : after < last = lines-go-on in
            ((before.sound r there).0, ((before.sound r there).1.0, omega (arith, low, on)))
        | inr there ↦ (
          (batch.sound r there).0,
          ((batch.sound r there).1.0, greatest.0 r.line (contains-has (λ (q : LineRow). q.line) rows r there.0 there.1 there.2)),
        )
      ];
      whole = λ n r there passes. elim (cases_lt after r.line) [
        | inl high ↦ elim (batch.whole n r there (passes.0, high)) [
          | inl at ↦ in-back done rows r at
          | inr rest ↦
              let row : (s : LineRow) × Contains rows s × (s.line ≡ last) = has-contains (λ (s : LineRow). s.line) rows last greatest.1 in
              let less : row.0.line < n = rest.1 row.0 row.1 in
              let same : row.0.line ≡ last = row.2 in
              let mine : r.line ≡ n = (legal.lines n r there).0 in
              let low : r.line ≤ last = passes.1 in
              absurd (omega (arith, less, same, mine, low))
        ]
        | inr low ↦ in-front done rows r (before.whole n r there (passes.0, low))
      ];
      rise = joined-rise;
    }

-- ---- the sums so far

-- The sums are those of the lines up to a number that pass a test, which came in so many batches and no more.
pub record AreSumsTo (P : Picture) (test : LineRow → Bool) (d after : ℕ) (sums : Sums) (batches : ℕ) : Type 0 where
  pub done : List LineRow
  pub lines : AreLinesTo P d after done
  pub sums_are : sums ≡ capped_sums (filter test done)
  pub few : batches ≤ after

-- Sums that stay at the largest number, added one after another.
pub capped-then : (s : Sort) (before rows : List LineRow) (sum : ℕ) → sum ≡ capped_sum s before
    → min (sum + rows_sum s rows) (2 ^ 128 - 1) ≡ capped_sum s (before ++ rows)
capped-then s before rows sum is =
    let all : rows_sum s (before ++ rows) ≡ rows_sum s before + rows_sum s rows = sum-append s before rows in
    omega (arith, is, all)

-- What the sums of a batch add.
pub sums-then : (before rows : List LineRow) (sums : Sums) → sums ≡ capped_sums before → (f p q w c : ℕ)
    → f ≡ min (sums.fines + rows_sum Fine rows) (2 ^ 128 - 1) → p ≡ min (sums.prices + rows_sum Price rows) (2 ^ 128 - 1)
    → q ≡ min (sums.payments + rows_sum Payment rows) (2 ^ 128 - 1) → w ≡ min (sums.waivers + rows_sum Waiver rows) (2 ^ 128 - 1)
    → c ≡ min (sums.charges + rows_sum Charge rows) (2 ^ 128 - 1)
    → record { fines = f; prices = p; payments = q; waivers = w; charges = c } ≡ capped_sums (before ++ rows)
sums-then before rows sums is f p q w c one two three four five = λ i. record {
  fines = (one ∙ capped-then Fine before rows sums.fines (ap (λ (x : Sums). x.fines) is)) i;
  prices = (two ∙ capped-then Price before rows sums.prices (ap (λ (x : Sums). x.prices) is)) i;
  payments = (three ∙ capped-then Payment before rows sums.payments (ap (λ (x : Sums). x.payments) is)) i;
  waivers = (four ∙ capped-then Waiver before rows sums.waivers (ap (λ (x : Sums). x.waivers) is)) i;
  charges = (five ∙ capped-then Charge before rows sums.charges (ap (λ (x : Sums). x.charges) is)) i;
}

-- ---- the rows that pass

pub every : (rows : List LineRow) → filter (λ r. true) rows ≡ rows
every [] = refl
every (r ∷ rows) = ap (λ (l : List LineRow). r ∷ l) (every rows)

-- They sum to no more than all.
sum-part : (s : Sort) (test : LineRow → Bool) (rows : List LineRow) → rows_sum s (filter test rows) ≤ rows_sum s rows
sum-part s test [] = omega arith
sum-part s test (r ∷ rows) = go (sum-part s test rows) (test r)
  where
    all : rows_sum s (r ∷ rows) ≡ rows_sum s (r ∷ []) + rows_sum s rows
    all = sum-append s (r ∷ []) rows

    go : rows_sum s (filter test rows) ≤ rows_sum s rows → (b : Bool) → rows_sum s (cond b (r ∷ filter test rows) (filter test rows)) ≤ rows_sum s (r ∷ rows)
    go ih true =
        let part : rows_sum s (r ∷ filter test rows) ≡ rows_sum s (r ∷ []) + rows_sum s (filter test rows) = sum-append s (r ∷ []) (filter test rows) in
        omega (arith, ih, all, part)
    go ih false = omega (arith, ih, all)

-- One row more.
pub picked-more : (test : LineRow → Bool) (rows picked : List LineRow) (i : ℕ) (r : LineRow) → i < length rows → r ≡ slice_index_or rows i r
    → (b : Bool) → test r ≡ b → picked ≡ filter test (take i rows) → cond b (picked ++ r ∷ []) picked ≡ filter test (take (i + 1) rows)
picked-more test rows picked i r within at b e is = go b e ∙ sym (filter-append test (take i rows) (r ∷ [])) ∙ ap (filter test) (sym more)
  where
    more : take (i + 1) rows ≡ take i rows ++ r ∷ []
    more = take_more rows i r within ∙ ap (λ (x : LineRow). take i rows ++ x ∷ []) (sym at)

    go : (b : Bool) → test r ≡ b → cond b (picked ++ r ∷ []) picked ≡ filter test (take i rows) ++ filter test (r ∷ [])
    go true e = ap (λ (l : List LineRow). l ++ r ∷ []) is ∙ ap (λ (c : Bool). filter test (take i rows) ++ cond c (r ∷ []) []) (sym e)
    go false e = is ∙ sym (append-nil (filter test (take i rows))) ∙ ap (λ (c : Bool). filter test (take i rows) ++ cond c (r ∷ []) []) (sym e)

-- Those of a batch after those before.
pub picked-then : (test : LineRow → Bool) (done rows picked : List LineRow) → picked ≡ filter test rows → (sums new : Sums)
    → sums ≡ capped_sums (filter test done)
    → (sums ≡ capped_sums (filter test done) → new ≡ capped_sums (filter test done ++ picked)) → new ≡ capped_sums (filter test (done ++ rows))
picked-then test done rows picked same sums new is then =
    then is ∙ ap (λ (l : List LineRow). capped_sums (filter test done ++ l)) same ∙ ap capped_sums (sym (filter-append test done rows))

-- ---- no sum is too large

-- Rows of rising numbers above one, each of less than 2^52 cents, have less than that for each number.
few-cents : (s : Sort) (low high : ℕ) (rows : List LineRow) → low ≤ high → Rise (λ r. r.line) rows
    → ((r : LineRow) → Contains rows r → (low < r.line) × (r.line ≤ high) × (r.amount ≤ 4503599627370495))
    → rows_sum s rows + low * 4503599627370495 ≤ high * 4503599627370495
few-cents s low high [] le up within = let none : rows_sum s [] ≡ 0 = refl in omega (arith, le, none)
few-cents s low high (x ∷ rows) le up within =
    let first = within x (contains-first x rows) in
    let on : low < x.line = first.0 in
    let up_to : x.line ≤ high = first.1 in
    let cents : x.amount ≤ 4503599627370495 = first.2 in
    let rest : rows_sum s rows + x.line * 4503599627370495 ≤ high * 4503599627370495 =
    few-cents s x.line high rows up_to up.1
    (λ r at. let it = within r (contains-later x r rows at) in (above-first (λ (q : LineRow). q.line) x.line rows up.0 r at, it.1, it.2)) in
    omega (arith, on, cents, rest, sum-cons s x rows)

-- The sums of all lines of a day are those of the picture: 2^32 lines of 2^52 cents stay far below 2^128.
pub sums-of : (P : Picture) (test : LineRow → Bool) (d : ℕ) → InLimits P → (rows : List LineRow) → AreLinesOf P d rows → (sums : Sums)
    → sums ≡ capped_sums (filter test rows) → AreSumsOf P test d sums
sums-of P test d legal rows all sums is = record {
  rows = rows;
  all = all;
  fines = exact Fine sums.fines (ap (λ (x : Sums). x.fines) is);
  prices = exact Price sums.prices (ap (λ (x : Sums). x.prices) is);
  payments = exact Payment sums.payments (ap (λ (x : Sums). x.payments) is);
  waivers = exact Waiver sums.waivers (ap (λ (x : Sums). x.waivers) is);
  charges = exact Charge sums.charges (ap (λ (x : Sums). x.charges) is);
}
  where
    exact : (s : Sort) (n : ℕ) → n ≡ capped_sum s (filter test rows) → n ≡ rows_sum s (filter test rows)
    exact s n same =
        let few : rows_sum s rows + 0 * 4503599627370495 ≤ LAST_NUMBER * 4503599627370495 =
        few-cents s 0 LAST_NUMBER rows (omega arith) all.rise
        (λ r at. let it = (legal.lines r.line r (all.sound r at).0).1 in let one : 1 ≤ r.line = it.0.0 in
        (omega (arith, one), it.0.1, it.3)) in
        let part = sum-part s test rows in
        omega (arith, same, few, part)

-- After a history they are its sums.
pub days-sums : (H : History) (d : ℕ) (sums : Sums) → AreSumsOf (picture H) (λ r. true) d sums → sums ≡ day_sums H d
days-sums H d sums of = λ i. record {
  fines = (of.fines ∙ all Fine) i;
  prices = (of.prices ∙ all Price) i;
  payments = (of.payments ∙ all Payment) i;
  waivers = (of.waivers ∙ all Waiver) i;
  charges = (of.charges ∙ all Charge) i;
}
  where
    all : (s : Sort) → rows_sum s (filter (λ r. true) of.rows) ≡ till_sum H d s
    all s = ap (rows_sum s) (every of.rows) ∙ till-sum H d of.rows of.all s

-- Those of what was made at a branch are the sums of its till.
pub counter-sums : (H : History) (b d : ℕ) (sums : Sums) → AreSumsOf (picture H) (λ r. is_noted b ((picture H).notes r.line)) d sums
    → till_at_words b d sums ≡ join_with_byte 10 (till_at_rows H b d)
counter-sums H b d sums of =
    let paid = of.payments ∙ till-sum-at H b d of.rows of.all Payment in
    let charged = of.charges ∙ till-sum-at H b d of.rows of.all Charge in
    λ i. join_with_byte 10 (spaced (codes "till" ∷ day_text d ∷ codes "at" ∷ decimal b ∷ []) ∷ till_line (codes "payments") (paid i)
    ∷ till_line (codes "charges") (charged i) ∷ [])

-- What was found of them has the lines of the branch's till of every history that the tables show.
pub counter-learnt : {S T : Type 0} {g : Ghosts S} {a c : Held S} {d : ℕ} {r : Result T Fault} (b : ℕ) (bytes : T → List ℕ)
    → Found (λ P text. IsTillTextAt P b d (bytes text)) g a c r → Learns (λ H text. bytes text ≡ join_with_byte 10 (till_at_rows H b d)) g a c r
counter-learnt {d = d} b bytes found =
    learns-on (looked found legal-rows legal-rows) (λ _ _ _. tt) (λ H legal _ text is. is.2 ∙ counter-sums H b d is.0 is.1)

-- What was found of the day's lines has the lines of the report of every history that the tables show.
pub till-rows-learnt : {S T : Type 0} {g : Ghosts S} {a b : Held S} {d : ℕ} {r : Result T Fault} (bytes : T → List ℕ)
    → Found (λ P text. IsTillText P d (bytes text)) g a b r → Learns (λ H text. bytes text ≡ join_with_byte 10 (till_rows H d)) g a b r
till-rows-learnt {d = d} bytes found =
    learns-on (looked found legal-rows legal-rows) (λ _ _ _. tt) (λ H legal _ text is. is.2 ∙ ap (till_words d) (days-sums H d is.0 is.1))

till-joined : (H : History) (d : ℕ) → join_with_byte 10 (till_rows H d) ++ 10 ∷ [] ≡ till H d
till-joined H d = report-joined (spaced (codes "till" ∷ day_text d ∷ []))
    (till_line (codes "fines") (till_sum H d Fine) ∷ till_line (codes "prices") (till_sum H d Price)
    ∷ till_line (codes "payments") (till_sum H d Payment) ∷ till_line (codes "waivers") (till_sum H d Waiver) ∷ charges_row (till_sum H d Charge))

-- With a newline it is the report.
pub till-learnt : {S T : Type 0} {g : Ghosts S} {a b : Held S} {d : ℕ} {r : Result T Fault} (bytes : T → List ℕ)
    → Found (λ P text. IsTillReport P d (bytes text)) g a b r → Learns (λ H text. bytes text ≡ till H d) g a b r
till-learnt {d = d} bytes found =
    learns-on (looked found legal-rows legal-rows) (λ _ _ _. tt) (λ H legal _ text is.
    is.2 ∙ ap (λ (t : List ℕ). t ++ 10 ∷ []) (is.1.2 ∙ ap (till_words d) (days-sums H d is.1.0 is.1.1)) ∙ till-joined H d)
