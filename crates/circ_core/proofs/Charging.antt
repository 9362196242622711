-- The effect of one or two more charges on the accounts and their lines.
use Rattle.std.proofs.Common.{◌≡◌, ℕ, zero, suc, ◌+◌, ◌-◌, ◌≤◌, ◌==◌, Bool, true, false, cond, ◌&&◌, List, [], ◌∷◌, ◌++◌, length, refl, sym}
use Rattle.std.proofs.Common.{◌∙◌, ap, subst, arith}
use Rattle.std.specs.Prelude.{Option, Some, None, option_map, filter}
use Rattle.std.proofs.lemmas.Bool.{eqb-true, eq-eqb}
use Rattle.std.proofs.lemmas.List.{append-nil, append_assoc}
use Rattle.std.proofs.lemmas.List.Elements.{filter-append}
use Rattle.std.proofs.lemmas.List.Sums.{sum_by-append}
use Rattle.terms.specs.declared.row.PatronRow.{PatronRow}
use Rattle.terms.specs.declared.row.LoanRow.{LoanRow}
use Rattle.terms.specs.declared.row.LineRow.{LineRow}
use Rattle.terms.specs.declared.row.Sort.{Sort}
use Rattle.terms.specs.declared.row.Sort.TheVariants.{Fine, Price}
use Rattle.terms.specs.Pictures.{Picture, put}
use Rattle.terms.specs.declared.limits.TheConstants.{LARGEST_SUM}
use Rattle.model.specs.History.{History, today, PatronFacts, patron_of}
use Rattle.model.specs.Accounts.{Line, line_of, lines, next_line, charge, credit, charges, credits, owed}
use Rattle.model.specs.Invariant.{Invariant}
use Rattle.model.specs.Picture.{meta_row, patron_row, patron_columns, nth_line, line_row, line_columns}
use Rattle.model.proofs.Moves.{false-ne}
use Rattle.circ_core.specs.Ending.{charged, account_rows}
use Rattle.circ_core.specs.declared.changes.RowChange.{RowChange}
use Rattle.circ_core.specs.declared.changes.RowChange.TheVariants.{PutMeta, PutPatron, PutLine}
use Rattle.circ_core.specs.Tables.{changed}
use Rattle.circ_core.proofs.Rows.{is_suc}
use Rattle.circ_core.proofs.PayAndWaiveMeets.{nth-added, nth-kept, length-added}

-- ---- what is owed, by a list of lines

abbrev pub owed_in : List Line → ℕ → ℕ
owed_in xs q = charges (filter (λ x. x.patron == q) xs) - credits (filter (λ x. x.patron == q) xs)

abbrev Covers : List Line → ℕ → Type 0
Covers xs q = credits (filter (λ x. x.patron == q) xs) ≤ charges (filter (λ x. x.patron == q) xs)

module _ (xs : List Line) (x : Line) (q : ℕ) where
  charges_split : charges (filter (λ y. y.patron == q) (xs ++ x ∷ [])) ≡ charges (filter (λ y. y.patron == q) xs) + charges (cond (x.patron == q) (x ∷ []) [])
  charges_split =
      rw (
        filter-append (λ y. y.patron == q) xs (x ∷ []),
        sum_by-append (λ y. charge y.sort y.amount) (filter (λ y. y.patron == q) xs) (cond (x.patron == q) (x ∷ []) []),
      ) refl

  credits_split : credits (filter (λ y. y.patron == q) (xs ++ x ∷ [])) ≡ credits (filter (λ y. y.patron == q) xs) + credits (cond (x.patron == q) (x ∷ []) [])
  credits_split =
      rw (
        filter-append (λ y. y.patron == q) xs (x ∷ []),
        sum_by-append (λ y. credit y.sort y.amount) (filter (λ y. y.patron == q) xs) (cond (x.patron == q) (x ∷ []) []),
      ) refl

-- The patron of a charge owes so much more, and nobody else owes anything else.
owed-more : (xs : List Line) (x : Line) → credit x.sort x.amount ≡ 0 → charge x.sort x.amount ≡ x.amount → Covers xs x.patron
    → (owed_in (xs ++ x ∷ []) x.patron ≡ owed_in xs x.patron + x.amount) × Covers (xs ++ x ∷ []) x.patron
owed-more xs x no_credit is_charge covers =
    go (x.patron == x.patron) (eq-eqb x.patron x.patron refl) (charges_split xs x x.patron) (credits_split xs x x.patron)
  where
    go : (b : Bool) → b ≡ true
        → charges (filter (λ y. y.patron == x.patron) (xs ++ x ∷ [])) ≡ charges (filter (λ y. y.patron == x.patron) xs) + charges (cond b (x ∷ []) [])
        → credits (filter (λ y. y.patron == x.patron) (xs ++ x ∷ [])) ≡ credits (filter (λ y. y.patron == x.patron) xs) + credits (cond b (x ∷ []) [])
        → (owed_in (xs ++ x ∷ []) x.patron ≡ owed_in xs x.patron + x.amount) × Covers (xs ++ x ∷ []) x.patron
    go true e s t = (omega (arith, s, t, no_credit, is_charge, covers), omega (arith, s, t, no_credit, is_charge, covers))
    go false e s t = let never : ⊥ = cc in absurd never

owed-kept : (xs : List Line) (x : Line) (q : ℕ) → (x.patron == q) ≡ false → owed_in (xs ++ x ∷ []) q ≡ owed_in xs q
owed-kept xs x q e = go (x.patron == q) e (charges_split xs x q) (credits_split xs x q)
  where
    go : (b : Bool) → b ≡ false
        → charges (filter (λ y. y.patron == q) (xs ++ x ∷ [])) ≡ charges (filter (λ y. y.patron == q) xs) + charges (cond b (x ∷ []) [])
        → credits (filter (λ y. y.patron == q) (xs ++ x ∷ [])) ≡ credits (filter (λ y. y.patron == q) xs) + credits (cond b (x ∷ []) [])
        → owed_in (xs ++ x ∷ []) q ≡ owed_in xs q
    go true f s t = let never : ⊥ = cc in absurd never
    go false f s t = omega (arith, s, t)

-- ---- the rows of the lines

module _ (H : History) where
  abbrev rows_in : List Line → ℕ → Option LineRow
  rows_in xs k = option_map (line_columns H k) (nth_line xs k)

  -- The row under the next number is that of the line that is added.
  line-put : (xs : List Line) (x : Line) (n : ℕ) → length xs + 1 ≡ n → (k : ℕ) → put (rows_in xs) n (Some (line_columns H n x)) k ≡ rows_in (xs ++ x ∷ []) k
  line-put xs x n is k = go (n == k) refl
    where
      go : (b : Bool) → (n == k) ≡ b → (elim b as (λ _. Option LineRow) [ true ↦ Some (line_columns H n x) | false ↦ rows_in xs k ]) ≡ rows_in (xs ++ x ∷ []) k
      go true e =
          let same : n ≡ k = eqb-true _ _ e in
          ap (λ m. Some (line_columns H m x)) same ∙ sym (ap (option_map (line_columns H k)) (nth-added xs x k (is ∙ same)))
      go false e = sym (ap (option_map (line_columns H k)) (nth-kept xs x k (λ f. false-ne _ _ e (sym is ∙ f))))

put-same : {A : Type 0} (s t : ℕ → A) (n : ℕ) (x : A) → ((k : ℕ) → s k ≡ t k) → (k : ℕ) → put s n x k ≡ put t n x k
put-same {A} s t n x same k = go (n == k)
  where
    go : (b : Bool) → (elim b as (λ _. A) [ true ↦ x | false ↦ s k ]) ≡ (elim b as (λ _. A) [ true ↦ x | false ↦ t k ])
    go true = refl
    go false = same k

-- ---- the tables

-- The tables show these lines: their rows, what each patron owes by them, and the next number. The other tables are those of P.
pub record ShowsLines (H : History) (xs : List Line) (P Q : Picture) : Type 0 where
  pub meta : Q.meta ≡ record (meta_row H) { next_line = length xs + 1 }
  pub patrons : (q : ℕ) → Q.patrons q ≡ option_map (λ x. record (patron_columns H q x) { owed = owed_in xs q }) (patron_of H q)
  pub lines : (k : ℕ) → Q.lines k ≡ option_map (line_columns H k) (nth_line xs k)
  pub others : record Q { meta = P.meta; patrons = P.patrons; lines = P.lines } ≡ P

module _ (H : History) (inv : Invariant H) (p l : ℕ) (f : PatronFacts) (enrolled : patron_of H p ≡ Some f) (q : LoanRow) (by : q.patron ≡ p)
    (number : q.loan ≡ l)
    (fine price : ℕ) (small_fine : fine ≤ 100000) (small_price : price ≤ 1000000) (P : Picture) (meta_is : P.meta ≡ meta_row H)
    (patrons_are : (k : ℕ) → P.patrons k ≡ patron_row H k) (lines_are : (k : ℕ) → P.lines k ≡ line_row H k) where
  -- No debt comes near the most that a column holds.
  owed-fits : owed H p + fine + price ≤ LARGEST_SUM
  owed-fits = omega (arith, inv.debts p, inv.lines_left, small_fine, small_price)

  new_debt : (charged (patron_columns H p f) fine price).owed ≡ owed H p + fine + price
  new_debt = omega (arith, owed-fits)

  -- The patron's row is put with the debt that the lines leave.
  patron-put : (xs : List Line) → owed_in xs p ≡ owed H p + fine + price → ((k : ℕ) → (p == k) ≡ false → owed_in xs k ≡ owed H k) → (k : ℕ)
      → put P.patrons p (Some (charged (patron_columns H p f) fine price)) k ≡ option_map
      (λ x. record (patron_columns H k x) { owed = owed_in xs k }) (patron_of H k)
  patron-put xs own others k = go (p == k) refl
    where
      go : (b : Bool) → (p == k) ≡ b
          → (elim b as (λ _. Option PatronRow) [ true ↦ Some (charged (patron_columns H p f) fine price) | false ↦ P.patrons k ])
          ≡ option_map (λ x. record (patron_columns H k x) { owed = owed_in xs k }) (patron_of H k)
      go true e =
          subst (λ n. Some (charged (patron_columns H p f) fine price) ≡ option_map
          (λ x. record (patron_columns H n x) { owed = owed_in xs n }) (patron_of H n)) (eqb-true p k e)
          (ap (λ n. Some (record (patron_columns H p f) { owed = n })) (new_debt ∙ sym own)
          ∙ sym (ap (option_map (λ x. record (patron_columns H p x) { owed = owed_in xs p })) enrolled))
      go false e = patrons_are k ∙ ap (λ n. option_map (λ x. record (patron_columns H k x) { owed = n }) (patron_of H k)) (sym (others k e))

module _ (H : History) (p l : ℕ) where
  -- The lines with those of a fine and a price.
  abbrev pub lines_with : ℕ → ℕ → List Line
  lines_with fine price = lines H ++ (line_of H p Fine (Some l) fine ++ line_of H p Price (Some l) price)

  abbrev one : Sort → ℕ → Line
  one sort m = record { patron = p; day = today H; sort = sort; amount = suc m; loan = Some l; note = None }

  module _ (inv : Invariant H) (f : PatronFacts) (enrolled : patron_of H p ≡ Some f) (q : LoanRow) (by : q.patron ≡ p) (number : q.loan ≡ l)
      (P : Picture) (meta_is : P.meta ≡ meta_row H) (patrons_are : (k : ℕ) → P.patrons k ≡ patron_row H k)
      (lines_are : (k : ℕ) → P.lines k ≡ line_row H k) where
    line_is : (n : ℕ) (sort : Sort) (m : ℕ)
        → ◌≡◌ {A = LineRow} (record { line = n; patron = q.patron; day = today H; sort = sort; amount = suc m; loan = Some q.loan })
        (line_columns H n (one sort m))
    line_is n sort m = rw (by, number) refl

    -- The tables after the charges, by whether each of the two is zero.
    abbrev after_by : ℕ → ℕ → Bool → Bool → Picture
    after_by fine price x y = changed
        (elim (x && y) as (λ _. List RowChange) [
          | true ↦ []
          | false ↦
              PutMeta (record (meta_row H) {
                next_line = next_line H + (elim x as (λ _. ℕ) [ true ↦ 0 | false ↦ 1 ]) + (elim y as (λ _. ℕ) [ true ↦ 0 | false ↦ 1 ]);
              })
              ∷ PutPatron (charged (patron_columns H p f) fine price)
              ∷ ((elim x as (λ _. List RowChange) [
                | true ↦ []
                | false ↦ PutLine (record { line = next_line H; patron = q.patron; day = today H; sort = Fine; amount = fine; loan = Some q.loan }) ∷ []
              ]) ++ (elim y as (λ _. List RowChange) [
                | true ↦ []
                | false ↦ PutLine (record {
                  line = next_line H + (elim x as (λ _. ℕ) [ true ↦ 0 | false ↦ 1 ]);
                  patron = q.patron;
                  day = today H;
                  sort = Price;
                  amount = price;
                  loan = Some q.loan;
                }) ∷ []
              ]))
        ])
        P

    abbrev after : ℕ → ℕ → Picture
    after fine price = changed (account_rows (meta_row H) (patron_columns H p f) q fine price) P

    by_bools : (fine price : ℕ) (x y : Bool) → (fine == 0) ≡ x → (price == 0) ≡ y → (xs : List Line)
        → ShowsLines H xs P (after_by fine price x y) → ShowsLines H xs P (after fine price)
    by_bools fine price x y d e xs s =
        subst (λ a. ShowsLines H xs P (after_by fine price a (price == 0))) (sym d) (subst (λ b. ShowsLines H xs P (after_by fine price x b)) (sym e) s)

    -- One charge.
    one_shows : (sort : Sort) (m : ℕ) → charge sort (suc m) ≡ suc m → credit sort (suc m) ≡ 0 → (fine price : ℕ) → fine ≤ 100000
        → price ≤ 1000000 → fine + price ≡ suc m → (Q : Picture)
        → Q.meta ≡ record (meta_row H) { next_line = next_line H + 1 }
        → ((k : ℕ) → Q.patrons k ≡ put P.patrons p (Some (charged (patron_columns H p f) fine price)) k)
        → ((k : ℕ) → Q.lines k ≡ put P.lines (next_line H) (Some (line_columns H (next_line H) (one sort m))) k)
        → (Q.meta ≡ record (meta_row H) { next_line = length (lines H ++ one sort m ∷ []) + 1 })
        × ((k : ℕ) → Q.patrons k ≡ option_map (λ x. record (patron_columns H k x) { owed = owed_in (lines H ++ one sort m ∷ []) k }) (patron_of H k))
        × ((k : ℕ) → Q.lines k ≡ option_map (line_columns H k) (nth_line (lines H ++ one sort m ∷ []) k))
    one_shows sort m is_charge no_credit fine price small_fine small_price sum Q meta patrons lines_q =
        let more : (owed_in (lines H ++ one sort m ∷ []) p ≡ owed H p + suc m) × Covers (lines H ++ one sort m ∷ []) p =
        owed-more (lines H) (one sort m) no_credit is_charge (inv.covered p) in (
          meta ∙ ap (λ n. record (meta_row H) { next_line = n + 1 }) (sym (length-added (lines H) (one sort m))),
          (λ k. patrons k
              ∙ patron-put H inv p l f enrolled q by number fine price small_fine small_price P meta_is patrons_are lines_are
              (lines H ++ one sort m ∷ []) (omega (arith, more.0, sum))
              (λ n e. owed-kept (lines H) (one sort m) n e) k),
          (λ k. lines_q k ∙ put-same P.lines (line_row H) (next_line H) (Some (line_columns H (next_line H) (one sort m))) lines_are k
              ∙ line-put H (lines H) (one sort m) (next_line H) refl k),
        )

    pub shows : (fine price : ℕ) → fine ≤ 100000 → price ≤ 1000000 → ShowsLines H (lines_with fine price) P (after fine price)
    shows zero zero _ _ = record {
      meta = meta_is ∙ ap (λ n. record (meta_row H) { next_line = n + 1 }) (ap length (sym (append-nil (lines H))));
      patrons = λ k. patrons_are k ∙ ap (λ n. option_map (λ x. record (patron_columns H k x) { owed = n }) (patron_of H k))
          (ap (λ xs. owed_in xs k) (sym (append-nil (lines H))));
      lines = λ k. lines_are k ∙ ap (λ xs. option_map (line_columns H k) (nth_line xs k)) (sym (append-nil (lines H)));
      others = refl;
    }
    shows (suc m) zero a b =
        let Q : Picture = after_by (suc m) zero false true in
        let one = one_shows Fine m refl refl (suc m) zero a b (omega arith) Q (ap (λ n. record (meta_row H) { next_line = n }) (omega arith)) (λ k. refl)
        (λ k. ap (λ x. put P.lines (next_line H) (Some x) k) (line_is (next_line H) Fine m)) in
        by_bools (suc m) zero false true (is_suc m) refl (lines_with (suc m) zero) (record {
          meta = one.0;
          patrons = one.1;
          lines = one.2;
          others = refl;
        })
    shows zero (suc n) a b =
        let Q : Picture = after_by zero (suc n) true false in
        let same : next_line H + 0 ≡ next_line H = omega arith in
        let one = one_shows Price n refl refl zero (suc n) a b (omega arith) Q (ap (λ n. record (meta_row H) { next_line = n }) (omega arith)) (λ k. refl)
        (λ k. ap (λ j. put P.lines j (Some (record { line = j; patron = q.patron; day = today H; sort = Price; amount = suc n; loan = Some q.loan })) k) same
        ∙ ap (λ x. put P.lines (next_line H) (Some x) k) (line_is (next_line H) Price n)) in
        by_bools zero (suc n) true false refl (is_suc n) (lines_with zero (suc n)) (record {
          meta = one.0;
          patrons = one.1;
          lines = one.2;
          others = refl;
        })
    shows (suc m) (suc n) a b =
        let x : Line = one Fine m in
        let y : Line = one Price n in
        let first = owed-more (lines H) x refl refl (inv.covered p) in
        let second = owed-more (lines H ++ x ∷ []) y refl refl first.1 in
        let split : lines H ++ (x ∷ y ∷ []) ≡ (lines H ++ x ∷ []) ++ y ∷ [] = sym (append_assoc (lines H) (x ∷ []) (y ∷ [])) in
        let long : length (lines H ++ (x ∷ y ∷ [])) ≡ next_line H + 1 =
        ap length split ∙ length-added (lines H ++ x ∷ []) y ∙ ap (λ k. k + 1) (length-added (lines H) x) in
        by_bools (suc m) (suc n) false false (is_suc m) (is_suc n) (lines_with (suc m) (suc n)) (record {
          meta = ap (λ k. record (meta_row H) { next_line = k + 1 }) (sym long);
          patrons = λ k. patron-put H inv p l f enrolled q by number (suc m) (suc n) a b P meta_is patrons_are lines_are (lines H ++ (x ∷ y ∷ []))
              (ap (λ xs. owed_in xs p) split ∙ second.0 ∙ omega (arith, first.0))
              (λ j e. ap (λ xs. owed_in xs j) split ∙ owed-kept (lines H ++ x ∷ []) y j e ∙ owed-kept (lines H) x j e) k;
          lines = λ k.
              ap (λ z. put (put P.lines (next_line H) (Some z)) (next_line H + 1)
              (Some (record {
                line = next_line H + 1;
                patron = q.patron;
                day = today H;
                sort = Price;
                amount = suc n;
                loan = Some q.loan;
              })) k) (line_is (next_line H) Fine m)
              ∙ ap (λ z. put (put P.lines (next_line H) (Some (line_columns H (next_line H) x))) (next_line H + 1) (Some z) k)
              (line_is (next_line H + 1) Price n)
              ∙ put-same (put P.lines (next_line H) (Some (line_columns H (next_line H) x))) (rows_in H (lines H ++ x ∷ []))
              (next_line H + 1) (Some (line_columns H (next_line H + 1) y))
              (λ j. put-same P.lines (line_row H) (next_line H) (Some (line_columns H (next_line H) x)) lines_are j
              ∙ line-put H (lines H) x (next_line H) refl j) k
              ∙ line-put H (lines H ++ x ∷ []) y (next_line H + 1) (ap (λ j. j + 1) (length-added (lines H) x)) k
              ∙ ap (λ xs. option_map (line_columns H k) (nth_line xs k)) (sym split);
          others = refl;
        })
