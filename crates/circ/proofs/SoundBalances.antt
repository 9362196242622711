-- In a legal history's tables each patron owes the fines, prices and charges less payments and waivers.
use Rattle.std.proofs.Common.{◌≡◌, ℕ, zero, suc, ◌+◌, ◌<◌, ◌≤◌, ◌==◌, ◌⊎◌, inl, inr, Bool, true, false, cond, List, [], ◌∷◌, map, refl, sym}
use Rattle.std.proofs.Common.{◌∙◌, ap, subst, arith}
use Rattle.std.specs.Prelude.{Option, Some, None, option_map, filter, sum_by}
use Rattle.std.specs.List.{Contains}
use Rattle.std.proofs.lemmas.List.Sums.{sum_by-cons}
use Rattle.store.specs.Lists.{AreAuditTables}
use Rattle.terms.specs.Orders.{Rise}
use Rattle.terms.specs.declared.row.LineRow.{LineRow}
use Rattle.terms.specs.declared.row.PatronRow.{PatronRow}
use Rattle.terms.specs.declared.row.Sort.{Sort}
use Rattle.terms.specs.declared.row.Sort.TheVariants.{Fine, Price, Payment, Waiver, Charge}
use Rattle.terms.specs.declared.tables.Tables.{Tables}
use Rattle.model.specs.History.{History}
use Rattle.model.specs.Accounts.{Line, Note, lines, account, charge as charge_of, credit as credit_of, charges, credits, owed}
use Rattle.model.specs.Picture.{picture, nth_line, line_columns, patron_columns}
use Rattle.model.specs.Requests.{IsLegal}
use Rattle.model.proofs.Balance.{balance}
use Rattle.model.proofs.ClaimsLaw.{map-some}
use Rattle.circ_audit.specs.Rows.{is_charge, charge, credit}
use Rattle.circ_audit.specs.Sound.{IsBalanced, charges_of, credits_of}
use Rattle.desk.proofs.Contained.{in-head, in-tail, in-cases, in-none, above-first}
use Rattle.desk.specs.Labelling.{note_at}
use Rattle.desk.proofs.LineRows.{line_in, row_at, nth-zero}
use Rattle.desk.proofs.TillLines.{line-own}
use Rattle.circ.proofs.CountedRows.{all-there}

-- The rows are those of these lines, which are numbered from above k.
record AreLinesFrom (notes : ℕ → Option Note) (k : ℕ) (xs : List Line) (rows : List LineRow) : Type 0 where
  sound : (r : LineRow) → Contains rows r → (n : ℕ) × (r.line ≡ k + n) × (nth_line xs n ≡ Some (line_in notes r))
  whole : (n : ℕ) (x : Line) → nth_line xs n ≡ Some x → Contains rows (row_at (k + n) x)
  rise : Rise (λ r. r.line) rows

module _ (notes : ℕ → Option Note) (k : ℕ) (x : Line) (xs : List Line) where
  later : (r : LineRow) → suc k < r.line → (n : ℕ) → r.line ≡ k + n → nth_line (x ∷ xs) n ≡ Some (line_in notes r) → (m : ℕ)
      × (r.line ≡ suc k + m) × (nth_line xs m ≡ Some (line_in notes r))
  later r lt zero at e = let never : ⊥ = cc in absurd never
  later r lt (suc zero) at e = absurd (omega (arith, at, lt))
  later r lt (suc (suc n)) at e = (suc n, omega (arith, at), e)

  -- The row of the first line comes first, and the other rows are those of the other lines.
  first-line : (rows : List LineRow) → AreLinesFrom notes k (x ∷ xs) rows → (rest : List LineRow)
      × (map (line_in notes) rows ≡ x ∷ map (line_in notes) rest) × AreLinesFrom notes (suc k) xs rest
  first-line [] are = absurd (in-none _ (are.whole 1 x refl))
  first-line (r ∷ rest) are = (rest, ap (λ (y : Line). y ∷ map (line_in notes) rest) own, record { sound = sound; whole = whole; rise = are.rise.1 })
    where
      least : (n : ℕ) → r.line ≡ k + n → nth_line (x ∷ xs) n ≡ Some (line_in notes r) → suc k ≤ r.line
      least zero at e = let never : ⊥ = cc in absurd never
      least (suc n) at e = omega (arith, at)

      above : (q : LineRow) → Contains rest q → r.line < q.line
      above q at = above-first (λ (s : LineRow). s.line) r.line rest are.rise.0 q at

      from : suc k ≤ r.line
      from = let s = are.sound r (in-head r rest) in least s.0 s.1 s.2

      first : r ≡ row_at (k + 1) x
      first = go (in-cases r (row_at (k + 1) x) rest (are.whole 1 x refl))
        where
          go : (row_at (k + 1) x ≡ r) ⊎ Contains rest (row_at (k + 1) x) → r ≡ row_at (k + 1) x
          go (inl e) = sym e
          go (inr at) = let lt : r.line < k + 1 = above (row_at (k + 1) x) at in absurd (omega (arith, lt, from))

      number : r.line ≡ k + 1
      number = ap (λ (q : LineRow). q.line) first

      own : line_in notes r ≡ x
      own = let s = are.sound r (in-head r rest) in at s.0 s.1 s.2
        where
          at : (n : ℕ) → r.line ≡ k + n → nth_line (x ∷ xs) n ≡ Some (line_in notes r) → line_in notes r ≡ x
          at zero e is = let never : ⊥ = cc in absurd never
          at (suc zero) e is = let same : x ≡ line_in notes r = cc in sym same
          at (suc (suc n)) e is = absurd (omega (arith, e, number))

      sound : (q : LineRow) → Contains rest q → (m : ℕ) × (q.line ≡ suc k + m) × (nth_line xs m ≡ Some (line_in notes q))
      sound q at =
          let s = are.sound q (in-tail r q rest at) in
          let lt : r.line < q.line = above q at in
          later q (omega (arith, lt, from)) s.0 s.1 s.2

      whole : (n : ℕ) (y : Line) → nth_line xs n ≡ Some y → Contains rest (row_at (suc k + n) y)
      whole zero y e = let none : None ≡ Some y = sym (nth-zero xs) ∙ e in let never : ⊥ = cc in absurd never
      whole (suc n) y e = go (in-cases r (row_at (k + suc (suc n)) y) rest (are.whole (suc (suc n)) y e))
        where
          go : (row_at (k + suc (suc n)) y ≡ r) ⊎ Contains rest (row_at (k + suc (suc n)) y) → Contains rest (row_at (suc k + suc n) y)
          go (inl is) = let at : k + suc (suc n) ≡ r.line = ap (λ (q : LineRow). q.line) is in absurd (omega (arith, at, number))
          go (inr more) = let same : k + suc (suc n) ≡ suc k + suc n = omega arith in subst (λ (m : ℕ). Contains rest (row_at m y)) same more

-- The rows are the lines, in their order.
listed-from : (notes : ℕ → Option Note) (k : ℕ) (xs : List Line) (rows : List LineRow) → AreLinesFrom notes k xs rows → map (line_in notes) rows ≡ xs
listed-from notes k [] [] are = refl
listed-from notes k [] (r ∷ rows) are =
    let s = are.sound r (in-head r rows) in let e : None ≡ Some (line_in notes r) = s.2 in let never : ⊥ = cc in absurd never
listed-from notes k (x ∷ xs) rows are =
    let f = first-line notes k x xs rows are in f.1 ∙ ap (λ (ys : List Line). x ∷ ys) (listed-from notes (suc k) xs f.0 f.2)

listed : (H : History) (rows : Tables) → AreAuditTables (picture H) rows → map (line_in (note_at H)) rows.lines ≡ lines H
listed H rows are = listed-from (note_at H) zero (lines H) rows.lines (record { sound = sound; whole = whole; rise = are.lines.rise })
  where
    sound : (r : LineRow) → Contains rows.lines r → (n : ℕ) × (r.line ≡ zero + n) × (nth_line (lines H) n ≡ Some (line_in (note_at H) r))
    sound r at =
        let m = map-some (line_columns H r.line) (nth_line (lines H) r.line) r (are.lines.sound r at).0 in
        (r.line, omega arith, m.1 ∙ ap Some (line-own H r.line m.0 m.1) ∙ ap (λ (p : LineRow). Some (line_in (note_at H) p)) m.2)

    whole : (n : ℕ) (x : Line) → nth_line (lines H) n ≡ Some x → Contains rows.lines (row_at (zero + n) x)
    whole n x e =
        let same : n ≡ zero + n = omega arith in
        subst (λ m. Contains rows.lines (row_at m x)) same (are.lines.whole n (row_at n x) (ap (option_map (line_columns H n)) e) tt)

-- ---- the sums

module _ (notes : ℕ → Option Note) (p : ℕ) where
  charge-is : (r : LineRow) → charge r p ≡ cond (r.patron == p) (charge_of r.sort r.amount) 0
  charge-is r = go r.sort (r.patron == p)
    where
      go : (s : Sort) (b : Bool) → cond (is_charge s) (cond b r.amount 0) 0 ≡ cond b (charge_of s r.amount) 0
      go Fine b = refl
      go Price b = refl
      go Charge b = refl
      go Payment true = refl
      go Payment false = refl
      go Waiver true = refl
      go Waiver false = refl

  credit-is : (r : LineRow) → credit r p ≡ cond (r.patron == p) (credit_of r.sort r.amount) 0
  credit-is r = go r.sort (r.patron == p)
    where
      go : (s : Sort) (b : Bool) → cond (is_charge s) 0 (cond b r.amount 0) ≡ cond b (credit_of s r.amount) 0
      go Fine true = refl
      go Fine false = refl
      go Price true = refl
      go Price false = refl
      go Charge true = refl
      go Charge false = refl
      go Payment b = refl
      go Waiver b = refl

  -- The sum over the rows is that over the patron's lines.
  summed : (f : LineRow → ℕ) (g : Line → ℕ) → ((r : LineRow) → f r ≡ cond (r.patron == p) (g (line_in notes r)) 0) → (rows : List LineRow)
      → sum_by f rows ≡ sum_by g (filter (λ x. x.patron == p) (map (line_in notes) rows))
  summed f g is [] = refl
  summed f g is (r ∷ rows) = sum_by-cons f r rows ∙ ap (λ n. n + sum_by f rows) (is r) ∙ go (summed f g is rows) (r.patron == p)
    where
      go : sum_by f rows ≡ sum_by g (filter (λ x. x.patron == p) (map (line_in notes) rows)) → (b : Bool)
          → cond b (g (line_in notes r)) 0 + sum_by f rows ≡ sum_by g
          (cond b (line_in notes r ∷ filter (λ x. x.patron == p) (map (line_in notes) rows)) (filter (λ x. x.patron == p) (map (line_in notes) rows)))
      go ih true = ap (λ n. g (line_in notes r) + n) ih ∙ sym (sum_by-cons g (line_in notes r) (filter (λ x. x.patron == p) (map (line_in notes) rows)))
      go ih false = let e = ih in omega (arith, e)

module _ (H : History) (rows : Tables) (legal : IsLegal H) (are : AreAuditTables (picture H) rows) (p : ℕ) where
  charged : charges_of rows p ≡ charges (account H p)
  charged = summed (note_at H) p (λ r. charge r p) (λ x. charge_of x.sort x.amount) (charge-is (note_at H) p) rows.lines
      ∙ ap (λ (xs : List Line). sum_by (λ x. charge_of x.sort x.amount) (filter (λ x. x.patron == p) xs)) (listed H rows are)

  credited : credits_of rows p ≡ credits (account H p)
  credited = summed (note_at H) p (λ r. credit r p) (λ x. credit_of x.sort x.amount) (credit-is (note_at H) p) rows.lines
      ∙ ap (λ (xs : List Line). sum_by (λ x. credit_of x.sort x.amount) (filter (λ x. x.patron == p) xs)) (listed H rows are)

  pub balanced : IsBalanced rows p
  balanced = all-there (λ r. r.patron ≡ p → r.owed + credits_of rows p ≡ charges_of rows p) rows.patrons owes
    where
      owes : (r : PatronRow) → Contains rows.patrons r → r.patron ≡ p → r.owed + credits_of rows p ≡ charges_of rows p
      owes r there same =
          let m = map-some (patron_columns H r.patron) _ r (are.patrons.sound r there).0 in
          let debt : owed H r.patron ≡ r.owed = ap (λ (q : PatronRow). q.owed) m.2 in
          let mine : owed H p ≡ r.owed = subst (λ (n : ℕ). owed H n ≡ r.owed) same debt in
          let even : charges (account H p) ≡ credits (account H p) + owed H p = balance H p legal in
          omega (arith, mine, even, charged, credited)
