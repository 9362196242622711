-- Each loan is charged once, when it ends.
use Rattle.std.proofs.Common.{◌≡◌, ℕ, zero, suc, ◌+◌, ◌==◌, Bool, true, false, cond, not, ◌&&◌, List, [], ◌∷◌, ◌++◌}
use Rattle.std.proofs.Common.{refl, sym, ◌∙◌, ap, ap₂, subst, arith}
use Rattle.std.specs.Prelude.{Option, Some, None, is_some, is_none, filter, option_map, unwrap_or, sum_by}
use Rattle.std.specs.Option.{option_or}
use Rattle.std.proofs.lemmas.Bool.{eqb-true, eq-eqb}
use Rattle.std.proofs.lemmas.List.Elements.{filter-append}
use Rattle.std.proofs.lemmas.List.Sums.{sum_by-append}
use Rattle.terms.specs.declared.command.Command.{Command}
use Rattle.terms.specs.declared.command.Command.TheVariants.{CheckIn, Missing, Pay, Waive, Charge, PayAt}
use Rattle.terms.specs.declared.row.Sort.{Sort}
use Rattle.terms.specs.declared.row.Sort.TheVariants.{Fine, Price, Payment, Waiver, Charge as ChargeSort}
use Rattle.terms.specs.Money.{fine_for}
use Rattle.model.specs.Calendar.{late}
use Rattle.model.specs.History.{History, today, is_open}
use Rattle.model.specs.Places.{Place, Nowhere, Shelf, HoldShelf, Transit, Loan, MissingCopy, WithdrawnCopy, place}
use Rattle.model.specs.Loans.{LoanFacts, loan_of, loan_after, due, grace_of, ended, ended_after, is_loan_of_copy, is_open_loan}
use Rattle.model.specs.Accounts.{Note, Line, posting, lines, lines_after, noted_line, fine_line, price_line, borrower, fine_now, price_of}
use Rattle.model.specs.Reports.{is_sort, lent_copy}
use Rattle.model.specs.Invariant.{Invariant}
use Rattle.model.specs.Requests.{IsLegal}
use Rattle.model.specs.ChargeLaws.{is_for, charged, fine_at, price_at, fine_at_end, price_at_end}
use Rattle.model.specs.ChargeLaws.{IsChargedForItsEnd}
use Rattle.model.proofs.Bindings.{clash}
use Rattle.model.proofs.Invariants.{legal-Invariant}
use Rattle.model.proofs.SettingRanges.{some-same, none-some}
use Rattle.model.proofs.UntouchedPatrons.{loan-stays}
use Rattle.model.proofs.OneEachLaw.{ended-before, and-true}

-- ---- sums

-- What the lines charge for a loan, by sort.
abbrev sum_of : ℕ → Sort → List Line → ℕ
sum_of l s xs = sum_by (λ x. x.amount) (filter (λ x. is_for l x.loan && is_sort x.sort s) xs)

sum-append : (l : ℕ) (s : Sort) (xs ys : List Line) → sum_of l s (xs ++ ys) ≡ sum_of l s xs + sum_of l s ys
sum-append l s xs ys = ap (sum_by (λ x. x.amount)) (filter-append (λ x. is_for l x.loan && is_sort x.sort s) xs ys)
    ∙ sum_by-append (λ x. x.amount) (filter (λ x. is_for l x.loan && is_sort x.sort s) xs) (filter (λ x. is_for l x.loan && is_sort x.sort s) ys)

sum-one : (H : History) (l p : ℕ) (s t : Sort) (loan : Option ℕ) (remark : Option Note) (n : ℕ) (b : Bool) → (is_for l loan && is_sort t s) ≡ b
    → sum_of l s (noted_line H p t loan remark n) ≡ cond b n 0
sum-one H l p s t loan remark zero true e = refl
sum-one H l p s t loan remark zero false e = refl
sum-one H l p s t loan remark (suc n) b e = go b e
  where
    go : (c : Bool) → (is_for l loan && is_sort t s) ≡ c
        → sum_by (λ (x : Line). x.amount) (cond (is_for l loan && is_sort t s) (record { patron = p; day = today H; sort = t; amount = suc n; loan = loan; note = remark } ∷ []) [])
        ≡ cond c (suc n) 0
    go true d = ap (λ y. sum_by (λ (x : Line). x.amount)
        (cond y (record { patron = p; day = today H; sort = t; amount = suc n; loan = loan; note = remark } ∷ []) [])) d ∙ omega arith
    go false d = ap (λ y. sum_by (λ (x : Line). x.amount)
        (cond y (record { patron = p; day = today H; sort = t; amount = suc n; loan = loan; note = remark } ∷ []) [])) d

and-false : (b : Bool) → (b && false) ≡ false
and-false true = refl
and-false false = refl

and-is-true : (b : Bool) → (b && true) ≡ b
and-is-true true = refl
and-is-true false = refl

-- The place is that loan.
abbrev is_at : Place → ℕ → Bool
is_at (Loan k) l = k == l
is_at _ l = false

at-loan : (p : Place) (l : ℕ) → is_at p l ≡ true → p ≡ Loan l
at-loan (Loan k) l e = ap Loan (eqb-true k l e)
at-loan Nowhere l e = let never : ⊥ = cc in absurd never
at-loan (Shelf b) l e = let never : ⊥ = cc in absurd never
at-loan (HoldShelf h) l e = let never : ⊥ = cc in absurd never
at-loan (Transit b h) l e = let never : ⊥ = cc in absurd never
at-loan MissingCopy l e = let never : ⊥ = cc in absurd never
at-loan WithdrawnCopy l e = let never : ⊥ = cc in absurd never

if-same : (k l : ℕ) (f : ℕ → ℕ) → cond (k == l) (f k) 0 ≡ cond (k == l) (f l) 0
if-same k l f = go (k == l) refl
  where
    go : (b : Bool) → (k == l) ≡ b → cond b (f k) 0 ≡ cond b (f l) 0
    go true e = ap f (eqb-true k l e)
    go false e = refl

module _ (H : History) (l : ℕ) where
  fines-of : (p : Place) → sum_of l Fine (fine_line H (grace_of H) p) ≡ cond (is_at p l) (fine_now H (grace_of H) l) 0
  fines-of (Loan k) = sum-one H l (borrower H k) Fine Fine (Some k) None (fine_now H (grace_of H) k) (k == l) (and-is-true (k == l))
      ∙ if-same k l (fine_now H (grace_of H))
  fines-of _ = refl

  no-prices : (p : Place) → sum_of l Price (fine_line H (grace_of H) p) ≡ 0
  no-prices (Loan k) = sum-one H l (borrower H k) Price Fine (Some k) None (fine_now H (grace_of H) k) false (and-false (k == l))
  no-prices _ = refl

  prices-of : (c : ℕ) (p : Place) → sum_of l Price (price_line H c p) ≡ cond (is_at p l) (price_of H c) 0
  prices-of c (Loan k) = sum-one H l (borrower H k) Price Price (Some k) None (price_of H c) (k == l) (and-is-true (k == l))
  prices-of c _ = refl

  no-fines : (c : ℕ) (p : Place) → sum_of l Fine (price_line H c p) ≡ 0
  no-fines c (Loan k) = sum-one H l (borrower H k) Fine Price (Some k) None (price_of H c) false (and-false (k == l))
  no-fines c _ = refl

-- ---- which loan ends

module _ (H : History) (inv : Invariant H) (l : ℕ) where
  -- The loan is open after the command.
  abbrev open_after : Command → Bool
  open_after x = is_some (loan_after H x l (loan_of H l)) && is_none (ended_after H x l (ended H l))

  -- A copy that is handed in or missing ends the loan it is on, and no other.
  abbrev ended_with : ℕ → Option ℕ
  ended_with c = option_or (ended H l) (cond (is_loan_of_copy H l c) (Some (today H)) None)

  ends-at : (c : ℕ) → (is_open_loan H l && not (is_some (loan_of H l) && is_none (ended_with c))) ≡ is_at (place H c) l
  ends-at c = go (loan_of H l) refl (ended H l) refl
    where
      -- The copy is on this loan only if the loan is open.
      shut : ((r : LoanFacts) → loan_of H l ≡ Some r → r.copy ≡ c → ended H l ≡ None → ⊥) → false ≡ is_at (place H c) l
      shut off = by (is_at (place H c) l) refl
        where
          by : (b : Bool) → is_at (place H c) l ≡ b → false ≡ is_at (place H c) l
          by true e = let w = inv.on_loan c l (at-loan (place H c) l e) in absurd (off w.0 w.1 w.2 w.3)
          by false e = sym e

      not-not : (b : Bool) → not (is_none (cond b (Some (today H)) None)) ≡ b
      not-not true = refl
      not-not false = refl

      lent : (r : LoanFacts) → loan_of H l ≡ Some r → ended H l ≡ None → (b : Bool) → (r.copy == c) ≡ b → b ≡ is_at (place H c) l
      lent r at still true e =
          let on : place H c ≡ Loan l = subst (λ n. place H n ≡ Loan l) (eqb-true r.copy c e) (inv.open_loan l r at still) in
          sym (ap (λ p. is_at p l) on ∙ eq-eqb l l refl)
      lent r at still false e = shut (λ q was same still'. let is : q ≡ r = some-same q r (sym was ∙ at) in
          clash _ (eq-eqb r.copy c (ap (λ (x : LoanFacts). x.copy) (sym is) ∙ same)) e)

      go : (o : Option LoanFacts) → loan_of H l ≡ o → (d : Option ℕ) → ended H l ≡ d
          → ((is_some o && is_none d)
          && not (is_some o && is_none (option_or d (cond (unwrap_or (option_map (λ r. r.copy == c) o) false) (Some (today H)) None)))) ≡ is_at (place H c) l
      go None at d still = shut (λ r was same q. absurd (none-some r (sym at ∙ was)))
      go (Some r) at (Some day) still = shut (λ q was same none. absurd (none-some day (sym none ∙ still)))
      go (Some r) at None still = not-not (r.copy == c) ∙ lent r at still (r.copy == c) refl

  -- Other commands end none.
  stays-open : (x : Command) → ended_after H x l (ended H l) ≡ ended H l → (is_open_loan H l && not (open_after x)) ≡ false
  stays-open x same = go (loan_of H l) refl (ended H l) refl
    where
      go : (o : Option LoanFacts) → loan_of H l ≡ o → (d : Option ℕ) → ended H l ≡ d → ((is_some o && is_none d) && not (open_after x)) ≡ false
      go None at d still = refl
      go (Some r) at (Some day) still = refl
      go (Some r) at None still =
          let on : open_after x ≡ true = and-true _ _ (ap is_some (loan-stays x H inv l r at)) (ap is_none (same ∙ still)) in
          ap not on

-- No loan is charged before its end.
unended : (H : History) → IsLegal H → (l : ℕ) → ended H l ≡ None → (fine_at_end H l ≡ 0) × (price_at_end H l ≡ 0)
unended [] legal l still = (refl, refl)
unended (e ∷ H) legal l still =
    let inv = legal-Invariant H legal.1 in
    let was = ended-before H e.command l still in
    let off = stays-open H inv l e.command (still ∙ sym was) in
    let before = unended H legal.1 l was in (
      ap (λ b. elim b as (λ _. ℕ) [ true ↦ fine_at H l | false ↦ fine_at_end H l ]) off ∙ before.0,
      ap (λ b. elim b as (λ _. ℕ) [ true ↦ price_at e.command H l | false ↦ price_at_end H l ]) off ∙ before.1,
    )

-- ---- one event

module _ (H : History) (legal : IsLegal H) (l : ℕ) (fine : charged H l Fine ≡ fine_at_end H l) (price : charged H l Price ≡ price_at_end H l) where
  inv : Invariant H
  inv = legal-Invariant H legal

  -- What is charged after the command, if the loan's fine or price is this at its end.
  abbrev Charged : Command → Sort → ℕ → ℕ → Type 0
  Charged x s now before = sum_of l s (lines_after H (posting x) (lines H))
      ≡ (elim (is_open_loan H l && not (open_after H inv l x)) as (λ _. ℕ) [ true ↦ now | false ↦ before ])

  open-facts : (c : ℕ) → place H c ≡ Loan l → (r : LoanFacts) × (loan_of H l ≡ Some r) × (r.copy ≡ c) × (ended H l ≡ None)
  open-facts c at = inv.on_loan c l at

  same-fine : (c : ℕ) → place H c ≡ Loan l → fine_now H (grace_of H) l ≡ fine_at H l
  same-fine c at =
      let w = open-facts c at in
      let grace : grace_of H l ≡ w.0.terms.grace = ap (λ o. unwrap_or (option_map (λ r. r.terms.grace) o) 0) w.1 in
      ap (λ o. unwrap_or (option_map (λ r. fine_for (late (is_open H r.branch) (due H l) (today H)) r.terms.rate r.terms.cap (grace_of H l)) o) 0) w.1
      ∙ ap (λ g. fine_for (late (is_open H w.0.branch) (due H l) (today H)) w.0.terms.rate w.0.terms.cap g) grace
      ∙ sym (ap (λ o. unwrap_or (option_map (λ r. fine_for (late (is_open H r.branch) (due H l) (today H)) r.terms.rate r.terms.cap r.terms.grace) o) 0) w.1)

  same-price : (c : ℕ) → place H c ≡ Loan l → price_of H c ≡ price_of H (lent_copy H l)
  same-price c at =
      let w = open-facts c at in
      ap (price_of H) (sym (ap (λ o. unwrap_or (option_map (λ r. r.copy) o) 0) w.1 ∙ w.2))

  -- A command that hands in or loses copy c.
  module _ (c : ℕ) where
    adds-fine : (b : Bool) → is_at (place H c) l ≡ b
        → charged H l Fine + cond b (fine_now H (grace_of H) l) 0 ≡ (elim b as (λ _. ℕ) [ true ↦ fine_at H l | false ↦ fine_at_end H l ])
    adds-fine true e =
        let at = at-loan (place H c) l e in
        let none : charged H l Fine ≡ 0 = fine ∙ (unended H legal l (open-facts c at).3).0 in
        let now = same-fine c at in
        omega (arith, none, now)
    adds-fine false e = omega (arith, fine)

    adds-price : (b : Bool) → is_at (place H c) l ≡ b
        → charged H l Price + cond b (price_of H c) 0 ≡ (elim b as (λ _. ℕ) [ true ↦ price_of H (lent_copy H l) | false ↦ price_at_end H l ])
    adds-price true e =
        let at = at-loan (place H c) l e in
        let none : charged H l Price ≡ 0 = price ∙ (unended H legal l (open-facts c at).3).1 in
        let now = same-price c at in
        omega (arith, none, now)
    adds-price false e = omega (arith, price)

    no-price : (b : Bool) → is_at (place H c) l ≡ b → charged H l Price + 0 ≡ (elim b as (λ _. ℕ) [ true ↦ 0 | false ↦ price_at_end H l ])
    no-price true e =
        let none : charged H l Price ≡ 0 = price ∙ (unended H legal l (open-facts c (at-loan (place H c) l e)).3).1 in
        omega (arith, none)
    no-price false e = omega (arith, price)

  ends : (now before : ℕ) (c : ℕ) → (elim (is_at (place H c) l) as (λ _. ℕ) [ true ↦ now | false ↦ before ])
      ≡ (elim (is_open_loan H l && not (is_some (loan_of H l) && is_none (ended_with H inv l c))) as (λ _. ℕ) [ true ↦ now | false ↦ before ])
  ends now before c = ap (λ b. elim b as (λ _. ℕ) [ true ↦ now | false ↦ before ]) (sym (ends-at H inv l c))

  settles : (x : Command) (p n : ℕ) (s t : Sort) (remark : Option Note) (now before : ℕ) → ended_after H x l (ended H l) ≡ ended H l
      → charged H l s ≡ before → lines_after H (posting x) (lines H) ≡ lines H ++ noted_line H p t None remark n → Charged x s now before
  settles x p n s t remark now before still was adds =
      ap (sum_of l s) adds ∙ sum-append l s (lines H) (noted_line H p t None remark n)
      ∙ ap₂ (λ a b. a + b) was (sum-one H l p s t None remark n false refl)
      ∙ omega arith
      ∙ sym (ap (λ b. elim b as (λ _. ℕ) [ true ↦ now | false ↦ before ]) (stays-open H inv l x still))

  rests : (x : Command) (s : Sort) (now before : ℕ) → ended_after H x l (ended H l) ≡ ended H l → charged H l s ≡ before
      → lines_after H (posting x) (lines H) ≡ lines H → Charged x s now before
  rests x s now before still was adds =
      ap (sum_of l s) adds ∙ was ∙ sym (ap (λ b. elim b as (λ _. ℕ) [ true ↦ now | false ↦ before ]) (stays-open H inv l x still))

  fine-step : (x : Command) → Charged x Fine (fine_at H l) (fine_at_end H l)
  fine-step (CheckIn c b) =
      sum-append l Fine (lines H) (fine_line H (grace_of H) (place H c))
      ∙ ap (λ a. charged H l Fine + a) (fines-of H l (place H c))
      ∙ adds-fine c (is_at (place H c) l) refl ∙ ends (fine_at H l) (fine_at_end H l) c
  fine-step (Missing c) =
      let both = sum-append l Fine (fine_line H (grace_of H) (place H c)) (price_line H c (place H c)) in
      let fined = fines-of H l (place H c) in
      let unpriced = no-fines H l c (place H c) in
      let total : sum_of l Fine (fine_line H (grace_of H) (place H c) ++ price_line H c (place H c)) ≡ cond (is_at (place H c) l) (fine_now H (grace_of H) l) 0 =
      omega (arith, both, fined, unpriced) in
      sum-append l Fine (lines H) (fine_line H (grace_of H) (place H c) ++ price_line H c (place H c))
      ∙ ap (λ a. charged H l Fine + a) total ∙ adds-fine c (is_at (place H c) l) refl ∙ ends (fine_at H l) (fine_at_end H l) c
  fine-step (Pay p n) = settles (Pay p n) p n Fine Payment None (fine_at H l) (fine_at_end H l) refl fine refl
  fine-step (Waive p n) = settles (Waive p n) p n Fine Waiver None (fine_at H l) (fine_at_end H l) refl fine refl
  fine-step (PayAt p n b) = settles (PayAt p n b) p n Fine Payment (Some (record { branch = b; text = None })) (fine_at H l) (fine_at_end H l) refl fine refl
  fine-step (Charge p n b text) = settles (Charge p n b text) p n Fine ChargeSort (Some (record { branch = b; text = Some text })) (fine_at H l) (fine_at_end H l) refl fine refl
  fine-step x = rests x Fine (fine_at H l) (fine_at_end H l) refl fine refl

  price-step : (x : Command) → Charged x Price (price_at x H l) (price_at_end H l)
  price-step (CheckIn c b) =
      sum-append l Price (lines H) (fine_line H (grace_of H) (place H c))
      ∙ ap (λ a. charged H l Price + a) (no-prices H l (place H c))
      ∙ no-price c (is_at (place H c) l) refl ∙ ends 0 (price_at_end H l) c
  price-step (Missing c) =
      let both = sum-append l Price (fine_line H (grace_of H) (place H c)) (price_line H c (place H c)) in
      let fined = no-prices H l (place H c) in
      let priced = prices-of H l c (place H c) in
      let total : sum_of l Price (fine_line H (grace_of H) (place H c) ++ price_line H c (place H c)) ≡ cond (is_at (place H c) l) (price_of H c) 0 =
      omega (arith, both, fined, priced) in
      sum-append l Price (lines H) (fine_line H (grace_of H) (place H c) ++ price_line H c (place H c))
      ∙ ap (λ a. charged H l Price + a) total ∙ adds-price c (is_at (place H c) l) refl ∙ ends (price_of H (lent_copy H l)) (price_at_end H l) c
  price-step (Pay p n) = settles (Pay p n) p n Price Payment None 0 (price_at_end H l) refl price refl
  price-step (Waive p n) = settles (Waive p n) p n Price Waiver None 0 (price_at_end H l) refl price refl
  price-step (PayAt p n b) = settles (PayAt p n b) p n Price Payment (Some (record { branch = b; text = None })) 0 (price_at_end H l) refl price refl
  price-step (Charge p n b text) = settles (Charge p n b text) p n Price ChargeSort (Some (record { branch = b; text = Some text })) 0 (price_at_end H l) refl price refl
  price-step x = rests x Price (price_at x H l) (price_at_end H l) refl price refl

pub charged-for-end : (H : History) → IsLegal H → (l : ℕ) → IsChargedForItsEnd H l
charged-for-end [] legal l = record { fine = refl; price = refl }
charged-for-end (e ∷ H) legal l =
    let before = charged-for-end H legal.1 l in
    record { fine = fine-step H legal.1 l before.fine before.price e.command; price = price-step H legal.1 l before.fine before.price e.command }
