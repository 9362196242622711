-- Each charge is the only one of its sort for a loan that has ended.
use Rattle.std.proofs.Common.{◌≡◌, ℕ, zero, suc, ◌+◌, ◌<◌, ◌==◌, true, false, cond, ◌⊎◌, inl, inr, List, [], ◌∷◌, ◌++◌}
use Rattle.std.proofs.Common.{refl, sym, ◌∙◌, ap, subst, arith, length}
use Rattle.std.specs.Prelude.{Option, Some, None, option_map, unwrap_or}
use Rattle.std.specs.Option.{option_or}
use Rattle.std.proofs.lemmas.Bool.{eq-eqb}
use Rattle.terms.specs.declared.command.Command.{Command}
use Rattle.terms.specs.declared.command.Command.TheVariants.{CheckIn, Missing, Pay, Waive, Charge, PayAt}
use Rattle.terms.specs.declared.row.LineRow.{LineRow}
use Rattle.terms.specs.declared.row.Sort.{Sort}
use Rattle.terms.specs.declared.row.Sort.TheVariants.{Fine, Price, Payment, Waiver, Charge as ChargeSort}
use Rattle.model.specs.History.{Event, History, today}
use Rattle.model.specs.Places.{Place, Loan, place}
use Rattle.model.specs.Loans.{LoanFacts, loan_of, grace_of, ended, ended_after, is_loan_of_copy}
use Rattle.model.specs.Accounts.{Note, Line, posting, lines, lines_after, nth_line, noted_line, fine_line, price_line, borrower, fine_now, price_of}
use Rattle.model.specs.Invariant.{Invariant}
use Rattle.model.specs.Picture.{picture, line_columns, loan_columns}
use Rattle.model.specs.Requests.{IsLegal}
use Rattle.model.specs.ChargeLaws.{is_for_loan, HasFairCharges, Charges}
use Rattle.model.proofs.Bindings.{clash}
use Rattle.model.proofs.ClaimsLaw.{map-some}
use Rattle.model.proofs.Invariants.{legal-Invariant}
use Rattle.model.proofs.SettingRanges.{some-same, none-some}
use Rattle.model.proofs.UntouchedPatrons.{loan-stays}
use Rattle.model.proofs.ChargedLoans.{charged-for-end}

-- ---- numbered lines

nth-append : (xs ys : List Line) (n : ℕ) (x : Line) → nth_line (xs ++ ys) n ≡ Some x
    → (nth_line xs n ≡ Some x) ⊎ ((k : ℕ) × (n ≡ length xs + k) × (nth_line ys k ≡ Some x))
nth-append [] ys n x e = inr (n, omega arith, e)
nth-append (y ∷ xs) ys zero x e = inl e
nth-append (y ∷ xs) ys (suc zero) x e = inl e
nth-append (y ∷ xs) ys (suc (suc n)) x e = go (nth-append xs ys (suc n) x e)
  where
    go : (nth_line xs (suc n) ≡ Some x) ⊎ ((k : ℕ) × (suc n ≡ length xs + k) × (nth_line ys k ≡ Some x))
        → (nth_line xs (suc n) ≡ Some x) ⊎ ((k : ℕ) × (suc (suc n) ≡ length (y ∷ xs) + k) × (nth_line ys k ≡ Some x))
    go (inl at) = inl at
    go (inr w) = let m = w.1 in inr (w.0, omega (arith, m), w.2)

-- The one line of an amount made now.
record IsTheLine (H : History) (p : ℕ) (t : Sort) (loan : Option ℕ) (k : ℕ) (x : Line) : Type 0 where
  number : k ≡ 1
  patron : x.patron ≡ p
  day : x.day ≡ today H
  sort : x.sort ≡ t
  loan_is : x.loan ≡ loan
  amount : 0 < x.amount

nth-one : (H : History) (p : ℕ) (t : Sort) (loan : Option ℕ) (remark : Option Note) (n k : ℕ) (x : Line) → nth_line (noted_line H p t loan remark n) k ≡ Some x → IsTheLine H p t loan k x
nth-one H p t loan remark zero k x e = absurd (none-some x e)
nth-one H p t loan remark (suc n) zero x e = absurd (none-some x e)
nth-one H p t loan remark (suc n) (suc zero) x e =
    let same : ◌≡◌ {A = Line} (record { patron = p; day = today H; sort = t; amount = suc n; loan = loan; note = remark }) x = some-same _ x e in
    subst (λ (y : Line). IsTheLine H p t loan 1 y) same
    (record { number = refl; patron = refl; day = refl; sort = refl; loan_is = refl; amount = omega arith })
nth-one H p t loan remark (suc n) (suc (suc k)) x e = absurd (none-some x e)

-- A charge made now for the loan that the copy is on.
record IsNewCharge (H : History) (c : ℕ) (t : Sort) (k : ℕ) (x : Line) : Type 0 where
  loan : ℕ
  on : place H c ≡ Loan loan
  line : IsTheLine H (borrower H loan) t (Some loan) k x

module _ (H : History) (c k : ℕ) (x : Line) where
  new-fine : (p : Place) → place H c ≡ p → nth_line (fine_line H (grace_of H) p) k ≡ Some x → IsNewCharge H c Fine k x
  new-fine (Loan l) at e =
      record { loan = l; on = at; line = nth-one H (borrower H l) Fine (Some l) None (fine_now H (grace_of H) l) k x e }
  new-fine _ at e = absurd (none-some x e)

  new-price : (p : Place) → place H c ≡ p → nth_line (price_line H c p) k ≡ Some x → IsNewCharge H c Price k x
  new-price (Loan l) at e =
      record { loan = l; on = at; line = nth-one H (borrower H l) Price (Some l) None (price_of H c) k x e }
  new-price _ at e = absurd (none-some x e)

-- ---- what a command adds

-- Where a command's new charge of this sort stands among its new lines.
abbrev spot : History → Command → Sort → ℕ
spot H (Missing c) Price = length (fine_line H (grace_of H) (place H c)) + 1
spot H _ t = 1

-- The command hands in or loses a copy, and adds this charge for its loan, which it ends.
record AddsCharge (H : History) (x : Command) (k : ℕ) (y : Line) : Type 0 where
  copy : ℕ
  sort : Sort
  is_one : is_for_loan sort ≡ true
  within : ℕ
  charge : IsNewCharge H copy sort within y
  at : k ≡ spot H x sort
  ends : (l : ℕ) → ended_after H x l (ended H l) ≡ option_or (ended H l) (cond (is_loan_of_copy H l copy) (Some (today H)) None)

-- The command adds this line for no loan.
record AddsSettlement (H : History) (y : Line) : Type 0 where
  sort : is_for_loan y.sort ≡ false
  loan : y.loan ≡ None
  amount : 0 < y.amount

abbrev Adds : History → Command → ℕ → Line → Type 0
Adds H x n y = (k : ℕ) × (n ≡ length (lines H) + k) × (AddsCharge H x k y ⊎ AddsSettlement H y)

settles : (H : History) (p n k : ℕ) (t : Sort) (remark : Option Note) (y : Line) → is_for_loan t ≡ false → nth_line (noted_line H p t None remark n) k ≡ Some y
    → AddsSettlement H y
settles H p n k t remark y off e =
    let w = nth-one H p t None remark n k y e in
    record { sort = ap is_for_loan w.sort ∙ off; loan = w.loan_is; amount = w.amount }

old-or-new : (H : History) (x : Command) (n : ℕ) (y : Line) → nth_line (lines_after H (posting x) (lines H)) n ≡ Some y
    → (nth_line (lines H) n ≡ Some y) ⊎ Adds H x n y
old-or-new H (CheckIn c b) n y e = go (nth-append (lines H) (fine_line H (grace_of H) (place H c)) n y e)
  where
    go : (nth_line (lines H) n ≡ Some y) ⊎ ((k : ℕ) × (n ≡ length (lines H) + k) × (nth_line (fine_line H (grace_of H) (place H c)) k ≡ Some y))
        → (nth_line (lines H) n ≡ Some y) ⊎ Adds H (CheckIn c b) n y
    go (inl at) = inl at
    go (inr w) =
        let new = new-fine H c w.0 y (place H c) refl w.2 in
        inr (w.0, w.1, inl (record { copy = c; sort = Fine; is_one = refl; within = w.0; charge = new; at = new.line.number; ends = λ l. refl }))
old-or-new H (Missing c) n y e = go (nth-append (lines H) (fine_line H (grace_of H) (place H c) ++ price_line H c (place H c)) n y e)
  where
    more : (k : ℕ) → n ≡ length (lines H) + k
        → (nth_line (fine_line H (grace_of H) (place H c)) k ≡ Some y)
        ⊎ ((j : ℕ) × (k ≡ length (fine_line H (grace_of H) (place H c)) + j) × (nth_line (price_line H c (place H c)) j ≡ Some y))
        → Adds H (Missing c) n y
    more k is (inl at) =
        let new = new-fine H c k y (place H c) refl at in
        (k, is, inl (record { copy = c; sort = Fine; is_one = refl; within = k; charge = new; at = new.line.number; ends = λ l. refl }))
    more k is (inr w) =
        let new = new-price H c w.0 y (place H c) refl w.2 in
        let one = new.line.number in
        let place_is = w.1 in
        (k, is, inl (record { copy = c; sort = Price; is_one = refl; within = w.0; charge = new; at = omega (arith, place_is, one); ends = λ l. refl }))

    go : (nth_line (lines H) n ≡ Some y)
        ⊎ ((k : ℕ) × (n ≡ length (lines H) + k) × (nth_line (fine_line H (grace_of H) (place H c) ++ price_line H c (place H c)) k ≡ Some y))
        → (nth_line (lines H) n ≡ Some y) ⊎ Adds H (Missing c) n y
    go (inl at) = inl at
    go (inr w) = inr (more w.0 w.1 (nth-append (fine_line H (grace_of H) (place H c)) (price_line H c (place H c)) w.0 y w.2))
old-or-new H (Pay p m) n y e = go (nth-append (lines H) (noted_line H p Payment None None m) n y e)
  where
    go : (nth_line (lines H) n ≡ Some y) ⊎ ((k : ℕ) × (n ≡ length (lines H) + k) × (nth_line (noted_line H p Payment None None m) k ≡ Some y))
        → (nth_line (lines H) n ≡ Some y) ⊎ Adds H (Pay p m) n y
    go (inl at) = inl at
    go (inr w) = inr (w.0, w.1, inr (settles H p m w.0 Payment None y refl w.2))
old-or-new H (Waive p m) n y e = go (nth-append (lines H) (noted_line H p Waiver None None m) n y e)
  where
    go : (nth_line (lines H) n ≡ Some y) ⊎ ((k : ℕ) × (n ≡ length (lines H) + k) × (nth_line (noted_line H p Waiver None None m) k ≡ Some y))
        → (nth_line (lines H) n ≡ Some y) ⊎ Adds H (Waive p m) n y
    go (inl at) = inl at
    go (inr w) = inr (w.0, w.1, inr (settles H p m w.0 Waiver None y refl w.2))
old-or-new H (PayAt p m b) n y e = go (nth-append (lines H) (noted_line H p Payment None (Some (record { branch = b; text = None })) m) n y e)
  where
    go : (nth_line (lines H) n ≡ Some y) ⊎ ((k : ℕ) × (n ≡ length (lines H) + k) × (nth_line (noted_line H p Payment None (Some (record { branch = b; text = None })) m) k ≡ Some y))
        → (nth_line (lines H) n ≡ Some y) ⊎ Adds H (PayAt p m b) n y
    go (inl at) = inl at
    go (inr w) = inr (w.0, w.1, inr (settles H p m w.0 Payment (Some (record { branch = b; text = None })) y refl w.2))
old-or-new H (Charge p m b text) n y e = go (nth-append (lines H) (noted_line H p ChargeSort None (Some (record { branch = b; text = Some text })) m) n y e)
  where
    go : (nth_line (lines H) n ≡ Some y) ⊎ ((k : ℕ) × (n ≡ length (lines H) + k) × (nth_line (noted_line H p ChargeSort None (Some (record { branch = b; text = Some text })) m) k ≡ Some y))
        → (nth_line (lines H) n ≡ Some y) ⊎ Adds H (Charge p m b text) n y
    go (inl at) = inl at
    go (inr w) = inr (w.0, w.1, inr (settles H p m w.0 ChargeSort (Some (record { branch = b; text = Some text })) y refl w.2))
old-or-new H _ n y e = inl e

-- ---- fair lines

-- The charge is for a loan that has ended, to its borrower and of the day of its end.
record IsForEnded (H : History) (x : Line) : Type 0 where
  loan : ℕ
  facts : LoanFacts
  named : x.loan ≡ Some loan
  made : loan_of H loan ≡ Some facts
  patron : x.patron ≡ facts.patron
  over : ended H loan ≡ Some x.day

record AreFair (H : History) : Type 0 where
  amount : (n : ℕ) (x : Line) → nth_line (lines H) n ≡ Some x → 0 < x.amount
  whose : (n : ℕ) (x : Line) → nth_line (lines H) n ≡ Some x → is_for_loan x.sort ≡ true → IsForEnded H x
  settled : (n : ℕ) (x : Line) → nth_line (lines H) n ≡ Some x → is_for_loan x.sort ≡ false → x.loan ≡ None
  once : (n m : ℕ) (x y : Line) → nth_line (lines H) n ≡ Some x → nth_line (lines H) m ≡ Some y → is_for_loan x.sort ≡ true → x.sort ≡ y.sort
      → x.loan ≡ y.loan → n ≡ m

ended-stays : (H : History) (x : Command) (l day : ℕ) → ended H l ≡ Some day → ended_after H x l (ended H l) ≡ Some day
ended-stays H (CheckIn c b) l day at = ap (λ o. option_or o (cond (is_loan_of_copy H l c) (Some (today H)) None)) at
ended-stays H (Missing c) l day at = ap (λ o. option_or o (cond (is_loan_of_copy H l c) (Some (today H)) None)) at
ended-stays H _ l day at = at

module _ (H : History) (e : Event) (legal : IsLegal (e ∷ H)) (fair : AreFair H) where
  inv : Invariant H
  inv = legal-Invariant H legal.1

  stays-ended : (x : Line) → IsForEnded H x → IsForEnded (e ∷ H) x
  stays-ended x w = record {
    loan = w.loan;
    facts = w.facts;
    named = w.named;
    made = loan-stays e.command H inv w.loan w.facts w.made;
    patron = w.patron;
    over = ended-stays H e.command w.loan x.day w.over;
  }

  new-ended : (k : ℕ) (x : Line) → AddsCharge H e.command k x → IsForEnded (e ∷ H) x
  new-ended k x w =
      let q = inv.on_loan w.copy w.charge.loan w.charge.on in
      let of : is_loan_of_copy H w.charge.loan w.copy ≡ true =
      ap (λ o. unwrap_or (option_map (λ r. r.copy == w.copy) o) false) q.1 ∙ eq-eqb _ _ q.2 in
      let over : ended_after H e.command w.charge.loan (ended H w.charge.loan) ≡ Some (today H) = w.ends w.charge.loan
      ∙ ap (λ o. option_or o (cond (is_loan_of_copy H w.charge.loan w.copy) (Some (today H)) None)) q.3
      ∙ ap (λ b. cond b (Some (today H)) None) of in
      record {
        loan = w.charge.loan;
        facts = q.0;
        named = w.charge.line.loan_is;
        made = loan-stays e.command H inv w.charge.loan q.0 q.1;
        patron = w.charge.line.patron ∙ ap (λ o. unwrap_or (option_map (λ r. r.patron) o) 0) q.1;
        over = over ∙ ap Some (sym w.charge.line.day);
      }

  amount-step : (n : ℕ) (x : Line) → (nth_line (lines H) n ≡ Some x) ⊎ Adds H e.command n x → 0 < x.amount
  amount-step n x (inl at) = fair.amount n x at
  amount-step n x (inr (k, is, inl w)) = w.charge.line.amount
  amount-step n x (inr (k, is, inr w)) = w.amount

  whose-step : (n : ℕ) (x : Line) → (nth_line (lines H) n ≡ Some x) ⊎ Adds H e.command n x → is_for_loan x.sort ≡ true → IsForEnded (e ∷ H) x
  whose-step n x (inl at) on = stays-ended x (fair.whose n x at on)
  whose-step n x (inr (k, is, inl w)) on = new-ended k x w
  whose-step n x (inr (k, is, inr w)) on = absurd (clash _ on w.sort)

  settled-step : (n : ℕ) (x : Line) → (nth_line (lines H) n ≡ Some x) ⊎ Adds H e.command n x → is_for_loan x.sort ≡ false → x.loan ≡ None
  settled-step n x (inl at) off = fair.settled n x at off
  settled-step n x (inr (k, is, inl w)) off = absurd (clash _ (ap is_for_loan w.charge.line.sort ∙ w.is_one) off)
  settled-step n x (inr (k, is, inr w)) off = w.loan

  -- The loan of a new charge has no charge yet.
  first-charge : (k : ℕ) (x y : Line) → AddsCharge H e.command k x → IsForEnded H y → x.loan ≡ y.loan → ⊥
  first-charge k x y w old same =
      let open' = (inv.on_loan w.copy w.charge.loan w.charge.on).3 in
      let is : w.charge.loan ≡ old.loan = some-same _ _ (sym w.charge.line.loan_is ∙ same ∙ old.named) in
      let shut : ended H w.charge.loan ≡ Some y.day = subst (λ l. ended H l ≡ Some y.day) (sym is) old.over in
      none-some y.day (sym open' ∙ shut)

  once-step : (n m : ℕ) (x y : Line) → (nth_line (lines H) n ≡ Some x) ⊎ Adds H e.command n x → (nth_line (lines H) m ≡ Some y) ⊎ Adds H e.command m y
      → is_for_loan x.sort ≡ true → x.sort ≡ y.sort → x.loan ≡ y.loan → n ≡ m
  once-step n m x y (inl at) (inl there) on sorts loans = fair.once n m x y at there on sorts loans
  once-step n m x y (inl at) (inr (k, is, inl w)) on sorts loans = absurd (first-charge k y x w (fair.whose n x at on) (sym loans))
  once-step n m x y (inl at) (inr (k, is, inr w)) on sorts loans = absurd (clash _ (sym (ap is_for_loan sorts) ∙ on) w.sort)
  once-step n m x y (inr (k, is, inl w)) (inl there) on sorts loans = absurd (first-charge k x y w (fair.whose m y there (sym (ap is_for_loan sorts) ∙ on)) loans)
  once-step n m x y (inr (k, is, inr w)) (inl there) on sorts loans = absurd (clash _ on w.sort)
  once-step n m x y (inr (k, is, inl w)) (inr (j, is', inl v)) on sorts loans =
      let same : w.sort ≡ v.sort = sym w.charge.line.sort ∙ sorts ∙ v.charge.line.sort in
      let spots : k ≡ j = w.at ∙ ap (spot H e.command) same ∙ sym v.at in
      is ∙ ap (λ i. length (lines H) + i) spots ∙ sym is'
  once-step n m x y (inr (k, is, inr w)) (inr (j, is', v)) on sorts loans = absurd (clash _ on w.sort)
  once-step n m x y (inr (k, is, inl w)) (inr (j, is', inr v)) on sorts loans = absurd (clash _ (sym (ap is_for_loan sorts) ∙ on) v.sort)

are-fair : (H : History) → IsLegal H → AreFair H
are-fair [] legal = record {
  amount = λ n x e. absurd (none-some x e);
  whose = λ n x e on. absurd (none-some x e);
  settled = λ n x e off. absurd (none-some x e);
  once = λ n m x y e f on sorts loans. absurd (none-some x e);
}
are-fair (e ∷ H) legal =
    let fair = are-fair H legal.1 in
    record {
      amount = λ n x at. amount-step H e legal fair n x (old-or-new H e.command n x at);
      whose = λ n x at. whose-step H e legal fair n x (old-or-new H e.command n x at);
      settled = λ n x at. settled-step H e legal fair n x (old-or-new H e.command n x at);
      once = λ n m x y at there. once-step H e legal fair n m x y (old-or-new H e.command n x at) (old-or-new H e.command m y there);
    }

-- ---- the law

module _ (H : History) (legal : IsLegal H) where
  line-row : (n : ℕ) (r : LineRow) → (picture H).lines n ≡ Some r → (x : Line) × (nth_line (lines H) n ≡ Some x) × (line_columns H n x ≡ r)
  line-row n r row = map-some (line_columns H n) (nth_line (lines H) n) r row

  fair-charges : HasFairCharges (picture H)
  fair-charges =
      let fair = are-fair H legal in
      record {
        whose = λ n r row on.
            let x = line-row n r row in
            let w = fair.whose n x.0 x.1 (subst (λ (q : LineRow). is_for_loan q.sort ≡ true) (sym x.2) on) in
            record {
              loan = w.loan;
              row = loan_columns H w.loan w.facts;
              named = sym (ap (λ (q : LineRow). q.loan) x.2) ∙ w.named;
              there = ap (option_map (loan_columns H w.loan)) w.made;
              patron = sym (ap (λ (q : LineRow). q.patron) x.2) ∙ w.patron;
              day = w.over ∙ ap (λ (q : LineRow). Some q.day) x.2;
            };
        once = λ n m r s row there on sorts loans.
            let x = line-row n r row in
            let y = line-row m s there in
            fair.once n m x.0 y.0 x.1 y.1 (subst (λ (q : LineRow). is_for_loan q.sort ≡ true) (sym x.2) on)
            (ap (λ (q : LineRow). q.sort) x.2 ∙ sorts ∙ sym (ap (λ (q : LineRow). q.sort) y.2))
            (ap (λ (q : LineRow). q.loan) x.2 ∙ loans ∙ sym (ap (λ (q : LineRow). q.loan) y.2));
        settled = λ n r row off.
            let x = line-row n r row in
            sym (ap (λ (q : LineRow). q.loan) x.2) ∙ fair.settled n x.0 x.1 (subst (λ (q : LineRow). is_for_loan q.sort ≡ false) (sym x.2) off);
        some_amount = λ n r row.
            let x = line-row n r row in
            subst (λ (q : LineRow). 0 < q.amount) x.2 (fair.amount n x.0 x.1);
      }

pub charges : Charges
charges H legal = record { rows = fair-charges H legal; loans = charged-for-end H legal }
