-- Check-out meets the history.
use Rattle.terms.specs.declared.refusal.Refusal.TheVariants as check
use Rattle.model.specs.Sights.{sight}
use Rattle.terms.specs.declared.limits.TheConstants.{LAST_NUMBER}
use Rattle.std.proofs.Common.{◌≡◌, ℕ, ◌+◌, ◌-◌, ◌≤◌, ◌<◌, ◌==◌, nat_lt, nat_le, Bool, true, false, cond, not, ◌⊎◌, inl, inr, List, [], ◌∷◌}
use Rattle.std.proofs.Common.{refl, sym, ◌∙◌, ap, subst, arith}
use Rattle.std.specs.Prelude.{Option, Some, None, option_map, option_and_then, unwrap_or, is_none, find}
use Rattle.std.proofs.lemmas.Bool.{eqb-true, cases_lt, lt-ltb, le-ltb, le-leb, lt-leb}
use Rattle.terms.specs.declared.row.MetaRow.{MetaRow}
use Rattle.terms.specs.declared.row.RuleRow.{RuleRow}
use Rattle.terms.specs.declared.row.LoanRow.{LoanRow}
use Rattle.terms.specs.declared.row.HoldRow.{HoldRow}
use Rattle.terms.specs.declared.row.HoldState.{HoldState}
use Rattle.terms.specs.declared.row.HoldState.TheVariants.{Filled}
use Rattle.terms.specs.declared.command.Owner.{Owner}
use Rattle.terms.specs.declared.command.Owner.TheVariants.{Desk}
use Rattle.terms.specs.declared.command.Command.TheVariants.{CheckOut}
use Rattle.terms.specs.declared.reply.Reply.TheVariants.{Lent}
use Rattle.circ_core.specs.declared.changes.RowChange.TheVariants.{PutMeta, PutLoan}
use Rattle.circ_core.specs.declared.views.View.{View}
use Rattle.circ_core.specs.Condition.{is_missing as is_missing_row, is_withdrawn as is_withdrawn_row}
use Rattle.circ_core.specs.CheckOut.{filled_hold, has_more, loans_allowed, check_out_checks, period_of, renewals_of, rate_of, cap_of}
use Rattle.circ_core.specs.CheckOut.{grace_in, period_end, loan_due, due_in, new_loan, fill_rows, check_out_rows}
use Rattle.circ_core.specs.Debt.{debt_allowed, owed_by}
use Rattle.circ_core.specs.Holds.{finished}
use Rattle.terms.specs.Pictures.{put}
use Rattle.circ_core.specs.Tables.{changed, SameRows}
use Rattle.circ_core.specs.Views.{IsFirstOf, IsFirstFor, IsCount, IsActiveOn, AreHoldsFor, IsCheckOutView, rule_in}
use Rattle.circ_core.specs.Decides.{event}
use Rattle.circ_core.proofs.Meets.{Meets, Leads, SameChecks}
use Rattle.circ_core.proofs.Calendars.{calendar_there, due_from-is, due_from-there, same_day}
use Rattle.model.proofs.DueDayLaws.{checked_out-terms}
use Rattle.model.specs.Invariant.{Invariant}
use Rattle.circ_core.proofs.Rows.{is_none-map, none-map, some-is, there-is}
use Rattle.circ_core.proofs.Claims.{loan_claims, transit_claims, hold_row-is}
use Rattle.circ_core.proofs.KindNow.{loans_same, debt_same, owed_same}
use Rattle.circ_core.proofs.PatronCounts.{open_loans-count, others_none, others_one}
use Rattle.circ_core.proofs.Standing.{FillsAs, Standing, standing_shelf, standing_hold}
use Rattle.circ_core.proofs.Rising.{find-same}
use Rattle.model.specs.Calendar.{least}
use Rattle.model.specs.History.{History, today, is_open, Terms, rule_of, PatronFacts, patron_of, CopyFacts, copy_of, copies, loans}
use Rattle.model.specs.History.{next_loan, HoldFacts, hold_of}
use Rattle.model.specs.Places.{Place, Nowhere, Shelf, HoldShelf, Transit, Loan, MissingCopy, WithdrawnCopy, place, state, fills, fills_from}
use Rattle.model.specs.Places.{is_kept_for, kept_for, limit, title_of_copy, is_begun}
use Rattle.model.specs.Loans.{LoanFacts, loan_of, terms_for, no_terms, first_due, due, renewals, ended}
use Rattle.model.specs.Accounts.{owed}
use Rattle.model.specs.Checks.{Check}
use Rattle.model.specs.Refusals.{checks, refusal, has_branch, is_withdrawn, is_missing, is_on_loan, is_in_transit, has_other_hold, kind_now}
use Rattle.model.specs.Picture.{picture, meta_row, rule_row, loan_row, hold_row, transit_at, condition_at, rule_columns, patron_columns}
use Rattle.model.specs.Picture.{copy_columns, hold_columns, hold_by, hold_with, loan_with}
use Rattle.model.proofs.Passing.{passed}

-- ---- small facts

pub lt-le : (a b : ℕ) → nat_lt a (b + 1) ≡ nat_le a b
lt-le a b = go (cases_lt b a)
  where
    go : (b < a) ⊎ (a ≤ b) → nat_lt a (b + 1) ≡ nat_le a b
    go (inl lt) = le-ltb a (b + 1) (omega (arith, lt)) ∙ sym (lt-leb a b lt)
    go (inr le) = lt-ltb a (b + 1) (omega (arith, le)) ∙ sym (le-leb a b le)

pub withdrawn_at : (H : History) (c : ℕ) (r : CopyFacts) (x : Place)
    → is_withdrawn_row (Some (record (copy_columns H c r) { condition = condition_at x })) ≡ is_withdrawn x
withdrawn_at H c r MissingCopy = refl
withdrawn_at H c r WithdrawnCopy = refl
withdrawn_at H c r _ = refl

pub lost_at : (H : History) (c : ℕ) (r : CopyFacts) (x : Place)
    → is_missing_row (Some (record (copy_columns H c r) { condition = condition_at x })) ≡ is_missing x
lost_at H c r MissingCopy = refl
lost_at H c r WithdrawnCopy = refl
lost_at H c r _ = refl

-- ---- the table of checks

abbrev after_three : List Check → List Check
after_three (x ∷ y ∷ z ∷ ks) = ks
after_three _ = []

module _ (H : History) (inv : Invariant H) (p c b : ℕ) (v : View) (w : IsCheckOutView (picture H) p c b v) where
  copy_is : (r : CopyFacts) → copy_of H c ≡ Some r → v.copy ≡ Some (copy_columns H c r)
  copy_is r there = w.at.copy ∙ ap (λ o. option_map (copy_columns H c) o) there

  title_is : (r : CopyFacts) → copy_of H c ≡ Some r → title_of_copy H c ≡ r.title
  title_is r there = ap (λ o. unwrap_or (option_map (λ f. f.title) o) 0) there

  first_is : (r : CopyFacts) → copy_of H c ≡ Some r → IsFirstOf (picture H) (title_of_copy H c) v.first
  first_is r there = subst (λ t. IsFirstOf (picture H) t v.first) (sym (title_is r there))
      (subst (λ o. IsFirstFor (picture H) o v.first) (copy_is r there) w.first)

  own_is : (r : CopyFacts) → copy_of H c ≡ Some r → IsCount (IsActiveOn (picture H) p (title_of_copy H c)) v.own_holds
  own_is r there =
      subst (λ t. IsCount (IsActiveOn (picture H) p t) v.own_holds) (sym (title_is r there))
      (subst (λ o. AreHoldsFor (picture H) p o v.own_holds) (copy_is r there) w.own_holds)

  -- A copy that is claimed by nothing else stands.
  stands : (r : CopyFacts) → copy_of H c ≡ Some r → is_withdrawn (place H c) ≡ false → is_missing (place H c) ≡ false
      → is_on_loan (place H c) ≡ false → is_in_transit (place H c) ≡ false
      → Standing H p c b v.copy v.hold v.first
  stands r there = go (place H c) refl
    where
      go : (x : Place) → place H c ≡ x → is_withdrawn x ≡ false → is_missing x ≡ false → is_on_loan x ≡ false → is_in_transit x ≡ false
          → Standing H p c b v.copy v.hold v.first
      go (Shelf n) at d e f g = standing_shelf H inv p c b r there v.copy v.hold v.first w.at.copy w.at.hold (first_is r there) n at
      go (HoldShelf h) at d e f g = standing_hold H inv p c b r there v.copy v.hold v.first w.at.copy w.at.hold (first_is r there) h at
      go Nowhere at d e f g = absurd ((inv.acquired c r there).0 at)
      go (Transit n h) at d e f g = let never : ⊥ = cc in absurd never
      go (Loan l) at d e f g = let never : ⊥ = cc in absurd never
      go MissingCopy at d e f g = let never : ⊥ = cc in absurd never
      go WithdrawnCopy at d e f g = let never : ⊥ = cc in absurd never

  more_same : (r : CopyFacts) → copy_of H c ≡ Some r → (o : Option HoldRow) → FillsAs H p c o → has_more o v.own_holds ≡ has_other_hold H (sight H) p c
  more_same r there None f = others_none H inv p (title_of_copy H c) (fills H p c) v.own_holds (own_is r there) f
  more_same r there (Some q) f = others_one H inv p (title_of_copy H c) (fills H p c) v.own_holds q.hold (own_is r there) f.1 f.0

  module _ (q : PatronFacts) (enrolled : patron_of H p ≡ Some q) (r : CopyFacts) (there : copy_of H c ≡ Some r) where
    patron_is : v.patron ≡ Some (patron_columns H p q)
    patron_is = w.patron ∙ ap (λ o. option_map (patron_columns H p) o) enrolled

    loans_now : loans_allowed v.kind ≡ (kind_now H p).loans
    loans_now = loans_same H p q enrolled v.patron w.patron v.kind w.kind

    debt_now : debt_allowed v.kind ≡ (kind_now H p).debt
    debt_now = debt_same H p q enrolled v.patron w.patron v.kind w.kind

    owed_now : owed_by v.patron ≡ owed H p
    owed_now = owed_same H p q enrolled v.patron w.patron v.kind w.kind

    rule_is : v.rule ≡ rule_row H q.kind r.kind
    rule_is = w.rule ∙ ap (λ o. rule_in (picture H) o v.copy) patron_is ∙ ap (λ o. rule_in (picture H) (Some (patron_columns H p q)) o) (copy_is r there)

    terms_is : terms_for H p c ≡ rule_of H q.kind r.kind
    terms_is = ap (λ o. option_and_then (λ x. option_and_then (λ y. rule_of H x.kind y.kind) (copy_of H c)) o) enrolled
        ∙ ap (λ o. option_and_then (λ y. rule_of H q.kind y.kind) o) there

  -- ---- the reply

  abbrev terms_now : Terms
  terms_now = unwrap_or (terms_for H p c) no_terms

  abbrev due_now : ℕ
  due_now = unwrap_or (first_due H p c b) 0

  abbrev facts_now : LoanFacts
  facts_now = record { copy = c; patron = p; branch = b; made = today H; terms = terms_now }

  abbrev loan_now : LoanRow
  loan_now = loan_with (next_loan H) due_now terms_now.renewals None facts_now

  module _ (q : PatronFacts) (enrolled : patron_of H p ≡ Some q) (r : CopyFacts) (there : copy_of H c ≡ Some r) (has : not (has_branch H b) ≡ false) where
    terms_same : (A : Type 0) (f : Option RuleRow → A) (g : Terms → A)
        → ((o : Option Terms) → f (option_map (rule_columns H q.kind r.kind) o) ≡ g (unwrap_or o no_terms)) → f v.rule ≡ g terms_now
    terms_same A f g go = ap f (rule_is q enrolled r there) ∙ go (rule_of H q.kind r.kind)
        ∙ ap (λ o. g (unwrap_or o no_terms)) (sym (terms_is q enrolled r there))

    period_same : period_of v.rule ≡ terms_now.period
    period_same = terms_same ℕ period_of (λ t. t.period) go
      where
        go : (o : Option Terms) → period_of (option_map (rule_columns H q.kind r.kind) o) ≡ (unwrap_or o no_terms).period
        go (Some t) = refl
        go None = refl

    renewals_same : renewals_of v.rule ≡ terms_now.renewals
    renewals_same = terms_same ℕ renewals_of (λ t. t.renewals) go
      where
        go : (o : Option Terms) → renewals_of (option_map (rule_columns H q.kind r.kind) o) ≡ (unwrap_or o no_terms).renewals
        go (Some t) = refl
        go None = refl

    rate_same : rate_of v.rule ≡ terms_now.rate
    rate_same = terms_same ℕ rate_of (λ t. t.rate) go
      where
        go : (o : Option Terms) → rate_of (option_map (rule_columns H q.kind r.kind) o) ≡ (unwrap_or o no_terms).rate
        go (Some t) = refl
        go None = refl

    cap_same : cap_of v.rule ≡ terms_now.cap
    cap_same = terms_same ℕ cap_of (λ t. t.cap) go
      where
        go : (o : Option Terms) → cap_of (option_map (rule_columns H q.kind r.kind) o) ≡ (unwrap_or o no_terms).cap
        go (Some t) = refl
        go None = refl

    grace_same : grace_in v.rule ≡ terms_now.grace
    grace_same = terms_same ℕ grace_in (λ t. t.grace) go
      where
        go : (o : Option Terms) → grace_in (option_map (rule_columns H q.kind r.kind) o) ≡ (unwrap_or o no_terms).grace
        go (Some t) = refl
        go None = refl

    period_end-same : period_end v ≡ today H + terms_now.period
    period_end-same = ap (λ m. m.today + period_of v.rule) w.meta ∙ ap (λ n. today H + n) period_same

    due_is : loan_due v ≡ first_due H p c b
    due_is = due_from-is H b v.calendar w.calendar has (period_end v) ∙ ap (least (is_open H b)) period_end-same

    -- The calendar doesn't end before the loan can be due.
    due_there : is_none (terms_for H p c) ≡ false → is_none (loan_due v) ≡ false
    due_there ruled =
        let t : (x : Terms) × (terms_for H p c ≡ Some x) = there-is (terms_for H p c) ruled in
        let short : t.0.period ≤ 365 = (inv.terms q.kind r.kind t.0 (sym (terms_is q enrolled r there) ∙ t.1)).0 in
        let same : period_end v ≡ today H + t.0.period = period_end-same ∙ ap (λ o. today H + (unwrap_or o no_terms).period) t.1 in
        due_from-there H inv b v.calendar w.calendar has (period_end v) (omega (arith, same, inv.today_from)) (omega (arith, same, short, inv.today_to))

    due_same : is_none (terms_for H p c) ≡ false → due_in v ≡ due_now
    due_same ruled = same_day (loan_due v) v.meta.today 0 (due_there ruled) ∙ ap (λ o. unwrap_or o 0) due_is

    loan_same : new_loan v p c b due_now ≡ loan_now
    loan_same = rw (w.meta, period_same, renewals_same, rate_same, cap_same, grace_same) refl

    after_copy : SameChecks (after_three (check_out_checks v p b)) (after_three (checks H Desk (CheckOut p c b)))
    after_copy = (
      refl,
      (ap is_withdrawn_row (copy_is r there) ∙ withdrawn_at H c r (place H c)),
      λ p35. (
        refl,
        (ap is_missing_row (copy_is r there) ∙ lost_at H c r (place H c)),
        λ p34. (
          refl,
          loan_claims H inv c v.loan w.at.loan,
          λ p31. (
            refl,
            transit_claims H inv c v.transit w.at.transit,
            λ p32.
                let st : Standing H p c b v.copy v.hold v.first = stands r there p35 p34 p31 p32 in (
                  refl,
                  st.elsewhere,
                  λ p30. (
                    refl,
                    st.other,
                    λ p33. (
                      refl,
                      st.wanted,
                      λ p36. (
                        refl,
                        more_same r there (filled_hold v.hold v.first) (st.fill p33 p36),
                        λ p50. (
                          refl,
                          (ap is_none (rule_is q enrolled r there) ∙ is_none-map (rule_columns H q.kind r.kind) (rule_of H q.kind r.kind)
                              ∙ ap is_none (sym (terms_is q enrolled r there))),
                          λ p16. (
                            refl,
                            (ap (λ n. nat_le n v.open_loans) (loans_now q enrolled r there)
                                ∙ ap (λ n. nat_le (kind_now H p).loans n) (open_loans-count H inv p v.open_loans w.open_loans)),
                            λ p37. (
                              refl,
                              (ap (λ n. nat_lt n (owed_by v.patron)) (debt_now q enrolled r there)
                                  ∙ ap (λ n. nat_lt (kind_now H p).debt n) (owed_now q enrolled r there)),
                              λ p38.
                                  (refl, (ap (λ m. nat_lt LAST_NUMBER m.next_loan) w.meta ∙ lt-le LAST_NUMBER (loans H)), λ p70. (due_there p16, tt)),
                            ),
                          ),
                        ),
                      ),
                    ),
                  ),
                ),
          ),
        ),
      ),
    )

  pub check_out_same : SameChecks (check_out_checks v p b) (checks H Desk (CheckOut p c b))
  check_out_same = (
    refl,
    calendar_there H b v.calendar w.calendar,
    λ p10. (
      refl,
      (ap is_none w.patron ∙ none-map (patron_columns H p) (patron_of H p)),
      λ p11. (
        refl,
        (ap is_none w.at.copy ∙ none-map (copy_columns H c) (copy_of H c)),
        λ p13.
            let q : (x : PatronFacts) × (patron_of H p ≡ Some x) = some-is (patron_of H p) p11 in
            let r : (x : CopyFacts) × (copy_of H c ≡ Some x) = some-is (copy_of H c) p13 in
            after_copy q.0 q.1 r.0 r.1 p10,
      ),
    ),
  )

  -- ---- the rows

  -- The loan's row after the check-out, by whether it is the new one.
  abbrev loan_at : ℕ → Bool → Option LoanRow
  loan_at n new =
      option_map (loan_with n (elim new as (λ _. ℕ) [ true ↦ due_now | false ↦ due H n ])
      (unwrap_or (option_map (λ y. y.terms.renewals) (cond new (Some facts_now) (loan_of H n))) 0 - renewals H n) (ended H n))
      (cond new (Some facts_now) (loan_of H n))

  loans_lead : (n : ℕ) → put (loan_row H) (next_loan H) (Some loan_now) n ≡ loan_at n (next_loan H == n)
  loans_lead n = go (next_loan H == n) refl
    where
      new_at : next_loan H ≡ n → Some loan_now ≡ loan_at n true
      new_at e =
          let above : loans H < n = omega (arith, e) in
          let fresh : (renewals H n ≡ 0) × (ended H n ≡ None) = inv.fresh_loan n above in
          let left : terms_now.renewals ≡ terms_now.renewals - renewals H n = omega (arith, fresh.0) in
          ap (λ k. Some (record loan_now { loan = k })) e
          ∙ ap (λ k. Some (record loan_now { loan = n; renewals_left = k })) left
          ∙ ap (λ o. Some (record loan_now { loan = n; renewals_left = terms_now.renewals - renewals H n; ended = o })) (sym fresh.1)

      go : (x : Bool) → (next_loan H == n) ≡ x → (elim x as (λ _. Option LoanRow) [ true ↦ Some loan_now | false ↦ loan_row H n ]) ≡ loan_at n x
      go true d = new_at (eqb-true _ _ d)
      go false d = refl

  abbrev moved_to : Bool → ℕ → Place
  moved_to x n = elim x as (λ _. Place) [ true ↦ Loan (next_loan H) | false ↦ place H n ]

  copies_lead : condition_at (place H c) ≡ condition_at (Loan (next_loan H)) → (n : ℕ) → condition_at (place H n) ≡ condition_at (moved_to (c == n) n)
  copies_lead e n = go (c == n) refl
    where
      go : (x : Bool) → (c == n) ≡ x → condition_at (place H n) ≡ condition_at (moved_to x n)
      go true d = subst (λ m. condition_at (place H m) ≡ condition_at (Loan (next_loan H))) (eqb-true c n d) e
      go false d = refl

  transits_lead : transit_at c (place H c) ≡ None → (n : ℕ) → transit_at n (place H n) ≡ transit_at n (moved_to (c == n) n)
  transits_lead e n = go (c == n) refl
    where
      go : (x : Bool) → (c == n) ≡ x → transit_at n (place H n) ≡ transit_at n (moved_to x n)
      go true d = subst (λ m. transit_at m (place H m) ≡ None) (eqb-true c n d) e
      go false d = refl

  -- The copy leaves no hold shelf but that of the hold that it fills.
  kept_same : (h : ℕ) → fills H p c h ≡ false → find (λ x. is_kept_for (moved_to (c == x) x) h) (copies H) ≡ kept_for H h
  kept_same h unfilled = find-same _ _ (λ x. go x (c == x) refl) (copies H)
    where
      shelf : (y : Place) → fills_from H (place H) (state H) (is_begun H) p c y h ≡ false → is_kept_for y h ≡ false
      shelf (HoldShelf g) e = e
      shelf _ e = refl

      go : (x : ℕ) (y : Bool) → (c == x) ≡ y → is_kept_for (moved_to y x) h ≡ is_kept_for (place H x) h
      go x true d = subst (λ m. false ≡ is_kept_for (place H m) h) (eqb-true c x d) (sym (shelf (place H c) unfilled))
      go x false d = refl

  abbrev hold_at : ℕ → Bool → Option HoldRow
  hold_at n filled =
      hold_by n (hold_of H n) (elim filled as (λ _. Option HoldState) [ true ↦ Some Filled | false ↦ state H n ])
      (find (λ y. is_kept_for (moved_to (c == y) y) n) (copies H)) (limit H n)

  unfilled_lead : (n : ℕ) → fills H p c n ≡ false → hold_row H n ≡ hold_at n false
  unfilled_lead n e =
      ap (λ k. hold_by n (hold_of H n) (state H n) k (limit H n)) (sym (kept_same n e))

  filled_lead : (q : HoldRow) → hold_row H q.hold ≡ Some q → (n : ℕ) → q.hold ≡ n → Some (finished q Filled) ≡ hold_at n true
  filled_lead q row n e =
      let is : (s : HoldState) × (f : HoldFacts) × (state H q.hold ≡ Some s) × (hold_of H q.hold ≡ Some f)
      × (hold_columns H q.hold s f ≡ q) = hold_row-is H q.hold q row in
      ap (λ x. Some (finished x Filled)) (sym is.4)
      ∙ sym (ap (option_map (hold_with q.hold Filled None None)) is.3)
      ∙ ap (λ m. hold_at m true) e

  holds_none : FillsAs H p c None → (n : ℕ) → hold_row H n ≡ hold_at n (fills H p c n)
  holds_none f n = unfilled_lead n (f n) ∙ ap (λ x. hold_at n x) (sym (f n))

  holds_some : (q : HoldRow) → FillsAs H p c (Some q) → (n : ℕ) → put (hold_row H) q.hold (Some (finished q Filled)) n ≡ hold_at n (fills H p c n)
  holds_some q f n = go (q.hold == n) refl ∙ ap (λ x. hold_at n x) (sym (f.0 n))
    where
      go : (x : Bool) → (q.hold == n) ≡ x → (elim x as (λ _. Option HoldRow) [ true ↦ Some (finished q Filled) | false ↦ hold_row H n ]) ≡ hold_at n x
      go true d = filled_lead q f.2 n (eqb-true _ _ d)
      go false d = unfilled_lead n (f.0 n ∙ d)

  meta_now : MetaRow
  meta_now = record (meta_row H) { next_loan = next_loan H + 1 }

  lead : (o : Option HoldRow) → FillsAs H p c o → condition_at (place H c) ≡ condition_at (Loan (next_loan H))
      → transit_at c (place H c) ≡ None → (ow : Owner) (key : List ℕ)
      → SameRows (changed (PutMeta meta_now ∷ PutLoan loan_now ∷ fill_rows o) (picture H)) (picture (event ow key (CheckOut p c b) ∷ H))
  unfolding meta_now
  lead None f present still ow key = λ i. record (picture (event ow key (CheckOut p c b) ∷ H)) {
    copies = λ n. (ap (λ x. option_map
        (λ r. record { copy = n; title = r.title; kind = r.kind; home = r.home; price = r.price; condition = x }) (copy_of H n))
        (copies_lead present n)) i;
    loans = λ n. loans_lead n i;
    holds = λ h. holds_none f h i;
    transits = λ n. transits_lead still n i;
  }
  lead (Some q) f present still ow key = λ i. record (picture (event ow key (CheckOut p c b) ∷ H)) {
    copies = λ n. (ap (λ x. option_map
        (λ r. record { copy = n; title = r.title; kind = r.kind; home = r.home; price = r.price; condition = x }) (copy_of H n))
        (copies_lead present n)) i;
    loans = λ n. loans_lead n i;
    holds = λ h. holds_some q f h i;
    transits = λ n. transits_lead still n i;
  }

  meta_same : record v.meta { next_loan = v.meta.next_loan + 1 } ≡ meta_now
  unfolding meta_now
  meta_same = ap (λ (m : MetaRow). record m { next_loan = m.next_loan + 1 }) w.meta

  check_out_leads : refusal H Desk (CheckOut p c b) ≡ None → Leads H (CheckOut p c b) (check_out_rows v p c b due_now)
  check_out_leads ok owner key =
      let k = passed (checks H Desk (CheckOut p c b)) ok in
      let q : (x : PatronFacts) × (patron_of H p ≡ Some x) = some-is (patron_of H p) (k check.UnknownPatron) in
      let r : (x : CopyFacts) × (copy_of H c ≡ Some x) = some-is (copy_of H c) (k check.UnknownCopy) in
      let st : Standing H p c b v.copy v.hold v.first = stands r.0 r.1 (k check.CopyWithdrawn) (k check.CopyMissing) (k check.OnLoan) (k check.InTransit) in
      let fill : FillsAs H p c (filled_hold v.hold v.first) = st.fill (k check.OnHoldShelf) (k check.HoldWaits) in
      rw (meta_same, loan_same q.0 q.1 r.0 r.1 (k check.UnknownBranch)) (lead (filled_hold v.hold v.first) fill st.present st.still owner key)

  pub check_out_meets : Meets H (CheckOut p c b) (check_out_checks v p b) (Lent v.meta.next_loan (due_in v)) (check_out_rows v p c b (due_in v))
  check_out_meets = record {
    same = check_out_same;
    due = λ ok. ap (λ m. Lent m.next_loan (due_in v)) w.meta ∙ ap (λ d. Lent (next_loan H) d) (due_here ok);
    leads = λ ok owner key. rw (due_here ok) (check_out_leads ok owner key);
  }
    where
      due_here : refusal H Desk (CheckOut p c b) ≡ None → due_in v ≡ due_now
      due_here ok =
          let k = passed (checks H Desk (CheckOut p c b)) ok in
          let q : (x : PatronFacts) × (patron_of H p ≡ Some x) = some-is (patron_of H p) (k check.UnknownPatron) in
          let r : (x : CopyFacts) × (copy_of H c ≡ Some x) = some-is (copy_of H c) (k check.UnknownCopy) in
          let t : (x : Terms) × (terms_for H p c ≡ Some x) = checked_out-terms H Desk p c b ok in
          due_same q.0 q.1 r.0 r.1 (k check.UnknownBranch) (ap is_none t.1)
