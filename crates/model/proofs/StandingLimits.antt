-- No patron has more open loans, or active holds, than were allowed when the last of them was made.
use Rattle.std.proofs.Common.{◌≡◌, ℕ, zero, suc, ◌+◌, ◌<◌, ◌≤◌, ◌==◌, Bool, true, false, cond, ◌&&◌, ◌||◌, List, [], ◌∷◌}
use Rattle.std.proofs.Common.{refl, sym, ◌∙◌, ap, subst, arith, length, length-append}
use Rattle.std.specs.Prelude.{Option, Some, None, is_some, is_none, filter, option_map, unwrap_or}
use Rattle.std.proofs.lemmas.Bool.{eqb-true, eq-eqb, and_parts, leb-false}
use Rattle.std.proofs.lemmas.List.Elements.{filter-append}
use Rattle.std.proofs.lemmas.List.Folds.{list_any-append}
use Rattle.terms.specs.declared.command.Command.{Command}
use Rattle.terms.specs.declared.command.Command.TheVariants.{CheckOut, PlaceHold}
use Rattle.terms.specs.declared.row.HoldState.{HoldState}
use Rattle.terms.specs.declared.refusal.Refusal.TheVariants as check
use Rattle.model.specs.History.{Event, History, numbers_to, today, loans, loans_after, next_loan, hold_made, hold_of, hold_after}
use Rattle.model.specs.History.{holds, holds_after, next_hold}
use Rattle.model.specs.Places.{state, is_waiting, is_ready, patron_of_hold}
use Rattle.model.specs.Loans.{loan_of, loan_after, terms_for, no_terms, ended, is_loan_of_patron, is_open_loan, open_loans}
use Rattle.model.specs.Refusals.{refusal, checks, kind_now, is_active, active_holds}
use Rattle.model.specs.Invariant.{Invariant}
use Rattle.model.specs.Requests.{IsLegal}
use Rattle.model.specs.Laws.{is_active_state}
use Rattle.model.specs.TurnLaws.{loans_allowed, loans_allowed_after, holds_allowed, holds_allowed_after, FewAtAllTimes}
use Rattle.model.proofs.Passing.{passed}
use Rattle.model.proofs.Moves.{ne-eqb}
use Rattle.model.proofs.Bindings.{clash}
use Rattle.model.proofs.Legal.{legal-bound}
use Rattle.model.proofs.Members.{has, or-left}
use Rattle.model.proofs.Line.{hold-kept}
use Rattle.model.proofs.Final.{event-stays}
use Rattle.model.proofs.Invariants.{legal-Invariant}
use Rattle.model.proofs.OneEachLaw.{ended-before, active-test, settled, and-true}
use Rattle.model.proofs.ShownRows.{none-is, active-state}

-- ---- counts

-- A test that passes fewer of the members leaves no more.
filter-le : (T U : ℕ → Bool) (xs : List ℕ) → ((n : ℕ) → has xs n ≡ true → T n ≡ true → U n ≡ true) → length (filter T xs) ≤ length (filter U xs)
filter-le T U [] fewer = omega arith
filter-le T U (x ∷ xs) fewer =
    go (filter-le T U xs (λ n among. fewer n (or-right' (x == n) (has xs n) among))) (T x) refl (U x) refl (fewer x (or-left (x == x) (has xs x) (eq-eqb x x refl)))
  where
    or-right' : (a b : Bool) → b ≡ true → (a || b) ≡ true
    or-right' true b e = refl
    or-right' false b e = e

    go : length (filter T xs) ≤ length (filter U xs) → (a : Bool) → T x ≡ a → (b : Bool) → U x ≡ b → (T x ≡ true → U x ≡ true)
        → length (cond a (x ∷ filter T xs) (filter T xs)) ≤ length (cond b (x ∷ filter U xs) (filter U xs))
    go ih true d true e f = omega (arith, ih)
    go ih true d false e f = absurd (clash _ (f d) e)
    go ih false d true e f = omega (arith, ih)
    go ih false d false e f = ih

-- The numbers from 1 to n.
numbers-within : (n k : ℕ) → has (numbers_to n) k ≡ true → (1 ≤ k) × (k ≤ n)
numbers-within zero k e = let never : ⊥ = cc in absurd never
numbers-within (suc n) k e = go (numbers-within n k) (has (numbers_to n) k) refl (sym (list_any-append (λ g. g == k) (numbers_to n) (suc n ∷ [])) ∙ e)
  where
    last : (b : Bool) → (suc n == k) ≡ b → (b || false) ≡ true → (1 ≤ k) × (k ≤ suc n)
    last true d q = let is : suc n ≡ k = eqb-true (suc n) k d in (omega (arith, is), omega (arith, is))
    last false d q = let never : ⊥ = cc in absurd never

    go : (has (numbers_to n) k ≡ true → (1 ≤ k) × (k ≤ n)) → (b : Bool) → has (numbers_to n) k ≡ b → (b || ((suc n == k) || false)) ≡ true → (1 ≤ k) × (k ≤ suc n)
    go ih true d q = let m = ih d in let high = m.1 in (m.0, omega (arith, high))
    go ih false d q = last (suc n == k) refl q

-- One number more makes at most one more, and none if it doesn't pass.
one-more : (T : ℕ → Bool) (n : ℕ) (b : Bool) → T (n + 1) ≡ b → length (filter T (numbers_to (n + 1))) ≡ length (filter T (numbers_to n)) + cond b 1 0
one-more T n b e =
    let next : n + 1 ≡ suc n = omega arith in
    ap (λ m. length (filter T (numbers_to m))) next
    ∙ ap length (filter-append T (numbers_to n) (suc n ∷ []))
    ∙ length-append (filter T (numbers_to n)) (filter T (suc n ∷ []))
    ∙ ap (λ m. length (filter T (numbers_to n)) + m) (last b (sym (ap T next) ∙ e))
  where
    last : (c : Bool) → T (suc n) ≡ c → length (cond (T (suc n)) (suc n ∷ []) []) ≡ cond c 1 0
    last true d = ap (λ y. length (cond y (suc n ∷ []) [])) d
    last false d = ap (λ y. length (cond y (suc n ∷ []) [])) d

module _ (e : Event) (H : History) (legal : IsLegal (e ∷ H)) (p : ℕ) where
  inv : Invariant H
  inv = legal-Invariant H legal.1

  -- ---- loans

  loan-kept : (x : Command) (l : ℕ) → l ≤ loans H → loan_after H x l (loan_of H l) ≡ loan_of H l
  loan-kept (CheckOut q c b) l old =
      let other : (next_loan H == l) ≡ false = ne-eqb (next_loan H) l (λ same. let never : ⊥ = omega (arith, same, old) in never) in
      ap (λ y. cond y (Some (record { copy = c; patron = q; branch = b; made = today H; terms = unwrap_or (terms_for H q c) no_terms })) (loan_of H l)) other
  loan-kept _ l old = refl

  -- An open loan of the patron that was there was one.
  loan-was : (l : ℕ) → has (numbers_to (loans H)) l ≡ true → (is_loan_of_patron (e ∷ H) p l && is_open_loan (e ∷ H) l) ≡ true
      → (is_loan_of_patron H p l && is_open_loan H l) ≡ true
  loan-was l among on =
      let parts = and_parts (is_loan_of_patron (e ∷ H) p l) (is_open_loan (e ∷ H) l) on in
      let more = and_parts (is_some (loan_of (e ∷ H) l)) (is_none (ended (e ∷ H) l)) parts.1 in
      let kept = loan-kept e.command l (numbers-within (loans H) l among).1 in
      and-true _ _ (sym (ap (λ o. unwrap_or (option_map (λ r. r.patron == p) o) false) kept) ∙ parts.0)
      (and-true _ _ (sym (ap is_some kept) ∙ more.0) (ap is_none (ended-before H e.command l (none-is (ended (e ∷ H) l) more.1))))

  old-loans : length (filter (λ l. is_loan_of_patron (e ∷ H) p l && is_open_loan (e ∷ H) l) (numbers_to (loans H))) ≤ length (open_loans H p)
  old-loans = filter-le (λ l. is_loan_of_patron (e ∷ H) p l && is_open_loan (e ∷ H) l) (λ l. is_loan_of_patron H p l && is_open_loan H l) (numbers_to (loans H)) loan-was

  -- ---- holds

  hold-was : (h : ℕ) → has (numbers_to (holds H)) h ≡ true → ((patron_of_hold (e ∷ H) h == p) && is_active (e ∷ H) h) ≡ true
      → ((patron_of_hold H h == p) && is_active H h) ≡ true
  hold-was h among on =
      let parts = and_parts (patron_of_hold (e ∷ H) h == p) (is_active (e ∷ H) h) on in
      let m = numbers-within (holds H) h among in
      let kept = hold-kept H (hold_made e.command) h m.1 in
      let made = inv.hold_numbered h m.0 m.1 in
      let s = inv.stated h made.0 made.1 in
      let now = active-state H legal.1 (state (e ∷ H) h) parts.1 in
      and-true _ _ (sym (ap (λ o. unwrap_or (option_map (λ r. r.patron) o) 0 == p) kept) ∙ parts.0)
      (ap (λ o. is_waiting o || is_ready o) s.1 ∙ active-test s.0 (go s.0 s.1 now.0 now.1 now.2 (is_active_state s.0) refl))
    where
      go : (t : HoldState) → state H h ≡ Some t → (u : HoldState) → state (e ∷ H) h ≡ Some u → is_active_state u ≡ true
          → (b : Bool) → is_active_state t ≡ b → is_active_state t ≡ true
      go t at u now on' true d = d
      go t at u now on' false d =
          let stays : state (e ∷ H) h ≡ Some t = event-stays H h t (legal-bound H legal.1) (settled t d) at e.owner e.key e.command legal.0.unrefused in
          let same : ◌≡◌ {A = Option HoldState} (Some t) (Some u) = sym stays ∙ now in
          let is : t ≡ u = cc in
          absurd (clash _ (subst (λ x. is_active_state x ≡ true) (sym is) on') d)

  old-holds : length (filter (λ h. (patron_of_hold (e ∷ H) h == p) && is_active (e ∷ H) h) (numbers_to (holds H))) ≤ length (active_holds H p)
  old-holds = filter-le (λ h. (patron_of_hold (e ∷ H) h == p) && is_active (e ∷ H) h) (λ h. (patron_of_hold H h == p) && is_active H h) (numbers_to (holds H)) hold-was

  -- ---- steps

  plus-one : (a b most : ℕ) (x : Bool) → a ≤ b → b < most → a + cond x 1 0 ≤ most
  plus-one a b most true le lt = omega (arith, le, lt)
  plus-one a b most false le lt = omega (arith, le, lt)

  new-loan : (q c b : ℕ) → e.command ≡ CheckOut q c b → is_loan_of_patron (e ∷ H) p (loans H + 1) ≡ (q == p)
  new-loan q c b is =
      ap (λ x. unwrap_or (option_map (λ r. r.patron == p) (loan_after H x (loans H + 1) (loan_of H (loans H + 1)))) false) is
      ∙ ap (λ y. unwrap_or (option_map (λ r. r.patron == p)
      (cond y (Some (record { copy = c; patron = q; branch = b; made = today H; terms = unwrap_or (terms_for H q c) no_terms })) (loan_of H (loans H + 1)))) false)
      (eq-eqb (next_loan H) (loans H + 1) refl)

  abbrev OldLoans : ℕ
  OldLoans = length (filter (λ l. is_loan_of_patron (e ∷ H) p l && is_open_loan (e ∷ H) l) (numbers_to (loans H)))

  loans-step : length (open_loans H p) ≤ loans_allowed H p → (x : Command) → e.command ≡ x
      → length (filter (λ l. is_loan_of_patron (e ∷ H) p l && is_open_loan (e ∷ H) l) (numbers_to (loans_after x (loans H))))
      ≤ loans_allowed_after H x p (loans_allowed H p)
  loans-step before (CheckOut q c b) is = go (q == p) refl
    where
      counted : length (filter (λ l. is_loan_of_patron (e ∷ H) p l && is_open_loan (e ∷ H) l) (numbers_to (loans H + 1)))
          ≡ OldLoans + cond (is_loan_of_patron (e ∷ H) p (loans H + 1) && is_open_loan (e ∷ H) (loans H + 1)) 1 0
      counted = one-more (λ l. is_loan_of_patron (e ∷ H) p l && is_open_loan (e ∷ H) l) (loans H)
          (is_loan_of_patron (e ∷ H) p (loans H + 1) && is_open_loan (e ∷ H) (loans H + 1)) refl

      room : length (open_loans H q) < (kind_now H q).loans
      room = leb-false (kind_now H q).loans (length (open_loans H q))
          (passed (checks H e.owner (CheckOut q c b)) (subst (λ x. refusal H e.owner x ≡ None) is legal.0.unrefused) check.TooManyLoans)

      go : (y : Bool) → (q == p) ≡ y
          → length (filter (λ l. is_loan_of_patron (e ∷ H) p l && is_open_loan (e ∷ H) l) (numbers_to (loans H + 1)))
          ≤ (elim y as (λ _. ℕ) [ true ↦ (kind_now H p).loans | false ↦ loans_allowed H p ])
      go true d =
          let own = subst (λ n. length (open_loans H n) < (kind_now H n).loans) (eqb-true q p d) room in
          subst (λ n. n ≤ (kind_now H p).loans) (sym counted)
          (plus-one OldLoans (length (open_loans H p)) (kind_now H p).loans
          (is_loan_of_patron (e ∷ H) p (loans H + 1) && is_open_loan (e ∷ H) (loans H + 1)) old-loans own)
      go false d =
          let none : (is_loan_of_patron (e ∷ H) p (loans H + 1) && is_open_loan (e ∷ H) (loans H + 1)) ≡ false =
          ap (λ y. y && is_open_loan (e ∷ H) (loans H + 1)) (new-loan q c b is ∙ d) in
          let count : length (filter (λ l. is_loan_of_patron (e ∷ H) p l && is_open_loan (e ∷ H) l) (numbers_to (loans H + 1))) ≡ OldLoans + 0 =
          counted ∙ ap (λ y. OldLoans + cond y 1 0) none in
          let old = old-loans in
          omega (arith, count, old, before)
  loans-step before _ is = let old = old-loans in omega (arith, old, before)

  new-hold : (q t b : ℕ) (d : Option ℕ) → e.command ≡ PlaceHold q t b d → (patron_of_hold (e ∷ H) (holds H + 1) == p) ≡ (q == p)
  new-hold q t b d is =
      ap (λ x. unwrap_or (option_map (λ r. r.patron) (hold_after H (hold_made x) (holds H + 1) (hold_of H (holds H + 1)))) 0 == p) is
      ∙ ap (λ y. unwrap_or (option_map (λ r. r.patron)
      (cond y (Some (record { patron = q; title = t; branch = b; first_day = d })) (hold_of H (holds H + 1)))) 0 == p) (eq-eqb (next_hold H) (holds H + 1) refl)

  abbrev OldHolds : ℕ
  OldHolds = length (filter (λ h. (patron_of_hold (e ∷ H) h == p) && is_active (e ∷ H) h) (numbers_to (holds H)))

  holds-step : length (active_holds H p) ≤ holds_allowed H p → (x : Command) → e.command ≡ x
      → length (filter (λ h. (patron_of_hold (e ∷ H) h == p) && is_active (e ∷ H) h) (numbers_to (holds_after (hold_made x) (holds H))))
      ≤ holds_allowed_after H x p (holds_allowed H p)
  holds-step before (PlaceHold q t b day) is = go (q == p) refl
    where
      counted : length (filter (λ h. (patron_of_hold (e ∷ H) h == p) && is_active (e ∷ H) h) (numbers_to (holds H + 1)))
          ≡ OldHolds + cond ((patron_of_hold (e ∷ H) (holds H + 1) == p) && is_active (e ∷ H) (holds H + 1)) 1 0
      counted = one-more (λ h. (patron_of_hold (e ∷ H) h == p) && is_active (e ∷ H) h) (holds H)
          ((patron_of_hold (e ∷ H) (holds H + 1) == p) && is_active (e ∷ H) (holds H + 1)) refl

      room : length (active_holds H q) < (kind_now H q).holds
      room = leb-false (kind_now H q).holds (length (active_holds H q))
          (passed (checks H e.owner (PlaceHold q t b day)) (subst (λ x. refusal H e.owner x ≡ None) is legal.0.unrefused) check.TooManyHolds)

      go : (y : Bool) → (q == p) ≡ y
          → length (filter (λ h. (patron_of_hold (e ∷ H) h == p) && is_active (e ∷ H) h) (numbers_to (holds H + 1)))
          ≤ (elim y as (λ _. ℕ) [ true ↦ (kind_now H p).holds | false ↦ holds_allowed H p ])
      go true d =
          let own = subst (λ n. length (active_holds H n) < (kind_now H n).holds) (eqb-true q p d) room in
          subst (λ n. n ≤ (kind_now H p).holds) (sym counted)
          (plus-one OldHolds (length (active_holds H p)) (kind_now H p).holds
          ((patron_of_hold (e ∷ H) (holds H + 1) == p) && is_active (e ∷ H) (holds H + 1)) old-holds own)
      go false d =
          let none : ((patron_of_hold (e ∷ H) (holds H + 1) == p) && is_active (e ∷ H) (holds H + 1)) ≡ false =
          ap (λ y. y && is_active (e ∷ H) (holds H + 1)) (new-hold q t b day is ∙ d) in
          let count : length (filter (λ h. (patron_of_hold (e ∷ H) h == p) && is_active (e ∷ H) h) (numbers_to (holds H + 1))) ≡ OldHolds + 0 =
          counted ∙ ap (λ y. OldHolds + cond y 1 0) none in
          let old = old-holds in
          omega (arith, count, old, before)
  holds-step before _ is = let old = old-holds in omega (arith, old, before)

pub few-at-all-times : FewAtAllTimes
few-at-all-times [] p legal = record { loans = omega arith; holds = omega arith }
few-at-all-times (e ∷ H) p legal =
    let before = few-at-all-times H p legal.1 in
    record { loans = loans-step e H legal p before.loans e.command refl; holds = holds-step e H legal p before.holds e.command refl }
