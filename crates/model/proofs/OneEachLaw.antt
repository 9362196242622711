-- No patron has two active holds of one title, or an active hold of a title on loan to that patron.
use Rattle.std.proofs.Common.{◌≡◌, ℕ, ◌==◌, Bool, true, false, cond, not, ◌&&◌, ◌||◌, ◌⊎◌, inl, inr, List, [], ◌∷◌, refl, sym, ◌∙◌, ap, subst}
use Rattle.std.specs.Prelude.{Option, Some, None, is_some, is_none, option_map, unwrap_or}
use Rattle.std.specs.List.{list_any}
use Rattle.std.proofs.lemmas.Bool.{eqb-true, eq-eqb, or_parts}
use Rattle.terms.specs.declared.command.Command.{Command}
use Rattle.terms.specs.declared.command.Command.TheVariants.{CheckOut, CheckIn, Missing, PlaceHold}
use Rattle.terms.specs.declared.row.HoldRow.{HoldRow}
use Rattle.terms.specs.declared.row.LoanRow.{LoanRow}
use Rattle.terms.specs.declared.row.CopyRow.{CopyRow}
use Rattle.terms.specs.declared.row.HoldState.{HoldState}
use Rattle.terms.specs.declared.row.HoldState.TheVariants.{Waiting, Ready, Filled, Cancelled, Expired}
use Rattle.terms.specs.declared.refusal.Refusal.TheVariants as check
use Rattle.model.specs.History.{Event, History, CopyFacts, copy_of, copy_after, today, loans, next_loan, HoldFacts, hold_made, hold_of, hold_after, holds}
use Rattle.model.specs.History.{next_hold, numbers_to}
use Rattle.model.specs.Places.{Nowhere, Loan, place, state, state_after, fills, is_begun, is_waiting, is_ready, title_of_copy, title_of_hold, patron_of_hold}
use Rattle.model.specs.Loans.{LoanFacts, loan_of, loan_after, ended, ended_after, terms_for, no_terms, open_loans, is_loan_of_patron, is_open_loan}
use Rattle.model.specs.Loans.{title_of_loan, has_on_loan}
use Rattle.model.specs.Refusals.{refusal, checks, is_active, active_holds, has_hold_on, has_other_hold}
use Rattle.model.specs.Sights.{sight}
use Rattle.model.specs.Invariant.{Invariant}
use Rattle.model.specs.Picture.{picture, loan_columns, copy_columns}
use Rattle.model.specs.Requests.{IsLegal}
use Rattle.model.specs.Laws.{is_active_state}
use Rattle.model.specs.TurnLaws.{OneEach}
use Rattle.model.proofs.Passing.{passed}
use Rattle.model.proofs.Bindings.{left, clash}
use Rattle.model.proofs.Legal.{legal-bound}
use Rattle.model.proofs.LoanLaws.{none-or}
use Rattle.model.proofs.Members.{has, filter-has, numbers-has}
use Rattle.model.proofs.Final.{event-stays, IsSettled}
use Rattle.model.proofs.ClaimsLaw.{map-some, hold-facts}
use Rattle.model.proofs.Invariants.{legal-Invariant}
use Rattle.model.proofs.SettingRanges.{some-same}
use Rattle.model.proofs.UntouchedPatrons.{copy-title-stays}

-- ---- lists

-- A member of a list none of which passes a test doesn't pass it.
none-passes : (test : ℕ → Bool) (h : ℕ) (xs : List ℕ) → list_any test xs ≡ false → has xs h ≡ true → test h ≡ false
none-passes test h [] none e = let never : ⊥ = cc in absurd never
none-passes test h (x ∷ xs) none e = go (λ r. none-passes test h xs (or_parts (test x) (list_any test xs) none).1 r) (x == h) refl e
  where
    go : (has xs h ≡ true → test h ≡ false) → (b : Bool) → (x == h) ≡ b → (b || has xs h) ≡ true → test h ≡ false
    go ih true d r = subst (λ y. test y ≡ false) (eqb-true x h d) (or_parts (test x) (list_any test xs) none).0
    go ih false d r = ih r

pub and-true : (x y : Bool) → x ≡ true → y ≡ true → (x && y) ≡ true
and-true true y e f = f
and-true false y e f = let never : ⊥ = cc in absurd never

-- ---- active holds

-- The hold was placed as this, and is in a state that isn't final.
record IsActive (H : History) (h : ℕ) (f : HoldFacts) : Type 0 where
  is : hold_of H h ≡ Some f
  waits : HoldState
  in_state : state H h ≡ Some waits
  active : is_active_state waits ≡ true

pub active-test : (s : HoldState) → is_active_state s ≡ true → (is_waiting (Some s) || is_ready (Some s)) ≡ true
active-test Waiting e = refl
active-test Ready e = refl
active-test Filled e = let never : ⊥ = cc in absurd never
active-test Cancelled e = let never : ⊥ = cc in absurd never
active-test Expired e = let never : ⊥ = cc in absurd never

-- An active hold is among those of its patron.
among : (H : History) → Invariant H → (h : ℕ) (f : HoldFacts) (a : IsActive H h f) → has (active_holds H f.patron) h ≡ true
among H inv h f a =
    let m = inv.made_hold h f a.is in
    let own : (patron_of_hold H h == f.patron) ≡ true = eq-eqb _ _ (ap (λ o. unwrap_or (option_map (λ r. r.patron) o) 0) a.is) in
    let on : is_active H h ≡ true = ap (λ s. is_waiting s || is_ready s) a.in_state ∙ active-test a.waits a.active in
    filter-has (λ g. (patron_of_hold H g == f.patron) && is_active H g) h (numbers_to (holds H)) (and-true _ _ own on) (numbers-has (holds H) h m.0 m.1)

title-is : (H : History) (h : ℕ) (f : HoldFacts) → hold_of H h ≡ Some f → title_of_hold H h ≡ f.title
title-is H h f at = ap (λ o. unwrap_or (option_map (λ r. r.title) o) 0) at

-- A patron who may place a hold of a title has no active hold of it.
no-hold-yet : (H : History) → Invariant H → (p t h : ℕ) (f : HoldFacts) → has_hold_on H (sight H) p t ≡ false → IsActive H h f → f.patron ≡ p
    → f.title ≡ t → ⊥
no-hold-yet H inv p t h f none a own title =
    let member : has (active_holds H p) h ≡ true = subst (λ q. has (active_holds H q) h ≡ true) own (among H inv h f a) in
    let off = none-passes (λ g. title_of_hold H g == t) h (active_holds H p) none member in
    clash _ (eq-eqb _ _ (title-is H h f a.is ∙ title)) off

-- ---- open loans

-- The loan is an open one of a copy of the title to the patron.
record IsLoanOf (H : History) (l p t : ℕ) : Type 0 where
  facts : LoanFacts
  made : loan_of H l ≡ Some facts
  open_still : ended H l ≡ None
  patron : facts.patron ≡ p
  copy : CopyFacts
  lent : copy_of H facts.copy ≡ Some copy
  title : copy.title ≡ t

-- A patron who may place a hold of a title doesn't have it on loan.
not-lent-yet : (H : History) → Invariant H → (l p t : ℕ) → has_on_loan H p t ≡ false → IsLoanOf H l p t → ⊥
not-lent-yet H inv l p t none a =
    let m = inv.made_loan l a.facts a.made in
    let own : is_loan_of_patron H p l ≡ true = ap (λ o. unwrap_or (option_map (λ r. r.patron == p) o) false) a.made ∙ eq-eqb _ _ a.patron in
    let still : is_open_loan H l ≡ true = and-true _ _ (ap is_some a.made) (ap is_none a.open_still) in
    let member : has (open_loans H p) l ≡ true = filter-has (λ k. is_loan_of_patron H p k && is_open_loan H k) l (numbers_to (loans H)) (and-true _ _ own still)
    (numbers-has (loans H) l m.0 m.1) in
    let off = none-passes (λ k. title_of_loan H k == t) l (open_loans H p) none member in
    let title : title_of_loan H l ≡ t = ap (λ o. unwrap_or (option_map (λ r. title_of_copy H r.copy) o) 0) a.made
    ∙ ap (λ o. unwrap_or (option_map (λ r. r.title) o) 0) a.lent ∙ a.title in
    clash _ (eq-eqb _ _ title) off

-- The command makes this loan, of a copy of the title to the patron.
record IsLent (H : History) (x : Command) (p t : ℕ) : Type 0 where
  copy : ℕ
  branch : ℕ
  command : x ≡ CheckOut p copy branch
  title : title_of_copy H copy ≡ t

pub ended-before : (H : History) (x : Command) (l : ℕ) → ended_after H x l (ended H l) ≡ None → ended H l ≡ None
ended-before H (CheckIn c b) l e = (none-or (ended H l) _ e).0
ended-before H (Missing c) l e = (none-or (ended H l) _ e).0
ended-before H _ l e = e

module _ (H : History) (inv : Invariant H) where
  -- The copy of an open loan was acquired.
  lent-copy : (l : ℕ) (r : LoanFacts) → loan_of H l ≡ Some r → ended H l ≡ None → (y : CopyFacts) × (copy_of H r.copy ≡ Some y)
  lent-copy l r at still = go (copy_of H r.copy) refl
    where
      go : (o : Option CopyFacts) → copy_of H r.copy ≡ o → (y : CopyFacts) × (copy_of H r.copy ≡ Some y)
      go (Some y) e = (y, e)
      go None e =
          let gone : Loan l ≡ Nowhere = sym (inv.open_loan l r at still) ∙ inv.unknown r.copy e in
          let never : ⊥ = cc in absurd never

  old-loan : (x : Command) (l p t : ℕ) (r : LoanFacts) (y : CopyFacts) → loan_of H l ≡ Some r → ended_after H x l (ended H l) ≡ None
      → copy_after x r.copy (copy_of H r.copy) ≡ Some y → r.patron ≡ p → y.title ≡ t → IsLoanOf H l p t
  old-loan x l p t r y at still lent own title =
      let open' = ended-before H x l still in
      let was = lent-copy l r at open' in
      let same : was.0.title ≡ y.title =
      some-same was.0.title y.title (sym (copy-title-stays x H r.copy was.0 was.1) ∙ ap (option_map (λ (z : CopyFacts). z.title)) lent) in
      record {
        facts = r;
        made = at;
        open_still = open';
        patron = own;
        copy = was.0;
        lent = was.1;
        title = same ∙ title;
      }

  -- A loan was there before, or the command made it.
  loan-before : (x : Command) (l p t : ℕ) (r : LoanFacts) (y : CopyFacts) → loan_after H x l (loan_of H l) ≡ Some r
      → ended_after H x l (ended H l) ≡ None → copy_after x r.copy (copy_of H r.copy) ≡ Some y → r.patron ≡ p → y.title ≡ t
      → IsLent H x p t ⊎ IsLoanOf H l p t
  loan-before (CheckOut q c b) l p t r y at still lent own title = go (next_loan H == l) at
    where
      go : (z : Bool) → cond z (Some (record { copy = c; patron = q; branch = b; made = today H; terms = unwrap_or (terms_for H q c) no_terms }))
          (loan_of H l) ≡ Some r
          → IsLent H (CheckOut q c b) p t ⊎ IsLoanOf H l p t
      go true f =
          let same : ◌≡◌ {A = LoanFacts} (record { copy = c; patron = q; branch = b; made = today H; terms = unwrap_or (terms_for H q c) no_terms }) r =
          some-same _ r f in
          let who : q ≡ p = ap (λ (z : LoanFacts). z.patron) same ∙ own in
          let which : c ≡ r.copy = ap (λ (z : LoanFacts). z.copy) same in
          inl (record {
            copy = c;
            branch = b;
            command = ap (λ n. CheckOut n c b) who;
            title = ap (title_of_copy H) which ∙ ap (λ o. unwrap_or (option_map (λ z. z.title) o) 0) lent ∙ title;
          })
      go false f = inr (old-loan (CheckOut q c b) l p t r y f still lent own title)
  loan-before x l p t r y at still lent own title = inr (old-loan x l p t r y at still lent own title)

-- ---- one event

pub settled : (s : HoldState) → is_active_state s ≡ false → IsSettled s
settled s e = record {
  unwaiting = λ same. let on : is_active_state s ≡ true = ap is_active_state same in let never : ⊥ = cc in never;
  unready = λ same. let on : is_active_state s ≡ true = ap is_active_state same in let never : ⊥ = cc in never;
}

-- Each patron has one of each title.
record IsApart (H : History) : Type 0 where
  one_hold : (h g : ℕ) (f k : HoldFacts) → IsActive H h f → IsActive H g k → f.patron ≡ k.patron → f.title ≡ k.title → h ≡ g
  not_lent : (h l : ℕ) (f : HoldFacts) → IsActive H h f → IsLoanOf H l f.patron f.title → ⊥

module _ (e : Event) (H : History) (legal : IsLegal (e ∷ H)) (apart : IsApart H) where
  inv : Invariant H
  inv = legal-Invariant H legal.1

  -- A hold that is active now and was there before was active.
  was-active : (h : ℕ) (f k : HoldFacts) → hold_of H h ≡ Some f → IsActive (e ∷ H) h k → IsActive H h f
  was-active h f k before a = go s.0 s.1 (is_active_state s.0) refl
    where
      s : (s : HoldState) × (state H h ≡ Some s)
      s = inv.stated h f before

      go : (t : HoldState) → state H h ≡ Some t → (b : Bool) → is_active_state t ≡ b → IsActive H h f
      go t at true d = record { is = before; waits = t; in_state = at; active = d }
      go t at false d =
          let stays : state (e ∷ H) h ≡ Some t = event-stays H h t (legal-bound H legal.1) (settled t d) at e.owner e.key e.command legal.0.unrefused in
          let same : t ≡ a.waits = some-same t a.waits (sym stays ∙ a.in_state) in
          absurd (clash _ (subst (λ x. is_active_state x ≡ true) (sym same) a.active) d)

  -- The hold is the one that the event made.
  record IsNew (h : ℕ) (f : HoldFacts) : Type 0 where
    made : hold_made e.command ≡ Some f
    number : h ≡ next_hold H

  new-or-old : (h : ℕ) (f : HoldFacts) → IsActive (e ∷ H) h f → IsNew h f ⊎ IsActive H h f
  new-or-old h f a = go (hold_made e.command) refl a.is
    where
      go : (m : Option HoldFacts) → hold_made e.command ≡ m → hold_after H m h (hold_of H h) ≡ Some f → IsNew h f ⊎ IsActive H h f
      go None is now = inr (was-active h f f now a)
      go (Some made) is now = by (next_hold H == h) refl now
        where
          by : (b : Bool) → (next_hold H == h) ≡ b → cond b (Some made) (hold_of H h) ≡ Some f → IsNew h f ⊎ IsActive H h f
          by true d q = inl (record { made = is ∙ q; number = sym (eqb-true _ _ d) })
          by false d q = inr (was-active h f f q a)

  -- The checks that a new hold passed.
  new-passed : (f : HoldFacts) → hold_made e.command ≡ Some f → (has_hold_on H (sight H) f.patron f.title ≡ false) × (has_on_loan H f.patron f.title ≡ false)
  new-passed f is = go e.command is legal.0.unrefused
    where
      go : (x : Command) → hold_made x ≡ Some f → refusal H e.owner x ≡ None
          → (has_hold_on H (sight H) f.patron f.title ≡ false) × (has_on_loan H f.patron f.title ≡ false)
      go (PlaceHold p t b d) q ok =
          let same : ◌≡◌ {A = HoldFacts} (record { patron = p; title = t; branch = b; first_day = d }) f = some-same _ f q in
          let k = passed (checks H e.owner (PlaceHold p t b d)) ok in
          subst (λ (r : HoldFacts). (has_hold_on H (sight H) r.patron r.title ≡ false) × (has_on_loan H r.patron r.title ≡ false)) same
          ((k check.AlreadyHolds), (k check.HasOnLoan))
      go _ q ok = let never : ⊥ = cc in absurd never

  one-hold : (h g : ℕ) (f k : HoldFacts) → IsActive (e ∷ H) h f → IsActive (e ∷ H) g k → f.patron ≡ k.patron → f.title ≡ k.title → h ≡ g
  one-hold h g f k a b own title = go (new-or-old h f a) (new-or-old g k b)
    where
      go : IsNew h f ⊎ IsActive H h f → IsNew g k ⊎ IsActive H g k → h ≡ g
      go (inl x) (inl y) = x.number ∙ sym y.number
      go (inl x) (inr y) = absurd (no-hold-yet H inv f.patron f.title g k (new-passed f x.made).0 y (sym own) (sym title))
      go (inr x) (inl y) = absurd (no-hold-yet H inv k.patron k.title h f (new-passed k y.made).0 x own title)
      go (inr x) (inr y) = apart.one_hold h g f k x y own title

  -- A check-out of the title to the patron leaves no active hold of it.
  lent-fills : (h : ℕ) (f : HoldFacts) → IsActive (e ∷ H) h f → IsActive H h f → IsLent H e.command f.patron f.title → ⊥
  lent-fills h f now was w = go (fills H f.patron w.copy h) refl
    where
      checks-passed : has_other_hold H (sight H) f.patron w.copy ≡ false
      checks-passed = (passed (checks H e.owner (CheckOut f.patron w.copy w.branch))
          (subst (λ x. refusal H e.owner x ≡ None) w.command legal.0.unrefused) check.AlreadyHolds)

      go : (b : Bool) → fills H f.patron w.copy h ≡ b → ⊥
      go true d =
          let filled : state (e ∷ H) h ≡ Some Filled = ap (λ x. state_after H (place H) (state H) (is_begun H) x h) w.command
          ∙ ap (λ x. left (state H h) Filled x) d in
          let same : Filled ≡ now.waits = some-same _ _ (sym filled ∙ now.in_state) in
          let off : is_active_state Filled ≡ true = subst (λ x. is_active_state x ≡ true) (sym same) now.active in
          let never : ⊥ = cc in never
      go false d =
          let off = none-passes (λ g. (title_of_hold H g == title_of_copy H w.copy) && not (fills H f.patron w.copy g)) h
          (active_holds H f.patron) checks-passed (among H inv h f was) in
          let on = and-true (title_of_hold H h == title_of_copy H w.copy) (not (fills H f.patron w.copy h))
          (eq-eqb _ _ (title-is H h f was.is ∙ sym w.title)) (ap not d) in
          clash _ on off

  not-lent : (h l : ℕ) (f : HoldFacts) → IsActive (e ∷ H) h f → IsLoanOf (e ∷ H) l f.patron f.title → ⊥
  not-lent h l f a w = go (new-or-old h f a) (loan-before H inv e.command l f.patron f.title w.facts w.copy w.made w.open_still w.lent w.patron w.title)
    where
      go : IsNew h f ⊎ IsActive H h f → IsLent H e.command f.patron f.title ⊎ IsLoanOf H l f.patron f.title → ⊥
      go (inl x) (inl y) = let no : None ≡ Some f = sym (ap hold_made y.command) ∙ x.made in let never : ⊥ = cc in never
      go (inl x) (inr y) = not-lent-yet H inv l f.patron f.title (new-passed f x.made).1 y
      go (inr x) (inl y) = lent-fills h f a x y
      go (inr x) (inr y) = apart.not_lent h l f x y

legal-apart : (H : History) → IsLegal H → IsApart H
legal-apart [] legal = record {
  one_hold = λ h g f k a b own title. let no : None ≡ Some f = a.is in let never : ⊥ = cc in absurd never;
  not_lent = λ h l f a w. let no : None ≡ Some f = a.is in let never : ⊥ = cc in never;
}
legal-apart (e ∷ H) legal =
    let apart = legal-apart H legal.1 in
    record { one_hold = one-hold e H legal apart; not_lent = not-lent e H legal apart }

-- ---- the law

-- A hold's row shows it active exactly so.
row-active : (H : History) (h : ℕ) (r : HoldRow) → (picture H).holds h ≡ Some r → is_active_state r.state ≡ true
    → (f : HoldFacts) × IsActive H h f × (f.patron ≡ r.patron) × (f.title ≡ r.title)
row-active H h r row on =
    let q = hold-facts H h r row in (
      q.1,
      record { is = q.3; waits = q.0; in_state = q.2; active = subst (λ (x : HoldRow). is_active_state x.state ≡ true) (sym q.4) on },
      ap (λ (x : HoldRow). x.patron) q.4,
      ap (λ (x : HoldRow). x.title) q.4,
    )

row-lent : (H : History) (l p t : ℕ) (x : LoanRow) (y : CopyRow) → (picture H).loans l ≡ Some x → (picture H).copies x.copy ≡ Some y
    → x.ended ≡ None → x.patron ≡ p → y.title ≡ t → IsLoanOf H l p t
row-lent H l p t x y loan copy still own title =
    let r = map-some (loan_columns H l) (loan_of H l) x loan in
    let c = map-some (copy_columns H x.copy) (copy_of H x.copy) y copy in
    let which : r.0.copy ≡ x.copy = ap (λ (z : LoanRow). z.copy) r.2 in
    record {
      facts = r.0;
      made = r.1;
      open_still = ap (λ (z : LoanRow). z.ended) r.2 ∙ still;
      patron = ap (λ (z : LoanRow). z.patron) r.2 ∙ own;
      copy = c.0;
      lent = subst (λ n. copy_of H n ≡ Some c.0) (sym which) c.1;
      title = ap (λ (z : CopyRow). z.title) c.2 ∙ title;
    }

pub one-each : OneEach
one-each H legal =
    let apart = legal-apart H legal in
    record {
      one_hold = λ h g r s at there on also own title.
          let a = row-active H h r at on in
          let b = row-active H g s there also in
          apart.one_hold h g a.0 b.0 a.1 b.1 (a.2 ∙ own ∙ sym b.2) (a.3 ∙ title ∙ sym b.3);
      not_on_loan = λ h l r x y at loan copy on still own title.
          let a = row-active H h r at on in
          apart.not_lent h l a.0 a.1 (row-lent H l a.0.patron a.0.title x y loan copy still (sym own ∙ sym a.2) (sym title ∙ sym a.3));
    }
