-- In every legal history: numbers in order, copies and their places, loans and the copies that they hold.
use Rattle.std.proofs.Common.{◌≡◌, ℕ, ◌+◌, ◌≤◌, ◌<◌, ◌==◌, Bool, true, false, cond, not, List, [], ◌∷◌, refl, sym, ◌∙◌, ap, subst, arith}
use Rattle.std.specs.Prelude.{Option, Some, None, option_map, unwrap_or, is_none, is_some}
use Rattle.std.specs.Option.{option_or}
use Rattle.std.proofs.lemmas.Bool.{eqb-true, eq-eqb, and_parts}
use Rattle.terms.specs.declared.command.Owner.{Owner}
use Rattle.terms.specs.declared.row.HoldState.{HoldState}
use Rattle.terms.specs.declared.command.Command.{Command}
use Rattle.terms.specs.declared.command.Command.TheVariants.{AmendCopy, Rehome}
use Rattle.terms.specs.declared.command.Command.TheVariants.{BeginDay, Acquire, CheckOut, CheckIn, Renew, CancelHold, Unshelve}
use Rattle.terms.specs.declared.command.Command.TheVariants.{UnshelveCancelled, Missing, Withdraw}
use Rattle.terms.specs.declared.refusal.Refusal.TheVariants as check
use Rattle.model.specs.History.{History, today, CopyFacts, copy_of, copy_after, loans, loans_after, next_loan, HoldFacts, hold_made}
use Rattle.model.specs.History.{hold_of, hold_after, holds, holds_after, next_hold}
use Rattle.model.specs.Places.{Place, Nowhere, Shelf, HoldShelf, Transit, Loan, MissingCopy, WithdrawnCopy, place, state, place_after}
use Rattle.model.specs.Places.{place_let_go, place_unshelved, is_kept_for, route_by, route_from, route_to, line_by, goal_of, home_of}
use Rattle.model.specs.Places.{title_of_copy, is_begun}
use Rattle.model.specs.Loans.{LoanFacts, loan_of, loan_after, ended, ended_after, is_loan_of_copy, renewals, renewals_after, terms_for, no_terms}
use Rattle.model.specs.Refusals.{checks, refusal, is_own, is_on_loan, has_copy}
use Rattle.model.specs.Accounts.{borrower}
use Rattle.model.specs.Requests.{IsLegal}
use Rattle.model.proofs.Bindings.{not-false}
use Rattle.model.proofs.Passing.{passed}
use Rattle.model.proofs.Amending.{amended-none}
use Rattle.model.proofs.Rehoming.{rehomed, rehomed-keeps}

pub record LoanLaws (H : History) : Type 0 where
  pub made_loan : (l : ℕ) (r : LoanFacts) → loan_of H l ≡ Some r → (1 ≤ l) × (l ≤ loans H)
  pub made_hold : (h : ℕ) (r : HoldFacts) → hold_of H h ≡ Some r → (1 ≤ h) × (h ≤ holds H)
  pub fresh_loan : (l : ℕ) → loans H < l → (renewals H l ≡ 0) × (ended H l ≡ None)
  pub unknown : (c : ℕ) → copy_of H c ≡ None → place H c ≡ Nowhere
  pub on_loan : (c l : ℕ) → place H c ≡ Loan l → (r : LoanFacts) × (loan_of H l ≡ Some r) × (r.copy ≡ c) × (ended H l ≡ None)
  pub open_loan : (l : ℕ) (r : LoanFacts) → loan_of H l ≡ Some r → ended H l ≡ None → place H r.copy ≡ Loan l

-- ---- small facts

some-is : {A : Type 0} (o : Option A) → not (is_some o) ≡ false → (x : A) × (o ≡ Some x)
some-is (Some x) e = (x, refl)
some-is None e = let never : ⊥ = cc in absurd never

pub none-or : {A : Type 0} (a b : Option A) → option_or a b ≡ None → (a ≡ None) × (b ≡ None)
none-or (Some x) b e = let never : ⊥ = cc in absurd never
none-or None b e = (refl, e)

-- A routed copy is on no loan.
route_to-free : (H : History) (places : ℕ → Place) (states : ℕ → Option HoldState) (begun : ℕ → Bool) (c b : ℕ) (hs : List ℕ)
    → is_on_loan (route_to H places states begun c b hs) ≡ false
route_to-free H places states begun c b (h ∷ hs) = go (goal_of H h == b)
  where
    go : (x : Bool) → is_on_loan (elim x as (λ _. Place) [ true ↦ HoldShelf h | false ↦ Transit (goal_of H h) (Some h) ]) ≡ false
    go true = refl
    go false = refl
route_to-free H places states begun c b [] = go (home_of H c == b)
  where
    go : (x : Bool) → is_on_loan (elim x as (λ _. Place) [ true ↦ Shelf b | false ↦ Transit (home_of H c) None ]) ≡ false
    go true = refl
    go false = refl

route_from-free : (H : History) (places : ℕ → Place) (states : ℕ → Option HoldState) (begun : ℕ → Bool) (c b : ℕ) (p : Place)
    → is_on_loan (route_from H places states begun c b p) ≡ false
route_from-free H places states begun c b (Transit g (Some h)) = go (g == b)
  where
    go : (x : Bool) → is_on_loan (elim x as (λ _. Place) [ true ↦ HoldShelf h | false ↦ Transit g (Some h) ]) ≡ false
    go true = refl
    go false = refl
route_from-free H places states begun c b _ = route_to-free H places states begun c b (line_by H places states begun (title_of_copy H c))

-- ---- one event

module _ (H : History) (inv : LoanLaws H) (o : Owner) where
  made_loan-step : (x : Command) (l : ℕ) (r : LoanFacts) → loan_after H x l (loan_of H l) ≡ Some r → (1 ≤ l) × (l ≤ loans_after x (loans H))
  made_loan-step (CheckOut p c b) l r e = go (next_loan H == l) refl e
    where
      go : (x : Bool) → (next_loan H == l) ≡ x
          → cond x (Some (record { copy = c; patron = p; branch = b; made = today H; terms = unwrap_or (terms_for H p c) no_terms }))
          (loan_of H l) ≡ Some r
          → (1 ≤ l) × (l ≤ loans H + 1)
      go true d f = let same : next_loan H ≡ l = eqb-true _ _ d in (omega (arith, same), omega (arith, same))
      go false d f = let m : (1 ≤ l) × (l ≤ loans H) = inv.made_loan l r f in (m.0, omega (arith, m.1))
  made_loan-step _ l r e = inv.made_loan l r e

  made_hold-step : (made : Option HoldFacts) (h : ℕ) (r : HoldFacts) → hold_after H made h (hold_of H h) ≡ Some r → (1 ≤ h) × (h ≤ holds_after made (holds H))
  made_hold-step (Some made) h r e = go (next_hold H == h) refl e
    where
      go : (x : Bool) → (next_hold H == h) ≡ x → cond x (Some made) (hold_of H h) ≡ Some r → (1 ≤ h) × (h ≤ holds H + 1)
      go true d f = let same : next_hold H ≡ h = eqb-true _ _ d in (omega (arith, same), omega (arith, same))
      go false d f = let m : (1 ≤ h) × (h ≤ holds H) = inv.made_hold h r f in (m.0, omega (arith, m.1))
  made_hold-step None h r e = inv.made_hold h r e

  no_loan : (l : ℕ) → loans H < l → loan_of H l ≡ None
  no_loan l lt = go (loan_of H l) refl
    where
      go : (x : Option LoanFacts) → loan_of H l ≡ x → x ≡ None
      go (Some r) e = let m : (1 ≤ l) × (l ≤ loans H) = inv.made_loan l r e in absurd (omega (arith, m.1, lt))
      go None e = refl

  not_of : (l c : ℕ) → loan_of H l ≡ None → is_loan_of_copy H l c ≡ false
  not_of l c e = ap (λ x. unwrap_or (option_map (λ r. r.copy == c) x) false) e

  ended_fresh : (l c : ℕ) → loans H < l → option_or (ended H l) (cond (is_loan_of_copy H l c) (Some (today H)) None) ≡ None
  ended_fresh l c lt =
      ap (λ x. option_or x (cond (is_loan_of_copy H l c) (Some (today H)) None)) (inv.fresh_loan l lt).1
      ∙ ap (λ x. cond x (Some (today H)) None) (not_of l c (no_loan l lt))

  fresh_loan-step : (x : Command) → refusal H o x ≡ None → (l : ℕ) → loans_after x (loans H) < l → (renewals_after x l (renewals H l) ≡ 0)
      × (ended_after H x l (ended H l) ≡ None)
  fresh_loan-step (CheckOut p c b) ok l lt = inv.fresh_loan l (omega (arith, lt))
  fresh_loan-step (CheckIn c b) ok l lt = ((inv.fresh_loan l lt).0, ended_fresh l c lt)
  fresh_loan-step (Missing c) ok l lt = ((inv.fresh_loan l lt).0, ended_fresh l c lt)
  fresh_loan-step (Renew n) ok l lt = (go (n == l) refl, (inv.fresh_loan l lt).1)
    where
      go : (x : Bool) → (n == l) ≡ x → cond x (renewals H l + 1) (renewals H l) ≡ 0
      go true d =
          let k = passed (checks H o (Renew n)) ok in
          let parts : (is_some (loan_of H n) ≡ true) × (is_own H o (borrower H n) ≡ true) = and_parts _ _ (not-false _ (k check.UnknownLoan)) in
          let has : is_some (loan_of H l) ≡ true = subst (λ m. is_some (loan_of H m) ≡ true) (eqb-true n l d) parts.0 in
          let none : is_some (loan_of H l) ≡ false = ap is_some (no_loan l lt) in
          let never : ⊥ = cc in absurd never
      go false d = (inv.fresh_loan l lt).0
  fresh_loan-step _ ok l lt = inv.fresh_loan l lt

  -- ---- places

  abbrev after : Command → ℕ → Place
  after x c = place_after H (place H) (state H) (is_begun H) x c

  free-ne : (p : Place) (l : ℕ) → is_on_loan p ≡ false → p ≡ Loan l → ⊥
  free-ne p l e f = let yes' : is_on_loan p ≡ true = ap is_on_loan f in let never : ⊥ = cc in never

  unshelved-loan : (g c l : ℕ) → place_unshelved H (place H) (state H) (is_begun H) g c ≡ Loan l → place H c ≡ Loan l
  unshelved-loan g c l e = go (is_kept_for (place H c) g) e
    where
      go : (x : Bool) → (elim x as (λ _. Place) [ true ↦ route_by H (place H) (state H) (is_begun H) c (goal_of H g) | false ↦ place H c ])
          ≡ Loan l → place H c ≡ Loan l
      go true f = absurd (free-ne _ l (route_from-free H (place H) (state H) (is_begun H) c (goal_of H g) (place H c)) f)
      go false f = f

  let_go-loan : (h : ℕ) (p : Place) (l : ℕ) → place_let_go H (place H) (state H) (is_begun H) h p ≡ Loan l → p ≡ Loan l
  let_go-loan h (Transit b (Some g)) l e = go (h == g) e
    where
      go : (x : Bool) → (elim x as (λ _. Place) [ true ↦ Transit b None | false ↦ Transit b (Some g) ]) ≡ Loan l → Transit b (Some g) ≡ Loan l
      go true f = let never : ⊥ = cc in absurd never
      go false f = f
  let_go-loan h (Transit b None) l e = e
  let_go-loan h _ l e = e

  abbrev OnLoan : Command → ℕ → ℕ → Type 0
  OnLoan x c l = (r : LoanFacts) × (loan_after H x l (loan_of H l) ≡ Some r) × (r.copy ≡ c) × (ended_after H x l (ended H l) ≡ None)

  -- A loan of another copy goes on.
  goes_on : (n c l : ℕ) → (n == c) ≡ false → (r : LoanFacts) → loan_of H l ≡ Some r → r.copy ≡ c → ended H l ≡ None
      → option_or (ended H l) (cond (is_loan_of_copy H l n) (Some (today H)) None) ≡ None
  goes_on n c l ne r e f none =
      ap (λ x. option_or x (cond (is_loan_of_copy H l n) (Some (today H)) None)) none
      ∙ ap (λ x. cond x (Some (today H)) None) (ap (λ x. unwrap_or (option_map (λ y. y.copy == n) x) false) e ∙ other (r.copy == n) refl)
    where
      other : (x : Bool) → (r.copy == n) ≡ x → (r.copy == n) ≡ false
      other true d = let same : n ≡ c = sym (eqb-true r.copy n d) ∙ f in let yes' : (n == c) ≡ true = eq-eqb n c same in let never : ⊥ = cc in absurd never
      other false d = d

  on_loan-step : (x : Command) → refusal H o x ≡ None → (c l : ℕ) → after x c ≡ Loan l → OnLoan x c l
  on_loan-step (Acquire n t k home price text) ok c l e = go (is_none (copy_of H n)) (n == c) e
    where
      go : (x y : Bool) → (elim x as (λ _. Place)
          [ true ↦ (elim y as (λ _. Place) [ true ↦ Shelf home | false ↦ place H c ]) | false ↦ place H c ]) ≡ Loan l
          → OnLoan (Acquire n t k home price text) c l
      go true true f = let never : ⊥ = cc in absurd never
      go true false f = inv.on_loan c l f
      go false y f = inv.on_loan c l f
  on_loan-step (CheckOut p n b) ok c l e = go (n == c) refl e
    where
      facts : LoanFacts
      facts = record { copy = n; patron = p; branch = b; made = today H; terms = unwrap_or (terms_for H p n) no_terms }

      new_at : next_loan H ≡ l → n ≡ c → OnLoan (CheckOut p n b) c l
      new_at f same =
          let is : (next_loan H == l) ≡ true = eq-eqb _ _ f in
          let above : loans H < l = omega (arith, f) in (
            record { copy = n; patron = p; branch = b; made = today H; terms = unwrap_or (terms_for H p n) no_terms },
            ap (λ x. cond x (Some (record {
              copy = n;
              patron = p;
              branch = b;
              made = today H;
              terms = unwrap_or (terms_for H p n) no_terms;
            })) (loan_of H l)) is,
            same,
            (inv.fresh_loan l above).1,
          )

      old_at : OnLoan (BeginDay 0) c l → OnLoan (CheckOut p n b) c l
      old_at w =
          let m : (1 ≤ l) × (l ≤ loans H) = inv.made_loan l w.0 w.1 in
          let other : (next_loan H == l) ≡ false = ne (next_loan H == l) refl m.1 in (
            w.0,
            ap (λ x. cond x (Some (record {
              copy = n;
              patron = p;
              branch = b;
              made = today H;
              terms = unwrap_or (terms_for H p n) no_terms;
            })) (loan_of H l)) other ∙ w.1,
            w.2,
            w.3,
          )
        where
          ne : (x : Bool) → (next_loan H == l) ≡ x → l ≤ loans H → x ≡ false
          ne true d le = let same : next_loan H ≡ l = eqb-true _ _ d in absurd (omega (arith, same, le))
          ne false d le = refl

      go : (x : Bool) → (n == c) ≡ x → (elim x as (λ _. Place) [ true ↦ Loan (next_loan H) | false ↦ place H c ]) ≡ Loan l → OnLoan (CheckOut p n b) c l
      go true d f = let same : next_loan H ≡ l = cc in new_at same (eqb-true n c d)
      go false d f = old_at (inv.on_loan c l f)
  on_loan-step (CheckIn n b) ok c l e = go (n == c) refl e
    where
      go : (x : Bool) → (n == c) ≡ x
          → (elim x as (λ _. Place) [ true ↦ route_by H (place H) (state H) (is_begun H) n b | false ↦ place H c ]) ≡ Loan l
          → OnLoan (CheckIn n b) c l
      go true d f = absurd (free-ne _ l (route_from-free H (place H) (state H) (is_begun H) n b (place H n)) f)
      go false d f = let w : OnLoan (BeginDay 0) c l = inv.on_loan c l f in (w.0, w.1, w.2, goes_on n c l d w.0 w.1 w.2 w.3)
  on_loan-step (Missing n) ok c l e = go (n == c) refl e
    where
      go : (x : Bool) → (n == c) ≡ x → (elim x as (λ _. Place) [ true ↦ MissingCopy | false ↦ place H c ]) ≡ Loan l → OnLoan (Missing n) c l
      go true d f = let never : ⊥ = cc in absurd never
      go false d f = let w : OnLoan (BeginDay 0) c l = inv.on_loan c l f in (w.0, w.1, w.2, goes_on n c l d w.0 w.1 w.2 w.3)
  on_loan-step (Withdraw n) ok c l e = go (n == c) e
    where
      go : (x : Bool) → (elim x as (λ _. Place) [ true ↦ WithdrawnCopy | false ↦ place H c ]) ≡ Loan l → OnLoan (Withdraw n) c l
      go true f = let never : ⊥ = cc in absurd never
      go false f = inv.on_loan c l f
  on_loan-step (CancelHold h) ok c l e = inv.on_loan c l (let_go-loan h (place H c) l e)
  on_loan-step (Unshelve g) ok c l e = inv.on_loan c l (unshelved-loan g c l e)
  on_loan-step (UnshelveCancelled g) ok c l e = inv.on_loan c l (unshelved-loan g c l e)
  on_loan-step (Rehome n b) ok c l e = go (n == c) refl e
    where
      go : (x : Bool) → (n == c) ≡ x → (elim x as (λ _. Place) [ true ↦ rehomed H b (place H n) | false ↦ place H c ]) ≡ Loan l → OnLoan (Rehome n b) c l
      go true d f =
          let at : place H n ≡ Loan l = rehomed-keeps H (λ q. q ≡ Loan l → place H n ≡ Loan l) b (place H n) (λ g. g) (λ g. let never : ⊥ = cc in absurd never) f in
          inv.on_loan c l (subst (λ m. place H m ≡ Loan l) (eqb-true n c d) at)
      go false d f = inv.on_loan c l f
  on_loan-step _ ok c l e = inv.on_loan c l e

  -- The copy of an open loan stays where it is, and isn't taken.
  abbrev Holds : Command → ℕ → LoanFacts → Type 0
  Holds x l r = loan_after H x l (loan_of H l) ≡ Some r → ended_after H x l (ended H l) ≡ None → after x r.copy ≡ Loan l

  keeps : (n c l : ℕ) (q : Place) → ((n == c) ≡ true → ⊥) → place H c ≡ Loan l → (elim (n == c) as (λ _. Place) [ true ↦ q | false ↦ place H c ]) ≡ Loan l
  keeps n c l q ne at = go (n == c) refl
    where
      go : (x : Bool) → (n == c) ≡ x → (elim x as (λ _. Place) [ true ↦ q | false ↦ place H c ]) ≡ Loan l
      go true d = absurd (ne d)
      go false d = at

  -- A loan that a check-in or missing of n leaves open is of another copy.
  other_copy : (n l : ℕ) (r : LoanFacts) → loan_of H l ≡ Some r → option_or (ended H l) (cond (is_loan_of_copy H l n) (Some (today H)) None) ≡ None
      → (ended H l ≡ None) × ((n == r.copy) ≡ true → ⊥)
  other_copy n l r e none =
      let parts : (ended H l ≡ None) × (cond (is_loan_of_copy H l n) (Some (today H)) None ≡ None) = none-or (ended H l) _ none in (
        parts.0,
        λ d.
            let same : n ≡ r.copy = eqb-true n r.copy d in
            let is : is_loan_of_copy H l n ≡ true = ap (λ x. unwrap_or (option_map (λ y. y.copy == n) x) false) e ∙ eq-eqb _ _ (sym same) in
            let now : Some (today H) ≡ None = sym (ap (λ x. cond x (Some (today H)) None) is) ∙ parts.1 in
            let never : ⊥ = cc in never,
      )

  unshelved-keeps : (g c l : ℕ) → place H c ≡ Loan l → place_unshelved H (place H) (state H) (is_begun H) g c ≡ Loan l
  unshelved-keeps g c l at =
      ap (λ x. elim (is_kept_for x g) as (λ _. Place) [ true ↦ route_by H (place H) (state H) (is_begun H) c (goal_of H g) | false ↦ place H c ]) at ∙ at

  unshelved-nowhere : (g c : ℕ) → place H c ≡ Nowhere → place_unshelved H (place H) (state H) (is_begun H) g c ≡ Nowhere
  unshelved-nowhere g c at =
      ap (λ x. elim (is_kept_for x g) as (λ _. Place) [ true ↦ route_by H (place H) (state H) (is_begun H) c (goal_of H g) | false ↦ place H c ]) at ∙ at

  -- A command that wants its copy to be there touches none that isn't.
  untouched : (n c : ℕ) (q : Place) → not (has_copy H n) ≡ false → copy_of H c ≡ None
      → (elim (n == c) as (λ _. Place) [ true ↦ q | false ↦ place H c ]) ≡ Nowhere
  untouched n c q has e = go (n == c) refl
    where
      go : (x : Bool) → (n == c) ≡ x → (elim x as (λ _. Place) [ true ↦ q | false ↦ place H c ]) ≡ Nowhere
      go true d =
          let there : has_copy H c ≡ true = subst (λ m. has_copy H m ≡ true) (eqb-true n c d) (not-false _ has) in
          let none : has_copy H c ≡ false = ap is_some e in
          let never : ⊥ = cc in absurd never
      go false d = inv.unknown c e

  open_loan-step : (x : Command) → refusal H o x ≡ None → (l : ℕ) (r : LoanFacts) → Holds x l r
  open_loan-step (Acquire n t k home price text) ok l r e none =
      let at : place H r.copy ≡ Loan l = inv.open_loan l r e none in go (copy_of H n) (n == r.copy) refl refl at
    where
      go : (y : Option CopyFacts) (x : Bool) → copy_of H n ≡ y → (n == r.copy) ≡ x → place H r.copy ≡ Loan l
          → (elim (is_none y) as (λ _. Place)
          [ true ↦ (elim x as (λ _. Place) [ true ↦ Shelf home | false ↦ place H r.copy ]) | false ↦ place H r.copy ]) ≡ Loan l
      go None true d f at =
          let no_place : place H n ≡ Nowhere = inv.unknown n d in
          let no_place' : place H r.copy ≡ Nowhere = subst (λ m. place H m ≡ Nowhere) (eqb-true n r.copy f) no_place in
          let never : ⊥ = cc in absurd never
      go None false d f at = at
      go (Some z) x d f at = at
  open_loan-step (CheckOut p n b) ok l r e none = go (next_loan H == l) refl e
    where
      kept_at : place H r.copy ≡ Loan l → (elim (n == r.copy) as (λ _. Place) [ true ↦ Loan (next_loan H) | false ↦ place H r.copy ]) ≡ Loan l
      kept_at at = keeps n r.copy l (Loan (next_loan H)) (λ d.
          let k = passed (checks H o (CheckOut p n b)) ok in
          let shut : is_on_loan (place H n) ≡ false = (k check.OnLoan) in
          let lent : is_on_loan (place H r.copy) ≡ true = ap is_on_loan at in
          let lent' : is_on_loan (place H n) ≡ true = subst (λ m. is_on_loan (place H m) ≡ true) (sym (eqb-true n r.copy d)) lent in
          let never : ⊥ = cc in never) at

      go : (x : Bool) → (next_loan H == l) ≡ x
          → cond x (Some (record { copy = n; patron = p; branch = b; made = today H; terms = unwrap_or (terms_for H p n) no_terms })) (loan_of H l) ≡ Some r
          → (elim (n == r.copy) as (λ _. Place) [ true ↦ Loan (next_loan H) | false ↦ place H r.copy ]) ≡ Loan l
      go true d f =
          let same : ◌≡◌ {A = LoanFacts} (record { copy = n; patron = p; branch = b; made = today H; terms = unwrap_or (terms_for H p n) no_terms }) r = cc in
          let is : (n == r.copy) ≡ true = eq-eqb _ _ (ap (λ y. y.copy) same) in
          ap (λ y. elim y as (λ _. Place) [ true ↦ Loan (next_loan H) | false ↦ place H r.copy ]) is ∙ ap Loan (eqb-true _ _ d)
      go false d f = kept_at (inv.open_loan l r f none)
  open_loan-step (CheckIn n b) ok l r e none =
      let w : (ended H l ≡ None) × ((n == r.copy) ≡ true → ⊥) = other_copy n l r e none in
      keeps n r.copy l (route_by H (place H) (state H) (is_begun H) n b) w.1 (inv.open_loan l r e w.0)
  open_loan-step (Missing n) ok l r e none =
      let w : (ended H l ≡ None) × ((n == r.copy) ≡ true → ⊥) = other_copy n l r e none in
      keeps n r.copy l MissingCopy w.1 (inv.open_loan l r e w.0)
  open_loan-step (Withdraw n) ok l r e none =
      let at : place H r.copy ≡ Loan l = inv.open_loan l r e none in
      keeps n r.copy l WithdrawnCopy (λ d.
      let k = passed (checks H o (Withdraw n)) ok in
      let shut : is_on_loan (place H n) ≡ false = (k check.OnLoan) in
      let lent' : is_on_loan (place H n) ≡ true = subst (λ m. is_on_loan (place H m) ≡ true) (sym (eqb-true n r.copy d)) (ap is_on_loan at) in
      let never : ⊥ = cc in never) at
  open_loan-step (CancelHold h) ok l r e none = ap (λ p. place_let_go H (place H) (state H) (is_begun H) h p) (inv.open_loan l r e none) ∙ refl
  open_loan-step (Unshelve g) ok l r e none = unshelved-keeps g r.copy l (inv.open_loan l r e none)
  open_loan-step (UnshelveCancelled g) ok l r e none = unshelved-keeps g r.copy l (inv.open_loan l r e none)
  open_loan-step (Rehome n b) ok l r e none = go (n == r.copy) refl
    where
      at : place H r.copy ≡ Loan l
      at = inv.open_loan l r e none

      go : (x : Bool) → (n == r.copy) ≡ x → (elim x as (λ _. Place) [ true ↦ rehomed H b (place H n) | false ↦ place H r.copy ]) ≡ Loan l
      go true d = ap (rehomed H b) (ap (place H) (eqb-true n r.copy d) ∙ at)
      go false d = at
  open_loan-step _ ok l r e none = inv.open_loan l r e none

  -- ---- copies not acquired

  unknown-step : (x : Command) → refusal H o x ≡ None → (c : ℕ) → copy_after x c (copy_of H c) ≡ None → after x c ≡ Nowhere
  unknown-step (Acquire n t k home price text) ok c e = go (n == c) (is_none (copy_of H n)) (copy_of H c) refl e
    where
      go : (x z : Bool) (y : Option CopyFacts) → copy_of H c ≡ y
          → option_or y (cond x (Some (record { title = t; kind = k; home = home; price = price })) None) ≡ None
          → (elim z as (λ _. Place) [ true ↦ (elim x as (λ _. Place) [ true ↦ Shelf home | false ↦ place H c ]) | false ↦ place H c ]) ≡ Nowhere
      go x z (Some f) d g = let never : ⊥ = cc in absurd never
      go true z None d g = let never : ⊥ = cc in absurd never
      go false true None d g = inv.unknown c d
      go false false None d g = inv.unknown c d
  unknown-step (CheckOut p n b) ok c e = let k = passed (checks H o (CheckOut p n b)) ok in untouched n c (Loan (next_loan H)) (k check.UnknownCopy) e
  unknown-step (CheckIn n b) ok c e = let k = passed (checks H o (CheckIn n b)) ok in untouched n c (route_by H (place H) (state H) (is_begun H) n b) (k check.UnknownCopy) e
  unknown-step (Missing n) ok c e = let k = passed (checks H o (Missing n)) ok in untouched n c MissingCopy (k check.UnknownCopy) e
  unknown-step (Withdraw n) ok c e = let k = passed (checks H o (Withdraw n)) ok in untouched n c WithdrawnCopy (k check.UnknownCopy) e
  unknown-step (CancelHold h) ok c e = ap (λ p. place_let_go H (place H) (state H) (is_begun H) h p) (inv.unknown c e)
  unknown-step (Unshelve g) ok c e = unshelved-nowhere g c (inv.unknown c e)
  unknown-step (UnshelveCancelled g) ok c e = unshelved-nowhere g c (inv.unknown c e)
  unknown-step (AmendCopy n kind price) ok c e = inv.unknown c (amended-none (n == c) _ (copy_of H c) e)
  unknown-step (Rehome n b) ok c e = let k = passed (checks H o (Rehome n b)) ok in
      untouched n c (rehomed H b (place H n)) (k check.UnknownCopy) (amended-none (n == c) _ (copy_of H c) e)
  unknown-step _ ok c e = inv.unknown c e

-- ---- every legal history

pub legal-LoanLaws : (H : History) → IsLegal H → LoanLaws H
legal-LoanLaws [] legal = record {
  made_loan = λ l r e. let never : ⊥ = cc in absurd never;
  made_hold = λ h r e. let never : ⊥ = cc in absurd never;
  fresh_loan = λ l lt. (refl, refl);
  unknown = λ c e. refl;
  on_loan = λ c l e. let never : ⊥ = cc in absurd never;
  open_loan = λ l r e none. let never : ⊥ = cc in absurd never;
}
legal-LoanLaws (e ∷ H) legal =
    let inv : LoanLaws H = legal-LoanLaws H legal.1 in
    record {
      made_loan = made_loan-step H inv e.owner e.command;
      made_hold = made_hold-step H inv e.owner (hold_made e.command);
      fresh_loan = fresh_loan-step H inv e.owner e.command legal.0.unrefused;
      unknown = unknown-step H inv e.owner e.command legal.0.unrefused;
      on_loan = on_loan-step H inv e.owner e.command legal.0.unrefused;
      open_loan = open_loan-step H inv e.owner e.command legal.0.unrefused;
    }
