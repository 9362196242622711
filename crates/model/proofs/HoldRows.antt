-- Each given number has its loan or hold, with a row, and each placed hold has one state.
use Rattle.std.proofs.Common.{◌≡◌, ℕ, ◌≤◌, ◌==◌, Bool, true, false, cond, ◌&&◌, [], ◌∷◌, refl, sym, ap, ◌∙◌, arith, le-leb}
use Rattle.std.specs.Prelude.{Option, Some, None, option_map, option_and_then, unwrap_or, is_some, nat_le}
use Rattle.std.proofs.lemmas.Bool.{leb-true, and_parts}
use Rattle.terms.specs.declared.command.Command.{Command}
use Rattle.terms.specs.declared.command.Command.TheVariants.{CheckOut, CheckIn, CancelHold, Unshelve, UnshelveCancelled, Missing}
use Rattle.terms.specs.declared.row.HoldState.{HoldState}
use Rattle.terms.specs.declared.row.HoldState.TheVariants.{Waiting, Ready, Filled, Cancelled, Expired}
use Rattle.model.specs.Checks.{is_within}
use Rattle.model.specs.History.{History, today, loans, loans_after, next_loan, HoldFacts, hold_made, hold_of, hold_after, holds, holds_after, next_hold}
use Rattle.model.specs.Places.{place, state, state_moved, state_made, state_at, state_unshelved, route, route_by, kept_for_by, is_kept_for}
use Rattle.model.specs.Places.{goal_of, fills_by, is_begun}
use Rattle.model.specs.Loans.{LoanFacts, loan_of, loan_after, terms_for, no_terms}
use Rattle.model.specs.Picture.{hold_row, hold_columns, loan_row, loan_columns}
use Rattle.model.specs.Requests.{IsLegal}
use Rattle.model.proofs.Moves.{false-ne}
use Rattle.model.proofs.Bindings.{left}
use Rattle.model.proofs.Legal.{legal-bound}
use Rattle.model.proofs.LoanLaws.{legal-LoanLaws}

-- ---- numbers

hold-step : (H : History) (made : Option HoldFacts) (h : ℕ) → 1 ≤ h → h ≤ holds_after made (holds H)
    → (h ≤ holds H → (r : HoldFacts) × (hold_of H h ≡ Some r)) → (r : HoldFacts) × (hold_after H made h (hold_of H h) ≡ Some r)
hold-step H (Some made) h low high before = go (next_hold H == h) refl
  where
    go : (x : Bool) → (next_hold H == h) ≡ x → (r : HoldFacts) × (cond x (Some made) (hold_of H h) ≡ Some r)
    go true e = (made, refl)
    go false e = before (omega (arith, high, false-ne (next_hold H) h e))
hold-step H None h low high before = before high

-- Each number from 1 to the last is that of a hold.
pub hold-numbered : (H : History) (h : ℕ) → 1 ≤ h → h ≤ holds H → (r : HoldFacts) × (hold_of H h ≡ Some r)
hold-numbered [] h low high = let never : ⊥ = omega (arith, low, high) in absurd never
hold-numbered (e ∷ H) h low high = hold-step H (hold_made e.command) h low high (λ le. hold-numbered H h low le)

loan-step : (H : History) (x : Command) (l : ℕ) → 1 ≤ l → l ≤ loans_after x (loans H)
    → (l ≤ loans H → (r : LoanFacts) × (loan_of H l ≡ Some r)) → (r : LoanFacts) × (loan_after H x l (loan_of H l) ≡ Some r)
loan-step H (CheckOut p c b) l low high before = go (next_loan H == l) refl
  where
    go : (x : Bool) → (next_loan H == l) ≡ x
        → (r : LoanFacts) × (cond x (Some
        (record { copy = c; patron = p; branch = b; made = today H; terms = unwrap_or (terms_for H p c) no_terms }))
        (loan_of H l) ≡ Some r)
    go true e = (record { copy = c; patron = p; branch = b; made = today H; terms = unwrap_or (terms_for H p c) no_terms }, refl)
    go false e = before (omega (arith, high, false-ne (next_loan H) l e))
loan-step H _ l low high before = before high

-- Each number from 1 to the last is that of a loan.
pub loan-numbered : (H : History) (l : ℕ) → 1 ≤ l → l ≤ loans H → (r : LoanFacts) × (loan_of H l ≡ Some r)
loan-numbered [] l low high = let never : ⊥ = omega (arith, low, high) in absurd never
loan-numbered (e ∷ H) l low high = loan-step H e.command l low high (λ le. loan-numbered H l low le)

-- ---- states

-- There is a state.
abbrev IsStated : Option HoldState → Type 0
IsStated s = (t : HoldState) × (s ≡ Some t)

left-stated : (s : Option HoldState) (ends : HoldState) (b : Bool) → IsStated s → IsStated (left s ends b)
left-stated s ends true there = (ends, refl)
left-stated s ends false there = there

unshelved-stated : (H : History) (g : ℕ) (ends : HoldState) (found : Option ℕ) (h : ℕ) → IsStated (state H h)
    → IsStated (state_unshelved H (place H) (state H) (is_begun H) g ends found h)
unshelved-stated H g ends None h there = left-stated (state H h) ends (g == h) there
unshelved-stated H g ends (Some c) h there =
    left-stated (state_at H (place H) (state H) (is_begun H) (route_by H (place H) (state H) (is_begun H) c (goal_of H g)) h) ends (g == h)
    (left-stated (state H h) Ready (is_kept_for (route_by H (place H) (state H) (is_begun H) c (goal_of H g)) h) there)

moved-state : (H : History) (x : Command) (h : ℕ) → IsStated (state H h) → IsStated (state_moved H (place H) (state H) (is_begun H) x h)
moved-state H (CheckOut p c b) h before = left-stated (state H h) Filled (fills_by H (place H) (state H) (is_begun H) p c h) before
moved-state H (CheckIn c b) h before = left-stated (state H h) Ready (is_kept_for (route H c b) h) before
moved-state H (CancelHold g) h before = left-stated (state H h) Cancelled (g == h) before
moved-state H (Unshelve g) h before = unshelved-stated H g Expired (kept_for_by H (place H) (state H) (is_begun H) g) h before
moved-state H (UnshelveCancelled g) h before = unshelved-stated H g Cancelled (kept_for_by H (place H) (state H) (is_begun H) g) h before
moved-state H (Missing c) h before = left-stated (state H h) Waiting (is_kept_for (place H c) h) before
moved-state H _ h before = before

state-step : (H : History) (x : Command) (made : Option HoldFacts) (h : ℕ) (r : HoldFacts) → hold_after H made h (hold_of H h) ≡ Some r
    → ((q : HoldFacts) → hold_of H h ≡ Some q → IsStated (state H h))
    → IsStated (state_made H (place H) (state H) (is_begun H) made x h)
state-step H x (Some made) h r e before = go (next_hold H == h) e
  where
    go : (b : Bool) → cond b (Some made) (hold_of H h) ≡ Some r → IsStated (left (state H h) Waiting b)
    go true f = (Waiting, refl)
    go false f = before r f
state-step H x None h r e before = moved-state H x h (before r e)

-- Each hold that was placed has a state.
pub hold-stated : (H : History) (h : ℕ) (r : HoldFacts) → hold_of H h ≡ Some r → (s : HoldState) × (state H h ≡ Some s)
hold-stated [] h r e = let never : ⊥ = cc in absurd never
hold-stated (e ∷ H) h r made = state-step H e.command (hold_made e.command) h r made (λ q was. hold-stated H h q was)

-- ---- rows

both-true : (x y : Bool) → x ≡ true → y ≡ true → (x && y) ≡ true
both-true true y e f = f
both-true false y e f = let never : ⊥ = cc in absurd never

not-within : (low high n : ℕ) → (low ≤ n → n ≤ high → ⊥) → is_within low high n ≡ false
not-within low high n out = go (is_within low high n) refl
  where
    go : (b : Bool) → is_within low high n ≡ b → b ≡ false
    go true e =
        let parts : (nat_le low n ≡ true) × (nat_le n high ≡ true) = and_parts (nat_le low n) (nat_le n high) e in
        absurd (out (leb-true low n parts.0) (leb-true n high parts.1))
    go false e = refl

-- The holds that have a row are those of the numbers given.
pub hold-rows : (H : History) (h : ℕ) → IsLegal H → is_some (hold_row H h) ≡ is_within 1 (holds H) h
hold-rows H h legal = go (hold_of H h) refl
  where
    go : (o : Option HoldFacts) → hold_of H h ≡ o → is_some (hold_row H h) ≡ is_within 1 (holds H) h
    go (Some r) e =
        let m : (1 ≤ h) × (h ≤ holds H) = (legal-LoanLaws H legal).made_hold h r e in
        let s : (s : HoldState) × (state H h ≡ Some s) = hold-stated H h r e in
        let row : hold_row H h ≡ Some (hold_columns H h s.0 r) =
        ap (option_and_then (λ t. option_map (hold_columns H h t) (hold_of H h))) s.1 ∙ ap (option_map (hold_columns H h s.0)) e in
        ap is_some row ∙ sym (both-true (nat_le 1 h) (nat_le h (holds H)) (le-leb 1 h m.0) (le-leb h (holds H) m.1))
    go None e =
        let none : hold_row H h ≡ None = ap (option_and_then (λ t. option_map (hold_columns H h t) (hold_of H h))) ((legal-bound H legal).unplaced h e) in
        ap is_some none ∙ sym (not-within 1 (holds H) h (λ low high.
        let made : (r : HoldFacts) × (hold_of H h ≡ Some r) = hold-numbered H h low high in
        let two : Some made.0 ≡ None = sym made.1 ∙ e in
        let never : ⊥ = cc in never))

-- The loans that have a row are those of the numbers given.
pub loan-rows : (H : History) (l : ℕ) → IsLegal H → is_some (loan_row H l) ≡ is_within 1 (loans H) l
loan-rows H l legal = go (loan_of H l) refl
  where
    go : (o : Option LoanFacts) → loan_of H l ≡ o → is_some (loan_row H l) ≡ is_within 1 (loans H) l
    go (Some r) e =
        let m : (1 ≤ l) × (l ≤ loans H) = (legal-LoanLaws H legal).made_loan l r e in
        ap (λ o. is_some (option_map (loan_columns H l) o)) e
        ∙ sym (both-true (nat_le 1 l) (nat_le l (loans H)) (le-leb 1 l m.0) (le-leb l (loans H) m.1))
    go None e = ap (λ o. is_some (option_map (loan_columns H l) o)) e ∙ sym (not-within 1 (loans H) l (λ low high.
        let made : (r : LoanFacts) × (loan_of H l ≡ Some r) = loan-numbered H l low high in
        let two : Some made.0 ≡ None = sym made.1 ∙ e in
        let never : ⊥ = cc in never))
