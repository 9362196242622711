-- What holds of every copy's place, command after command, if it holds where routing can send one.
use Rattle.terms.specs.declared.limits.TheConstants.{LAST_NUMBER}
use Rattle.std.proofs.Common.{◌≡◌, ℕ, ◌<◌, ◌==◌, Bool, true, false, not, List, [], ◌∷◌, refl, subst, ◌&&◌}
use Rattle.std.specs.Prelude.{Option, Some, None, is_none}
use Rattle.std.proofs.lemmas.Bool.{and_parts, eqb-true, leb-false}
use Rattle.terms.specs.declared.command.Owner.{Owner}
use Rattle.terms.specs.declared.command.Command.{Command}
use Rattle.terms.specs.declared.command.Command.TheVariants.{Rehome}
use Rattle.terms.specs.declared.command.Command.TheVariants.{Acquire, CheckOut, CheckIn, CancelHold, Unshelve, UnshelveCancelled, Missing, Withdraw}
use Rattle.terms.specs.declared.row.HoldState.TheVariants.{Waiting}
use Rattle.terms.specs.declared.refusal.Refusal.TheVariants as check
use Rattle.model.specs.History.{History, numbers_to, BranchFacts, branch_of, CopyFacts, copy_of, loans, next_loan, HoldFacts, hold_of, holds}
use Rattle.model.specs.Places.{Place, Nowhere, Shelf, HoldShelf, Transit, Loan, MissingCopy, WithdrawnCopy, place, state, place_after}
use Rattle.model.specs.Places.{place_let_go, place_unshelved, is_kept_for, is_waiting, is_begun, is_coming_by, line_by, route_by}
use Rattle.model.specs.Places.{route_from, route_to, goal_of, home_of, title_of_copy}
use Rattle.model.specs.Invariant.{Invariant}
use Rattle.model.specs.Refusals.{refusal, checks}
use Rattle.model.proofs.Passing.{passed}
use Rattle.model.proofs.Bindings.{filter-head, waiting-is, both, not-false}
use Rattle.model.proofs.SettingRanges.{there}
use Rattle.model.proofs.Rehoming.{rehomed, rehomed-keeps}

-- A copy that is somewhere was acquired.
pub copy-known : (H : History) → Invariant H → (c : ℕ) → (place H c ≡ Nowhere → ⊥)
    → (f : CopyFacts) × (copy_of H c ≡ Some f)
copy-known H inv c at = go (copy_of H c) refl
  where
    go : (y : Option CopyFacts) → copy_of H c ≡ y → (f : CopyFacts) × (copy_of H c ≡ Some f)
    go (Some f) e = (f, e)
    go None e = absurd (at (inv.unknown c e))

-- P holds of each place now, and of each that a command may give a copy.
pub record KeepsPlaces (H : History) (P : Place → Type 0) : Type 0 where
  pub now : (c : ℕ) → P (place H c)
  pub to_hold : (h : ℕ) (r : HoldFacts) → hold_of H h ≡ Some r
      → P (HoldShelf h) × P (Transit (goal_of H h) (Some h))
  pub to_home : (c : ℕ) (f : CopyFacts) → copy_of H c ≡ Some f
      → P (Shelf (home_of H c)) × P (Transit (home_of H c) None)
  pub arrives : (g h : ℕ) → P (Transit g (Some h)) → P (HoldShelf h)
  pub let_go : (g h : ℕ) → P (Transit g (Some h)) → P (Transit g None)
  pub acquired : (b : ℕ) (r : BranchFacts) → branch_of H b ≡ Some r → P (Shelf b)
  pub rehomed : (b : ℕ) (r : BranchFacts) → branch_of H b ≡ Some r → P (Transit b None)
  pub lent : loans H < LAST_NUMBER → P (Loan (next_loan H))
  pub missing : P MissingCopy
  pub withdrawn : P WithdrawnCopy

module _ (H : History) (inv : Invariant H) (P : Place
    → Type 0) (keeps : KeepsPlaces H P) (o : Owner) where
  -- The first in line was placed.
  first-keeps : (t h : ℕ) (hs : List ℕ) → line_by H (place H) (state H) (is_begun H) t ≡ h ∷ hs
      → P (HoldShelf h) × P (Transit (goal_of H h) (Some h))
  first-keeps t h hs e =
      let test = both _ _ (filter-head _ (numbers_to (holds H)) h hs e) in
      let waits = (and_parts (is_waiting (state H h))
      (not (is_coming_by H (place H) (state H) (is_begun H) h) && is_begun H h) test.1).0 in
      let hold = inv.placed h Waiting (waiting-is (state H h) waits) in
      keeps.to_hold h hold.0 hold.1

  route_to-keeps : (c b : ℕ) (f : CopyFacts) → copy_of H c ≡ Some f → (hs : List ℕ)
      → line_by H (place H) (state H) (is_begun H) (title_of_copy H c) ≡ hs
      → P (route_to H (place H) (state H) (is_begun H) c b hs)
  route_to-keeps c b f known (h ∷ hs) e = go (goal_of H h == b)
    where
      first : P (HoldShelf h) × P (Transit (goal_of H h) (Some h))
      first = first-keeps (title_of_copy H c) h hs e

      go : (x : Bool)
          → P (elim x as
          (λ _. Place) [ true ↦ HoldShelf h | false ↦ Transit (goal_of H h) (Some h) ])
      go true = first.0
      go false = first.1
  route_to-keeps c b f known [] e = go (home_of H c == b) refl
    where
      home : P (Shelf (home_of H c)) × P (Transit (home_of H c) None)
      home = keeps.to_home c f known

      go : (x : Bool) → (home_of H c == b) ≡ x
          → P (elim x as (λ _. Place) [ true ↦ Shelf b | false ↦ Transit (home_of H c) None ])
      go true d = subst (λ n. P (Shelf n)) (eqb-true _ _ d) home.0
      go false d = home.1

  route_from-keeps : (c b : ℕ) (f : CopyFacts) → copy_of H c ≡ Some f → (p : Place) → P p
      → P (route_from H (place H) (state H) (is_begun H) c b p)
  route_from-keeps c b f known (Transit g (Some h)) was = go (g == b)
    where
      go : (x : Bool)
          → P (elim x as (λ _. Place) [ true ↦ HoldShelf h | false ↦ Transit g (Some h) ])
      go true = keeps.arrives g h was
      go false = was
  route_from-keeps c b f known _ was = route_to-keeps c b f known (line_by H (place H) (state H) (is_begun H)
      (title_of_copy H c)) refl

  pub route-keeps : (c b : ℕ) (f : CopyFacts) → copy_of H c ≡ Some f
      → P (route_by H (place H) (state H) (is_begun H) c b)
  route-keeps c b f known = route_from-keeps c b f known (place H c) (keeps.now c)

  moved-keeps : (n c : ℕ) (q : Place) → P q
      → P (elim (n == c) as (λ _. Place) [ true ↦ q | false ↦ place H c ])
  moved-keeps n c q new = go (n == c)
    where
      go : (x : Bool) → P (elim x as (λ _. Place) [ true ↦ q | false ↦ place H c ])
      go true = new
      go false = keeps.now c

  let_go-keeps : (h : ℕ) (p : Place) → P p → P (place_let_go H (place H) (state H) (is_begun H) h p)
  let_go-keeps h (Transit b (Some g)) was = go (h == g)
    where
      go : (x : Bool)
          → P (elim x as (λ _. Place) [ true ↦ Transit b None | false ↦ Transit b (Some g) ])
      go true = keeps.let_go b g was
      go false = was
  let_go-keeps h (Transit b None) was = was
  let_go-keeps h _ was = was

  kept-somewhere : (p : Place) (g : ℕ) → is_kept_for p g ≡ true → p ≡ Nowhere → ⊥
  kept-somewhere Nowhere g e = let never : ⊥ = cc in absurd never
  kept-somewhere _ g e = λ f. let never : ⊥ = cc in never

  unshelved-keeps : (g c : ℕ) → P (place_unshelved H (place H) (state H) (is_begun H) g c)
  unshelved-keeps g c = go (is_kept_for (place H c) g) refl
    where
      go : (x : Bool) → is_kept_for (place H c) g ≡ x
          → P (elim x as
          (λ _. Place) [
            | true ↦ route_by H (place H) (state H) (is_begun H) c
                (goal_of H g)
            | false ↦ place H c
          ])
      go true e = let known = copy-known H inv c (kept-somewhere
          (place H c) g e) in route-keeps c (goal_of H g) known.0 known.1
      go false e = keeps.now c

  -- P holds of the place of every copy after an accepted command.
  pub place_after-keeps : (x : Command) → refusal H o x ≡ None → (c : ℕ)
      → P (place_after H (place H) (state H) (is_begun H) x c)
  place_after-keeps (Acquire n t k home price text) ok c = go (is_none (copy_of H n))
    where
      branch : (r : BranchFacts) × (branch_of H home ≡ Some r)
      branch = there (branch_of H home) (not-false _ (passed (checks H o
          (Acquire n t k home price text)) ok check.UnknownBranch))

      go : (x : Bool)
          → P (elim x as (λ _. Place) [
            | true ↦ (elim (n == c) as
                (λ _. Place) [ true ↦ Shelf home | false ↦ place H c ])
            | false ↦ place H c
          ])
      go true = moved-keeps n c (Shelf home) (keeps.acquired home branch.0 branch.1)
      go false = keeps.now c
  place_after-keeps (Rehome n b) ok c =
      let branch = there (branch_of H b) (not-false _ (passed (checks H o (Rehome n b)) ok check.UnknownBranch)) in
      moved-keeps n c (rehomed H b (place H n)) (rehomed-keeps H P b (place H n) (keeps.now n) (keeps.rehomed b branch.0 branch.1))
  place_after-keeps (CheckOut p n b) ok c =
      let room : loans H < LAST_NUMBER = leb-false _ _ (passed (checks H o
      (CheckOut p n b)) ok check.NumbersUsedUp) in
      moved-keeps n c (Loan (next_loan H)) (keeps.lent room)
  place_after-keeps (CheckIn n b) ok c =
      let copy = there (copy_of H n) (not-false _ (passed (checks H o (CheckIn n b)) ok check.UnknownCopy)) in
      moved-keeps n c (route_by H (place H) (state H) (is_begun H) n b) (route-keeps n b copy.0 copy.1)
  place_after-keeps (CancelHold g) ok c = let_go-keeps g (place H c) (keeps.now c)
  place_after-keeps (Unshelve g) ok c = unshelved-keeps g c
  place_after-keeps (UnshelveCancelled g) ok c = unshelved-keeps g c
  place_after-keeps (Missing n) ok c = moved-keeps n c MissingCopy keeps.missing
  place_after-keeps (Withdraw n) ok c = moved-keeps n c WithdrawnCopy keeps.withdrawn
  place_after-keeps _ ok c = keeps.now c
