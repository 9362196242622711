-- In every legal history a ready hold has a shelf limit, as its pick-up period ended.
use Rattle.std.proofs.Common.{◌≡◌, ℕ, ◌+◌, ◌==◌, Bool, true, false, [], ◌∷◌, refl}
use Rattle.std.specs.Prelude.{Option, Some, None, option_map, unwrap_or}
use Rattle.terms.specs.declared.command.Command.{Command}
use Rattle.terms.specs.declared.command.Command.TheVariants.{CheckOut, CheckIn, CancelHold, Unshelve, UnshelveCancelled, Missing}
use Rattle.terms.specs.declared.row.HoldState.{HoldState}
use Rattle.terms.specs.declared.row.HoldState.TheVariants.{Waiting, Ready, Filled, Cancelled, Expired}
use Rattle.model.specs.Calendar.{IsLeast}
use Rattle.model.specs.History.{History, today, is_open, branch_of, HoldFacts, hold_made, next_hold}
use Rattle.model.specs.Places.{Place, place, state, state_moved, state_made, state_unshelved, route, kept_for, is_kept_for, unshelved_to}
use Rattle.model.specs.Places.{goal_of, limit, limit_now, limit_after, fills_by, is_begun}
use Rattle.model.specs.Requests.{IsLegal}
use Rattle.model.specs.DueDays.{HasWholeWeeks, IsLimit, comes_to_shelf}
use Rattle.model.proofs.Least.{least-IsLeast}
use Rattle.model.proofs.Bindings.{left}
use Rattle.model.proofs.MadeHolds.{moves-nothing}
use Rattle.model.proofs.SettingLaws.{CalendarLaws, legal-CalendarLaws}
use Rattle.model.proofs.DueDayLaws.{limit_now-is}

-- The hold has a limit, set by this test or before.
abbrev HasLimit : History → ℕ → Bool → Option ℕ → Type 0
HasLimit H h came found = (d : ℕ) × (found ≡ Some d) × (elim came as (λ _. Type 0) [
  | true ↦ IsLeast (is_open H (goal_of H h)) (today H + unwrap_or (option_map (λ r. r.pickup) (branch_of H (goal_of H h))) 0) d
  | false ↦ IsLimit H h d
])

was-ready : (s : Option HoldState) (ends : HoldState) (b : Bool) → (Some ends ≡ Some Ready → ⊥) → left s ends b ≡ Some Ready → s ≡ Some Ready
was-ready s ends true other e = absurd (other e)
was-ready s ends false other e = e

module _ (H : History) (h : ℕ) (inv : CalendarLaws H) (before : state H h ≡ Some Ready → (d : ℕ) × (limit H h ≡ Some d) × IsLimit H h d) where
  -- A hold that is ready after a copy went to q.
  arrive-limit : (q : Place) → (elim (is_kept_for q h) as (λ _. Option HoldState) [ true ↦ Some Ready | false ↦ state H h ]) ≡ Some Ready
      → HasLimit H h (is_kept_for q h) (elim (is_kept_for q h) as (λ _. Option ℕ) [ true ↦ limit_now H h | false ↦ limit H h ])
  arrive-limit q = go (is_kept_for q h)
    where
      now : (d : ℕ) × (limit_now H h ≡ Some d)
      now = limit_now-is H h inv

      go : (b : Bool) → (elim b as (λ _. Option HoldState) [ true ↦ Some Ready | false ↦ state H h ]) ≡ Some Ready
          → HasLimit H h b (elim b as (λ _. Option ℕ) [ true ↦ limit_now H h | false ↦ limit H h ])
      go true ready = (
        now.0,
        now.1,
        least-IsLeast (is_open H (goal_of H h)) (today H + unwrap_or (option_map (λ r. r.pickup) (branch_of H (goal_of H h))) 0) now.0
            now.1,
      )
      go false ready = before ready

  unshelve-limit : (g : ℕ) (ends : HoldState) (found : Option ℕ) → (Some ends ≡ Some Ready → ⊥)
      → state_unshelved H (place H) (state H) (is_begun H) g ends found h ≡ Some Ready
      → HasLimit H h (is_kept_for (unshelved_to H g found) h)
      (elim (is_kept_for (unshelved_to H g found) h) as (λ _. Option ℕ) [ true ↦ limit_now H h | false ↦ limit H h ])
  unshelve-limit g ends None other ready = before (was-ready (state H h) ends (g == h) other ready)
  unshelve-limit g ends (Some c) other ready =
      arrive-limit (route H c (goal_of H g))
      (was-ready (elim (is_kept_for (route H c (goal_of H g)) h) as (λ _. Option HoldState) [ true ↦ Some Ready | false ↦ state H h ]) ends
      (g == h) other ready)

  moved-limit : (x : Command) → state_moved H (place H) (state H) (is_begun H) x h ≡ Some Ready
      → HasLimit H h (comes_to_shelf H x h) (limit_after H x h (limit H h))
  moved-limit (CheckOut p c b) ready =
      before (was-ready (state H h) Filled (fills_by H (place H) (state H) (is_begun H) p c h) (λ e. let never : ⊥ = cc in never) ready)
  moved-limit (CheckIn c b) ready = arrive-limit (route H c b) ready
  moved-limit (CancelHold g) ready = before (was-ready (state H h) Cancelled (g == h) (λ e. let never : ⊥ = cc in never) ready)
  moved-limit (Unshelve g) ready = unshelve-limit g Expired (kept_for H g) (λ e. let never : ⊥ = cc in never) ready
  moved-limit (UnshelveCancelled g) ready = unshelve-limit g Cancelled (kept_for H g) (λ e. let never : ⊥ = cc in never) ready
  moved-limit (Missing c) ready = before (was-ready (state H h) Waiting (is_kept_for (place H c) h) (λ e. let never : ⊥ = cc in never) ready)
  moved-limit _ ready = before ready

  limit-step : (x : Command) (made : Option HoldFacts) → hold_made x ≡ made
      → state_made H (place H) (state H) (is_begun H) made x h ≡ Some Ready
      → HasLimit H h (comes_to_shelf H x h) (limit_after H x h (limit H h))
  limit-step x (Some made) e ready =
      let still = moves-nothing H x made e in
      rw (still.comes h, still.limits h (limit H h)) (before (was-ready (state H h) Waiting (next_hold H == h) (λ same. let never : ⊥ = cc in never) ready))
  limit-step x None e ready = moved-limit x ready

-- Every ready hold has its shelf limit.
pub limit-is : (H : History) (h : ℕ) → IsLegal H → HasWholeWeeks H → state H h ≡ Some Ready → (d : ℕ) × (limit H h ≡ Some d) × IsLimit H h d
limit-is [] h legal whole ready = let never : ⊥ = cc in absurd never
limit-is (e ∷ H) h legal whole ready =
    limit-step H h (legal-CalendarLaws H legal.1 whole.1) (λ was. limit-is H h legal.1 whole.1 was) e.command
    (hold_made e.command) refl ready
