-- Place-hold meets the history.
use Rattle.terms.specs.declared.limits.TheConstants.{LAST_NUMBER}
use Rattle.std.proofs.Common.{◌≡◌, ℕ, ◌==◌, nat_lt, nat_le, Bool, true, false, cond, refl, ◌∙◌, ap}
use Rattle.std.specs.Prelude.{◌∷◌, Option, Some, None, is_none}
use Rattle.std.proofs.lemmas.Bool.{eqb-true}
use Rattle.terms.specs.declared.command.Owner.TheVariants.{Desk}
use Rattle.terms.specs.declared.command.Command.TheVariants.{PlaceHold}
use Rattle.terms.specs.declared.reply.Reply.TheVariants.{Held}
use Rattle.terms.specs.declared.row.HoldRow.{HoldRow}
use Rattle.terms.specs.declared.row.HoldState.{HoldState}
use Rattle.terms.specs.declared.row.HoldState.TheVariants.{Waiting}
use Rattle.terms.specs.Pictures.{put}
use Rattle.model.specs.History.{History, PatronFacts, patron_of, branch_of, title_of, holds, next_hold, hold_of}
use Rattle.model.specs.Places.{state, kept_for, limit}
use Rattle.model.specs.Refusals.{checks, kind_now, is_bad_first_day as model_is_bad_first_day}
use Rattle.model.specs.Invariant.{Invariant}
use Rattle.model.specs.Picture.{picture, meta_row, patron_columns, branch_columns, hold_row, hold_by}
use Rattle.circ_core.specs.Decides.{event}
use Rattle.circ_core.specs.declared.views.View.{View}
use Rattle.circ_core.specs.PlaceHold.{is_bad_first_day, place_hold_checks, new_hold, place_hold_rows}
use Rattle.circ_core.specs.Views.{IsPlaceHoldView}
use Rattle.circ_core.proofs.Meets.{Meets, SameChecks}
use Rattle.circ_core.proofs.Rows.{is_none-map, none-map, some-is}
use Rattle.circ_core.proofs.KindNow.{holds_same}
use Rattle.circ_core.proofs.CheckOutMeets.{lt-le}
use Rattle.circ_core.proofs.PatronCounts.{holds-some, active_holds-count, loan-of_title}

module _ (H : History) (inv : Invariant H) (p t b : ℕ) (first_day : Option ℕ) (v : View) (w : IsPlaceHoldView (picture H) p t b v) where
  first_day_same : (d : Option ℕ) → is_bad_first_day (meta_row H) d ≡ model_is_bad_first_day H d
  first_day_same None = refl
  first_day_same (Some d) = refl

  place_hold_same : SameChecks (place_hold_checks v first_day) (checks H Desk (PlaceHold p t b first_day))
  place_hold_same = (
    refl,
    (ap is_none w.patron ∙ none-map (patron_columns H p) (patron_of H p)),
    λ p11.
        let f : (f : PatronFacts) × (patron_of H p ≡ Some f) = some-is (patron_of H p) p11 in (
          refl,
          (ap is_none w.title ∙ is_none-map (λ x. record { title = t; text = x }) (title_of H t)),
          λ p12. (
            refl,
            (ap is_none w.branch ∙ none-map (branch_columns H b) (branch_of H b)),
            λ p10. (
              refl,
              ap (λ m. is_bad_first_day m first_day) w.meta ∙ first_day_same first_day,
              λ p23. (
                refl,
                holds-some H inv p t v.own_holds w.own_holds,
                λ p50. (
                  refl,
                  loan-of_title H inv p t v.loan w.loan,
                  λ p52. (
                    refl,
                    (ap (λ n. nat_le n v.active_holds) (holds_same H p f.0 f.1 v.patron w.patron v.kind w.kind)
                        ∙ ap (λ n. nat_le (kind_now H p).holds n) (active_holds-count H inv p v.active_holds w.active_holds)),
                    λ p51. (refl, (ap (λ m. nat_lt LAST_NUMBER m.next_hold) w.meta ∙ lt-le LAST_NUMBER (holds H)), λ p70. tt),
                  ),
                ),
              ),
            ),
          ),
        ),
  )

  -- A hold's row after it, by whether it is the new one.
  abbrev hold_at : ℕ → Bool → Option HoldRow
  hold_at n new =
      hold_by n (cond new (Some (record { patron = p; title = t; branch = b; first_day = first_day })) (hold_of H n))
      (elim new as (λ _. Option HoldState) [ true ↦ Some Waiting | false ↦ state H n ]) (kept_for H n) (limit H n)

  holds_lead : (n : ℕ) → put (hold_row H) (next_hold H) (Some (new_hold (next_hold H) p t b first_day)) n ≡ hold_at n (next_hold H == n)
  holds_lead n = go (next_hold H == n) refl
    where
      go : (x : Bool) → (next_hold H == n) ≡ x
          → (elim x as (λ _. Option HoldRow) [ true ↦ Some (new_hold (next_hold H) p t b first_day) | false ↦ hold_row H n ]) ≡ hold_at n x
      go true e = ap (λ k. Some (new_hold k p t b first_day)) (eqb-true _ _ e)
      go false e = refl

  pub place_hold_meets : Meets H (PlaceHold p t b first_day) (place_hold_checks v first_day) (Held v.meta.next_hold) (place_hold_rows v p t b first_day)
  place_hold_meets = record {
    same = place_hold_same;
    due = λ _. ap (λ m. Held m.next_hold) w.meta;
    leads = λ _ owner key.
        rw w.meta (λ i. record (picture (event owner key (PlaceHold p t b first_day) ∷ H)) {
          holds = λ h. holds_lead h i;
        });
  }
