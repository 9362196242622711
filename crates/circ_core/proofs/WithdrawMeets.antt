-- Withdraw meets the history.
use Rattle.std.proofs.Common.{◌≡◌, ℕ, refl, ◌∙◌, ap}
use Rattle.std.specs.Prelude.{◌∷◌, Some, option_map, is_none}
use Rattle.terms.specs.declared.command.Owner.TheVariants.{Desk}
use Rattle.terms.specs.declared.command.Command.TheVariants.{Withdraw}
use Rattle.terms.specs.declared.reply.Reply.TheVariants.{Done}
use Rattle.terms.specs.declared.refusal.Refusal.TheVariants as check
use Rattle.model.specs.History.{History, CopyFacts, copy_of}
use Rattle.model.specs.Places.{WithdrawnCopy, place}
use Rattle.model.specs.Refusals.{checks}
use Rattle.model.specs.Invariant.{Invariant}
use Rattle.model.specs.Picture.{picture, copy_columns}
use Rattle.model.proofs.Passing.{passed}
use Rattle.circ_core.specs.Decides.{event}
use Rattle.circ_core.specs.declared.views.View.{View}
use Rattle.circ_core.specs.Condition.{is_withdrawn as is_withdrawn_row}
use Rattle.circ_core.specs.Withdraw.{withdraw_checks, withdraw_rows}
use Rattle.circ_core.specs.Views.{IsCopyView}
use Rattle.circ_core.proofs.Meets.{Meets, SameChecks}
use Rattle.circ_core.proofs.Rows.{none-map, some-is}
use Rattle.circ_core.proofs.Claims.{loan_claims, transit_claims}
use Rattle.circ_core.proofs.CheckOutMeets.{withdrawn_at}
use Rattle.circ_core.proofs.Gone.{unkept, shelf_claims, copies_gone, transits_still, holds_stay}

module _ (H : History) (inv : Invariant H) (c : ℕ) (v : View) (w : IsCopyView (picture H) c v) where
  copy_is : (r : CopyFacts) → copy_of H c ≡ Some r → v.copy ≡ Some (copy_columns H c r)
  copy_is r there = w.copy ∙ ap (option_map (copy_columns H c)) there

  withdraw_same : SameChecks (withdraw_checks v) (checks H Desk (Withdraw c))
  withdraw_same = (
    refl,
    (ap is_none w.copy ∙ none-map (copy_columns H c) (copy_of H c)),
    λ p13.
        let r : (x : CopyFacts) × (copy_of H c ≡ Some x) = some-is (copy_of H c) p13 in (
          refl,
          (ap is_withdrawn_row (copy_is r.0 r.1) ∙ withdrawn_at H c r.0 (place H c)),
          λ p35. (
            refl,
            loan_claims H inv c v.loan w.loan,
            λ p31. (
              refl,
              transit_claims H inv c v.transit w.transit,
              λ p32. (refl, shelf_claims H inv c r.0 r.1 v.hold w.hold, λ p33. tt),
            ),
          ),
        ),
  )

  pub withdraw_meets : Meets H (Withdraw c) (withdraw_checks v) Done (withdraw_rows v)
  withdraw_meets = record {
    same = withdraw_same;
    due = λ _. refl;
    leads = λ ok owner key.
        let k = passed (checks H Desk (Withdraw c)) ok in
        let r : (x : CopyFacts) × (copy_of H c ≡ Some x) = some-is (copy_of H c) (k check.UnknownCopy) in
        rw (copy_is r.0 r.1) (λ i. record (picture (event owner key (Withdraw c) ∷ H)) {
          copies = λ n. copies_gone H c WithdrawnCopy refl refl r.0 r.1 n i;
          holds = λ n. (holds_stay H c WithdrawnCopy refl refl n (unkept (place H c) n (k check.OnHoldShelf))) i;
          transits = λ n. transits_still H c WithdrawnCopy refl refl (k check.InTransit) n i;
        });
  }
