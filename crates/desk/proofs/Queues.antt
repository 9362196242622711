-- Which waiting holds stand in line.
use Rattle.std.proofs.Common.{◌≡◌, ℕ, ◌==◌, true, false, sym, ◌∙◌, ap, subst}
use Rattle.std.specs.Prelude.{Some, None}
use Rattle.std.specs.List.{list_any}
use Rattle.std.proofs.lemmas.Bool.{false_from_ne_true}
use Rattle.circ_core.specs.Views.{InLine, IsTravelFor}
use Rattle.terms.specs.declared.row.HoldRow.{HoldRow}
use Rattle.terms.specs.declared.row.HoldState.TheVariants.{Waiting}
use Rattle.terms.specs.declared.row.TransitRow.{TransitRow}
use Rattle.model.specs.Asking.{queue_list}
use Rattle.model.specs.AskingLaws.{has_number}
use Rattle.model.specs.History.{History, today, has_begun}
use Rattle.model.specs.Invariant.{Invariant}
use Rattle.model.specs.Picture.{picture}
use Rattle.desk.proofs.ListNumbers.{queue-row, queue-to}

module _ (H : History) (inv : Invariant H) (t : ℕ) where
  -- one in the list stands in line, by its row
  stands-so : (r : HoldRow) → (picture H).holds r.hold ≡ Some r → has_number (queue_list H t).numbers r.hold → InLine (picture H) t r.hold r
  stands-so r there is =
      let row = queue-row H inv t r.hold is in
      let same : _ ≡ r = some-same (sym row.2.there ∙ there) in
      subst (InLine (picture H) t r.hold) same row.2
    where
      some-same : {x y : HoldRow} → Some x ≡ Some y → x ≡ y
      some-same e = cc

  pub not-begun : (day : ℕ) (r : HoldRow) → day ≡ today H → (picture H).holds r.hold ≡ Some r → has_begun day r.first_day ≡ false
      → list_any (λ m. m == r.hold) (queue_list H t).numbers ≡ false
  not-begun day r now there later = false_from_ne_true _ (λ is.
      let begun : has_begun (today H) r.first_day ≡ true = (stands-so r there is).begun in
      let same : has_begun day r.first_day ≡ has_begun (today H) r.first_day = ap (λ (d : ℕ). has_begun d r.first_day) now in
      let never : ⊥ = cc in never)

  pub coming : (r : HoldRow) (x : TransitRow) → (picture H).holds r.hold ≡ Some r → IsTravelFor (picture H) r.hold (Some x)
      → list_any (λ m. m == r.hold) (queue_list H t).numbers ≡ false
  coming r x there travels = false_from_ne_true _ (λ is. (stands-so r there is).alone x.copy x travels.0 travels.1)

  pub in-line : (day : ℕ) (r : HoldRow) → day ≡ today H → ((picture H).holds r.hold ≡ Some r) × ((r.title ≡ t) × (r.state ≡ Waiting))
      → has_begun day r.first_day ≡ true → IsTravelFor (picture H) r.hold None → has_number (queue_list H t).numbers r.hold
  in-line day r now is begun alone = queue-to H inv t r (record {
    there = is.0;
    on_title = is.1.0;
    waits = is.1.1;
    begun = sym (ap (λ (d : ℕ). has_begun d r.first_day) now) ∙ begun;
    alone = alone;
  })
