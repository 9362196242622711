-- Charge and pay-at meet the history.
use Rattle.terms.specs.declared.limits.TheConstants.{LAST_NUMBER, LARGEST_SUM}
use Rattle.std.proofs.Common.{◌≡◌, ℕ, zero, suc, ◌+◌, ◌-◌, ◌≤◌, ◌==◌, false, not, ◌||◌, List, [], ◌∷◌, ◌++◌, refl, sym, ◌∙◌, ap}
use Rattle.std.proofs.Common.{arith}
use Rattle.std.specs.Prelude.{Some, None, option_map, is_none, nat_lt, min}
use Rattle.std.proofs.lemmas.Bool.{or_parts}
use Rattle.terms.specs.declared.row.Sort.TheVariants.{Payment, Charge as ChargeSort}
use Rattle.terms.specs.declared.command.Command.TheVariants.{Charge, PayAt}
use Rattle.terms.specs.declared.command.Owner.TheVariants.{Desk}
use Rattle.terms.specs.declared.reply.Reply.TheVariants.{Owed}
use Rattle.terms.specs.declared.refusal.Refusal.TheVariants as check
use Rattle.model.specs.History.{History, branch_of, PatronFacts, patron_of}
use Rattle.model.specs.Accounts.{Note, owed}
use Rattle.model.specs.Invariant.{Invariant}
use Rattle.model.specs.Refusals.{checks, has_patron}
use Rattle.model.specs.Picture.{picture, meta_row, patron_columns, branch_columns}
use Rattle.model.proofs.Passing.{passed}
use Rattle.model.proofs.Postings.{charging}
use Rattle.circ_core.specs.Decides.{event}
use Rattle.circ_core.specs.declared.views.View.{View}
use Rattle.circ_core.specs.Debt.{owed_by}
use Rattle.circ_core.specs.Counter.{pay_at_checks, pay_at_rows, charge_checks, charge_rows, charge_rows_on, owed_after, new_note}
use Rattle.circ_core.specs.declared.changes.RowChange.TheVariants.{PutNote}
use Rattle.circ_core.specs.PayAndWaive.{settled}
use Rattle.circ_core.specs.Views.{IsCounterView}
use Rattle.circ_core.proofs.Meets.{Meets, Leads, SameChecks}
use Rattle.circ_core.proofs.PayAndWaiveMeets.{owed_less, owed_more, meta_lead, patrons_lead, lines_lead, notes_lead}
use Rattle.circ_core.proofs.Rows.{none-map, some-is}

module _ (H : History) (p b : ℕ) (rows : View) (w : IsCounterView (picture H) p b rows) where
  patron_is : (r : PatronFacts) → patron_of H p ≡ Some r → rows.patron ≡ Some (patron_columns H p r)
  patron_is r there = w.patron ∙ ap (option_map (patron_columns H p)) there

  owed_same : not (has_patron H p) ≡ false → owed_by rows.patron ≡ owed H p
  owed_same ok = let r : (r : PatronFacts) × (patron_of H p ≡ Some r) = some-is (patron_of H p) ok in ap owed_by (patron_is r.0 r.1)

  -- ---- pay-at

  pay_at_same : (n : ℕ) → SameChecks (pay_at_checks rows n) (checks H Desk (PayAt p n b))
  pay_at_same n = (
    refl,
    (ap is_none w.patron ∙ none-map (patron_columns H p) (patron_of H p)),
    λ p11. (
      refl,
      (ap is_none w.branch ∙ none-map (branch_columns H b) (branch_of H b)),
      λ _. (
        refl,
        (ap (λ x. (n == 0) || nat_lt x n) (owed_same p11)),
        λ _. (refl, (ap (λ m. nat_lt LAST_NUMBER m.next_line) w.meta), λ _. tt),
      ),
    ),
  )

  abbrev counter : Note
  counter = record { branch = b; text = None }

  pay_at_lead : (r : PatronFacts) → patron_of H p ≡ Some r → (n : ℕ) → (n == 0) ≡ false
      → Leads H (PayAt p n b) (settled (meta_row H) (Some (patron_columns H p r)) p Payment n ++ PutNote (new_note (meta_row H) b None) ∷ [])
  pay_at_lead r there zero e owner key = let never : ⊥ = cc in absurd never
  pay_at_lead r there (suc m) e owner key = λ i. record (picture (event owner key (PayAt p (suc m) b) ∷ H)) {
    meta = (meta_lead H p m Payment (Some counter)) i;
    patrons = λ n. patrons_lead H p m Payment (Some counter) _ (owed_less H p m Payment (Some counter) refl refl) r there n i;
    lines = λ n. lines_lead H p m Payment (Some counter) n i;
    notes = λ n. notes_lead H p m Payment (Some counter) counter refl n i;
  }

  pub pay_at_meets : (n : ℕ) → Meets H (PayAt p n b) (pay_at_checks rows n) (Owed (owed_by rows.patron - n)) (pay_at_rows rows p n b)
  pay_at_meets n = record {
    same = pay_at_same n;
    due = λ ok. ap (λ x. Owed (x - n)) (owed_same (passed (checks H Desk (PayAt p n b)) ok check.UnknownPatron));
    leads = λ ok owner key.
        let k = passed (checks H Desk (PayAt p n b)) ok in
        let r : (r : PatronFacts) × (patron_of H p ≡ Some r) = some-is (patron_of H p) (k check.UnknownPatron) in
        rw (w.meta, patron_is r.0 r.1) (pay_at_lead r.0 r.1 n (or_parts _ _ (k check.BadAmount)).0 owner key);
  }

  -- ---- charge

  charge_same : (n : ℕ) (text : List ℕ) → SameChecks (charge_checks rows p n b text) (checks H Desk (Charge p n b text))
  charge_same n text = (
    refl,
    refl,
    λ _. (
      refl,
      (ap is_none w.patron ∙ none-map (patron_columns H p) (patron_of H p)),
      λ _. (
        refl,
        (ap is_none w.branch ∙ none-map (branch_columns H b) (branch_of H b)),
        λ _. (refl, refl, λ _. (refl, (ap (λ m. nat_lt LAST_NUMBER m.next_line) w.meta), λ _. tt)),
      ),
    ),
  )

  module _ (inv : Invariant H) (text : List ℕ) where
    abbrev told : Note
    told = record { branch = b; text = Some text }

    -- No debt comes near the most that a column holds.
    fits : (n : ℕ) → n ≤ 1000000 → min (owed H p + n) LARGEST_SUM ≡ owed H p + n
    fits n small = omega (arith, small, inv.debts p, inv.lines_left)

    charge_lead : (r : PatronFacts) → patron_of H p ≡ Some r → (n : ℕ) → n ≤ 1000000 → (n == 0) ≡ false
        → Leads H (Charge p n b text) (charge_rows_on (meta_row H) (Some (patron_columns H p r)) p n b text)
    charge_lead r there zero small e owner key = let never : ⊥ = cc in absurd never
    charge_lead r there (suc m) small e owner key = λ i. record (picture (event owner key (Charge p (suc m) b text) ∷ H)) {
      meta = (meta_lead H p m ChargeSort (Some told)) i;
      patrons = λ n. patrons_lead H p m ChargeSort (Some told) _
          (owed_more H p m ChargeSort (Some told) refl refl (inv.covered p) ∙ sym (fits (suc m) small)) r there n i;
      lines = λ n. lines_lead H p m ChargeSort (Some told) n i;
      notes = λ n. notes_lead H p m ChargeSort (Some told) told refl n i;
    }

    pub charge_meets : (n : ℕ) → Meets H (Charge p n b text) (charge_checks rows p n b text) (Owed (owed_after rows.patron n)) (charge_rows rows p n b text)
    charge_meets n = record {
      same = charge_same n text;
      due = λ ok.
          let c = charging H Desk (Charge p n b text) p n told ok refl in
          ap (λ x. Owed (min (x + n) LARGEST_SUM)) (owed_same c.patron) ∙ ap Owed (fits n c.amount);
      leads = λ ok owner key.
          let c = charging H Desk (Charge p n b text) p n told ok refl in
          let r : (r : PatronFacts) × (patron_of H p ≡ Some r) = some-is (patron_of H p) c.patron in
          rw (w.meta, patron_is r.0 r.1)
          (charge_lead r.0 r.1 n c.amount (passed (checks H Desk (Charge p n b text)) ok check.BadAmount) owner key);
    }
