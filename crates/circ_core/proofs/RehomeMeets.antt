-- Rehome meets the history.
use Rattle.std.proofs.Common.{◌≡◌, ℕ, ◌==◌, Bool, true, false, ◌&&◌, not, ◌∷◌, refl, sym, ◌∙◌, ap, subst}
use Rattle.std.specs.Prelude.{Option, Some, None, option_map, unwrap_or, is_none, is_some}
use Rattle.std.proofs.lemmas.Bool.{eqb-true}
use Rattle.terms.specs.declared.command.Owner.{Owner}
use Rattle.terms.specs.declared.command.Owner.TheVariants.{Desk}
use Rattle.terms.specs.declared.command.Command.TheVariants.{Rehome}
use Rattle.terms.specs.declared.reply.Reply.TheVariants.{Done}
use Rattle.terms.specs.declared.row.TransitRow.{TransitRow}
use Rattle.terms.specs.Pictures.{put}
use Rattle.terms.specs.declared.refusal.Refusal.TheVariants as check
use Rattle.model.specs.History.{History, branch_of, CopyFacts, copy_of, with_home, hold_of}
use Rattle.model.specs.Places.{Place, Nowhere, Shelf, HoldShelf, Transit, Loan, MissingCopy, WithdrawnCopy, place, state, limit}
use Rattle.model.specs.Refusals.{checks, is_withdrawn, is_missing, is_on_loan, is_in_transit, is_on_hold_shelf}
use Rattle.model.specs.Invariant.{Invariant}
use Rattle.model.specs.Picture.{picture, branch_columns, copy_row, copy_columns, hold_row, transit_row, transit_at, condition_at, hold_by}
use Rattle.model.proofs.Corrections.{column-stays, kept-stays}
use Rattle.model.proofs.Passing.{passed}
use Rattle.model.proofs.Rehoming.{rehomed}
use Rattle.circ_core.specs.Decides.{event}
use Rattle.circ_core.specs.declared.views.View.{View}
use Rattle.circ_core.specs.Condition.{is_withdrawn as is_withdrawn_row, is_missing as is_missing_row}
use Rattle.circ_core.specs.Rehome.{is_on_shelf, has_other_home, rehomed_rows, rehome_checks, rehome_rows}
use Rattle.circ_core.specs.Views.{IsRehomeView}
use Rattle.circ_core.proofs.Meets.{Meets, SameChecks, Leads}
use Rattle.circ_core.proofs.Rows.{none-map, some-is, put_amended}
use Rattle.circ_core.proofs.Claims.{loan_claims, transit_claims}
use Rattle.circ_core.proofs.CheckOutMeets.{withdrawn_at, lost_at}
use Rattle.circ_core.proofs.Gone.{shelf_claims}

not-some : {A : Type 0} (o : Option A) → is_none o ≡ not (is_some o)
not-some (Some x) = refl
not-some None = refl

-- A copy in this place, not withdrawn, is on a shelf.
abbrev stands : Place → Bool
stands p = not (is_missing p) && (not (is_on_loan p) && (not (is_in_transit p) && not (is_on_hold_shelf p)))

module _ (H : History) (inv : Invariant H) (c b : ℕ) (v : View) (w : IsRehomeView (picture H) c b v) where
  copy_is : (r : CopyFacts) → copy_of H c ≡ Some r → v.copy ≡ Some (copy_columns H c r)
  copy_is r there = w.at.copy ∙ ap (option_map (copy_columns H c)) there

  rehome_same : SameChecks (rehome_checks v) (checks H Desk (Rehome c b))
  rehome_same = (
    refl,
    (ap is_none w.home ∙ none-map (branch_columns H b) (branch_of H b)),
    λ p10. (
      refl,
      (ap is_none w.at.copy ∙ none-map (copy_columns H c) (copy_of H c)),
      λ p13.
          let r : (x : CopyFacts) × (copy_of H c ≡ Some x) = some-is (copy_of H c) p13 in (
            refl,
            (ap is_withdrawn_row (copy_is r.0 r.1) ∙ withdrawn_at H c r.0 (place H c)),
            λ p35. tt,
          ),
    ),
  )

  module _ (r : CopyFacts) (there : copy_of H c ≡ Some r) (kept : is_withdrawn (place H c) ≡ false) where
    -- The rows tell whether the copy is on a shelf.
    shelved : is_on_shelf v ≡ stands (place H c)
    shelved =
        let missing : is_missing_row v.copy ≡ is_missing (place H c) = ap is_missing_row (copy_is r there) ∙ lost_at H c r (place H c) in
        let lent : is_none v.loan ≡ not (is_on_loan (place H c)) = not-some v.loan ∙ ap not (loan_claims H inv c v.loan w.at.loan) in
        let travels : is_none v.transit ≡ not (is_in_transit (place H c)) = not-some v.transit ∙ ap not (transit_claims H inv c v.transit w.at.transit) in
        let held : is_none v.hold ≡ not (is_on_hold_shelf (place H c)) = not-some v.hold ∙ ap not (shelf_claims H inv c r there v.hold w.at.hold) in
        rw (missing, lent, travels, held) refl

    other_home : has_other_home v.copy b ≡ not (r.home == b)
    other_home = ap (λ o. has_other_home o b) (copy_is r there)

    abbrev travel : TransitRow
    travel = record { copy = c; goal = b; hold = None }

    -- Where the copy is sent it is in transit, and else it stays where it was.
    goes : (p : Place) → place H c ≡ p
        → elim (stands p && not (r.home == b)) as (λ _. Option TransitRow) [ true ↦ Some travel | false ↦ transit_at c p ] ≡ transit_at c (rehomed H b p)
    goes (Shelf g) at = go (g == b) refl
      where
        home : r.home ≡ g
        home = sym (ap (λ o. unwrap_or (option_map (λ x. x.home) o) 0) there) ∙ inv.at_home c g at

        go : (x : Bool) → (g == b) ≡ x
            → elim (not (r.home == b)) as (λ _. Option TransitRow) [ true ↦ Some travel | false ↦ None ]
            ≡ transit_at c (elim x as (λ _. Place) [ true ↦ Shelf g | false ↦ Transit b None ])
        go true d = ap (λ y. elim (not y) as (λ _. Option TransitRow) [ true ↦ Some travel | false ↦ None ]) (ap (λ m. m == b) home ∙ d)
        go false d = ap (λ y. elim (not y) as (λ _. Option TransitRow) [ true ↦ Some travel | false ↦ None ]) (ap (λ m. m == b) home ∙ d)
    goes Nowhere at = let known = inv.acquired c r there in absurd (known.0 at)
    goes WithdrawnCopy at = let no : is_withdrawn (place H c) ≡ true = ap is_withdrawn at in let never : ⊥ = cc in absurd never
    goes (HoldShelf h) at = refl
    goes (Transit g h) at = refl
    goes (Loan l) at = refl
    goes MissingCopy at = refl

    transits_at : (sent : Bool) → elim sent as (λ _. Option TransitRow) [ true ↦ Some travel | false ↦ transit_row H c ] ≡ transit_at c (rehomed H b (place H c))
        → (n : ℕ) → elim sent as (λ _. Option TransitRow) [ true ↦ put (transit_row H) c (Some travel) n | false ↦ transit_row H n ]
        ≡ transit_at n (elim (c == n) as (λ _. Place) [ true ↦ rehomed H b (place H c) | false ↦ place H n ])
    transits_at true here n = go (c == n) refl
      where
        go : (x : Bool) → (c == n) ≡ x → elim x as (λ _. Option TransitRow) [ true ↦ Some travel | false ↦ transit_row H n ]
            ≡ transit_at n (elim x as (λ _. Place) [ true ↦ rehomed H b (place H c) | false ↦ place H n ])
        go true d = subst (λ m. Some travel ≡ transit_at m (rehomed H b (place H c))) (eqb-true c n d) here
        go false d = refl
    transits_at false here n = go (c == n) refl
      where
        go : (x : Bool) → (c == n) ≡ x → transit_row H n ≡ transit_at n (elim x as (λ _. Place) [ true ↦ rehomed H b (place H c) | false ↦ place H n ])
        go true d = subst (λ m. transit_row H m ≡ transit_at m (rehomed H b (place H c))) (eqb-true c n d) here
        go false d = refl

    module _ (owner : Owner) (key : _) where
      copies_at : (n : ℕ) → put (copy_row H) c (Some (record (copy_columns H c r) { home = b })) n ≡ copy_row (event owner key (Rehome c b) ∷ H) n
      copies_at n =
          put_amended (copy_columns H) (copy_of H) c (with_home b) r n there
          ∙ ap (λ k. option_map (λ x. record (copy_columns H n x) { condition = k }) (copy_of (event owner key (Rehome c b) ∷ H) n))
          (sym (column-stays H owner key c b condition_at (λ g. refl) n))

      holds_at : (n : ℕ) → hold_row H n ≡ hold_row (event owner key (Rehome c b) ∷ H) n
      holds_at n = ap (λ k. hold_by n (hold_of H n) (state H n) k (limit H n)) (sym (kept-stays H owner key c b n))

    rehome_leads : (sent : Bool) → elim sent as (λ _. Option TransitRow) [ true ↦ Some travel | false ↦ transit_row H c ] ≡ transit_at c (rehomed H b (place H c))
        → Leads H (Rehome c b) (rehomed_rows (Some (copy_columns H c r)) sent b)
    rehome_leads true here owner key = λ i. record (picture (event owner key (Rehome c b) ∷ H)) {
      copies = λ n. copies_at owner key n i;
      holds = λ n. holds_at owner key n i;
      transits = λ n. transits_at true here n i;
    }
    rehome_leads false here owner key = λ i. record (picture (event owner key (Rehome c b) ∷ H)) {
      copies = λ n. copies_at owner key n i;
      holds = λ n. holds_at owner key n i;
      transits = λ n. transits_at false here n i;
    }

    sent_is : (is_on_shelf v && has_other_home v.copy b) ≡ (stands (place H c) && not (r.home == b))
    sent_is = ap (λ x. x && has_other_home v.copy b) shelved ∙ ap (λ y. stands (place H c) && y) other_home

    rehome_leads_on : Leads H (Rehome c b) (rehome_rows v b)
    rehome_leads_on owner key =
        rw (sent_is, copy_is r there) (rehome_leads (stands (place H c) && not (r.home == b)) (goes (place H c) refl) owner key)

  pub rehome_meets : Meets H (Rehome c b) (rehome_checks v) Done (rehome_rows v b)
  rehome_meets = record {
    same = rehome_same;
    due = λ _. refl;
    leads = λ ok owner key.
        let k = passed (checks H Desk (Rehome c b)) ok in
        let r : (x : CopyFacts) × (copy_of H c ≡ Some x) = some-is (copy_of H c) (k check.UnknownCopy) in
        rehome_leads_on r.0 r.1 (k check.CopyWithdrawn) owner key;
  }
