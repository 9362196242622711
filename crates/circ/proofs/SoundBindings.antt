-- A legal history's tables bind holds and copies one to one.
use Rattle.std.proofs.Common.{◌≡◌, ℕ, ◌==◌, true, refl, sym, ◌∙◌, ap, subst, eq-eqb}
use Rattle.std.specs.Prelude.{Option, Some, None, is_some, option_map, option_and_then, unwrap_or}
use Rattle.std.specs.List.{Contains}
use Rattle.store.specs.Lists.{AreAuditTables}
use Rattle.terms.specs.declared.row.HoldRow.{HoldRow}
use Rattle.terms.specs.declared.row.HoldState.{HoldState}
use Rattle.terms.specs.declared.row.HoldState.TheVariants.{Waiting, Ready, Filled, Cancelled, Expired}
use Rattle.terms.specs.declared.row.TransitRow.{TransitRow}
use Rattle.terms.specs.declared.row.CopyRow.{CopyRow}
use Rattle.terms.specs.declared.tables.Tables.{Tables}
use Rattle.model.specs.History.{History, HoldFacts, hold_of, CopyFacts, copy_of}
use Rattle.model.specs.Forms.{HasForms}
use Rattle.model.specs.Invariant.{Invariant, Serves}
use Rattle.model.specs.Laws.{IsBinding}
use Rattle.model.specs.Places.{Place, Nowhere, HoldShelf, Transit, place, state, limit, kept_for, goal_of, title_of_hold, title_of_copy}
use Rattle.model.specs.Picture.{picture, copy_columns, hold_columns, if_ready}
use Rattle.model.specs.Requests.{IsLegal}
use Rattle.model.proofs.ClaimsLaw.{place-shelf, transit-place, hold-facts}
use Rattle.model.proofs.Invariants.{legal-Invariant}
use Rattle.model.proofs.Legal.{bindings}
use Rattle.model.proofs.LimitLaws.{limit-is}
use Rattle.model.proofs.PlaceSteps.{copy-known}
use Rattle.model.proofs.Runs.{forms-whole}
use Rattle.model.proofs.SettingRanges.{some-same}
use Rattle.circ_audit.specs.Rows.{names, copy_row, hold_row, is_titled, is_copy_of, is_fit, serves}
use Rattle.circ_audit.specs.Sound.{IsServedOnce, IsRightlyBound}
use Rattle.circ_audit.proofs.Lookups.{row-found}
use Rattle.circ.proofs.CountedRows.{all-there, counted-once}
use Rattle.circ.proofs.SoundClaims.{is-named}

module _ (H : History) (rows : Tables) (legal : IsLegal H) (forms : HasForms H) (are : AreAuditTables (picture H) rows) where
  inv : Invariant H
  inv = legal-Invariant H legal

  binding : (h : ℕ) → IsBinding H h
  binding h = bindings H h legal

  -- ---- the row of a copy and of a hold

  -- A copy that is somewhere has its row.
  copy-there : (c : ℕ) → (place H c ≡ Nowhere → ⊥) → (f : CopyFacts) × (copy_of H c ≡ Some f) × (copy_row rows.copies c ≡ Some (copy_columns H c f))
  copy-there c somewhere =
      let f = copy-known H inv c somewhere in
      let row = copy_columns H c f.0 in
      let there : Contains rows.copies row = are.copies.whole c row (ap (option_map (copy_columns H c)) f.1) tt in
      (f.0, f.1, row-found (λ (r : CopyRow). r.copy) rows.copies are.copies.rise c there.0 row there.1 there.2 refl)

  -- A copy that serves a hold is of its title.
  of-title : (c h : ℕ) → Serves (place H c) h → (place H c ≡ Nowhere → ⊥) → is_copy_of rows.copies (Some c) (title_of_hold H h) ≡ true
  of-title c h served somewhere =
      let f = copy-there c somewhere in
      let title : title_of_copy H c ≡ f.0.title = ap (λ (o : Option CopyFacts). unwrap_or (option_map (λ r. r.title) o) 0) f.1 in
      let same : f.0.title ≡ title_of_hold H h = sym (inv.of_title c h served ∙ title) in
      ap (λ (o : Option CopyRow). is_titled o (title_of_hold H h)) f.2 ∙ eq-eqb f.0.title (title_of_hold H h) same

  -- ---- a hold's row fits its state

  -- What a row of a ready hold names.
  ready-fit : (r : HoldRow) → (picture H).holds r.hold ≡ Some r → state H r.hold ≡ Some Ready → r.title ≡ title_of_hold H r.hold
      → (is_copy_of rows.copies r.copy r.title ≡ true)
  ready-fit r row ready title =
      let on = (binding r.hold).ready.0 ready in
      let claim = place-shelf H legal on.0 r.hold on.1 in
      let same : claim.0 ≡ r = some-same claim.0 r (sym claim.1 ∙ row) in
      let copy : r.copy ≡ Some on.0 = ap (λ (q : HoldRow). q.copy) (sym same) ∙ claim.2 in
      let served : Serves (place H on.0) r.hold = subst (λ (p : Place). Serves p r.hold) (sym on.1) refl in
      let somewhere = λ (e : place H on.0 ≡ Nowhere). (let p : HoldShelf r.hold ≡ Nowhere = sym on.1 ∙ e in let never : ⊥ = cc in never) in
      ap (λ (o : Option ℕ). is_copy_of rows.copies o r.title) copy ∙ ap (is_copy_of rows.copies (Some on.0)) title ∙ of-title on.0 r.hold served somewhere

  fits : (r : HoldRow) → (picture H).holds r.hold ≡ Some r → is_fit rows.copies r ≡ true
  fits r row = go facts.0 facts.2 (ap (λ (q : HoldRow). q.state) (sym facts.4)) (ap (λ (q : HoldRow). q.copy) (sym facts.4))
      (ap (λ (q : HoldRow). q.limit_day) (sym facts.4))
    where
      facts : (s : HoldState) × (f : HoldFacts) × (state H r.hold ≡ Some s) × (hold_of H r.hold ≡ Some f) × (hold_columns H r.hold s f ≡ r)
      facts = hold-facts H r.hold r row

      title : r.title ≡ title_of_hold H r.hold
      title = ap (λ (q : HoldRow). q.title) (sym facts.4) ∙ sym (ap (λ (o : Option HoldFacts). unwrap_or (option_map (λ q. q.title) o) 0) facts.3)

      -- where the hold isn't ready, the row names nothing
      empty : (s : HoldState) → r.state ≡ s → r.copy ≡ None → r.limit_day ≡ None → (s ≡ Ready → ⊥) → is_fit rows.copies r ≡ true
      empty Ready at copy day other = absurd (other refl)
      empty Waiting at copy day other = rw (at, copy, day) refl
      empty Filled at copy day other = rw (at, copy, day) refl
      empty Cancelled at copy day other = rw (at, copy, day) refl
      empty Expired at copy day other = rw (at, copy, day) refl

      go : (s : HoldState) → state H r.hold ≡ Some s → r.state ≡ s → r.copy ≡ if_ready (Some s) (kept_for H r.hold)
          → r.limit_day ≡ if_ready (Some s) (limit H r.hold) → is_fit rows.copies r ≡ true
      go Ready is at copy day =
          let l = limit-is H r.hold legal (forms-whole H forms) is in
          let limited : is_some r.limit_day ≡ true = ap is_some (day ∙ l.1) in
          let bound : is_copy_of rows.copies r.copy r.title ≡ true = ready-fit r row is title in
          rw (at, limited, bound) refl
      go Waiting is at copy day = empty Waiting at copy day (λ e. let never : ⊥ = cc in never)
      go Filled is at copy day = empty Filled at copy day (λ e. let never : ⊥ = cc in never)
      go Cancelled is at copy day = empty Cancelled at copy day (λ e. let never : ⊥ = cc in never)
      go Expired is at copy day = empty Expired at copy day (λ e. let never : ⊥ = cc in never)

  -- ---- transits

  on-way : (r : TransitRow) → Contains rows.transits r → place H r.copy ≡ Transit r.goal r.hold
  on-way r there = (transit-place r.copy r (place H r.copy) (are.transits.sound r there).0).0

  served : (h : ℕ) (r : TransitRow) → Contains rows.transits r → r.hold ≡ Some h → serves rows.copies r (hold_row rows.holds h) ≡ true
  served h r there named =
      rw found (rw (goal, title) refl)
    where
      way : place H r.copy ≡ Transit r.goal (Some h)
      way = on-way r there ∙ ap (Transit r.goal) named

      travels : (goal_of H h ≡ r.goal) × (state H h ≡ Some Waiting)
      travels = (binding h).travels r.copy r.goal way

      facts : (f : HoldFacts) × (hold_of H h ≡ Some f)
      facts = inv.placed h Waiting travels.1

      row : HoldRow
      row = hold_columns H h Waiting facts.0

      drawn : (picture H).holds h ≡ Some row
      drawn = ap (λ (o : Option HoldState). option_and_then (λ s. option_map (hold_columns H h s) (hold_of H h)) o) travels.1
          ∙ ap (option_map (hold_columns H h Waiting)) facts.1

      there' : Contains rows.holds row
      there' = are.holds.whole h row drawn tt

      found : hold_row rows.holds h ≡ Some row
      found = row-found (λ (q : HoldRow). q.hold) rows.holds are.holds.rise h there'.0 row there'.1 there'.2 refl

      goal : (facts.0.branch == r.goal) ≡ true
      goal = eq-eqb facts.0.branch r.goal (sym (ap (λ (o : Option HoldFacts). unwrap_or (option_map (λ q. q.branch) o) 0) facts.1) ∙ travels.0)

      title : is_copy_of rows.copies (Some r.copy) facts.0.title ≡ true
      title =
          subst (λ (n : ℕ). is_copy_of rows.copies (Some r.copy) n ≡ true) (ap (λ (o : Option HoldFacts). unwrap_or (option_map (λ q. q.title) o) 0) facts.1)
          (of-title r.copy h (subst (λ (p : Place). Serves p h) (sym way) refl)
          (λ e. let p : Transit r.goal (Some h) ≡ Nowhere = sym way ∙ e in let never : ⊥ = cc in never))

  once : (h : ℕ) → IsServedOnce rows h
  once h =
      counted-once (λ r. names r.hold h) (λ r. r.copy) rows.transits are.transits.rise
      (λ r s in_r in_s e f.
      (binding h).one_travels r.copy s.copy r.goal s.goal (on-way r in_r ∙ ap (Transit r.goal) (is-named r.hold h e))
      (on-way s in_s ∙ ap (Transit s.goal) (is-named s.hold h f)))

  pub rightly-bound : (h : ℕ) → IsRightlyBound rows h
  rightly-bound h = record {
    fit = all-there (λ r. r.hold ≡ h → is_fit rows.copies r ≡ true) rows.holds (λ r there same. fits r (are.holds.sound r there).0);
    served = all-there (λ r. r.hold ≡ Some h → serves rows.copies r (hold_row rows.holds h) ≡ true) rows.transits (λ r there named. served h r there named);
    once = once h;
  }
