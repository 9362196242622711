-- A legal history's tables name existing rows alone, and number loans, holds and lines without a gap.
use Rattle.std.proofs.Common.{◌≡◌, ◌≢◌, ◌⊎◌, ℕ, zero, suc, ◌+◌, ◌<◌, ◌≤◌, Bool, true, false, cond, eqb, List, [], ◌∷◌, length, take, get_or, refl, sym, ◌∙◌, ap, subst, inl, inr, arith}
use Rattle.std.specs.Prelude.{Option, Some, None, is_some, option_map, option_and_then, nat_lt, bytes_eq}
use Rattle.std.specs.List.{Contains, Any}
use Rattle.std.proofs.lemmas.Bool.{cases_lt, lt-ltb, le-ltb}
use Rattle.std.proofs.lemmas.List.{length-take-le, get_or-take, get_or_default}
use Rattle.std.proofs.lemmas.List.Elements.{Contains-get_or}
use Rattle.std.proofs.lemmas.List.Folds.{Any-from_list_any}
use Rattle.std.proofs.lemmas.Slice.Eq.{bytes_eq-Decides}
use Rattle.store.specs.Lists.{AreRows, AllPass, AreAuditTables}
use Rattle.store.proofs.OneList.{pair_never}
use Rattle.terms.specs.Orders.{IsPairBefore}
use Rattle.terms.proofs.OrderLemmas.{ordered-at}
use Rattle.terms.specs.Limits.{InLimits}
use Rattle.terms.specs.Callers.{owner_number}
use Rattle.terms.specs.Things.{thing_sort, thing_number}
use Rattle.terms.specs.declared.command.Owner.{Owner}
use Rattle.terms.specs.declared.command.Owner.TheVariants.{Desk, Patron as Reader}
use Rattle.terms.specs.declared.row.BarcodeRow.{BarcodeRow}
use Rattle.terms.specs.declared.row.ClosedDayRow.{ClosedDayRow}
use Rattle.terms.specs.declared.row.HoldRow.{HoldRow}
use Rattle.terms.specs.declared.row.HoldState.{HoldState}
use Rattle.terms.specs.declared.row.LineRow.{LineRow}
use Rattle.terms.specs.declared.row.LoanRow.{LoanRow}
use Rattle.terms.specs.declared.row.Thing.{Thing}
use Rattle.terms.specs.declared.row.Thing.TheVariants as thing
use Rattle.terms.specs.declared.tables.Tables.{Tables}
use Rattle.model.specs.Accounts.{Line, lines, nth_line}
use Rattle.model.specs.Forms.{HasForms}
use Rattle.model.specs.History.{History, HoldFacts, hold_of, loans, holds}
use Rattle.model.specs.Invariant.{Invariant}
use Rattle.model.specs.Loans.{LoanFacts, loan_of}
use Rattle.model.specs.Picture.{picture, loan_columns, hold_columns, line_columns}
use Rattle.model.specs.References.{HasReferences, HasThing}
use Rattle.model.specs.Requests.{IsLegal}
use Rattle.model.proofs.ClaimsLaw.{map-some, hold-facts}
use Rattle.model.proofs.Invariants.{legal-Invariant}
use Rattle.model.proofs.Labels.{labels}
use Rattle.model.proofs.References.{legal-references}
use Rattle.model.proofs.RowRanges.{legal-rows}
use Rattle.circ_audit.specs.declared.numbers.Series.{Series}
use Rattle.circ_audit.specs.declared.numbers.Series.TheVariants as series
use Rattle.circ_audit.specs.declared.references.Table.{Table}
use Rattle.circ_audit.specs.declared.references.Table.TheVariants as table
use Rattle.circ_audit.specs.Barcodes.{has_barcode, AreDistinct}
use Rattle.circ_audit.specs.Numbers.{is_given, IsGiven, IsNumbered}
use Rattle.circ_audit.specs.References.{has, has_named, has_branch, has_kind, has_patron, has_title, has_copy, has_thing, has_caller, IsReferred}
use Rattle.circ_audit.specs.References.{closed_day_refers, rule_refers, patron_refers, copy_refers, loan_refers, hold_refers, transit_refers, line_refers}
use Rattle.circ_audit.specs.References.{kept_refers, barcode_refers, note_refers}
use Rattle.circ_audit.proofs.Lookups.{row-found, find-none, not-eqb}
use Rattle.circ.proofs.CountedRows.{all-there}

-- ---- what a list of rows has

module _ {R : Type 0} (number_of : R → ℕ) (t : ℕ → Option R) (rows : List R) (are : AreRows t number_of AllPass rows)
    (numbered : (n : ℕ) (r : R) → t n ≡ Some r → number_of r ≡ n) where
  -- A row of the table is among its rows.
  has-row : (n : ℕ) → is_some (t n) ≡ true → has number_of rows n ≡ true
  has-row n there = go (t n) refl there
    where
      go : (o : Option R) → t n ≡ o → is_some o ≡ true → has number_of rows n ≡ true
      go None e none = let never : ⊥ = cc in absurd never
      go (Some r) e some =
          let at : Contains rows r = are.whole n r e tt in
          ap is_some (row-found number_of rows are.rise n at.0 r at.1 at.2 (numbered n r e))

  -- No other number is.
  has-none : (n : ℕ) → t n ≡ None → has number_of rows n ≡ false
  has-none n none = ap is_some (find-none (λ r. eqb (number_of r) n) rows apart)
    where
      apart : (k : ℕ) (d : R) → k < length rows → eqb (number_of (get_or rows k d)) n ≡ false
      apart k d within = not-eqb (number_of (get_or rows k d)) n differs
        where
          differs : number_of (get_or rows k d) ≢ n
          differs same =
              let some : t (number_of (get_or rows k d)) ≡ Some (get_or rows k d) = (are.sound (get_or rows k d) (Contains-get_or rows k d within)).0 in
              let here : t n ≡ Some (get_or rows k d) = subst (λ (m : ℕ). t m ≡ Some (get_or rows k d)) same some in
              let never : ⊥ = cc in never

  -- The same of a number that may be named.
  has-if : (o : Option ℕ) → ((n : ℕ) → o ≡ Some n → is_some (t n) ≡ true) → has_named number_of rows o ≡ true
  has-if None there = refl
  has-if (Some n) there = has-row n (there n refl)

  -- Each number up to the last is, and no other.
  given : (last : ℕ) → ((n : ℕ) → 1 ≤ n → n ≤ last → is_some (t n) ≡ true) → ((n : ℕ) (r : R) → t n ≡ Some r → (1 ≤ n) × (n ≤ last)) → (n : ℕ)
      → IsGiven number_of (last + 1) rows n
  given last all made n = go n (cases_lt last n)
    where
      none : (n : ℕ) → ((1 ≤ n) × (n ≤ last) → ⊥) → t n ≡ None
      none n out = at (t n) refl
        where
          at : (o : Option R) → t n ≡ o → t n ≡ None
          at None e = e
          at (Some r) e = absurd (out (made n r e))

      given-is : (n : ℕ) → is_given (last + 1) (suc n) ≡ nat_lt (suc n) (last + 1)
      given-is n = rw (lt-ltb 0 (suc n) (omega arith)) refl

      go : (n : ℕ) → (last < n) ⊎ (n ≤ last) → IsGiven number_of (last + 1) rows n
      go zero _ = has-none zero (none zero (λ in-range. let from = in-range.0 in omega (arith, from)))
      go (suc n) (inl past) =
          has-none (suc n) (none (suc n) (λ in-range. let to = in-range.1 in omega (arith, to, past)))
          ∙ sym (given-is n ∙ le-ltb (suc n) (last + 1) (omega (arith, past)))
      go (suc n) (inr low) = has-row (suc n) (all (suc n) (omega arith) low) ∙ sym (given-is n ∙ lt-ltb (suc n) (last + 1) (omega (arith, low)))

-- ---- lines by their numbers

nth-there : (xs : List Line) (n : ℕ) → 1 ≤ n → n ≤ length xs → (x : Line) × (nth_line xs n ≡ Some x)
nth-there [] n from to = absurd (omega (arith, from, to))
nth-there (x ∷ xs) zero from to = absurd (omega (arith, from))
nth-there (x ∷ xs) (suc zero) from to = (x, refl)
nth-there (x ∷ xs) (suc (suc n)) from to = nth-there xs (suc n) (omega arith) (omega (arith, to))

nth-within : (xs : List Line) (n : ℕ) (x : Line) → nth_line xs n ≡ Some x → (1 ≤ n) × (n ≤ length xs)
nth-within [] n x e = let never : ⊥ = cc in absurd never
nth-within (y ∷ xs) zero x e = let never : ⊥ = cc in absurd never
nth-within (y ∷ xs) (suc zero) x e = (omega arith, omega arith)
nth-within (y ∷ xs) (suc (suc n)) x e = let it = (nth-within xs (suc n) x e).1 in (omega arith, omega (arith, it))

-- ---- the tables of a legal history

module _ (H : History) (rows : Tables) (legal : IsLegal H) (forms : HasForms H) (are : AreAuditTables (picture H) rows) where
  limits : InLimits (picture H)
  limits = legal-rows H legal forms

  refs : HasReferences (picture H)
  refs = legal-references H legal

  branch-there : (b : ℕ) → is_some ((picture H).branches b) ≡ true → has_branch rows b ≡ true
  branch-there = has-row (λ r. r.branch) (picture H).branches rows.branches are.branches (λ n r e. (limits.branches n r e).0)

  kind-there : (k : ℕ) → is_some ((picture H).kinds k) ≡ true → has_kind rows k ≡ true
  kind-there = has-row (λ r. r.kind) (picture H).kinds rows.kinds are.kinds (λ n r e. (limits.kinds n r e).0)

  patron-there : (p : ℕ) → is_some ((picture H).patrons p) ≡ true → has_patron rows p ≡ true
  patron-there = has-row (λ r. r.patron) (picture H).patrons rows.patrons are.patrons (λ n r e. (limits.patrons n r e).0)

  title-there : (t : ℕ) → is_some ((picture H).titles t) ≡ true → has_title rows t ≡ true
  title-there = has-row (λ r. r.title) (picture H).titles rows.titles are.titles (λ n r e. (limits.titles n r e).0)

  copy-there : (c : ℕ) → is_some ((picture H).copies c) ≡ true → has_copy rows c ≡ true
  copy-there = has-row (λ r. r.copy) (picture H).copies rows.copies are.copies (λ n r e. (limits.copies n r e).0)

  thing-there : (t : Thing) → HasThing (picture H) t → has_thing rows t ≡ true
  thing-there (thing.Patron p) there = patron-there p there
  thing-there (thing.Copy c) there = copy-there c there

  caller-there : (o : Owner) → ((p : ℕ) → o ≡ Reader p → is_some ((picture H).patrons p) ≡ true) → has_caller rows o ≡ true
  caller-there Desk there = refl
  caller-there (Reader p) there = patron-there p (there p refl)

  pub referred : (s : Table) (n : ℕ) → IsReferred rows s n
  referred table.ClosedDays n = all-there (λ r. r.day ≡ n → closed_day_refers rows r ≡ true) rows.closed_days (λ r there same.
      branch-there r.branch (refs.closed_day_branch r.branch r.day (closed r (are.closed_days.sound r there))))
    where
      closed : (r : ClosedDayRow) → cond ((picture H).closed_days r.branch r.day) (Some (record { branch = r.branch; day = r.day })) None ≡ Some r
          → (picture H).closed_days r.branch r.day ≡ true
      closed r e = go ((picture H).closed_days r.branch r.day) refl e
        where
          go : (b : Bool) → (picture H).closed_days r.branch r.day ≡ b → cond b (Some (record { branch = r.branch; day = r.day })) None ≡ Some r → (picture H).closed_days r.branch r.day ≡ true
          go true is some = is
          go false is none = let never : ⊥ = cc in absurd never
  referred table.Rules n = all-there (λ r. r.copy_kind ≡ n → rule_refers rows r ≡ true) rows.rules (λ r there same.
      kind-there r.kind (refs.rule_kind r.kind r.copy_kind r (are.rules.sound r there)))
  referred table.Patrons n = all-there (λ r. r.patron ≡ n → patron_refers rows r ≡ true) rows.patrons (λ r there same.
      kind-there r.kind (refs.patron_kind r.patron r (are.patrons.sound r there).0))
  referred table.Copies n = all-there (λ r. r.copy ≡ n → copy_refers rows r ≡ true) rows.copies (λ r there same.
      let row = (are.copies.sound r there).0 in
      rw (title-there r.title (refs.copy_title r.copy r row)) (branch-there r.home (refs.copy_home r.copy r row)))
  referred table.Loans n = all-there (λ r. r.loan ≡ n → loan_refers rows r ≡ true) rows.loans (λ r there same.
      let row = (are.loans.sound r there).0 in
      rw (copy-there r.copy (refs.loan_copy r.loan r row)) (rw (patron-there r.patron (refs.loan_patron r.loan r row))
      (branch-there r.branch (refs.loan_branch r.loan r row))))
  referred table.Holds n = all-there (λ r. r.hold ≡ n → hold_refers rows r ≡ true) rows.holds (λ r there same.
      let row = (are.holds.sound r there).0 in
      rw (patron-there r.patron (refs.hold_patron r.hold r row)) (rw (title-there r.title (refs.hold_title r.hold r row))
      (rw (branch-there r.branch (refs.hold_branch r.hold r row))
      (has-if (λ q. q.copy) (picture H).copies rows.copies are.copies (λ m q e. (limits.copies m q e).0) r.copy
      (λ c is. refs.hold_copy r.hold c r row is)))))
  referred table.Transits n = all-there (λ r. r.copy ≡ n → transit_refers rows r ≡ true) rows.transits (λ r there same.
      let row = (are.transits.sound r there).0 in
      rw (copy-there r.copy (refs.transit_copy r.copy r row)) (rw (branch-there r.goal (refs.transit_goal r.copy r row))
      (has-if (λ q. q.hold) (picture H).holds rows.holds are.holds (λ m q e. (limits.holds m q e).0) r.hold
      (λ h is. refs.transit_hold r.copy h r row is))))
  referred table.Lines n = all-there (λ r. r.line ≡ n → line_refers rows r ≡ true) rows.lines (λ r there same.
      let row = (are.lines.sound r there).0 in
      rw (patron-there r.patron (refs.line_patron r.line r row))
      (has-if (λ q. q.loan) (picture H).loans rows.loans are.loans (λ m q e. (limits.loans m q e).0) r.loan
      (λ l is. refs.line_loan r.line l r row is)))
  referred table.Kept n = all-there (λ r. owner_number r.caller ≡ n → kept_refers rows r ≡ true) rows.kept (λ r there same.
      caller-there r.caller (λ p is. refs.kept_caller r.caller r.key p r (are.kept.sound r there) is))
  referred table.Barcodes n = all-there (λ r. thing_number r.thing ≡ n → barcode_refers rows r ≡ true) rows.barcodes (λ r there same.
      thing-there r.thing (refs.barcode_thing r.thing r (are.barcodes.sound r there)))
  referred table.Notes n = all-there (λ r. r.line ≡ n → note_refers rows r ≡ true) rows.notes (λ r there same.
      let row = (are.notes.sound r there).0 in
      rw (has-row (λ q. q.line) (picture H).lines rows.lines are.lines (λ m q e. (limits.lines m q e).0) r.line (refs.note_line r.line r row))
      (branch-there r.branch (refs.note_branch r.line r row)))

  inv : Invariant H
  inv = legal-Invariant H legal

  loan-kept : (n : ℕ) → 1 ≤ n → n ≤ loans H → is_some ((picture H).loans n) ≡ true
  loan-kept n from to =
      let f = inv.loan_numbered n from to in ap (λ (o : Option LoanFacts). is_some (option_map (loan_columns H n) o)) f.1

  loan-made : (n : ℕ) (r : LoanRow) → (picture H).loans n ≡ Some r → (1 ≤ n) × (n ≤ loans H)
  loan-made n r row = let f = map-some (loan_columns H n) (loan_of H n) r row in inv.made_loan n f.0 f.1

  hold-kept : (n : ℕ) → 1 ≤ n → n ≤ holds H → is_some ((picture H).holds n) ≡ true
  hold-kept n from to =
      let f = inv.hold_numbered n from to in
      let s = inv.stated n f.0 f.1 in
      ap (λ (o : Option HoldState). is_some (option_and_then (λ s. option_map (hold_columns H n s) (hold_of H n)) o)) s.1
      ∙ ap (λ (o : Option HoldFacts). is_some (option_map (hold_columns H n s.0) o)) f.1

  hold-made : (n : ℕ) (r : HoldRow) → (picture H).holds n ≡ Some r → (1 ≤ n) × (n ≤ holds H)
  hold-made n r row = let f = hold-facts H n r row in inv.made_hold n f.1 f.3

  line-kept : (n : ℕ) → 1 ≤ n → n ≤ length (lines H) → is_some ((picture H).lines n) ≡ true
  line-kept n from to =
      let x = nth-there (lines H) n from to in ap (λ (o : Option Line). is_some (option_map (line_columns H n) o)) x.1

  line-made : (n : ℕ) (r : LineRow) → (picture H).lines n ≡ Some r → (1 ≤ n) × (n ≤ length (lines H))
  line-made n r row = let x = map-some (line_columns H n) (nth_line (lines H) n) r row in nth-within (lines H) n x.0 x.1

  pub numbered : (s : Series) (n : ℕ) → IsNumbered rows s n
  numbered series.Loans n = rw are.meta
      (given (λ r. r.loan) (picture H).loans rows.loans are.loans (λ m r e. (limits.loans m r e).0) (loans H) loan-kept loan-made n)
  numbered series.Holds n = rw are.meta
      (given (λ r. r.hold) (picture H).holds rows.holds are.holds (λ m r e. (limits.holds m r e).0) (holds H) hold-kept hold-made n)
  numbered series.Lines n = rw are.meta
      (given (λ r. r.line) (picture H).lines rows.lines are.lines (λ m r e. (limits.lines m r e).0) (length (lines H)) line-kept line-made n)

  -- No two things have the same barcode.
  pub distinct : AreDistinct rows.barcodes
  distinct k d within = go (has_barcode (take k rows.barcodes) (get_or rows.barcodes k d).barcode) refl
    where
      here : BarcodeRow
      here = get_or rows.barcodes k d

      before : (other : BarcodeRow) (i : ℕ) → i < k → get_or rows.barcodes i other ≡ other
          → IsPairBefore (thing_sort other.thing, thing_number other.thing) (thing_sort here.thing, thing_number here.thing)
      before other i short row =
          let order : IsPairBefore (thing_sort (get_or rows.barcodes i other).thing, thing_number (get_or rows.barcodes i other).thing)
          (thing_sort (get_or rows.barcodes k other).thing, thing_number (get_or rows.barcodes k other).thing) =
          ordered-at (λ r q. IsPairBefore (thing_sort r.thing, thing_number r.thing) (thing_sort q.thing, thing_number q.thing)) rows.barcodes i k
          other short within are.barcodes.order in
          subst (λ (q : BarcodeRow). IsPairBefore (thing_sort other.thing, thing_number other.thing) (thing_sort q.thing, thing_number q.thing))
          (get_or_default rows.barcodes k other d within)
          (subst (λ (r : BarcodeRow). IsPairBefore (thing_sort r.thing, thing_number r.thing)
          (thing_sort (get_or rows.barcodes k other).thing, thing_number (get_or rows.barcodes k other).thing)) row order)

      doubled : Any (λ r. bytes_eq r.barcode here.barcode ≡ true) (take k rows.barcodes) → ⊥
      doubled found =
          let i = found.0 in
          let other : BarcodeRow = found.1 in
          let lt = found.2 in
          let long : length (take k rows.barcodes) ≡ k = length-take-le k rows.barcodes (omega (arith, within)) in
          let short : i < k = omega (arith, lt, long) in
          let row : get_or rows.barcodes i other ≡ other = sym (get_or-take k rows.barcodes i other short) ∙ found.3 in
          let same : other.barcode ≡ here.barcode = (bytes_eq-Decides other.barcode here.barcode).0 found.4 in
          let its : (picture H).barcodes other.thing ≡ Some other = are.barcodes.sound other (i, omega (arith, short, within), row) in
          let own : (picture H).barcodes here.thing ≡ Some here = are.barcodes.sound here (Contains-get_or rows.barcodes k d within) in
          let thing : other.thing ≡ here.thing = (labels H legal).one_thing other.thing here.thing other here its own same in
          let less : IsPairBefore (thing_sort other.thing, thing_number other.thing) (thing_sort here.thing, thing_number here.thing) =
          before other i short row in
          let self : IsPairBefore (thing_sort here.thing, thing_number here.thing) (thing_sort here.thing, thing_number here.thing) =
          subst (λ (t : Thing). IsPairBefore (thing_sort t, thing_number t) (thing_sort here.thing, thing_number here.thing)) thing less in
          pair_never (thing_sort here.thing, thing_number here.thing) (thing_sort here.thing, thing_number here.thing) self self

      go : (b : Bool) → has_barcode (take k rows.barcodes) here.barcode ≡ b → has_barcode (take k rows.barcodes) here.barcode ≡ false
      go false e = e
      go true e = absurd (doubled (Any-from_list_any (λ r. bytes_eq r.barcode here.barcode) (take k rows.barcodes) e))
