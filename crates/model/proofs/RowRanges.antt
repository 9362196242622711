-- In every legal history whose commands have their forms, every column of every row is within its limits.
use Rattle.std.proofs.Common.{◌≡◌, ℕ, ◌+◌, ◌-◌, ◌≤◌, Bool, true, false, List, [], ◌∷◌, refl, sym, ◌∙◌, ap, subst, arith}
use Rattle.std.specs.Prelude.{Option, Some, None, option_map, unwrap_or, IfSome}
use Rattle.calendar.specs.Days.{IsDayNumber}
use Rattle.terms.specs.Limits.{InLimits, IsLarge, IsSmall, IsMeta, IsBranch, IsKind, IsRule, IsPatron, IsTitle, IsCopy, IsLoan, IsHold, IsTransit, IsLine, IsKeptRow, IsBarcode, IsNote}
use Rattle.terms.specs.declared.command.Owner.{Owner}
use Rattle.terms.specs.declared.row.BranchRow.{BranchRow}
use Rattle.terms.specs.declared.row.KindRow.{KindRow}
use Rattle.terms.specs.declared.row.RuleRow.{RuleRow}
use Rattle.terms.specs.declared.row.PatronRow.{PatronRow}
use Rattle.terms.specs.declared.row.TitleRow.{TitleRow}
use Rattle.terms.specs.declared.row.CopyRow.{CopyRow}
use Rattle.terms.specs.declared.row.LoanRow.{LoanRow}
use Rattle.terms.specs.declared.row.HoldRow.{HoldRow}
use Rattle.terms.specs.declared.row.HoldState.{HoldState}
use Rattle.terms.specs.declared.row.HoldState.TheVariants.{Waiting, Ready, Filled, Cancelled, Expired}
use Rattle.terms.specs.declared.row.TransitRow.{TransitRow}
use Rattle.terms.specs.declared.row.LineRow.{LineRow}
use Rattle.terms.specs.declared.row.KeptRow.{KeptRow}
use Rattle.terms.specs.declared.row.Thing.{Thing}
use Rattle.terms.specs.declared.row.BarcodeRow.{BarcodeRow}
use Rattle.terms.specs.declared.row.NoteRow.{NoteRow}
use Rattle.model.specs.History.{History, branch_of, kind_of, rule_of, patron_of, title_of}
use Rattle.model.specs.History.{copy_of, barcode_of}
use Rattle.model.specs.Places.{Place, Nowhere, Shelf, HoldShelf, Transit, Loan, MissingCopy, WithdrawnCopy, place, state, is_kept_for, kept_for, limit, goal_of}
use Rattle.model.specs.Loans.{LoanFacts, loan_of, due, ended, renewals, renewals_left}
use Rattle.model.specs.Accounts.{lines}
use Rattle.model.specs.Invariant.{Invariant}
use Rattle.model.specs.Requests.{IsLegal, kept_of}
use Rattle.model.specs.DueDays.{HasWholeWeeks, IsLimit, comes_to_shelf}
use Rattle.model.specs.Forms.{HasForms}
use Rattle.model.specs.Picture.{picture, branch_columns, kind_columns, rule_columns, patron_columns, copy_columns, loan_columns, if_ready}
use Rattle.model.specs.Picture.{transit_at, nth_line, line_columns, kept_columns}
use Rattle.model.proofs.Bindings.{kept-is, find-some}
use Rattle.model.proofs.ClaimsLaw.{map-some, hold-facts}
use Rattle.model.proofs.DueDayLaws.{due-is}
use Rattle.model.proofs.LimitLaws.{limit-is}
use Rattle.model.proofs.Invariants.{legal-Invariant}
use Rattle.model.proofs.Runs.{forms-whole}
use Rattle.model.proofs.SettingRanges.{SettingRanges, legal-SettingRanges, none-some, some-same}
use Rattle.model.proofs.PlaceSteps.{copy-known}
use Rattle.model.proofs.LendingRanges.{LendingRanges, PlaceIn, legal-LendingRanges, today-in}
use Rattle.model.proofs.KeptRanges.{least-in, due-in, nth-in, legal-lines, legal-kept, owed-le}
use Rattle.model.proofs.LabelRanges.{barcode-form, thing-in, branch-small, legal-told, nth-told}
use Rattle.model.proofs.Labels.{named-there}
use Rattle.model.proofs.Notes.{note-of, note-there}

-- A shelf limit is a day of the calendar.
limit-in : (H : History) (h d : ℕ) → IsLimit H h d → IsDayNumber d
limit-in [] h d is = absurd is
limit-in (e ∷ H) h d is = go (comes_to_shelf H e.command h) (limit-in H h d) is
  where
    go : (x : Bool) → (IsLimit H h d → IsDayNumber d)
        → (elim x as (λ _. Type 0) [
          | true ↦ Rattle.model.specs.Calendar.IsLeast (Rattle.model.specs.History.is_open H (goal_of H h))
              (Rattle.model.specs.History.today H + unwrap_or (option_map (λ r. r.pickup) (branch_of H (goal_of H h))) 0) d
          | false ↦ IsLimit H h d
        ]) → IsDayNumber d
    go true before set = least-in H (goal_of H h)
        (Rattle.model.specs.History.today H + unwrap_or (option_map (λ r. r.pickup) (branch_of H (goal_of H h))) 0) d set
    go false before old = before old

module _ (H : History) (legal : IsLegal H) (forms : HasForms H) where
  inv : Invariant H
  inv = legal-Invariant H legal

  settings : SettingRanges H
  settings = legal-SettingRanges H legal forms

  lending : LendingRanges H
  lending = legal-LendingRanges H legal forms

  whole : HasWholeWeeks H
  whole = forms-whole H forms

  meta-in : IsMeta (picture H).meta
  meta-in = (
    omega arith,
    today-in H inv settings,
    (omega arith, omega (arith, inv.loans_left)),
    (omega arith, omega (arith, inv.holds_left)),
    (omega arith, omega (arith, inv.lines_left)),
  )

  branch-in : (b : ℕ) (r : BranchRow) → (picture H).branches b ≡ Some r → (r.branch ≡ b) × IsBranch r
  branch-in b r e =
      let m = map-some (branch_columns H b) (branch_of H b) r e in
      let f = settings.branches b m.0 m.1 in
      subst (λ q. (q.branch ≡ b) × IsBranch q) m.2 (refl, (f.0, f.1, settings.weeks b, f.2))

  kind-in : (k : ℕ) (r : KindRow) → (picture H).kinds k ≡ Some r → (r.kind ≡ k) × IsKind r
  kind-in k r e =
      let m = map-some (kind_columns H k) (kind_of H k) r e in
      subst (λ q. (q.kind ≡ k) × IsKind q) m.2 (refl, settings.kinds k m.0 m.1)

  rule-in : (k c : ℕ) (r : RuleRow) → (picture H).rules k c ≡ Some r → (r.kind ≡ k) × (r.copy_kind ≡ c) × IsRule r
  rule-in k c r e =
      let m = map-some (rule_columns H k c) (rule_of H k c) r e in
      let f = settings.rules k c m.0 m.1 in
      subst (λ q. (q.kind ≡ k) × (q.copy_kind ≡ c) × IsRule q) m.2 (refl, refl, (f.0, f.1, f.2.0, f.2.1, f.2.2, f.2.3, f.2.4))

  patron-in : (p : ℕ) (r : PatronRow) → (picture H).patrons p ≡ Some r → (r.patron ≡ p) × IsPatron r
  patron-in p r e =
      let m = map-some (patron_columns H p) (patron_of H p) r e in
      let f = settings.patrons p m.0 m.1 in
      subst (λ q. (q.patron ≡ p) × IsPatron q) m.2 (refl, (f.0, f.1, f.2, f.3, omega (arith, owed-le H legal forms p)))

  title-in : (t : ℕ) (r : Rattle.terms.specs.declared.row.TitleRow.TitleRow) → (picture H).titles t ≡ Some r → (r.title ≡ t) × IsTitle r
  title-in t r e =
      let m = map-some (λ x. record { title = t; text = x }) (title_of H t) r e in
      subst (λ q. (q.title ≡ t) × IsTitle q) m.2 (refl, settings.titles t m.0 m.1)

  copy-in : (c : ℕ) (r : CopyRow) → (picture H).copies c ≡ Some r → (r.copy ≡ c) × IsCopy r
  copy-in c r e =
      let m = map-some (copy_columns H c) (copy_of H c) r e in
      subst (λ q. (q.copy ≡ c) × IsCopy q) m.2 (refl, settings.copies c m.0 m.1)

  left-le : (l : ℕ) (r : LoanFacts) → loan_of H l ≡ Some r → renewals_left H l ≤ 99
  left-le l r e =
      let most = (lending.loans l r e).4.1 in
      subst (λ y. unwrap_or (option_map (λ q. q.terms.renewals) y) 0 - renewals H l ≤ 99) (sym e) (omega (arith, most))

  ended-in : (l : ℕ) → IfSome (ended H l) IsDayNumber
  ended-in l = go (ended H l) refl
    where
      go : (y : Option ℕ) → ended H l ≡ y → IfSome y IsDayNumber
      go (Some d) e = lending.ends l d e
      go None e = tt

  loan-in : (l : ℕ) (r : LoanRow) → (picture H).loans l ≡ Some r → (r.loan ≡ l) × IsLoan r
  loan-in l r e =
      let m = map-some (loan_columns H l) (loan_of H l) r e in
      let f = lending.loans l m.0 m.1 in
      let made = inv.made_loan l m.0 m.1 in
      let due : IsDayNumber (due H l) = due-in H l m.0 (due H l) (due-is H l m.0 legal whole m.1) in
      subst (λ q. (q.loan ≡ l) × IsLoan q) m.2
      (refl, ((made.0, omega (arith, made.1, inv.loans_left)), f.0, f.1, f.2, f.3, due, f.4.0, left-le l m.0 m.1, f.4.2, f.4.3, ended-in l, f.4.4))

  -- The copy and the limit of a hold in this state.
  kept-in : (h : ℕ) (s : HoldState) → IfSome (if_ready (Some s) (kept_for H h)) IsLarge
  kept-in h Ready = go (kept_for H h) refl
    where
      go : (y : Option ℕ) → kept_for H h ≡ y → IfSome y IsLarge
      go (Some c) e =
          let at : place H c ≡ HoldShelf h = kept-is (place H c) h (find-some (λ d. is_kept_for (place H d) h) (Rattle.model.specs.History.copies H) c e) in
          let known = copy-known H inv c (λ f. let never : ⊥ = cc in never) in
          (settings.copies c known.0 known.1).0
      go None e = tt
  kept-in h Waiting = tt
  kept-in h Filled = tt
  kept-in h Cancelled = tt
  kept-in h Expired = tt

  limit_day-in : (h : ℕ) (s : HoldState) → state H h ≡ Some s → IfSome (if_ready (Some s) (limit H h)) IsDayNumber
  limit_day-in h Ready e = let d = limit-is H h legal whole e in subst (λ y. IfSome y IsDayNumber) (sym d.1) (limit-in H h d.0 d.2)
  limit_day-in h Waiting e = tt
  limit_day-in h Filled e = tt
  limit_day-in h Cancelled e = tt
  limit_day-in h Expired e = tt

  hold-in : (h : ℕ) (r : HoldRow) → (picture H).holds h ≡ Some r → (r.hold ≡ h) × IsHold r
  hold-in h r e =
      let m = hold-facts H h r e in
      let f = lending.holds h m.1 m.3 in
      let made = inv.made_hold h m.1 m.3 in
      subst (λ q. (q.hold ≡ h) × IsHold q) m.4
      (refl, ((made.0, omega (arith, made.1, inv.holds_left)), f.0, f.1, f.2, kept-in h m.0, limit_day-in h m.0 m.2, f.3))

  transit-in : (c : ℕ) (r : TransitRow) → (picture H).transits c ≡ Some r → (r.copy ≡ c) × IsTransit r
  transit-in c r e = go (place H c) refl (lending.places c) e
    where
      large : (q : Place) → place H c ≡ q → (q ≡ Nowhere → ⊥) → IsLarge c
      large q at ne = let known = copy-known H inv c (λ f. ne (sym at
          ∙ f)) in (settings.copies c known.0 known.1).0

      go : (q : Place) → place H c ≡ q → PlaceIn q → transit_at c q ≡ Some r → (r.copy ≡ c) × IsTransit r
      go (Transit g None) at in_it f =
          subst (λ x. (x.copy ≡ c) × IsTransit x) (some-same _ r f) (refl, (large (Transit g None) at (λ n. let never : ⊥ = cc in never), in_it, tt))
      go (Transit g (Some h)) at in_it f =
          subst (λ x. (x.copy ≡ c) × IsTransit x) (some-same _ r f) (refl, (large (Transit g (Some h)) at (λ n. let never : ⊥ = cc in never), in_it.0, in_it.1))
      go Nowhere at in_it f = absurd (none-some r f)
      go (Shelf b) at in_it f = absurd (none-some r f)
      go (HoldShelf h) at in_it f = absurd (none-some r f)
      go (Loan l) at in_it f = absurd (none-some r f)
      go MissingCopy at in_it f = absurd (none-some r f)
      go WithdrawnCopy at in_it f = absurd (none-some r f)

  line-in : (n : ℕ) (r : LineRow) → (picture H).lines n ≡ Some r → (r.line ≡ n) × IsLine r
  line-in n r e =
      let m = map-some (line_columns H n) (nth_line (lines H) n) r e in
      let f = nth-in (lines H) n m.0 (legal-lines H legal forms) m.1 in
      subst (λ q. (q.line ≡ n) × IsLine q) m.2 (refl, ((f.1, omega (arith, f.2, inv.lines_left)), f.0.0, f.0.1, f.0.2, f.0.3))

  kept_row-in : (o : Owner) (k : List ℕ) (r : KeptRow) → (picture H).kept o k ≡ Some r → (r.caller ≡ o) × (r.key ≡ k) × IsKeptRow r
  kept_row-in o k r e =
      let m = map-some (kept_columns H o k) (kept_of H o k) r e in
      let f = legal-kept H legal forms o k m.0 m.1 in
      subst (λ q. (q.caller ≡ o) × (q.key ≡ k) × IsKeptRow q) m.2 (refl, refl, (f.0, f.1, f.2, (m.0.reply, f.3, refl)))

  barcode-in : (t : Thing) (r : BarcodeRow) → (picture H).barcodes t ≡ Some r → (r.thing ≡ t) × IsBarcode r
  barcode-in t r e =
      let m = map-some (λ x. record { thing = t; barcode = x }) (barcode_of H t) r e in
      subst (λ (q : BarcodeRow). (q.thing ≡ t) × IsBarcode q) m.2
      (refl, (thing-in H settings t (named-there H legal t m.0 m.1), barcode-form H forms t m.0 m.1))

  note-in : (n : ℕ) (r : NoteRow) → (picture H).notes n ≡ Some r → (r.line ≡ n) × IsNote r
  note-in n r e =
      let w = note-of H n r e in
      let f = nth-in (lines H) n w.at (legal-lines H legal forms) w.numbered in
      let small = branch-small H settings r.branch (note-there H legal n r e).branch in
      let told = nth-told (lines H) n w.at w.note (legal-told H forms) w.numbered w.noted in
      let same = ap (λ (q : NoteRow). q.branch) w.is in
      subst (λ (q : NoteRow). (q.line ≡ n) × IsNote q) w.is (refl, ((f.1, omega (arith, f.2, inv.lines_left)), subst IsSmall (sym same) small, told))

-- Every row of a legal history lies in its limits.
pub legal-rows : (H : History) → IsLegal H → HasForms H → InLimits (picture H)
legal-rows H legal forms = record {
  meta = meta-in H legal forms;
  branches = branch-in H legal forms;
  closed_days = (legal-SettingRanges H legal forms).singles;
  kinds = kind-in H legal forms;
  rules = rule-in H legal forms;
  rules1 = λ k c r e. absurd (none-some r e);
  patrons = patron-in H legal forms;
  titles = title-in H legal forms;
  copies = copy-in H legal forms;
  loans = loan-in H legal forms;
  loans1 = λ l r e. absurd (none-some r e);
  holds = hold-in H legal forms;
  holds1 = λ h r e. absurd (none-some r e);
  transits = transit-in H legal forms;
  lines = line-in H legal forms;
  kept = kept_row-in H legal forms;
  barcodes = barcode-in H legal forms;
  notes = note-in H legal forms;
}
