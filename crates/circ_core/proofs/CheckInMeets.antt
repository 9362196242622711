-- Check-in meets the history.
use Rattle.terms.specs.declared.refusal.Refusal.TheVariants as check
use Rattle.model.specs.Sights.{sight}
use Rattle.std.proofs.Common.{◌≡◌, ℕ, ◌+◌, ◌==◌, Bool, true, false, not, List, [], ◌∷◌, ◌++◌, length, refl, sym, ◌∙◌, ap, subst, arith}
use Rattle.std.specs.Prelude.{Option, Some, None, option_map, unwrap_or, is_none, is_some}
use Rattle.std.proofs.lemmas.Bool.{eqb-true, eq-eqb}
use Rattle.std.proofs.lemmas.List.{append-nil}
use Rattle.terms.specs.declared.command.Command.TheVariants.{CheckIn}
use Rattle.terms.specs.declared.command.Owner.TheVariants.{Desk}
use Rattle.terms.specs.declared.reply.Reply.TheVariants.{CheckedIn}
use Rattle.terms.specs.declared.row.Condition.{Condition}
use Rattle.terms.specs.declared.row.Condition.TheVariants.{Present, Missing, Withdrawn}
use Rattle.terms.specs.declared.row.CopyRow.{CopyRow}
use Rattle.terms.specs.declared.row.HoldRow.{HoldRow}
use Rattle.terms.specs.declared.row.LoanRow.{LoanRow}
use Rattle.terms.specs.declared.row.TransitRow.{TransitRow}
use Rattle.terms.specs.Pictures.{Picture, put}
use Rattle.model.specs.Loans.{grace_of}
use Rattle.model.specs.Accounts.{Line, lines, fine_line, fine_at, fine_now}
use Rattle.model.specs.Answers.{routed}
use Rattle.model.specs.History.{History, today, CopyFacts, copy_of, branch_of}
use Rattle.model.specs.Invariant.{Invariant}
use Rattle.model.specs.Picture.{picture, meta_row, branch_columns, patron_row}
use Rattle.model.specs.Picture.{copy_row, loan_row, copy_columns, transit_row, transit_at, condition_at, line_row}
use Rattle.model.specs.Places.{Place, Nowhere, Shelf, HoldShelf, Transit, Loan, MissingCopy, WithdrawnCopy, place, route, home_of, title_of_copy, is_kept_for}
use Rattle.model.specs.Refusals.{checks, has_branch, is_on_loan, is_on_hold_shelf, is_withdrawn, lacks_lines}
use Rattle.model.specs.Requests.{IsLegal}
use Rattle.model.proofs.Invariants.{legal-Invariant}
use Rattle.model.proofs.Moves.{moved}
use Rattle.model.proofs.Passing.{passed}
use Rattle.model.proofs.Unnoted.{notes-stay, unnoted-fine}
use Rattle.circ_core.specs.declared.changes.RowChange.{RowChange}
use Rattle.circ_core.specs.declared.changes.RowChange.TheVariants.{PutCopy}
use Rattle.circ_core.specs.declared.routing.Course.{Course}
use Rattle.circ_core.specs.declared.routing.Course.TheVariants as course
use Rattle.circ_core.specs.declared.views.View.{View}
use Rattle.circ_core.specs.Decides.{event}
use Rattle.circ_core.specs.Ending.{fine_due, lines_for, lacks_numbers, charge_rows}
use Rattle.circ_core.specs.Condition.{is_withdrawn as is_withdrawn_row}
use Rattle.circ_core.specs.CheckIn.{check_in_checks, check_in_course, check_in_limit, over_rows, found_rows, left_rows, check_in_rows, check_in_reply}
use Rattle.circ_core.specs.Routing.{home_in, routed_by, arrival_rows}
use Rattle.circ_core.specs.Tables.{changed, SameRows}
use Rattle.circ_core.specs.Views.{IsLoanOf, IsFirstOf, IsFirstFor, IsLenderView, IsCheckInView}
use Rattle.circ_core.proofs.Arriving.{ready_put, sent_put, arrival_changed, arrived_row, arrive, IsOver, over, sends, stays_present, present_there}
use Rattle.circ_core.proofs.Charging.{ShowsLines}
use Rattle.circ_core.proofs.Claims.{loan_claims, hold_claims, hold_none, IsKept}
use Rattle.circ_core.proofs.EndingMeets.{IsLent, lent, fine_same, loan_ended, one_ends, none_ends, fine_line-is, fine_line-none, fine_at-is}
use Rattle.circ_core.proofs.EndingMeets.{fine_at-none, fine_lines, line-count, lacks_same, charges_show}
use Rattle.circ_core.proofs.CheckOutMeets.{withdrawn_at}
use Rattle.circ_core.proofs.Meets.{Meets, SameChecks, Leads}
use Rattle.circ_core.proofs.RoutingMeets.{place_by, Limits, LeadsTo, by_rows, limits, limit_there, told_same}
use Rattle.circ_core.proofs.Rows.{none-map, some-is}

-- ---- small facts

changed-append : (xs ys : List RowChange) (P : Picture) → changed (xs ++ ys) P ≡ changed ys (changed xs P)
changed-append [] ys P = refl
changed-append (x ∷ xs) ys P = changed-append xs ys _

on_shelf-is : (p : Place) → is_on_hold_shelf p ≡ true → (h : ℕ) × (p ≡ HoldShelf h)
on_shelf-is (HoldShelf h) e = (h, refl)
on_shelf-is Nowhere e = let never : ⊥ = cc in absurd never
on_shelf-is (Shelf b) e = let never : ⊥ = cc in absurd never
on_shelf-is (Transit b h) e = let never : ⊥ = cc in absurd never
on_shelf-is (Loan l) e = let never : ⊥ = cc in absurd never
on_shelf-is MissingCopy e = let never : ⊥ = cc in absurd never
on_shelf-is WithdrawnCopy e = let never : ⊥ = cc in absurd never

unkept : (p : Place) (h : ℕ) → is_on_hold_shelf p ≡ false → is_kept_for p h ≡ false
unkept (HoldShelf g) h e = let never : ⊥ = cc in absurd never
unkept Nowhere h e = refl
unkept (Shelf b) h e = refl
unkept (Transit b g) h e = refl
unkept (Loan l) h e = refl
unkept MissingCopy h e = refl
unkept WithdrawnCopy h e = refl

present_away : (p : Place) (t : TransitRow) (c : ℕ) → transit_at c p ≡ Some t → condition_at p ≡ Present
present_away (Transit g h) t c e = refl
present_away Nowhere t c e = refl
present_away (Shelf b) t c e = refl
present_away (HoldShelf g) t c e = refl
present_away (Loan l) t c e = refl
present_away MissingCopy t c e = let never : ⊥ = cc in absurd never
present_away WithdrawnCopy t c e = let never : ⊥ = cc in absurd never

not_withdrawn : (p : Place) → is_withdrawn p ≡ false → condition_at p ≡ Withdrawn → ⊥
not_withdrawn WithdrawnCopy e f = let never : ⊥ = cc in never
not_withdrawn MissingCopy e f = let never : ⊥ = cc in never
not_withdrawn Nowhere e f = let never : ⊥ = cc in never
not_withdrawn (Shelf b) e f = let never : ⊥ = cc in never
not_withdrawn (HoldShelf g) e f = let never : ⊥ = cc in never
not_withdrawn (Transit b g) e f = let never : ⊥ = cc in never
not_withdrawn (Loan l) e f = let never : ⊥ = cc in never

-- ---- what the copy leaves

-- The tables after the copy has left where it was, and before it arrives.
pub record HasLeft (H : History) (c b : ℕ) (way : Course) (P : Picture) : Type 0 where
  pub copies : (n : ℕ) → P.copies n ≡ option_map
      (λ r. record (copy_columns H n r) { condition = condition_at (moved c (place_by way b) (place H) n) }) (copy_of H n)
  pub loans : (n : ℕ) → P.loans n ≡ loan_ended H c n
  pub free : IsOver way (P.transits c)
  pub transits : (n : ℕ) → (c == n) ≡ false → P.transits n ≡ transit_at n (place H n)
  pub others : record P { copies = copy_row H; loans = loan_row H; transits = transit_row H } ≡ picture H

module _ (H : History) (inv : Invariant H) (c b : ℕ) (f : CopyFacts) (there : copy_of H c ≡ Some f) where
  -- The copies after a copy that was present has moved.
  copies_stay : (way : Course) → condition_at (place H c) ≡ Present → (n : ℕ)
      → copy_row H n ≡ option_map (λ r. record (copy_columns H n r) { condition = condition_at (moved c (place_by way b) (place H) n) }) (copy_of H n)
  copies_stay way present n = ap (λ x. option_map (λ r. record (copy_columns H n r) { condition = x }) (copy_of H n)) (stays_present H c b way present n)

  lent_leaves : (way : Course) (q : LoanRow) → IsLent H c q → (transit : Option TransitRow) (copy : Option CopyRow)
      → HasLeft H c b way (changed (left_rows (Some q) transit copy way c (today H)) (picture H))
  lent_leaves way q l transit copy = record {
    others = refl;
    copies = copies_stay way (ap condition_at l.here);
    loans = one_ends H inv c q l;
    free = over way (transit_row H c) (ap (λ p. transit_at c p) l.here);
    transits = λ n e. refl;
  }

  -- A copy in transit.
  away_leaves : (way : Course) → is_on_loan (place H c) ≡ false → condition_at (place H c) ≡ Present → HasLeft H c b way (changed (over_rows way c) (picture H))
  away_leaves (course.Transit g k) off present = record {
    others = refl;
    copies = copies_stay (course.Transit g k) present;
    loans = none_ends H inv c off;
    free = tt;
    transits = λ n e. refl;
  }
  away_leaves (course.HoldShelf r) off present = record {
    others = refl;
    copies = copies_stay (course.HoldShelf r) present;
    loans = none_ends H inv c off;
    free = ap (λ x. elim x as (λ _. Option TransitRow) [ true ↦ None | false ↦ transit_row H c ]) (eq-eqb c c refl);
    transits = λ n e. ap (λ x. elim x as (λ _. Option TransitRow) [ true ↦ None | false ↦ transit_row H n ]) e;
  }
  away_leaves course.Shelf off present = record {
    others = refl;
    copies = copies_stay course.Shelf present;
    loans = none_ends H inv c off;
    free = ap (λ x. elim x as (λ _. Option TransitRow) [ true ↦ None | false ↦ transit_row H c ]) (eq-eqb c c refl);
    transits = λ n e. ap (λ x. elim x as (λ _. Option TransitRow) [ true ↦ None | false ↦ transit_row H n ]) e;
  }

  -- A copy that is found again.
  found : (way : Course) (n : ℕ) → put (copy_row H) c (Some (record (copy_columns H c f) { condition = Present })) n
      ≡ option_map (λ r. record (copy_columns H n r) { condition = condition_at (moved c (place_by way b) (place H) n) }) (copy_of H n)
  found way n = go (c == n) refl
    where
      go : (x : Bool) → (c == n) ≡ x
          → (elim x as (λ _. Option CopyRow) [ true ↦ Some (record (copy_columns H c f) { condition = Present }) | false ↦ copy_row H n ])
          ≡ option_map (λ r. record (copy_columns H n r)
          { condition = condition_at (elim x as (λ _. Place) [ true ↦ place_by way b | false ↦ place H n ]) }) (copy_of H n)
      go true e =
          subst (λ m. Some (record (copy_columns H c f) { condition = Present }) ≡ option_map
          (λ r. record (copy_columns H m r) { condition = condition_at (place_by way b) }) (copy_of H m)) (eqb-true c n e)
          (ap (λ x. Some (record (copy_columns H c f) { condition = x })) (sym (present_there H c b way))
          ∙ sym (ap (λ o. option_map (λ r. record (copy_columns H c r) { condition = condition_at (place_by way b) }) o) there))
      go false e = refl

  -- A copy that is neither on loan nor in transit.
  still_leaves : (way : Course) → is_on_loan (place H c) ≡ false → is_withdrawn (place H c) ≡ false → transit_row H c ≡ None
      → HasLeft H c b way (changed (found_rows (Some (copy_columns H c f))) (picture H))
  still_leaves way off kept still = go (condition_at (place H c)) refl
    where
      go : (d : Condition) → condition_at (place H c) ≡ d
          → HasLeft H c b way (changed (elim d as (λ _. List RowChange)
          [ Missing ↦ PutCopy (record (copy_columns H c f) { condition = Present }) ∷ [] | _ ↦ [] ]) (picture H))
      go Missing e = record {
        others = refl;
        copies = found way;
        loans = none_ends H inv c off;
        free = over way (transit_row H c) still;
        transits = λ n e. refl;
      }
      go Present e = record {
        others = refl;
        copies = copies_stay way e;
        loans = none_ends H inv c off;
        free = over way (transit_row H c) still;
        transits = λ n e. refl;
      }
      go Withdrawn e = absurd (not_withdrawn (place H c) kept e)

  -- Wherever the copy was.
  pub leaves : (way : Course) (loan : Option LoanRow) (transit : Option TransitRow) (copy : Option CopyRow) → IsLoanOf (picture H) c loan
      → transit ≡ transit_row H c
      → copy ≡ Some (copy_columns H c f) → is_withdrawn (place H c) ≡ false
      → HasLeft H c b way (changed (left_rows loan transit copy way c (today H)) (picture H))
  leaves way (Some q) transit copy l t row kept = lent_leaves way q (lent H inv c q l) transit copy
  leaves way None (Some t) copy l is row kept =
      away_leaves way (sym (loan_claims H inv c None l)) (present_away (place H c) t c (sym is))
  leaves way None None copy l is row kept =
      subst (λ o. HasLeft H c b way (changed (found_rows o) (picture H))) (sym row) (still_leaves way (sym (loan_claims H inv c None l)) kept (sym is))

-- ---- the fine

module _ (H : History) (legal : IsLegal H) (inv : Invariant H) (c : ℕ) (rows : View) where
  -- The lines after the check-in.
  abbrev lines_now : List Line
  lines_now = lines H ++ fine_line H (grace_of H) (place H c)

  fine_is : (loan : Option LoanRow) → IsLoanOf (picture H) c loan → IsLenderView (picture H) loan rows
      → fine_due loan rows.lender (today H) ≡ fine_at H (grace_of H) (place H c)
  fine_is (Some q) l w =
      let x : IsLent H c q = lent H inv c q l in
      fine_same H legal inv c q x rows w ∙ sym (fine_at-is H legal inv c q x)
  fine_is None l w = sym (fine_at-none H (place H c) (sym (loan_claims H inv c None l)))

  lines_counted : (loan : Option LoanRow) → IsLoanOf (picture H) c loan → IsLenderView (picture H) loan rows
      → length (fine_line H (grace_of H) (place H c)) ≡ lines_for (fine_due loan rows.lender (today H)) + lines_for 0
  lines_counted (Some q) l w =
      let x : IsLent H c q = lent H inv c q l in
      let count : length (fine_line H (grace_of H) (place H c)) ≡ lines_for (fine_due (Some q) rows.lender (today H)) =
      ap length (fine_line-is H legal inv c q x) ∙ line-count H q.patron _ (Some q.loan) (fine_now H (grace_of H) q.loan)
      ∙ ap lines_for (sym (fine_same H legal inv c q x rows w)) in
      omega (arith, count)
  lines_counted None l w = ap length (fine_line-none H (place H c) (sym (loan_claims H inv c None l)))

  lacks_is : (loan : Option LoanRow) → IsLoanOf (picture H) c loan → IsLenderView (picture H) loan rows
      → lacks_numbers (meta_row H) (fine_due loan rows.lender (today H)) 0 ≡ lacks_lines H (sight H) (length (fine_line H (grace_of H) (place H c)))
  lacks_is loan l w = lacks_same H (fine_due loan rows.lender (today H)) 0 (fine_line H (grace_of H) (place H c)) (lines_counted loan l w)

  -- The borrower, if there is one, is charged the fine.
  fine_shows : (loan : Option LoanRow) → IsLoanOf (picture H) c loan → IsLenderView (picture H) loan rows → (P : Picture) → P.meta ≡ meta_row H
      → ((k : ℕ) → P.patrons k ≡ patron_row H k) → ((k : ℕ) → P.lines k ≡ line_row H k)
      → ShowsLines H lines_now P (changed (charge_rows (meta_row H) rows.patron loan (fine_due loan rows.lender (today H)) 0) P)
  fine_shows (Some q) l w P meta patrons of_lines =
      let x : IsLent H c q = lent H inv c q l in
      subst (λ xs. ShowsLines H xs P
      (changed (charge_rows (meta_row H) rows.patron (Some q) (fine_due (Some q) rows.lender (today H)) 0) P))
      (sym (fine_lines H legal inv c q x))
      (charges_show H legal inv c q x rows w 0 (omega arith) P meta patrons of_lines)
  fine_shows None l w P meta patrons of_lines =
      subst (λ xs. ShowsLines H xs P (changed (charge_rows (meta_row H) rows.patron None 0 0) P)) (sym same)
      (subst (λ o. ShowsLines H (lines H) P (changed (charge_rows (meta_row H) o None 0 0) P)) (sym w.patron) (record {
        meta = meta;
        patrons = patrons;
        lines = of_lines;
        others = refl;
      }))
    where
      same : lines_now ≡ lines H
      same = ap (λ xs. lines H ++ xs) (fine_line-none H (place H c) (sym (loan_claims H inv c None l))) ∙ append-nil (lines H)

-- ---- the command

module _ (H : History) (legal : IsLegal H) (c b : ℕ) (v : View) (w : IsCheckInView (picture H) c b v) where
  inv : Invariant H
  inv = legal-Invariant H legal

  today_is : v.meta.today ≡ today H
  today_is = ap (λ m. m.today) w.meta

  copy_is : (f : CopyFacts) → copy_of H c ≡ Some f → v.copy ≡ Some (copy_columns H c f)
  copy_is f there = w.at.copy ∙ ap (λ o. option_map (copy_columns H c) o) there

  shelf_same : (f : CopyFacts) → copy_of H c ≡ Some f → is_some v.hold ≡ is_on_hold_shelf (place H c)
  shelf_same f there = go (is_on_hold_shelf (place H c)) refl
    where
      go : (x : Bool) → is_on_hold_shelf (place H c) ≡ x → is_some v.hold ≡ x
      go true e =
          let at : (h : ℕ) × (place H c ≡ HoldShelf h) = on_shelf-is (place H c) e in
          let q : (q : HoldRow) × (v.hold ≡ Some q) × IsKept H c at.0 q = hold_claims H inv c f there v.hold at.0 w.at.hold at.1 in
          ap is_some q.1
      go false e = ap is_some (hold_none H inv c f there v.hold w.at.hold e)

  check_in_same : SameChecks (check_in_checks v b) (checks H Desk (CheckIn c b))
  check_in_same = (
    refl,
    (ap is_none w.here.branch ∙ none-map (branch_columns H b) (branch_of H b)),
    λ p10. (
      refl,
      (ap is_none w.at.copy ∙ none-map (copy_columns H c) (copy_of H c)),
      λ p13.
          let r : (f : CopyFacts) × (copy_of H c ≡ Some f) = some-is (copy_of H c) p13 in (
            refl,
            (ap is_withdrawn_row (copy_is r.0 r.1) ∙ withdrawn_at H c r.0 (place H c)),
            λ p35. (
              refl,
              shelf_same r.0 r.1,
              λ p33. (
                refl,
                (ap (λ m. lacks_numbers m (fine_due v.loan v.lender m.today) 0) w.meta ∙ lacks_is H legal inv c v v.loan w.at.loan w.lender),
                λ p70. (limit_there H inv b v w.here today_is p10 (check_in_course v b), tt),
              ),
            ),
          ),
    ),
  )

  abbrev way : Course
  way = check_in_course v b

  module _ (known : not (has_branch H b) ≡ false) (f : CopyFacts) (there : copy_of H c ≡ Some f) (kept : is_withdrawn (place H c) ≡ false)
      (off : is_on_hold_shelf (place H c) ≡ false) where
    to_there : LeadsTo H b way (route H c b)
    to_there =
        let home : home_in v.copy ≡ home_of H c = ap home_in (copy_is f there) ∙ sym (ap (λ o. unwrap_or (option_map (λ r. r.home) o) 0) there) in
        let title : f.title ≡ title_of_copy H c = sym (ap (λ o. unwrap_or (option_map (λ r. r.title) o) 0) there) in
        let first : IsFirstOf (picture H) (title_of_copy H c) v.first =
        subst (λ t. IsFirstOf (picture H) t v.first) title (subst (λ o. IsFirstFor (picture H) o v.first) (copy_is f there) w.first) in
        by_rows H inv c b (home_in v.copy) home v.transit v.coming v.first w.at.transit w.coming first

    -- The limit of the hold that becomes ready.
    abbrev until : ℕ
    until = check_in_limit v b

    reply_same : check_in_reply v b until ≡ CheckedIn (fine_at H (grace_of H) (place H c)) (routed H (route H c b))
    reply_same =
        ap (λ m. CheckedIn (fine_due v.loan v.lender m.today) (routed_by way b until)) w.meta
        ∙ ap (λ n. CheckedIn n (routed_by way b until)) (fine_is H legal inv c v v.loan w.at.loan w.lender)
        ∙ ap (λ r. CheckedIn (fine_at H (grace_of H) (place H c)) r)
        (told_same H inv b v w.here today_is known way to_there.1 ∙ ap (λ p. routed H p) to_there.0)

    -- The tables once the copy has left, and once it has arrived.
    abbrev gone : Picture
    gone = changed (left_rows v.loan v.transit v.copy way c (today H)) (picture H)

    abbrev come : Picture
    come = record gone { holds = λ h. ready_put way c until (gone.holds h) h; transits = λ x. sent_put way c (gone.transits x) x }

    abbrev charged_at : Picture → Picture
    charged_at P = changed (charge_rows (meta_row H) v.patron v.loan (fine_due v.loan v.lender (today H)) 0) P

    changed_same : changed (check_in_rows v c b until) (picture H) ≡ charged_at come
    changed_same =
        ap (λ m. changed ((left_rows v.loan v.transit v.copy way c m.today ++ arrival_rows way c until)
        ++ charge_rows m v.patron v.loan (fine_due v.loan v.lender m.today) 0) (picture H)) w.meta
        ∙ changed-append (left_rows v.loan v.transit v.copy way c (today H) ++ arrival_rows way c until)
        (charge_rows (meta_row H) v.patron v.loan (fine_due v.loan v.lender (today H)) 0) (picture H)
        ∙ ap charged_at (changed-append (left_rows v.loan v.transit v.copy way c (today H)) (arrival_rows way c until) (picture H)
        ∙ arrival_changed way c until gone)

    left : HasLeft H c b way gone
    left = leaves H inv c b f there way v.loan v.transit v.copy w.at.loan w.at.transit (copy_is f there) kept

    shown : ShowsLines H (lines H ++ fine_line H (grace_of H) (place H c)) come (charged_at come)
    shown = fine_shows H legal inv c v v.loan w.at.loan w.lender come (ap (λ T. T.meta) left.others)
        (λ k. ap (λ (T : Picture). T.patrons k) left.others) (λ k. ap (λ (T : Picture). T.lines k) left.others)

    check_in_leads : Leads H (CheckIn c b) (check_in_rows v c b until)
    check_in_leads owner key =
        let l : Limits H way until = limits H inv b v w.here today_is known way to_there.1 in
        let others = ap (λ (T : Picture). record T { copies = copy_row H; loans = loan_row H; transits = transit_row H; holds = gone.holds }) shown.others
        ∙ left.others in
        subst (λ P. SameRows P (picture (event owner key (CheckIn c b) ∷ H))) (sym changed_same) (λ i. record (others i) {
          meta = shown.meta i;
          patrons = λ n. shown.patrons n i;
          copies = λ n. (ap (λ (T : Picture). T.copies n) shown.others ∙ left.copies n
              ∙ ap (λ q. option_map (λ r. record (copy_columns H n r) { condition = condition_at (moved c q (place H) n) }) (copy_of H n)) to_there.0) i;
          loans = λ n. (ap (λ (T : Picture). T.loans n) shown.others ∙ left.loans n) i;
          holds = λ h. (ap (λ (T : Picture). T.holds h) shown.others ∙ ap (λ (T : Picture). ready_put way c until (T.holds h) h) left.others
              ∙ arrive H inv c f there b until way to_there.1 l h (unkept (place H c) h off)
              ∙ ap (λ q. arrived_row H inv c f there b until q h) to_there.0) i;
          transits = λ n. (ap (λ (T : Picture). T.transits n) shown.others ∙ sends H c b way gone.transits left.free left.transits n
              ∙ ap (λ q. transit_at n (moved c q (place H) n)) to_there.0) i;
          lines = λ n. shown.lines n i;
          notes = λ n. (ap (λ (T : Picture). T.notes n) others
              ∙ sym (notes-stay H (lines H) (fine_line H (grace_of H) (place H c)) n n (unnoted-fine H (place H c)))) i;
          kept = (picture (event owner key (CheckIn c b) ∷ H)).kept;
        })

  pub check_in_meets : Meets H (CheckIn c b) (check_in_checks v b) (check_in_reply v b (check_in_limit v b)) (check_in_rows v c b (check_in_limit v b))
  check_in_meets = record {
    same = check_in_same;
    due = λ ok.
        let p = passed (checks H Desk (CheckIn c b)) ok in
        let r : (f : CopyFacts) × (copy_of H c ≡ Some f) = some-is (copy_of H c) (p check.UnknownCopy) in
        reply_same (p check.UnknownBranch) r.0 r.1 (p check.CopyWithdrawn) (p check.OnHoldShelf);
    leads = λ ok.
        let p = passed (checks H Desk (CheckIn c b)) ok in
        let r : (f : CopyFacts) × (copy_of H c ≡ Some f) = some-is (copy_of H c) (p check.UnknownCopy) in
        check_in_leads (p check.UnknownBranch) r.0 r.1 (p check.CopyWithdrawn) (p check.OnHoldShelf);
  }
