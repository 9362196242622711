-- Missing meets the history.
use Rattle.terms.specs.declared.refusal.Refusal.TheVariants as check
use Rattle.model.specs.Sights.{sight}
use Rattle.std.proofs.Common.{◌≡◌, ℕ, ◌+◌, false, List, [], ◌∷◌, ◌++◌, length, length-append, refl, sym, ◌∙◌, ap}
use Rattle.std.specs.Prelude.{Option, Some, None, option_map, unwrap_or, is_none, is_some}
use Rattle.std.proofs.lemmas.List.{append-nil}
use Rattle.terms.specs.declared.command.Owner.{Owner}
use Rattle.terms.specs.declared.command.Owner.TheVariants.{Desk}
use Rattle.terms.specs.declared.command.Command.TheVariants.{Missing}
use Rattle.terms.specs.declared.reply.Reply.TheVariants.{Done}
use Rattle.terms.specs.declared.row.Condition.TheVariants as condition
use Rattle.terms.specs.declared.row.CopyRow.{CopyRow}
use Rattle.terms.specs.declared.row.LoanRow.{LoanRow}
use Rattle.terms.specs.declared.row.HoldRow.{HoldRow}
use Rattle.terms.specs.declared.row.TransitRow.{TransitRow}
use Rattle.terms.specs.Pictures.{Picture}
use Rattle.model.specs.History.{History, today, CopyFacts, copy_of, patron_of}
use Rattle.model.specs.Places.{Place, Nowhere, Shelf, HoldShelf, Transit, Loan, MissingCopy, WithdrawnCopy, place}
use Rattle.model.specs.Loans.{grace_of}
use Rattle.model.specs.Accounts.{lines, lines_by, fine_line, price_line, fine_now, price_of}
use Rattle.model.specs.Answers.{missed}
use Rattle.model.specs.Refusals.{checks, is_on_loan, is_on_hold_shelf, is_in_transit, lacks_lines}
use Rattle.model.specs.Requests.{IsLegal}
use Rattle.model.specs.Invariant.{Invariant}
use Rattle.model.specs.Picture.{picture, meta_row, copy_row, hold_row, patron_columns, copy_columns, transit_row, transit_at, nth_line, line_columns, note_row}
use Rattle.model.proofs.Passing.{passed}
use Rattle.model.proofs.Unnoted.{note_in, notes-stay, unnoted-append, unnoted-fine, unnoted-price}
use Rattle.circ_core.specs.declared.changes.RowChange.{RowChange}
use Rattle.circ_core.specs.declared.changes.RowChange.TheVariants.{TakeTransit}
use Rattle.circ_core.specs.declared.views.View.{View}
use Rattle.circ_core.specs.Condition.{is_missing as is_missing_row, is_withdrawn as is_withdrawn_row, condition_rows}
use Rattle.circ_core.specs.Ending.{fine_due, lines_for, lacks_numbers, charge_rows}
use Rattle.circ_core.specs.Missing.{price_due, fine_in, price_in, missing_checks, lost_reply, missing_reply, release_rows, missing_rows}
use Rattle.circ_core.specs.Tables.{change, changed, SameRows}
use Rattle.circ_core.specs.Views.{IsLoanOf, IsHoldOf, IsLenderView, IsMissingView}
use Rattle.circ_core.specs.Decides.{event}
use Rattle.circ_core.proofs.Meets.{Meets, Leads, SameChecks}
use Rattle.circ_core.proofs.Rows.{none-map, some-is}
use Rattle.circ_core.proofs.Claims.{loan_claims, transit_claims}
use Rattle.circ_core.proofs.CheckOutMeets.{withdrawn_at, lost_at}
use Rattle.circ_core.proofs.Charging.{lines_with, owed_in}
use Rattle.circ_core.proofs.EndingMeets.{IsLent, lent, fine_same, fine_line-is, price_line-is, fine_line-none, line-count, lacks_same}
use Rattle.circ_core.proofs.EndingMeets.{none_ends, one_ends, both_lines, charges_show}
use Rattle.circ_core.proofs.Gone.{shelf_claims, kept_by, copies_gone, transits_still, transits_over, holds_all_stay, holds_again}

-- The tables after some changes and then others.
changed-append : (xs ys : List RowChange) (P : Picture) → changed (xs ++ ys) P ≡ changed ys (changed xs P)
changed-append [] ys P = refl
changed-append (x ∷ xs) ys P = changed-append xs ys (change x P)

module _ (H : History) (legal : IsLegal H) (inv : Invariant H) (c : ℕ) (r : CopyFacts) (there : copy_of H c ≡ Some r) where
  abbrev row : CopyRow
  row = copy_columns H c r

  price_is : price_of H c ≡ r.price
  price_is = ap (λ o. unwrap_or (option_map (λ x. x.price) o) 0) there

  off_loan : (o : Option LoanRow) → IsLoanOf (picture H) c o → o ≡ None → is_on_loan (place H c) ≡ false
  off_loan o w e = sym (loan_claims H inv c o w) ∙ ap is_some e

  price_line-none : (p : Place) → is_on_loan p ≡ false → price_line H c p ≡ []
  price_line-none (Loan l) e = let never : ⊥ = cc in absurd never
  price_line-none _ e = refl

  -- The lines that are made off loan: none.
  no_lines : is_on_loan (place H c) ≡ false → lines_by H (Missing c) ≡ []
  no_lines off = rw (fine_line-none H (place H c) off, price_line-none (place H c) off) refl

  numbers_same : (o : Option LoanRow) → IsLoanOf (picture H) c o → (rows : View) → IsLenderView (picture H) o rows
      → lacks_numbers (meta_row H) (fine_due o rows.lender (today H)) (price_due o (Some row)) ≡ lacks_lines H (sight H) (length (lines_by H (Missing c)))
  numbers_same (Some q) w rows v =
      let l : IsLent H c q = lent H inv c q w in
      lacks_same H (fine_due (Some q) rows.lender (today H)) r.price (lines_by H (Missing c))
      (length-append (fine_line H (grace_of H) (place H c)) (price_line H c (place H c))
      ∙ ap (λ n. n + length (price_line H c (place H c)))
      (ap length (fine_line-is H legal inv c q l) ∙ line-count H q.patron _ (Some q.loan) (fine_now H (grace_of H) q.loan)
      ∙ ap lines_for (sym (fine_same H legal inv c q l rows v)))
      ∙ ap (λ n. lines_for (fine_due (Some q) rows.lender (today H)) + n)
      (ap length (price_line-is H legal inv c q l) ∙ line-count H q.patron _ (Some q.loan) (price_of H c) ∙ ap lines_for price_is))
  numbers_same None w rows v = lacks_same H 0 0 (lines_by H (Missing c)) (ap length (no_lines (off_loan None w refl)))

  reply_same : (o : Option LoanRow) → IsLoanOf (picture H) c o → (rows : View) → IsLenderView (picture H) o rows
      → lost_reply o (fine_due o rows.lender (today H)) (price_due o (Some row)) ≡ missed H (grace_of H) c (place H c)
  reply_same (Some q) w rows v =
      let l : IsLent H c q = lent H inv c q w in
      rw (fine_same H legal inv c q l rows v, ← price_is) (sym (ap (missed H (grace_of H) c) l.here))
  reply_same None w rows v = go (place H c) (off_loan None w refl)
    where
      go : (p : Place) → is_on_loan p ≡ false → Done ≡ missed H (grace_of H) c p
      go (Loan l) e = let never : ⊥ = cc in absurd never
      go _ e = refl

  -- ---- the rows

  -- The lines that are made have no notes.
  notes_same : (n : ℕ) → note_row H n ≡ note_in H (lines H ++ lines_by H (Missing c)) n n
  notes_same n = sym (notes-stay H (lines H) (lines_by H (Missing c)) n n
      (unnoted-append (fine_line H (grace_of H) (place H c)) (price_line H c (place H c)) (unnoted-fine H (place H c)) (unnoted-price H c (place H c))))

  abbrev freed : Option LoanRow → Option HoldRow → Option TransitRow → Picture
  freed loan hold transit = changed (condition_rows (Some row) condition.Missing ++ release_rows loan hold transit (today H)) (picture H)

  lead_on : (q : LoanRow) → IsLent H c q → (hold : Option HoldRow) (transit : Option TransitRow) (rows : View)
      → IsLenderView (picture H) (Some q) rows → (owner : Owner) (key : List ℕ)
      → SameRows (changed (charge_rows (meta_row H) rows.patron (Some q) (fine_due (Some q) rows.lender (today H)) r.price)
      (freed (Some q) hold transit)) (picture (event owner key (Missing c) ∷ H))
  lead_on q l hold transit rows v owner key =
      let off : is_on_hold_shelf (place H c) ≡ false = ap is_on_hold_shelf l.here in
      let still : is_in_transit (place H c) ≡ false = ap is_in_transit l.here in
      let same : lines_with H q.patron q.loan (fine_now H (grace_of H) q.loan) r.price ≡ lines H ++ lines_by H (Missing c) =
      ap (lines_with H q.patron q.loan (fine_now H (grace_of H) q.loan)) (sym price_is) ∙ sym (both_lines H legal inv c q l) in
      let s = charges_show H legal inv c q l rows v r.price (inv.prices c r there) (freed (Some q) hold transit) refl (λ _. refl) (λ _. refl) in
      λ i. record (s.others i) {
        meta = (s.meta ∙ ap (λ xs. record (meta_row H) { next_line = length xs + 1 }) same) i;
        patrons = λ n. (s.patrons n ∙ ap (λ xs. option_map (λ x. record (patron_columns H n x) { owed = owed_in xs n }) (patron_of H n)) same) i;
        copies = λ n. (ap (λ (T : Picture). T.copies n) s.others ∙ copies_gone H c MissingCopy refl refl r there n) i;
        loans = λ n. (ap (λ (T : Picture). T.loans n) s.others ∙ one_ends H inv c q l n) i;
        holds = λ n. (ap (λ (T : Picture). T.holds n) s.others ∙ holds_all_stay H c MissingCopy refl refl off n) i;
        transits = λ n. (ap (λ (T : Picture). T.transits n) s.others ∙ transits_still H c MissingCopy refl refl still n) i;
        lines = λ n. (s.lines n ∙ ap (λ xs. option_map (line_columns H n) (nth_line xs n)) same) i;
        notes = λ n. (ap (λ (T : Picture). T.notes n) s.others ∙ notes_same n) i;
        kept = (picture (event owner key (Missing c) ∷ H)).kept;
      }

  -- Off loan only the copy's row changes, and those of a hold or a transit.
  lead_off : is_on_loan (place H c) ≡ false → (P : Picture)
      → record P { copies = copy_row H; holds = hold_row H; transits = transit_row H } ≡ picture H
      → ((n : ℕ) → P.copies n ≡ (freed None None None).copies n)
      → (owner : Owner) (key : List ℕ)
      → ((n : ℕ) → P.holds n ≡ (picture (event owner key (Missing c) ∷ H)).holds n)
      → ((n : ℕ) → P.transits n ≡ (picture (event owner key (Missing c) ∷ H)).transits n)
      → SameRows P (picture (event owner key (Missing c) ∷ H))
  lead_off off P others copies_p owner key holds_p transits_p =
      let same : lines H ≡ lines H ++ lines_by H (Missing c) = sym (ap (λ xs. lines H ++ xs) (no_lines off) ∙ append-nil (lines H)) in
      λ i. record (others i) {
        meta = (ap (λ T. T.meta) others ∙ ap (λ xs. record (meta_row H) { next_line = length xs + 1 }) same) i;
        patrons = λ n. (ap (λ (T : Picture). T.patrons n) others
            ∙ ap (λ xs. option_map (λ x. record (patron_columns H n x) { owed = owed_in xs n }) (patron_of H n)) same) i;
        copies = λ n. (copies_p n ∙ copies_gone H c MissingCopy refl refl r there n) i;
        loans = λ n. (ap (λ (T : Picture). T.loans n) others ∙ none_ends H inv c off n) i;
        holds = λ n. holds_p n i;
        transits = λ n. transits_p n i;
        lines = λ n. (ap (λ (T : Picture). T.lines n) others ∙ ap (λ xs. option_map (line_columns H n) (nth_line xs n)) same) i;
        notes = λ n. (ap (λ (T : Picture). T.notes n) others ∙ notes_same n) i;
        kept = (picture (event owner key (Missing c) ∷ H)).kept;
      }

  lead_by : (loan : Option LoanRow) → IsLoanOf (picture H) c loan → (hold : Option HoldRow) → IsHoldOf (picture H) c hold
      → (transit : Option TransitRow) → transit ≡ transit_row H c
      → (rows : View) → IsLenderView (picture H) loan rows → (owner : Owner) (key : List ℕ)
      → SameRows (changed (charge_rows (meta_row H) rows.patron loan (fine_due loan rows.lender (today H)) (price_due loan (Some row)))
      (freed loan hold transit)) (picture (event owner key (Missing c) ∷ H))
  lead_by (Some q) w hold x transit y rows v owner key = lead_on q (lent H inv c q w) hold transit rows v owner key
  lead_by None w (Some q) x transit y rows v owner key =
      let k = kept_by H inv c r there q x in
      rw v.patron (lead_off (off_loan None w refl) (freed None (Some q) transit) refl (λ _. refl) owner key
      (holds_again H c MissingCopy refl refl q k) (transits_still H c MissingCopy refl refl (ap is_in_transit k.here)))
  lead_by None w None x (Some t) y rows v owner key =
      let off : is_on_hold_shelf (place H c) ≡ false = sym (shelf_claims H inv c r there None x) in
      let copy : t.copy ≡ c = travels (place H c) t y in
      rw (v.patron, copy) (lead_off (off_loan None w refl)
      (changed (condition_rows (Some row) condition.Missing ++ TakeTransit c ∷ []) (picture H)) refl (λ _. refl) owner key
      (holds_all_stay H c MissingCopy refl refl off) (transits_over H c MissingCopy refl refl))
    where
      travels : (p : Place) (t : TransitRow) → Some t ≡ transit_at c p → t.copy ≡ c
      travels (Transit g h) t e = let row_is : ◌≡◌ {A = TransitRow} t (record { copy = c; goal = g; hold = h }) = cc in ap (λ z. z.copy) row_is
      travels Nowhere t e = let never : ⊥ = cc in absurd never
      travels (Shelf b) t e = let never : ⊥ = cc in absurd never
      travels (HoldShelf g) t e = let never : ⊥ = cc in absurd never
      travels (Loan l) t e = let never : ⊥ = cc in absurd never
      travels MissingCopy t e = let never : ⊥ = cc in absurd never
      travels WithdrawnCopy t e = let never : ⊥ = cc in absurd never
  lead_by None w None x None y rows v owner key =
      let off : is_on_hold_shelf (place H c) ≡ false = sym (shelf_claims H inv c r there None x) in
      let still : is_in_transit (place H c) ≡ false = sym (transit_claims H inv c None y) in
      rw v.patron (lead_off (off_loan None w refl) (freed None None None) refl (λ _. refl) owner key
      (holds_all_stay H c MissingCopy refl refl off) (transits_still H c MissingCopy refl refl still))

module _ (H : History) (legal : IsLegal H) (inv : Invariant H) (c : ℕ) (v : View) (w : IsMissingView (picture H) c v) where
  copy_here : (r : CopyFacts) → copy_of H c ≡ Some r → v.copy ≡ Some (copy_columns H c r)
  copy_here r there = w.at.copy ∙ ap (option_map (copy_columns H c)) there

  numbers_here : (r : CopyFacts) → copy_of H c ≡ Some r
      → lacks_numbers v.meta (fine_in v) (price_in v) ≡ lacks_lines H (sight H) (length (lines_by H (Missing c)))
  numbers_here r there =
      ap (λ m. lacks_numbers m (fine_due v.loan v.lender m.today) (price_in v)) w.meta
      ∙ ap (λ o. lacks_numbers (meta_row H) (fine_due v.loan v.lender (today H)) (price_due v.loan o)) (copy_here r there)
      ∙ numbers_same H legal inv c r there v.loan w.at.loan v w.lender

  missing_same : SameChecks (missing_checks v) (checks H Desk (Missing c))
  missing_same = (
    refl,
    (ap is_none w.at.copy ∙ none-map (copy_columns H c) (copy_of H c)),
    λ p13.
        let r : (x : CopyFacts) × (copy_of H c ≡ Some x) = some-is (copy_of H c) p13 in (
          refl,
          (ap is_withdrawn_row (copy_here r.0 r.1) ∙ withdrawn_at H c r.0 (place H c)),
          λ p35. (refl, (ap is_missing_row (copy_here r.0 r.1) ∙ lost_at H c r.0 (place H c)), λ p34. (refl, numbers_here r.0 r.1, λ p70. tt)),
        ),
  )

  missing_due : (r : CopyFacts) → copy_of H c ≡ Some r → missing_reply v ≡ missed H (grace_of H) c (place H c)
  missing_due r there =
      ap (λ m. lost_reply v.loan (fine_due v.loan v.lender m.today) (price_in v)) w.meta
      ∙ ap (λ o. lost_reply v.loan (fine_due v.loan v.lender (today H)) (price_due v.loan o)) (copy_here r there)
      ∙ reply_same H legal inv c r there v.loan w.at.loan v w.lender

  missing_leads : (r : CopyFacts) → copy_of H c ≡ Some r → Leads H (Missing c) (missing_rows v)
  missing_leads r there owner key =
      rw (
        w.meta,
        copy_here r there,
        changed-append
            (condition_rows (Some (copy_columns H c r)) condition.Missing ++ release_rows v.loan v.hold v.transit (today H))
            (charge_rows (meta_row H) v.patron v.loan (fine_due v.loan v.lender (today H)) (price_due v.loan (Some (copy_columns H c r))))
            (picture H),
      )
      (lead_by H legal inv c r there v.loan w.at.loan v.hold w.at.hold v.transit w.at.transit v w.lender owner key)

  pub missing_meets : Meets H (Missing c) (missing_checks v) (missing_reply v) (missing_rows v)
  missing_meets = record {
    same = missing_same;
    due = λ ok. let r : (x : CopyFacts) × (copy_of H c ≡ Some x) = some-is (copy_of H c) (passed (checks H Desk (Missing c)) ok check.UnknownCopy) in missing_due r.0 r.1;
    leads = λ ok. let r : (x : CopyFacts) × (copy_of H c ≡ Some x) = some-is (copy_of H c) (passed (checks H Desk (Missing c)) ok check.UnknownCopy) in missing_leads r.0 r.1;
  }
