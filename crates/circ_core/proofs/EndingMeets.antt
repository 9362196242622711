-- The end of a copy's loan, with its fine, meets the history.
use Rattle.model.specs.Sights.{sight}
use Rattle.terms.specs.declared.limits.TheConstants.{LAST_NUMBER}
use Rattle.std.proofs.Common.{◌≡◌, ℕ, zero, suc, ◌+◌, ◌≤◌, ◌<◌, ◌==◌, nat_lt, ◌⊎◌, inl, inr, Bool, true, false, cond, List, [], ◌++◌}
use Rattle.std.proofs.Common.{length, refl, sym, ◌∙◌, ap, subst, arith}
use Rattle.std.specs.Prelude.{Option, Some, None, option_map, unwrap_or, is_none}
use Rattle.std.specs.Option.{option_or}
use Rattle.std.proofs.lemmas.Bool.{eqb-true, eq-eqb, cases_lt, lt-ltb, le-ltb}
use Rattle.std.proofs.lemmas.List.{append-nil}
use Rattle.calendar.specs.Openings.{Closings}
use Rattle.terms.specs.Money.{fine_for}
use Rattle.terms.specs.declared.row.LoanRow.{LoanRow}
use Rattle.terms.specs.declared.row.Sort.{Sort}
use Rattle.terms.specs.declared.row.Sort.TheVariants.{Fine, Price}
use Rattle.terms.specs.Pictures.{Picture, put}
use Rattle.model.specs.Calendar.{late}
use Rattle.model.specs.History.{History, today, is_open, branch_of, PatronFacts, patron_of}
use Rattle.model.specs.Places.{Place, Loan, place}
use Rattle.model.specs.Loans.{LoanFacts, loan_of, due, ended, grace_of, is_loan_of_copy}
use Rattle.model.specs.Accounts.{Line, lines, next_line, line_of, fine_line, price_line, price_of, fine_now, fine_at, borrower}
use Rattle.model.specs.Refusals.{is_on_loan, lacks_lines}
use Rattle.model.specs.Requests.{IsLegal}
use Rattle.model.specs.Invariant.{Invariant}
use Rattle.model.specs.Picture.{picture, meta_row, line_row, patron_row, patron_columns, loan_row, loan_columns, branch_columns}
use Rattle.model.proofs.Moves.{false-ne}
use Rattle.model.proofs.SettingLaws.{legal-SettingLaws}
use Rattle.model.proofs.MoneyLaws.{legal-MoneyLaws, fine-small as fine_now-small}
use Rattle.circ_core.specs.declared.views.View.{View}
use Rattle.circ_core.specs.Ending.{fine_due, ended_loan, lines_for, lacks_numbers, charge_rows}
use Rattle.circ_core.specs.Tables.{changed}
use Rattle.circ_core.specs.Views.{IsLoanOf, IsLenderOf, IsLenderView}
use Rattle.circ_core.proofs.Rows.{is_none-None, is_none-map, is_suc}
use Rattle.circ_core.proofs.Claims.{loan_row-is}
use Rattle.circ_core.proofs.Lenders.{legal-lenders, borrower-there}
use Rattle.circ_core.proofs.Calendars.{late_same}
use Rattle.circ_core.proofs.Charging.{ShowsLines, lines_with, shows}

-- ---- the open loan

-- What the open loan of a copy tells.
pub record IsLent (H : History) (c : ℕ) (q : LoanRow) : Type 0 where
  pub here : place H c ≡ Loan q.loan
  pub facts : LoanFacts
  pub made : loan_of H q.loan ≡ Some facts
  pub of_copy : facts.copy ≡ c
  pub unended : ended H q.loan ≡ None
  pub row : loan_columns H q.loan facts ≡ q

pub lent : (H : History) → Invariant H → (c : ℕ) (q : LoanRow) → IsLoanOf (picture H) c (Some q) → IsLent H c q
lent H inv c q w =
    let is : (r : LoanFacts) × (loan_of H q.loan ≡ Some r) × (loan_columns H q.loan r ≡ q) = loan_row-is H q.loan q w.0 in
    let copy : is.0.copy ≡ c = ap (λ x. x.copy) is.2 ∙ w.1 in
    let unended : ended H q.loan ≡ None = ap (λ x. x.ended) is.2 ∙ w.2 in
    record {
      here = subst (λ n. place H n ≡ Loan q.loan) copy (inv.open_loan q.loan is.0 is.1 unended);
      facts = is.0;
      made = is.1;
      of_copy = copy;
      unended = unended;
      row = is.2;
    }

-- ---- the borrower and the fine

module _ (H : History) (legal : IsLegal H) (inv : Invariant H) (c : ℕ) (q : LoanRow) (l : IsLent H c q) where
  pub borrower-is : borrower H q.loan ≡ q.patron
  borrower-is = ap (λ o. unwrap_or (option_map (λ r. r.patron) o) 0) l.made ∙ ap (λ x. x.patron) l.row

  pub enrolled : (f : PatronFacts) × (patron_of H q.patron ≡ Some f)
  enrolled = subst (λ (x : LoanRow). (f : PatronFacts) × (patron_of H x.patron ≡ Some f)) l.row (borrower-there H inv q.loan l.facts l.made)

  pub borrower_row : (rows : View) → IsLenderView (picture H) (Some q) rows → rows.patron ≡ Some (patron_columns H q.patron enrolled.0)
  borrower_row rows w = w.patron ∙ ap (option_map (patron_columns H q.patron)) enrolled.1

  fine_by : (o : Option Closings) → IsLenderOf (picture H) (Some q) o → fine_due (Some q) o (today H)
      ≡ fine_for (late (is_open H q.branch) q.due (today H)) q.rate q.cap q.grace
  fine_by (Some closings) w = ap (λ n. fine_for n q.rate q.cap q.grace) (late_same H q.branch closings w q.due (today H))
  fine_by None w = absurd (legal-lenders H legal q.loan l.facts l.made (is_none-None _ (no_branch w)))
    where
      no_branch : (picture H).branches q.branch ≡ None → is_none (branch_of H l.facts.branch) ≡ true
      no_branch e = sym (is_none-map (branch_columns H q.branch) (branch_of H l.facts.branch))
          ∙ ap (λ x. is_none (option_map (branch_columns H q.branch) (branch_of H x.branch))) l.row ∙ ap is_none e

  -- The fine on the rows is that of the history.
  pub fine_same : (rows : View) → IsLenderView (picture H) (Some q) rows → fine_due (Some q) rows.lender (today H) ≡ fine_now H (grace_of H) q.loan
  fine_same rows w =
      fine_by rows.lender w.calendar
      ∙ ap (λ x. fine_for (late (is_open H x.branch) x.due (today H)) x.rate x.cap x.grace) (sym l.row)
      ∙ sym (ap (λ o. unwrap_or (option_map
      (λ r. fine_for (late (is_open H r.branch) (due H q.loan) (today H)) r.terms.rate r.terms.cap
      (unwrap_or (option_map (λ x. x.terms.grace) o) 0)) o) 0) l.made)

  pub fine-small : fine_now H (grace_of H) q.loan ≤ 100000
  fine-small = fine_now-small H (legal-MoneyLaws H legal) (legal-SettingLaws H legal) q.loan

-- ---- the loans

-- A loan's row after a check-in or missing of the copy.
abbrev pub loan_ended : History → ℕ → ℕ → Option LoanRow
loan_ended H c n = option_map (λ x.
    record (loan_columns H n x) { ended = option_or (ended H n) (cond (is_loan_of_copy H n c) (Some (today H)) None) }) (loan_of H n)

module _ (H : History) (inv : Invariant H) (c : ℕ) where
  ends_not : (n : ℕ) → (place H c ≡ Loan n → ⊥) → loan_row H n ≡ loan_ended H c n
  ends_not n elsewhere = go (loan_of H n) refl
    where
      same : (r : LoanFacts) → loan_of H n ≡ Some r → (o : Option ℕ) → ended H n ≡ o → o ≡ option_or o (cond (is_loan_of_copy H n c) (Some (today H)) None)
      same r e (Some d) f = refl
      same r e None f = other (is_loan_of_copy H n c) refl
        where
          other : (b : Bool) → is_loan_of_copy H n c ≡ b → None ≡ cond b (Some (today H)) None
          other true g =
              let of_copy : r.copy ≡ c = eqb-true _ _ (ap (λ o. unwrap_or (option_map (λ x. x.copy == c) o) false) (sym e) ∙ g) in
              absurd (elsewhere (subst (λ k. place H k ≡ Loan n) of_copy (inv.open_loan n r e f)))
          other false g = refl

      go : (o : Option LoanFacts) → loan_of H n ≡ o → loan_row H n ≡ loan_ended H c n
      go (Some r) e =
          ap (option_map (loan_columns H n)) e ∙ ap (λ o. Some (record (loan_columns H n r) { ended = o })) (same r e (ended H n) refl)
          ∙ sym (ap (option_map (λ x. record (loan_columns H n x) { ended = option_or (ended H n) (cond (is_loan_of_copy H n c) (Some (today H)) None) })) e)
      go None e = ap (option_map (loan_columns H n)) e
          ∙ sym (ap (option_map (λ x. record (loan_columns H n x) {
            ended = option_or (ended H n)
                (cond (is_loan_of_copy H n c) (Some (today H)) None);
          })) e)

  -- Of a copy that isn't on loan no loan ends.
  pub none_ends : is_on_loan (place H c) ≡ false → (n : ℕ) → loan_row H n ≡ loan_ended H c n
  none_ends off n = ends_not n (λ at. let on : is_on_loan (place H c) ≡ true = ap is_on_loan at in let never : ⊥ = cc in never)

  -- The open loan of the copy ends today, and no other.
  pub one_ends : (q : LoanRow) → IsLent H c q → (n : ℕ) → put (loan_row H) q.loan (Some (ended_loan q (today H))) n ≡ loan_ended H c n
  one_ends q l n = go (q.loan == n) refl
    where
      here : Some (ended_loan q (today H)) ≡ loan_ended H c q.loan
      here =
          let is : is_loan_of_copy H q.loan c ≡ true = ap (λ o. unwrap_or (option_map (λ x. x.copy == c) o) false) l.made ∙ eq-eqb _ _ l.of_copy in
          ap (λ (x : LoanRow). Some (record x { ended = Some (today H) })) (sym l.row)
          ∙ sym (ap (option_map (λ x. record (loan_columns H q.loan x) { ended = Some (today H) })) l.made)
          ∙ sym (ap (λ b. option_map (λ x. record (loan_columns H q.loan x) { ended = option_or None (cond b (Some (today H)) None) }) (loan_of H q.loan)) is)
          ∙ sym (ap (λ o. option_map (λ x.
          record (loan_columns H q.loan x) { ended = option_or o (cond (is_loan_of_copy H q.loan c) (Some (today H)) None) })
          (loan_of H q.loan)) l.unended)

      go : (b : Bool) → (q.loan == n) ≡ b → (elim b as (λ _. Option LoanRow) [ true ↦ Some (ended_loan q (today H)) | false ↦ loan_row H n ]) ≡ loan_ended H c n
      go true e = subst (λ k. Some (ended_loan q (today H)) ≡ loan_ended H c k) (eqb-true _ _ e) here
      go false e = ends_not n (λ at.
          let same : q.loan ≡ n = let both : Loan q.loan ≡ Loan n = sym l.here ∙ at in cc in
          false-ne _ _ e same)

-- ---- the lines

-- Off loan there is no fine and no line of one.
pub fine_line-none : (H : History) (p : Place) → is_on_loan p ≡ false → fine_line H (grace_of H) p ≡ []
fine_line-none H (Loan l) e = let never : ⊥ = cc in absurd never
fine_line-none H _ e = refl

pub fine_at-none : (H : History) (p : Place) → is_on_loan p ≡ false → fine_at H (grace_of H) p ≡ 0
fine_at-none H (Loan l) e = let never : ⊥ = cc in absurd never
fine_at-none H _ e = refl

-- A charge makes so many lines.
pub line-count : (H : History) (p : ℕ) (sort : Sort) (loan : Option ℕ) (n : ℕ) → length (line_of H p sort loan n) ≡ lines_for n
line-count H p sort loan zero = refl
line-count H p sort loan (suc n) = sym (ap (λ b. elim b as (λ _. ℕ) [ true ↦ 0 | false ↦ 1 ]) (is_suc n))

lt-suc : (a b c : ℕ) → b ≡ c + 1 → nat_lt (a + 1) b ≡ nat_lt a c
lt-suc a b c e = go (cases_lt a c)
  where
    go : (a < c) ⊎ (c ≤ a) → nat_lt (a + 1) b ≡ nat_lt a c
    go (inl lt) = lt-ltb (a + 1) b (omega (arith, lt, e)) ∙ sym (lt-ltb a c lt)
    go (inr le) = le-ltb (a + 1) b (omega (arith, le, e)) ∙ sym (le-ltb a c le)

-- The numbers that are left suffice on the rows as they do in the history.
pub lacks_same : (H : History) (fine price : ℕ) (xs : List Line) → length xs ≡ lines_for fine + lines_for price
    → lacks_numbers (meta_row H) fine price ≡ lacks_lines H (sight H) (length xs)
lacks_same H fine price xs e = lt-suc LAST_NUMBER (next_line H + lines_for fine + lines_for price) (length (lines H) + length xs) (omega (arith, e))

module _ (H : History) (legal : IsLegal H) (inv : Invariant H) (c : ℕ) (q : LoanRow) (l : IsLent H c q) where
  pub fine_line-is : fine_line H (grace_of H) (place H c) ≡ line_of H q.patron Fine (Some q.loan) (fine_now H (grace_of H) q.loan)
  fine_line-is = ap (fine_line H (grace_of H)) l.here
      ∙ ap (λ n. line_of H n Fine (Some q.loan) (fine_now H (grace_of H) q.loan)) (borrower-is H legal inv c q l)

  pub fine_at-is : fine_at H (grace_of H) (place H c) ≡ fine_now H (grace_of H) q.loan
  fine_at-is = ap (fine_at H (grace_of H)) l.here

  pub price_line-is : price_line H c (place H c) ≡ line_of H q.patron Price (Some q.loan) (price_of H c)
  price_line-is = ap (price_line H c) l.here ∙ ap (λ n. line_of H n Price (Some q.loan) (price_of H c)) (borrower-is H legal inv c q l)

  -- The lines of the history after the fine alone.
  pub fine_lines : lines H ++ fine_line H (grace_of H) (place H c) ≡ lines_with H q.patron q.loan (fine_now H (grace_of H) q.loan) 0
  fine_lines = ap (λ xs. lines H ++ xs) (fine_line-is ∙ sym (append-nil (line_of H q.patron Fine (Some q.loan) (fine_now H (grace_of H) q.loan))))

  -- The lines of the history after the fine and the price.
  pub both_lines : lines H ++ (fine_line H (grace_of H) (place H c) ++ price_line H c (place H c)) ≡ lines_with H q.patron q.loan
      (fine_now H (grace_of H) q.loan) (price_of H c)
  both_lines = rw (fine_line-is, price_line-is) refl

  -- The fine and a price are charged as the history has it, on any tables that show its account and numbers.
  pub charges_show : (rows : View) → IsLenderView (picture H) (Some q) rows → (price : ℕ) → price ≤ 1000000 → (P : Picture) → P.meta ≡ meta_row H
      → ((k : ℕ) → P.patrons k ≡ patron_row H k) → ((k : ℕ) → P.lines k ≡ line_row H k)
      → ShowsLines H (lines_with H q.patron q.loan (fine_now H (grace_of H) q.loan) price) P
      (changed (charge_rows (meta_row H) rows.patron (Some q) (fine_due (Some q) rows.lender (today H)) price) P)
  charges_show rows w price small P meta patrons rows_of_lines =
      let f : (f : PatronFacts) × (patron_of H q.patron ≡ Some f) = enrolled H legal inv c q l in
      rw (fine_same H legal inv c q l rows w, borrower_row H legal inv c q l rows w)
      (shows H q.patron q.loan inv f.0 f.1 q refl refl P meta patrons rows_of_lines (fine_now H (grace_of H) q.loan) price (fine-small H legal inv c q l) small)
