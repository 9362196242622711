-- Pay and waive meet the history.
use Rattle.terms.specs.declared.limits.TheConstants.{LAST_NUMBER}
use Rattle.std.proofs.Common.{◌≡◌, ℕ, zero, suc, ◌+◌, ◌-◌, ◌≤◌, ◌==◌, Bool, true, false, cond, not, ◌||◌, List, [], ◌∷◌, ◌++◌, length, refl, sym}
use Rattle.std.proofs.Common.{◌∙◌, ap, subst, arith}
use Rattle.std.specs.Prelude.{Option, Some, None, option_map, option_and_then, is_none, filter, nat_lt}
use Rattle.std.proofs.lemmas.Bool.{eqb-true, eq-eqb, or_parts}
use Rattle.std.proofs.lemmas.List.Elements.{filter-append}
use Rattle.std.proofs.lemmas.List.Sums.{sum_by-append}
use Rattle.terms.specs.declared.row.PatronRow.{PatronRow}
use Rattle.terms.specs.declared.row.LineRow.{LineRow}
use Rattle.terms.specs.declared.row.NoteRow.{NoteRow}
use Rattle.terms.specs.declared.row.Sort.{Sort}
use Rattle.terms.specs.declared.row.Sort.TheVariants.{Payment, Waiver}
use Rattle.terms.specs.declared.command.Command.TheVariants.{Pay, Waive}
use Rattle.terms.specs.declared.command.Owner.TheVariants.{Desk}
use Rattle.terms.specs.declared.reply.Reply.TheVariants.{Owed}
use Rattle.terms.specs.Pictures.{put}
use Rattle.terms.specs.declared.refusal.Refusal.TheVariants as check
use Rattle.model.specs.History.{History, today, PatronFacts, patron_of}
use Rattle.model.specs.Accounts.{Note, Line, lines, next_line, account, charge, credit, charges, credits, owed}
use Rattle.model.specs.Refusals.{checks, has_patron}
use Rattle.model.specs.Picture.{picture, meta_row, patron_row, patron_columns, nth_line, line_row, line_columns, note_row, note_columns}
use Rattle.model.proofs.Moves.{false-ne}
use Rattle.model.proofs.Passing.{passed}
use Rattle.model.proofs.Unnoted.{note_in, notes-stay}
use Rattle.circ_core.specs.Decides.{event}
use Rattle.circ_core.specs.declared.views.View.{View}
use Rattle.circ_core.specs.Debt.{owed_by}
use Rattle.circ_core.specs.PayAndWaive.{settle_checks, settle_rows, settled}
use Rattle.circ_core.specs.Views.{IsAccountView}
use Rattle.circ_core.proofs.Meets.{Meets, Leads, SameChecks}
use Rattle.circ_core.proofs.Rows.{none-map, some-is}

-- The line that is added has the next number.
pub nth-added : (xs : List Line) (x : Line) (k : ℕ) → length xs + 1 ≡ k → nth_line (xs ++ x ∷ []) k ≡ Some x
nth-added [] x zero e = let never : ⊥ = omega (arith, e) in absurd never
nth-added [] x (suc zero) e = refl
nth-added [] x (suc (suc k)) e = let never : ⊥ = omega (arith, e) in absurd never
nth-added (y ∷ xs) x zero e = let never : ⊥ = omega (arith, e) in absurd never
nth-added (y ∷ xs) x (suc zero) e = let never : ⊥ = omega (arith, e) in absurd never
nth-added (y ∷ xs) x (suc (suc k)) e = nth-added xs x (suc k) (omega (arith, e))

-- Under every other number is what was there.
pub nth-kept : (xs : List Line) (x : Line) (k : ℕ) → (length xs + 1 ≡ k → ⊥) → nth_line (xs ++ x ∷ []) k ≡ nth_line xs k
nth-kept [] x zero ne = refl
nth-kept [] x (suc zero) ne = absurd (ne refl)
nth-kept [] x (suc (suc k)) ne = refl
nth-kept (y ∷ xs) x zero ne = refl
nth-kept (y ∷ xs) x (suc zero) ne = refl
nth-kept (y ∷ xs) x (suc (suc k)) ne = nth-kept xs x (suc k) (λ e. ne (omega (arith, e)))

pub length-added : (xs : List Line) (x : Line) → length (xs ++ x ∷ []) ≡ length xs + 1
length-added [] x = refl
length-added (y ∷ xs) x = omega (arith, length-added xs x)

module _ (H : History) (p m : ℕ) (sort : Sort) (remark : Option Note) where
  abbrev pub added : Line
  added = record { patron = p; day = today H; sort = sort; amount = suc m; loan = None; note = remark }

  abbrev pub lines_now : List Line
  lines_now = lines H ++ added ∷ []

  abbrev pub owed_now : ℕ → ℕ
  owed_now q = charges (filter (λ x. x.patron == q) lines_now) - credits (filter (λ x. x.patron == q) lines_now)

  owed_split : (q : ℕ) → owed_now
      q ≡ (charges (account H q) + charges (cond (p == q) (added ∷ []) [])) - (credits (account H q) + credits
      (cond (p == q) (added ∷ []) []))
  owed_split q =
      rw (
        filter-append (λ x. x.patron == q) (lines H) (added ∷ []),
        sum_by-append (λ x. charge x.sort x.amount) (account H q) (cond (p == q) (added ∷ []) []),
        sum_by-append (λ x. credit x.sort x.amount) (account H q) (cond (p == q) (added ∷ []) []),
      ) refl

  -- The patron owes so much less or more, and nobody else owes anything else.
  pub owed_less : charge sort (suc m) ≡ 0 → credit sort (suc m) ≡ suc m → owed_now p ≡ owed H p - suc m
  owed_less no_charge is_credit = go (p == p) (eq-eqb p p refl) (owed_split p)
    where
      go : (b : Bool) → b ≡ true → owed_now
          p ≡ (charges (account H p) + charges (cond b (added ∷ []) [])) - (credits (account H p) + credits (cond b (added ∷ []) []))
          → owed_now p ≡ owed H p - suc m
      go true e s = s ∙ omega (arith, no_charge, is_credit)
      go false e s = let never : ⊥ = cc in absurd never

  pub owed_more : charge sort (suc m) ≡ suc m → credit sort (suc m) ≡ 0 → credits (account H p) ≤ charges (account H p)
      → owed_now p ≡ owed H p + suc m
  owed_more is_charge no_credit covers = go (p == p) (eq-eqb p p refl) (owed_split p)
    where
      go : (b : Bool) → b ≡ true → owed_now
          p ≡ (charges (account H p) + charges (cond b (added ∷ []) [])) - (credits (account H p) + credits (cond b (added ∷ []) []))
          → owed_now p ≡ owed H p + suc m
      go true e s = s ∙ omega (arith, is_charge, no_credit, covers)
      go false e s = let never : ⊥ = cc in absurd never

  owed_kept : (q : ℕ) → (p == q) ≡ false → owed_now q ≡ owed H q
  owed_kept q e = go (p == q) e (owed_split q)
    where
      go : (b : Bool) → b ≡ false → owed_now
          q ≡ (charges (account H q) + charges (cond b (added ∷ []) [])) - (credits (account H q) + credits (cond b (added ∷ []) []))
          → owed_now q ≡ owed H q
      go true f s = let never : ⊥ = cc in absurd never
      go false f s = s ∙ omega arith

  pub lines_lead : (k : ℕ) → put (line_row H) (next_line H) (Some (line_columns H (next_line H) added)) k ≡ option_map (line_columns H k) (nth_line lines_now k)
  lines_lead k = go (next_line H == k) refl
    where
      go : (b : Bool) → (next_line H == k) ≡ b
          → (elim b as (λ _. Option LineRow) [ true ↦ Some (line_columns H (next_line H) added) | false ↦ line_row H k ]) ≡ option_map
          (line_columns H k) (nth_line lines_now k)
      go true e =
          let same : next_line H ≡ k = eqb-true _ _ e in
          ap (λ n. Some (line_columns H n added)) same ∙ sym (ap (option_map (line_columns H k)) (nth-added (lines H) added k same))
      go false e = sym (ap (option_map (line_columns H k)) (nth-kept (lines H) added k (false-ne _ _ e)))

  -- The patron's row shows this amount, if it is what the lines leave.
  pub patrons_lead : (o : ℕ) → owed_now p ≡ o → (r : PatronFacts) → patron_of H p ≡ Some r → (q : ℕ)
      → put (patron_row H) p (Some (record (patron_columns H p r) { owed = o })) q
      ≡ option_map (λ x. record { patron = q; kind = x.kind; card_key = x.card_key; name = x.name; owed = owed_now q }) (patron_of H q)
  patrons_lead o is r there q = go (p == q) refl
    where
      go : (b : Bool) → (p == q) ≡ b
          → (elim b as (λ _. Option PatronRow) [ true ↦ Some (record (patron_columns H p r) { owed = o }) | false ↦ patron_row H q ])
          ≡ option_map (λ x. record { patron = q; kind = x.kind; card_key = x.card_key; name = x.name; owed = owed_now q }) (patron_of H q)
      go true e = subst (λ n. Some (record (patron_columns H p r) { owed = o })
          ≡ option_map (λ x. record { patron = n; kind = x.kind; card_key = x.card_key; name = x.name; owed = owed_now n }) (patron_of H n)) (eqb-true p q e)
          (ap (λ n. Some (record (patron_columns H p r) { owed = n })) (sym is)
          ∙ sym (ap (option_map (λ x. record { patron = p; kind = x.kind; card_key = x.card_key; name = x.name; owed = owed_now p })) there))
      go false e = ap (λ n. option_map (λ x. record { patron = q; kind = x.kind; card_key = x.card_key; name = x.name; owed = n })
          (patron_of H q)) (sym (owed_kept q e))

  pub meta_lead : record (meta_row H) { next_line = next_line H + 1 } ≡ record (meta_row H) { next_line = length lines_now + 1 }
  meta_lead = ap (λ n. record (meta_row H) { next_line = n + 1 }) (sym (length-added (lines H) added))

  -- A line without a note leaves the notes as they are.
  notes_kept : remark ≡ None → (n : ℕ) → note_row H n ≡ note_in H lines_now n n
  notes_kept none n = sym (notes-stay H (lines H) (added ∷ []) n n (none, tt))

  -- The note of a line is put under the line's number.
  pub notes_lead : (x : Note) → remark ≡ Some x → (n : ℕ) → put (note_row H) (next_line H) (Some (note_columns H (next_line H) x)) n ≡ note_in H lines_now n n
  notes_lead x is n = go (next_line H == n) refl
    where
      go : (b : Bool) → (next_line H == n) ≡ b
          → (elim b as (λ _. Option NoteRow) [ true ↦ Some (note_columns H (next_line H) x) | false ↦ note_row H n ]) ≡ note_in H lines_now n n
      go true e =
          let same : next_line H ≡ n = eqb-true _ _ e in
          ap (λ k. Some (note_columns H k x)) same
          ∙ sym (ap (λ o. option_and_then (λ y. option_map (note_columns H n) y.note) o) (nth-added (lines H) added n same)
          ∙ ap (option_map (note_columns H n)) is)
      go false e = sym (ap (λ o. option_and_then (λ y. option_map (note_columns H n) y.note) o) (nth-kept (lines H) added n (false-ne _ _ e)))

module _ (H : History) (p : ℕ) (rows : View) (w : IsAccountView (picture H) p rows) where
  patron_is : (r : PatronFacts) → patron_of H p ≡ Some r → rows.patron ≡ Some (patron_columns H p r)
  patron_is r there = w.patron ∙ ap (option_map (patron_columns H p)) there

  owed_same : not (has_patron H p) ≡ false → owed_by rows.patron ≡ owed H p
  owed_same ok = let r : (r : PatronFacts) × (patron_of H p ≡ Some r) = some-is (patron_of H p) ok in ap owed_by (patron_is r.0 r.1)

  settle_same : (n : ℕ) → SameChecks (settle_checks rows n) (checks H Desk (Pay p n))
  settle_same n = (
    refl,
    (ap is_none w.patron ∙ none-map (patron_columns H p) (patron_of H p)),
    λ p11. (
      refl,
      (ap (λ x. (n == 0) || nat_lt x n) (owed_same p11)),
      λ _.
          (refl, (ap (λ m. nat_lt LAST_NUMBER m.next_line) w.meta), λ _. tt),
    ),
  )

  pay_lead : (r : PatronFacts) → patron_of H p ≡ Some r → (n : ℕ) → (n == 0) ≡ false
      → Leads H (Pay p n) (settled (meta_row H) (Some (patron_columns H p r)) p Payment n)
  pay_lead r there zero e owner key = let never : ⊥ = cc in absurd never
  pay_lead r there (suc m) e owner key = λ i. record (picture (event owner key (Pay p (suc m)) ∷ H)) {
    meta = (meta_lead H p m Payment None) i;
    patrons = λ n. patrons_lead H p m Payment None _ (owed_less H p m Payment None refl refl) r there n i;
    lines = λ n. lines_lead H p m Payment None n i;
    notes = λ n. notes_kept H p m Payment None refl n i;
  }

  waive_lead : (r : PatronFacts) → patron_of H p ≡ Some r → (n : ℕ) → (n == 0) ≡ false
      → Leads H (Waive p n) (settled (meta_row H) (Some (patron_columns H p r)) p Waiver n)
  waive_lead r there zero e owner key = let never : ⊥ = cc in absurd never
  waive_lead r there (suc m) e owner key = λ i. record (picture (event owner key (Waive p (suc m)) ∷ H)) {
    meta = (meta_lead H p m Waiver None) i;
    patrons = λ n. patrons_lead H p m Waiver None _ (owed_less H p m Waiver None refl refl) r there n i;
    lines = λ n. lines_lead H p m Waiver None n i;
    notes = λ n. notes_kept H p m Waiver None refl n i;
  }

  pub pay_meets : (n : ℕ) → Meets H (Pay p n) (settle_checks rows n) (Owed (owed_by rows.patron - n)) (settle_rows rows p Payment n)
  pay_meets n = record {
    same = settle_same n;
    due = λ ok. ap (λ x. Owed (x - n)) (owed_same (passed (checks H Desk (Pay p n)) ok check.UnknownPatron));
    leads = λ ok owner key.
        let k = passed (checks H Desk (Pay p n)) ok in
        let r : (r : PatronFacts) × (patron_of H p ≡ Some r) = some-is (patron_of H p) (k check.UnknownPatron) in
        rw (w.meta, patron_is r.0 r.1) (pay_lead r.0 r.1 n (or_parts _ _ (k check.BadAmount)).0 owner key);
  }

  pub waive_meets : (n : ℕ) → Meets H (Waive p n) (settle_checks rows n) (Owed (owed_by rows.patron - n)) (settle_rows rows p Waiver n)
  waive_meets n = record {
    same = settle_same n;
    due = λ ok. ap (λ x. Owed (x - n)) (owed_same (passed (checks H Desk (Waive p n)) ok check.UnknownPatron));
    leads = λ ok owner key.
        let k = passed (checks H Desk (Waive p n)) ok in
        let r : (r : PatronFacts) × (patron_of H p ≡ Some r) = some-is (patron_of H p) (k check.UnknownPatron) in
        rw (w.meta, patron_is r.0 r.1) (waive_lead r.0 r.1 n (or_parts _ _ (k check.BadAmount)).0 owner key);
  }
