-- Each accepted check-out, renewal and hold keeps to the limits of the patron's kind.
use Rattle.std.proofs.Common.{◌≡◌, ℕ, ◌<◌, ◌≤◌, true, false, ◌∷◌, refl, sym, ◌∙◌, ap, subst, length}
use Rattle.std.specs.Prelude.{Option, Some, None, is_some, nat_lt, option_map, unwrap_or}
use Rattle.std.proofs.lemmas.Bool.{and_parts, ltb-false, leb-false}
use Rattle.terms.specs.declared.command.Command.TheVariants.{CheckOut, Renew, PlaceHold}
use Rattle.terms.specs.declared.row.KindRow.{KindRow}
use Rattle.terms.specs.declared.row.PatronRow.{PatronRow}
use Rattle.terms.specs.declared.refusal.Refusal.TheVariants as check
use Rattle.model.specs.History.{Event, History, KindFacts, kind_of, PatronFacts, patron_of}
use Rattle.model.specs.Loans.{LoanFacts, loan_of, open_loans}
use Rattle.model.specs.Accounts.{borrower, owed}
use Rattle.model.specs.Refusals.{refusal, checks, kind_now, active_holds}
use Rattle.model.specs.Picture.{picture, kind_columns, patron_columns}
use Rattle.model.specs.Requests.{IsLegal}
use Rattle.model.specs.TurnLaws.{IsOfKind, KindAllows, OwesAtMost, IsWithinLimits, Limits}
use Rattle.model.proofs.Passing.{passed}
use Rattle.model.proofs.Bindings.{not-false}
use Rattle.model.proofs.ClaimsLaw.{map-some}
use Rattle.model.proofs.Invariants.{legal-Invariant}
use Rattle.model.proofs.References.{legal-references}
use Rattle.model.proofs.SettingRanges.{there}
use Rattle.model.proofs.Turns.{each-event}

-- The kind of an enrolled patron has a row, which says what the kind is now.
known-kind : (H : History) → IsLegal H → (p : ℕ) (f : PatronFacts) → patron_of H p ≡ Some f
    → (k : KindFacts) × IsOfKind (picture H) p (kind_columns H f.kind k) × (kind_now H p ≡ k)
known-kind H legal p f at =
    let row : (picture H).patrons p ≡ Some (patron_columns H p f) = ap (option_map (patron_columns H p)) at in
    let kinds = there ((picture H).kinds f.kind) ((legal-references H legal).patron_kind p (patron_columns H p f) row) in
    let k = map-some (kind_columns H f.kind) (kind_of H f.kind) kinds.0 kinds.1 in (
      k.0,
      record { row = patron_columns H p f; enrolled = row; kind = ap (option_map (kind_columns H f.kind)) k.1 },
      ap (λ o. unwrap_or (kind_of H (unwrap_or (option_map (λ r. r.kind) o) 0)) (record { loans = 0; holds = 0; debt = 0 })) at
          ∙ ap (λ o. unwrap_or o (record { loans = 0; holds = 0; debt = 0 })) k.1,
    )

-- What a test says of the kind now, the kind's row allows.
allows : (H : History) → IsLegal H → (p : ℕ) → is_some (patron_of H p) ≡ true → (Allows : KindRow → Type 0)
    → ((n : ℕ) → Allows (record { kind = n; loans = (kind_now H p).loans; holds = (kind_now H p).holds; debt = (kind_now H p).debt }))
    → KindAllows H p Allows
allows H legal p enrolled Allows is =
    let f = there (patron_of H p) enrolled in
    let k = known-kind H legal p f.0 f.1 in (
      kind_columns H f.0.kind k.0,
      k.1,
      subst (λ (q : KindFacts). Allows (kind_columns H f.0.kind q)) k.2 (is f.0.kind),
    )

owes-at-most : (H : History) (p most : ℕ) → nat_lt most (owed H p) ≡ false → OwesAtMost H p most
owes-at-most H p most e r row =
    let f = map-some (patron_columns H p) (patron_of H p) r row in
    subst (λ (q : PatronRow). q.owed ≤ most) f.2 (ltb-false most (owed H p) e)

loan-patron : (H : History) → IsLegal H → (l : ℕ) → is_some (loan_of H l) ≡ true → is_some (patron_of H (borrower H l)) ≡ true
loan-patron H legal l made =
    let r = there (loan_of H l) made in
    let who : borrower H l ≡ r.0.patron = ap (λ o. unwrap_or (option_map (λ x. x.patron) o) 0) r.1 in
    subst (λ p. is_some (patron_of H p) ≡ true) (sym who) (go r.0 r.1 (patron_of H r.0.patron) refl)
  where
    go : (r : LoanFacts) → loan_of H l ≡ Some r → (o : Option PatronFacts) → patron_of H r.patron ≡ o → is_some (patron_of H r.patron) ≡ true
    go r at (Some f) e = ap is_some e
    go r at None e = absurd ((legal-Invariant H legal).borrowers l r at e)

within-limits : (e : Event) (H : History) → IsLegal (e ∷ H) → IsWithinLimits e H
within-limits e H legal = record {
  lent = λ p c b is.
      let k = passed (checks H e.owner (CheckOut p c b)) (subst (λ x. refusal H e.owner x ≡ None) is legal.0.unrefused) in
      allows H legal.1 p (not-false _ (k check.UnknownPatron)) (λ q. (length (open_loans H p) < q.loans) × OwesAtMost H p q.debt)
      (λ n. (leb-false (kind_now H p).loans (length (open_loans H p)) (k check.TooManyLoans), owes-at-most H p (kind_now H p).debt (k check.OwesTooMuch)));
  renewed = λ l is.
      let k = passed (checks H e.owner (Renew l)) (subst (λ x. refusal H e.owner x ≡ None) is legal.0.unrefused) in
      allows H legal.1 (borrower H l) (loan-patron H legal.1 l (and_parts _ _ (not-false _ (k check.UnknownLoan))).0) (λ q. OwesAtMost H (borrower H l) q.debt)
      (λ n. owes-at-most H (borrower H l) (kind_now H (borrower H l)).debt (k check.OwesTooMuch));
  placed = λ p t b d is.
      let k = passed (checks H e.owner (PlaceHold p t b d)) (subst (λ x. refusal H e.owner x ≡ None) is legal.0.unrefused) in
      allows H legal.1 p (not-false _ (k check.UnknownPatron)) (λ q. length (active_holds H p) < q.holds)
      (λ n. leb-false (kind_now H p).holds (length (active_holds H p)) (k check.TooManyHolds));
}

pub limits : Limits
limits = each-event IsWithinLimits within-limits
