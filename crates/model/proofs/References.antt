-- In every legal history, the rows that a row names exist.
use Rattle.std.proofs.Common.{◌≡◌, ℕ, zero, suc, ◌==◌, Bool, true, false, cond, ◌&&◌, List, [], ◌∷◌, ◌++◌, refl, sym, ◌∙◌, ap, subst}
use Rattle.std.specs.Prelude.{Option, Some, None, is_some, option_map, option_and_then, unwrap_or, bytes_eq}
use Rattle.std.specs.Option.{option_or}
use Rattle.std.specs.List.{AllByRecursion}
use Rattle.std.proofs.lemmas.Bool.{and_parts, eqb-true, eq-eqb}
use Rattle.terms.specs.Pictures.{same_owner}
use Rattle.terms.specs.Texts.{request_text}
use Rattle.terms.specs.declared.command.Owner.{Owner}
use Rattle.terms.specs.declared.command.Owner.TheVariants.{Patron as Reader}
use Rattle.terms.specs.declared.command.Command.{Command}
use Rattle.terms.specs.declared.command.Command.TheVariants.{SetCardKey, AmendPatron, AmendCopy, Rehome}
use Rattle.terms.specs.declared.command.Command.TheVariants.{Rule, Grace, Patron, Acquire, CheckOut}
use Rattle.terms.specs.declared.row.Sort.{Sort}
use Rattle.terms.specs.declared.row.Sort.TheVariants.{Fine, Price, Charge as ChargeSort}
use Rattle.terms.specs.declared.row.HoldState.{HoldState}
use Rattle.terms.specs.declared.row.BarcodeRow.{BarcodeRow}
use Rattle.terms.specs.declared.row.HoldState.TheVariants.{Waiting, Ready, Filled, Cancelled, Expired}
use Rattle.terms.specs.declared.refusal.Refusal.TheVariants as check
use Rattle.model.specs.Calendar.{is_single}
use Rattle.model.specs.History.{History, today, singles_of, BranchFacts, branch_of, branch_after, kind_of, kind_after, Terms}
use Rattle.model.specs.History.{rule_of, rule_after, PatronFacts, patron_of, patron_after, title_of, title_after, CopyFacts, copy_of}
use Rattle.model.specs.History.{with_grace, with_card_key, with_kind, with_price, with_home, copy_after, copies, next_loan, HoldFacts, hold_made, hold_of, hold_after, next_hold, barcode_of}
use Rattle.model.specs.Places.{Place, Nowhere, HoldShelf, Transit, Loan, place, state, is_kept_for, kept_for, goal_of, home_of}
use Rattle.model.specs.Loans.{LoanFacts, loan_of, loan_after, grace_of, terms_for, no_terms}
use Rattle.model.specs.Accounts.{Note, Line, Posting, Returned, Lost, Settled, Charged, NoPosting, posting, noted_line, line_of, lines, lines_after, fine_line}
use Rattle.model.specs.Accounts.{price_line, fine_now, price_of, borrower}
use Rattle.model.specs.Answers.{accepted}
use Rattle.model.specs.Picture.{picture, rule_columns, patron_columns, copy_columns, loan_columns, hold_columns, if_ready, nth_line, line_columns, kept_columns}
use Rattle.model.specs.Invariant.{Invariant, Fits}
use Rattle.model.specs.Refusals.{refusal, checks}
use Rattle.model.specs.Requests.{IsLegal, is_enrolled, Kept, kept_of}
use Rattle.model.specs.References.{HasReferences, HasThing}
use Rattle.model.proofs.Passing.{passed}
use Rattle.model.proofs.MadeHolds.{placeable}
use Rattle.model.proofs.Postings.{settling, charging}
use Rattle.model.proofs.Labels.{label-there}
use Rattle.model.proofs.Notes.{note-there}
use Rattle.model.proofs.Bindings.{not-false, kept-is, find-some}
use Rattle.model.proofs.ClaimsLaw.{map-some, hold-facts, transit-place}
use Rattle.model.proofs.Invariants.{legal-Invariant}
use Rattle.model.proofs.PlaceSteps.{KeepsPlaces, place_after-keeps, copy-known}
use Rattle.model.proofs.Repeats.{same_owner-is}
use Rattle.model.proofs.SettingRanges.{set-if, make-at, none-some}
use Rattle.model.proofs.Amending.{amended-keeps}
use Rattle.model.proofs.Staying.{IsThere, some-there, not-none-there, is_none-there, map-there, branch-stays, kind-stays, patron-stays, title-stays, copy-stays, loan-stays}

-- The title that an acquire names is there after it.
title-made : (n : ℕ) (o : Option (List ℕ)) (text : List ℕ)
    → IsThere (option_or o (cond (n == n) (Some text) None))
title-made n (Some x) text = refl
title-made n None text = go (n == n) (eq-eqb n n refl)
  where
    go : (b : Bool) → b ≡ true → IsThere (cond b (Some text) None)
    go true e = refl
    go false e = let never : ⊥ = cc in absurd never

-- ---- what every legal history keeps

-- The branch to which a copy in this place travels is there.
abbrev GoesThere : (ℕ → Option BranchFacts) → Place → Type 0
GoesThere branches (Transit g h) = IsThere (branches g)
GoesThere branches _ = Unit {0}

-- The patron of a line is there, and its loan if it has one.
abbrev LineThere : (ℕ → Option PatronFacts) → (ℕ → Option LoanFacts) → Line → Type 0
LineThere patrons loans x =
    IsThere (patrons x.patron) × ((l : ℕ) → x.loan ≡ Some l → IsThere (loans l))

record ReferenceLaws (H : History) : Type 0 where
  rules : (k c : ℕ) (t : Terms) → rule_of H k c ≡ Some t → IsThere (kind_of H k)
  patrons : (p : ℕ) (r : PatronFacts) → patron_of H p ≡ Some r → IsThere (kind_of H r.kind)
  copies : (c : ℕ) (r : CopyFacts) → copy_of H c ≡ Some r
      → IsThere (title_of H r.title) × IsThere (branch_of H r.home)
  loans : (l : ℕ) (r : LoanFacts) → loan_of H l ≡ Some r
      → IsThere (copy_of H r.copy) × IsThere (branch_of H r.branch)
  holds : (h : ℕ) (r : HoldFacts) → hold_of H h ≡ Some r
      → IsThere (patron_of H r.patron) × IsThere (title_of H r.title)
      × IsThere (branch_of H r.branch)
  places : (c : ℕ) → GoesThere (branch_of H) (place H c)
  lines : AllByRecursion (LineThere (patron_of H) (loan_of H)) (lines H)
  callers : (p : ℕ) (key : List ℕ) (x : Kept) → kept_of H (Reader p) key ≡ Some x
      → IsThere (patron_of H p)

-- ---- one event

module _ (H : History) (inv : Invariant H) (before : ReferenceLaws H) (o : Owner) where
  rules-step : (x : Command) → refusal H o x ≡ None → (k c : ℕ) (t : Terms)
      → rule_after x k c (rule_of H k c) ≡ Some t → IsThere (kind_after x k (kind_of H k))
  rules-step (Rule n m period renewals rate most) ok k c t e =
      let known : IsThere (kind_of H n) = is_none-there (kind_of H n) (passed (checks H o
      (Rule n m period renewals rate most)) ok check.UnknownKind) in
      set-if (λ _. IsThere (kind_of H k)) ((n == k) && (m == c))
      (record { period = period; renewals = renewals; rate = rate; cap = most; grace = 0 }) (rule_of H k c)
      (λ d. subst (λ a. IsThere (kind_of H a)) (eqb-true n k (and_parts (n == k)
      (m == c) d).0) known) (before.rules k c) t e
  rules-step (Grace n m days) ok k c t e =
      amended-keeps (λ _. IsThere (kind_of H k)) ((n == k) && (m == c)) (with_grace days) (rule_of H k c) (before.rules k c) (λ _ there. there) t e
  rules-step x ok k c t e = kind-stays x k (kind_of H k) (before.rules k c t e)

  patrons-step : (x : Command) → refusal H o x ≡ None → (p : ℕ) (r : PatronFacts)
      → patron_after x p (patron_of H p) ≡ Some r → IsThere (kind_after x r.kind (kind_of H r.kind))
  patrons-step (Patron n k card_key name) ok p r e =
      let known : IsThere (kind_of H k) = is_none-there (kind_of H k) (passed (checks H o
      (Patron n k card_key name)) ok check.UnknownKind) in
      make-at (λ _ q. IsThere (kind_of H q.kind)) n p
      (record { kind = k; card_key = card_key; name = name }) (patron_of H p) known
      (before.patrons p) r e
  patrons-step (SetCardKey n card_key) ok p r e =
      amended-keeps (λ q. IsThere (kind_of H q.kind)) (n == p) (with_card_key card_key) (patron_of H p) (before.patrons p) (λ z was. was) r e
  patrons-step (AmendPatron n k name) ok p r e =
      let known : IsThere (kind_of H k) = is_none-there (kind_of H k) (passed (checks H o (AmendPatron n k name)) ok check.UnknownKind) in
      amended-keeps (λ q. IsThere (kind_of H q.kind)) (n == p) (with_kind k name) (patron_of H p) (before.patrons p) (λ z was. known) r e
  patrons-step x ok p r e = kind-stays x r.kind (kind_of H r.kind) (before.patrons p r e)

  -- The title and the home of a copy after a command.
  abbrev CopyThere : Command → CopyFacts → Type 0
  CopyThere x r = IsThere (title_after x r.title (title_of H r.title))
      × IsThere (branch_after x r.home (branch_of H r.home))

  copies-step : (x : Command) → refusal H o x ≡ None → (c : ℕ) (r : CopyFacts)
      → copy_after x c (copy_of H c) ≡ Some r → CopyThere x r
  copies-step (Acquire n t k home price text) ok c r e =
      let known : IsThere (branch_of H home) = not-false _ (passed (checks H o
      (Acquire n t k home price text)) ok check.UnknownBranch) in
      make-at (λ _ q. CopyThere (Acquire n t k home price text) q) n c
      (record { title = t; kind = k; home = home; price = price }) (copy_of H c)
      (title-made t (title_of H t) text, known)
      (λ q d. let old = before.copies c q d in (
        title-stays
            (Acquire n t k home price text) q.title (title_of H q.title) old.0,
        old.1,
      )) r e
  copies-step (AmendCopy n k price) ok c r e =
      amended-keeps (CopyThere (AmendCopy n k price)) (n == c) (with_price k price) (copy_of H c) (before.copies c) (λ z was. was) r e
  copies-step (Rehome n home) ok c r e =
      let known : IsThere (branch_of H home) = not-false _ (passed (checks H o (Rehome n home)) ok check.UnknownBranch) in
      amended-keeps (CopyThere (Rehome n home)) (n == c) (with_home home) (copy_of H c) (before.copies c) (λ z was. (was.0, known)) r e
  copies-step x ok c r e =
      let old = before.copies c r e in (
        title-stays x r.title (title_of H r.title) old.0,
        branch-stays x r.home
            (branch_of H r.home) old.1,
      )

  -- The copy and the branch of a loan after a command.
  abbrev LoanThere : Command → LoanFacts → Type 0
  LoanThere x r = IsThere (copy_after x r.copy (copy_of H r.copy))
      × IsThere (branch_after x r.branch (branch_of H r.branch))

  loans-step : (x : Command) → refusal H o x ≡ None → (l : ℕ) (r : LoanFacts)
      → loan_after H x l (loan_of H l) ≡ Some r → LoanThere x r
  loans-step (CheckOut p c b) ok l r e =
      let pass = passed (checks H o (CheckOut p c b)) ok in
      let branch : IsThere (branch_of H b) = not-false _ (pass check.UnknownBranch) in
      let copy : IsThere (copy_of H c) = not-false _ (pass check.UnknownCopy) in
      set-if (LoanThere (CheckOut p c b)) (next_loan H == l)
      (record {
        copy = c;
        patron = p;
        branch = b;
        made = today H;
        terms = unwrap_or
            (terms_for H p c) no_terms;
      }) (loan_of H l)
      (λ _. (copy, branch)) (before.loans l) r e
  loans-step x ok l r e =
      let old = before.loans l r e in (
        copy-stays x r.copy (copy_of H r.copy) old.0,
        branch-stays x r.branch
            (branch_of H r.branch) old.1,
      )

  -- The patron, the title and the branch of a hold after a command.
  abbrev HoldThere : Command → HoldFacts → Type 0
  HoldThere x r = IsThere (patron_after x r.patron (patron_of H r.patron))
      × IsThere (title_after x r.title (title_of H r.title))
      × IsThere (branch_after x r.branch (branch_of H r.branch))

  holds-step : (x : Command) (made : Option HoldFacts) → hold_made x ≡ made → refusal H o x ≡ None → (h : ℕ) (r : HoldFacts)
      → hold_after H made h (hold_of H h) ≡ Some r → HoldThere x r
  holds-step x (Some made) is ok h r e =
      let pass = placeable H o x made ok is in
      set-if (HoldThere x) (next_hold H == h) made (hold_of H h)
      (λ _. stays made (not-false _ pass.patron, is_none-there (title_of H made.title) pass.title, not-false _ pass.branch))
      (λ q at. stays q (before.holds h q at)) r e
    where
      stays : (q : HoldFacts) → IsThere (patron_of H q.patron) × IsThere (title_of H q.title) × IsThere (branch_of H q.branch) → HoldThere x q
      stays q old = (
        patron-stays x q.patron (patron_of H q.patron) old.0,
        title-stays x q.title (title_of H q.title) old.1,
        branch-stays x q.branch (branch_of H q.branch) old.2,
      )
  holds-step x None is ok h r e =
      let old = before.holds h r e in (
        patron-stays x r.patron (patron_of H r.patron) old.0,
        title-stays x r.title (title_of H r.title) old.1,
        branch-stays x r.branch (branch_of H r.branch) old.2,
      )

  -- ---- where copies go

  goal-there : (h : ℕ) (r : HoldFacts) → hold_of H h ≡ Some r → IsThere (branch_of H (goal_of H h))
  goal-there h r e = subst (λ g. IsThere (branch_of H g)) (sym (ap (λ y. unwrap_or (option_map
      (λ q. q.branch) y) 0) e)) (before.holds h r e).2

  home-there : (c : ℕ) (r : CopyFacts) → copy_of H c ≡ Some r → IsThere (branch_of H (home_of H c))
  home-there c r e = subst (λ b. IsThere (branch_of H b)) (sym (ap (λ y. unwrap_or (option_map
      (λ q. q.home) y) 0) e)) (before.copies c r e).1

  places-keep : KeepsPlaces H (GoesThere (branch_of H))
  places-keep = record {
    now = before.places;
    to_hold = λ h r e. (tt, goal-there h r e);
    to_home = λ c r e. (tt, home-there c r e);
    arrives = λ g h p. tt;
    let_go = λ g h p. p;
    acquired = λ b r e. tt;
    rehomed = λ b r e. some-there (branch_of H b) r e;
    lent = λ room. tt;
    missing = tt;
    withdrawn = tt;
  }

  goes-stays : (x : Command) (p : Place) → GoesThere (branch_of H) p
      → GoesThere (λ b. branch_after x b (branch_of H b)) p
  goes-stays x (Transit g h) was = branch-stays x g (branch_of H g) was
  goes-stays x _ was = tt

  -- ---- lines

  line-there : (p : ℕ) (s : Sort) (loan : Option ℕ) (remark : Option Note) (n : ℕ) → IsThere (patron_of H p) → ((l : ℕ)
      → loan ≡ Some l → IsThere (loan_of H l))
      → AllByRecursion (LineThere (patron_of H) (loan_of H)) (noted_line H p s loan remark n)
  line-there p s loan remark zero patron known = tt
  line-there p s loan remark (suc n) patron known = ((patron, known), tt)

  -- A line for the loan of a copy that is on loan.
  loan_line-there : (c l : ℕ) (s : Sort) (n : ℕ) → place H c ≡ Loan l
      → AllByRecursion (LineThere (patron_of H) (loan_of H)) (line_of H (borrower H l) s (Some l) n)
  loan_line-there c l s n at =
      let r = inv.on_loan c l at in
      let patron : IsThere (patron_of H r.0.patron) = not-none-there (patron_of H r.0.patron)
      (inv.borrowers l r.0 r.1) in
      line-there (borrower H l) s (Some l) None n (subst (λ p. IsThere (patron_of H p)) (sym (ap
      (λ y. unwrap_or (option_map (λ q. q.patron) y) 0) r.1)) patron)
      (λ m same. let is : l ≡ m = cc in subst
      (λ k. IsThere (loan_of H k)) is (some-there (loan_of H l) r.0 r.1))

  fine-there : (c : ℕ) (at : Place) → place H c ≡ at
      → AllByRecursion (LineThere (patron_of H) (loan_of H)) (fine_line H (grace_of H) at)
  fine-there c (Loan l) at = loan_line-there c l Fine (fine_now H (grace_of H) l) at
  fine-there c _ at = tt

  price-there : (c : ℕ) (at : Place) → place H c ≡ at
      → AllByRecursion (LineThere (patron_of H) (loan_of H)) (price_line H c at)
  price-there c (Loan l) at = loan_line-there c l Price (price_of H c) at
  price-there c _ at = tt

  all-append : (P : Line → Type 0) (xs ys : List Line) → AllByRecursion P xs
      → AllByRecursion P ys → AllByRecursion P (xs ++ ys)
  all-append P [] ys a b = b
  all-append P (x ∷ xs) ys a b = (a.0, all-append P xs ys a.1 b)

  lines-stay : (x : Command) (xs : List Line)
      → AllByRecursion (LineThere (patron_of H) (loan_of H)) xs
      → AllByRecursion (LineThere (λ p. patron_after x p (patron_of H p))
      (λ l. loan_after H x l (loan_of H l))) xs
  lines-stay x [] a = tt
  lines-stay x (y ∷ ys) a = (
    (
      patron-stays x y.patron (patron_of H y.patron) a.0.0,
      λ l e. loan-stays H x l
          (loan_of H l) (a.0.1 l e),
    ),
    lines-stay x ys a.1,
  )

  lines-step : (x : Command) (made : Posting) → posting x ≡ made → refusal H o x ≡ None
      → AllByRecursion (LineThere (patron_of H) (loan_of H)) (lines_after H made (lines H))
  lines-step x (Returned c) e ok = all-append _ (lines H) (fine_line H (grace_of H) (place H c)) before.lines
      (fine-there c (place H c) refl)
  lines-step x (Lost c) e ok =
      all-append _ (lines H) (fine_line H (grace_of H) (place H c) ++ price_line H c (place H c)) before.lines
      (all-append _ (fine_line H (grace_of H) (place H c)) (price_line H c (place H c)) (fine-there c
      (place H c) refl) (price-there c (place H c) refl))
  lines-step x (Settled p sort remark n) e ok =
      all-append _ (lines H) (noted_line H p sort None remark n) before.lines
      (line-there p sort None remark n (not-false _ (settling H o x p n sort remark ok e).patron)
      (λ l f. absurd (none-some l f)))
  lines-step x (Charged p remark n) e ok =
      all-append _ (lines H) (noted_line H p ChargeSort None (Some remark) n) before.lines
      (line-there p ChargeSort None (Some remark) n (not-false _ (charging H o x p n remark ok e).patron)
      (λ l f. absurd (none-some l f)))
  lines-step x NoPosting e ok = before.lines

-- ---- every legal history

callers-step : (H : History) (before : (p : ℕ) (key : List ℕ) (x : Kept)
    → kept_of H (Reader p) key ≡ Some x
    → IsThere (patron_of H p)) (o : Owner) (c : Command) (k : List ℕ)
    → is_enrolled H o ≡ true → (p : ℕ) (key : List ℕ) (new x : Kept)
    → (elim (same_owner o (Reader p) && bytes_eq k key) as
    (λ _. Option Kept) [ true ↦ Some new | false ↦ kept_of H (Reader p) key ]) ≡ Some x
    → IsThere (patron_after c p (patron_of H p))
callers-step H before o c k enrolled p key new x e = patron-stays c p (patron_of H p) (go
    (same_owner o (Reader p) && bytes_eq k key) refl e)
  where
    go : (b : Bool) → (same_owner o (Reader p) && bytes_eq k key) ≡ b
        → (elim b as
        (λ _. Option Kept) [ true ↦ Some new | false ↦ kept_of H (Reader p) key ]) ≡ Some x
        → IsThere (patron_of H p)
    go true d f = subst
        (λ q. is_enrolled H q ≡ true) (same_owner-is o (Reader p) (and_parts (same_owner o
        (Reader p)) (bytes_eq k key) d).0) enrolled
    go false d f = before p key x f

legal-ReferenceLaws : (H : History) → IsLegal H → ReferenceLaws H
legal-ReferenceLaws [] legal = record {
  rules = λ k c t e. absurd (none-some t e);
  patrons = λ p r e. absurd (none-some r e);
  copies = λ c r e. absurd (none-some r e);
  loans = λ l r e. absurd (none-some r e);
  holds = λ h r e. absurd (none-some r e);
  places = λ c. tt;
  lines = tt;
  callers = λ p key x e. absurd (none-some x e);
}
legal-ReferenceLaws (e ∷ H) legal =
    let before : ReferenceLaws H = legal-ReferenceLaws H legal.1 in
    let inv : Invariant H = legal-Invariant H legal.1 in
    let ok = legal.0.unrefused in
    record {
      rules = rules-step H inv before e.owner e.command ok;
      patrons = patrons-step H inv before e.owner e.command ok;
      copies = copies-step H inv before e.owner e.command ok;
      loans = loans-step H inv before e.owner e.command ok;
      holds = holds-step H inv before e.owner e.command (hold_made e.command) refl ok;
      places = λ c. goes-stays H inv before e.owner e.command (place (e ∷ H) c)
          (place_after-keeps H inv (GoesThere (branch_of H))
          (places-keep H inv before e.owner) e.owner e.command ok c);
      lines = lines-stay H inv before e.owner e.command (lines (e ∷ H))
          (lines-step H inv before e.owner e.command (posting e.command) refl ok);
      callers = λ p key x f. callers-step H before.callers e.owner e.command e.key
          legal.0.enrolled p key
          (record { text = request_text e.command; reply = accepted H e.command }) x f;
    }

-- ---- rows

nth-there : (P : Line → Type 0) (xs : List Line) (n : ℕ) (x : Line) → AllByRecursion P xs
    → nth_line xs n ≡ Some x → P x
nth-there P [] n x a e = absurd (none-some x e)
nth-there P (y ∷ xs) zero x a e = absurd (none-some x e)
nth-there P (y ∷ xs) (suc zero) x a e = let same : y ≡ x = cc in subst P same a.0
nth-there P (y ∷ xs) (suc (suc n)) x a e = nth-there P xs (suc n) x a.1 e

module _ (H : History) (legal : IsLegal H) where
  inv : Invariant H
  inv = legal-Invariant H legal

  laws : ReferenceLaws H
  laws = legal-ReferenceLaws H legal

  branch-row : (b : ℕ) → IsThere (branch_of H b) → IsThere ((picture H).branches b)
  branch-row b e = map-there _ (branch_of H b) e

  kind-row : (k : ℕ) → IsThere (kind_of H k) → IsThere ((picture H).kinds k)
  kind-row k e = map-there _ (kind_of H k) e

  patron-row : (p : ℕ) → IsThere (patron_of H p) → IsThere ((picture H).patrons p)
  patron-row p e = map-there _ (patron_of H p) e

  title-row : (t : ℕ) → IsThere (title_of H t) → IsThere ((picture H).titles t)
  title-row t e = map-there _ (title_of H t) e

  copy-row : (c : ℕ) → IsThere (copy_of H c) → IsThere ((picture H).copies c)
  copy-row c e = map-there _ (copy_of H c) e

  loan-row : (l : ℕ) → IsThere (loan_of H l) → IsThere ((picture H).loans l)
  loan-row l e = map-there _ (loan_of H l) e

  hold-row : (h : ℕ) (s : HoldState) → state H h ≡ Some s → IsThere ((picture H).holds h)
  hold-row h s e =
      let r = inv.placed h s e in
      ap is_some (ap (option_and_then (λ t. option_map (hold_columns H h t) (hold_of H h))) e
      ∙ ap (option_map (hold_columns H h s)) r.1)

  closed_day-branch : (b d : ℕ) → is_single (singles_of H b) d ≡ true → IsThere (branch_of H b)
  closed_day-branch b d e = not-none-there (branch_of H b) (λ none.
      let shut : is_single (singles_of H b) d ≡ false = ap
      (λ s. is_single s d) (inv.unset b none).1 in
      let never : ⊥ = cc in never)

  somewhere-there : (c : ℕ) (q : Place) → place H c ≡ q → (q ≡ Nowhere → ⊥) → IsThere (copy_of H c)
  somewhere-there c q at ne = let f = copy-known H inv c (λ e. ne (sym at
      ∙ e)) in some-there (copy_of H c) f.0 f.1

  kept-there : (h c : ℕ) (s : HoldState) → if_ready (Some s) (kept_for H h) ≡ Some c
      → IsThere (copy_of H c)
  kept-there h c Ready e =
      somewhere-there c (HoldShelf h) (kept-is (place H c) h (find-some
      (λ d. is_kept_for (place H d) h) (copies H) c e)) (λ f. let never : ⊥ = cc in never)
  kept-there h c Waiting e = absurd (none-some c e)
  kept-there h c Filled e = absurd (none-some c e)
  kept-there h c Cancelled e = absurd (none-some c e)
  kept-there h c Expired e = absurd (none-some c e)

  served : (c g h : ℕ) → place H c ≡ Transit g (Some h) → state H h ≡ Some Waiting
  served c g h at = let f : Fits (goal_of H) (Transit g (Some h)) h (state H h) = rw at at
      (inv.bound.fits c h (rw at refl)) in f.0

pub legal-references : (H : History) → IsLegal H → HasReferences (picture H)
legal-references H legal =
    let laws : ReferenceLaws H = legal-ReferenceLaws H legal in
    let inv : Invariant H = legal-Invariant H legal in
    record {
      closed_day_branch = λ b d e. branch-row H legal b (closed_day-branch H legal b d e);
      rule_kind = λ k c r e. let m = map-some (rule_columns H k c) (rule_of H k c) r e in
          subst (λ q. IsThere ((picture H).kinds q.kind)) m.2 (kind-row H legal k
          (laws.rules k c m.0 m.1));
      patron_kind = λ p r e. let m = map-some (patron_columns H p) (patron_of H p) r e in
          subst (λ q. IsThere ((picture H).kinds q.kind)) m.2 (kind-row H legal m.0.kind
          (laws.patrons p m.0 m.1));
      copy_title = λ c r e. let m = map-some (copy_columns H c) (copy_of H c) r e in
          subst (λ q. IsThere ((picture H).titles q.title)) m.2 (title-row H legal m.0.title
          (laws.copies c m.0 m.1).0);
      copy_home = λ c r e. let m = map-some (copy_columns H c) (copy_of H c) r e in
          subst (λ q. IsThere ((picture H).branches q.home)) m.2 (branch-row H legal m.0.home
          (laws.copies c m.0 m.1).1);
      loan_copy = λ l r e. let m = map-some (loan_columns H l) (loan_of H l) r e in
          subst (λ q. IsThere ((picture H).copies q.copy)) m.2 (copy-row H legal m.0.copy
          (laws.loans l m.0 m.1).0);
      loan_patron = λ l r e. let m = map-some (loan_columns H l) (loan_of H l) r e in
          subst (λ q. IsThere ((picture H).patrons q.patron)) m.2 (patron-row H legal m.0.patron
          (not-none-there (patron_of H m.0.patron) (inv.borrowers l m.0 m.1)));
      loan_branch = λ l r e. let m = map-some (loan_columns H l) (loan_of H l) r e in
          subst (λ q. IsThere ((picture H).branches q.branch)) m.2 (branch-row H legal m.0.branch
          (laws.loans l m.0 m.1).1);
      hold_patron = λ h r e. let m = hold-facts H h r e in
          subst (λ q. IsThere ((picture H).patrons q.patron)) m.4 (patron-row H legal m.1.patron
          (laws.holds h m.1 m.3).0);
      hold_title = λ h r e. let m = hold-facts H h r e in
          subst (λ q. IsThere ((picture H).titles q.title)) m.4 (title-row H legal m.1.title
          (laws.holds h m.1 m.3).1);
      hold_branch = λ h r e. let m = hold-facts H h r e in
          subst (λ q. IsThere ((picture H).branches q.branch)) m.4 (branch-row H legal m.1.branch
          (laws.holds h m.1 m.3).2);
      hold_copy = λ h c r e held. let m = hold-facts H h r e in
          copy-row H legal c (kept-there H legal h c m.0 (ap (λ q. q.copy) m.4 ∙ held));
      transit_copy = λ c r e. let m = transit-place c r (place H c) e in
          subst (λ n. IsThere ((picture H).copies n)) (sym m.1) (copy-row H legal c
          (somewhere-there H legal c (Transit r.goal r.hold) m.0
          (λ f. let never : ⊥ = cc in never)));
      transit_goal = λ c r e. let m = transit-place c r (place H c) e in
          branch-row H legal r.goal (subst (GoesThere (branch_of H)) m.0 (laws.places c));
      transit_hold = λ c h r e for_it. let m = transit-place c r (place H c) e in
          hold-row H legal h Waiting (served H legal c r.goal h (m.0 ∙ ap (Transit r.goal) for_it));
      line_patron = λ n r e. let m = map-some (line_columns H n) (nth_line (lines H) n) r e in
          subst (λ q. IsThere ((picture H).patrons q.patron)) m.2 (patron-row H legal m.0.patron
          (nth-there _ (lines H) n m.0 laws.lines m.1).0);
      line_loan = λ n l r e for_it. let m = map-some (line_columns H n) (nth_line
          (lines H) n) r e in
          loan-row H legal l ((nth-there _ (lines H) n m.0 laws.lines m.1).1 l (ap
          (λ q. q.loan) m.2 ∙ for_it));
      kept_caller = λ o key p r e sent. let m = map-some (kept_columns H o key)
          (kept_of H o key) r e in
          patron-row H legal p (laws.callers p key m.0 (subst
          (λ q. kept_of H q key ≡ Some m.0) (ap (λ q. q.caller) m.2 ∙ sent) m.1));
      barcode_thing = λ t r e. let m = map-some (λ x. record { thing = t; barcode = x }) (barcode_of H t) r e in
          subst (λ (q : BarcodeRow). HasThing (picture H) q.thing) m.2 (label-there H legal t m.0 m.1);
      note_line = λ n r e. let m = note-there H legal n r e in m.line;
      note_branch = λ n r e. let m = note-there H legal n r e in branch-row H legal r.branch m.branch;
    }
