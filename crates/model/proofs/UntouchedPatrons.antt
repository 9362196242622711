-- A legal history agrees with the one before its last event on each patron whose own rows it keeps.
use Rattle.std.proofs.Common.{◌≡◌, ℕ, suc, ◌+◌, ◌-◌, ◌≤◌, ◌==◌, Bool, true, false, cond, ◌&&◌, ◌||◌, [], ◌∷◌, ◌++◌, refl, sym, ◌∙◌, ap, arith}
use Rattle.std.specs.Prelude.{Option, Some, None, option_map, unwrap_or, is_some, is_none, filter}
use Rattle.std.specs.Option.{option_or}
use Rattle.std.specs.List.{list_any}
use Rattle.std.proofs.lemmas.Bool.{eqb-true, and_parts}
use Rattle.std.proofs.lemmas.List.{append-nil}
use Rattle.std.proofs.lemmas.List.Elements.{filter-append, filter_agree}
use Rattle.terms.specs.declared.command.Command.{Command}
use Rattle.terms.specs.declared.command.Command.TheVariants.{Acquire, AmendCopy, Rehome, CheckOut}
use Rattle.terms.specs.declared.row.PatronRow.{PatronRow}
use Rattle.terms.specs.declared.row.TitleRow.{TitleRow}
use Rattle.terms.specs.declared.row.HoldState.{HoldState}
use Rattle.terms.specs.declared.row.HoldState.TheVariants.{Waiting, Ready, Filled, Cancelled, Expired}
use Rattle.model.specs.History.{Event, History, numbers_to, PatronFacts, patron_of, title_of, CopyFacts, copy_of}
use Rattle.model.specs.History.{with_price, with_home, copy_after, loans, loans_after, next_loan, HoldFacts, hold_made, hold_of, hold_after, holds, holds_after}
use Rattle.model.specs.History.{next_hold, today}
use Rattle.model.specs.Places.{state, is_waiting, is_ready, title_of_copy, title_of_hold}
use Rattle.model.specs.Loans.{LoanFacts, loan_of, loan_after, terms_for, no_terms, ended, due, renewals_left, open_loans, title_of_loan}
use Rattle.model.specs.Accounts.{charges, credits, owed}
use Rattle.model.specs.Refusals.{active_holds}
use Rattle.model.specs.Picture.{picture, patron_columns, copy_columns, loan_columns, hold_columns, hold_row}
use Rattle.model.specs.Invariant.{Invariant}
use Rattle.model.specs.References.{HasReferences}
use Rattle.model.specs.Requests.{IsLegal}
use Rattle.model.specs.Laws.{AgreesOn, KeepsOwnRows, KeepsOwnTitles, is_active_state}
use Rattle.model.proofs.Amending.{amended-column}
use Rattle.model.proofs.Members.{filter-passes}
use Rattle.model.proofs.ClaimsLaw.{map-some, hold-facts}
use Rattle.model.proofs.Invariants.{legal-Invariant}
use Rattle.model.proofs.References.{legal-references}
use Rattle.model.proofs.SettingRanges.{some-same, none-some, there}

-- ---- what is made once stays

made-stays : {A : Type 0} (o made : Option A) (x : A) → o ≡ Some x → option_or o made ≡ Some x
made-stays (Some y) made x e = e
made-stays None made x e = absurd (none-some x e)

-- A patron's columns say all that is known of the patron.
columns-tell : (H K : History) (p : ℕ) (f g : PatronFacts) → patron_columns H p f ≡ patron_columns K p g → (f ≡ g) × (owed H p ≡ owed K p)
columns-tell H K p f g same =
    (ap {A = PatronRow} {B = PatronFacts} (λ r. record { kind = r.kind; card_key = r.card_key; name = r.name }) same, ap (λ (r : PatronRow). r.owed) same)

-- The title of a copy stays.
pub copy-title-stays : (x : Command) (H : History) (c : ℕ) (r : CopyFacts) → copy_of H c ≡ Some r
    → option_map (λ q. q.title) (copy_after x c (copy_of H c)) ≡ Some r.title
copy-title-stays (Acquire n m k home price text) H c r e = ap (option_map (λ q. q.title)) (made-stays (copy_of H c) _ r e)
copy-title-stays (AmendCopy n kind price) H c r e =
    amended-column (λ q. q.title) (n == c) (with_price kind price) (copy_of H c) (λ q. refl) ∙ ap (option_map (λ q. q.title)) e
copy-title-stays (Rehome n home) H c r e =
    amended-column (λ q. q.title) (n == c) (with_home home) (copy_of H c) (λ q. refl) ∙ ap (option_map (λ q. q.title)) e
copy-title-stays _ H c r e = ap (option_map (λ q. q.title)) e

-- What is made under a new number leaves what has another.
set-stays : {A : Type 0} (n k last : ℕ) (made : A) (o : Option A) (x : A) → n ≡ last + 1 → k ≤ last → o ≡ Some x → cond (n == k) (Some made) o ≡ Some x
set-stays n k last made o x next old e = go (n == k) refl
  where
    go : (b : Bool) → (n == k) ≡ b → cond b (Some made) o ≡ Some x
    go true d = let same : n ≡ k = eqb-true n k d in absurd (omega (arith, same, next, old))
    go false d = e

pub loan-stays : (x : Command) (H : History) → Invariant H → (l : ℕ) (r : LoanFacts) → loan_of H l ≡ Some r → loan_after H x l (loan_of H l) ≡ Some r
loan-stays (CheckOut p c b) H inv l r e =
    set-stays (next_loan H) l (loans H)
    (record { copy = c; patron = p; branch = b; made = today H; terms = unwrap_or (terms_for H p c) no_terms }) (loan_of H l) r refl
    (inv.made_loan l r e).1 e
loan-stays _ H inv l r e = e

hold-stays : (made : Option HoldFacts) (H : History) → Invariant H → (h : ℕ) (r : HoldFacts) → hold_of H h ≡ Some r → hold_after H made h (hold_of H h) ≡ Some r
hold-stays (Some made) H inv h r e = set-stays (next_hold H) h (holds H) made (hold_of H h) r refl (inv.made_hold h r e).1 e
hold-stays None H inv h r e = e

-- ---- one number more

one-more : (test : ℕ → Bool) (n : ℕ) → test (n + 1) ≡ false → filter test (numbers_to (n + 1)) ≡ filter test (numbers_to n)
one-more test n off =
    let next : n + 1 ≡ suc n = omega arith in
    let out : test (suc n) ≡ false = sym (ap test next) ∙ off in
    ap (λ m. filter test (numbers_to m)) next
    ∙ filter-append test (numbers_to n) (suc n ∷ [])
    ∙ ap (λ b. filter test (numbers_to n) ++ cond b (suc n ∷ []) []) out
    ∙ append-nil (filter test (numbers_to n))

loans-more : (x : Command) (n : ℕ) (test : ℕ → Bool) → test (n + 1) ≡ false → filter test (numbers_to (loans_after x n)) ≡ filter test (numbers_to n)
loans-more (CheckOut p c b) n test off = one-more test n off
loans-more _ n test off = refl

holds-more : (made : Option HoldFacts) (n : ℕ) (test : ℕ → Bool) → test (n + 1) ≡ false
    → filter test (numbers_to (holds_after made n)) ≡ filter test (numbers_to n)
holds-more (Some made) n test off = one-more test n off
holds-more None n test off = refl

-- ---- tests of loans and holds

none-is : {A : Type 0} (o : Option A) → is_none o ≡ true → o ≡ None
none-is None e = refl
none-is (Some x) e = let never : ⊥ = cc in absurd never

-- An open loan of the patron.
abbrev own_open : ℕ → Option LoanFacts → Option ℕ → Bool
own_open p o end = unwrap_or (option_map (λ r. r.patron == p) o) false && (is_some o && is_none end)

-- An active hold of the patron.
abbrev own_active : ℕ → Option HoldFacts → Option HoldState → Bool
own_active p o s = (unwrap_or (option_map (λ r. r.patron) o) 0 == p) && (is_waiting s || is_ready s)

and-false : (b : Bool) → (b && false) ≡ false
and-false true = refl
and-false false = refl

no-loan : (H : History) → Invariant H → (l : ℕ) → l ≡ loans H + 1 → loan_of H l ≡ None
no-loan H inv l next = go (loan_of H l) refl
  where
    go : (o : Option LoanFacts) → loan_of H l ≡ o → loan_of H l ≡ None
    go (Some f) at = let m = inv.made_loan l f at in absurd (omega (arith, m.1, next))
    go None at = at

no-hold : (H : History) → Invariant H → (h : ℕ) → h ≡ holds H + 1 → hold_of H h ≡ None
no-hold H inv h next = go (hold_of H h) refl
  where
    go : (o : Option HoldFacts) → hold_of H h ≡ o → hold_of H h ≡ None
    go (Some f) at = let m = inv.made_hold h f at in absurd (omega (arith, m.1, next))
    go None at = at

-- A hold that was never placed has no state.
no-state : (H : History) → Invariant H → (h : ℕ) → hold_of H h ≡ None → state H h ≡ None
no-state H inv h none = go (state H h) refl
  where
    go : (s : Option HoldState) → state H h ≡ s → state H h ≡ None
    go (Some s) at = let f = inv.placed h s at in absurd (none-some f.0 (sym none ∙ f.1))
    go None at = at

-- A loan stands as it stood.
record SameLoan (H K : History) (l : ℕ) (f : LoanFacts) : Type 0 where
  before : loan_of H l ≡ Some f
  later : loan_of K l ≡ Some f
  dues : due H l ≡ due K l
  renewals : renewals_left H l ≡ renewals_left K l
  ends : ended H l ≡ ended K l

-- A hold stands as it stood.
record SameHold (H K : History) (h : ℕ) (f : HoldFacts) : Type 0 where
  before : hold_of H h ≡ Some f
  later : hold_of K h ≡ Some f
  states : state H h ≡ state K h

module _ (e : Event) (H : History) (p : ℕ) (legal : IsLegal (e ∷ H)) (keeps : KeepsOwnRows (picture H) (picture (e ∷ H)) p)
    (titles : KeepsOwnTitles (picture H) (picture (e ∷ H)) p) where
  old : Invariant H
  old = legal-Invariant H legal.1

  new : Invariant (e ∷ H)
  new = legal-Invariant (e ∷ H) legal

  refs : HasReferences (picture H)
  refs = legal-references H legal.1

  -- ---- the patron

  abbrev SamePatron : Type 0
  SamePatron = (patron_of H p ≡ patron_of (e ∷ H) p) × (owed H p ≡ owed (e ∷ H) p)

  patron-same : SamePatron
  patron-same = go (patron_of H p) refl
    where
      unknown : patron_of H p ≡ None → (o : Option PatronFacts) → patron_of (e ∷ H) p ≡ o → patron_of (e ∷ H) p ≡ None
      unknown at (Some f) now =
          absurd (none-some (patron_columns (e ∷ H) p f)
          (sym (ap (option_map (patron_columns H p)) at) ∙ keeps.patron ∙ ap (option_map (patron_columns (e ∷ H) p)) now))
      unknown at None now = now

      go : (o : Option PatronFacts) → patron_of H p ≡ o → SamePatron
      go (Some f) at =
          let now = map-some (patron_columns (e ∷ H) p) (patron_of (e ∷ H) p) (patron_columns H p f)
          (sym keeps.patron ∙ ap (option_map (patron_columns H p)) at) in
          let same = columns-tell (e ∷ H) H p now.0 f now.2 in
          (at ∙ sym (now.1 ∙ ap Some same.0), sym same.1)
      go None at =
          let now : patron_of (e ∷ H) p ≡ None = unknown at (patron_of (e ∷ H) p) refl in
          (at ∙ sym now, ap (λ xs. charges xs - credits xs) (old.strangers p at ∙ sym (new.strangers p now)))

  -- ---- loans

  own-loan : (l : ℕ) (f : LoanFacts) → loan_of (e ∷ H) l ≡ Some f → f.patron ≡ p → SameLoan H (e ∷ H) l f
  own-loan l f at own =
      let was = map-some (loan_columns H l) (loan_of H l) (loan_columns (e ∷ H) l f)
      (keeps.loans l (loan_columns (e ∷ H) l f) (ap (option_map (loan_columns (e ∷ H) l)) at) own) in
      let facts : was.0 ≡ f = some-same was.0 f (sym (loan-stays e.command H old l was.0 was.1) ∙ at) in
      record {
        before = was.1 ∙ ap Some facts;
        later = at;
        dues = ap (λ r. r.due) was.2;
        renewals = ap (λ r. r.renewals_left) was.2;
        ends = ap (λ r. r.ended) was.2;
      }

  loan-test : (l : ℕ) → own_open p (loan_of H l) (ended H l) ≡ own_open p (loan_of (e ∷ H) l) (ended (e ∷ H) l)
  loan-test l = go (loan_of (e ∷ H) l) refl
    where
      none-before : loan_of (e ∷ H) l ≡ None → (o : Option LoanFacts) → loan_of H l ≡ o → loan_of H l ≡ None
      none-before at (Some f) was = absurd (none-some f (sym at ∙ loan-stays e.command H old l f was))
      none-before at None was = was

      others : (f : LoanFacts) → loan_of (e ∷ H) l ≡ Some f → (f.patron == p) ≡ false → (o : Option LoanFacts) → loan_of H l ≡ o
          → own_open p o (ended H l) ≡ false
      others f at d (Some g) was =
          let same : g ≡ f = some-same g f (sym (loan-stays e.command H old l g was) ∙ at) in
          ap (λ (r : LoanFacts). (r.patron == p) && is_none (ended H l)) same ∙ ap (λ b. b && is_none (ended H l)) d
      others f at d None was = refl

      by : (f : LoanFacts) → loan_of (e ∷ H) l ≡ Some f → (b : Bool) → (f.patron == p) ≡ b
          → own_open p (loan_of H l) (ended H l) ≡ own_open p (Some f) (ended (e ∷ H) l)
      by f at true d =
          let same = own-loan l f at (eqb-true f.patron p d) in
          ap (λ o. own_open p o (ended H l)) same.before ∙ ap (own_open p (Some f)) same.ends
      by f at false d = others f at d (loan_of H l) refl ∙ sym (ap (λ b. b && is_none (ended (e ∷ H) l)) d)

      go : (o : Option LoanFacts) → loan_of (e ∷ H) l ≡ o → own_open p (loan_of H l) (ended H l) ≡ own_open p (loan_of (e ∷ H) l) (ended (e ∷ H) l)
      go (Some f) at = by f at (f.patron == p) refl ∙ sym (ap (λ o. own_open p o (ended (e ∷ H) l)) at)
      go None at = ap (λ o. own_open p o (ended H l)) (none-before at (loan_of H l) refl) ∙ sym (ap (λ o. own_open p o (ended (e ∷ H) l)) at)

  loans-same : open_loans H p ≡ open_loans (e ∷ H) p
  loans-same =
      sym (loans-more e.command (loans H) (λ l. own_open p (loan_of H l) (ended H l))
      (ap (λ o. own_open p o (ended H (loans H + 1))) (no-loan H old (loans H + 1) refl)))
      ∙ filter_agree (λ l. own_open p (loan_of H l) (ended H l)) (λ l. own_open p (loan_of (e ∷ H) l) (ended (e ∷ H) l)) loan-test (numbers_to (loans (e ∷ H)))

  lent : (l : ℕ) → list_any (λ k. k == l) (open_loans H p) ≡ true → (f : LoanFacts) × SameLoan H (e ∷ H) l f × (f.patron ≡ p) × (ended (e ∷ H) l ≡ None)
  lent l among = go (loan_of H l) refl
    where
      test : (unwrap_or (option_map (λ r. r.patron == p) (loan_of H l)) false ≡ true) × ((is_some (loan_of H l) && is_none (ended H l)) ≡ true)
      test = and_parts (unwrap_or (option_map (λ r. r.patron == p) (loan_of H l)) false) (is_some (loan_of H l) && is_none (ended H l))
          (filter-passes (λ k. own_open p (loan_of H k) (ended H k)) l (numbers_to (loans H)) among)

      unended : ended H l ≡ None
      unended = none-is (ended H l) (and_parts (is_some (loan_of H l)) (is_none (ended H l)) test.1).1

      go : (o : Option LoanFacts) → loan_of H l ≡ o → (f : LoanFacts) × SameLoan H (e ∷ H) l f × (f.patron ≡ p) × (ended (e ∷ H) l ≡ None)
      go (Some f) at =
          let is : (f.patron == p) ≡ true = sym (ap (λ o. unwrap_or (option_map (λ r. r.patron == p) o) false) at) ∙ test.0 in
          let own : f.patron ≡ p = eqb-true f.patron p is in
          let same = own-loan l f (loan-stays e.command H old l f at) own in
          (f, same, own, sym same.ends ∙ unended)
      go None at = let no : false ≡ true = sym (ap (λ o. unwrap_or (option_map (λ r. r.patron == p) o) false) at) ∙ test.0 in let never : ⊥ = cc in absurd never

  -- ---- titles

  -- A title whose row stays has the text that it had.
  title-same : (t : ℕ) → is_some ((picture H).titles t) ≡ true → ((x : TitleRow) → (picture H).titles t ≡ Some x → (picture (e ∷ H)).titles t ≡ Some x)
      → title_of H t ≡ title_of (e ∷ H) t
  title-same t known stays =
      let row = there ((picture H).titles t) known in
      let text = map-some (λ x. record { title = t; text = x }) (title_of H t) row.0 row.1 in
      let now = map-some (λ x. record { title = t; text = x }) (title_of (e ∷ H) t) row.0 (stays row.0 row.1) in
      text.1 ∙ ap Some (ap (λ (r : TitleRow). r.text) (text.2 ∙ sym now.2)) ∙ sym now.1

  abbrev LentTitle : ℕ → Type 0
  LentTitle l = (t : ℕ) × (title_of_loan H l ≡ t) × (title_of_loan (e ∷ H) l ≡ t) × (title_of H t ≡ title_of (e ∷ H) t)

  lent-title : (l : ℕ) (f : LoanFacts) → SameLoan H (e ∷ H) l f → f.patron ≡ p → ended (e ∷ H) l ≡ None → LentTitle l
  lent-title l f same own unended =
      let known = there ((picture H).copies f.copy) (refs.loan_copy l (loan_columns H l f) (ap (option_map (loan_columns H l)) same.before)) in
      let copy = map-some (copy_columns H f.copy) (copy_of H f.copy) known.0 known.1 in
      let row : (picture H).copies f.copy ≡ Some (copy_columns H f.copy copy.0) = ap (option_map (copy_columns H f.copy)) copy.1 in
      let now : option_map (λ r. r.title) (copy_of (e ∷ H) f.copy) ≡ Some copy.0.title = copy-title-stays e.command H f.copy copy.0 copy.1 in (
        copy.0.title,
        ap (λ o. unwrap_or (option_map (λ r. title_of_copy H r.copy) o) 0) same.before ∙ ap (λ o. unwrap_or (option_map (λ r. r.title) o) 0) copy.1,
        ap (λ o. unwrap_or (option_map (λ r. title_of_copy (e ∷ H) r.copy) o) 0) same.later ∙ ap (λ o. unwrap_or o 0) now,
        title-same copy.0.title (refs.copy_title f.copy (copy_columns H f.copy copy.0) row)
            (λ x at. titles.lent l (loan_columns (e ∷ H) l f) (copy_columns H f.copy copy.0) x (ap (option_map (loan_columns (e ∷ H) l)) same.later) own unended row at),
      )

  -- ---- holds

  own-hold : (h : ℕ) (f : HoldFacts) → hold_of (e ∷ H) h ≡ Some f → f.patron ≡ p → SameHold H (e ∷ H) h f
  own-hold h f at own =
      let s = new.stated h f at in
      let row : hold_row (e ∷ H) h ≡ Some (hold_columns (e ∷ H) h s.0 f) = rw (s.1, at) refl in
      let was = hold-facts H h (hold_columns (e ∷ H) h s.0 f) (keeps.holds h (hold_columns (e ∷ H) h s.0 f) row own) in
      let facts : was.1 ≡ f = some-same was.1 f (sym (hold-stays (hold_made e.command) H old h was.1 was.3) ∙ at) in
      record {
        before = was.3 ∙ ap Some facts;
        later = at;
        states = was.2 ∙ ap Some (ap (λ r. r.state) was.4) ∙ sym s.1;
      }

  hold-test : (h : ℕ) → own_active p (hold_of H h) (state H h) ≡ own_active p (hold_of (e ∷ H) h) (state (e ∷ H) h)
  hold-test h = go (hold_of (e ∷ H) h) refl
    where
      none-before : hold_of (e ∷ H) h ≡ None → (o : Option HoldFacts) → hold_of H h ≡ o → hold_of H h ≡ None
      none-before at (Some f) was = absurd (none-some f (sym at ∙ hold-stays (hold_made e.command) H old h f was))
      none-before at None was = was

      idle : (K : History) → Invariant K → hold_of K h ≡ None → own_active p (hold_of K h) (state K h) ≡ false
      idle K inv none = ap (own_active p (hold_of K h)) (no-state K inv h none) ∙ and-false _

      others : (f : HoldFacts) → hold_of (e ∷ H) h ≡ Some f → (f.patron == p) ≡ false → (o : Option HoldFacts) → hold_of H h ≡ o
          → own_active p (hold_of H h) (state H h) ≡ false
      others f at d (Some g) was =
          let same : g ≡ f = some-same g f (sym (hold-stays (hold_made e.command) H old h g was) ∙ at) in
          ap (λ o. own_active p o (state H h)) (was ∙ ap Some same) ∙ ap (λ b. b && (is_waiting (state H h) || is_ready (state H h))) d
      others f at d None was = idle H old was

      by : (f : HoldFacts) → hold_of (e ∷ H) h ≡ Some f → (b : Bool) → (f.patron == p) ≡ b
          → own_active p (hold_of H h) (state H h) ≡ own_active p (Some f) (state (e ∷ H) h)
      by f at true d =
          let same = own-hold h f at (eqb-true f.patron p d) in
          ap (λ o. own_active p o (state H h)) same.before ∙ ap (own_active p (Some f)) same.states
      by f at false d = others f at d (hold_of H h) refl ∙ sym (ap (λ b. b && (is_waiting (state (e ∷ H) h) || is_ready (state (e ∷ H) h))) d)

      go : (o : Option HoldFacts) → hold_of (e ∷ H) h ≡ o → own_active p (hold_of H h) (state H h) ≡ own_active p (hold_of (e ∷ H) h) (state (e ∷ H) h)
      go (Some f) at = by f at (f.patron == p) refl ∙ sym (ap (λ o. own_active p o (state (e ∷ H) h)) at)
      go None at = idle H old (none-before at (hold_of H h) refl) ∙ sym (idle (e ∷ H) new at)

  holds-same : active_holds H p ≡ active_holds (e ∷ H) p
  holds-same =
      let none = no-hold H old (holds H + 1) refl in
      sym (holds-more (hold_made e.command) (holds H) (λ h. own_active p (hold_of H h) (state H h))
      (ap (own_active p (hold_of H (holds H + 1))) (no-state H old (holds H + 1) none) ∙ and-false _))
      ∙ filter_agree (λ h. own_active p (hold_of H h) (state H h)) (λ h. own_active p (hold_of (e ∷ H) h) (state (e ∷ H) h)) hold-test
      (numbers_to (holds (e ∷ H)))

  held : (h : ℕ) → list_any (λ k. k == h) (active_holds H p) ≡ true
      → (f : HoldFacts) × SameHold H (e ∷ H) h f × (f.patron ≡ p) × ((is_waiting (state H h) || is_ready (state H h)) ≡ true)
  held h among = go (hold_of H h) refl
    where
      test : ((unwrap_or (option_map (λ r. r.patron) (hold_of H h)) 0 == p) ≡ true) × ((is_waiting (state H h) || is_ready (state H h)) ≡ true)
      test = and_parts (unwrap_or (option_map (λ r. r.patron) (hold_of H h)) 0 == p) (is_waiting (state H h) || is_ready (state H h))
          (filter-passes (λ k. own_active p (hold_of H k) (state H k)) h (numbers_to (holds H)) among)

      go : (o : Option HoldFacts) → hold_of H h ≡ o
          → (f : HoldFacts) × SameHold H (e ∷ H) h f × (f.patron ≡ p) × ((is_waiting (state H h) || is_ready (state H h)) ≡ true)
      go (Some f) at =
          let is : (f.patron == p) ≡ true = sym (ap (λ o. unwrap_or (option_map (λ r. r.patron) o) 0 == p) at) ∙ test.0 in
          let own : f.patron ≡ p = eqb-true f.patron p is in
          (f, own-hold h f (hold-stays (hold_made e.command) H old h f at) own, own, test.1)
      go None at =
          let no : false ≡ true = sym (ap (λ s. is_waiting s || is_ready s) (no-state H old h at)) ∙ test.1 in let never : ⊥ = cc in absurd never

  active-is : (s : HoldState) → (is_waiting (Some s) || is_ready (Some s)) ≡ true → is_active_state s ≡ true
  active-is Waiting active = refl
  active-is Ready active = refl
  active-is Filled active = let never : ⊥ = cc in absurd never
  active-is Cancelled active = let never : ⊥ = cc in absurd never
  active-is Expired active = let never : ⊥ = cc in absurd never

  held-text : (h : ℕ) (f : HoldFacts) → SameHold H (e ∷ H) h f → f.patron ≡ p → (is_waiting (state H h) || is_ready (state H h)) ≡ true
      → title_of H (title_of_hold H h) ≡ title_of (e ∷ H) (title_of_hold (e ∷ H) h)
  held-text h f same own active =
      let s = old.stated h f same.before in
      let row : hold_row H h ≡ Some (hold_columns H h s.0 f) = rw (s.1, same.before) refl in
      let now : hold_row (e ∷ H) h ≡ Some (hold_columns (e ∷ H) h s.0 f) = rw (sym same.states ∙ s.1, same.later) refl in
      let is : is_active_state s.0 ≡ true = active-is s.0 (sym (ap (λ o. is_waiting o || is_ready o) s.1) ∙ active) in
      ap (λ o. title_of H (unwrap_or (option_map (λ r. r.title) o) 0)) same.before
      ∙ title-same f.title (refs.hold_title h (hold_columns H h s.0 f) row)
      (λ x at. titles.held h (hold_columns (e ∷ H) h s.0 f) x now own is at)
      ∙ sym (ap (λ o. title_of (e ∷ H) (unwrap_or (option_map (λ r. r.title) o) 0)) same.later)

  -- ---- all of it

  pub kept-agree : AgreesOn H (e ∷ H) p
  kept-agree = record {
    patron = patron-same.0;
    debt = patron-same.1;
    loans = loans-same;
    dues = λ l among. (lent l among).1.dues;
    renewals = λ l among. (lent l among).1.renewals;
    lent_titles = λ l among. let same = lent l among in let title = lent-title l same.0 same.1 same.2 same.3 in title.1 ∙ sym title.2;
    lent_texts = λ l among. let same = lent l among in let title = lent-title l same.0 same.1 same.2 same.3 in
        ap (title_of H) title.1 ∙ title.3 ∙ sym (ap (title_of (e ∷ H)) title.2);
    holds = holds-same;
    held = λ h among. let same = held h among in same.1.before ∙ sym same.1.later;
    states = λ h among. (held h among).1.states;
    held_texts = λ h among. let same = held h among in held-text h same.0 same.1 same.2 same.3;
  }
