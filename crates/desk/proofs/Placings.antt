-- The rows that claim a copy tell where it is.
use Rattle.std.proofs.Common.{◌≡◌, ℕ, true, List, [], ◌∷◌, ◌++◌, append_assoc, append-nil, refl, sym, ◌∙◌, ap, subst}
use Rattle.std.specs.Prelude.{Option, Some, None, IfSome, option_map, unwrap_or, is_some, decimal, codes}
use Rattle.calendar.specs.Days.{day_text}
use Rattle.circ_core.specs.Views.{IsCopyView, IsLoanOf, IsHoldOf}
use Rattle.circ_core.specs.declared.views.View.{View}
use Rattle.circ_core.proofs.Claims.{loan_row-is, hold_row-is, named-is, loan_claims, hold_claims, shelf_row}
use Rattle.terms.specs.declared.row.CopyRow.{CopyRow}
use Rattle.terms.specs.declared.row.LoanRow.{LoanRow}
use Rattle.terms.specs.declared.row.HoldRow.{HoldRow}
use Rattle.terms.specs.declared.row.HoldState.{HoldState}
use Rattle.terms.specs.declared.row.HoldState.TheVariants.{Ready}
use Rattle.terms.specs.declared.row.TransitRow.{TransitRow}
use Rattle.terms.specs.declared.row.PatronRow.{PatronRow}
use Rattle.terms.specs.declared.row.TitleRow.{TitleRow}
use Rattle.model.specs.History.{History, CopyFacts, copy_of, HoldFacts, hold_of, PatronFacts, patron_of}
use Rattle.model.specs.Accounts.{borrower, price_of}
use Rattle.model.specs.Asking.{place_words, for_words, patron_at, patron_words, place_line, copy_line, kind_of_copy}
use Rattle.model.specs.Forms.{HasForms}
use Rattle.model.specs.Invariant.{Invariant}
use Rattle.model.specs.Loans.{LoanFacts, loan_of, ended}
use Rattle.model.specs.Pages.{spaced, name_of, title_text}
use Rattle.model.specs.References.{HasReferences}
use Rattle.model.specs.Requests.{IsLegal}
use Rattle.model.specs.Picture.{picture, copy_columns, condition_at, loan_columns, hold_columns, patron_columns, transit_at}
use Rattle.model.specs.Places.{Place, Nowhere, Shelf, HoldShelf, Transit, Loan, MissingCopy, WithdrawnCopy, place, state, limit, goal_of, home_of}
use Rattle.model.specs.Places.{patron_of_hold, title_of_copy}
use Rattle.model.proofs.Invariants.{legal-Invariant}
use Rattle.model.proofs.References.{legal-references}
use Rattle.desk.specs.Placing.{place_in, by_loan, by_hold, by_transit, unclaimed, words_of, copy_words, after_space, IsPlace, IsAt}
use Rattle.desk.specs.declared.placing.CopyPlace.{CopyPlace}
use Rattle.desk.specs.declared.placing.CopyPlace.TheVariants as at
use Rattle.desk.proofs.ListNumbers.{placed-copy}
use Rattle.desk.proofs.PageRows.{titled}
use Rattle.desk.proofs.Sound.{ready-limit}

-- Where a copy is said to be, if it is said.
abbrev pub IsAtIf : History → ℕ → Option CopyPlace → Type 0
IsAtIf H c (Some here) = IsAt H c here
IsAtIf H c None = ⊥

module _ (H : History) (inv : Invariant H) (c : ℕ) (f : CopyFacts) (known : copy_of H c ≡ Some f) (r : CopyRow)
    (same : copy_columns H c f ≡ r) where
  -- nothing claims it
  pub on-shelf : (l : Option LoanRow) → IsLoanOf (picture H) c l → l ≡ None → (h : Option HoldRow) → IsHoldOf (picture H) c h → h ≡ None
      → transit_at c (place H c) ≡ None → IsAt H c (unclaimed r.condition r.home)
  on-shelf l is_loan no_loan h is_hold no_hold no_transit = go (place H c) refl
    where
      condition : (p : Place) → place H c ≡ p → r.condition ≡ condition_at p
      condition p e = sym (ap (λ (x : CopyRow). x.condition) same) ∙ ap condition_at e

      home : r.home ≡ home_of H c
      home = sym (ap (λ (x : CopyRow). x.home) same) ∙ sym (ap (λ (o : Option CopyFacts). unwrap_or (option_map (λ x. x.home) o) 0) known)

      go : (p : Place) → place H c ≡ p → IsAt H c (unclaimed r.condition r.home)
      go (Shelf b) e =
          subst (λ d. IsAt H c (unclaimed d r.home)) (sym (condition (Shelf b) e)) (e ∙ ap Shelf (sym (inv.at_home c b e) ∙ sym home))
      go MissingCopy e = subst (λ d. IsAt H c (unclaimed d r.home)) (sym (condition MissingCopy e)) e
      go WithdrawnCopy e = subst (λ d. IsAt H c (unclaimed d r.home)) (sym (condition WithdrawnCopy e)) e
      go Nowhere e = absurd ((inv.acquired c f known).0 e)
      go (Loan n) e =
          let claims = loan_claims H inv c l is_loan in
          let never : ⊥ = cc in absurd never
      go (HoldShelf n) e =
          let claimed = hold_claims H inv c f known h n is_hold e in
          let clash : None ≡ Some claimed.0 = sym no_hold ∙ claimed.1 in
          let never : ⊥ = cc in absurd never
      go (Transit b n) e =
          let clash : Some (record { copy = c; goal = b; hold = n }) ≡ None = sym (ap (transit_at c) e) ∙ no_transit in
          let never : ⊥ = cc in absurd never

  -- its travel
  by-transit : (l : Option LoanRow) → IsLoanOf (picture H) c l → l ≡ None → (h : Option HoldRow) → IsHoldOf (picture H) c h → h ≡ None
      → (t : Option TransitRow) → t ≡ transit_at c (place H c) → IsAtIf H c (by_transit t (Some (unclaimed r.condition r.home)))
  by-transit l is_loan no_loan h is_hold no_hold (Some t) is = travels (place H c) is
    where
      travels : (p : Place) → Some t ≡ transit_at c p → p ≡ Transit t.goal t.hold
      travels (Transit g k) e =
          let row : ◌≡◌ {A = TransitRow} (record { copy = c; goal = g; hold = k }) t = cc in
          λ i. Transit ((row i).goal) ((row i).hold)
      travels Nowhere e = let never : ⊥ = cc in absurd never
      travels (Shelf b) e = let never : ⊥ = cc in absurd never
      travels (HoldShelf k) e = let never : ⊥ = cc in absurd never
      travels (Loan k) e = let never : ⊥ = cc in absurd never
      travels MissingCopy e = let never : ⊥ = cc in absurd never
      travels WithdrawnCopy e = let never : ⊥ = cc in absurd never
  by-transit l is_loan no_loan h is_hold no_hold None is = on-shelf l is_loan no_loan h is_hold no_hold (sym is)

  -- the hold on whose shelf it stands
  by-hold : (l : Option LoanRow) → IsLoanOf (picture H) c l → l ≡ None → (h : Option HoldRow) → IsHoldOf (picture H) c h
      → (t : Option TransitRow) → t ≡ transit_at c (place H c) → ((q : HoldRow) → (picture H).holds q.hold ≡ Some q → q.state ≡ Ready
      → is_some q.limit_day ≡ true)
      → IsAtIf H c (by_hold h (by_transit t (Some (unclaimed r.condition r.home))))
  by-hold l is_loan no_loan (Some q) is t is_transit limited =
      let here : place H c ≡ HoldShelf q.hold = named-is H inv c f known q is.0 is.1 in
      let claimed = hold_claims H inv c f known (Some q) q.hold is here in
      let one : claimed.0 ≡ q = cc in
      let facts = claimed.2.facts in
      let row : hold_columns H q.hold Ready facts.0 ≡ q = facts.2 ∙ one in
      let hold : hold_of H q.hold ≡ Some facts.0 = facts.1 in
      let goal : goal_of H q.hold ≡ q.branch = ap (λ (o : Option HoldFacts). unwrap_or (option_map (λ x. x.branch) o) 0) hold
      ∙ ap (λ (x : HoldRow). x.branch) row in
      let patron : patron_of_hold H q.hold ≡ q.patron = ap (λ (o : Option HoldFacts). unwrap_or (option_map (λ x. x.patron) o) 0) hold
      ∙ ap (λ (x : HoldRow). x.patron) row in
      let until : limit H q.hold ≡ q.limit_day = ap (λ (x : HoldRow). x.limit_day) row in
      with_limit q.limit_day refl here goal patron until (limited q is.0 (sym (ap (λ (x : HoldRow). x.state) row)))
    where
      with_limit : (d : Option ℕ) → q.limit_day ≡ d → place H c ≡ HoldShelf q.hold → goal_of H q.hold ≡ q.branch → patron_of_hold H q.hold ≡ q.patron
          → limit H q.hold ≡ q.limit_day → is_some q.limit_day ≡ true
          → IsAtIf H c (option_map (λ day. at.HoldShelf q.hold q.branch day q.patron) d)
      with_limit (Some day) e here goal patron until some = (here, goal, ap (λ (o : Option ℕ). unwrap_or o 0) (until ∙ e), patron)
      with_limit None e here goal patron until some = let never : ⊥ = cc in absurd never
  by-hold l is_loan no_loan None is t is_transit limited = by-transit l is_loan no_loan None is refl t is_transit

  -- its loan
  by-claims : (l : Option LoanRow) → IsLoanOf (picture H) c l → (h : Option HoldRow) → IsHoldOf (picture H) c h
      → (t : Option TransitRow) → t ≡ transit_at c (place H c) → ((q : HoldRow) → (picture H).holds q.hold ≡ Some q → q.state ≡ Ready
      → is_some q.limit_day ≡ true)
      → IsAtIf H c (by_loan l (by_hold h (by_transit t (Some (unclaimed r.condition r.home)))))
  by-claims (Some q) is h is_hold t is_transit limited =
      let row : (x : LoanFacts) × (loan_of H q.loan ≡ Some x) × (loan_columns H q.loan x ≡ q) = loan_row-is H q.loan q is.0 in
      let of_copy : row.0.copy ≡ c = ap (λ (x : LoanRow). x.copy) row.2 ∙ is.1 in
      let still : ended H q.loan ≡ None = ap (λ (x : LoanRow). x.ended) row.2 ∙ is.2 in
      let here : place H row.0.copy ≡ Loan q.loan = inv.open_loan q.loan row.0 row.1 still in (
        subst (λ (k : ℕ). place H k ≡ Loan q.loan) of_copy here,
        ap (λ (x : LoanRow). x.due) row.2,
        ap (λ (o : Option LoanFacts). unwrap_or (option_map (λ x. x.patron) o) 0) row.1 ∙ ap (λ (x : LoanRow). x.patron) row.2,
      )
  by-claims None is h is_hold t is_transit limited = by-hold None is refl h is_hold t is_transit limited

-- The rows of a copy's view tell its place.
pub place-is : (H : History) → Invariant H → (c : ℕ) (r : CopyRow) (v : View) → (picture H).copies c ≡ Some r → IsCopyView (picture H) c v
    → ((q : HoldRow) → (picture H).holds q.hold ≡ Some q → q.state ≡ Ready → is_some q.limit_day ≡ true) → IsAtIf H c (place_in v r)
place-is H inv c r v there is limited = go (copy_of H c) refl there
  where
    go : (o : Option CopyFacts) → copy_of H c ≡ o → option_map (copy_columns H c) o ≡ Some r → IsAtIf H c (place_in v r)
    go (Some f) e q = let same : copy_columns H c f ≡ r = cc in by-claims H inv c f e r same v.loan is.loan v.hold is.hold v.transit is.transit limited
    go None e q = let never : ⊥ = cc in absurd never

-- What is told of it.
pub words-of : (H : History) (here : CopyPlace) (p : Place) → IsPlace H here p → words_of here ≡ place_words H p
words-of H (at.Shelf branch) p is = sym (ap (place_words H) is)
words-of H (at.HoldShelf hold branch until patron) p is =
    (λ i. codes "ready" ∷ decimal hold ∷ codes "at" ∷ decimal (sym is.1 i) ∷ codes "until" ∷ day_text (sym is.2 i) ∷ []) ∙ sym (ap (place_words H) is.0)
words-of H (at.Transit goal hold) p is = sym (ap (place_words H) is)
words-of H (at.Loan loan day patron) p is =
    (λ i. codes "loan" ∷ decimal loan ∷ codes "due" ∷ day_text (sym is.1 i) ∷ []) ∙ sym (ap (place_words H) is.0)
words-of H at.Missing p is = sym (ap (place_words H) is)
words-of H at.Withdrawn p is = sym (ap (place_words H) is)

-- ---- for whom

pub hold-patron : (H : History) (h : ℕ) (q : HoldRow) → (picture H).holds h ≡ Some q → patron_of_hold H h ≡ q.patron
hold-patron H h q there =
    let is : (s : HoldState) × (f : HoldFacts) × (state H h ≡ Some s) × (hold_of H h ≡ Some f) × (hold_columns H h s f ≡ q) = hold_row-is H h q there in
    ap (λ (o : Option HoldFacts). unwrap_or (option_map (λ x. x.patron) o) 0) is.3 ∙ ap (λ (x : HoldRow). x.patron) is.4

-- The hold for which a copy travels is there.
pub transit-hold : (H : History) → IsLegal H → (c b : ℕ) (h : Option ℕ) → place H c ≡ Transit b h → IfSome h (λ k. is_some ((picture H).holds k) ≡ true)
transit-hold H legal c b (Some h) here = (legal-references H legal).transit_hold c h _ (ap (transit_at c) here) refl
transit-hold H legal c b None here = tt

-- They are there.
pub patron-there : (H : History) → IsLegal H → (c p : ℕ) → patron_at H (place H c) ≡ Some p → is_some ((picture H).patrons p) ≡ true
patron-there H legal c p is = go (place H c) refl is
  where
    refs : HasReferences (picture H)
    refs = legal-references H legal

    inv : Invariant H
    inv = legal-Invariant H legal

    some-is : {A : Type 0} (o : Option A) → is_some o ≡ true → (x : A) × (o ≡ Some x)
    some-is (Some x) e = (x, refl)
    some-is None e = let never : ⊥ = cc in absurd never

    by-hold-row : (h : ℕ) → is_some ((picture H).holds h) ≡ true → Some (patron_of_hold H h) ≡ Some p → is_some ((picture H).patrons p) ≡ true
    by-hold-row h there e =
        let row = some-is ((picture H).holds h) there in
        let one : patron_of_hold H h ≡ p = cc in
        let same : row.0.patron ≡ p = sym (hold-patron H h row.0 row.1) ∙ one in
        subst (λ (k : ℕ). is_some ((picture H).patrons k) ≡ true) same (refs.hold_patron h row.0 row.1)

    go : (q : Place) → place H c ≡ q → patron_at H q ≡ Some p → is_some ((picture H).patrons p) ≡ true
    go (Loan l) here e =
        let lent = inv.on_loan c l here in
        let row : (picture H).loans l ≡ Some (loan_columns H l lent.0) = ap (option_map (loan_columns H l)) lent.1 in
        let mine : borrower H l ≡ lent.0.patron = ap (λ (o : Option LoanFacts). unwrap_or (option_map (λ x. x.patron) o) 0) lent.1 in
        let one : borrower H l ≡ p = cc in
        subst (λ (k : ℕ). is_some ((picture H).patrons k) ≡ true) (sym mine ∙ one) (refs.loan_patron l (loan_columns H l lent.0) row)
    go (HoldShelf h) here e =
        let f = placed-copy H inv c (λ no. let clash : Nowhere ≡ HoldShelf h = sym no ∙ here in let never : ⊥ = cc in never) in
        by-hold-row h (ap is_some (shelf_row H inv c f.0 f.1 h here).2) e
    go (Transit b (Some h)) here e = by-hold-row h (refs.transit_hold c h _ (ap (transit_at c) here) refl) e
    go (Transit b None) here e = let never : ⊥ = cc in absurd never
    go Nowhere here e = let never : ⊥ = cc in absurd never
    go (Shelf b) here e = let never : ⊥ = cc in absurd never
    go MissingCopy here e = let never : ⊥ = cc in absurd never
    go WithdrawnCopy here e = let never : ⊥ = cc in absurd never

-- The words for a patron.
pub patron-words : (H : History) (p : ℕ) (o : Option ℕ) (row : PatronRow) → o ≡ Some p → (picture H).patrons p ≡ Some row
    → after_space (codes "patron" ∷ decimal p ∷ row.name ∷ []) ≡ after_space (patron_words H o)
patron-words H p o row is there = go (patron_of H p) refl there
  where
    go : (z : Option PatronFacts) → patron_of H p ≡ z → option_map (patron_columns H p) z ≡ Some row
        → after_space (codes "patron" ∷ decimal p ∷ row.name ∷ []) ≡ after_space (patron_words H o)
    go (Some f) e q =
        let same : patron_columns H p f ≡ row = cc in
        let name : name_of H p ≡ row.name = ap (λ (z : Option PatronFacts). unwrap_or (option_map (λ x. x.name) z) []) e
        ∙ ap (λ (x : PatronRow). x.name) same in
        ap (λ (t : List ℕ). after_space (codes "patron" ∷ decimal p ∷ t ∷ [])) (sym name) ∙ sym (ap (λ (z : Option ℕ). after_space (patron_words H z)) is)
    go None e q = let never : ⊥ = cc in absurd never

-- ---- lines

spaced-is : (w : List ℕ) (ws : List (List ℕ)) → spaced (w ∷ ws) ≡ w ++ after_space ws
spaced-is w [] = sym (append-nil w)
spaced-is w (v ∷ vs) = ap (λ (t : List ℕ). w ++ 32 ∷ t) (spaced-is v vs)

pub spaced-after : (w : List ℕ) (ws vs : List (List ℕ)) → spaced ((w ∷ ws) ++ vs) ≡ spaced (w ∷ ws) ++ after_space vs
spaced-after w [] vs = spaced-is w vs
spaced-after w (x ∷ ws) vs = ap (λ (t : List ℕ). w ++ 32 ∷ t) (spaced-after x ws vs) ∙ sym (append_assoc w (32 ∷ spaced (x ∷ ws)) (after_space vs))

place-then : (here : CopyPlace) (vs : List (List ℕ)) → spaced (words_of here ++ vs) ≡ spaced (words_of here) ++ after_space vs
place-then (at.Shelf branch) vs = spaced-after (codes "shelf") (decimal branch ∷ []) vs
place-then (at.HoldShelf hold branch until patron) vs =
    spaced-after (codes "ready") (decimal hold ∷ codes "at" ∷ decimal branch ∷ codes "until" ∷ day_text until ∷ []) vs
place-then (at.Transit goal hold) vs = spaced-after (codes "transit") (decimal goal ∷ for_words hold) vs
place-then (at.Loan loan day patron) vs = spaced-after (codes "loan") (decimal loan ∷ codes "due" ∷ day_text day ∷ []) vs
place-then at.Missing vs = spaced-after (codes "missing") [] vs
place-then at.Withdrawn vs = spaced-after (codes "withdrawn") [] vs

-- The words for a place, and then those for the patron.
pub place-line : (H : History) (c : ℕ) (here : CopyPlace) → IsAt H c here
    → spaced (words_of here) ++ after_space (patron_words H (patron_at H (place H c))) ≡ place_line H (place H c)
place-line H c here is =
    sym (place-then here (patron_words H (patron_at H (place H c))))
    ∙ ap (λ (ws : List (List ℕ)). spaced (ws ++ patron_words H (patron_at H (place H c)))) (words-of H here (place H c) is)

-- The row of a copy of a title.
pub copy-row : (H : History) (c : ℕ) (here : CopyPlace) → IsAt H c here
    → spaced (codes "copy" ∷ decimal c ∷ words_of here) ≡ spaced (codes "copy" ∷ decimal c ∷ place_words H (place H c))
copy-row H c here is = ap (λ (ws : List (List ℕ)). spaced (codes "copy" ∷ decimal c ∷ ws)) (words-of H here (place H c) is)

-- The line of a copy.
pub copy-line : (H : History) (c : ℕ) (r : CopyRow) (t : TitleRow) → (picture H).copies c ≡ Some r → (picture H).titles r.title ≡ Some t
    → copy_words r t ≡ copy_line H c
copy-line H c r t there titled_by = go (copy_of H c) refl there
  where
    go : (o : Option CopyFacts) → copy_of H c ≡ o → option_map (copy_columns H c) o ≡ Some r → copy_words r t ≡ copy_line H c
    go (Some f) e q =
        let same : copy_columns H c f ≡ r = cc in
        let title : title_of_copy H c ≡ r.title = ap (λ (o : Option CopyFacts). unwrap_or (option_map (λ x. x.title) o) 0) e
        ∙ ap (λ (x : CopyRow). x.title) same in
        let home : home_of H c ≡ r.home = ap (λ (o : Option CopyFacts). unwrap_or (option_map (λ x. x.home) o) 0) e ∙ ap (λ (x : CopyRow). x.home) same in
        let kind : kind_of_copy H c ≡ r.kind = ap (λ (o : Option CopyFacts). unwrap_or (option_map (λ x. x.kind) o) 0) e
        ∙ ap (λ (x : CopyRow). x.kind) same in
        let price : price_of H c ≡ r.price = ap (λ (o : Option CopyFacts). unwrap_or (option_map (λ x. x.price) o) 0) e
        ∙ ap (λ (x : CopyRow). x.price) same in
        let number : r.copy ≡ c = sym (ap (λ (x : CopyRow). x.copy) same) in
        let w : (t.title ≡ title_of_copy H c) × (t.text ≡ title_text H (title_of_copy H c)) = titled H r.title (title_of_copy H c) t (sym title) titled_by in
        λ i. spaced (codes "copy" ∷ decimal (number i) ∷ codes "home" ∷ decimal (sym home i) ∷ codes "kind" ∷ decimal (sym kind i)
        ∷ codes "price" ∷ decimal (sym price i) ∷ codes "title" ∷ decimal (w.0 i) ∷ w.1 i ∷ [])
    go None e q = let never : ⊥ = cc in absurd never

-- ---- a copy's view

-- A copy that is there is somewhere that its view tells.
pub place-told : (H : History) → IsLegal H → HasForms H → (c : ℕ) (r : CopyRow) (v : View) → (picture H).copies c ≡ Some r → IsCopyView (picture H) c v
    → (here : CopyPlace) × (place_in v r ≡ Some here) × IsAt H c here
place-told H legal forms c r v there is =
    told (place_in v r) refl (place-is H (legal-Invariant H legal) c r v there is
    (λ q row ready. let until = ready-limit H legal forms q (row, ready) in ap is_some until.1))
  where
    told : (o : Option CopyPlace) → place_in v r ≡ o → IsAtIf H c o → (here : CopyPlace) × (place_in v r ≡ Some here) × IsAt H c here
    told (Some here) e at_it = (here, e, at_it)
    told None e never = absurd never

pub place-at : (H : History) → IsLegal H → HasForms H → (c : ℕ) (r : CopyRow) (v : View) (here : CopyPlace) → (picture H).copies c ≡ Some r
    → IsCopyView (picture H) c v → place_in v r ≡ Some here → IsAt H c here
place-at H legal forms c r v here there is told =
    let it = place-told H legal forms c r v there is in
    let same : it.0 ≡ here = cc in
    subst (λ p. IsAt H c p) same it.2
