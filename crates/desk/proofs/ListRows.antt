-- List rows reported from the tables' rows are the history's.
use Rattle.std.proofs.Common.{◌≡◌, ℕ, List, [], ◌∷◌, ◌++◌, refl, sym, ◌∙◌, ap}
use Rattle.std.specs.Prelude.{Option, Some, None, option_map, option_and_then, unwrap_or, codes, decimal}
use Rattle.calendar.specs.Days.{day_text}
use Rattle.circ_core.proofs.Claims.{hold_row-is, loan_row-is}
use Rattle.terms.specs.declared.row.CopyRow.{CopyRow}
use Rattle.terms.specs.declared.row.HoldRow.{HoldRow}
use Rattle.terms.specs.declared.row.HoldState.{HoldState}
use Rattle.terms.specs.declared.row.LineRow.{LineRow}
use Rattle.terms.specs.declared.row.LoanRow.{LoanRow}
use Rattle.terms.specs.declared.row.TitleRow.{TitleRow}
use Rattle.terms.specs.declared.row.TransitRow.{TransitRow}
use Rattle.model.specs.Accounts.{Line, Note, lines, nth_line}
use Rattle.model.specs.Asking.{transits_list, queue_list, account_list, pulls_list, travels_for, for_words, from_words, sort_word, loan_words, note_words}
use Rattle.model.specs.Asking.{account_line, pulled_for}
use Rattle.model.specs.History.{History, CopyFacts, copy_of, HoldFacts, hold_of}
use Rattle.model.specs.Loans.{LoanFacts, loan_of, title_of_loan}
use Rattle.model.specs.Pages.{spaced, title_text}
use Rattle.model.specs.Picture.{picture, copy_columns, loan_columns, hold_columns, line_columns}
use Rattle.model.specs.Places.{place, state, title_of_copy, title_of_hold, patron_of_hold, goal_of, first_day_of}
use Rattle.desk.specs.Asking.{queue_words, account_words, charge_words, pull_words, IsTitleOfLoan}
use Rattle.desk.specs.Labelling.{note_at}
use Rattle.desk.specs.Paging.{IsTitleOf}
use Rattle.desk.specs.Placing.{after_space, travel_words}
use Rattle.desk.proofs.ListNumbers.{transit-place}
use Rattle.desk.proofs.PageRows.{titled}
use Rattle.desk.proofs.Placings.{spaced-after}
use Rattle.desk.proofs.Pulls.{hold-title-is}

module _ (H : History) where
  copy-title-is : (c : ℕ) (r : CopyRow) → (picture H).copies c ≡ Some r → title_of_copy H c ≡ r.title
  copy-title-is c r there = go (copy_of H c) refl there
    where
      go : (o : Option CopyFacts) → copy_of H c ≡ o → option_map (copy_columns H c) o ≡ Some r → title_of_copy H c ≡ r.title
      go (Some f) e q =
          let same : copy_columns H c f ≡ r = cc in
          ap (λ (o : Option CopyFacts). unwrap_or (option_map (λ x. x.title) o) 0) e ∙ ap (λ (x : CopyRow). x.title) same
      go None e q = let never : ⊥ = cc in absurd never

  -- the title of a copy, of a loan's copy and of a hold, as a row of titles has it
  title-of-copy : (c : ℕ) (t : TitleRow) → IsTitleOf c H t → (t.title ≡ title_of_copy H c) × (t.text ≡ title_text H (title_of_copy H c))
  title-of-copy c t is = titled H is.0.title (title_of_copy H c) t (sym (copy-title-is c is.0 is.1)) is.2

  title-of-loan : (l : ℕ) (t : TitleRow) → IsTitleOfLoan l H t → (t.title ≡ title_of_loan H l) × (t.text ≡ title_text H (title_of_loan H l))
  title-of-loan l t is =
      let row : (f : LoanFacts) × (loan_of H l ≡ Some f) × (loan_columns H l f ≡ is.0) = loan_row-is H l is.0 is.1 in
      let same : title_of_loan H l ≡ title_of_copy H is.0.copy =
      ap (λ (o : Option LoanFacts). unwrap_or (option_map (λ x. title_of_copy H x.copy) o) 0) row.1 ∙ ap (λ (x : LoanRow). title_of_copy H x.copy) row.2 in
      let of_copy = title-of-copy is.0.copy t is.2 in
      (of_copy.0 ∙ sym same, of_copy.1 ∙ ap (title_text H) (sym same))

  -- a copy on its way
  pub travel-row : (b : ℕ) (r : TransitRow) (t : TitleRow) → (picture H).transits r.copy ≡ Some r → IsTitleOf r.copy H t
      → travel_words r t ≡ (transits_list H b).row r.copy
  travel-row b r t there is =
      let w = title-of-copy r.copy t is in
      let for_hold : r.hold ≡ travels_for (place H r.copy) = sym (ap travels_for (transit-place H r there)) in
      λ i. spaced (codes "copy" ∷ decimal r.copy ∷ for_words (for_hold i) ++ codes "title" ∷ decimal (w.0 i) ∷ w.1 i ∷ [])

  -- a hold in line
  pub queue-text : (t : ℕ) (r : HoldRow) → (picture H).holds r.hold ≡ Some r → queue_words r ≡ (queue_list H t).row r.hold
  queue-text t r there =
      let is : (s : HoldState) × (f : HoldFacts) × (state H r.hold ≡ Some s) × (hold_of H r.hold ≡ Some f)
      × (hold_columns H r.hold s f ≡ r) = hold_row-is H r.hold r there in
      let patron : patron_of_hold H r.hold ≡ r.patron = ap (λ (o : Option HoldFacts). unwrap_or (option_map (λ x. x.patron) o) 0) is.3
      ∙ ap (λ (x : HoldRow). x.patron) is.4 in
      let goal : goal_of H r.hold ≡ r.branch = ap (λ (o : Option HoldFacts). unwrap_or (option_map (λ x. x.branch) o) 0) is.3
      ∙ ap (λ (x : HoldRow). x.branch) is.4 in
      let first : first_day_of H r.hold ≡ r.first_day = ap (λ (o : Option HoldFacts). option_and_then (λ x. x.first_day) o) is.3
      ∙ ap (λ (x : HoldRow). x.first_day) is.4 in
      λ i. spaced (codes "hold" ∷ decimal r.hold ∷ codes "patron" ∷ decimal (sym patron i) ∷ codes "at" ∷ decimal (sym goal i) ∷ from_words (sym first i))

  -- a line of an account: what it is for, and then where it was made
  pub line-is : (p : ℕ) (r : LineRow) → (picture H).lines r.line ≡ Some r
      → account_words r (loan_words H r.loan) ++ after_space (note_words (note_at H r.line)) ≡ (account_list H p).row r.line
  line-is p r there = go (nth_line (lines H) r.line) refl there
    where
      go : (o : Option Line) → nth_line (lines H) r.line ≡ o → option_map (line_columns H r.line) o ≡ Some r
          → account_words r (loan_words H r.loan) ++ after_space (note_words (note_at H r.line)) ≡ account_line H r.line
      go (Some x) e q =
          let same : line_columns H r.line x ≡ r = cc in
          let noted : note_at H r.line ≡ x.note = ap (option_and_then (λ (y : Line). y.note)) e in
          sym (ap (λ (o : Option Line). unwrap_or (option_map (λ y. spaced (codes "line" ∷ decimal r.line ∷ day_text y.day ∷ sort_word y.sort
          ∷ decimal y.amount ∷ loan_words H y.loan ++ note_words y.note)) o) []) e
          ∙ (λ i. spaced (codes "line" ∷ decimal r.line ∷ day_text ((same i).day) ∷ sort_word ((same i).sort) ∷ decimal ((same i).amount)
          ∷ loan_words H ((same i).loan) ++ note_words x.note))
          ∙ spaced-after (codes "line") (decimal r.line ∷ day_text r.day ∷ sort_word r.sort ∷ decimal r.amount ∷ loan_words H r.loan) (note_words x.note)
          ∙ ap (λ (k : Option Note). account_words r (loan_words H r.loan) ++ after_space (note_words k)) (sym noted))
      go None e q = let never : ⊥ = cc in absurd never

  pub charge-text : (l : ℕ) (r : LineRow) (t : TitleRow) → r.loan ≡ Some l → IsTitleOfLoan l H t
      → charge_words r l t ≡ account_words r (loan_words H r.loan)
  charge-text l r t some is =
      let w = title-of-loan l t is in
      ap (account_words r) ((λ i. codes "loan" ∷ decimal l ∷ codes "title" ∷ decimal (w.0 i) ∷ w.1 i ∷ []) ∙ ap (loan_words H) (sym some))

  -- a copy that is to be taken from its shelf
  pub pull-text : (b copy : ℕ) (r : HoldRow) (t : TitleRow) → (picture H).holds r.hold ≡ Some r → pulled_for H b r.hold ≡ Some copy
      → (picture H).titles r.title ≡ Some t → pull_words r.hold copy t ≡ (pulls_list H b).row r.hold
  pull-text b copy r t there pulled title =
      let w : (t.title ≡ title_of_hold H r.hold) × (t.text ≡ title_text H (title_of_hold H r.hold)) =
      titled H r.title (title_of_hold H r.hold) t (sym (hold-title-is H r there)) title in
      λ i. spaced (codes "hold" ∷ decimal r.hold ∷ codes "copy" ∷ decimal (unwrap_or (sym pulled i) 0) ∷ codes "title" ∷ decimal (w.0 i) ∷ w.1 i ∷ [])
