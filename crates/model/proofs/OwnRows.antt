-- A page depends only on the patron's own rows.
use Rattle.terms.specs.declared.row.HoldState.{HoldState}
use Rattle.model.specs.Places.{state, is_ready, title_of_hold}
use Rattle.std.specs.Prelude.{codes, decimal, Option, unwrap_or, option_map, option_and_then}
use Rattle.std.proofs.Common.{◌≡◌, ℕ, ◌==◌, Bool, true, ◌||◌, List, [], ◌∷◌, ◌++◌, map, refl, ap, ◌∙◌}
use Rattle.std.specs.List.{list_any, join_with_byte}
use Rattle.std.proofs.lemmas.Bool.{eq-eqb}
use Rattle.model.specs.History.{History, HoldFacts, hold_of}
use Rattle.model.specs.Loans.{open_loans}
use Rattle.model.specs.Refusals.{active_holds}
use Rattle.model.specs.Pages.{patron_line, loan_line, hold_line, page, spaced, standing_words, title_text}
use Rattle.model.specs.Laws.{AgreesOn}
use Rattle.model.proofs.Members.{or-right}

self : (x : ℕ) (b : Bool) → ((x == x) || b) ≡ true
self x b = ap (λ y. y || b) (eq-eqb x x refl)

-- Two functions that agree on the members of a list make one list of it.
map-same : {A : Type 0} (f g : ℕ → A) (xs : List ℕ) → ((x : ℕ) → list_any (λ k. k == x) xs ≡ true → f x ≡ g x) → map f xs ≡ map g xs
map-same f g [] same = refl
map-same f g (x ∷ xs) same =
    ap (λ y. y ∷ map f xs) (same x (self x (list_any (λ k. k == x) xs)))
    ∙ ap (λ ys. g x ∷ ys) (map-same f g xs (λ y has. same y (or-right (x == y) _ has)))

-- The line of a hold, by what is known of it.
abbrev hold_line_by : ℕ → Option HoldFacts → Option HoldState → List ℕ → List ℕ
hold_line_by h facts s text =
    spaced (codes "hold" ∷ decimal h ∷ codes "at" ∷ decimal (unwrap_or (option_map (λ r. r.branch) facts) 0)
    ∷ standing_words (is_ready s) (option_and_then (λ r. r.first_day) facts)
    ++ codes "title" ∷ decimal (unwrap_or (option_map (λ r. r.title) facts) 0) ∷ text ∷ [])

module _ (H K : History) (p : ℕ) (agree : AgreesOn H K p) where
  loan-same : (l : ℕ) → list_any (λ k. k == l) (open_loans H p) ≡ true → loan_line H l ≡ loan_line K l
  loan-same l has = rw (agree.dues l has, agree.renewals l has, agree.lent_texts l has, agree.lent_titles l has) refl

  hold-same : (h : ℕ) → list_any (λ k. k == h) (active_holds H p) ≡ true → hold_line H h ≡ hold_line K h
  hold-same h has =
      ap (λ text. hold_line_by h (hold_of H h) (state H h) (unwrap_or text [])) (agree.held_texts h has)
      ∙ ap (λ facts. hold_line_by h facts (state H h) (title_text K (title_of_hold K h))) (agree.held h has)
      ∙ ap (λ s. hold_line_by h (hold_of K h) s (title_text K (title_of_hold K h))) (agree.states h has)

  -- The page is the same.
  pub page-same : page H p ≡ page K p
  page-same =
      let patron : patron_line H p ≡ patron_line K p = rw (agree.patron, agree.debt) refl in
      let loans : map (loan_line H) (open_loans H p) ≡ map (loan_line K) (open_loans K p) =
      map-same (loan_line H) (loan_line K) (open_loans H p) loan-same ∙ ap (map (loan_line K)) agree.loans in
      let holds : map (hold_line H) (active_holds H p) ≡ map (hold_line K) (active_holds K p) =
      map-same (hold_line H) (hold_line K) (active_holds H p) hold-same ∙ ap (map (hold_line K)) agree.holds in
      ap (λ x. join_with_byte 10 (x ∷ map (loan_line H) (open_loans H p) ++ map (hold_line H) (active_holds H p))) patron
      ∙ ap (λ xs. join_with_byte 10 (patron_line K p ∷ xs ++ map (hold_line H) (active_holds H p))) loans
      ∙ ap (λ xs. join_with_byte 10 (patron_line K p ∷ map (loan_line K) (open_loans K p) ++ xs)) holds
