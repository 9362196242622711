-- The replies to questions.
use Rattle.std.proofs.Common.{◌≡◌, ℕ, Bool, true, false, not, List, [], ◌∷◌, ◌++◌, append-nil, refl, sym, ◌∙◌, ap}
use Rattle.std.specs.Prelude.{Option, Some, None, is_some, is_none, option_map, unwrap_or, codes, decimal}
use Rattle.terms.specs.declared.command.Owner.{Owner}
use Rattle.terms.specs.declared.command.Command.TheVariants.{Ask}
use Rattle.terms.specs.declared.question.Question.TheVariants as question
use Rattle.terms.specs.declared.refusal.Refusal.{Refusal}
use Rattle.terms.specs.declared.refusal.Refusal.TheVariants.{UnknownBranch, UnknownPatron, UnknownTitle, UnknownCopy, UnknownKind, UnknownBarcode}
use Rattle.terms.specs.declared.reply.Reply.{Reply}
use Rattle.terms.specs.declared.reply.Reply.TheVariants.{Shown, Refused}
use Rattle.terms.specs.declared.row.BranchRow.{BranchRow}
use Rattle.terms.specs.declared.row.CopyRow.{CopyRow}
use Rattle.terms.specs.declared.row.KindRow.{KindRow}
use Rattle.terms.specs.declared.row.PatronRow.{PatronRow}
use Rattle.terms.specs.declared.row.TitleRow.{TitleRow}
use Rattle.model.specs.Answers.{answer}
use Rattle.model.specs.Asking.{asked, listed, copies_list, queue_list, account_list, overdue_list, shelf_list, pulls_list, transits_list}
use Rattle.model.specs.Asking.{closed_days_list, rules_list, loans_list}
use Rattle.model.specs.History.{History, branch_of, kind_of, copy_of, patron_of, title_of, thing_of}
use Rattle.model.specs.Pages.{spaced, title_words}
use Rattle.model.specs.Picture.{picture}
use Rattle.model.specs.Checks.{first_failing}
use Rattle.model.specs.Refusals.{has_branch, has_copy, has_patron}
use Rattle.model.specs.Reports.{report_lines}
use Rattle.desk.specs.Asking.{reply_if, title_words_of}
use Rattle.desk.proofs.PageRows.{title-text}

-- What is answered where this is checked.
answer-of : Refusal → List ℕ → Bool → Reply
answer-of refusal text unknown = elim (first_failing ((refusal, unknown) ∷ [])) [ Some refused ↦ Refused refused | None ↦ Shown text ]

answered : (known : Bool) (refusal : Refusal) (text : List ℕ) → answer-of refusal text (not known) ≡ reply_if known refusal text
unfolding answer-of
answered true refusal text = refl
answered false refusal text = refl

none-not-some : {A : Type 0} (o : Option A) → is_none o ≡ not (is_some o)
none-not-some (Some x) = refl
none-not-some None = refl

module _ (H : History) (o : Owner) where
  of-title : (t : ℕ) (text : List ℕ) → answer-of UnknownTitle text (is_none (title_of H t)) ≡ reply_if (is_some (title_of H t)) UnknownTitle text
  of-title t text = ap (answer-of UnknownTitle text) (none-not-some (title_of H t)) ∙ answered (is_some (title_of H t)) UnknownTitle text

  pub copies-answer : (t after : ℕ)
      → answer H o (Ask (question.Copies t after)) ≡ reply_if (is_some (title_of H t)) UnknownTitle (listed (copies_list H t) after)
  unfolding answer-of
  copies-answer t after = of-title t (listed (copies_list H t) after)

  pub queue-answer : (t after : ℕ)
      → answer H o (Ask (question.Queue t after)) ≡ reply_if (is_some (title_of H t)) UnknownTitle (listed (queue_list H t) after)
  unfolding answer-of
  queue-answer t after = of-title t (listed (queue_list H t) after)

  pub overdue-answer : (b after : ℕ) → answer H o (Ask (question.Overdue b after)) ≡ reply_if (has_branch H b) UnknownBranch (listed (overdue_list H b) after)
  unfolding answer-of
  overdue-answer b after = answered (has_branch H b) UnknownBranch (listed (overdue_list H b) after)

  pub shelf-answer : (b after : ℕ) → answer H o (Ask (question.Shelf b after)) ≡ reply_if (has_branch H b) UnknownBranch (listed (shelf_list H b) after)
  unfolding answer-of
  shelf-answer b after = answered (has_branch H b) UnknownBranch (listed (shelf_list H b) after)

  pub pulls-answer : (b after : ℕ) → answer H o (Ask (question.Pulls b after)) ≡ reply_if (has_branch H b) UnknownBranch (listed (pulls_list H b) after)
  unfolding answer-of
  pulls-answer b after = answered (has_branch H b) UnknownBranch (listed (pulls_list H b) after)

  pub transits-answer : (b after : ℕ)
      → answer H o (Ask (question.Transits b after)) ≡ reply_if (has_branch H b) UnknownBranch (listed (transits_list H b) after)
  unfolding answer-of
  transits-answer b after = answered (has_branch H b) UnknownBranch (listed (transits_list H b) after)

  pub closed-days-answer : (b after : ℕ)
      → answer H o (Ask (question.ClosedDays b after)) ≡ reply_if (has_branch H b) UnknownBranch (listed (closed_days_list H b) after)
  unfolding answer-of
  closed-days-answer b after = answered (has_branch H b) UnknownBranch (listed (closed_days_list H b) after)

  pub rules-answer : (k after : ℕ)
      → answer H o (Ask (question.Rules k after)) ≡ reply_if (is_some (kind_of H k)) UnknownKind (listed (rules_list H k) after)
  unfolding answer-of
  rules-answer k after = ap (answer-of UnknownKind (listed (rules_list H k) after)) (none-not-some (kind_of H k))
      ∙ answered (is_some (kind_of H k)) UnknownKind (listed (rules_list H k) after)

  pub loans-answer : (c after : ℕ) → answer H o (Ask (question.Loans c after)) ≡ reply_if (has_copy H c) UnknownCopy (listed (loans_list H c) after)
  unfolding answer-of
  loans-answer c after = answered (has_copy H c) UnknownCopy (listed (loans_list H c) after)

  pub account-answer : (p after : ℕ) → answer H o (Ask (question.Account p after)) ≡ reply_if (has_patron H p) UnknownPatron (listed (account_list H p) after)
  unfolding answer-of
  account-answer p after = answered (has_patron H p) UnknownPatron (listed (account_list H p) after)

  pub borrower-answer : (p : ℕ) → answer H o (Ask (question.Borrower p)) ≡ reply_if (has_patron H p) UnknownPatron (asked H (question.Borrower p))
  unfolding answer-of
  borrower-answer p = answered (has_patron H p) UnknownPatron (asked H (question.Borrower p))

  pub till-at-answer : (b d : ℕ) → answer H o (Ask (question.TillAt b d)) ≡ reply_if (has_branch H b) UnknownBranch (asked H (question.TillAt b d))
  unfolding answer-of
  till-at-answer b d = answered (has_branch H b) UnknownBranch (asked H (question.TillAt b d))

  pub barcode-answer : (x : List ℕ)
      → answer H o (Ask (question.FindBarcode x)) ≡ reply_if (is_some (thing_of H x)) UnknownBarcode (asked H (question.FindBarcode x))
  unfolding answer-of
  barcode-answer x = ap (answer-of UnknownBarcode (asked H (question.FindBarcode x))) (none-not-some (thing_of H x))
      ∙ answered (is_some (thing_of H x)) UnknownBarcode (asked H (question.FindBarcode x))

  pub copy-answer : (c : ℕ) → answer H o (Ask (question.Copy c)) ≡ reply_if (has_copy H c) UnknownCopy (asked H (question.Copy c))
  unfolding answer-of
  copy-answer c = answered (has_copy H c) UnknownCopy (asked H (question.Copy c))

-- ---- whether it is there, by its row

module _ (H : History) where
  -- What is known and shown.
  pub shown-if : (known : Bool) (refusal : Refusal) (text : List ℕ) → known ≡ true → Shown text ≡ reply_if known refusal text
  shown-if known refusal text e = sym (ap (λ b. reply_if b refusal text) e)

  pub refused-if : (known : Bool) (refusal : Refusal) (text : List ℕ) → known ≡ false → Refused refusal ≡ reply_if known refusal text
  refused-if known refusal text e = sym (ap (λ b. reply_if b refusal text) e)

  map-some : {A B : Type 0} (f : A → B) (o : Option A) → is_some (option_map f o) ≡ is_some o
  map-some f (Some x) = refl
  map-some f None = refl

  pub title-there : (t : ℕ) (o : Option TitleRow) → o ≡ (picture H).titles t → is_some (title_of H t) ≡ is_some o
  title-there t o e = sym (map-some _ (title_of H t)) ∙ sym (ap is_some e)

  pub branch-there : (b : ℕ) (o : Option BranchRow) → o ≡ (picture H).branches b → has_branch H b ≡ is_some o
  branch-there b o e = sym (map-some _ (branch_of H b)) ∙ sym (ap is_some e)

  pub kind-there : (k : ℕ) (o : Option KindRow) → o ≡ (picture H).kinds k → is_some (kind_of H k) ≡ is_some o
  kind-there k o e = sym (map-some _ (kind_of H k)) ∙ sym (ap is_some e)

  pub patron-there : (p : ℕ) (o : Option PatronRow) → o ≡ (picture H).patrons p → has_patron H p ≡ is_some o
  patron-there p o e = sym (map-some _ (patron_of H p)) ∙ sym (ap is_some e)

  pub copy-there : (c : ℕ) (o : Option CopyRow) → o ≡ (picture H).copies c → has_copy H c ≡ is_some o
  copy-there c o e = sym (map-some _ (copy_of H c)) ∙ sym (ap is_some e)

  -- The head of a list of a title.
  pub title-head : (t : ℕ) (row : TitleRow) → (picture H).titles t ≡ Some row → title_words_of row ++ 10 ∷ [] ≡ report_lines (spaced (title_words H t) ∷ [])
  title-head t row there =
      let is : (row.title ≡ t) × (title_of H t ≡ Some row.text) = title-text H t row there in
      (λ i. spaced (codes "title" ∷ decimal (is.0 i) ∷ row.text ∷ []) ++ 10 ∷ [])
      ∙ ap (λ (o : Option (List ℕ)). spaced (codes "title" ∷ decimal t ∷ unwrap_or o [] ∷ []) ++ 10 ∷ []) (sym is.1)
      ∙ sym (append-nil (spaced (title_words H t) ++ 10 ∷ []))
