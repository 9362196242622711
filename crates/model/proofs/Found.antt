-- Exactly the patrons and titles that a text finds are shown.
use Rattle.std.proofs.Common.{◌≡◌, ℕ, ◌<◌, ◌==◌, Bool, true, false, cond, ◌||◌, List, [], ◌∷◌, refl, sym, ◌∙◌, ap, subst, nat_lt}
use Rattle.std.specs.Prelude.{◌↔◌, Option, Some, None, is_none, is_some, filter}
use Rattle.std.specs.Option.{option_or}
use Rattle.std.proofs.lemmas.Bool.{eqb-true, lt-ltb}
use Rattle.terms.specs.declared.command.Command.{Command}
use Rattle.terms.specs.declared.command.Command.TheVariants.{Patron, Acquire, SetCardKey, AmendPatron, AmendTitle}
use Rattle.finding.specs.Finding.{finds}
use Rattle.model.specs.History.{History, with_card_key, with_kind, patron_of, patron_after, patrons, patrons_after, title_of, title_after, titles, titles_after}
use Rattle.model.specs.Asking.{rising, above, patrons_search, titles_search}
use Rattle.model.specs.AskingLaws.{PatronsAreFound, TitlesAreFound}
use Rattle.model.specs.Pages.{name_of, title_text}
use Rattle.model.proofs.Amending.{amended-is_some}
use Rattle.model.proofs.Members.{has, filter-passes, filter-has, or-right, or-left}
use Rattle.model.proofs.Debts.{rising-has}
use Rattle.model.proofs.Asking.{rising-rises}
use Rattle.model.proofs.Searching.{searches-show-found}

-- ---- members

filter-member : (test : ℕ → Bool) (h : ℕ) (xs : List ℕ) → has (filter test xs) h ≡ true → has xs h ≡ true
filter-member test h [] e = e
filter-member test h (x ∷ xs) e = go (filter-member test h xs) (test x) (x == h) refl e
  where
    go : (has (filter test xs) h ≡ true → has xs h ≡ true) → (b c : Bool) → (x == h) ≡ c → has (cond b (x ∷ filter test xs) (filter test xs)) h ≡ true
        → ((x == h) || has xs h) ≡ true
    go ih b true q e = or-left (x == h) (has xs h) q
    go ih true false q e = or-right (x == h) (has xs h) (ih (subst (λ y. (y || has (filter test xs) h) ≡ true) q e))
    go ih false false q e = or-right (x == h) (has xs h) (ih e)

-- What passes of the members that are made to rise.
passing : (test : ℕ → Bool) (xs : List ℕ) (n : ℕ) → 0 < n → (has (filter test (above 0 (rising xs))) n ≡ true) ↔ ((has xs n ≡ true) × (test n ≡ true))
passing test xs n low = (
  λ e. (
    sym (rising-has xs n) ∙ filter-member (λ m. nat_lt 0 m) n (rising xs) (filter-member test n (above 0 (rising xs)) e),
    filter-passes test n (above 0 (rising xs)) e,
  ),
  λ both. filter-has test n (above 0 (rising xs)) both.1
      (filter-has (λ m. nat_lt 0 m) n (rising xs) (lt-ltb 0 n low) (rising-has xs n ∙ both.0)),
)

-- ---- numbers that a command adds once

-- What a list has is known, also after a number was added.
known-after : {A : Type 0} → (n p : ℕ) (v : A) (xs : List ℕ) (new : Bool) (z : Option A) → (has xs p ≡ true → is_some z ≡ true)
    → has (cond new (n ∷ xs) xs) p ≡ true → is_some (option_or z (cond (n == p) (Some v) None)) ≡ true
known-after n p v xs new (Some r) known e = refl
known-after n p v xs new None known e = go new (n == p) refl e
  where
    go : (b c : Bool) → (n == p) ≡ c → has (cond b (n ∷ xs) xs) p ≡ true → is_some (cond c (Some v) None) ≡ true
    go b true q e = refl
    go true false q e = known (subst (λ y. (y || has xs p) ≡ true) q e)
    go false false q e = known e

-- What is known a list has, also after a number was added.
has-after : {A : Type 0} → (n p : ℕ) (v : A) (xs : List ℕ) (y z : Option A) → (n ≡ p → y ≡ z) → (is_some z ≡ true → has xs p ≡ true)
    → is_some (option_or z (cond (n == p) (Some v) None)) ≡ true → has (cond (is_none y) (n ∷ xs) xs) p ≡ true
has-after n p v xs y (Some r) same there e = go (is_none y) (there refl)
  where
    go : (b : Bool) → has xs p ≡ true → has (cond b (n ∷ xs) xs) p ≡ true
    go true h = or-right (n == p) (has xs p) h
    go false h = h
has-after n p v xs y None same there e = go (n == p) refl e
  where
    new : (n == p) ≡ true → (z : Option _) → y ≡ z → z ≡ None → has (cond (is_none z) (n ∷ xs) xs) p ≡ true
    new q None f g = or-left (n == p) (has xs p) q
    new q (Some r) f g = let never : ⊥ = cc in absurd never

    go : (c : Bool) → (n == p) ≡ c → is_some (cond c (Some v) None) ≡ true → has (cond (is_none y) (n ∷ xs) xs) p ≡ true
    go true q e = new q y refl (same (eqb-true n p q))
    go false q e = let never : ⊥ = cc in absurd never

-- ---- patrons

pub patron-known : (H : History) (p : ℕ) → has (patrons H) p ≡ true → is_some (patron_of H p) ≡ true
patron-known [] p e = let never : ⊥ = cc in absurd never
patron-known (e ∷ H) p f = go (patron-known H p) e.command f
  where
    go : (has (patrons H) p ≡ true → is_some (patron_of H p) ≡ true) → (x : Command) → has (patrons_after H x (patrons H)) p ≡ true
        → is_some (patron_after x p (patron_of H p)) ≡ true
    go ih (Patron n kind card_key name) h = known-after n p _ (patrons H) (is_none (patron_of H n)) (patron_of H p) ih h
    go ih (SetCardKey n card_key) h = amended-is_some (n == p) (with_card_key card_key) (patron_of H p) ∙ ih h
    go ih (AmendPatron n kind name) h = amended-is_some (n == p) (with_kind kind name) (patron_of H p) ∙ ih h
    go ih _ h = ih h

pub patron-there : (H : History) (p : ℕ) → is_some (patron_of H p) ≡ true → has (patrons H) p ≡ true
patron-there [] p e = let never : ⊥ = cc in absurd never
patron-there (e ∷ H) p f = go (patron-there H p) e.command f
  where
    go : (is_some (patron_of H p) ≡ true → has (patrons H) p ≡ true) → (x : Command) → is_some (patron_after x p (patron_of H p)) ≡ true
        → has (patrons_after H x (patrons H)) p ≡ true
    go ih (Patron n kind card_key name) h = has-after n p _ (patrons H) (patron_of H n) (patron_of H p) (λ same. ap (patron_of H) same) ih h
    go ih (SetCardKey n card_key) h = ih (sym (amended-is_some (n == p) (with_card_key card_key) (patron_of H p)) ∙ h)
    go ih (AmendPatron n kind name) h = ih (sym (amended-is_some (n == p) (with_kind kind name) (patron_of H p)) ∙ h)
    go ih _ h = ih h

pub patrons-are-found : PatronsAreFound
patrons-are-found H text calls p low ends =
    let exact = searches-show-found (patrons_search H text) calls 0 (rising-rises (patrons H)) ends in
    let is = passing (λ q. finds text (name_of H q)) (patrons H) p low in (
      λ e. let both = is.0 (subst (λ (xs : List ℕ). has xs p ≡ true) exact e) in (patron-known H p both.0, both.1),
      λ both. subst (λ (xs : List ℕ). has xs p ≡ true) (sym exact) (is.1 (patron-there H p both.0, both.1)),
    )

-- ---- titles

pub title-known : (H : History) (t : ℕ) → has (titles H) t ≡ true → is_some (title_of H t) ≡ true
title-known [] t e = let never : ⊥ = cc in absurd never
title-known (e ∷ H) t f = go (title-known H t) e.command f
  where
    go : (has (titles H) t ≡ true → is_some (title_of H t) ≡ true) → (x : Command) → has (titles_after H x (titles H)) t ≡ true
        → is_some (title_after x t (title_of H t)) ≡ true
    go ih (Acquire copy n kind home price text) h = known-after n t text (titles H) (is_none (title_of H n)) (title_of H t) ih h
    go ih (AmendTitle n text) h = amended-is_some (n == t) (λ old. text) (title_of H t) ∙ ih h
    go ih _ h = ih h

pub title-there : (H : History) (t : ℕ) → is_some (title_of H t) ≡ true → has (titles H) t ≡ true
title-there [] t e = let never : ⊥ = cc in absurd never
title-there (e ∷ H) t f = go (title-there H t) e.command f
  where
    go : (is_some (title_of H t) ≡ true → has (titles H) t ≡ true) → (x : Command) → is_some (title_after x t (title_of H t)) ≡ true
        → has (titles_after H x (titles H)) t ≡ true
    go ih (Acquire copy n kind home price text) h = has-after n t text (titles H) (title_of H n) (title_of H t) (λ same. ap (title_of H) same) ih h
    go ih (AmendTitle n text) h = ih (sym (amended-is_some (n == t) (λ old. text) (title_of H t)) ∙ h)
    go ih _ h = ih h

pub titles-are-found : TitlesAreFound
titles-are-found H text calls t low ends =
    let exact = searches-show-found (titles_search H text) calls 0 (rising-rises (titles H)) ends in
    let is = passing (λ s. finds text (title_text H s)) (titles H) t low in (
      λ e. let both = is.0 (subst (λ (xs : List ℕ). has xs t ≡ true) exact e) in (title-known H t both.0, both.1),
      λ both. subst (λ (xs : List ℕ). has xs t ≡ true) (sym exact) (is.1 (title-there H t both.0, both.1)),
    )
