-- Rows of patrons and titles are those of their searches.
use Rattle.std.proofs.Common.{◌≡◌, ℕ, ◌<◌, true, List, [], refl, sym, ◌∙◌, ap}
use Rattle.std.specs.Prelude.{◌↔◌, replicate, Option, Some, None, is_some, option_map, unwrap_or}
use Rattle.finding.specs.Finding.{finds}
use Rattle.terms.specs.declared.row.PatronRow.{PatronRow}
use Rattle.terms.specs.declared.row.TitleRow.{TitleRow}
use Rattle.store.specs.Batches.{AreRowsAfter}
use Rattle.model.specs.History.{History, PatronFacts, patron_of, patrons, title_of, titles}
use Rattle.model.specs.Pages.{name_of, title_text}
use Rattle.model.specs.Picture.{picture, patron_columns}
use Rattle.model.specs.Asking.{kind_of_patron, patrons_search, titles_search}
use Rattle.model.specs.AskingLaws.{has_number, found_in_turn, IsSearchedToItsEnd}
use Rattle.model.proofs.Asking.{lists-rise}
use Rattle.model.proofs.Debts.{rising-has}
use Rattle.model.proofs.Found.{patron-there, patron-known, title-there, title-known, patrons-are-found, titles-are-found}
use Rattle.desk.specs.Listing.{HasBatch}
use Rattle.desk.specs.Searching.{IsFoundBy, IsShownAs, HasListed}
use Rattle.desk.specs.Paging.{patron_words}
use Rattle.desk.specs.Asking.{title_words_of}
use Rattle.desk.proofs.ListBatches.{patron-number}
use Rattle.desk.proofs.ListNumbers.{all-batch}
use Rattle.desk.proofs.PageRows.{patron-line, title-text, titled}
use Rattle.desk.proofs.Replies.{title-there as title-row-there, patron-there as patron-row-there}

some-is : {A : Type 0} (o : Option A) → is_some o ≡ true → (x : A) × (o ≡ Some x)
some-is (Some x) e = (x, refl)
some-is None e = let never : ⊥ = cc in absurd never

module _ (H : History) (query : List ℕ) where
  patrons-batch : (at : ℕ) (rows : List PatronRow) → AreRowsAfter (picture H).patrons (λ r. r.patron) at rows
      → HasBatch (λ r. r.patron) (λ r. (picture H).patrons r.patron ≡ Some r) (patrons_search H query).all at rows
  patrons-batch = all-batch (picture H).patrons (λ r. r.patron) (patrons_search H query).all (patron-number H)
      (λ k is. let w = some-is (patron_of H k) (patron-known H k (sym (rising-has (patrons H) k) ∙ is)) in
      (patron_columns H k w.0, ap (option_map (patron_columns H k)) w.1)) ((lists-rise H).found_patrons query)

  titles-batch : (at : ℕ) (rows : List TitleRow) → AreRowsAfter (picture H).titles (λ r. r.title) at rows
      → HasBatch (λ r. r.title) (λ r. (picture H).titles r.title ≡ Some r) (titles_search H query).all at rows
  titles-batch = all-batch (picture H).titles (λ r. r.title) (titles_search H query).all (λ k r there. (title-text H k r there).0)
      (λ k is. let w = some-is (title_of H k) (title-known H k (sym (rising-has (titles H) k) ∙ is)) in
      (record { title = k; text = w.0 }, ap (option_map (λ x. record { title = k; text = x })) w.1)) ((lists-rise H).found_titles query)

patron-name : (H : History) (p : ℕ) (r : PatronRow) → (picture H).patrons p ≡ Some r → r.name ≡ name_of H p
patron-name H p r there = go (patron_of H p) refl there
  where
    go : (o : Option PatronFacts) → patron_of H p ≡ o → option_map (patron_columns H p) o ≡ Some r → r.name ≡ name_of H p
    go (Some f) e q =
        let same : patron_columns H p f ≡ r = cc in
        sym (ap (λ (y : PatronRow). y.name) same) ∙ sym (ap (λ (o : Option PatronFacts). unwrap_or (option_map (λ y. y.name) o) []) e)
    go None e q = let never : ⊥ = cc in absurd never

pub patron-kind : (H : History) (p : ℕ) (r : PatronRow) → (picture H).patrons p ≡ Some r → r.kind ≡ kind_of_patron H p
patron-kind H p r there = go (patron_of H p) refl there
  where
    go : (o : Option PatronFacts) → patron_of H p ≡ o → option_map (patron_columns H p) o ≡ Some r → r.kind ≡ kind_of_patron H p
    go (Some f) e q =
        let same : patron_columns H p f ≡ r = cc in
        sym (ap (λ (y : PatronRow). y.kind) same) ∙ sym (ap (λ (o : Option PatronFacts). unwrap_or (option_map (λ y. y.kind) o) 0) e)
    go None e q = let never : ⊥ = cc in absurd never

-- ---- what a row tells

module _ (H : History) (r : PatronRow) (there : (picture H).patrons r.patron ≡ Some r) where
  pub patron-found : IsFoundBy (patrons_search H) r.patron r.name
  patron-found query = ap (finds query) (sym (patron-name H r.patron r there))

  pub patron-shown : IsShownAs (patrons_search H) r.patron (patron_words r)
  patron-shown query = patron-line H r.patron r there

  patron-listed : (query : List ℕ) → has_number (patrons_search H query).all.numbers r.patron
  patron-listed query = rising-has (patrons H) r.patron ∙ patron-there H r.patron (patron-row-there H r.patron (Some r) (sym there))

module _ (H : History) (r : TitleRow) (there : (picture H).titles r.title ≡ Some r) where
  same-text : r.text ≡ title_text H r.title
  same-text = (titled H r.title r.title r refl there).1

  pub title-found : IsFoundBy (titles_search H) r.title r.text
  title-found query = ap (finds query) (sym same-text)

  pub title-shown : IsShownAs (titles_search H) r.title (title_words_of r)
  title-shown query = ap (λ (text : List ℕ). title_words_of (record { title = r.title; text = text })) same-text

  title-listed : (query : List ℕ) → has_number (titles_search H query).all.numbers r.title
  title-listed query = rising-has (titles H) r.title ∙ title-there H r.title (title-row-there H r.title (Some r) (sym there))

-- ---- batches

module _ (H : History) (at : ℕ) where
  pub patrons-listed : (rows : List PatronRow) → AreRowsAfter (picture H).patrons (λ r. r.patron) at rows → (query : List ℕ)
      → HasListed (λ r. r.patron) (λ r. (picture H).patrons r.patron ≡ Some r) (patrons_search H query).all at rows
  patrons-listed rows are query =
      let batch = patrons-batch H query at rows are in
      record { batch = batch; listed = λ r there. patron-listed H r (batch.sound r there).0 query }

  pub titles-listed : (rows : List TitleRow) → AreRowsAfter (picture H).titles (λ r. r.title) at rows → (query : List ℕ)
      → HasListed (λ r. r.title) (λ r. (picture H).titles r.title ≡ Some r) (titles_search H query).all at rows
  titles-listed rows are query =
      let batch = titles-batch H query at rows are in
      record { batch = batch; listed = λ r there. title-listed H r (batch.sound r there).0 query }

-- ---- which rows are shown

pub patrons-by-name : (H : History) (text : List ℕ) (calls p : ℕ) (row : PatronRow) → 0 < p → (picture H).patrons p ≡ Some row
    → IsSearchedToItsEnd (replicate calls (patrons_search H text)) 0
    → has_number (found_in_turn (replicate calls (patrons_search H text)) 0) p ↔ (finds text row.name ≡ true)
patrons-by-name H text calls p row low there ends =
    let is = patrons-are-found H text calls p low ends in
    let same : finds text row.name ≡ finds text (name_of H p) = ap (finds text) (patron-name H p row there) in
    (λ shown. same ∙ (is.0 shown).1, λ found. is.1 (patron-row-there H p (Some row) (sym there), sym same ∙ found))

pub titles-by-text : (H : History) (text : List ℕ) (calls t : ℕ) (row : TitleRow) → 0 < t → (picture H).titles t ≡ Some row
    → IsSearchedToItsEnd (replicate calls (titles_search H text)) 0
    → has_number (found_in_turn (replicate calls (titles_search H text)) 0) t ↔ (finds text row.text ≡ true)
titles-by-text H text calls t row low there ends =
    let is = titles-are-found H text calls t low ends in
    let same : finds text row.text ≡ finds text (title_text H t) = ap (finds text) (titled H t t row refl there).1 in
    (λ shown. same ∙ (is.0 shown).1, λ found. is.1 (title-row-there H t (Some row) (sym there), sym same ∙ found))
