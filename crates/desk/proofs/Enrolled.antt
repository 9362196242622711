-- The patrons' rows are those of the enrolled patrons, and each one's page is the answer to the desk.
use Rattle.std.proofs.Common.{◌≡◌, ℕ, ◌==◌, Bool, true, false, List, [], ◌∷◌, ◌||◌, map, refl, sym, ◌∙◌, ap, subst}
use Rattle.std.specs.Prelude.{Option, Some, None, option_map, is_some}
use Rattle.std.specs.List.{list_any, Contains}
use Rattle.store.specs.Lists.{AreRows, AllPass}
use Rattle.terms.specs.declared.command.Owner.TheVariants.{Desk}
use Rattle.terms.specs.declared.command.Command.TheVariants.{Page}
use Rattle.terms.specs.declared.reply.Reply.{Reply}
use Rattle.terms.specs.declared.row.PatronRow.{PatronRow}
use Rattle.model.specs.Answers.{answer}
use Rattle.model.specs.History.{History, PatronFacts, patron_of}
use Rattle.model.specs.Picture.{picture, patron_columns}
use Rattle.model.proofs.ClosedDays.{eq-sym}
use Rattle.model.proofs.SettingRanges.{none-some}
use Rattle.desk.specs.Showing.{own_page, AreEnrolled}
use Rattle.desk.specs.declared.showing.OwnPage.{OwnPage}
use Rattle.desk.proofs.RowLists.{has, contains-has, has-contains, rise-rises}

-- ---- who is enrolled

any-has : (p : ℕ) (xs : List ℕ) → list_any (λ q. q == p) xs ≡ has p xs
any-has p [] = refl
any-has p (x ∷ xs) = ap (λ b. b || list_any (λ q. q == p) xs) (eq-sym x p) ∙ ap (λ b. (p == x) || b) (any-has p xs)

module _ (H : History) (rows : List PatronRow) (are : AreRows (picture H).patrons (λ r. r.patron) AllPass rows) (p : ℕ) where
  unlisted : patron_of H p ≡ None → (b : Bool) → has p (map (λ r. r.patron) rows) ≡ b → has p (map (λ r. r.patron) rows) ≡ false
  unlisted none true e =
      let found : (r : PatronRow) × Contains rows r × (r.patron ≡ p) = has-contains (λ r. r.patron) rows p e in
      let there : (picture H).patrons p ≡ Some found.0 = subst (λ n. (picture H).patrons n ≡ Some found.0) found.2 (are.sound found.0 found.1).0 in
      absurd (none-some found.0 (sym (ap (option_map (patron_columns H p)) none) ∙ there))
  unlisted none false e = e

  listed : (o : Option PatronFacts) → patron_of H p ≡ o → has p (map (λ r. r.patron) rows) ≡ is_some (patron_of H p)
  listed (Some f) e =
      let there : Contains rows (patron_columns H p f) = are.whole p (patron_columns H p f) (ap (option_map (patron_columns H p)) e) tt in
      contains-has (λ r. r.patron) rows (patron_columns H p f) there.0 there.1 there.2 ∙ sym (ap is_some e)
  listed None e = unlisted e (has p (map (λ r. r.patron) rows)) refl ∙ sym (ap is_some e)

pub enrolled : (H : History) (rows : List PatronRow) → AreRows (picture H).patrons (λ r. r.patron) AllPass rows → AreEnrolled H (map (λ r. r.patron) rows)
enrolled H rows are = record {
  each = λ p. any-has p (map (λ r. r.patron) rows) ∙ listed H rows are p (patron_of H p) refl;
  rise = rise-rises (λ r. r.patron) rows are.rise;
}

-- ---- the page of one who is

abbrev page_with : List ℕ → Reply → Option OwnPage
page_with card_key reply = Some (record { card_key = card_key; reply = reply })

pub page-there : (H : History) (p : ℕ) (row : PatronRow) (reply : Reply) → (picture H).patrons p ≡ Some row → reply ≡ answer H Desk (Page p)
    → page_with row.card_key reply ≡ own_page H p
page-there H p row reply there is = go (patron_of H p) refl there
  where
    go : (o : Option PatronFacts) → patron_of H p ≡ o → option_map (patron_columns H p) o ≡ Some row
        → page_with row.card_key reply ≡ own_page H p
    go (Some f) e q =
        let same : patron_columns H p f ≡ row = cc in
        let key : f.card_key ≡ row.card_key = ap (λ (y : PatronRow). y.card_key) same in
        ap (λ (k : List ℕ). page_with k reply) (sym key)
        ∙ ap (λ (y : Reply). page_with f.card_key y) is
        ∙ sym (ap (λ (o : Option PatronFacts). option_map (λ r. record { card_key = r.card_key; reply = answer H Desk (Page p) }) o) e)
    go None e q = absurd (none-some row q)

pub page-nowhere : (H : History) (p : ℕ) → (picture H).patrons p ≡ None → None ≡ own_page H p
page-nowhere H p there = go (patron_of H p) refl there
  where
    go : (o : Option PatronFacts) → patron_of H p ≡ o → option_map (patron_columns H p) o ≡ None → None ≡ own_page H p
    go (Some f) e q = absurd (none-some (patron_columns H p f) (sym q))
    go None e q = sym (ap (λ (o : Option PatronFacts). option_map (λ r. record { card_key = r.card_key; reply = answer H Desk (Page p) }) o) e)
