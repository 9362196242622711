-- Card-key and amend-patron meet the history.
use Rattle.std.proofs.Common.{◌≡◌, ℕ, not, false, List, ◌∷◌, refl, ◌∙◌, ap}
use Rattle.std.specs.Prelude.{Option, Some, None, option_map, is_none, is_some}
use Rattle.terms.specs.declared.row.PatronRow.{PatronRow}
use Rattle.terms.specs.declared.command.Owner.TheVariants.{Desk}
use Rattle.terms.specs.declared.command.Command.TheVariants.{SetCardKey, AmendPatron}
use Rattle.terms.specs.declared.reply.Reply.TheVariants.{Done}
use Rattle.terms.specs.declared.refusal.Refusal.TheVariants as check
use Rattle.model.specs.History.{History, kind_of, PatronFacts, patron_of, with_card_key, with_kind}
use Rattle.model.specs.Refusals.{checks}
use Rattle.model.specs.Picture.{picture, kind_columns, patron_row, patron_columns}
use Rattle.model.proofs.Passing.{passed}
use Rattle.circ_core.specs.Decides.{event}
use Rattle.circ_core.specs.declared.views.View.{View}
use Rattle.circ_core.specs.AmendPatron.{card_key_checks, card_key_rows, amend_patron_checks, amend_patron_rows}
use Rattle.circ_core.specs.Views.{IsPatronView}
use Rattle.circ_core.proofs.Meets.{Meets, Leads}
use Rattle.circ_core.proofs.Rows.{none-map, is_none-map, put_amended}

module _ (H : History) (p : ℕ) where
  card_key_leads : (card_key : List ℕ) (o : Option PatronFacts) → patron_of H p ≡ o → not (is_some o) ≡ false
      → Leads H (SetCardKey p card_key) (card_key_rows (option_map (patron_columns H p) o) card_key)
  card_key_leads card_key (Some r) e ok owner key = λ i. record (picture (event owner key (SetCardKey p card_key) ∷ H)) {
    patrons = λ n. put_amended (patron_columns H) (patron_of H) p (with_card_key card_key) r n e i;
  }
  card_key_leads card_key None e ok owner key = let never : ⊥ = cc in absurd never

  pub card_key_meets : (card_key : List ℕ) (row : Option PatronRow) → row ≡ patron_row H p
      → Meets H (SetCardKey p card_key) (card_key_checks row) Done (card_key_rows row card_key)
  card_key_meets card_key row w = record {
    same = (refl, (ap is_none w ∙ none-map (patron_columns H p) (patron_of H p)), λ _. tt);
    due = λ _. refl;
    leads = λ ok owner key. rw w (card_key_leads card_key (patron_of H p) refl (passed (checks H Desk (SetCardKey p card_key)) ok check.UnknownPatron) owner key);
  }

  amend_patron_leads : (k : ℕ) (name : List ℕ) (o : Option PatronFacts) → patron_of H p ≡ o → not (is_some o) ≡ false
      → Leads H (AmendPatron p k name) (amend_patron_rows (option_map (patron_columns H p) o) k name)
  amend_patron_leads k name (Some r) e ok owner key = λ i. record (picture (event owner key (AmendPatron p k name) ∷ H)) {
    patrons = λ n. put_amended (patron_columns H) (patron_of H) p (with_kind k name) r n e i;
  }
  amend_patron_leads k name None e ok owner key = let never : ⊥ = cc in absurd never

  pub amend_patron_meets : (k : ℕ) (name : List ℕ) (rows : View) → IsPatronView (picture H) p k rows
      → Meets H (AmendPatron p k name) (amend_patron_checks rows k) Done (amend_patron_rows rows.patron k name)
  amend_patron_meets k name rows w = record {
    same = (
      refl,
      refl,
      λ _. (
        refl,
        (ap is_none w.patron ∙ none-map (patron_columns H p) (patron_of H p)),
        λ _. (refl, (ap is_none w.kind ∙ is_none-map (kind_columns H k) (kind_of H k)), λ _. tt),
      ),
    );
    due = λ _. refl;
    leads = λ ok owner key. rw w.patron (amend_patron_leads k name (patron_of H p) refl (passed (checks H Desk (AmendPatron p k name)) ok check.UnknownPatron) owner key);
  }
