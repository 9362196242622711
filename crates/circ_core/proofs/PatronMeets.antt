-- Patron meets the history.
use Rattle.std.proofs.Common.{◌≡◌, ℕ, ◌==◌, false, not, ◌&&◌, List, [], ◌∷◌, refl, sym, ◌∙◌, ap}
use Rattle.std.specs.Prelude.{Option, Some, None, option_map, unwrap_or, is_none, bytes_eq}
use Rattle.terms.specs.declared.command.Command.TheVariants.{Patron}
use Rattle.terms.specs.declared.reply.Reply.TheVariants.{Done}
use Rattle.model.specs.Invariant.{Invariant}
use Rattle.model.specs.History.{History, kind_of, PatronFacts, patron_of}
use Rattle.model.specs.Accounts.{owed}
use Rattle.model.specs.Picture.{picture, kind_columns, patron_columns}
use Rattle.circ_core.specs.Decides.{event}
use Rattle.circ_core.specs.declared.changes.RowChange.{RowChange}
use Rattle.circ_core.specs.declared.changes.RowChange.TheVariants.{PutPatron}
use Rattle.circ_core.specs.declared.views.View.{View}
use Rattle.circ_core.specs.Tables.{rows_unless}
use Rattle.circ_core.specs.Patron.{patron_differs, patron_checks, patron_rows}
use Rattle.circ_core.specs.Views.{IsPatronView}
use Rattle.circ_core.proofs.Meets.{Meets, Leads}
use Rattle.circ_core.proofs.Rows.{is_none-map, put_new, keep_old}

module _ (H : History) (inv : Invariant H) (p k : ℕ) (card_key name : List ℕ) where
  patron_facts : PatronFacts
  patron_facts = record { kind = k; card_key = card_key; name = name }

  differs_patron-same : (o : Option PatronFacts)
      → patron_differs (option_map (patron_columns H p) o) k card_key name
      ≡ unwrap_or (option_map (λ r. not ((r.kind == k) && (bytes_eq r.card_key card_key && bytes_eq r.name name))) o) false
  differs_patron-same (Some r) = refl
  differs_patron-same None = refl

  owes_nothing : patron_of H p ≡ None → owed H p ≡ 0
  owes_nothing none = rw (inv.strangers p none) refl

  new_patron : List RowChange
  new_patron = PutPatron (record { patron = p; kind = k; card_key = card_key; name = name; owed = 0 }) ∷ []

  patron_leads : (o : Option PatronFacts) → patron_of H p ≡ o → Leads H (Patron p k card_key name) (rows_unless (option_map (patron_columns H p) o) new_patron)
  unfolding patron_facts new_patron
  patron_leads (Some r) e owner key = λ i. record (picture (event owner key (Patron p k card_key name) ∷ H)) {
    patrons = λ n. (keep_old (patron_columns H) (patron_of H) p patron_facts r n e) i;
  }
  patron_leads None e owner key = λ i. record (picture (event owner key (Patron p k card_key name) ∷ H)) {
    patrons = λ n. (put_new (patron_columns H) (patron_of H) p patron_facts _ n e
        (ap (λ w. record { patron = p; kind = k; card_key = card_key; name = name; owed = w }) (sym (owes_nothing e)))) i;
  }

  pub patron_meets : (rows : View) → IsPatronView (picture H) p k rows
      → Meets H (Patron p k card_key name) (patron_checks rows p k card_key name) Done (patron_rows rows p k card_key name)
  unfolding patron_facts new_patron
  patron_meets rows w = record {
    same = (
      refl,
      refl,
      λ _. (
        refl,
        (ap is_none w.kind ∙ is_none-map (kind_columns H k) (kind_of H k)),
        λ _. (refl, (rw w.patron (differs_patron-same (patron_of H p))), λ _. tt),
      ),
    );
    due = λ _. refl;
    leads = λ _ owner key. rw w.patron (patron_leads (patron_of H p) refl owner key);
  }
