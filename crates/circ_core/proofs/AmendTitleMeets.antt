-- Amend-title meets the history.
use Rattle.std.proofs.Common.{◌≡◌, ℕ, false, List, ◌∷◌, refl, ◌∙◌, ap}
use Rattle.std.specs.Prelude.{Option, Some, None, option_map, is_none}
use Rattle.terms.specs.declared.row.TitleRow.{TitleRow}
use Rattle.terms.specs.declared.command.Owner.TheVariants.{Desk}
use Rattle.terms.specs.declared.command.Command.TheVariants.{AmendTitle}
use Rattle.terms.specs.declared.reply.Reply.TheVariants.{Done}
use Rattle.terms.specs.declared.refusal.Refusal.TheVariants as check
use Rattle.model.specs.History.{History, title_of}
use Rattle.model.specs.Refusals.{checks}
use Rattle.model.specs.Picture.{picture, title_row}
use Rattle.model.proofs.Passing.{passed}
use Rattle.circ_core.specs.Decides.{event}
use Rattle.circ_core.specs.AmendTitle.{amend_title_checks, amend_title_rows}
use Rattle.circ_core.proofs.AcquireMeets.{title_columns}
use Rattle.circ_core.proofs.Meets.{Meets, Leads}
use Rattle.circ_core.proofs.Rows.{is_none-map, put_amended}

module _ (H : History) (t : ℕ) (text : List ℕ) where
  amend_title_leads : (o : Option (List ℕ)) → title_of H t ≡ o → is_none o ≡ false
      → Leads H (AmendTitle t text) (amend_title_rows (option_map (title_columns t) o) text)
  amend_title_leads (Some s) e ok owner key = λ i. record (picture (event owner key (AmendTitle t text) ∷ H)) {
    titles = λ n. put_amended title_columns (title_of H) t (λ old. text) s n e i;
  }
  amend_title_leads None e ok owner key = let never : ⊥ = cc in absurd never

  pub amend_title_meets : (row : Option TitleRow) → row ≡ title_row H t → Meets H (AmendTitle t text) (amend_title_checks row) Done (amend_title_rows row text)
  amend_title_meets row w = record {
    same = (refl, (ap is_none w ∙ is_none-map (title_columns t) (title_of H t)), λ _. tt);
    due = λ _. refl;
    leads = λ ok owner key. rw w (amend_title_leads (title_of H t) refl (passed (checks H Desk (AmendTitle t text)) ok check.UnknownTitle) owner key);
  }
