-- Amend-copy meets the history.
use Rattle.std.proofs.Common.{◌≡◌, ℕ, not, false, ◌∷◌, refl, ◌∙◌, ap}
use Rattle.std.specs.Prelude.{Option, Some, None, option_map, is_none, is_some}
use Rattle.terms.specs.declared.row.CopyRow.{CopyRow}
use Rattle.terms.specs.declared.command.Owner.TheVariants.{Desk}
use Rattle.terms.specs.declared.command.Command.TheVariants.{AmendCopy}
use Rattle.terms.specs.declared.reply.Reply.TheVariants.{Done}
use Rattle.terms.specs.declared.refusal.Refusal.TheVariants as check
use Rattle.model.specs.History.{History, CopyFacts, copy_of, with_price}
use Rattle.model.specs.Refusals.{checks}
use Rattle.model.specs.Picture.{picture, copy_row, copy_columns}
use Rattle.model.proofs.Passing.{passed}
use Rattle.circ_core.specs.Decides.{event}
use Rattle.circ_core.specs.AmendCopy.{amend_copy_checks, amend_copy_rows}
use Rattle.circ_core.proofs.Meets.{Meets, Leads}
use Rattle.circ_core.proofs.Rows.{none-map, put_amended}

module _ (H : History) (c k price : ℕ) where
  amend_copy_leads : (o : Option CopyFacts) → copy_of H c ≡ o → not (is_some o) ≡ false
      → Leads H (AmendCopy c k price) (amend_copy_rows (option_map (copy_columns H c) o) k price)
  amend_copy_leads (Some r) e ok owner key = λ i. record (picture (event owner key (AmendCopy c k price) ∷ H)) {
    copies = λ n. put_amended (copy_columns H) (copy_of H) c (with_price k price) r n e i;
  }
  amend_copy_leads None e ok owner key = let never : ⊥ = cc in absurd never

  pub amend_copy_meets : (row : Option CopyRow) → row ≡ copy_row H c → Meets H (AmendCopy c k price) (amend_copy_checks row k price) Done (amend_copy_rows row k price)
  amend_copy_meets row w = record {
    same = (refl, refl, λ _. (refl, (ap is_none w ∙ none-map (copy_columns H c) (copy_of H c)), λ _. tt));
    due = λ _. refl;
    leads = λ ok owner key. rw w (amend_copy_leads (copy_of H c) refl (passed (checks H Desk (AmendCopy c k price)) ok check.UnknownCopy) owner key);
  }
