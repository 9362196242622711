-- Amend-branch meets the history.
use Rattle.std.proofs.Common.{◌≡◌, ℕ, not, false, List, ◌∷◌, refl, ◌∙◌, ap}
use Rattle.std.specs.Prelude.{Option, Some, None, option_map, is_none, is_some}
use Rattle.terms.specs.declared.row.BranchRow.{BranchRow}
use Rattle.terms.specs.declared.command.Owner.TheVariants.{Desk}
use Rattle.terms.specs.declared.command.Command.TheVariants.{AmendBranch}
use Rattle.terms.specs.declared.reply.Reply.TheVariants.{Done}
use Rattle.terms.specs.declared.refusal.Refusal.TheVariants as check
use Rattle.model.specs.History.{History, BranchFacts, branch_of, with_pickup}
use Rattle.model.specs.Refusals.{checks}
use Rattle.model.specs.Picture.{picture, branch_row, branch_columns}
use Rattle.model.proofs.Passing.{passed}
use Rattle.circ_core.specs.Decides.{event}
use Rattle.circ_core.specs.AmendBranch.{amend_branch_checks, amend_branch_rows}
use Rattle.circ_core.proofs.Meets.{Meets, Leads}
use Rattle.circ_core.proofs.Rows.{none-map, put_amended}

module _ (H : History) (b pickup : ℕ) (name : List ℕ) where
  amend_branch_leads : (o : Option BranchFacts) → branch_of H b ≡ o → not (is_some o) ≡ false
      → Leads H (AmendBranch b pickup name) (amend_branch_rows (option_map (branch_columns H b) o) pickup name)
  amend_branch_leads (Some r) e ok owner key = λ i. record (picture (event owner key (AmendBranch b pickup name) ∷ H)) {
    branches = λ n. put_amended (branch_columns H) (branch_of H) b (with_pickup pickup name) r n e i;
  }
  amend_branch_leads None e ok owner key = let never : ⊥ = cc in absurd never

  pub amend_branch_meets : (row : Option BranchRow) → row ≡ branch_row H b
      → Meets H (AmendBranch b pickup name) (amend_branch_checks row b pickup name) Done (amend_branch_rows row pickup name)
  amend_branch_meets row w = record {
    same = (refl, refl, λ _. (refl, (ap is_none w ∙ none-map (branch_columns H b) (branch_of H b)), λ _. tt));
    due = λ _. refl;
    leads = λ ok owner key. rw w (amend_branch_leads (branch_of H b) refl (passed (checks H Desk (AmendBranch b pickup name)) ok check.UnknownBranch) owner key);
  }
