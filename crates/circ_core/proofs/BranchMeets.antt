-- Branch meets the history.
use Rattle.std.proofs.Common.{◌≡◌, ℕ, ◌==◌, false, not, ◌&&◌, List, [], ◌∷◌, refl, sym, ap}
use Rattle.std.specs.Prelude.{Option, Some, None, option_map, unwrap_or, bytes_eq, replicate}
use Rattle.terms.specs.declared.row.BranchRow.{BranchRow}
use Rattle.terms.specs.declared.command.Command.TheVariants.{Branch}
use Rattle.terms.specs.declared.reply.Reply.TheVariants.{Done}
use Rattle.model.specs.Invariant.{Invariant}
use Rattle.model.specs.History.{History, BranchFacts, branch_of}
use Rattle.model.specs.Picture.{picture, branch_row, branch_columns}
use Rattle.circ_core.specs.Decides.{event}
use Rattle.circ_core.specs.declared.changes.RowChange.{RowChange}
use Rattle.circ_core.specs.declared.changes.RowChange.TheVariants.{PutBranch}
use Rattle.circ_core.specs.Tables.{rows_unless}
use Rattle.circ_core.specs.Branch.{branch_differs, branch_checks, branch_rows}
use Rattle.circ_core.proofs.Meets.{Meets, Leads}
use Rattle.circ_core.proofs.Rows.{put_new, keep_old}

module _ (H : History) (inv : Invariant H) (b pickup : ℕ) (name : List ℕ) where
  branch_facts : BranchFacts
  branch_facts = record { pickup = pickup; name = name }

  differs_branch-same : (o : Option BranchFacts)
      → branch_differs (option_map (branch_columns H b) o) pickup name
      ≡ unwrap_or (option_map (λ r. not ((r.pickup == pickup) && bytes_eq r.name name)) o) false
  differs_branch-same (Some r) = refl
  differs_branch-same None = refl

  new_branch : List RowChange
  new_branch = PutBranch (record { branch = b; pickup = pickup; week = replicate 7 false; name = name }) ∷ []

  branch_leads : (o : Option BranchFacts) → branch_of H b ≡ o → Leads H (Branch b pickup name) (rows_unless (option_map (branch_columns H b) o) new_branch)
  unfolding branch_facts new_branch
  branch_leads (Some r) e owner key = λ i. record (picture (event owner key (Branch b pickup name) ∷ H)) {
    branches = λ n. (keep_old (branch_columns H) (branch_of H) b branch_facts r n e) i;
  }
  branch_leads None e owner key = λ i. record (picture (event owner key (Branch b pickup name) ∷ H)) {
    branches = λ n. (put_new (branch_columns H) (branch_of H) b branch_facts _ n e
        (ap (λ w. record { branch = b; pickup = pickup; week = w; name = name }) (sym (inv.unset b e).0))) i;
  }

  pub branch_meets : (row : Option BranchRow) → row ≡ branch_row H b
      → Meets H (Branch b pickup name) (branch_checks row b pickup name) Done (branch_rows row b pickup name)
  unfolding branch_facts new_branch
  branch_meets row w = record {
    same = (refl, refl, λ _. (refl, (rw w (differs_branch-same (branch_of H b))), λ _. tt));
    due = λ _. refl;
    leads = λ _ owner key. rw w (branch_leads (branch_of H b) refl owner key);
  }
