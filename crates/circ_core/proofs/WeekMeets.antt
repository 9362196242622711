-- Week meets the history.
use Rattle.std.proofs.Common.{◌≡◌, ℕ, ◌==◌, Bool, true, false, cond, not, List, [], ◌∷◌, refl, ◌∙◌, ap}
use Rattle.std.specs.Prelude.{Option, Some, None, option_map, is_none, is_some}
use Rattle.std.specs.List.{list_any, list_all}
use Rattle.std.proofs.lemmas.Bool.{eqb-true}
use Rattle.terms.specs.declared.row.BranchRow.{BranchRow}
use Rattle.terms.specs.declared.command.Command.TheVariants.{Week}
use Rattle.terms.specs.declared.reply.Reply.TheVariants.{Done}
use Rattle.terms.specs.declared.refusal.Refusal.TheVariants as check
use Rattle.model.specs.History.{History, week_of, BranchFacts, branch_of}
use Rattle.model.specs.Refusals.{checks}
use Rattle.model.proofs.Passing.{passed}
use Rattle.terms.specs.declared.command.Owner.TheVariants.{Desk}
use Rattle.model.specs.Picture.{picture, branch_row, branch_columns}
use Rattle.circ_core.specs.Decides.{event}
use Rattle.circ_core.specs.Week.{week_checks, week_rows}
use Rattle.circ_core.proofs.Meets.{Meets, Leads}
use Rattle.circ_core.proofs.Rows.{none-map}

-- Every weekday is closed where none is open.
none_open : (closed : List Bool) → not (list_any (λ b. not b) closed) ≡ list_all (λ x. x) closed
none_open [] = refl
none_open (true ∷ closed) = none_open closed
none_open (false ∷ closed) = refl

module _ (H : History) (b : ℕ) (closed : List Bool) where
  -- The branch's row with the new weekdays, and every other row as it was.
  week_set : (r : BranchFacts) → branch_of H b ≡ Some r → (n : ℕ)
      → (elim (b == n) as (λ _. Option BranchRow) [ true ↦ Some (record (branch_columns H b r) { week = closed }) | false ↦ branch_row H n ])
      ≡ option_map (λ x. record { branch = n; pickup = x.pickup; week = cond (b == n) closed (week_of H n); name = x.name }) (branch_of H n)
  week_set r there n = go (b == n) refl
    where
      go : (x : Bool) → (b == n) ≡ x
          → (elim x as (λ _. Option BranchRow) [ true ↦ Some (record (branch_columns H b r) { week = closed }) | false ↦ branch_row H n ])
          ≡ option_map (λ y. record { branch = n; pickup = y.pickup; week = cond x closed (week_of H n); name = y.name }) (branch_of H n)
      go true e = let same : b ≡ n = eqb-true b n e in let there' : branch_of H n ≡ Some r = rw same at there in rw (there', same) refl
      go false e = refl

  week_leads : (o : Option BranchFacts) → branch_of H b ≡ o → not (is_some o) ≡ false
      → Leads H (Week b closed) (week_rows (option_map (branch_columns H b) o) closed)
  week_leads (Some r) e ok owner key = λ i. record (picture (event owner key (Week b closed) ∷ H)) {
    branches = λ n. week_set r e n i;
  }
  week_leads None e ok owner key = let never : ⊥ = cc in absurd never

  pub week_meets : (row : Option BranchRow) → row ≡ branch_row H b → Meets H (Week b closed) (week_checks row closed) Done (week_rows row closed)
  week_meets row w = record {
    same = (refl, (ap is_none w ∙ none-map (branch_columns H b) (branch_of H b)), λ _. (refl, none_open closed, λ _. tt));
    due = λ _. refl;
    leads = λ ok owner key. rw w (week_leads (branch_of H b) refl (passed (checks H Desk (Week b closed)) ok check.UnknownBranch) owner key);
  }
