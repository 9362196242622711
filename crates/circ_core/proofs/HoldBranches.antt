-- In a legal history each hold's pick-up branch exists.
use Rattle.std.proofs.Common.{◌≡◌, ℕ, ◌==◌, Bool, true, false, cond, not, [], ◌∷◌, refl, sym, ◌∙◌, ap}
use Rattle.std.specs.Prelude.{Option, Some, None, is_some}
use Rattle.std.specs.Option.{option_or}
use Rattle.terms.specs.declared.command.Command.{Command}
use Rattle.terms.specs.declared.command.Command.TheVariants.{Branch, AmendBranch}
use Rattle.terms.specs.declared.command.Owner.{Owner}
use Rattle.model.specs.History.{History, BranchFacts, branch_of, branch_after, HoldFacts, hold_made, hold_of, hold_after, next_hold}
use Rattle.model.specs.Refusals.{refusal, has_branch}
use Rattle.model.specs.Requests.{IsLegal}
use Rattle.model.proofs.Amending.{amended-is_some}
use Rattle.model.proofs.MadeHolds.{placeable}

-- A branch that is there stays.
branch_stays : (H : History) (x : Command) (b : ℕ) → not (has_branch H b) ≡ false → not (is_some (branch_after x b (branch_of H b))) ≡ false
branch_stays H (Branch n pickup name) b known = go (branch_of H b) _ known
  where
    go : (o new : Option BranchFacts) → not (is_some o) ≡ false → not (is_some (option_or o new)) ≡ false
    go (Some r) new e = refl
    go None new e = let never : ⊥ = cc in absurd never
branch_stays H (AmendBranch n pickup name) b known = ap not (amended-is_some (n == b) _ (branch_of H b)) ∙ known
branch_stays H _ b known = known

hold_step : (H : History) (o : Owner) (x : Command) (made : Option HoldFacts) (h : ℕ) (r : HoldFacts) → hold_made x ≡ made → refusal H o x ≡ None
    → ((q : HoldFacts) → hold_of H h ≡ Some q → not (has_branch H q.branch) ≡ false) → hold_after H made h (hold_of H h) ≡ Some r
    → not (has_branch H r.branch) ≡ false
hold_step H o x (Some made) h r is ok before at = go (next_hold H == h) at
  where
    go : (b : Bool) → cond b (Some made) (hold_of H h) ≡ Some r → not (has_branch H r.branch) ≡ false
    go true e =
        let same : made ≡ r = cc in
        ap (λ q. not (has_branch H q.branch)) (sym same) ∙ (placeable H o x made ok is).branch
    go false e = before r e
hold_step H o x None h r is ok before at = before r at

pub hold-branch : (H : History) → IsLegal H → (h : ℕ) (r : HoldFacts) → hold_of H h ≡ Some r → not (has_branch H r.branch) ≡ false
hold-branch [] legal h r made = let never : ⊥ = cc in absurd never
hold-branch (e ∷ H) legal h r made =
    branch_stays H e.command r.branch
    (hold_step H e.owner e.command (hold_made e.command) h r refl legal.0.unrefused (λ q was. hold-branch H legal.1 h q was) made)
