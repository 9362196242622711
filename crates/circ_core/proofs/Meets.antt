-- From a command function's answer to what a decision owes to the history.
use Rattle.std.proofs.Common.{◌≡◌, ℕ, Bool, true, false, List, [], ◌∷◌, refl, sym, ◌∙◌, ap}
use Rattle.std.specs.Prelude.{Option, Some, None, Result, Ok, Err}
use Rattle.terms.specs.declared.command.Owner.{Owner}
use Rattle.terms.specs.declared.command.Owner.TheVariants.{Desk}
use Rattle.terms.specs.declared.command.Command.{Command}
use Rattle.terms.specs.declared.refusal.Refusal.{Refusal}
use Rattle.terms.specs.declared.reply.Reply.{Reply}
use Rattle.model.specs.CheckOrder.{ArePassed}
use Rattle.model.specs.Checks.{Check, first_failing}
use Rattle.model.specs.History.{History}
use Rattle.model.specs.Refusals.{checks, refusal}
use Rattle.model.specs.Picture.{picture}
use Rattle.circ_core.specs.declared.changes.Decision.{Decision}
use Rattle.circ_core.specs.declared.changes.RowChange.{RowChange}
use Rattle.circ_core.specs.Tables.{changed, SameRows}
use Rattle.circ_core.specs.Decided.{Decided}
use Rattle.circ_core.specs.Decides.{Decides, IsDecision, reply_due, event}

-- The same checks in the same order, of a later one only if the earlier ones pass; and after them checks that no legal history fails.
abbrev pub SameChecks : List Check → List Check → Type 0
SameChecks ks [] = ArePassed ks
SameChecks (k ∷ ks) (l ∷ ls) = (k.0 ≡ l.0) × (k.1 ≡ l.1) × (l.1 ≡ false → SameChecks ks ls)
SameChecks [] (l ∷ ls) = ⊥

same_at : (k l : Check) (ks ls : List Check) → k.0 ≡ l.0 → (b : Bool) → l.1 ≡ b → (l.1 ≡ false → first_failing ks ≡ first_failing ls)
    → ◌≡◌ {A = Option Refusal} (elim b [ true ↦ Some k.0 | false ↦ first_failing ks ]) (elim b [ true ↦ Some l.0 | false ↦ first_failing ls ])
same_at k l ks ls e true p rest = ap Some e
same_at k l ks ls e false p rest = rest p

passed-none : (ks : List Check) → ArePassed ks → first_failing ks ≡ None
passed-none [] s = refl
passed-none (k ∷ ks) s = rw s.0 (passed-none ks s.1)

-- The same checks fail first.
pub first_failing-same : (ks ls : List Check) → SameChecks ks ls → first_failing ks ≡ first_failing ls
first_failing-same ks [] s = passed-none ks s
first_failing-same (k ∷ ks) (l ∷ ls) s = rw s.1 (same_at k l ks ls s.0 l.1 refl (λ p. first_failing-same ks ls (s.2 p)))
first_failing-same [] (l ∷ ls) s = absurd s

-- The changes lead to the tables with the command added, whoever sent it and under whatever key.
abbrev pub Leads : History → Command → List RowChange → Type 0
Leads H command rows = (owner : Owner) (key : List ℕ) → SameRows (changed rows (picture H)) (picture (event owner key command ∷ H))

-- A command's checks, reply and changes on the view are those of the history.
pub record Meets (H : History) (command : Command) (tests : List Check) (reply : Reply) (rows : List RowChange) : Type 0 where
  pub same : SameChecks tests (checks H Desk command)
  pub due : refusal H Desk command ≡ None → reply ≡ reply_due H command
  pub leads : refusal H Desk command ≡ None → Leads H command rows

decided_ok : (H : History) (command : Command) (tests : List Check) (reply : Reply) (rows : List RowChange) → Meets H command tests reply rows
    → (decision : Decision) → Decided tests reply rows (Ok decision) → IsDecision H command decision
decided_ok H command tests reply rows m decision r =
    let none : refusal H Desk command ≡ None = sym (first_failing-same tests (checks H Desk command) m.same) ∙ r.0 in
    record { unrefused = none; reply = r.1 ∙ m.due none; rows = λ owner key. rw r.2 (m.leads none owner key) }

-- A function that answers by these checks, reply and changes decides as the history has it.
pub decided : (H : History) (command : Command) (tests : List Check) (reply : Reply) (rows : List RowChange) → Meets H command tests reply rows
    → (result : Result Decision Refusal) → Decided tests reply rows result → Decides H command result
decided H command tests reply rows m (Ok decision) r = decided_ok H command tests reply rows m decision r
decided H command tests reply rows m (Err _) r = sym (first_failing-same tests (checks H Desk command) m.same) ∙ r
