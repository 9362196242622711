-- A run, and the serving of a desk, that was read as this one does its work.
use Rattle.std.proofs.Common.{◌≡◌, ℕ, List, sym, subst}
use Rattle.std.specs.Prelude.{Option, Result}
use Rattle.std.specs.Borrow.{Bor}
use Rattle.store.specs.Library.{Ghosts, Held}
use Rattle.terms.specs.declared.writing.WriteFault.{WriteFault}
use Rattle.circ.specs.declared.arguments.Run.{Run}
use Rattle.circ.specs.declared.lines.Exit.{Exit}
use Rattle.circ.specs.declared.serving.Web.{Web}
use Rattle.circ_runs.specs.declared.absent.Absent.{Absent}
use Rattle.circ_runs.specs.declared.work.DeskWork.{DeskWork}
use Rattle.circ_runs.specs.declared.work.DeskWork.TheVariants.{Serve}
use Rattle.circ_runs.specs.declared.work.Work.{Work}
use Rattle.circ_runs.specs.Outside.{Outside}
use Rattle.circ_runs.specs.Running.{Doing, ServesAt, DoesAtDesk, WorksIn, Runs}

module _ {S C : Type 0} (g : Ghosts S) (remaining : C → Option (List ℕ)) (outside : Outside C (Held S)) (serves : Web → ℕ → Doing S) (before after : Option (List ℕ))
    (result : Result Exit WriteFault) where
  pub as-asked : (asked : Run) (done : Bor (List ℕ) × Absent × Work)
      → WorksIn g remaining outside serves done.0.now done.1 done.2 before after result
      → (run : Run) (work : Bor (List ℕ) × Absent × Work) → asked ≡ run → done ≡ work
      → (WorksIn g remaining outside serves work.0.now work.1 work.2 before after result → Runs g remaining outside serves run before after result)
      → Runs g remaining outside serves asked before after result
  as-asked asked done did run work is same means =
      subst (λ (r : Run). Runs g remaining outside serves r before after result) (sym is)
      (means (subst (λ (w : Bor (List ℕ) × Absent × Work). WorksIn g remaining outside serves w.0.now w.1 w.2 before after result) same did))

  pub as-served : (asked : DeskWork) (path : Bor (List ℕ)) (workers : ℕ) (web : Web) (old left new : Held S)
      → asked ≡ Serve path workers web → new ≡ left
      → ServesAt g remaining outside serves web workers old left before after result
      → DoesAtDesk g remaining outside serves asked old new before after result
  as-served asked path workers web old left new is same did =
      subst (λ (w : DeskWork). DoesAtDesk g remaining outside serves w old new before after result) (sym is)
      (subst (λ (d : Held S). ServesAt g remaining outside serves web workers old d before after result) (sym same) did)
