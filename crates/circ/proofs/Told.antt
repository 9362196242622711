-- What asking for a report writes, given the desk's answer.
use Rattle.std.proofs.Common.{◌≡◌, ℕ, List, ◌++◌, Option, inl, inr, refl, sym, subst}
use Rattle.std.specs.Prelude.{Result, Ok, Err, OnOk, OnErr, IfOk, IsTrue}
use Rattle.std.specs.Io.KnownBytes.{Appends}
use Rattle.std.proofs.KnownBytes.{Appends-trans}
use Rattle.store.specs.Library.{Ghosts, Held, state, HasCleanDisk}
use Rattle.terms.specs.Writing.{AppendsFront}
use Rattle.terms.specs.Texts.{fault_number}
use Rattle.terms.specs.declared.fault.Fault.{Fault}
use Rattle.terms.specs.declared.fault.Fault.TheVariants.{Stored}
use Rattle.terms.specs.declared.refusal.Refusal.{Refusal}
use Rattle.terms.specs.declared.refusal.Refusal.TheVariants.{UnknownBranch}
use Rattle.terms.specs.declared.reply.Reply.TheVariants.{Refused as Denied}
use Rattle.model.specs.History.{History}
use Rattle.desk.specs.Answering.{Shows, Stays}
use Rattle.desk.specs.Parts.{IsFront}
use Rattle.desk.specs.Reports.{report_text, IsThere, IsUnknown}
use Rattle.desk.specs.declared.reports.Report.{Report}
use Rattle.circ.specs.declared.lines.Exit.{Exit}
use Rattle.circ.specs.declared.lines.Exit.TheVariants.{Done, Refused, Faulted}
use Rattle.circ.specs.Lines.{reply_line, fault_line}
use Rattle.terms.proofs.Fronts.{front-after}
use Rattle.circ.specs.Reporting.{TellsOf}

module _ {S : Type 0} (g : Ghosts S) (old new : Held S) (report : Report) (WentOut : List ℕ → Type 0) where
  pub tells-report : (HasCleanDisk (state g new) → (H : History) → Shows (state g old) H → IsThere H report × WentOut (report_text H report)
      × Shows (state g new) H)
      → TellsOf report g old new WentOut Done
  tells-report told = inl (record { exit_is = refl; shown = told })

  pub tells-unknown : (refusal : Refusal) → refusal ≡ UnknownBranch
      → (HasCleanDisk (state g new) → (H : History) → Shows (state g old) H → IsUnknown H report × Shows (state g new) H)
      → WentOut (reply_line (Denied refusal)) → TellsOf report g old new WentOut Refused
  tells-unknown refusal is unknown line =
      inr (inl (record { exit_is = refl; line = subst (λ (x : Refusal). WentOut (reply_line (Denied x))) is line; unknown = unknown }))

  pub tells-fault : (sent : List ℕ)
      → (HasCleanDisk (state g new) → (H : History) → Shows (state g old) H → IsFront sent (report_text H report)) → (fault : Fault)
      → (HasCleanDisk (state g new) → fault ≡ Stored → (H : History) → Shows (state g old) H → ⊥)
      → (HasCleanDisk (state g new) → IsTrue (state g new).is_open → Stays (state g old) (state g new))
      → WentOut (sent ++ fault_line (fault_number fault)) → TellsOf report g old new WentOut Faulted
  tells-fault sent front fault sound undone line =
      inr (inr (record { sent = sent; front = front; fault = fault; exit_is = refl; line = line; sound = sound; undone = undone }))

-- the line went out whole, or a beginning of it, after these bytes
module _ {E : Type 0} (Tells : (List ℕ → Type 0) → Exit → Type 0) (r : Result Exit E) (a b c : Option (List ℕ)) (sent line : List ℕ) (exit : Exit)
    (tells : (WentOut : List ℕ → Type 0) → WentOut (sent ++ line) → Tells WentOut exit) (out : Appends a b sent) where
  pub told-whole : IfOk r (λ e. e ≡ exit) → OnOk r (Appends b c line) → IfOk r (λ e. Tells (Appends a c) e)
  told-whole is wrote = go r is wrote
    where
      go : (r : Result Exit E) → IfOk r (λ e. e ≡ exit) → OnOk r (Appends b c line) → IfOk r (λ e. Tells (Appends a c) e)
      go (Ok e) is wrote = subst (λ (x : Exit). Tells (Appends a c) x) (sym is) (tells (Appends a c) (Appends-trans a b c sent line out wrote))
      go (Err e) is wrote = tt

  pub told-cut : OnErr r (AppendsFront b c line) → OnErr r ((e : Exit) × Tells (AppendsFront a c) e)
  told-cut front = go r front
    where
      go : (r : Result Exit E) → OnErr r (AppendsFront b c line) → OnErr r ((e : Exit) × Tells (AppendsFront a c) e)
      go (Ok e) front = tt
      go (Err e) front = (exit, tells (AppendsFront a c) (front-after a b c sent line out front))
