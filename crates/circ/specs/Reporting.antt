-- What asking for a report writes: its bytes or a line; and how the program ends.
use Rattle.std.specs.Prelude.{◌≡◌, ◌⊎◌, ℕ, List, ◌++◌, Option, Result, IfOk, OnErr}
use Rattle.std.specs.Io.KnownBytes.{Appends}
use Rattle.store.specs.Stops.{LeavesPicture}
use Rattle.terms.specs.Writing.{AppendsFront}
use Rattle.store.specs.Library.{Ghosts, Held, state, IsClean, IsOpen, HasTables, IsAsItWas}
use Rattle.terms.specs.Texts.{fault_number}
use Rattle.terms.specs.declared.fault.Fault.{Fault}
use Rattle.terms.specs.declared.fault.Fault.TheVariants.{Stored}
use Rattle.terms.specs.declared.refusal.Refusal.TheVariants.{UnknownBranch}
use Rattle.terms.specs.declared.reply.Reply.TheVariants.{Refused as Denied}
use Rattle.model.specs.History.{History}
use Rattle.model.specs.Picture.{picture}
use Rattle.desk.specs.Answering.{Shows, Stays}
use Rattle.desk.specs.Parts.{IsFront}
use Rattle.desk.specs.Reports.{report_text, IsThere, IsUnknown}
use Rattle.desk.specs.declared.reports.Report.{Report}
use Rattle.desk.specs.Running.{ShowsHeadline}
use Rattle.circ.specs.declared.lines.Exit.{Exit}
use Rattle.circ.specs.declared.lines.Exit.TheVariants.{Done, Refused, Faulted}
use Rattle.circ.specs.Lines.{reply_line, fault_line}

-- The report of the list of accepted requests that the tables show went out, and they still show it.
pub record TellsReport {S : Type 0} (report : Report)
    (g : Ghosts S) (old new : Held S) (WentOut : List ℕ → Type 0) (exit : Exit) : Type 0 where
  pub exit_is : exit ≡ Done
  pub shown : IsClean g new → (H : History) → Shows (state g old) H
      → IsThere H report × WentOut (report_text H report) × Shows (state g new) H

-- The refusal of an unknown branch went out; the tables show what they showed.
pub record TellsUnknown {S : Type 0} (report : Report)
    (g : Ghosts S) (old new : Held S) (WentOut : List ℕ → Type 0) (exit : Exit) : Type 0 where
  pub exit_is : exit ≡ Refused
  pub line : WentOut (reply_line (Denied UnknownBranch))
  pub unknown : IsClean g new → (H : History) → Shows (state g old) H
      → IsUnknown H report × Shows (state g new) H

-- A beginning of the report, possibly empty, went out, then a fault, which isn't 93 if the tables showed a
-- list of accepted requests. They show what they showed, if the database is still open.
pub record TellsFault {S : Type 0} (report : Report)
    (g : Ghosts S) (old new : Held S) (WentOut : List ℕ → Type 0) (exit : Exit) : Type 0 where
  -- what went out of the report
  pub sent : List ℕ
  pub front : IsClean g new → (H : History) → Shows (state g old) H
      → IsFront sent (report_text H report)
  pub fault : Fault
  pub exit_is : exit ≡ Faulted
  pub line : WentOut (sent ++ fault_line (fault_number fault))
  pub sound : IsClean g new → fault ≡ Stored → (H : History) → Shows (state g old) H → ⊥
  pub undone : IsClean g new → IsOpen g new → Stays (state g old) (state g new)

-- What goes out: a report, the refusal of an unknown branch, or a beginning of the report and a fault.
abbrev pub TellsOf : {S : Type 0} → Report → Ghosts S → Held S → Held S → (List ℕ → Type 0) → Exit
    → Type 0
TellsOf report g old new WentOut exit =
    TellsReport report g old new WentOut exit
    ⊎ (TellsUnknown report g old new WentOut exit ⊎ TellsFault report g old new WentOut exit)

-- A report was asked for, and its bytes, a line, or a beginning of them and a line were written.
pub record TellsAnyReport {S E : Type 0} (report : Report)
    (g : Ghosts S) (old new : Held S) (before after : Option (List ℕ))
    (result : Result Exit E) : Type 0 where
  pub clean : IsClean g new → IsClean g old
  -- the tables show what they showed, with its headline, if the database is still open
  pub headline : IsClean g new → IsOpen g new → (H : History) → Shows (state g old) H
      → ShowsHeadline g new H
  -- nothing is changed, whatever rows they have
  pub nothing : IsClean g new → IsOpen g new → HasTables (state g old).now
      → IsAsItWas (state g old) (state g new)
  -- everything due went out
  pub written : IfOk result (TellsOf report g old new (Appends before after))
  -- a stop leaves what was there
  pub left : IsClean g new → (H : History) → Shows (state g old) H
      → LeavesPicture (state g new) (picture H)
  -- if a write failed, a beginning of it went out
  pub cut : OnErr result ((exit : Exit) × TellsOf report g old new (AppendsFront before after) exit)
