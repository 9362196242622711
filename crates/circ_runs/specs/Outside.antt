-- What a run finds outside of itself: libraries, copies files and files of keys at their paths, and ports.
use Rattle.std.specs.Prelude.{ℕ, List, Option, Result}
use Rattle.std.specs.declared.net.tcp.TcpListener.{TcpListener}
use Rattle.terms.specs.declared.fault.Fault.{Fault}
use Rattle.terms.specs.declared.writing.WriteFault.{WriteFault}
use Rattle.clerks.specs.declared.clerk.Clerk.{Clerk}
use Rattle.front.specs.declared.keys.KeysFault.{KeysFault}
use Rattle.circ.specs.declared.lines.Exit.{Exit}
use Rattle.circ_runs.specs.declared.absent.Absent.{Absent}

-- What was found. Code that knows nothing of these relations learns that one holds only from the call that it
-- made with just these arguments.
pub record Outside (C T : Type 0) : Type 1 where
  -- these tables are those of the library at the path, where one that isn't there is made or refused
  pub opens : List ℕ → Absent → T → Type 0
  -- none could be opened there, for this fault
  pub refuses : List ℕ → Absent → Fault → Type 0
  -- this copies file was opened at the path
  pub copies : List ℕ → C → Type 0
  -- none could be
  pub no_copies : List ℕ → Type 0
  -- reading the file of keys at the path gave this
  pub clerks : List ℕ → Result (List Clerk) KeysFault → Type 0
  -- this listener has the port
  pub listens : ℕ → TcpListener → Type 0
  -- none could be had for it
  pub deaf : ℕ → Type 0
  -- the words were sent to the port, under the desk's key and the request's; what was written, and how it ended
  pub sends : ℕ → List ℕ → List ℕ → List (List ℕ) → Option (List ℕ) → Option (List ℕ) → Result Exit WriteFault → Type 0
