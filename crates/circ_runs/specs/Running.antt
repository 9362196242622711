-- What each run does: which library it opens, what `circ` says of the work on it, and how it ends.
use Rattle.std.specs.Prelude.{◌≡◌, ◌⊎◌, ℕ, List, [], ◌∷◌, Option, None, Result, Ok, Err, IfOk, IfSome}
use Rattle.std.specs.Borrow.{Bor}
use Rattle.std.specs.Io.KnownBytes.{Keeps}
use Rattle.std.specs.declared.net.tcp.TcpListener.{TcpListener}
use Rattle.store.specs.Library.{Ghosts, Held}
use Rattle.terms.specs.Texts.{fault_number}
use Rattle.terms.specs.declared.fault.Fault.{Fault}
use Rattle.terms.specs.declared.fault.Fault.TheVariants.{Memory as OutOfMemory}
use Rattle.terms.specs.declared.writing.WriteFault.{WriteFault}
use Rattle.desk.specs.Running.{Begins}
use Rattle.front.specs.Understood.{texts_of}
use Rattle.front.specs.declared.copies.CopyEnd.TheVariants.{Read as NotRead}
use Rattle.front.specs.declared.checking.CopyCheck.{CopyCheck}
use Rattle.front.specs.declared.checking.CheckEnd.TheVariants.{Read as Unread}
use Rattle.front.specs.declared.keys.KeysFault.{KeysFault}
use Rattle.front.specs.declared.keys.KeysFault.TheVariants.{Memory}
use Rattle.clerks.specs.Clerks.{sole_clerk}
use Rattle.clerks.specs.declared.clerk.Clerk.{Clerk}
use Rattle.circ.specs.declared.lines.Exit.{Exit}
use Rattle.circ.specs.declared.lines.Exit.TheVariants.{Faulted}
use Rattle.circ.specs.Lines.{fault_line, no_network_line, no_keys_line, EndsWith}
use Rattle.circ.specs.Saying.{SaysLine}
use Rattle.circ.specs.Importing.{Imports, import_lines, end_line}
use Rattle.circ.specs.Checking.{Checks, check_lines}
use Rattle.circ.specs.Reporting.{TellsAnyReport}
use Rattle.circ.specs.Auditing.{SaysAudit, SaysAuditAll}
use Rattle.circ.specs.declared.auditing.Findings.{Findings}
use Rattle.circ.specs.Migrating.{SaysMigration}
use Rattle.circ.specs.declared.serving.Web.{Web}
use Rattle.circ.specs.declared.arguments.DeskKeys.{DeskKeys}
use Rattle.circ.specs.declared.arguments.DeskKeys.TheVariants.{One, File}
use Rattle.circ.specs.declared.arguments.Run.{Run}
use Rattle.circ.specs.declared.arguments.Run.TheVariants as run
use Rattle.circ_runs.specs.Outside.{Outside}
use Rattle.circ_runs.specs.declared.absent.Absent.{Absent}
use Rattle.circ_runs.specs.declared.absent.Absent.TheVariants.{Made, Refused}
use Rattle.circ_runs.specs.declared.work.DeskWork.{DeskWork}
use Rattle.circ_runs.specs.declared.work.DeskWork.TheVariants as work
use Rattle.circ_runs.specs.declared.work.Work.{Work}
use Rattle.circ_runs.specs.declared.work.Work.TheVariants.{Desk, Migration}

-- The line of the fault was written, or a beginning of it.
abbrev pub TellsFault : Fault → Option (List ℕ) → Option (List ℕ) → Result Exit WriteFault → Type 0
TellsFault fault before after result = EndsWith Faulted (fault_line (fault_number fault)) before after result

-- The line for a file that gives no clerks, or for want of memory.
abbrev pub keys_fault_line : KeysFault → List ℕ
keys_fault_line Memory = fault_line (fault_number OutOfMemory)
keys_fault_line _ = no_keys_line

-- How a run ends: as was told, and with a fault if a write failed.
abbrev pub ended : Result Exit WriteFault → Exit
ended (Ok exit) = exit
ended (Err fault) = Faulted

-- What is done on a library, which is one thing before and another afterwards; and what is written, and how
-- it ends.
abbrev pub Doing : Type 0 → Type 1
Doing S = Held S → Held S → Option (List ℕ) → Option (List ℕ) → Result Exit WriteFault → Type 0

-- This was done on a library; `left` is what there is of it afterwards, if anything.
abbrev pub Leaves : {S : Type 0} → Held S → Option (Held S) → Doing S → Option (List ℕ) → Option (List ℕ) → Result Exit WriteFault → Type 0
Leaves {S} old left does before after result =
    (new : Held S) × IfSome left (λ last. last ≡ new) × does old new before after result

-- `remaining` are the bytes of a copies file, if known, `outside` says what was found, and `serves` what serving
-- the web with so many workers is.
module _ {S C : Type 0} (g : Ghosts S) (remaining : C → Option (List ℕ)) (outside : Outside C (Held S)) (serves : Web → ℕ → Doing S) where
  -- The copies file at the path was imported; or none could be opened, and that is told.
  abbrev pub ImportsFrom : List ℕ → Doing S
  ImportsFrom path old new before after result =
      ((file : C) × outside.copies path file × Imports (remaining file) g old new before after result)
      ⊎ (outside.no_copies path × (new ≡ old) × EndsWith Faulted (import_lines [] (end_line NotRead)) before after result)

  -- The copies file at the path was checked; or none could be opened, and that is told.
  abbrev pub ChecksFrom : List ℕ → Option (List ℕ) → Option (List ℕ) → Result Exit WriteFault → Type 0
  ChecksFrom path before after result =
      ((file : C) × (found : CopyCheck) × outside.copies path file × Checks (remaining file) found before after result)
      ⊎ (outside.no_copies path × EndsWith Faulted (check_lines None [] 0 Unread) before after result)

  -- A listener had the port, and the web was served; or none could be had, and that is told.
  abbrev pub ServesAt : Web → ℕ → Doing S
  ServesAt web workers old new before after result =
      ((listener : TcpListener) × outside.listens web.port listener × serves web workers old new before after result)
      ⊎ (outside.deaf web.port × (new ≡ old) × EndsWith Faulted no_network_line before after result)

  -- The library was audited to the end, and what was found was told.
  abbrev pub AuditsAll : Doing S
  AuditsAll old new before after result = (found : Option Findings) × SaysAuditAll g old new found before after result

  -- The work at a desk.
  abbrev pub DoesAtDesk : DeskWork → Doing S
  DoesAtDesk (work.Request key words) old new = SaysLine key (texts_of words.now) g old new
  DoesAtDesk (work.Import copies) old new = ImportsFrom copies.now old new
  DoesAtDesk (work.Report report) old new = TellsAnyReport report g old new
  DoesAtDesk work.Audit old new = SaysAudit g old new
  DoesAtDesk work.AuditAll old new = AuditsAll old new
  DoesAtDesk (work.Serve path workers web) old new = ServesAt web workers old new

  -- A desk was made on the library, and did its work; or there can be none, and the fault is told.
  abbrev pub OpensDesk : DeskWork → Doing S
  OpensDesk asked old new before after result =
      ((desk : Held S) × Begins g old (Ok desk) × DoesAtDesk asked desk new before after result)
      ⊎ ((fault : Fault) × Begins g old (Err fault) × TellsFault fault before after result)

  -- The work on a library.
  abbrev pub Does : Work → Doing S
  Does (Desk asked) old new = OpensDesk asked old new
  Does (Migration path) old new = SaysMigration g old new

  -- The library at the path was opened, and the work was done on it; or none could be, and the fault is told.
  abbrev pub WorksIn : List ℕ → Absent → Work → Option (List ℕ) → Option (List ℕ) → Result Exit WriteFault → Type 0
  WorksIn path absent asked before after result =
      ((old : Held S) × (new : Held S) × outside.opens path absent old × Does asked old new before after result)
      ⊎ ((fault : Fault) × outside.refuses path absent fault × TellsFault fault before after result)

  -- Who opens the desk: everybody with the one key, or the clerks of the file; or nobody, for this fault.
  abbrev pub Opens : DeskKeys → Result (List Clerk) KeysFault → Type 0
  Opens (One key) result = (result ≡ Ok (sole_clerk key ∷ [])) ⊎ (result ≡ Err Memory)
  Opens (File path) result = outside.clerks path.now result

  -- The keys were read, and this was done with the clerks; or there are none, and that is told.
  abbrev pub WithClerks : DeskKeys → (List Clerk → Option (List ℕ) → Option (List ℕ) → Result Exit WriteFault → Type 0)
      → Option (List ℕ) → Option (List ℕ) → Result Exit WriteFault → Type 0
  WithClerks keys does before after result =
      ((clerks : List Clerk) × Opens keys (Ok clerks) × does clerks before after result)
      ⊎ ((fault : KeysFault) × Opens keys (Err fault) × EndsWith Faulted (keys_fault_line fault) before after result)

  -- The words were sent with the key of the first clerk.
  abbrev pub SendsAs : ℕ → List ℕ → List (List ℕ) → List Clerk → Option (List ℕ) → Option (List ℕ) → Result Exit WriteFault → Type 0
  SendsAs port key words [] = EndsWith Faulted no_keys_line
  SendsAs port key words (clerk ∷ clerks) = outside.sends port clerk.key key words

  -- The web was served from the library at the path, for these clerks.
  abbrev pub ServesFor : Bor (List ℕ) → ℕ → ℕ → ℕ → List Clerk → Option (List ℕ) → Option (List ℕ) → Result Exit WriteFault → Type 0
  ServesFor path port workers each clerks =
      WorksIn path.now Made (Desk (work.Serve path workers (record { port = port; each = each; clerks = clerks })))

  -- A run did what was asked for.
  abbrev pub Runs : Run → Option (List ℕ) → Option (List ℕ) → Result Exit WriteFault → Type 0
  Runs (run.File path key words) = WorksIn path.now Made (Desk (work.Request key words))
  Runs (run.Import path copies) = WorksIn path.now Made (Desk (work.Import copies))
  Runs (run.Check copies) = ChecksFrom copies.now
  Runs (run.Report path report) = WorksIn path.now Refused (Desk (work.Report report))
  Runs (run.Audit path) = WorksIn path.now Refused (Desk work.Audit)
  Runs (run.AuditAll path) = WorksIn path.now Refused (Desk work.AuditAll)
  Runs (run.Migrate path) = WorksIn path.now Refused (Migration path)
  Runs (run.Serve path port workers each keys) = WithClerks keys (ServesFor path port workers each)
  Runs (run.Send port keys key words) = WithClerks keys (SendsAs port key (texts_of words.now))

  -- A run did what was asked for, and flushed its lines.
  pub record Answers (asked : Run) (before after : Option (List ℕ)) (result : Result Exit WriteFault) : Type 0 where
    pub mid : Option (List ℕ)
    pub told : Result Exit WriteFault
    pub ran : Runs asked before mid told
    pub kept : Keeps mid after
    -- it ends as it told
    pub exit_is : IfOk result (λ exit. told ≡ Ok exit)

  -- A whole run with a writer that holds `before` at first.
  pub record Ran (asked : Run) (before : Option (List ℕ)) (exit : Exit) : Type 0 where
    pub after : Option (List ℕ)
    pub result : Result Exit WriteFault
    pub answers : Answers asked before after result
    pub exit_is : exit ≡ ended result
