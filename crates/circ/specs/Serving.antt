-- The outcome of serving the web: what the tables show afterwards, and the lines written.
use Rattle.std.specs.Prelude.{◌≡◌, ◌⊎◌, ℕ, ◌+◌, Bool, true, false, if◌then◌else◌, List, [], ◌∷◌, ◌++◌, length, Option, Some, None, IfSome, Result, OnOk}
use Rattle.std.specs.Io.KnownBytes.{Appends}
use Rattle.store.specs.Library.{Ghosts, Held, state}
use Rattle.model.specs.History.{History}
use Rattle.desk.specs.Answering.{Shows}
use Rattle.board.specs.declared.entry.Seen.{Seen}
use Rattle.clerks.specs.declared.clerk.Clerk.{Clerk}
use Rattle.terms.specs.Texts.{service_fault_number}
use Rattle.terms.specs.declared.fault.Fault.TheVariants.{Memory}
use Rattle.terms.specs.declared.fault.ServiceFault.{ServiceFault}
use Rattle.terms.specs.declared.fault.ServiceFault.TheVariants.{Met}
use Rattle.hall.specs.declared.messages.Message.{Message}
use Rattle.hall.specs.Queue.{AreFirst, AreFrom, handled, unhandled, submissions, requests, worker_view}
use Rattle.hall.specs.Openings.{ToldBy, KeepsClosed, can_be_workers}
use Rattle.hall.specs.Handling.{HandledFirst, AreShown, ClosedBy}
use Rattle.hall.specs.Serving.{Working, GivesReplies, TookPart}
use Rattle.hall.specs.declared.hall.Why.{Why}
use Rattle.hall.specs.declared.hall.Why.TheVariants.{Refused, Faulted}
use Rattle.circ.specs.declared.lines.Exit.{Exit}
use Rattle.circ.specs.declared.lines.Exit.TheVariants.{Done, NotUnderstood}
use Rattle.circ.specs.declared.lines.Exit.TheVariants as exit
use Rattle.circ.specs.Lines.{EndsWith, fault_line, port_line, threads_line, not_understood_line}
use Rattle.circ.specs.Connections.{WorksOrLeaves}

-- ---- what is written at the end

-- The line of the fault, if any.
abbrev pub fault_text : Option ServiceFault → List ℕ
fault_text None = []
fault_text (Some fault) = fault_line (service_fault_number fault)

-- The line for a thread that could not be made, then the fault that closed the hall.
abbrev pub end_text : Bool → Option ServiceFault → List ℕ
end_text are_whole fault = (if are_whole then [] else threads_line) ++ fault_text fault

-- The exit is done if nothing is written.
abbrev pub exit_after : Bool → Option ServiceFault → Exit
exit_after true None = Done
exit_after true (Some fault) = exit.Faulted
exit_after false fault = exit.Faulted

-- Why a hall isn't opened: a fault, or words not understood.
abbrev pub why_line : Why → List ℕ
why_line (Refused refusal) = not_understood_line
why_line (Faulted fault) = fault_line (service_fault_number fault)

abbrev pub exit_of_why : Why → Exit
exit_of_why (Refused refusal) = NotUnderstood
exit_of_why (Faulted fault) = exit.Faulted

-- ---- the whole

-- A line gave the port, and the last lines what went wrong, if anything did. `before` and `after` are the
-- writer's bytes before and after.
abbrev pub TellsPort : {E : Type 0} → ℕ → Bool → Option ServiceFault → Option (List ℕ) → Option (List ℕ) → Result Exit E → Type 0
TellsPort port are_whole fault = EndsWith (exit_after are_whole fault) (port_line port ++ end_text are_whole fault)

-- `P` holds of each of the first list with its fellow in the second and its number, counted from `k` + 1.
abbrev pub AllInTurn : {C : Type 0} → (ℕ → C → C → Type 0) → ℕ → List C → List C → Type 0
AllInTurn P k [] [] = Unit {0}
AllInTurn P k (x ∷ xs) (y ∷ ys) = P (k + 1) x y × AllInTurn P (k + 1) xs ys
AllInTurn P k _ _ = ⊥

-- The hall could not be opened: nothing was handled, no connection was touched, and only the fault is written.
pub record IsNotServed {C S E : Type 0} (olds news : List C) (g : Ghosts S) (old new : Held S)
    (before after : Option (List ℕ)) (result : Result Exit E) : Type 0 where
  pub fault : ServiceFault
  -- this many workers are allowed, or no memory was left to check that
  pub asked : (can_be_workers (length olds) ≡ true) ⊎ (fault ≡ Met Memory)
  pub cause : KeepsClosed g old new fault
  pub desk : HandledFirst [] [] g old new (Some fault)
  pub same : news ≡ olds
  pub told : EndsWith exit.Faulted (fault_line (service_fault_number fault)) before after result

-- `comes`, `goes` and `misses` are said of a worker's connections, `remaining` of a reader's bytes and
-- `contents` of a writer's, as for the loop of a worker (`Connections`).
module _ {C I O : Type 0} (comes : C → I → O → C → Type 0) (goes : C → O → Bool → C → Type 0) (misses : C → Type 0)
    (remaining : I → Option (List ℕ)) (contents : O → Option (List ℕ)) (clerks : List Clerk) where
  -- Worker k's part in a hall that received `got` and handled its first n submissions: `old` and `new` are its
  -- connections before and after.
  pub record TakesPart (each n : ℕ) (got : List Message) (shown : Seen) (are_whole : Bool) (k : ℕ) (old new : C) : Type 0 where
    pub served : ℕ
    pub hired : Working
    pub left : Working
    -- it had submitted nothing before its first connection
    pub fresh : hired.post ≡ worker_view k
    -- it served these one after another and left: it submitted what they ask for, and wrote what `Serves` says
    pub works : WorksOrLeaves comes goes misses remaining contents clerks each served old new hired left
    -- of what it submitted a beginning was handled, in that order
    pub first : AreFirst k n got left.post.sent
    -- where nothing is missing it served all, and what it saw is a beginning of what was shown
    pub whole : are_whole ≡ true → (served ≡ each) × TookPart n got shown left

  -- Workers served their connections, `olds` before and `news` after, and the desk handled what they submitted,
  -- up to the fault if there was one.
  pub record ServesWorkers {S : Type 0} (each : ℕ) (olds news : List C) (are_whole : Bool) (lists : History → Type 0)
      (g : Ghosts S) (old new : Held S) (fault : Option ServiceFault) : Type 0 where
    -- what the desk received, how many submissions it handled, and what was shown
    pub got : List Message
    pub n : ℕ
    pub shown : Seen
    -- each worker, numbered from 1, did its part
    pub parts : AllInTurn (TakesPart each n got shown are_whole) 0 olds news
    -- and nobody else sent anything: so the handled list mixes what they submitted, each in its order
    pub from : AreFrom (length olds) got
    -- the desk is as the handled ones left it
    pub desk : HandledFirst (requests (handled n got)) (requests (unhandled n got)) g old new fault
    -- without a fault all received were handled, and exactly these were shown, in order
    pub all : fault ≡ None → (n ≡ length (submissions got)) × AreShown shown.entries (handled n got)
    -- a fault is the one that closed the hall
    pub cause : IfSome fault (ClosedBy n got g old new shown.entries)
    -- what was shown, and what a worker answers that saw a beginning of it, is what these lists of accepted
    -- requests give
    pub told : ToldBy lists g new shown
    pub replies : GivesReplies lists g new shown

  -- The workers of a hall served the web, each in its own thread: `each` connections, or none where the port's
  -- line didn't go out.
  pub record ServesHall {S E : Type 0} (each port : ℕ) (olds news : List C) (lists : History → Type 0) (g : Ghosts S) (old new : Held S)
      (before after : Option (List ℕ)) (result : Result Exit E) : Type 0 where
    pub fault : Option ServiceFault
    -- whether each worker had a thread, and took part to the end
    pub are_whole : Bool
    pub most : ℕ
    pub serves : ServesWorkers most olds news are_whole lists g old new fault
    pub told : TellsPort port are_whole fault before after result
    pub listens : ((most ≡ each) × (mid : Option (List ℕ)) × Appends before mid (port_line port)
        × EndsWith (exit_after are_whole fault) (end_text are_whole fault) mid after result)
        ⊎ ((most ≡ 0) × OnOk result ⊥)

  -- The web was served by a worker for each of the connections, with the answers that each list of accepted
  -- requests shown by the tables gives; or the hall could not be opened; or this many workers aren't allowed,
  -- and nothing was touched.
  abbrev pub ServesPort : {S E : Type 0} → ℕ → ℕ → List C → List C → Ghosts S → Held S → Held S → Option (List ℕ) → Option (List ℕ)
      → Result Exit E → Type 0
  ServesPort each port olds news g old new before after result =
      ((can_be_workers (length olds) ≡ true) × ServesHall each port olds news (Shows (state g old)) g old new before after result)
      ⊎ (IsNotServed olds news g old new before after result
      ⊎ ((can_be_workers (length olds) ≡ false) × (new ≡ old) × (news ≡ olds) × EndsWith NotUnderstood not_understood_line before after result))

  -- The web was served by so many workers, each with connections of its own to the listener; or nobody was
  -- served, for want of memory.
  abbrev pub ServesListener : {S E : Type 0} → ℕ → ℕ → ℕ → Ghosts S → Held S → Held S → Option (List ℕ) → Option (List ℕ)
      → Result Exit E → Type 0
  ServesListener each port workers g old new before after result =
      ((olds : List C) × (news : List C) × (length olds ≡ workers) × ServesPort each port olds news g old new before after result)
      ⊎ IsNotServed {C = C} [] [] g old new before after result
