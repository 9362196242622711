-- What a request given as words gets: a line, how the program ends, and what the tables show.
use Rattle.std.specs.Prelude.{◌≡◌, ◌⊎◌, ℕ, List, Option, Result, Ok, Err, IfOk, OnErr}
use Rattle.std.specs.Io.KnownBytes.{Appends}
use Rattle.store.specs.Library.{Ghosts, Held, state, IsClean}
use Rattle.terms.specs.Writing.{AppendsFront}
use Rattle.terms.specs.declared.command.Caller.TheVariants.{Desk}
use Rattle.terms.specs.declared.command.Command.{Command}
use Rattle.terms.specs.declared.command.Request.{Request}
use Rattle.terms.specs.Texts.{fault_number}
use Rattle.terms.specs.declared.fault.Fault.{Fault}
use Rattle.terms.specs.declared.fault.Fault.TheVariants.{Memory}
use Rattle.terms.specs.declared.reply.Reply.{Reply}
use Rattle.model.specs.History.{History}
use Rattle.model.specs.Requests.{after_one}
use Rattle.desk.specs.Answering.{Shows, Handled}
use Rattle.desk.specs.Running.{ShowsHeadline}
use Rattle.front.specs.Understood.{IsUnderstoodAs}
use Rattle.terms.specs.declared.words.WordFault.{WordFault}
use Rattle.terms.specs.declared.words.WordFault.TheVariants.{NotUnderstood as NoCommand}
use Rattle.circ.specs.declared.lines.Exit.{Exit}
use Rattle.circ.specs.declared.lines.Exit.TheVariants.{Faulted, NotUnderstood}
use Rattle.circ.specs.Exits.{exit_of}
use Rattle.circ.specs.Lines.{reply_line, fault_line, not_understood_line}

-- The desk's request with a key.
abbrev pub desk_request : List ℕ → Command → Request
desk_request key command = record { caller = Desk; key = key; command = command }

-- The line is the text of a reply to the one command that the words are. The desk handled its request, and
-- nothing else was done. If the tables showed a list of accepted requests, they show that list's headline
-- after the request.
pub record SaysReply {S : Type 0} (key : List ℕ) (words : List (List ℕ))
    (g : Ghosts S) (old new : Held S) (line : List ℕ) (exit : Exit) : Type 0 where
  pub command : Command
  pub reply : Reply
  pub understood : IsUnderstoodAs words command
  pub only : (other : Command) → IsUnderstoodAs words other → other ≡ command
  pub line_is : line ≡ reply_line reply
  pub exit_is : exit ≡ exit_of reply
  pub handled : Handled (desk_request key command) g old new (Ok reply)
  pub headline : IsClean g new → (H : History) → Shows (state g old) H
      → ShowsHeadline g new (after_one H (desk_request key command))

-- The line is a fault, which the desk met at the words' command, and nothing else was done.
pub record MeetsFault {S : Type 0} (key : List ℕ) (words : List (List ℕ))
    (g : Ghosts S) (old new : Held S) (fault : Fault) : Type 0 where
  pub command : Command
  pub understood : IsUnderstoodAs words command
  pub handled : Handled (desk_request key command) g old new (Err fault)

-- The line is a fault: the desk met it, or memory ran out before, and nothing is touched.
pub record SaysFault {S : Type 0} (key : List ℕ) (words : List (List ℕ))
    (g : Ghosts S) (old new : Held S) (line : List ℕ) (exit : Exit) : Type 0 where
  pub fault : Fault
  pub line_is : line ≡ fault_line (fault_number fault)
  pub exit_is : exit ≡ Faulted
  pub met : ((fault ≡ Memory) × (new ≡ old)) ⊎ MeetsFault key words g old new fault

-- The words are no command, and nothing is touched.
pub record SaysNotUnderstood {S : Type 0} (words : List (List ℕ)) (old new : Held S) (line : List ℕ)
    (exit : Exit) : Type 0 where
  pub none : (command : Command) → IsUnderstoodAs words command → ⊥
  pub line_is : line ≡ not_understood_line
  pub exit_is : exit ≡ NotUnderstood
  pub same : new ≡ old

-- The line is a reply or a fault, or says that the words were not understood.
abbrev pub Says : {S : Type 0} → List ℕ → List (List ℕ) → Ghosts S → Held S → Held S → List ℕ → Exit
    → Type 0
Says key words g old new line exit =
    SaysReply key words g old new line exit
    ⊎ (SaysFault key words g old new line exit ⊎ SaysNotUnderstood words old new line exit)

-- The words were read.
pub record Understands (words : List (List ℕ)) (result : Result Command WordFault) : Type 0 where
  -- as the command that they are
  pub understood : IfOk result (λ command. IsUnderstoodAs words command)
  -- and no other
  pub only : IfOk result
      (λ command. (other : Command) → IsUnderstoodAs words other → other ≡ command)
  -- words that are not understood are no command
  pub none : result ≡ Err NoCommand → (command : Command) → IsUnderstoodAs words command → ⊥

-- The words' request was handled with the key, and a line was written.
pub record SaysLine {S E : Type 0} (key : List ℕ) (words : List (List ℕ))
    (g : Ghosts S) (old new : Held S) (before after : Option (List ℕ))
    (result : Result Exit E) : Type 0 where
  pub clean : IsClean g new → IsClean g old
  -- the line went out
  pub written : IfOk result
      (λ exit. (line : List ℕ) × Says key words g old new line exit × Appends before after line)
  -- if a write failed, a beginning of it went out
  pub cut : OnErr result
      ((line : List ℕ) × (exit : Exit) × Says key words g old new line exit
      × AppendsFront before after line)
