-- What workers learn of their submissions once a fault has closed the hall.
use Rattle.std.specs.Prelude.{◌≡◌, ◌⊎◌, ℕ, ◌+◌, ◌==◌, ◌&&◌, if◌then◌else◌, List, [], ◌∷◌, ◌++◌, Option, None, Some, IsSome, IfSome}
use Rattle.terms.specs.declared.fault.ServiceFault.{ServiceFault}
use Rattle.terms.specs.declared.fault.ServiceFault.TheVariants.{Closed}
use Rattle.board.specs.declared.entry.Entry.{Entry}
use Rattle.hall.specs.declared.closing.Closing.{Closing}
use Rattle.hall.specs.declared.messages.Message.{Message}
use Rattle.hall.specs.declared.messages.Message.TheVariants.{Submit, Leave}
use Rattle.hall.specs.declared.messages.Submission.{Submission}
use Rattle.hall.specs.Queue.{handled, unhandled}
use Rattle.hall.specs.Handling.{AreShown}

-- What a worker learns of its submission with this number: nothing while the hall is open. Once it has
-- closed, the submission at which it did gets the fault there, any other one 92.
abbrev pub told_of : List Closing → ℕ → ℕ → Option ServiceFault
told_of [] worker number = None
told_of (c ∷ cs) worker number = Some (if (c.worker == worker) && (c.number == number) then c.fault else Closed)

-- The hall closes at this submission, which gets this fault.
abbrev pub closing : Submission → ServiceFault → Closing
closing s fault = record { worker = s.worker; number = s.number; fault = fault }

-- The hall closes with a fault at a submission, which gets the fault if it wasn't handled, and 92 if it was
-- handled but the board can't show it. `n` and `m` count those handled before and after it.
abbrev pub TellsClosing : Submission → ℕ → ℕ → ServiceFault → List Closing → Type 0
TellsClosing s n m fault list = ((m ≡ n) × (list ≡ closing s fault ∷ [])) ⊎ ((m ≡ n + 1) × (list ≡ closing s Closed ∷ []))

-- A submission was taken. `before` and `after` are the fault that had closed the hall, if any.
pub record TellsNext (s : Submission) (n m : ℕ) (before after : Option ServiceFault) (old new : List Closing) : Type 0 where
  -- nothing is told if the hall stays open, nothing more if it was closed
  pub same : after ≡ None → new ≡ old
  pub closed : IsSome before → new ≡ old
  pub closes : before ≡ None → IfSome after (λ fault. TellsClosing s n m fault new)

-- A message was taken; for a Leave nothing is told.
abbrev pub TellsMessage : Message → ℕ → ℕ → Option ServiceFault → Option ServiceFault → List Closing → List Closing → Type 0
TellsMessage (Submit s) n m before after old new = TellsNext s n m before after old new
TellsMessage (Leave worker) n m before after old new = new ≡ old

-- The first n submissions of these messages were handled, the board shows these entries, and a fault has
-- closed the hall: at the first submission not handled, which gets the fault, or at the last handled one,
-- which the board doesn't show and which gets 92.
abbrev pub ClosedAt : ℕ → List Message → List Entry → ServiceFault → List Closing → Submission → Type 0
ClosedAt n got entries fault list s =
    (AreShown entries (handled n got) × ((later : List Submission) × (unhandled n got ≡ s ∷ later)) × (list ≡ closing s fault ∷ []))
    ⊎ (((before : List Submission) × (handled n got ≡ before ++ s ∷ []) × AreShown entries before) × (list ≡ closing s Closed ∷ []))

-- What was told so far: nothing if no fault has closed the hall.
abbrev pub HasTold : ℕ → List Message → List Entry → Option ServiceFault → List Closing → Type 0
HasTold n got entries None list = list ≡ []
HasTold n got entries (Some fault) list = (s : Submission) × ClosedAt n got entries fault list s
