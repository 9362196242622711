-- What sending a request writes: the request itself, and the line that tells its answer.
use Rattle.std.specs.Prelude.{◌≡◌, ◌⊎◌, ℕ, List, [], ◌∷◌, ◌++◌, Option, Result, IfSome, IfOk, OnErr}
use Rattle.std.specs.Io.KnownBytes.{Appends}
use Rattle.terms.specs.Writing.{AppendsFront}
use Rattle.terms.specs.Texts.{fault_number}
use Rattle.terms.specs.declared.fault.Fault.TheVariants.{Memory}
use Rattle.web.specs.Receiving.{IsAnswer}
use Rattle.circ.specs.declared.lines.Exit.{Exit}
use Rattle.circ.specs.declared.lines.Exit.TheVariants.{Faulted}
use Rattle.circ.specs.Exits.{exit_for}
use Rattle.circ.specs.Lines.{fault_line, no_network_line}

-- The line is the body of the answer with which the bytes that came begin, if they are known. Its status says
-- how the program ends.
pub record TellsAnswer (came : Option (List ℕ)) (line : List ℕ) (exit : Exit) : Type 0 where
  pub status : ℕ
  pub body : List ℕ
  pub answer : IfSome came (λ bytes. IsAnswer bytes status body)
  pub line_is : line ≡ body ++ 10 ∷ []
  pub exit_is : exit ≡ exit_for status

-- The line says that no answer came.
pub record TellsNoNetwork (line : List ℕ) (exit : Exit) : Type 0 where
  pub line_is : line ≡ no_network_line
  pub exit_is : exit ≡ Faulted

-- The line says that memory ran out.
pub record TellsNoMemory (line : List ℕ) (exit : Exit) : Type 0 where
  pub line_is : line ≡ fault_line (fault_number Memory)
  pub exit_is : exit ≡ Faulted

-- What is told once the request went out: an answer, or why none was read.
abbrev pub TellsReceived : Option (List ℕ) → List ℕ → Exit → Type 0
TellsReceived came line exit =
    TellsAnswer came line exit ⊎ (TellsNoNetwork line exit ⊎ TellsNoMemory line exit)

-- What is told of a request: if all of it went out, what was received; if a write failed, after which a
-- beginning of it went out, that no answer came; and else, with nothing sent, that memory ran out.
abbrev pub TellsSent : List ℕ → Option (List ℕ) → Option (List ℕ) → Option (List ℕ) → List ℕ → Exit
    → Type 0
TellsSent request came unsent sent line exit =
    (Appends unsent sent request × TellsReceived came line exit)
    ⊎ ((AppendsFront unsent sent request × TellsNoNetwork line exit)
    ⊎ ((sent ≡ unsent) × TellsNoMemory line exit))

-- A line of which this holds went out, or, if a write failed, a beginning of one.
pub record WritesLine {E : Type 0} (Tells : List ℕ → Exit → Type 0) (before after : Option (List ℕ))
    (result : Result Exit E) : Type 0 where
  pub written : IfOk result (λ exit. (line : List ℕ) × Tells line exit × Appends before after line)
  pub cut : OnErr result ((line : List ℕ) × (exit : Exit) × Tells line exit × AppendsFront before after line)
