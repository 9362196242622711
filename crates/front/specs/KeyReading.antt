-- How the reader of a file of keys goes from line to line.
use Rattle.std.specs.Prelude.{◌≡◌, ◌≢◌, ◌++◌, ◌==◌, ℕ, Bool, true, List, [], ◌∷◌, Option, Some, None, Result, Ok, Err, not}
use Rattle.std.specs.List.{list_all}
use Rattle.clerks.specs.declared.clerk.Role.{Role}
use Rattle.clerks.specs.declared.clerk.Clerk.{Clerk}
use Rattle.front.specs.declared.keys.KeysFault.{KeysFault}
use Rattle.front.specs.declared.keys.KeysFault.TheVariants.{Line, Read, Memory}
use Rattle.front.specs.Keys.{role_word, line_of, IsClerk, AreClerks, IsFile, IsFirstWrong}

-- No byte of the text is this one.
abbrev pub has_no : ℕ → List ℕ → Bool
has_no byte = list_all (λ b. not (b == byte))

-- A line has these parts, and its first space is after the name.
pub record HasParts (line name : List ℕ) (role : Role) (key : List ℕ) : Type 0 where
  pub text : line ≡ name ++ (32 ∷ (role_word role ++ (32 ∷ key)))
  pub alone : has_no 32 name ≡ true

-- A line is that of no clerk.
abbrev pub IsNoLine : List ℕ → Type 0
IsNoLine line = (clerk : Clerk) → IsClerk clerk → line ≢ line_of clerk

-- Bytes split at their first newline, if they have one.
abbrev pub IsCut : List ℕ → Option (List ℕ × List ℕ) → Type 0
IsCut bytes None = has_no 10 bytes ≡ true
IsCut bytes (Some (line, rest)) = (bytes ≡ line ++ (10 ∷ rest)) × (has_no 10 line ≡ true)

-- The first line of the bytes is that of one more clerk.
pub record Takes (above : List Clerk) (bytes : List ℕ) (all : List Clerk) (rest : List ℕ) : Type 0 where
  pub clerk : Clerk
  pub more : all ≡ above ++ clerk ∷ []
  pub line : bytes ≡ line_of clerk ++ (10 ∷ rest)
  pub good : AreClerks above → AreClerks all

-- What a reading says of all bytes.
abbrev pub Reads : List ℕ → Result (List Clerk) KeysFault → Type 0
Reads bytes (Ok clerks) = IsFile bytes clerks
Reads bytes (Err (Line number)) = IsFirstWrong bytes number
Reads bytes (Err Read) = ⊥
Reads bytes (Err Memory) = Unit {0}
