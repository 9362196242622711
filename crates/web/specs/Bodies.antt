-- The bodies of messages, as bytes.
use Rattle.std.specs.Prelude.{◌≡◌, ℕ, ◌+◌, ◌<◌, ◌≤◌, Bool, true, false, List, ◌++◌, length, take, Option, Some, None, Vec}
use Rattle.std.specs.Io.KnownBytes.{Consumes, IsAtEnd}

-- A buffer was filled from a place to its end, or the bytes ended first.
abbrev pub FillsAll : Option (List ℕ) → Option (List ℕ) → List ℕ → List ℕ → ℕ → Bool → Type 0
FillsAll old new before after start true = (got : List ℕ) × Consumes old new got × (after ≡ take start before ++ got)
FillsAll old new before after start false = (got : List ℕ) × Consumes old new got × IsAtEnd new × (start + length got < length before)

-- The first bytes after the head are the body, or there are too few of them.
abbrev pub HasBody : {A : Type 0} → List ℕ → ℕ → Option (Vec ℕ A) → Type 0
HasBody rest size None = length rest < size
HasBody rest size (Some body) = (size ≤ length rest) × (body.items ≡ take size rest)
