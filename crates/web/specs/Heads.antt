-- The head of a web request, at the start of what a connection gives.
use Rattle.std.specs.Prelude.{◌≡◌, ℕ, ◌+◌, ◌<◌, ◌≤◌, List, ◌++◌, length, take, Option}
use Rattle.std.specs.Io.KnownBytes.{Consumes, IsAtEnd}
use Rattle.httparse.specs.Grammar.{RequestHead, ReadsRequest, print_request}
use Rattle.web.specs.declared.limits.TheConstants.{HEAD_BYTES, HEAD_FIELDS}

-- The bytes begin with this head, which ends within the first 8,192 and has at most 32 fields.
pub record HasHead (bytes : List ℕ) (h : RequestHead) (rest : List ℕ) : Type 0 where
  pub reads : ReadsRequest bytes h rest
  pub short : length (print_request h) ≤ HEAD_BYTES
  pub few : length h.fields ≤ HEAD_FIELDS

-- They begin with no such head.
abbrev pub HasNoHead : List ℕ → Type 0
HasNoHead bytes = (h : RequestHead) (rest : List ℕ) → HasHead bytes h rest → ⊥

-- This many more bytes were read into a partly filled buffer.
pub record ReadsMore (old new : Option (List ℕ)) (before after : List ℕ) (filled n : ℕ) : Type 0 where
  pub got : List ℕ
  pub taken : Consumes old new got
  pub holds : take (filled + n) after ≡ take filled before ++ got
  pub within : filled + n ≤ length after
  pub end : n ≡ 0 → filled < length before → IsAtEnd new
