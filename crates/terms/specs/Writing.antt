-- Bytes on their way out, for writers that show what they hold.
use Rattle.std.specs.Prelude.{◌≡◌, ℕ, List, ◌++◌, Option, Result, OnOk, OnErr, flat_map}
use Rattle.std.specs.Borrow.{Bor}
use Rattle.std.specs.Io.KnownBytes.{Appends}

-- A beginning of the bytes, possibly empty or whole, went out.
pub record AppendsFront (old new : Option (List ℕ)) (bytes : List ℕ) : Type 0 where
  pub sent : List ℕ
  pub rest : List ℕ
  pub whole : bytes ≡ sent ++ rest
  pub wrote : Appends old new sent

-- The bytes went out, or, if a write failed, a beginning of them. `before` and `after` are the writer's bytes
-- before and after.
pub record Writes {T E : Type 0} (bytes : List ℕ) (before after : Option (List ℕ))
    (result : Result T E) : Type 0 where
  pub all : OnOk result (Appends before after bytes)
  pub front : OnErr result (AppendsFront before after bytes)

-- The bytes of the pieces, in order.
abbrev pub joined : List (Bor (List ℕ)) → List ℕ
joined pieces = flat_map (λ p. p.now) pieces
