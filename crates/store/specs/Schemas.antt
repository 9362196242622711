-- The known schemas.
use Rattle.std.specs.Prelude.{◌≤◌, ◌<◌, ℕ, zero, suc}
use Rattle.terms.specs.declared.limits.TheConstants.{SCHEMA}

-- A library of this schema can be opened.
abbrev pub IsKnown : ℕ → Type 0
IsKnown n = (1 ≤ n) × (n ≤ SCHEMA)

-- One of this schema is migrated.
abbrev pub IsOlder : ℕ → Type 0
IsOlder n = (1 ≤ n) × (n < SCHEMA)

-- The schema that a step leads to: the newest stays.
abbrev pub next_schema : ℕ → ℕ
next_schema (suc zero) = 2
next_schema (suc (suc zero)) = 3
next_schema (suc (suc (suc zero))) = 4
next_schema _ = SCHEMA
