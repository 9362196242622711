-- What a patron owes and may owe, on the rows of a view.
use Rattle.std.specs.Prelude.{ℕ, Option, Some, None}
use Rattle.terms.specs.declared.row.PatronRow.{PatronRow}
use Rattle.terms.specs.declared.row.KindRow.{KindRow}

-- The highest debt that the kind may have at check-out.
abbrev pub debt_allowed : Option KindRow → ℕ
debt_allowed (Some kind) = kind.debt
debt_allowed None = 0

-- The patron's debt.
abbrev pub owed_by : Option PatronRow → ℕ
owed_by (Some patron) = patron.owed
owed_by None = 0
