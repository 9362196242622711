-- The condition of a copy, on its row.
use Rattle.std.specs.Prelude.{Bool, true, false, List, [], ◌∷◌, Option, Some, None}
use Rattle.terms.specs.declared.row.CopyRow.{CopyRow}
use Rattle.terms.specs.declared.row.Condition.TheVariants as condition
use Rattle.circ_core.specs.declared.changes.RowChange.{RowChange}
use Rattle.terms.specs.declared.row.Condition.{Condition}
use Rattle.terms.specs.declared.row.Condition.TheVariants.{Missing, Withdrawn}
use Rattle.circ_core.specs.declared.changes.RowChange.TheVariants.{PutCopy}

-- The copy is missing.
abbrev pub is_missing : Option CopyRow → Bool
is_missing (Some row) = elim row.condition [ condition.Missing ↦ true | _ ↦ false ]
is_missing None = false

-- The copy is withdrawn.
abbrev pub is_withdrawn : Option CopyRow → Bool
is_withdrawn (Some row) = elim row.condition [ condition.Withdrawn ↦ true | _ ↦ false ]
is_withdrawn None = false

-- The copy is now missing or withdrawn.
abbrev pub condition_rows : Option CopyRow → Condition → List RowChange
condition_rows (Some row) condition = PutCopy (record row { condition = condition }) ∷ []
condition_rows None condition = []
