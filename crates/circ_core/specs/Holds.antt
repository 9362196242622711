-- The rows of holds that end.
use Rattle.std.specs.Prelude.{None}
use Rattle.terms.specs.declared.row.HoldRow.{HoldRow}
use Rattle.terms.specs.declared.row.HoldState.{HoldState}

-- The row of a hold in a final state: it no longer names a copy or shelf limit.
abbrev pub finished : HoldRow → HoldState → HoldRow
finished hold state = record hold { state = state; copy = None; limit_day = None }
