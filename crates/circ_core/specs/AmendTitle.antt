-- The checks and row changes of `amend-title`, on the rows of a view.
use Rattle.std.specs.Prelude.{ℕ, List, [], ◌∷◌, Option, Some, None, is_none}
use Rattle.terms.specs.declared.refusal.Refusal.TheVariants.{UnknownTitle}
use Rattle.terms.specs.declared.row.TitleRow.{TitleRow}
use Rattle.circ_core.specs.declared.changes.RowChange.{RowChange}
use Rattle.circ_core.specs.declared.changes.RowChange.TheVariants.{PutTitle}
use Rattle.model.specs.Checks.{Check}

abbrev pub amend_title_checks : Option TitleRow → List Check
amend_title_checks row = (UnknownTitle, is_none row) ∷ []

-- The title has this text.
abbrev pub amend_title_rows : Option TitleRow → List ℕ → List RowChange
amend_title_rows (Some row) text = PutTitle (record row { text = text }) ∷ []
amend_title_rows None text = []
