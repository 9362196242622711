-- The checks and row changes of `amend-copy`, on the rows of a view.
use Rattle.std.specs.Prelude.{ℕ, ◌&&◌, not, List, [], ◌∷◌, Option, Some, None, is_none}
use Rattle.terms.specs.declared.limits.TheConstants.{HIGHEST_PRICE}
use Rattle.terms.specs.declared.refusal.Refusal.TheVariants.{UnknownCopy, OutOfLimits}
use Rattle.terms.specs.declared.row.CopyRow.{CopyRow}
use Rattle.circ_core.specs.declared.changes.RowChange.{RowChange}
use Rattle.circ_core.specs.declared.changes.RowChange.TheVariants.{PutCopy}
use Rattle.model.specs.Checks.{Check, is_within, is_small_number}

abbrev pub amend_copy_checks : Option CopyRow → ℕ → ℕ → List Check
amend_copy_checks row kind price =
    (OutOfLimits, not (is_small_number kind && is_within 0 HIGHEST_PRICE price)) ∷ (UnknownCopy, is_none row) ∷ []

-- The copy has this kind and price, and is otherwise unchanged.
abbrev pub amend_copy_rows : Option CopyRow → ℕ → ℕ → List RowChange
amend_copy_rows (Some row) kind price = PutCopy (record row { kind = kind; price = price }) ∷ []
amend_copy_rows None kind price = []
