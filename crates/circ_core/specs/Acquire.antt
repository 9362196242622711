-- The checks and row changes of `acquire`, on the rows of a view.
use Rattle.std.specs.Prelude.{ℕ, ◌==◌, ◌&&◌, ◌||◌, not, Bool, List, [], ◌∷◌, ◌++◌, Option, Some, None, is_none, false, bytes_eq}
use Rattle.terms.specs.declared.refusal.Refusal.TheVariants.{UnknownBranch, OtherContent, OutOfLimits}
use Rattle.terms.specs.declared.row.TitleRow.{TitleRow}
use Rattle.terms.specs.declared.row.CopyRow.{CopyRow}
use Rattle.terms.specs.declared.row.Condition.TheVariants.{Present}
use Rattle.terms.specs.declared.command.Command.TheVariants.{Acquire}
use Rattle.circ_core.specs.declared.changes.RowChange.{RowChange}
use Rattle.circ_core.specs.declared.changes.RowChange.TheVariants.{PutTitle, PutCopy}
use Rattle.circ_core.specs.declared.views.View.{View}
use Rattle.model.specs.Checks.{Check, is_within_limits}
use Rattle.circ_core.specs.Tables.{rows_unless}

-- The title exists with another text.
abbrev pub title_differs : Option TitleRow → List ℕ → Bool
title_differs (Some row) text = not (bytes_eq row.text text)
title_differs None text = false

-- The copy exists with another title, kind, home or price.
abbrev pub copy_differs : Option CopyRow → ℕ → ℕ → ℕ → ℕ → Bool
copy_differs (Some row) title kind home price =
    not ((row.title == title) && ((row.kind == kind) && ((row.home == home) && (row.price == price))))
copy_differs None title kind home price = false

abbrev pub acquire_checks : View → ℕ → ℕ → ℕ → ℕ → ℕ → List ℕ → List Check
acquire_checks view copy title kind home price text =
    (OutOfLimits, not (is_within_limits (Acquire copy title kind home price text))) ∷ (UnknownBranch, is_none view.branch)
    ∷ (OtherContent, title_differs view.title text || copy_differs view.copy title kind home price) ∷ []

-- The first copy of a title makes the title's row too; a new copy is present.
abbrev pub acquire_rows : View → ℕ → ℕ → ℕ → ℕ → ℕ → List ℕ → List RowChange
acquire_rows view copy title kind home price text =
    rows_unless view.title (PutTitle (record { title = title; text = text }) ∷ [])
    ++ rows_unless view.copy (PutCopy (record { copy = copy; title = title; kind = kind; home = home; price = price; condition = Present }) ∷ [])
