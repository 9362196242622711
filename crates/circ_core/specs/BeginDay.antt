-- The checks and row changes of `begin-day`, on the rows of a view.
use Rattle.terms.specs.declared.limits.TheConstants.{LAST_TODAY}
use Rattle.std.specs.Prelude.{ℕ, Bool, nat_le, nat_lt, ◌&&◌, not, List, [], ◌∷◌}
use Rattle.terms.specs.declared.refusal.Refusal.TheVariants.{BadDay}
use Rattle.terms.specs.declared.row.MetaRow.{MetaRow}
use Rattle.circ_core.specs.declared.changes.RowChange.{RowChange}
use Rattle.circ_core.specs.declared.changes.RowChange.TheVariants.{PutMeta}
use Rattle.model.specs.Checks.{Check}

-- The day isn't after today, or can never be today.
abbrev pub is_bad_day : MetaRow → ℕ → Bool
is_bad_day meta day = not (nat_lt meta.today day && nat_le day LAST_TODAY)

abbrev pub begin_day_checks : MetaRow → ℕ → List Check
begin_day_checks meta day = (BadDay, is_bad_day meta day) ∷ []

abbrev pub begin_day_rows : MetaRow → ℕ → List RowChange
begin_day_rows meta day = PutMeta (record meta { today = day }) ∷ []
