-- What a command's function answers, by a table of checks, a reply and row changes.
use Rattle.std.specs.Prelude.{◌≡◌, List, Some, None, Result, Ok, Err}
use Rattle.terms.specs.declared.refusal.Refusal.{Refusal}
use Rattle.terms.specs.declared.reply.Reply.{Reply}
use Rattle.circ_core.specs.declared.changes.Decision.{Decision}
use Rattle.circ_core.specs.declared.changes.RowChange.{RowChange}
use Rattle.model.specs.Checks.{Check, first_failing}

-- The refusal is that of the first failing check; without one, the decision has this reply and these changes.
abbrev pub Decided : List Check → Reply → List RowChange → Result Decision Refusal → Type 0
Decided checks reply rows (Ok decision) = (first_failing checks ≡ None) × (decision.reply ≡ reply) × (decision.changes ≡ rows)
Decided checks reply rows (Err refusal) = first_failing checks ≡ Some refusal
