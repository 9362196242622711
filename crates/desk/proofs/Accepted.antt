-- A decision's reply is no refusal, whatever rows it is made on.
use Rattle.std.proofs.Common.{◌≡◌, ℕ, Bool, true, false, refl, ◌∙◌, ap, Some, None}
use Rattle.std.specs.Prelude.{Option, Ok}
use Rattle.terms.specs.declared.refusal.Refusal.{Refusal}
use Rattle.terms.specs.declared.reply.Reply.{Reply}
use Rattle.terms.specs.declared.reply.Reply.TheVariants.{Refused}
use Rattle.terms.specs.declared.row.LoanRow.{LoanRow}
use Rattle.terms.specs.declared.command.Command.{Command}
use Rattle.terms.specs.declared.command.Command.TheVariants.{Missing}
use Rattle.circ_core.specs.declared.changes.Decision.{Decision}
use Rattle.circ_core.specs.declared.views.View.{View}
use Rattle.circ_core.specs.Deciding.{DecidesOn}
use Rattle.circ_core.specs.Missing.{lost_reply}

abbrev is_refusal : Reply → Bool
is_refusal (Refused refusal) = true
is_refusal _ = false

lost-plain : (loan : Option LoanRow) (fine price : ℕ) → is_refusal (lost_reply loan fine price) ≡ false
lost-plain (Some loan) fine price = refl
lost-plain None fine price = refl

accepted-plain : (v : View) (c : Command) (d : Decision) → DecidesOn v c (Ok d) → is_refusal d.reply ≡ false
accepted-plain v (Missing copy) d is = ap is_refusal is.1 ∙ lost-plain v.loan _ _
accepted-plain v _ d is = ap is_refusal is.1

pub accepted-unrefused : (v : View) (c : Command) (d : Decision) (refusal : Refusal) → DecidesOn v c (Ok d) → d.reply ≡ Refused refusal → ⊥
accepted-unrefused v c d refusal is refused =
    let none = accepted-plain v c d is in
    let some : is_refusal d.reply ≡ true = ap is_refusal refused in
    let never : ⊥ = cc in never
