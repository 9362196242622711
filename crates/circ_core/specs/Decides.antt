-- What a decision must do, by the history.
use Rattle.std.specs.Prelude.{◌≡◌, ℕ, List, ◌∷◌, Some, None, Result, Ok, Err}
use Rattle.terms.specs.declared.command.Owner.{Owner}
use Rattle.terms.specs.declared.command.Owner.TheVariants.{Desk}
use Rattle.terms.specs.declared.command.Command.{Command}
use Rattle.terms.specs.declared.command.Command.TheVariants.{Page}
use Rattle.terms.specs.declared.refusal.Refusal.{Refusal}
use Rattle.terms.specs.declared.reply.Reply.{Reply}
use Rattle.terms.specs.declared.reply.Reply.TheVariants.{Done}
use Rattle.model.specs.History.{History, Event}
use Rattle.model.specs.Refusals.{refusal}
use Rattle.model.specs.Answers.{accepted}
use Rattle.model.specs.Picture.{picture}
use Rattle.circ_core.specs.declared.changes.Decision.{Decision}
use Rattle.circ_core.specs.Tables.{changed, SameRows}

-- The event of a command, with its key and the key's owner.
abbrev pub event : Owner → List ℕ → Command → Event
event owner key command = record { owner = owner; key = key; command = command }

-- The reply of a decision: the accepted command's, and just that it is done for a page.
abbrev pub reply_due : History → Command → Reply
reply_due H (Page patron) = Done
reply_due H command = accepted H command

-- The command isn't refused, the reply is the due one, and the changes give the tables with the command
-- added.
pub record IsDecision (H : History) (command : Command) (decision : Decision) : Type 0 where
  pub unrefused : refusal H Desk command ≡ None
  pub reply : decision.reply ≡ reply_due H command
  pub rows : (owner : Owner) (key : List ℕ) → SameRows (changed decision.changes (picture H)) (picture (event owner key command ∷ H))

-- The desk's refusal of the command after the history, or else its decision.
abbrev pub Decides : History → Command → Result Decision Refusal → Type 0
Decides H command (Ok decision) = IsDecision H command decision
Decides H command (Err refused) = refusal H Desk command ≡ Some refused
