use Rattle.std.proofs.Common.{sym, ◌∙◌, ap}
use Rattle.std.specs.Prelude.{is_some}
use Rattle.terms.specs.declared.reply.Reply.TheVariants.{Shown}
use Rattle.model.specs.Asking.{thing_words}
use Rattle.model.specs.Pages.{spaced}
use Rattle.model.proofs.RowRanges.{legal-rows}
use Rattle.desk.proofs.Labellings.{thing-is}
use Rattle.desk.proofs.Looking.{looked, gives, fails, stops}
use Rattle.desk.proofs.Replies.{barcode-answer, shown-if, refused-if}
use Rattle.desk.proofs.asking.show_barcode.Goals as goal

pub returns-in_err-thing : goal.returns-in_err-thing
returns-in_err-thing g c = fails _ c.from_residual.ensures (looked c.in_err-thing.ensures legal-rows legal-rows) (λ _ _ _. tt)

pub returns-in_err-text-in-Some : goal.returns-in_err-text-in-Some
returns-in_err-text-in-Some g c = stops _ c.from_residual-in_err-text-in-Some.ensures (looked c.in_ok-thing.ensures legal-rows legal-rows)

pub returns-in_ok-text-in-Some : goal.returns-in_ok-text-in-Some
returns-in_ok-text-in-Some g c = gives (looked c.in_ok-thing.ensures legal-rows legal-rows) (λ _ _ _. tt) (λ H legal given found owner.
    let is = thing-is H legal c.args.barcode.now _ found ∙ c.in-Some.is in
    c.shown.ensures ∙ ap Shown (c.in_ok-text-in-Some.ensures ∙ ap (λ o. spaced (thing_words o)) (sym is))
    ∙ shown-if H _ _ _ (ap is_some is) ∙ sym (barcode-answer H owner c.args.barcode.now))

pub returns-in-None : goal.returns-in-None
returns-in-None g c = gives (looked c.in_ok-thing.ensures legal-rows legal-rows) (λ _ _ _. tt) (λ H legal given found owner.
    refused-if H _ _ _ (ap is_some (thing-is H legal c.args.barcode.now _ found ∙ c.in-None.is)) ∙ sym (barcode-answer H owner c.args.barcode.now))
