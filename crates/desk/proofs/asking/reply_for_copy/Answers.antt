use Rattle.std.proofs.Common.{◌≡◌, ℕ, List, ◌++◌, sym, ◌∙◌, ap, subst}
use Rattle.std.specs.Prelude.{Some, is_some}
use Rattle.circ_core.specs.Views.{IsCopyView}
use Rattle.terms.specs.declared.reply.Reply.TheVariants.{Shown}
use Rattle.terms.specs.declared.row.Thing.TheVariants as thing
use Rattle.model.specs.Asking.{copy_line, place_line}
use Rattle.model.specs.History.{barcode_of}
use Rattle.model.specs.Picture.{picture}
use Rattle.model.specs.Places.{place}
use Rattle.desk.specs.Placing.{two_lines}
use Rattle.desk.specs.Labelling.{barcode_tail}
use Rattle.desk.proofs.Labellings.{two-then}
use Rattle.desk.proofs.ListBatches.{copy-number}
use Rattle.desk.proofs.Looking.{idle, ◌⨾◌, gives, fails}
use Rattle.desk.proofs.Replies.{copy-there, shown-if, refused-if}
use Rattle.desk.proofs.asking.reply_for_copy.Goals as goal

pub returns-in_err-lines-in-Some : goal.returns-in_err-lines-in-Some
returns-in_err-lines-in-Some g c = fails _ c.from_residual.ensures c.in_err-lines-in-Some.ensures (λ H list is.
    let there = sym is.copy ∙ c.in-Some.is in
    let number = sym (copy-number H c.args.copy c.in-Some.row there) in (
      subst (λ n. (picture H).copies n ≡ Some c.in-Some.row) number there,
      subst (λ n. IsCopyView (picture H) n c.args.rows.now) number is,
    ))

pub returns-in_err-text-in-Some : goal.returns-in_err-text-in-Some
returns-in_err-text-in-Some g c = fails _ c.from_residual-in_err-text-in-Some.ensures (c.in_ok-lines-in-Some.ensures ⨾ c.in_err-text-in-Some.ensures) (λ H list is.
    let there = sym is.copy ∙ c.in-Some.is in
    let number = sym (copy-number H c.args.copy c.in-Some.row there) in (
      (
        subst (λ n. (picture H).copies n ≡ Some c.in-Some.row) number there,
        subst (λ n. IsCopyView (picture H) n c.args.rows.now) number is,
      ),
      λ _. tt,
    ))

pub returns-in_ok-text-in-Some : goal.returns-in_ok-text-in-Some
returns-in_ok-text-in-Some g c = gives (c.in_ok-lines-in-Some.ensures ⨾ c.in_ok-text-in-Some.ensures) (λ H list is.
    let there = sym is.copy ∙ c.in-Some.is in
    let number = sym (copy-number H c.args.copy c.in-Some.row there) in (
      (
        subst (λ n. (picture H).copies n ≡ Some c.in-Some.row) number there,
        subst (λ n. IsCopyView (picture H) n c.args.rows.now) number is,
      ),
      λ _. tt,
    )) (λ H legal is found.
    let copy = c.args.copy in
    let barcode = barcode_of H (thing.Copy copy) in
    c.shown.ensures
    ∙ ap Shown (found.1 ∙ ap (λ (t : List ℕ). t ++ barcode_tail barcode)
    (found.0 ∙ ap (two_lines H) (copy-number H copy c.in-Some.row (sym is.copy ∙ c.in-Some.is)))
    ∙ two-then (copy_line H copy) (place_line H (place H copy)) barcode)
    ∙ shown-if H _ _ _ (copy-there H copy _ is.copy ∙ ap is_some c.in-Some.is))

pub returns-in-None : goal.returns-in-None
returns-in-None g c = gives idle (λ _ _ _. tt) (λ H legal is none. refused-if H _ _ _ (copy-there H c.args.copy _ is.copy ∙ ap is_some c.in-None.is))
