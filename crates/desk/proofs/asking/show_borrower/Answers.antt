use Rattle.std.proofs.Common.{ℕ, List, ◌∷◌, ◌++◌, sym, ◌∙◌, ap, ap₂}
use Rattle.std.specs.Prelude.{is_some}
use Rattle.terms.specs.declared.reply.Reply.TheVariants.{Shown}
use Rattle.terms.specs.declared.row.Thing.TheVariants as thing
use Rattle.model.specs.Asking.{kind_of_patron}
use Rattle.model.specs.History.{barcode_of}
use Rattle.model.specs.Pages.{patron_line}
use Rattle.model.proofs.RowRanges.{legal-rows}
use Rattle.desk.specs.Asking.{kind_words}
use Rattle.desk.specs.Labelling.{barcode_tail}
use Rattle.desk.proofs.FoundRows.{patron-kind}
use Rattle.desk.proofs.Labellings.{two-then}
use Rattle.desk.proofs.Looking.{looked, ◌⨾◌, gives, fails, stops}
use Rattle.desk.proofs.Owning.{patron-in}
use Rattle.desk.proofs.PageRows.{patron-line}
use Rattle.desk.proofs.Replies.{borrower-answer, patron-there, shown-if, refused-if}
use Rattle.desk.proofs.asking.show_borrower.Goals as goal

pub returns-in_err-row : goal.returns-in_err-row
returns-in_err-row g c = fails _ c.from_residual.ensures
    (looked c.in_err-row.ensures (λ H legal forms. patron-in H legal forms c.args.patron) legal-rows) (λ _ _ _. tt)

pub returns-in_err-lines-in-Some : goal.returns-in_err-lines-in-Some
returns-in_err-lines-in-Some g c = stops _ c.from_residual-in_err-lines-in-Some.ensures
    (looked c.in_ok-row.ensures (λ H legal forms. patron-in H legal forms c.args.patron) legal-rows)

pub returns-in_err-text-in-Some : goal.returns-in_err-text-in-Some
returns-in_err-text-in-Some g c = fails _ c.from_residual-in_err-text-in-Some.ensures
    (looked c.in_ok-row.ensures (λ H legal forms. patron-in H legal forms c.args.patron) legal-rows ⨾ c.in_err-text-in-Some.ensures)
    (λ _ _ _. (tt, λ _. tt))

pub returns-in_ok-text-in-Some : goal.returns-in_ok-text-in-Some
returns-in_ok-text-in-Some g c = gives
    (looked c.in_ok-row.ensures (λ H legal forms. patron-in H legal forms c.args.patron) legal-rows ⨾ c.in_ok-text-in-Some.ensures)
    (λ _ _ _. (tt, λ _. tt)) (λ H legal given found owner.
    let patron = c.args.patron in
    let barcode = barcode_of H (thing.Patron patron) in
    c.shown.ensures
    ∙ ap Shown (found.1 ∙ ap (λ (t : List ℕ). t ++ barcode_tail barcode) (c.in_ok-lines-in-Some.ensures
    ∙ ap₂ (λ (line : List ℕ) (kind : ℕ). line ++ (10 ∷ kind_words kind)) (patron-line H patron c.in-Some.row (sym found.0 ∙ c.in-Some.is))
    (patron-kind H patron c.in-Some.row (sym found.0 ∙ c.in-Some.is)))
    ∙ two-then (patron_line H patron) (kind_words (kind_of_patron H patron)) barcode)
    ∙ shown-if H _ _ _ (patron-there H patron _ found.0 ∙ ap is_some c.in-Some.is) ∙ sym (borrower-answer H owner patron))

pub returns-in-None : goal.returns-in-None
returns-in-None g c = gives (looked c.in_ok-row.ensures (λ H legal forms. patron-in H legal forms c.args.patron) legal-rows) (λ _ _ _. tt)
    (λ H legal given found owner.
    refused-if H _ _ _ (patron-there H c.args.patron _ found ∙ ap is_some c.in-None.is) ∙ sym (borrower-answer H owner c.args.patron))
