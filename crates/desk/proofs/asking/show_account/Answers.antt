use Rattle.std.proofs.Common.{[], ◌∷◌, ◌++◌, append-nil, sym, ◌∙◌, ap}
use Rattle.std.specs.Prelude.{is_some}
use Rattle.terms.specs.declared.reply.Reply.TheVariants.{Shown}
use Rattle.model.proofs.RowRanges.{legal-rows}
use Rattle.model.specs.Asking.{listed, account_list}
use Rattle.desk.proofs.Looking.{looked, ◌⨾◌, gives, stops, fails}
use Rattle.desk.proofs.Owning.{patron-in}
use Rattle.desk.proofs.PageRows.{patron-line}
use Rattle.desk.proofs.Replies.{account-answer, patron-there, shown-if, refused-if}
use Rattle.desk.proofs.asking.show_account.Goals as goal

pub returns-in_err-row : goal.returns-in_err-row
returns-in_err-row g c = fails _ c.from_residual.ensures
    (looked c.in_err-row.ensures (λ H legal forms. patron-in H legal forms c.args.patron) legal-rows) (λ _ _ _. tt)

pub returns-in_err-line-in-Some : goal.returns-in_err-line-in-Some
returns-in_err-line-in-Some g c = stops _ c.from_residual-in_err-line-in-Some.ensures
    (looked c.in_ok-row.ensures (λ H legal forms. patron-in H legal forms c.args.patron) legal-rows)

pub returns-in_err-head-in-Some : goal.returns-in_err-head-in-Some
returns-in_err-head-in-Some g c = stops _ c.from_residual-in_err-head-in-Some.ensures
    (looked c.in_ok-row.ensures (λ H legal forms. patron-in H legal forms c.args.patron) legal-rows)

pub returns-in_err-text-in-Some : goal.returns-in_err-text-in-Some
returns-in_err-text-in-Some g c =
    fails _ c.from_residual-in_err-text-in-Some.ensures
    (looked c.in_ok-row.ensures (λ H legal forms. patron-in H legal forms c.args.patron) legal-rows ⨾ c.in_err-text-in-Some.ensures)
    (λ H list given. (
      tt,
      λ found. (
        tt,
        c.in_ok-head-in-Some.ensures
            ∙ ap (λ t. t ++ (10 ∷ [])) (c.in_ok-line-in-Some.ensures ∙ patron-line H c.args.patron c.in-Some.row (sym found ∙ c.in-Some.is))
            ∙ sym (append-nil _),
      ),
    ))

pub returns-in_ok-text-in-Some : goal.returns-in_ok-text-in-Some
returns-in_ok-text-in-Some g c =
    gives (looked c.in_ok-row.ensures (λ H legal forms. patron-in H legal forms c.args.patron) legal-rows ⨾ c.in_ok-text-in-Some.ensures)
    (λ H list given. (
      tt,
      λ found. (
        tt,
        c.in_ok-head-in-Some.ensures
            ∙ ap (λ t. t ++ (10 ∷ [])) (c.in_ok-line-in-Some.ensures ∙ patron-line H c.args.patron c.in-Some.row (sym found ∙ c.in-Some.is))
            ∙ sym (append-nil _),
      ),
    )) (λ H legal given is owner.
    c.shown.ensures ∙ ap Shown (is.1 ∙ ap (λ n. listed (account_list H c.args.patron) n) c.number.ensures.value)
    ∙ shown-if H _ _ _ (patron-there H c.args.patron _ is.0 ∙ ap is_some c.in-Some.is) ∙ sym (account-answer H owner c.args.patron c.args.after))

pub returns-in-None : goal.returns-in-None
returns-in-None g c = gives (looked c.in_ok-row.ensures (λ H legal forms. patron-in H legal forms c.args.patron) legal-rows) (λ _ _ _. tt)
    (λ H legal given found owner.
    refused-if H _ _ _ (patron-there H c.args.patron _ found ∙ ap is_some c.in-None.is) ∙ sym (account-answer H owner c.args.patron c.args.after))
