use Rattle.std.proofs.Common.{refl, sym, ◌∙◌, ap}
use Rattle.terms.specs.declared.command.Command.TheVariants.{Ask}
use Rattle.model.specs.Answers.{answer}
use Rattle.std.specs.Prelude.{is_some}
use Rattle.terms.specs.declared.refusal.Refusal.TheVariants.{UnknownBranch, UnknownTitle}
use Rattle.model.specs.Asking.{listed, copies_list, shelf_list, transits_list}
use Rattle.model.specs.History.{title_of}
use Rattle.model.specs.Refusals.{has_branch}
use Rattle.desk.specs.Asking.{reply_if}
use Rattle.desk.proofs.Looking.{learns-on}
use Rattle.desk.proofs.Replies.{copies-answer, shelf-answer, transits-answer}
use Rattle.desk.proofs.asking.reply_to_question.Goals as goal

pub returns-in-Copies : goal.returns-in-Copies
returns-in-Copies g c = learns-on c.show_of_title.ensures (λ H list given. (tt, refl)) (λ H legal given reply is owner.
    is ∙ ap (λ n. reply_if (is_some (title_of H c.in-Copies.title)) UnknownTitle (listed (copies_list H c.in-Copies.title) n)) c.number.ensures.value
    ∙ sym (copies-answer H owner c.in-Copies.title c.in-Copies.after) ∙ sym (ap (λ q. answer H owner (Ask q)) c.in-Copies.is))

pub returns-in-Shelf : goal.returns-in-Shelf
returns-in-Shelf g c = learns-on c.show_of_branch.ensures (λ H list given. (tt, refl)) (λ H legal given reply is owner.
    is ∙ ap (λ n. reply_if (has_branch H c.in-Shelf.branch) UnknownBranch (listed (shelf_list H c.in-Shelf.branch) n)) c.number-in-Shelf.ensures.value
    ∙ sym (shelf-answer H owner c.in-Shelf.branch c.in-Shelf.after) ∙ sym (ap (λ q. answer H owner (Ask q)) c.in-Shelf.is))

pub returns-in-Transits : goal.returns-in-Transits
returns-in-Transits g c = learns-on c.show_of_branch-in-Transits.ensures (λ H list given. (tt, refl)) (λ H legal given reply is owner.
    is ∙ ap (λ n. reply_if (has_branch H c.in-Transits.branch) UnknownBranch (listed
    (transits_list H c.in-Transits.branch) n)) c.number-in-Transits.ensures.value
    ∙ sym (transits-answer H owner c.in-Transits.branch c.in-Transits.after) ∙ sym (ap (λ q. answer H owner (Ask q)) c.in-Transits.is))

pub returns-in-Copy : goal.returns-in-Copy
returns-in-Copy g c = learns-on c.show_copy.ensures (λ _ _ _. tt) (λ H legal given reply is owner. is owner
    ∙ sym (ap (λ q. answer H owner (Ask q)) c.in-Copy.is))

pub returns-in-Queue : goal.returns-in-Queue
returns-in-Queue g c = learns-on c.show_queue.ensures (λ _ _ _. tt) (λ H legal given reply is owner. is owner
    ∙ sym (ap (λ q. answer H owner (Ask q)) c.in-Queue.is))

pub returns-in-Account : goal.returns-in-Account
returns-in-Account g c = learns-on c.show_account.ensures (λ _ _ _. tt) (λ H legal given reply is owner. is owner
    ∙ sym (ap (λ q. answer H owner (Ask q)) c.in-Account.is))

pub returns-in-Debts : goal.returns-in-Debts
returns-in-Debts g c = learns-on c.show_debts.ensures (λ _ _ _. tt) (λ H legal given reply is owner. is owner
    ∙ sym (ap (λ q. answer H owner (Ask q)) c.in-Debts.is))

pub returns-in-Overdue : goal.returns-in-Overdue
returns-in-Overdue g c = learns-on c.show_overdue.ensures (λ _ _ _. tt) (λ H legal given reply is owner. is owner
    ∙ sym (ap (λ q. answer H owner (Ask q)) c.in-Overdue.is))

pub returns-in-Pulls : goal.returns-in-Pulls
returns-in-Pulls g c = learns-on c.show_pulls.ensures (λ _ _ _. tt) (λ H legal given reply is owner. is owner
    ∙ sym (ap (λ q. answer H owner (Ask q)) c.in-Pulls.is))

pub returns-in-Till : goal.returns-in-Till
returns-in-Till g c = learns-on c.show_till.ensures (λ _ _ _. tt) (λ H legal given reply is owner. is owner
    ∙ sym (ap (λ q. answer H owner (Ask q)) c.in-Till.is))

pub returns-in-Today : goal.returns-in-Today
returns-in-Today g c = learns-on c.show_today.ensures (λ _ _ _. tt) (λ H legal given reply is owner. is owner
    ∙ sym (ap (λ q. answer H owner (Ask q)) c.in-Today.is))

pub returns-in-Borrower : goal.returns-in-Borrower
returns-in-Borrower g c = learns-on c.show_borrower.ensures (λ _ _ _. tt) (λ H legal given reply is owner. is owner
    ∙ sym (ap (λ q. answer H owner (Ask q)) c.in-Borrower.is))

pub returns-in-FindPatrons : goal.returns-in-FindPatrons
returns-in-FindPatrons g c = learns-on c.show_found_patrons.ensures (λ _ _ _. tt) (λ H legal given reply is owner. is owner
    ∙ sym (ap (λ q. answer H owner (Ask q)) c.in-FindPatrons.is))

pub returns-in-FindTitles : goal.returns-in-FindTitles
returns-in-FindTitles g c = learns-on c.show_found_titles.ensures (λ _ _ _. tt) (λ H legal given reply is owner. is owner
    ∙ sym (ap (λ q. answer H owner (Ask q)) c.in-FindTitles.is))

pub returns-in-Branches : goal.returns-in-Branches
returns-in-Branches g c = learns-on c.show_branches.ensures (λ _ _ _. tt) (λ H legal given reply is owner. is owner
    ∙ sym (ap (λ q. answer H owner (Ask q)) c.in-Branches.is))

pub returns-in-ClosedDays : goal.returns-in-ClosedDays
returns-in-ClosedDays g c = learns-on c.show_closed_days.ensures (λ _ _ _. tt) (λ H legal given reply is owner. is owner
    ∙ sym (ap (λ q. answer H owner (Ask q)) c.in-ClosedDays.is))

pub returns-in-Kinds : goal.returns-in-Kinds
returns-in-Kinds g c = learns-on c.show_kinds.ensures (λ _ _ _. tt) (λ H legal given reply is owner. is owner
    ∙ sym (ap (λ q. answer H owner (Ask q)) c.in-Kinds.is))

pub returns-in-Rules : goal.returns-in-Rules
returns-in-Rules g c = learns-on c.show_rules.ensures (λ _ _ _. tt) (λ H legal given reply is owner. is owner
    ∙ sym (ap (λ q. answer H owner (Ask q)) c.in-Rules.is))

pub returns-in-MissingCopies : goal.returns-in-MissingCopies
returns-in-MissingCopies g c = learns-on c.show_missing_copies.ensures (λ _ _ _. tt) (λ H legal given reply is owner. is owner
    ∙ sym (ap (λ q. answer H owner (Ask q)) c.in-MissingCopies.is))

pub returns-in-Loans : goal.returns-in-Loans
returns-in-Loans g c = learns-on c.show_loans.ensures (λ _ _ _. tt) (λ H legal given reply is owner. is owner
    ∙ sym (ap (λ q. answer H owner (Ask q)) c.in-Loans.is))

pub returns-in-FindBarcode : goal.returns-in-FindBarcode
returns-in-FindBarcode g c = learns-on c.show_barcode.ensures (λ _ _ _. tt) (λ H legal given reply is owner. is owner
    ∙ sym (ap (λ q. answer H owner (Ask q)) c.in-FindBarcode.is))

pub returns-in-TillAt : goal.returns-in-TillAt
returns-in-TillAt g c = learns-on c.show_till_at.ensures (λ _ _ _. tt) (λ H legal given reply is owner. is owner
    ∙ sym (ap (λ q. answer H owner (Ask q)) c.in-TillAt.is))
