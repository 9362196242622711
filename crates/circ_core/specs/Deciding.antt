-- What is decided on a command, from the rows of its view.
use Rattle.std.specs.Prelude.{◌-◌, [], Result}
use Rattle.terms.specs.declared.refusal.Refusal.{Refusal}
use Rattle.terms.specs.declared.reply.Reply.TheVariants.{Done, Held, Lent, Owed}
use Rattle.terms.specs.declared.row.Sort.TheVariants.{Payment, Waiver}
use Rattle.terms.specs.declared.row.HoldState.TheVariants.{Cancelled, Expired}
use Rattle.terms.specs.declared.command.Command.{Command}
use Rattle.terms.specs.declared.command.Command.TheVariants.{BeginDay, Branch, Week, Kind, Rule, Grace, Patron, Acquire, CheckOut, CheckIn}
use Rattle.terms.specs.declared.command.Command.TheVariants.{SetCardKey, AmendPatron, AmendBranch, AmendTitle, AmendCopy, Rehome}
use Rattle.terms.specs.declared.command.Command.TheVariants.{Renew, PlaceHold, CancelHold, Unshelve, UnshelveCancelled, Missing, Withdraw}
use Rattle.terms.specs.declared.command.Command.TheVariants.{CloseDay, OpenDay, Pay, Waive, Page, Ask}
use Rattle.terms.specs.declared.command.Command.TheVariants.{CopyBarcode, PatronBarcode, DropBarcode, Charge, PayAt}
use Rattle.terms.specs.declared.row.Thing.TheVariants as thing
use Rattle.circ_core.specs.declared.changes.Decision.{Decision}
use Rattle.circ_core.specs.declared.views.View.{View}
use Rattle.circ_core.specs.Decided.{Decided}
use Rattle.circ_core.specs.BeginDay.{begin_day_checks, begin_day_rows}
use Rattle.circ_core.specs.Branch.{branch_checks, branch_rows}
use Rattle.circ_core.specs.Week.{week_checks, week_rows}
use Rattle.circ_core.specs.Kind.{kind_checks, kind_rows}
use Rattle.circ_core.specs.Rule.{rule_checks, rule_rows}
use Rattle.circ_core.specs.Grace.{grace_checks, grace_rows}
use Rattle.circ_core.specs.Patron.{patron_checks, patron_rows}
use Rattle.circ_core.specs.Acquire.{acquire_checks, acquire_rows}
use Rattle.circ_core.specs.AmendPatron.{card_key_checks, card_key_rows, amend_patron_checks, amend_patron_rows}
use Rattle.circ_core.specs.AmendBranch.{amend_branch_checks, amend_branch_rows}
use Rattle.circ_core.specs.AmendTitle.{amend_title_checks, amend_title_rows}
use Rattle.circ_core.specs.AmendCopy.{amend_copy_checks, amend_copy_rows}
use Rattle.circ_core.specs.Rehome.{rehome_checks, rehome_rows}
use Rattle.circ_core.specs.Debt.{owed_by}
use Rattle.circ_core.specs.CheckOut.{check_out_checks, check_out_rows, due_in}
use Rattle.circ_core.specs.CheckIn.{check_in_checks, check_in_limit, check_in_reply, check_in_rows}
use Rattle.circ_core.specs.Unshelve.{next_limit, unshelve_checks, unshelve_cancelled_checks, unshelve_reply, unshelve_rows}
use Rattle.circ_core.specs.CloseDay.{close_day_checks, close_day_rows, open_day_checks, open_day_rows}
use Rattle.circ_core.specs.Missing.{missing_checks, missing_reply, missing_rows}
use Rattle.circ_core.specs.Withdraw.{withdraw_checks, withdraw_rows}
use Rattle.circ_core.specs.Renew.{renew_checks, renewed_due_in, renewed_rows}
use Rattle.circ_core.specs.PlaceHold.{place_hold_checks, place_hold_rows}
use Rattle.circ_core.specs.CancelHold.{cancel_hold_checks, cancel_hold_rows}
use Rattle.circ_core.specs.PayAndWaive.{settle_checks, settle_rows}
use Rattle.circ_core.specs.Counter.{charge_checks, charge_rows, owed_after, pay_at_checks, pay_at_rows}
use Rattle.circ_core.specs.Barcode.{copy_barcode_checks, patron_barcode_checks, drop_barcode_checks, barcode_rows, drop_barcode_rows}
use Rattle.circ_core.specs.Page.{page_checks}

-- The decision is that of the command's checks, reply and row changes. A question has none: it is answered
-- elsewhere.
abbrev pub DecidesOn : View → Command → Result Decision Refusal → Type 0
DecidesOn v (BeginDay day) decided = Decided (begin_day_checks v.meta day) Done (begin_day_rows v.meta day) decided
DecidesOn v (Branch branch pickup name) decided = Decided (branch_checks v.branch branch pickup name) Done (branch_rows v.branch branch pickup name) decided
DecidesOn v (Week branch week) decided = Decided (week_checks v.branch week) Done (week_rows v.branch week) decided
DecidesOn v (CloseDay branch day) decided = Decided (close_day_checks v day) Done (close_day_rows branch day) decided
DecidesOn v (OpenDay branch day) decided = Decided (open_day_checks v day) Done (open_day_rows branch day) decided
DecidesOn v (Kind kind loans holds debt) decided = Decided (kind_checks kind loans holds debt) Done (kind_rows kind loans holds debt) decided
DecidesOn v (Rule kind copy_kind period renewals rate cap) decided =
    Decided (rule_checks v.kind kind copy_kind period renewals rate cap) Done (rule_rows kind copy_kind period renewals rate cap) decided
DecidesOn v (Grace kind copy_kind days) decided = Decided (grace_checks v.rule kind copy_kind days) Done (grace_rows v.rule days) decided
DecidesOn v (Patron patron kind card_key name) decided =
    Decided (patron_checks v patron kind card_key name) Done (patron_rows v patron kind card_key name) decided
DecidesOn v (Acquire copy title kind home price text) decided =
    Decided (acquire_checks v copy title kind home price text) Done (acquire_rows v copy title kind home price text) decided
DecidesOn v (SetCardKey patron card_key) decided = Decided (card_key_checks v.patron) Done (card_key_rows v.patron card_key) decided
DecidesOn v (AmendPatron patron kind name) decided = Decided (amend_patron_checks v kind) Done (amend_patron_rows v.patron kind name) decided
DecidesOn v (AmendBranch branch pickup name) decided =
    Decided (amend_branch_checks v.branch branch pickup name) Done (amend_branch_rows v.branch pickup name) decided
DecidesOn v (AmendTitle title text) decided = Decided (amend_title_checks v.title) Done (amend_title_rows v.title text) decided
DecidesOn v (AmendCopy copy kind price) decided = Decided (amend_copy_checks v.copy kind price) Done (amend_copy_rows v.copy kind price) decided
DecidesOn v (Rehome copy branch) decided = Decided (rehome_checks v) Done (rehome_rows v branch) decided
DecidesOn v (CopyBarcode copy barcode) decided = Decided (copy_barcode_checks v copy) Done (barcode_rows (thing.Copy copy) barcode) decided
DecidesOn v (PatronBarcode patron barcode) decided = Decided (patron_barcode_checks v patron) Done (barcode_rows (thing.Patron patron) barcode) decided
DecidesOn v (DropBarcode barcode) decided = Decided (drop_barcode_checks v) Done (drop_barcode_rows v.labelled) decided
DecidesOn v (CheckOut patron copy branch) decided =
    Decided (check_out_checks v patron branch) (Lent v.meta.next_loan (due_in v)) (check_out_rows v patron copy branch (due_in v)) decided
DecidesOn v (CheckIn copy branch) decided =
    Decided (check_in_checks v branch) (check_in_reply v branch (check_in_limit v branch)) (check_in_rows v copy branch (check_in_limit v branch)) decided
DecidesOn v (Renew loan) decided = Decided (renew_checks v) (Lent loan (renewed_due_in v)) (renewed_rows v.loan (renewed_due_in v)) decided
DecidesOn v (PlaceHold patron title branch first_day) decided =
    Decided (place_hold_checks v first_day) (Held v.meta.next_hold) (place_hold_rows v patron title branch first_day) decided
DecidesOn v (CancelHold hold) decided = Decided (cancel_hold_checks v) Done (cancel_hold_rows v) decided
DecidesOn v (Unshelve hold) decided = Decided (unshelve_checks v) (unshelve_reply v (next_limit v)) (unshelve_rows v Expired (next_limit v)) decided
DecidesOn v (UnshelveCancelled hold) decided =
    Decided (unshelve_cancelled_checks v) (unshelve_reply v (next_limit v)) (unshelve_rows v Cancelled (next_limit v)) decided
DecidesOn v (Missing copy) decided = Decided (missing_checks v) (missing_reply v) (missing_rows v) decided
DecidesOn v (Withdraw copy) decided = Decided (withdraw_checks v) Done (withdraw_rows v) decided
DecidesOn v (Pay patron amount) decided = Decided (settle_checks v amount) (Owed (owed_by v.patron - amount)) (settle_rows v patron Payment amount) decided
DecidesOn v (Waive patron amount) decided = Decided (settle_checks v amount) (Owed (owed_by v.patron - amount)) (settle_rows v patron Waiver amount) decided
DecidesOn v (Charge patron amount branch text) decided =
    Decided (charge_checks v patron amount branch text) (Owed (owed_after v.patron amount)) (charge_rows v patron amount branch text) decided
DecidesOn v (PayAt patron amount branch) decided =
    Decided (pay_at_checks v amount) (Owed (owed_by v.patron - amount)) (pay_at_rows v patron amount branch) decided
DecidesOn v (Page patron) decided = Decided (page_checks v.patron) Done [] decided
DecidesOn v (Ask question) decided = Decided [] Done [] decided
