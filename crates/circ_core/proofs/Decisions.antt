-- A decision on a view's rows is the history's.
use Rattle.std.specs.Prelude.{◌≡◌, false, Result}
use Rattle.terms.specs.declared.command.Command.{Command}
use Rattle.terms.specs.declared.command.Command.TheVariants.{BeginDay, Branch, Week, Kind, Rule, Grace, Patron, Acquire, CheckOut, CheckIn}
use Rattle.terms.specs.declared.command.Command.TheVariants.{SetCardKey, AmendPatron, AmendBranch, AmendTitle, AmendCopy, Rehome}
use Rattle.terms.specs.declared.command.Command.TheVariants.{Renew, PlaceHold, CancelHold, Unshelve, UnshelveCancelled, Missing, Withdraw}
use Rattle.terms.specs.declared.command.Command.TheVariants.{CloseDay, OpenDay, Pay, Waive, Page, Ask}
use Rattle.terms.specs.declared.command.Command.TheVariants.{CopyBarcode, PatronBarcode, DropBarcode, Charge, PayAt}
use Rattle.terms.specs.declared.refusal.Refusal.{Refusal}
use Rattle.model.specs.History.{History}
use Rattle.model.specs.Requests.{IsLegal, is_question}
use Rattle.model.specs.Picture.{picture}
use Rattle.model.proofs.Invariants.{legal-Invariant}
use Rattle.circ_core.specs.declared.changes.Decision.{Decision}
use Rattle.circ_core.specs.declared.views.View.{View}
use Rattle.circ_core.specs.Views.{IsViewOf}
use Rattle.circ_core.specs.Deciding.{DecidesOn}
use Rattle.circ_core.specs.Decides.{Decides}
use Rattle.circ_core.proofs.Meets.{decided}
use Rattle.circ_core.proofs.BeginDayMeets.{begin_day_meets}
use Rattle.circ_core.proofs.BranchMeets.{branch_meets}
use Rattle.circ_core.proofs.WeekMeets.{week_meets}
use Rattle.circ_core.proofs.KindMeets.{kind_meets}
use Rattle.circ_core.proofs.RuleMeets.{rule_meets}
use Rattle.circ_core.proofs.GraceMeets.{grace_meets}
use Rattle.circ_core.proofs.PatronMeets.{patron_meets}
use Rattle.circ_core.proofs.AcquireMeets.{acquire_meets}
use Rattle.circ_core.proofs.AmendPatronMeets.{card_key_meets, amend_patron_meets}
use Rattle.circ_core.proofs.AmendBranchMeets.{amend_branch_meets}
use Rattle.circ_core.proofs.AmendTitleMeets.{amend_title_meets}
use Rattle.circ_core.proofs.AmendCopyMeets.{amend_copy_meets}
use Rattle.circ_core.proofs.RehomeMeets.{rehome_meets}
use Rattle.circ_core.proofs.CheckOutMeets.{check_out_meets}
use Rattle.circ_core.proofs.CheckInMeets.{check_in_meets}
use Rattle.circ_core.proofs.UnshelveMeets.{unshelve_meets, unshelve_cancelled_meets}
use Rattle.circ_core.proofs.CloseDayMeets.{close_day_meets, open_day_meets}
use Rattle.circ_core.proofs.RenewMeets.{renew_meets}
use Rattle.circ_core.proofs.PlaceHoldMeets.{place_hold_meets}
use Rattle.circ_core.proofs.CancelHoldMeets.{cancel_hold_meets}
use Rattle.circ_core.proofs.MissingMeets.{missing_meets}
use Rattle.circ_core.proofs.WithdrawMeets.{withdraw_meets}
use Rattle.circ_core.proofs.PayAndWaiveMeets.{pay_meets, waive_meets}
use Rattle.circ_core.proofs.CounterMeets.{charge_meets, pay_at_meets}
use Rattle.circ_core.proofs.BarcodeMeets.{copy_barcode_meets, patron_barcode_meets, drop_barcode_meets}
use Rattle.circ_core.proofs.PageMeets.{page_meets}

pub decides : (H : History) → IsLegal H → (v : View) (command : Command) (result : Result Decision Refusal)
    → is_question command ≡ false → IsViewOf (picture H) command v → DecidesOn v command result → Decides H command result
decides H legal v (BeginDay day) result changes w on = decided H _ _ _ _ (begin_day_meets H day v.meta w) result on
decides H legal v (Branch branch pickup name) result changes w on = decided H _ _ _ _ (branch_meets H (legal-Invariant H legal) branch pickup name v.branch w) result on
decides H legal v (Week branch week) result changes w on = decided H _ _ _ _ (week_meets H branch week v.branch w) result on
decides H legal v (CloseDay branch day) result changes w on = decided H _ _ _ _ (close_day_meets H (legal-Invariant H legal) branch day v w) result on
decides H legal v (OpenDay branch day) result changes w on = decided H _ _ _ _ (open_day_meets H (legal-Invariant H legal) branch day v w) result on
decides H legal v (Kind kind loans holds debt) result changes w on = decided H _ _ _ _ (kind_meets H kind loans holds debt) result on
decides H legal v (Rule kind copy_kind period renewals rate cap) result changes w on =
    decided H _ _ _ _ (rule_meets H kind copy_kind period renewals rate cap v.kind w) result on
decides H legal v (Grace kind copy_kind days) result changes w on = decided H _ _ _ _ (grace_meets H kind copy_kind days v.rule w) result on
decides H legal v (Patron patron kind card_key name) result changes w on =
    decided H _ _ _ _ (patron_meets H (legal-Invariant H legal) patron kind card_key name v w) result on
decides H legal v (Acquire copy title kind home price text) result changes w on =
    decided H _ _ _ _ (acquire_meets H (legal-Invariant H legal) copy title kind home price text v w) result on
decides H legal v (SetCardKey patron card_key) result changes w on = decided H _ _ _ _ (card_key_meets H patron card_key v.patron w) result on
decides H legal v (AmendPatron patron kind name) result changes w on = decided H _ _ _ _ (amend_patron_meets H patron kind name v w) result on
decides H legal v (AmendBranch branch pickup name) result changes w on = decided H _ _ _ _ (amend_branch_meets H branch pickup name v.branch w) result on
decides H legal v (AmendTitle title text) result changes w on = decided H _ _ _ _ (amend_title_meets H title text v.title w) result on
decides H legal v (AmendCopy copy kind price) result changes w on = decided H _ _ _ _ (amend_copy_meets H copy kind price v.copy w) result on
decides H legal v (Rehome copy branch) result changes w on = decided H _ _ _ _ (rehome_meets H (legal-Invariant H legal) copy branch v w) result on
decides H legal v (CopyBarcode copy barcode) result changes w on = decided H _ _ _ _ (copy_barcode_meets H legal barcode copy v w) result on
decides H legal v (PatronBarcode patron barcode) result changes w on = decided H _ _ _ _ (patron_barcode_meets H legal barcode patron v w) result on
decides H legal v (DropBarcode barcode) result changes w on = decided H _ _ _ _ (drop_barcode_meets H legal barcode v w) result on
decides H legal v (CheckOut patron copy branch) result changes w on = decided H _ _ _ _ (check_out_meets H (legal-Invariant H legal) patron copy branch v w) result on
decides H legal v (CheckIn copy branch) result changes w on = decided H _ _ _ _ (check_in_meets H legal copy branch v w) result on
decides H legal v (Renew loan) result changes w on = decided H _ _ _ _ (renew_meets H legal (legal-Invariant H legal) loan v w) result on
decides H legal v (PlaceHold patron title branch first_day) result changes w on =
    decided H _ _ _ _ (place_hold_meets H (legal-Invariant H legal) patron title branch first_day v w) result on
decides H legal v (CancelHold hold) result changes w on = decided H _ _ _ _ (cancel_hold_meets H (legal-Invariant H legal) hold v w) result on
decides H legal v (Unshelve hold) result changes w on = decided H _ _ _ _ (unshelve_meets H legal hold v w) result on
decides H legal v (UnshelveCancelled hold) result changes w on = decided H _ _ _ _ (unshelve_cancelled_meets H legal hold v w) result on
decides H legal v (Missing copy) result changes w on = decided H _ _ _ _ (missing_meets H legal (legal-Invariant H legal) copy v w) result on
decides H legal v (Withdraw copy) result changes w on = decided H _ _ _ _ (withdraw_meets H (legal-Invariant H legal) copy v w) result on
decides H legal v (Pay patron amount) result changes w on = decided H _ _ _ _ (pay_meets H patron v w amount) result on
decides H legal v (Waive patron amount) result changes w on = decided H _ _ _ _ (waive_meets H patron v w amount) result on
decides H legal v (Charge patron amount branch text) result changes w on =
    decided H _ _ _ _ (charge_meets H patron branch v w (legal-Invariant H legal) text amount) result on
decides H legal v (PayAt patron amount branch) result changes w on = decided H _ _ _ _ (pay_at_meets H patron branch v w amount) result on
decides H legal v (Page patron) result changes w on = decided H _ _ _ _ (page_meets H patron v.patron w) result on
decides H legal v (Ask question) result changes w on = let never : ⊥ = cc in absurd never
