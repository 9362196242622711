-- The table rows that a view holds for a command.
use Rattle.std.specs.Prelude.{◌≡◌, ◌⊎◌, ℕ, ◌≤◌, ◌==◌, true, List, length, Option, Some, None, option_and_then, false, IfSome}
use Rattle.std.specs.List.{list_any, IsDistinct}
use Rattle.calendar.specs.declared.limits.TheConstants.{FIRST_DAY}
use Rattle.calendar.specs.Openings.{Closings, AreWeekdays, has_day, has_repeat}
use Rattle.terms.specs.declared.row.BranchRow.{BranchRow}
use Rattle.terms.specs.declared.row.PatronRow.{PatronRow}
use Rattle.terms.specs.declared.row.KindRow.{KindRow}
use Rattle.terms.specs.declared.row.RuleRow.{RuleRow}
use Rattle.terms.specs.declared.row.CopyRow.{CopyRow}
use Rattle.terms.specs.declared.row.LoanRow.{LoanRow}
use Rattle.terms.specs.declared.row.HoldRow.{HoldRow}
use Rattle.terms.specs.declared.row.HoldState.TheVariants.{Waiting, Ready}
use Rattle.terms.specs.declared.row.TransitRow.{TransitRow}
use Rattle.terms.specs.declared.command.Command.{Command}
use Rattle.terms.specs.declared.command.Command.TheVariants.{BeginDay, Branch, Week, Kind, Rule, Grace, Patron, Acquire, CheckOut, CheckIn}
use Rattle.terms.specs.declared.command.Command.TheVariants.{SetCardKey, AmendPatron, AmendBranch, AmendTitle, AmendCopy, Rehome}
use Rattle.terms.specs.declared.command.Command.TheVariants.{Renew, PlaceHold, CancelHold, Unshelve, UnshelveCancelled, Missing, Withdraw}
use Rattle.terms.specs.declared.command.Command.TheVariants.{CloseDay, OpenDay, Pay, Waive, Page, Ask}
use Rattle.terms.specs.declared.command.Command.TheVariants.{CopyBarcode, PatronBarcode, DropBarcode, Charge, PayAt}
use Rattle.terms.specs.declared.row.Thing.{Thing}
use Rattle.terms.specs.declared.row.BarcodeRow.{BarcodeRow}
use Rattle.terms.specs.Pictures.{Picture}
use Rattle.model.specs.History.{has_begun}
use Rattle.circ_core.specs.declared.views.View.{View}

-- ---- rows found by search

-- These are the closed days of the branch, which exists.
pub record AreBranchClosings (P : Picture) (branch : ℕ) (closings : Closings) : Type 0 where
  pub row : BranchRow
  pub there : P.branches branch ≡ Some row
  pub weekly : closings.weekly ≡ row.week
  pub weekdays : AreWeekdays closings.weekly
  pub single : (day : ℕ) → has_day closings.single day ≡ P.closed_days branch day

-- The calendar of the branch, or none if the branch doesn't exist.
abbrev pub IsCalendarOf : Picture → ℕ → Option Closings → Type 0
IsCalendarOf P branch (Some closings) = AreBranchClosings P branch closings
IsCalendarOf P branch None = P.branches branch ≡ None

-- An open loan of the copy, or none if it has none.
abbrev pub IsLoanOf : Picture → ℕ → Option LoanRow → Type 0
IsLoanOf P copy (Some row) = (P.loans row.loan ≡ Some row) × (row.copy ≡ copy) × (row.ended ≡ None)
IsLoanOf P copy None = (l : ℕ) (r : LoanRow) → P.loans l ≡ Some r → r.copy ≡ copy → r.ended ≡ None → ⊥

-- A hold that names the copy, or none if none does.
abbrev pub IsHoldOf : Picture → ℕ → Option HoldRow → Type 0
IsHoldOf P copy (Some row) = (P.holds row.hold ≡ Some row) × (row.copy ≡ Some copy)
IsHoldOf P copy None = (h : ℕ) (r : HoldRow) → P.holds h ≡ Some r → r.copy ≡ Some copy → ⊥

-- A transit for the hold, or none if no copy travels for it.
abbrev pub IsTravelFor : Picture → ℕ → Option TransitRow → Type 0
IsTravelFor P hold (Some row) = (P.transits row.copy ≡ Some row) × (row.hold ≡ Some hold)
IsTravelFor P hold None = (c : ℕ) (x : TransitRow) → P.transits c ≡ Some x → x.hold ≡ Some hold → ⊥

-- The loan is an open one of the patron, of a copy of the title.
pub record LendsTitle (P : Picture) (patron title : ℕ) (loan : LoanRow) : Type 0 where
  pub by : loan.patron ≡ patron
  pub unended : loan.ended ≡ None
  pub copy : CopyRow
  pub lent : P.copies loan.copy ≡ Some copy
  pub of_title : copy.title ≡ title

-- The patron's open loan of a copy of the title, or none if there is none.
abbrev pub IsLoanOfTitle : Picture → ℕ → ℕ → Option LoanRow → Type 0
IsLoanOfTitle P patron title (Some row) = (P.loans row.loan ≡ Some row) × LendsTitle P patron title row
IsLoanOfTitle P patron title None = (l : ℕ) (r : LoanRow) → P.loans l ≡ Some r → LendsTitle P patron title r → ⊥

-- The hold waits for the title, its first day has come if it has one, and no transit names it.
pub record InLine (P : Picture) (title hold : ℕ) (row : HoldRow) : Type 0 where
  pub there : P.holds hold ≡ Some row
  pub on_title : row.title ≡ title
  pub waits : row.state ≡ Waiting
  pub begun : has_begun P.meta.today row.first_day ≡ true
  pub alone : (c : ℕ) (x : TransitRow) → P.transits c ≡ Some x → x.hold ≡ Some hold → ⊥

-- The lowest-numbered hold in line for the title, or none if nobody is in line.
abbrev pub IsFirstOf : Picture → ℕ → Option HoldRow → Type 0
IsFirstOf P title (Some row) = InLine P title row.hold row × ((h : ℕ) (r : HoldRow) → InLine P title h r → row.hold ≤ h)
IsFirstOf P title None = (h : ℕ) (r : HoldRow) → InLine P title h r → ⊥

-- The copy or the patron that has the barcode, or none if nothing has it.
abbrev pub IsThingOf : Picture → List ℕ → Option Thing → Type 0
IsThingOf P barcode (Some thing) = P.barcodes thing ≡ Some (record { thing = thing; barcode = barcode })
IsThingOf P barcode None = (t : Thing) (r : BarcodeRow) → P.barcodes t ≡ Some r → r.barcode ≡ barcode → ⊥

-- ---- rows that are counted

-- The number of keys that pass: the length of a list that has each of them once.
pub record IsCount (passes : ℕ → Type 0) (n : ℕ) : Type 0 where
  pub keys : List ℕ
  pub once : IsDistinct ◌==◌ keys
  pub sound : (k : ℕ) → list_any (◌==◌ k) keys ≡ true → passes k
  pub whole : (k : ℕ) → passes k → list_any (◌==◌ k) keys ≡ true
  pub count : length keys ≡ n

-- An open loan of the patron.
abbrev pub IsOpenBy : Picture → ℕ → ℕ → Type 0
IsOpenBy P patron loan = (r : LoanRow) × (P.loans loan ≡ Some r) × (r.patron ≡ patron) × (r.ended ≡ None)

-- A waiting or ready hold of the patron.
abbrev pub IsActiveBy : Picture → ℕ → ℕ → Type 0
IsActiveBy P patron hold = (r : HoldRow) × (P.holds hold ≡ Some r) × (r.patron ≡ patron) × ((r.state ≡ Waiting) ⊎ (r.state ≡ Ready))

-- A waiting or ready hold of the patron on the title.
abbrev pub IsActiveOn : Picture → ℕ → ℕ → ℕ → Type 0
IsActiveOn P patron title hold =
    (r : HoldRow) × (P.holds hold ≡ Some r) × (r.patron ≡ patron) × (r.title ≡ title) × ((r.state ≡ Waiting) ⊎ (r.state ≡ Ready))

-- ---- rows that are found by another row

-- The rule for the kinds of a patron and a copy.
abbrev pub rule_in : Picture → Option PatronRow → Option CopyRow → Option RuleRow
rule_in P (Some patron) (Some copy) = P.rules patron.kind copy.kind
rule_in P _ _ = None

-- The first in line for the copy's title; without a copy there is none.
abbrev pub IsFirstFor : Picture → Option CopyRow → Option HoldRow → Type 0
IsFirstFor P (Some copy) first = IsFirstOf P copy.title first
IsFirstFor P None first = first ≡ None

-- The number of active holds that the patron has on the copy's title; 0 without a copy.
abbrev pub AreHoldsFor : Picture → ℕ → Option CopyRow → ℕ → Type 0
AreHoldsFor P patron (Some copy) n = IsCount (IsActiveOn P patron copy.title) n
AreHoldsFor P patron None n = n ≡ 0

-- The patron's current kind.
abbrev pub kind_in : Picture → Option PatronRow → Option KindRow
kind_in P patron = option_and_then (λ r. P.kinds r.kind) patron

-- The lent copy.
abbrev pub copy_in : Picture → Option LoanRow → Option CopyRow
copy_in P loan = option_and_then (λ r. P.copies r.copy) loan

-- The borrower.
abbrev pub borrower_in : Picture → Option LoanRow → Option PatronRow
borrower_in P loan = option_and_then (λ r. P.patrons r.patron) loan

-- The copy that the hold names.
abbrev pub named_copy_in : Picture → Option HoldRow → Option CopyRow
named_copy_in P hold = option_and_then (λ r. option_and_then P.copies r.copy) hold

-- The hold that the copy travels for.
abbrev pub coming_in : Picture → Option TransitRow → Option HoldRow
coming_in P transit = option_and_then (λ r. option_and_then P.holds r.hold) transit

-- The calendar of the branch that made the loan; none without a loan.
abbrev pub IsLenderOf : Picture → Option LoanRow → Option Closings → Type 0
IsLenderOf P (Some loan) calendar = IsCalendarOf P loan.branch calendar
IsLenderOf P None calendar = calendar ≡ None

-- ---- the views

-- The view with no rows and zero counts.
unfoldable pub empty_view : View
empty_view = record {
  meta = record { schema = 0; today = FIRST_DAY; next_loan = 0; next_hold = 0; next_line = 0 };
  branch = None;
  calendar = None;
  kind = None;
  rule = None;
  patron = None;
  title = None;
  copy = None;
  loan = None;
  lender = None;
  transit = None;
  hold = None;
  coming = None;
  first = None;
  labelled = None;
  open_loans = 0;
  own_holds = 0;
  active_holds = 0;
}

-- The kind that is named, and the patron.
pub record IsPatronView (P : Picture) (p k : ℕ) (rows : View) : Type 0 where
  pub kind : rows.kind ≡ P.kinds k
  pub patron : rows.patron ≡ P.patrons p

-- The home branch, the title and the copy.
pub record IsAcquireView (P : Picture) (c t b : ℕ) (rows : View) : Type 0 where
  pub home : rows.branch ≡ P.branches b
  pub title : rows.title ≡ P.titles t
  pub copy : rows.copy ≡ P.copies c

-- The copy, and the rows that claim it.
pub record IsCopyView (P : Picture) (c : ℕ) (rows : View) : Type 0 where
  pub copy : rows.copy ≡ P.copies c
  pub loan : IsLoanOf P c rows.loan
  pub transit : rows.transit ≡ P.transits c
  pub hold : IsHoldOf P c rows.hold

-- The new home, the copy, and the rows that claim it.
pub record IsRehomeView (P : Picture) (c b : ℕ) (rows : View) : Type 0 where
  pub home : rows.branch ≡ P.branches b
  pub at : IsCopyView P c rows

-- The rows that a check-out needs.
pub record IsCheckOutView (P : Picture) (p c b : ℕ) (rows : View) : Type 0 where
  pub meta : rows.meta ≡ P.meta
  pub calendar : IsCalendarOf P b rows.calendar
  pub patron : rows.patron ≡ P.patrons p
  pub kind : rows.kind ≡ kind_in P rows.patron
  pub rule : rows.rule ≡ rule_in P rows.patron rows.copy
  pub at : IsCopyView P c rows
  pub first : IsFirstFor P rows.copy rows.first
  pub open_loans : IsCount (IsOpenBy P p) rows.open_loans
  pub own_holds : AreHoldsFor P p rows.copy rows.own_holds

-- The branch's calendar, with each single day once.
pub record IsClosedDayView (P : Picture) (b : ℕ) (rows : View) : Type 0 where
  pub meta : rows.meta ≡ P.meta
  pub calendar : IsCalendarOf P b rows.calendar
  pub once : IfSome rows.calendar (λ closings. has_repeat closings.single ≡ false)

-- The patron, and the next numbers.
pub record IsAccountView (P : Picture) (p : ℕ) (rows : View) : Type 0 where
  pub meta : rows.meta ≡ P.meta
  pub patron : rows.patron ≡ P.patrons p

-- The patron, the branch and the next numbers.
pub record IsCounterView (P : Picture) (p b : ℕ) (rows : View) : Type 0 where
  pub meta : rows.meta ≡ P.meta
  pub patron : rows.patron ≡ P.patrons p
  pub branch : rows.branch ≡ P.branches b

-- The copy, and what has the barcode.
pub record IsCopyBarcodeView (P : Picture) (c : ℕ) (barcode : List ℕ) (rows : View) : Type 0 where
  pub copy : rows.copy ≡ P.copies c
  pub labelled : IsThingOf P barcode rows.labelled

-- The patron, and what has the barcode.
pub record IsPatronBarcodeView (P : Picture) (p : ℕ) (barcode : List ℕ) (rows : View) : Type 0 where
  pub patron : rows.patron ≡ P.patrons p
  pub labelled : IsThingOf P barcode rows.labelled

-- The rows that a renewal needs.
pub record IsRenewView (P : Picture) (l : ℕ) (rows : View) : Type 0 where
  pub meta : rows.meta ≡ P.meta
  pub loan : rows.loan ≡ P.loans l
  pub copy : rows.copy ≡ copy_in P rows.loan
  pub first : IsFirstFor P rows.copy rows.first
  pub patron : rows.patron ≡ borrower_in P rows.loan
  pub kind : rows.kind ≡ kind_in P rows.patron
  pub calendar : IsLenderOf P rows.loan rows.lender

-- The rows that a new hold needs.
pub record IsPlaceHoldView (P : Picture) (p t b : ℕ) (rows : View) : Type 0 where
  pub meta : rows.meta ≡ P.meta
  pub patron : rows.patron ≡ P.patrons p
  pub kind : rows.kind ≡ kind_in P rows.patron
  pub title : rows.title ≡ P.titles t
  pub branch : rows.branch ≡ P.branches b
  pub own_holds : IsCount (IsActiveOn P p t) rows.own_holds
  pub loan : IsLoanOfTitle P p t rows.loan
  pub active_holds : IsCount (IsActiveBy P p) rows.active_holds

-- The hold, and the transit for it.
pub record IsCancelHoldView (P : Picture) (h : ℕ) (rows : View) : Type 0 where
  pub hold : rows.hold ≡ P.holds h
  pub transit : IsTravelFor P h rows.transit

-- The branch and its calendar.
pub record IsBranchView (P : Picture) (b : ℕ) (row : Option BranchRow) (closings : Option Closings) : Type 0 where
  pub branch : row ≡ P.branches b
  pub calendar : IsCalendarOf P b closings

-- The pick-up branch of the hold; none without a hold.
abbrev pub IsPickupView : Picture → Option HoldRow → Option BranchRow → Option Closings → Type 0
IsPickupView P (Some hold) row closings = IsBranchView P hold.branch row closings
IsPickupView P None row closings = (row ≡ None) × (closings ≡ None)

-- The lending branch's calendar and the borrower of the loan, if any.
pub record IsLenderView (P : Picture) (loan : Option LoanRow) (rows : View) : Type 0 where
  pub calendar : IsLenderOf P loan rows.lender
  pub patron : rows.patron ≡ borrower_in P loan

-- The rows that a check-in needs.
pub record IsCheckInView (P : Picture) (c b : ℕ) (rows : View) : Type 0 where
  pub meta : rows.meta ≡ P.meta
  pub here : IsBranchView P b rows.branch rows.calendar
  pub at : IsCopyView P c rows
  pub lender : IsLenderView P rows.loan rows
  pub coming : rows.coming ≡ coming_in P rows.transit
  pub first : IsFirstFor P rows.copy rows.first

-- The rows that unshelving needs.
pub record IsUnshelveView (P : Picture) (h : ℕ) (rows : View) : Type 0 where
  pub meta : rows.meta ≡ P.meta
  pub hold : rows.hold ≡ P.holds h
  pub copy : rows.copy ≡ named_copy_in P rows.hold
  pub here : IsPickupView P rows.hold rows.branch rows.calendar
  pub first : IsFirstFor P rows.copy rows.first

-- The rows that declaring a copy missing needs.
pub record IsMissingView (P : Picture) (c : ℕ) (rows : View) : Type 0 where
  pub meta : rows.meta ≡ P.meta
  pub at : IsCopyView P c rows
  pub lender : IsLenderView P rows.loan rows

-- The view holds the rows of the tables that the command needs.
abbrev pub IsViewOf : Picture → Command → View → Type 0
IsViewOf P (BeginDay day) rows = rows.meta ≡ P.meta
IsViewOf P (Branch branch pickup name) rows = rows.branch ≡ P.branches branch
IsViewOf P (Week branch week) rows = rows.branch ≡ P.branches branch
IsViewOf P (CloseDay branch day) rows = IsClosedDayView P branch rows
IsViewOf P (OpenDay branch day) rows = IsClosedDayView P branch rows
IsViewOf P (Kind kind loans holds debt) rows = Unit {0}
IsViewOf P (Rule kind copy_kind period renewals rate cap) rows = rows.kind ≡ P.kinds kind
IsViewOf P (Grace kind copy_kind days) rows = rows.rule ≡ P.rules kind copy_kind
IsViewOf P (Patron patron kind card_key name) rows = IsPatronView P patron kind rows
IsViewOf P (Acquire copy title kind home price text) rows = IsAcquireView P copy title home rows
IsViewOf P (SetCardKey patron card_key) rows = rows.patron ≡ P.patrons patron
IsViewOf P (AmendPatron patron kind name) rows = IsPatronView P patron kind rows
IsViewOf P (AmendBranch branch pickup name) rows = rows.branch ≡ P.branches branch
IsViewOf P (AmendTitle title text) rows = rows.title ≡ P.titles title
IsViewOf P (AmendCopy copy kind price) rows = rows.copy ≡ P.copies copy
IsViewOf P (Rehome copy branch) rows = IsRehomeView P copy branch rows
IsViewOf P (CopyBarcode copy barcode) rows = IsCopyBarcodeView P copy barcode rows
IsViewOf P (PatronBarcode patron barcode) rows = IsPatronBarcodeView P patron barcode rows
IsViewOf P (DropBarcode barcode) rows = IsThingOf P barcode rows.labelled
IsViewOf P (CheckOut patron copy branch) rows = IsCheckOutView P patron copy branch rows
IsViewOf P (CheckIn copy branch) rows = IsCheckInView P copy branch rows
IsViewOf P (Renew loan) rows = IsRenewView P loan rows
IsViewOf P (PlaceHold patron title branch first_day) rows = IsPlaceHoldView P patron title branch rows
IsViewOf P (CancelHold hold) rows = IsCancelHoldView P hold rows
IsViewOf P (Unshelve hold) rows = IsUnshelveView P hold rows
IsViewOf P (UnshelveCancelled hold) rows = IsUnshelveView P hold rows
IsViewOf P (Missing copy) rows = IsMissingView P copy rows
IsViewOf P (Withdraw copy) rows = IsCopyView P copy rows
IsViewOf P (Pay patron amount) rows = IsAccountView P patron rows
IsViewOf P (Waive patron amount) rows = IsAccountView P patron rows
IsViewOf P (Charge patron amount branch text) rows = IsCounterView P patron branch rows
IsViewOf P (PayAt patron amount branch) rows = IsCounterView P patron branch rows
IsViewOf P (Page patron) rows = rows.patron ≡ P.patrons patron
IsViewOf P (Ask question) rows = Unit {0}

-- The view holds only what the command needs, whatever the tables are: every field not named here is as in
-- the empty view.
abbrev pub HasOnly : Command → View → Type 0
HasOnly (BeginDay day) rows = rows ≡ record empty_view { meta = rows.meta }
HasOnly (Branch branch pickup name) rows = rows ≡ record empty_view { branch = rows.branch }
HasOnly (Week branch week) rows = rows ≡ record empty_view { branch = rows.branch }
HasOnly (CloseDay branch day) rows = rows ≡ record empty_view { meta = rows.meta; calendar = rows.calendar }
HasOnly (OpenDay branch day) rows = rows ≡ record empty_view { meta = rows.meta; calendar = rows.calendar }
HasOnly (Kind kind loans holds debt) rows = rows ≡ empty_view
HasOnly (Rule kind copy_kind period renewals rate cap) rows = rows ≡ record empty_view { kind = rows.kind }
HasOnly (Grace kind copy_kind days) rows = rows ≡ record empty_view { rule = rows.rule }
HasOnly (Patron patron kind card_key name) rows = rows ≡ record empty_view { kind = rows.kind; patron = rows.patron }
HasOnly (Acquire copy title kind home price text) rows = rows ≡ record empty_view { branch = rows.branch; title = rows.title; copy = rows.copy }
HasOnly (SetCardKey patron card_key) rows = rows ≡ record empty_view { patron = rows.patron }
HasOnly (AmendPatron patron kind name) rows = rows ≡ record empty_view { kind = rows.kind; patron = rows.patron }
HasOnly (AmendBranch branch pickup name) rows = rows ≡ record empty_view { branch = rows.branch }
HasOnly (AmendTitle title text) rows = rows ≡ record empty_view { title = rows.title }
HasOnly (AmendCopy copy kind price) rows = rows ≡ record empty_view { copy = rows.copy }
HasOnly (Rehome copy branch) rows = rows ≡ record empty_view {
  branch = rows.branch;
  copy = rows.copy;
  loan = rows.loan;
  transit = rows.transit;
  hold = rows.hold;
}
HasOnly (CopyBarcode copy barcode) rows = rows ≡ record empty_view { copy = rows.copy; labelled = rows.labelled }
HasOnly (PatronBarcode patron barcode) rows = rows ≡ record empty_view { patron = rows.patron; labelled = rows.labelled }
HasOnly (DropBarcode barcode) rows = rows ≡ record empty_view { labelled = rows.labelled }
HasOnly (CheckOut patron copy branch) rows = rows ≡ record empty_view {
  meta = rows.meta;
  calendar = rows.calendar;
  patron = rows.patron;
  kind = rows.kind;
  rule = rows.rule;
  copy = rows.copy;
  loan = rows.loan;
  transit = rows.transit;
  hold = rows.hold;
  first = rows.first;
  open_loans = rows.open_loans;
  own_holds = rows.own_holds;
}
HasOnly (CheckIn copy branch) rows = rows ≡ record empty_view {
  meta = rows.meta;
  branch = rows.branch;
  calendar = rows.calendar;
  copy = rows.copy;
  loan = rows.loan;
  transit = rows.transit;
  hold = rows.hold;
  lender = rows.lender;
  patron = rows.patron;
  coming = rows.coming;
  first = rows.first;
}
HasOnly (Renew loan) rows = rows ≡ record empty_view {
  meta = rows.meta;
  loan = rows.loan;
  copy = rows.copy;
  first = rows.first;
  patron = rows.patron;
  kind = rows.kind;
  lender = rows.lender;
}
HasOnly (PlaceHold patron title branch first_day) rows = rows ≡ record empty_view {
  meta = rows.meta;
  patron = rows.patron;
  kind = rows.kind;
  title = rows.title;
  branch = rows.branch;
  own_holds = rows.own_holds;
  loan = rows.loan;
  active_holds = rows.active_holds;
}
HasOnly (CancelHold hold) rows = rows ≡ record empty_view { hold = rows.hold; transit = rows.transit }
HasOnly (Unshelve hold) rows = rows ≡ record empty_view {
  meta = rows.meta;
  hold = rows.hold;
  copy = rows.copy;
  branch = rows.branch;
  calendar = rows.calendar;
  first = rows.first;
}
HasOnly (UnshelveCancelled hold) rows = rows ≡ record empty_view {
  meta = rows.meta;
  hold = rows.hold;
  copy = rows.copy;
  branch = rows.branch;
  calendar = rows.calendar;
  first = rows.first;
}
HasOnly (Missing copy) rows = rows ≡ record empty_view {
  meta = rows.meta;
  copy = rows.copy;
  loan = rows.loan;
  transit = rows.transit;
  hold = rows.hold;
  lender = rows.lender;
  patron = rows.patron;
}
HasOnly (Withdraw copy) rows = rows ≡ record empty_view { copy = rows.copy; loan = rows.loan; transit = rows.transit; hold = rows.hold }
HasOnly (Pay patron amount) rows = rows ≡ record empty_view { meta = rows.meta; patron = rows.patron }
HasOnly (Waive patron amount) rows = rows ≡ record empty_view { meta = rows.meta; patron = rows.patron }
HasOnly (Charge patron amount branch text) rows = rows ≡ record empty_view { meta = rows.meta; patron = rows.patron; branch = rows.branch }
HasOnly (PayAt patron amount branch) rows = rows ≡ record empty_view { meta = rows.meta; patron = rows.patron; branch = rows.branch }
HasOnly (Page patron) rows = rows ≡ record empty_view { patron = rows.patron }
HasOnly (Ask question) rows = rows ≡ empty_view
