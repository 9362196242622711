-- The limits of a stored row, beside its columns.
use Rattle.std.specs.Prelude.{◌≡◌, ◌≤◌, ℕ, true, false, List, length, Some, IfSome, IsUtf8}
use Rattle.calendar.specs.Days.{IsDayNumber}
use Rattle.calendar.specs.Openings.{AreWeekdays, has_day, has_repeat}
use Rattle.calendar.specs.declared.limits.TheConstants.{MOST_CLOSED_DAYS}
use Rattle.terms.specs.Forms.{IsName, is_card_key, is_barcode, IsKey}
use Rattle.terms.specs.Texts.{reply_text}
use Rattle.terms.specs.Laws.{IsAmount, IsKept}
use Rattle.terms.specs.Pictures.{Picture}
use Rattle.terms.specs.declared.limits.TheConstants.{LAST_SMALL_NUMBER, LAST_LARGE_NUMBER, LAST_NUMBER, LAST_NEXT_NUMBER, LONGEST_PERIOD}
use Rattle.terms.specs.declared.limits.TheConstants.{LONGEST_PICKUP, MOST_RENEWALS, MOST_GRACE, MOST_ALLOWED, HIGHEST_RATE, HIGHEST_CAP}
use Rattle.terms.specs.declared.limits.TheConstants.{HIGHEST_PRICE, HIGHEST_DEBT}
use Rattle.terms.specs.declared.reply.Reply.{Reply}
use Rattle.terms.specs.declared.command.Owner.{Owner}
use Rattle.terms.specs.declared.command.Owner.TheVariants.{Desk, Patron}
use Rattle.terms.specs.declared.row.MetaRow.{MetaRow}
use Rattle.terms.specs.declared.row.BranchRow.{BranchRow}
use Rattle.terms.specs.declared.row.KindRow.{KindRow}
use Rattle.terms.specs.declared.row.RuleRow.{RuleRow}
use Rattle.terms.specs.declared.row.RuleRow1.{RuleRow1}
use Rattle.terms.specs.declared.row.PatronRow.{PatronRow}
use Rattle.terms.specs.declared.row.TitleRow.{TitleRow}
use Rattle.terms.specs.declared.row.CopyRow.{CopyRow}
use Rattle.terms.specs.declared.row.LoanRow.{LoanRow}
use Rattle.terms.specs.declared.row.LoanRow1.{LoanRow1}
use Rattle.terms.specs.declared.row.HoldRow.{HoldRow}
use Rattle.terms.specs.declared.row.HoldRow1.{HoldRow1}
use Rattle.terms.specs.declared.row.TransitRow.{TransitRow}
use Rattle.terms.specs.declared.row.LineRow.{LineRow}
use Rattle.terms.specs.declared.row.KeptRow.{KeptRow}
use Rattle.terms.specs.declared.row.Thing.{Thing}
use Rattle.terms.specs.declared.row.Thing.TheVariants as thing
use Rattle.terms.specs.declared.row.BarcodeRow.{BarcodeRow}
use Rattle.terms.specs.declared.row.NoteRow.{NoteRow}

-- a branch or a kind; a patron, a title or a copy; a loan, a hold or a line
abbrev pub IsSmall : ℕ → Type 0
IsSmall n = (1 ≤ n) × (n ≤ LAST_SMALL_NUMBER)

abbrev pub IsLarge : ℕ → Type 0
IsLarge n = (1 ≤ n) × (n ≤ LAST_LARGE_NUMBER)

abbrev pub IsGiven : ℕ → Type 0
IsGiven n = (1 ≤ n) × (n ≤ LAST_NUMBER)

-- the next number to be given, which may be past the last
abbrev pub IsNext : ℕ → Type 0
IsNext n = (1 ≤ n) × (n ≤ LAST_NEXT_NUMBER)

abbrev pub IsPeriod : ℕ → Type 0
IsPeriod n = (1 ≤ n) × (n ≤ LONGEST_PERIOD)

-- the desk, or a patron
abbrev pub IsOwner : Owner → Type 0
IsOwner Desk = Unit {0}
IsOwner (Patron patron) = IsLarge patron

abbrev pub IsMeta : MetaRow → Type 0
IsMeta r = (r.schema ≤ 4294967295) × IsDayNumber r.today × IsNext r.next_loan × IsNext r.next_hold × IsNext r.next_line

abbrev pub IsBranch : BranchRow → Type 0
IsBranch r = IsSmall r.branch × (r.pickup ≤ LONGEST_PICKUP) × AreWeekdays r.week × IsName r.name

abbrev pub IsKind : KindRow → Type 0
IsKind r = IsSmall r.kind × (r.loans ≤ MOST_ALLOWED) × (r.holds ≤ MOST_ALLOWED) × (r.debt ≤ HIGHEST_DEBT)

abbrev pub IsRule : RuleRow → Type 0
IsRule r = IsSmall r.kind × IsSmall r.copy_kind × IsPeriod r.period × (r.renewals ≤ MOST_RENEWALS) × (r.rate ≤ HIGHEST_RATE)
    × (r.cap ≤ HIGHEST_CAP) × (r.grace ≤ MOST_GRACE)

abbrev pub IsRule1 : RuleRow1 → Type 0
IsRule1 r = IsSmall r.kind × IsSmall r.copy_kind × IsPeriod r.period × (r.renewals ≤ MOST_RENEWALS) × (r.rate ≤ HIGHEST_RATE) × (r.cap ≤ HIGHEST_CAP)

abbrev pub IsPatron : PatronRow → Type 0
IsPatron r = IsLarge r.patron × IsSmall r.kind × (is_card_key r.card_key ≡ true) × IsName r.name × IsAmount r.owed

abbrev pub IsTitle : TitleRow → Type 0
IsTitle r = IsLarge r.title × IsName r.text

abbrev pub IsCopy : CopyRow → Type 0
IsCopy r = IsLarge r.copy × IsLarge r.title × IsSmall r.kind × IsSmall r.home × (r.price ≤ HIGHEST_PRICE)

abbrev pub IsLoan : LoanRow → Type 0
IsLoan r =
    IsGiven r.loan × IsLarge r.copy × IsLarge r.patron × IsSmall r.branch × IsDayNumber r.made × IsDayNumber r.due × IsPeriod r.period
    × (r.renewals_left ≤ MOST_RENEWALS) × (r.rate ≤ HIGHEST_RATE) × (r.cap ≤ HIGHEST_CAP) × IfSome r.ended IsDayNumber × (r.grace ≤ MOST_GRACE)

abbrev pub IsLoan1 : LoanRow1 → Type 0
IsLoan1 r =
    IsGiven r.loan × IsLarge r.copy × IsLarge r.patron × IsSmall r.branch × IsDayNumber r.made × IsDayNumber r.due × IsPeriod r.period
    × (r.renewals_left ≤ MOST_RENEWALS) × (r.rate ≤ HIGHEST_RATE) × (r.cap ≤ HIGHEST_CAP) × IfSome r.ended IsDayNumber

abbrev pub IsHold : HoldRow → Type 0
IsHold r = IsGiven r.hold × IsLarge r.patron × IsLarge r.title × IsSmall r.branch × IfSome r.copy IsLarge × IfSome r.limit_day IsDayNumber
    × IfSome r.first_day IsDayNumber

abbrev pub IsHold1 : HoldRow1 → Type 0
IsHold1 r = IsGiven r.hold × IsLarge r.patron × IsLarge r.title × IsSmall r.branch × IfSome r.copy IsLarge × IfSome r.limit_day IsDayNumber

abbrev pub IsTransit : TransitRow → Type 0
IsTransit r = IsLarge r.copy × IsSmall r.goal × IfSome r.hold IsGiven

abbrev pub IsLine : LineRow → Type 0
IsLine r = IsGiven r.line × IsLarge r.patron × IsDayNumber r.day × IsAmount r.amount × IfSome r.loan IsGiven

-- the text of a request, and that of a reply that can be kept
abbrev pub IsKeptRow : KeptRow → Type 0
IsKeptRow r = IsOwner r.caller × IsKey r.key × IsUtf8 r.text × ((reply : Reply) × IsKept reply × (r.reply ≡ reply_text reply))

-- a patron or a copy
abbrev pub IsThing : Thing → Type 0
IsThing (thing.Patron patron) = IsLarge patron
IsThing (thing.Copy copy) = IsLarge copy

abbrev pub IsBarcode : BarcodeRow → Type 0
IsBarcode r = IsThing r.thing × (is_barcode r.barcode ≡ true)

abbrev pub IsNote : NoteRow → Type 0
IsNote r = IsGiven r.line × IsSmall r.branch × IfSome r.text IsName

-- Each row of the tables stands under its own key and is within its limits.
pub record InLimits (P : Picture) : Type 0 where
  pub meta : IsMeta P.meta
  pub branches : (b : ℕ) (r : BranchRow) → P.branches b ≡ Some r → (r.branch ≡ b) × IsBranch r
  pub closed_days : (b d : ℕ) → P.closed_days b d ≡ true → IsSmall b × IsDayNumber d
  pub kinds : (k : ℕ) (r : KindRow) → P.kinds k ≡ Some r → (r.kind ≡ k) × IsKind r
  pub rules : (k c : ℕ) (r : RuleRow) → P.rules k c ≡ Some r → (r.kind ≡ k) × (r.copy_kind ≡ c) × IsRule r
  pub rules1 : (k c : ℕ) (r : RuleRow1) → P.rules1 k c ≡ Some r → (r.kind ≡ k) × (r.copy_kind ≡ c) × IsRule1 r
  pub patrons : (p : ℕ) (r : PatronRow) → P.patrons p ≡ Some r → (r.patron ≡ p) × IsPatron r
  pub titles : (t : ℕ) (r : TitleRow) → P.titles t ≡ Some r → (r.title ≡ t) × IsTitle r
  pub copies : (c : ℕ) (r : CopyRow) → P.copies c ≡ Some r → (r.copy ≡ c) × IsCopy r
  pub loans : (l : ℕ) (r : LoanRow) → P.loans l ≡ Some r → (r.loan ≡ l) × IsLoan r
  pub loans1 : (l : ℕ) (r : LoanRow1) → P.loans1 l ≡ Some r → (r.loan ≡ l) × IsLoan1 r
  pub holds : (h : ℕ) (r : HoldRow) → P.holds h ≡ Some r → (r.hold ≡ h) × IsHold r
  pub holds1 : (h : ℕ) (r : HoldRow1) → P.holds1 h ≡ Some r → (r.hold ≡ h) × IsHold1 r
  pub transits : (c : ℕ) (r : TransitRow) → P.transits c ≡ Some r → (r.copy ≡ c) × IsTransit r
  pub lines : (n : ℕ) (r : LineRow) → P.lines n ≡ Some r → (r.line ≡ n) × IsLine r
  pub kept : (o : Owner) (k : List ℕ) (r : KeptRow) → P.kept o k ≡ Some r → (r.caller ≡ o) × (r.key ≡ k) × IsKeptRow r
  pub barcodes : (t : Thing) (r : BarcodeRow) → P.barcodes t ≡ Some r → (r.thing ≡ t) × IsBarcode r
  pub notes : (n : ℕ) (r : NoteRow) → P.notes n ≡ Some r → (r.line ≡ n) × IsNote r

-- No branch has more single closed days than allowed.
abbrev pub ClosesFewDays : Picture → Type 0
ClosesFewDays P = (branch : ℕ) (days : List ℕ) → has_repeat days ≡ false → ((d : ℕ) → has_day days d ≡ P.closed_days branch d) → length days ≤ MOST_CLOSED_DAYS
