-- Request texts and reply texts: each has one spelling.
use Rattle.std.specs.Prelude.{ℕ, Bool, false, if◌then◌else◌, List, [], ◌∷◌, slice_index_or, codes, map, Some, None}
use Rattle.std.specs.Fmt.{decimal}
use Rattle.std.specs.List.{join_with_byte}
use Rattle.calendar.specs.Days.{day_text}
use Rattle.terms.specs.declared.command.Command.{Command}
use Rattle.terms.specs.declared.command.Command.TheVariants.{BeginDay, Branch, Week, CloseDay, OpenDay, Kind, Rule, Grace, Patron, Acquire}
use Rattle.terms.specs.declared.command.Command.TheVariants.{SetCardKey, AmendPatron, AmendBranch, AmendTitle, AmendCopy, Rehome}
use Rattle.terms.specs.declared.command.Command.TheVariants.{CopyBarcode, PatronBarcode, DropBarcode, Charge, PayAt}
use Rattle.terms.specs.declared.command.Command.TheVariants.{CheckOut, CheckIn, Renew, PlaceHold, CancelHold, Unshelve, UnshelveCancelled}
use Rattle.terms.specs.declared.command.Command.TheVariants.{Missing, Withdraw, Pay, Waive, Page, Ask}
use Rattle.terms.specs.declared.question.Question.{Question}
use Rattle.terms.specs.declared.question.Question.TheVariants as question
use Rattle.terms.specs.declared.refusal.Refusal.{Refusal}
use Rattle.terms.specs.declared.refusal.Refusal.TheVariants as refusal
use Rattle.terms.specs.declared.fault.Fault.{Fault}
use Rattle.terms.specs.declared.fault.Fault.TheVariants as fault
use Rattle.terms.specs.declared.fault.ServiceFault.{ServiceFault}
use Rattle.terms.specs.declared.fault.ServiceFault.TheVariants as service
use Rattle.terms.specs.declared.reply.Routed.{Routed}
use Rattle.terms.specs.declared.reply.Routed.TheVariants.{Shelf, HoldShelf, Transit}
use Rattle.terms.specs.declared.reply.Reply.{Reply}
use Rattle.terms.specs.declared.reply.Reply.TheVariants.{Done, Lent, CheckedIn, Held, Moved, Lost, Owed, Shown, Refused}

-- a weekday's letter: `c` if closed, `o` if open
abbrev pub weekday_letter : List Bool → ℕ → ℕ
weekday_letter closed weekday = if slice_index_or closed weekday false then 99 else 111

-- a week's mask: a letter for each of the seven weekdays, Monday first
abbrev pub mask_text : List Bool → List ℕ
mask_text closed =
    weekday_letter closed 0 ∷ weekday_letter closed 1 ∷ weekday_letter closed 2 ∷ weekday_letter closed 3
    ∷ weekday_letter closed 4 ∷ weekday_letter closed 5 ∷ weekday_letter closed 6 ∷ []

-- a part of a command: a number, an amount in cents, a day, a mask of closed weekdays, a card key, a barcode, a
-- name
pub data Part : Type 0 where
  Number : ℕ → Part
  Amount : ℕ → Part
  Day : ℕ → Part
  Mask : List Bool → Part
  CardKey : List ℕ → Part
  Barcode : List ℕ → Part
  Name : List ℕ → Part

-- the word that writes a part
abbrev pub word_of : Part → List ℕ
word_of (Number n) = decimal n
word_of (Amount n) = decimal n
word_of (Day n) = day_text n
word_of (Mask closed) = mask_text closed
word_of (CardKey t) = t
word_of (Barcode t) = t
word_of (Name t) = t

-- what a question says: its name, and its parts in order
abbrev pub questioned : Question → List ℕ × List Part
questioned (question.Copy copy) = (codes "copy", Number copy ∷ [])
questioned (question.Copies title after) = (codes "copies", Number title ∷ Number after ∷ [])
questioned (question.Queue title after) = (codes "queue", Number title ∷ Number after ∷ [])
questioned (question.Account patron after) = (codes "account", Number patron ∷ Number after ∷ [])
questioned (question.Debts after) = (codes "debts", Number after ∷ [])
questioned (question.Overdue branch after) = (codes "overdue", Number branch ∷ Number after ∷ [])
questioned (question.Shelf branch after) = (codes "shelf", Number branch ∷ Number after ∷ [])
questioned (question.Pulls branch after) = (codes "pulls", Number branch ∷ Number after ∷ [])
questioned (question.Transits branch after) = (codes "transits", Number branch ∷ Number after ∷ [])
questioned (question.Till day) = (codes "till", Day day ∷ [])
questioned question.Today = (codes "today", [])
questioned (question.Borrower patron) = (codes "borrower", Number patron ∷ [])
questioned (question.FindPatrons after text) = (codes "find-patrons", Number after ∷ Name text ∷ [])
questioned (question.FindTitles after text) = (codes "find-titles", Number after ∷ Name text ∷ [])
questioned (question.Branches after) = (codes "branches", Number after ∷ [])
questioned (question.ClosedDays branch after) = (codes "closed-days", Number branch ∷ Number after ∷ [])
questioned (question.Kinds after) = (codes "kinds", Number after ∷ [])
questioned (question.Rules kind after) = (codes "rules", Number kind ∷ Number after ∷ [])
questioned (question.MissingCopies after) = (codes "missing-copies", Number after ∷ [])
questioned (question.Loans copy after) = (codes "loans", Number copy ∷ Number after ∷ [])
questioned (question.FindBarcode barcode) = (codes "find-barcode", Barcode barcode ∷ [])
questioned (question.TillAt branch day) = (codes "till-at", Number branch ∷ Day day ∷ [])

-- what a command says: its name, and its parts in order
abbrev pub said : Command → List ℕ × List Part
said (BeginDay day) = (codes "begin-day", Day day ∷ [])
said (Branch branch pickup name) = (codes "branch", Number branch ∷ Number pickup ∷ Name name ∷ [])
said (Week branch week) = (codes "week", Number branch ∷ Mask week ∷ [])
said (CloseDay branch day) = (codes "close-day", Number branch ∷ Day day ∷ [])
said (OpenDay branch day) = (codes "open-day", Number branch ∷ Day day ∷ [])
said (Kind kind loans holds debt) = (codes "kind", Number kind ∷ Number loans ∷ Number holds ∷ Amount debt ∷ [])
said (Rule kind copy_kind period renewals rate cap) =
    (codes "rule", Number kind ∷ Number copy_kind ∷ Number period ∷ Number renewals ∷ Amount rate ∷ Amount cap ∷ [])
said (Grace kind copy_kind days) = (codes "grace", Number kind ∷ Number copy_kind ∷ Number days ∷ [])
said (Patron patron kind card_key name) = (codes "patron", Number patron ∷ Number kind ∷ CardKey card_key ∷ Name name ∷ [])
said (Acquire copy title kind home price text) = (codes "acquire", Number copy ∷ Number title ∷ Number kind ∷ Number home ∷ Amount price ∷ Name text ∷ [])
said (SetCardKey patron card_key) = (codes "card-key", Number patron ∷ CardKey card_key ∷ [])
said (AmendPatron patron kind name) = (codes "amend-patron", Number patron ∷ Number kind ∷ Name name ∷ [])
said (AmendBranch branch pickup name) = (codes "amend-branch", Number branch ∷ Number pickup ∷ Name name ∷ [])
said (AmendTitle title text) = (codes "amend-title", Number title ∷ Name text ∷ [])
said (AmendCopy copy kind price) = (codes "amend-copy", Number copy ∷ Number kind ∷ Amount price ∷ [])
said (Rehome copy branch) = (codes "rehome", Number copy ∷ Number branch ∷ [])
said (CopyBarcode copy barcode) = (codes "copy-barcode", Number copy ∷ Barcode barcode ∷ [])
said (PatronBarcode patron barcode) = (codes "patron-barcode", Number patron ∷ Barcode barcode ∷ [])
said (DropBarcode barcode) = (codes "drop-barcode", Barcode barcode ∷ [])
said (CheckOut patron copy branch) = (codes "check-out", Number patron ∷ Number copy ∷ Number branch ∷ [])
said (CheckIn copy branch) = (codes "check-in", Number copy ∷ Number branch ∷ [])
said (Renew loan) = (codes "renew", Number loan ∷ [])
said (PlaceHold patron title branch None) = (codes "place-hold", Number patron ∷ Number title ∷ Number branch ∷ [])
said (PlaceHold patron title branch (Some day)) = (codes "place-hold-from", Number patron ∷ Number title ∷ Number branch ∷ Day day ∷ [])
said (CancelHold hold) = (codes "cancel-hold", Number hold ∷ [])
said (Unshelve hold) = (codes "unshelve", Number hold ∷ [])
said (UnshelveCancelled hold) = (codes "unshelve-cancelled", Number hold ∷ [])
said (Missing copy) = (codes "missing", Number copy ∷ [])
said (Withdraw copy) = (codes "withdraw", Number copy ∷ [])
said (Pay patron amount) = (codes "pay", Number patron ∷ Amount amount ∷ [])
said (Waive patron amount) = (codes "waive", Number patron ∷ Amount amount ∷ [])
said (Charge patron amount branch text) = (codes "charge", Number patron ∷ Amount amount ∷ Number branch ∷ Name text ∷ [])
said (PayAt patron amount branch) = (codes "pay-at", Number patron ∷ Amount amount ∷ Number branch ∷ [])
said (Page patron) = (codes "page", Number patron ∷ [])
said (Ask question) = questioned question

-- the words of a command: its name, and a word for each part
unfoldable pub command_words : Command → List (List ℕ)
command_words command = (said command).0 ∷ map word_of (said command).1

-- the request text of a command: its words, joined by single spaces
unfoldable pub request_text : Command → List ℕ
request_text command = join_with_byte 32 (command_words command)

-- the words for where a copy goes
unfoldable pub routed_words : Routed → List (List ℕ)
routed_words (Shelf branch) = codes "shelf" ∷ decimal branch ∷ []
routed_words (HoldShelf hold branch until) =
    codes "ready" ∷ decimal hold ∷ codes "at" ∷ decimal branch ∷ codes "until" ∷ day_text until ∷ []
routed_words (Transit goal (Some hold)) = codes "transit" ∷ decimal goal ∷ codes "for" ∷ decimal hold ∷ []
routed_words (Transit goal None) = codes "transit" ∷ decimal goal ∷ []

-- the number of a refusal
abbrev pub refusal_number : Refusal → ℕ
refusal_number refusal.UnknownBranch = 10
refusal_number refusal.UnknownPatron = 11
refusal_number refusal.UnknownTitle = 12
refusal_number refusal.UnknownCopy = 13
refusal_number refusal.UnknownLoan = 14
refusal_number refusal.UnknownHold = 15
refusal_number refusal.NoRule = 16
refusal_number refusal.UnknownKind = 17
refusal_number refusal.UnknownBarcode = 18
refusal_number refusal.OtherContent = 20
refusal_number refusal.OutOfLimits = 21
refusal_number refusal.AllWeekdaysClosed = 22
refusal_number refusal.BadDay = 23
refusal_number refusal.AlreadyClosed = 24
refusal_number refusal.NotClosed = 25
refusal_number refusal.BarcodeTaken = 26
refusal_number refusal.Elsewhere = 30
refusal_number refusal.OnLoan = 31
refusal_number refusal.InTransit = 32
refusal_number refusal.OnHoldShelf = 33
refusal_number refusal.CopyMissing = 34
refusal_number refusal.CopyWithdrawn = 35
refusal_number refusal.HoldWaits = 36
refusal_number refusal.TooManyLoans = 37
refusal_number refusal.OwesTooMuch = 38
refusal_number refusal.PastCalendar = 39
refusal_number refusal.LoanEnded = 40
refusal_number refusal.Overdue = 41
refusal_number refusal.NoRenewalsLeft = 42
refusal_number refusal.AlreadyHolds = 50
refusal_number refusal.TooManyHolds = 51
refusal_number refusal.HasOnLoan = 52
refusal_number refusal.WrongHoldState = 53
refusal_number refusal.LimitNotPassed = 54
refusal_number refusal.BadAmount = 60
refusal_number refusal.NumbersUsedUp = 70
refusal_number refusal.KeyUsed = 80
refusal_number refusal.NotAllowed = 81

-- the number of a fault
abbrev pub fault_number : Fault → ℕ
fault_number fault.Memory = 90
fault_number fault.Database = 91
fault_number fault.Stored = 93

-- the number of a hall's fault
abbrev pub service_fault_number : ServiceFault → ℕ
service_fault_number (service.Met met) = fault_number met
service_fault_number service.Closed = 92

-- the words of a reply that isn't a page
unfoldable pub reply_words : Reply → List (List ℕ)
reply_words Done = codes "ok" ∷ []
reply_words (Lent loan due) = codes "loan" ∷ decimal loan ∷ codes "due" ∷ day_text due ∷ []
reply_words (CheckedIn fine routed) = codes "fine" ∷ decimal fine ∷ routed_words routed
reply_words (Held hold) = codes "hold" ∷ decimal hold ∷ []
reply_words (Moved routed) = routed_words routed
reply_words (Lost fine price) = codes "fine" ∷ decimal fine ∷ codes "price" ∷ decimal price ∷ []
reply_words (Owed owed) = codes "owed" ∷ decimal owed ∷ []
reply_words (Shown page) = page ∷ []
reply_words (Refused refused) = codes "refused" ∷ decimal (refusal_number refused) ∷ []

-- a reply's text: its words, joined by single spaces
unfoldable pub reply_text : Reply → List ℕ
reply_text reply = join_with_byte 32 (reply_words reply)
