-- Worked examples of texts: one for each command and question, and one for each form of a reply. Day 11016 is 2000-02-29.
use Rattle.std.specs.Prelude.{◌≡◌, List, [], ◌∷◌, map, codes, option_map, replicate, refl, Some, None, true, false}
use Rattle.std.specs.Fmt.{digits}
use Rattle.calendar.specs.Days.{day_text, civil_of}
use Rattle.terms.specs.Callers.{owner_of, owner_number}
use Rattle.terms.specs.Things.{thing_number, thing_sort}
use Rattle.terms.specs.Commands.{commands, parts_in, kind_of}
use Rattle.terms.specs.Forms.{is_name, is_alphanumeric, is_card_key, is_barcode, is_outside_key, is_clerk_name, clerk_key, is_clerk_key, is_key}
use Rattle.terms.specs.Pictures.{same_thing}
use Rattle.terms.specs.Money.{fine_for}
use Rattle.terms.specs.Texts.{said, mask_text, command_words, request_text, routed_words, refusal_number, fault_number, service_fault_number, reply_words, reply_text}
use Rattle.terms.specs.declared.command.Caller.TheVariants as caller
use Rattle.terms.specs.declared.command.Owner.TheVariants as owner
use Rattle.terms.specs.declared.command.Command.{Command}
use Rattle.terms.specs.declared.command.Command.TheVariants.{BeginDay, Branch, Week, CloseDay, OpenDay, Kind, Rule, Grace, Patron, Acquire}
use Rattle.terms.specs.declared.command.Command.TheVariants.{SetCardKey, AmendPatron, AmendBranch, AmendTitle, AmendCopy, Rehome}
use Rattle.terms.specs.declared.command.Command.TheVariants.{CopyBarcode, PatronBarcode, DropBarcode, Charge, PayAt}
use Rattle.terms.specs.declared.command.Command.TheVariants.{CheckOut, CheckIn, Renew, PlaceHold, CancelHold, Unshelve, UnshelveCancelled}
use Rattle.terms.specs.declared.command.Command.TheVariants.{Missing, Withdraw, Pay, Waive, Page, Ask}
use Rattle.terms.specs.declared.question.Question.TheVariants as question
use Rattle.terms.specs.declared.refusal.Refusal.TheVariants as refusal
use Rattle.terms.specs.declared.fault.Fault.TheVariants as fault
use Rattle.terms.specs.declared.fault.ServiceFault.TheVariants as service
use Rattle.terms.specs.declared.row.Thing.TheVariants as thing
use Rattle.terms.specs.declared.reply.Routed.TheVariants.{Shelf, HoldShelf, Transit}
use Rattle.terms.specs.declared.reply.Reply.TheVariants.{Done, Lent, CheckedIn, Held, Moved, Lost, Owed, Shown, Refused}

-- ---- requests

texts_of_settings : map request_text
    (Branch 1 5 (codes "Main") ∷ Week 2 (true ∷ false ∷ false ∷ true ∷ false ∷ false ∷ true ∷ []) ∷ Kind 3 4 6 500 ∷ Rule 1 2 28 3 20 1000 ∷ Grace 4 5 6 ∷ [])
    ≡ map codes ("branch 1 5 Main" ∷ "week 2 coocooc" ∷ "kind 3 4 6 500" ∷ "rule 1 2 28 3 20 1000" ∷ "grace 4 5 6" ∷ [])
unfolding digits request_text command_words
texts_of_settings = refl

texts_of_days : map request_text (BeginDay 11016 ∷ CloseDay 1 11016 ∷ OpenDay 2 11016 ∷ PlaceHold 3 100 4 (Some 11016) ∷ Ask (question.Till 11016)
    ∷ Ask (question.TillAt 5 11016) ∷ [])
    ≡ map codes
    ("begin-day 2000-02-29" ∷ "close-day 1 2000-02-29" ∷ "open-day 2 2000-02-29" ∷ "place-hold-from 3 100 4 2000-02-29" ∷ "till 2000-02-29"
    ∷ "till-at 5 2000-02-29" ∷ [])
unfolding digits day_text civil_of request_text command_words
texts_of_days = refl

texts_of_what_is_made : map request_text
    (Patron 7 1 (codes "cardkey00007") (codes "Di East") ∷ Acquire 10 100 2 3 2500 (codes "Salt Roads") ∷ SetCardKey 7 (codes "newkey000007")
    ∷ AmendPatron 7 2 (codes "Di West") ∷ AmendBranch 1 4 (codes "Main Street") ∷ AmendTitle 100 (codes "Salt Roads North") ∷ AmendCopy 10 3 2400 ∷ Rehome 10 2 ∷ [])
    ≡ map codes
    ("patron 7 1 cardkey00007 Di East" ∷ "acquire 10 100 2 3 2500 Salt Roads" ∷ "card-key 7 newkey000007"
    ∷ "amend-patron 7 2 Di West" ∷ "amend-branch 1 4 Main Street" ∷ "amend-title 100 Salt Roads North" ∷ "amend-copy 10 3 2400" ∷ "rehome 10 2" ∷ [])
unfolding digits request_text command_words
texts_of_what_is_made = refl

texts_of_lending : map request_text
    (CheckOut 7 10 2 ∷ CheckIn 10 2 ∷ Renew 5 ∷ PlaceHold 3 100 4 None ∷ CancelHold 5 ∷ Unshelve 6 ∷ UnshelveCancelled 7 ∷ Missing 10 ∷ Withdraw 11 ∷ Pay 7 250
    ∷ Waive 8 30 ∷ Page 9 ∷ [])
    ≡ map codes
    ("check-out 7 10 2" ∷ "check-in 10 2" ∷ "renew 5" ∷ "place-hold 3 100 4" ∷ "cancel-hold 5" ∷ "unshelve 6" ∷ "unshelve-cancelled 7" ∷ "missing 10" ∷ "withdraw 11" ∷ "pay 7 250"
    ∷ "waive 8 30" ∷ "page 9" ∷ [])
unfolding digits request_text command_words
texts_of_lending = refl

texts_of_labels_and_charges : map request_text
    (CopyBarcode 10 (codes "30000100000010") ∷ PatronBarcode 7 (codes "0A1") ∷ DropBarcode (codes "a01") ∷ Charge 7 250 2 (codes "Photocopies, 10 pages")
    ∷ PayAt 7 100 3 ∷ Ask (question.FindBarcode (codes "3x")) ∷ [])
    ≡ map codes
    ("copy-barcode 10 30000100000010" ∷ "patron-barcode 7 0A1" ∷ "drop-barcode a01" ∷ "charge 7 250 2 Photocopies, 10 pages"
    ∷ "pay-at 7 100 3" ∷ "find-barcode 3x" ∷ [])
unfolding digits request_text command_words
texts_of_labels_and_charges = refl

texts_of_questions : map (λ asked. request_text (Ask asked))
    (question.Copy 10 ∷ question.Copies 100 9 ∷ question.Queue 100 8 ∷ question.Account 7 6 ∷ question.Debts 5 ∷ question.Overdue 1 4 ∷ question.Shelf 2 3 ∷ question.Pulls 1 9
    ∷ question.Transits 2 8 ∷ question.Today ∷ question.Borrower 7 ∷ question.FindPatrons 3 (codes "di east") ∷ question.FindTitles 4 (codes "roads")
    ∷ question.Branches 0 ∷ question.ClosedDays 1 11016 ∷ question.Kinds 2 ∷ question.Rules 1 2 ∷ question.MissingCopies 9 ∷ question.Loans 10 3 ∷ [])
    ≡ map codes
    ("copy 10" ∷ "copies 100 9" ∷ "queue 100 8" ∷ "account 7 6" ∷ "debts 5" ∷ "overdue 1 4" ∷ "shelf 2 3" ∷ "pulls 1 9"
    ∷ "transits 2 8" ∷ "today" ∷ "borrower 7" ∷ "find-patrons 3 di east" ∷ "find-titles 4 roads"
    ∷ "branches 0" ∷ "closed-days 1 11016" ∷ "kinds 2" ∷ "rules 1 2" ∷ "missing-copies 9" ∷ "loans 10 3" ∷ [])
unfolding digits request_text command_words
texts_of_questions = refl

-- A letter for each weekday, Monday first.
masks : map mask_text
    ((true ∷ false ∷ false ∷ false ∷ false ∷ false ∷ false ∷ []) ∷ (false ∷ true ∷ false ∷ false ∷ false ∷ false ∷ false ∷ [])
    ∷ (false ∷ false ∷ true ∷ false ∷ false ∷ false ∷ false ∷ []) ∷ (false ∷ false ∷ false ∷ true ∷ false ∷ false ∷ false ∷ [])
    ∷ (false ∷ false ∷ false ∷ false ∷ true ∷ false ∷ false ∷ []) ∷ (false ∷ false ∷ false ∷ false ∷ false ∷ true ∷ false ∷ [])
    ∷ (false ∷ false ∷ false ∷ false ∷ false ∷ false ∷ true ∷ []) ∷ [])
    ≡ map codes ("coooooo" ∷ "ocooooo" ∷ "oocoooo" ∷ "ooocooo" ∷ "oooocoo" ∷ "oooooco" ∷ "ooooooc" ∷ [])
masks = refl

-- ---- the kinds of parts

-- Each command and question once.
abbrev each : List Command
each =
    BeginDay 11016 ∷ Branch 1 5 [] ∷ Week 2 [] ∷ CloseDay 1 11016 ∷ OpenDay 2 11016 ∷ Kind 3 4 6 500 ∷ Rule 1 2 28 3 20 1000 ∷ Grace 4 5 6
    ∷ Patron 7 1 [] [] ∷ Acquire 10 100 2 3 2500 [] ∷ SetCardKey 7 [] ∷ AmendPatron 7 2 [] ∷ AmendBranch 1 4 [] ∷ AmendTitle 100 [] ∷ AmendCopy 10 3 2400
    ∷ Rehome 10 2 ∷ CopyBarcode 10 [] ∷ PatronBarcode 7 [] ∷ DropBarcode [] ∷ CheckOut 7 10 2 ∷ CheckIn 10 2 ∷ Renew 5 ∷ PlaceHold 3 100 4 None ∷ PlaceHold 3 100 4 (Some 11016) ∷ CancelHold 5 ∷ Unshelve 6
    ∷ UnshelveCancelled 7 ∷ Missing 10 ∷ Withdraw 11 ∷ Pay 7 250 ∷ Waive 8 30 ∷ Charge 7 250 2 [] ∷ PayAt 7 100 3 ∷ Page 9
    ∷ map Ask (question.Copy 10 ∷ question.Copies 100 9 ∷ question.Queue 100 8 ∷ question.Account 7 6 ∷ question.Debts 5 ∷ question.Overdue 1 4 ∷ question.Shelf 2 3
    ∷ question.Pulls 1 9 ∷ question.Transits 2 8 ∷ question.Till 11016 ∷ question.Today ∷ question.Borrower 7 ∷ question.FindPatrons 3 [] ∷ question.FindTitles 4 []
    ∷ question.Branches 0 ∷ question.ClosedDays 1 11016 ∷ question.Kinds 2 ∷ question.Rules 1 2 ∷ question.MissingCopies 9 ∷ question.Loans 10 3
    ∷ question.FindBarcode [] ∷ question.TillAt 5 11016 ∷ [])

-- What a command says has the kinds that the table of commands has under its name.
kinds_of_parts : map (λ command. Some (map kind_of (said command).1)) each
    ≡ map (λ command. option_map (map (λ part. part.1)) (parts_in commands (said command).0)) each
unfolding parts_in
kinds_of_parts = refl

-- ---- replies

texts_of_replies : map reply_text
    (Done ∷ Held 3 ∷ Lost 100 2500 ∷ Owed 70 ∷ Shown (codes "end") ∷ Refused refusal.UnknownCopy ∷ CheckedIn 20 (Shelf 1) ∷ CheckedIn 0 (Transit 2 None) ∷ Moved (Transit 1 (Some 3)) ∷ [])
    ≡ map codes
    ("ok" ∷ "hold 3" ∷ "fine 100 price 2500" ∷ "owed 70" ∷ "end" ∷ "refused 13" ∷ "fine 20 shelf 1" ∷ "fine 0 transit 2" ∷ "transit 1 for 3" ∷ [])
unfolding digits reply_text reply_words routed_words
texts_of_replies = refl

texts_of_replies_with_days : map reply_text (Lent 4 11016 ∷ Moved (HoldShelf 5 2 11016) ∷ [])
    ≡ map codes ("loan 4 due 2000-02-29" ∷ "ready 5 at 2 until 2000-02-29" ∷ [])
unfolding digits day_text civil_of reply_text reply_words routed_words
texts_of_replies_with_days = refl

numbers_of_refusals : map refusal_number
    (refusal.UnknownBranch ∷ refusal.UnknownPatron ∷ refusal.UnknownTitle ∷ refusal.UnknownCopy ∷ refusal.UnknownLoan ∷ refusal.UnknownHold ∷ refusal.NoRule
    ∷ refusal.UnknownKind ∷ refusal.UnknownBarcode ∷ refusal.OtherContent ∷ refusal.OutOfLimits ∷ refusal.AllWeekdaysClosed ∷ refusal.BadDay ∷ refusal.AlreadyClosed ∷ refusal.NotClosed ∷ refusal.BarcodeTaken
    ∷ refusal.Elsewhere ∷ refusal.OnLoan ∷ refusal.InTransit ∷ refusal.OnHoldShelf ∷ refusal.CopyMissing ∷ refusal.CopyWithdrawn ∷ refusal.HoldWaits
    ∷ refusal.TooManyLoans ∷ refusal.OwesTooMuch ∷ refusal.PastCalendar ∷ refusal.LoanEnded ∷ refusal.Overdue ∷ refusal.NoRenewalsLeft ∷ refusal.AlreadyHolds
    ∷ refusal.TooManyHolds ∷ refusal.HasOnLoan ∷ refusal.WrongHoldState ∷ refusal.LimitNotPassed ∷ refusal.BadAmount ∷ refusal.NumbersUsedUp ∷ refusal.KeyUsed
    ∷ refusal.NotAllowed ∷ [])
    ≡ 10 ∷ 11 ∷ 12 ∷ 13 ∷ 14 ∷ 15 ∷ 16 ∷ 17 ∷ 18 ∷ 20 ∷ 21 ∷ 22 ∷ 23 ∷ 24 ∷ 25 ∷ 26 ∷ 30 ∷ 31 ∷ 32 ∷ 33 ∷ 34 ∷ 35 ∷ 36 ∷ 37 ∷ 38 ∷ 39 ∷ 40 ∷ 41 ∷ 42 ∷ 50 ∷ 51 ∷ 52 ∷ 53 ∷ 54 ∷ 60 ∷ 70 ∷ 80
    ∷ 81 ∷ []
numbers_of_refusals = refl

numbers_of_faults : map service_fault_number (service.Met fault.Memory ∷ service.Met fault.Database ∷ service.Closed ∷ service.Met fault.Stored ∷ []) ≡ 90 ∷ 91 ∷ 92 ∷ 93 ∷ []
numbers_of_faults = refl

-- ---- what barcodes are of

sorts_of_things : map thing_sort (thing.Patron 7 ∷ thing.Copy 10 ∷ []) ≡ 0 ∷ 1 ∷ []
sorts_of_things = refl

numbers_of_things : map thing_number (thing.Patron 7 ∷ thing.Copy 10 ∷ []) ≡ 7 ∷ 10 ∷ []
numbers_of_things = refl

-- A patron and a copy of one number are different things.
same_things : same_thing (thing.Patron 7) (thing.Patron 7) ∷ same_thing (thing.Copy 7) (thing.Copy 7) ∷ same_thing (thing.Patron 7) (thing.Patron 8)
    ∷ same_thing (thing.Copy 7) (thing.Copy 8) ∷ same_thing (thing.Patron 7) (thing.Copy 7) ∷ same_thing (thing.Copy 7) (thing.Patron 7) ∷ []
    ≡ true ∷ true ∷ false ∷ false ∷ false ∷ false ∷ []
same_things = refl

-- ---- callers and money

owners : map owner_of (caller.Desk ∷ caller.Patron 7 (codes "cardkey00007") ∷ []) ≡ owner.Desk ∷ owner.Patron 7 ∷ []
owners = refl

numbers_of_owners : map owner_number (owner.Desk ∷ owner.Patron 7 ∷ []) ≡ 0 ∷ 7 ∷ []
numbers_of_owners = refl

-- Days late, rate, cap and grace days: within the grace days nothing is due, past them each day is, and never more than the cap.
fines : fine_for 7 20 1000 0 ∷ fine_for 7 20 100 0 ∷ fine_for 5 20 100 0 ∷ fine_for 2 20 100 2 ∷ fine_for 3 20 100 2 ∷ fine_for 0 20 100 0 ∷ [] ≡ 140 ∷ 100 ∷ 100 ∷ 0 ∷ 60 ∷ 0 ∷ []
fines = refl

-- ---- forms

names_and_keys : map is_name ([] ∷ codes "A" ∷ codes " A" ∷ codes "A " ∷ codes "A B" ∷ (65 ∷ 31 ∷ 65 ∷ []) ∷ (65 ∷ 127 ∷ 65 ∷ []) ∷ [])
    ≡ false ∷ true ∷ false ∷ false ∷ true ∷ false ∷ false ∷ []
unfolding is_name
names_and_keys = refl

card_keys : map is_card_key
    (codes "1234567" ∷ codes "12345678" ∷ codes "azAZ0189" ∷ codes "1234-678" ∷ codes "12345678901234567890123456789012" ∷ codes "123456789012345678901234567890123" ∷ [])
    ≡ false ∷ true ∷ true ∷ false ∷ true ∷ false ∷ []
unfolding is_card_key
card_keys = refl

keys_from_outside : map is_outside_key
    ([] ∷ codes "-" ∷ codes "aZ-09" ∷ codes "a b" ∷ codes "1234567890123456789012345678901234567890" ∷ codes "12345678901234567890123456789012345678901" ∷ [])
    ≡ false ∷ true ∷ true ∷ false ∷ true ∷ false ∷ []
unfolding is_outside_key
keys_from_outside = refl

-- Letters and digits, and their neighbours among the bytes.
letters_and_digits : map is_alphanumeric (47 ∷ 48 ∷ 57 ∷ 58 ∷ 64 ∷ 65 ∷ 90 ∷ 91 ∷ 96 ∷ 97 ∷ 122 ∷ 123 ∷ [])
    ≡ false ∷ true ∷ true ∷ false ∷ false ∷ true ∷ true ∷ false ∷ false ∷ true ∷ true ∷ false ∷ []
letters_and_digits = refl

longest_name : map (λ n. is_name (replicate n 65)) (120 ∷ 121 ∷ []) ≡ true ∷ false ∷ []
unfolding is_name
longest_name = refl

clerk_names : map is_clerk_name ([] ∷ codes "a" ∷ codes "Ann2" ∷ codes "ann-2" ∷ replicate 16 65 ∷ replicate 17 65 ∷ [])
    ≡ false ∷ true ∷ true ∷ false ∷ true ∷ false ∷ []
unfolding is_clerk_name
clerk_names = refl

barcodes : map is_barcode ([] ∷ codes "1" ∷ codes "30000100000010" ∷ codes "aZ09" ∷ codes "A-1" ∷ codes "A 1" ∷ replicate 24 48 ∷ replicate 25 48 ∷ [])
    ≡ false ∷ true ∷ true ∷ true ∷ false ∷ false ∷ true ∷ false ∷ []
unfolding is_barcode
barcodes = refl

any_keys : map is_key ([] ∷ codes "a1" ∷ codes "r-1" ∷ codes "a b" ∷ codes "a_b" ∷ codes "ann/r-1" ∷ codes "ann/" ∷ codes "/r1" ∷ codes "ann/a/r1" ∷ codes "an-n/r1" ∷ [])
    ≡ false ∷ true ∷ true ∷ true ∷ false ∷ true ∷ false ∷ false ∷ false ∷ false ∷ []
unfolding is_outside_key is_clerk_name is_clerk_key
any_keys = refl

-- The key of a clerk's request tells whose it is.
clerk_keys : clerk_key (codes "ann") (codes "r1") ≡ codes "ann/r1"
clerk_keys = refl
