-- Worked examples of barcodes.
use Rattle.std.specs.Prelude.{◌≡◌, [], ◌∷◌, codes, refl, map, Some, None}
use Rattle.terms.specs.declared.row.Thing.TheVariants.{Patron as Enrolled, Copy as Copied}
use Rattle.std.specs.Fmt.{digits}
use Rattle.calendar.specs.Days.{day_text, civil_of}
use Rattle.terms.specs.declared.command.Command.TheVariants.{BeginDay, Kind, CheckOut, CheckIn, Renew, AmendPatron, AmendTitle, AmendCopy}
use Rattle.terms.specs.declared.command.Command.TheVariants.{CopyBarcode, PatronBarcode, DropBarcode, Ask}
use Rattle.terms.specs.declared.question.Question.TheVariants.{Copy, Borrower, FindBarcode}
use Rattle.terms.specs.Texts.{reply_text, reply_words, routed_words}
use Rattle.model.specs.Asking.{asked}
use Rattle.model.specs.History.{History}
use Rattle.model.specs.Picture.{picture}
use Rattle.model.specs.Requests.{after}
use Rattle.model.proofs.Rows.{by_patron, desk, lettered, Gives, gives, ground}
use Rattle.model.proofs.RowsAsking.{shown_lines}

-- The small library on its second day: a copy that is lent a second time and renewed, with another kind and price, and a patron of another
-- kind and name.
abbrev pub second_day : History
second_day = after ground (lettered 200 (
    CheckOut 1 10 1 ∷ BeginDay 20515 ∷ CheckIn 10 1 ∷ CheckOut 2 10 1 ∷ Renew 2 ∷ AmendTitle 100 (codes "Rivers of the East") ∷ AmendCopy 10 2 3000
    ∷ Kind 2 1 1 0 ∷ AmendPatron 1 2 (codes "Ann Ozil") ∷ []))

-- A copy and a patron are found by their barcodes, and a barcode that nobody has finds nothing.
barcodes_are_found : Gives second_day
    (desk (CopyBarcode 10 (codes "30000100000010") ∷ Ask (FindBarcode (codes "30000100000010")) ∷ PatronBarcode 1 (codes "20000000000001")
    ∷ Ask (FindBarcode (codes "20000000000001")) ∷ Ask (Borrower 1) ∷ Ask (FindBarcode (codes "3")) ∷ []))
    ("ok" ∷ "copy 10" ∷ "ok" ∷ "patron 1" ∷ "patron 1 owed 0 name Ann Ozil\nkind 2\nbarcode 20000000000001" ∷ "refused 18" ∷ [])
unfolding digits reply_text reply_words routed_words
barcodes_are_found = gives refl

-- A copy with a barcode has a third line, and without one it has two.
copy_with_a_barcode : map (λ H. asked H (Copy 10)) (after second_day (desk (CopyBarcode 10 (codes "30000100000010") ∷ [])) ∷ second_day ∷ [])
    ≡ map shown_lines (
    ("copy 10 home 1 kind 2 price 3000 title 100 Rivers of the East" ∷ "loan 2 due 2026-03-16 patron 2 Bo Carr" ∷ "barcode 30000100000010" ∷ [])
    ∷ ("copy 10 home 1 kind 2 price 3000 title 100 Rivers of the East" ∷ "loan 2 due 2026-03-16 patron 2 Bo Carr" ∷ []) ∷ [])
unfolding digits day_text civil_of
copy_with_a_barcode = refl

-- What is given a barcode is there, and no other copy or patron has the barcode; the same again is accepted.
barcodes_are_checked : Gives second_day
    (desk (CopyBarcode 10 (codes "30000100000010") ∷ PatronBarcode 1 (codes "20000000000001") ∷ CopyBarcode 99 (codes "30000100000010")
    ∷ PatronBarcode 9 (codes "X1") ∷ CopyBarcode 11 (codes "30000100000010") ∷ CopyBarcode 11 (codes "20000000000001")
    ∷ PatronBarcode 2 (codes "30000100000010") ∷ PatronBarcode 2 (codes "20000000000001") ∷ CopyBarcode 10 (codes "30000100000010") ∷ []))
    ("ok" ∷ "ok" ∷ "refused 13" ∷ "refused 11" ∷ "refused 26" ∷ "refused 26" ∷ "refused 26" ∷ "refused 26" ∷ "ok" ∷ [])
unfolding digits reply_text reply_words routed_words
barcodes_are_checked = gives refl

-- The old barcode is nobody's, and may be given again; case counts, and so do leading zeros.
new_barcode_takes_the_place : Gives second_day
    (desk (CopyBarcode 10 (codes "30000100000010") ∷ CopyBarcode 10 (codes "a1") ∷ Ask (FindBarcode (codes "30000100000010"))
    ∷ Ask (FindBarcode (codes "A1")) ∷ PatronBarcode 2 (codes "A1") ∷ PatronBarcode 3 (codes "30000100000010")
    ∷ Ask (FindBarcode (codes "30000100000010")) ∷ Ask (FindBarcode (codes "a1")) ∷ CopyBarcode 11 (codes "01") ∷ Ask (FindBarcode (codes "1")) ∷ []))
    ("ok" ∷ "ok" ∷ "refused 18" ∷ "refused 18" ∷ "ok" ∷ "ok" ∷ "patron 3" ∷ "copy 10" ∷ "ok" ∷ "refused 18" ∷ [])
unfolding digits reply_text reply_words routed_words
new_barcode_takes_the_place = gives refl

-- A barcode that is dropped is nobody's, is dropped once, and may be given again; nobody else's barcode goes with it.
dropped_barcode_is_nobodys : Gives second_day
    (desk (CopyBarcode 11 (codes "01") ∷ CopyBarcode 10 (codes "a1") ∷ DropBarcode (codes "01") ∷ Ask (FindBarcode (codes "01")) ∷ DropBarcode (codes "01")
    ∷ Ask (FindBarcode (codes "a1")) ∷ CopyBarcode 11 (codes "01") ∷ Ask (FindBarcode (codes "01")) ∷ []))
    ("ok" ∷ "ok" ∷ "ok" ∷ "refused 18" ∷ "refused 18" ∷ "copy 10" ∷ "ok" ∷ "copy 11" ∷ [])
unfolding digits reply_text reply_words routed_words
dropped_barcode_is_nobodys = gives refl

-- A copy and a patron of one number are two things.
copies_and_patrons_are_apart : Gives second_day
    (desk (CopyBarcode 10 (codes "7") ∷ PatronBarcode 1 (codes "8") ∷ Ask (FindBarcode (codes "7")) ∷ Ask (FindBarcode (codes "8"))
    ∷ DropBarcode (codes "8") ∷ Ask (FindBarcode (codes "7")) ∷ Ask (Borrower 1) ∷ []))
    ("ok" ∷ "ok" ∷ "copy 10" ∷ "patron 1" ∷ "ok" ∷ "copy 10" ∷ "patron 1 owed 0 name Ann Ozil\nkind 2" ∷ [])
unfolding digits reply_text reply_words routed_words
copies_and_patrons_are_apart = gives refl

-- Barcodes are the desk's.
barcodes_are_the_desks : Gives ground
    (by_patron 2 (codes "k") (Ask (FindBarcode (codes "a1"))) ∷ by_patron 2 (codes "l") (CopyBarcode 10 (codes "a1"))
    ∷ by_patron 2 (codes "m") (PatronBarcode 2 (codes "a1")) ∷ by_patron 2 (codes "n") (DropBarcode (codes "a1")) ∷ [])
    ("refused 81" ∷ "refused 81" ∷ "refused 81" ∷ "refused 81" ∷ [])
unfolding digits reply_text reply_words routed_words
barcodes_are_the_desks = gives refl

-- The rows of barcodes: a copy's new one in the place of the old, a patron's, and none for what has none.
barcode_rows : map (picture (after second_day (desk (CopyBarcode 10 (codes "7") ∷ CopyBarcode 10 (codes "a1") ∷ PatronBarcode 10 (codes "7") ∷ PatronBarcode 1 (codes "7")
    ∷ CopyBarcode 11 (codes "9") ∷ DropBarcode (codes "9") ∷ [])))).barcodes (Copied 10 ∷ Enrolled 1 ∷ Copied 11 ∷ Enrolled 10 ∷ [])
    ≡ Some (record { thing = Copied 10; barcode = codes "a1" }) ∷ Some (record { thing = Enrolled 1; barcode = codes "7" }) ∷ None ∷ None ∷ []
unfolding digits
barcode_rows = refl
