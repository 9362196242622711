-- For each command in turn: it is in the table, its words can be told apart, and its name and parts make it
-- again.
use Rattle.std.proofs.Common.{◌≡◌, ◌<◌, ◌≤◌, ◌+◌, ℕ, List, [], ◌∷◌, Bool, true, false, ◌&&◌, ◌||◌, map, get_or, length, drop, add-one, drop-cons}
use Rattle.std.proofs.Common.{drop_of_length-le, refl, Some, None}
use Rattle.std.specs.Prelude.{if◌then◌else◌, codes, nat_lt}
use Rattle.std.specs.List.{list_all}
use Rattle.std.specs.Str.{bytes_eq}
use Rattle.terms.specs.Forms.{has_no_space, is_outside_key}
use Rattle.terms.specs.Commands.{Column, IsListed, Text, commands, kind_of, line, parts_in}
use Rattle.terms.specs.Texts.{Part, Number, Amount, Day, Mask, CardKey, Barcode, Name, said}
use Rattle.terms.specs.declared.command.Command.{Command}
use Rattle.terms.specs.declared.form.CommandForm.{CommandForm}
use Rattle.terms.specs.declared.command.Command.TheVariants.{BeginDay, Branch, Week, CloseDay, OpenDay, Kind, Rule, Grace, Patron, Acquire}
use Rattle.terms.specs.declared.command.Command.TheVariants.{SetCardKey, AmendPatron, AmendBranch, AmendTitle, AmendCopy, Rehome}
use Rattle.terms.specs.declared.command.Command.TheVariants.{CopyBarcode, PatronBarcode, DropBarcode, Charge, PayAt}
use Rattle.terms.specs.declared.command.Command.TheVariants.{CheckOut, CheckIn, Renew, PlaceHold, CancelHold, Unshelve, UnshelveCancelled}
use Rattle.terms.specs.declared.command.Command.TheVariants.{Missing, Withdraw, Pay, Waive, Page, Ask}
use Rattle.terms.specs.declared.question.Question.{Question}
use Rattle.terms.specs.declared.question.Question.TheVariants as question

-- each byte is ASCII
abbrev pub is_low : List ℕ → Bool
is_low = list_all (λ b. nat_lt b 128)

-- the word of the part has no space, as every number, card key and barcode has none
abbrev pub is_spaceless : Part → Bool
is_spaceless (Number _) = true
is_spaceless (Amount _) = true
is_spaceless (CardKey _) = true
is_spaceless (Barcode _) = true
is_spaceless (Day _) = false
is_spaceless (Mask _) = false
is_spaceless (Name _) = false

-- no part but the last can have a space
abbrev pub are_apart : List Part → Bool
are_apart [] = true
are_apart (part ∷ []) = true
are_apart (part ∷ other ∷ parts) = is_spaceless part && are_apart (other ∷ parts)

-- there are parts
abbrev pub has_parts : List Part → Bool
has_parts [] = false
has_parts (part ∷ parts) = true

-- what a part holds
abbrev number_in : Part → ℕ
number_in (Number n) = n
number_in (Amount n) = n
number_in (Day n) = n
number_in (Mask _) = 0
number_in (CardKey _) = 0
number_in (Barcode _) = 0
number_in (Name _) = 0

abbrev text_in : Part → List ℕ
text_in (Number _) = []
text_in (Amount _) = []
text_in (Day _) = []
text_in (Mask _) = []
text_in (CardKey t) = t
text_in (Barcode t) = t
text_in (Name t) = t

abbrev days_in : Part → List Bool
days_in (Number _) = []
days_in (Amount _) = []
days_in (Day _) = []
days_in (Mask closed) = closed
days_in (CardKey _) = []
days_in (Barcode _) = []
days_in (Name _) = []

-- the command with this name and these parts
pub command_from : List ℕ → List Part → Command
command_from name parts =
    let n = λ (k : ℕ). number_in (get_or parts k (Number 0)) in
    let t = λ (k : ℕ). text_in (get_or parts k (Number 0)) in
    if bytes_eq name (codes "begin-day") then BeginDay (n 0)
    else (if bytes_eq name (codes "branch") then Branch (n 0) (n 1) (t 2)
    else (if bytes_eq name (codes "week") then Week (n 0) (days_in (get_or parts 1 (Number 0)))
    else (if bytes_eq name (codes "close-day") then CloseDay (n 0) (n 1)
    else (if bytes_eq name (codes "open-day") then OpenDay (n 0) (n 1)
    else (if bytes_eq name (codes "kind") then Kind (n 0) (n 1) (n 2) (n 3)
    else (if bytes_eq name (codes "rule") then Rule (n 0) (n 1) (n 2) (n 3) (n 4) (n 5)
    else (if bytes_eq name (codes "grace") then Grace (n 0) (n 1) (n 2)
    else (if bytes_eq name (codes "patron") then Patron (n 0) (n 1) (t 2) (t 3)
    else (if bytes_eq name (codes "acquire") then Acquire (n 0) (n 1) (n 2) (n 3) (n 4) (t 5)
    else (if bytes_eq name (codes "card-key") then SetCardKey (n 0) (t 1)
    else (if bytes_eq name (codes "amend-patron") then AmendPatron (n 0) (n 1) (t 2)
    else (if bytes_eq name (codes "amend-branch") then AmendBranch (n 0) (n 1) (t 2)
    else (if bytes_eq name (codes "amend-title") then AmendTitle (n 0) (t 1)
    else (if bytes_eq name (codes "amend-copy") then AmendCopy (n 0) (n 1) (n 2)
    else (if bytes_eq name (codes "rehome") then Rehome (n 0) (n 1)
    else (if bytes_eq name (codes "copy-barcode") then CopyBarcode (n 0) (t 1)
    else (if bytes_eq name (codes "patron-barcode") then PatronBarcode (n 0) (t 1)
    else (if bytes_eq name (codes "drop-barcode") then DropBarcode (t 0)
    else (if bytes_eq name (codes "check-out") then CheckOut (n 0) (n 1) (n 2)
    else (if bytes_eq name (codes "check-in") then CheckIn (n 0) (n 1)
    else (if bytes_eq name (codes "renew") then Renew (n 0)
    else (if bytes_eq name (codes "place-hold") then PlaceHold (n 0) (n 1) (n 2) None
    else (if bytes_eq name (codes "place-hold-from") then PlaceHold (n 0) (n 1) (n 2) (Some (n 3))
    else (if bytes_eq name (codes "cancel-hold") then CancelHold (n 0)
    else (if bytes_eq name (codes "unshelve") then Unshelve (n 0)
    else (if bytes_eq name (codes "unshelve-cancelled") then UnshelveCancelled (n 0)
    else (if bytes_eq name (codes "missing") then Missing (n 0)
    else (if bytes_eq name (codes "withdraw") then Withdraw (n 0)
    else (if bytes_eq name (codes "pay") then Pay (n 0) (n 1)
    else (if bytes_eq name (codes "waive") then Waive (n 0) (n 1)
    else (if bytes_eq name (codes "charge") then Charge (n 0) (n 1) (n 2) (t 3)
    else (if bytes_eq name (codes "pay-at") then PayAt (n 0) (n 1) (n 2)
    else (if bytes_eq name (codes "copy") then Ask (question.Copy (n 0))
    else (if bytes_eq name (codes "copies") then Ask (question.Copies (n 0) (n 1))
    else (if bytes_eq name (codes "queue") then Ask (question.Queue (n 0) (n 1))
    else (if bytes_eq name (codes "account") then Ask (question.Account (n 0) (n 1))
    else (if bytes_eq name (codes "debts") then Ask (question.Debts (n 0))
    else (if bytes_eq name (codes "overdue") then Ask (question.Overdue (n 0) (n 1))
    else (if bytes_eq name (codes "shelf") then Ask (question.Shelf (n 0) (n 1))
    else (if bytes_eq name (codes "pulls") then Ask (question.Pulls (n 0) (n 1))
    else (if bytes_eq name (codes "transits") then Ask (question.Transits (n 0) (n 1))
    else (if bytes_eq name (codes "till") then Ask (question.Till (n 0))
    else (if bytes_eq name (codes "today") then Ask question.Today
    else (if bytes_eq name (codes "borrower") then Ask (question.Borrower (n 0))
    else (if bytes_eq name (codes "find-patrons") then Ask (question.FindPatrons (n 0) (t 1))
    else (if bytes_eq name (codes "find-titles") then Ask (question.FindTitles (n 0) (t 1))
    else (if bytes_eq name (codes "branches") then Ask (question.Branches (n 0))
    else (if bytes_eq name (codes "closed-days") then Ask (question.ClosedDays (n 0) (n 1))
    else (if bytes_eq name (codes "kinds") then Ask (question.Kinds (n 0))
    else (if bytes_eq name (codes "rules") then Ask (question.Rules (n 0) (n 1))
    else (if bytes_eq name (codes "missing-copies") then Ask (question.MissingCopies (n 0))
    else (if bytes_eq name (codes "loans") then Ask (question.Loans (n 0) (n 1))
    else (if bytes_eq name (codes "find-barcode") then Ask (question.FindBarcode (t 0))
    else (if bytes_eq name (codes "till-at") then Ask (question.TillAt (n 0) (n 1))
    else Page (n 0)))))))))))))))))))))))))))))))))))))))))))))))))))))))

pub record IsTold (command : Command) : Type 0 where
  pub parts : List Column
  pub found : parts_in commands (said command).0 ≡ Some parts
  pub kinds : map (λ part. part.1) parts ≡ map kind_of (said command).1
  pub named : (has_no_space (said command).0 && is_low (said command).0) ≡ true
  pub apart : are_apart (said command).1 ≡ true
  pub keyed : (has_parts (said command).1 || is_outside_key (said command).0) ≡ true
  pub back : command_from (said command).0 (said command).1 ≡ command

told_question : (asked : Question) → IsTold (Ask asked)
unfolding command_from parts_in is_outside_key
told_question (question.Till day) = record { parts = _; found = refl; kinds = refl; named = refl; apart = refl; keyed = refl; back = refl }
told_question _ = record { parts = _; found = refl; kinds = refl; named = refl; apart = refl; keyed = refl; back = refl }

pub told : (command : Command) → IsTold command
unfolding command_from parts_in is_outside_key
told (PlaceHold a b c None) = record { parts = _; found = refl; kinds = refl; named = refl; apart = refl; keyed = refl; back = refl }
told (PlaceHold a b c (Some d)) = record { parts = _; found = refl; kinds = refl; named = refl; apart = refl; keyed = refl; back = refl }
told (Ask asked) = told_question asked
told _ = record { parts = _; found = refl; kinds = refl; named = refl; apart = refl; keyed = refl; back = refl }

pub listed : (command : Command) → IsListed command
listed command = let told_is = told command in record { parts = told_is.parts; found = told_is.found; kinds = told_is.kinds }

-- a form with this name has the parts
pub parts-here : (forms : List CommandForm) (name : Text) (i : ℕ) (d : CommandForm) → i < length forms → bytes_eq (line (get_or forms i d)).0 name ≡ true
    → parts_in (map line (drop i forms)) name ≡ Some (line (get_or forms i d)).1
unfolding parts_in
parts-here forms name i d lt hit = rw (drop-cons forms i d lt, hit) refl

-- a form with another name is passed over
pub parts-later : (forms : List CommandForm) (name : Text) (i : ℕ) (d : CommandForm) → i < length forms → bytes_eq (line (get_or forms i d)).0 name ≡ false
    → parts_in (map line (drop i forms)) name ≡ parts_in (map line (drop (i + 1) forms)) name
unfolding parts_in
parts-later forms name i d lt miss = rw (add-one, drop-cons forms i d lt, miss) refl

pub parts-none : (forms : List CommandForm) (name : Text) (i : ℕ) → length forms ≤ i → parts_in (map line (drop i forms)) name ≡ None
unfolding parts_in
parts-none forms name i past = rw (drop_of_length-le forms past) refl
