-- What a patron learns of other patrons: nothing that depends on who they are.
use Rattle.std.specs.Prelude.{◌≡◌, ℕ, ◌==◌, Bool, true, false, if◌then◌else◌, List, [], ◌∷◌, map}
use Rattle.terms.specs.declared.command.Owner.{Owner}
use Rattle.terms.specs.declared.command.Owner.TheVariants.{Desk, Patron as Reader}
use Rattle.terms.specs.declared.command.Caller.{Caller}
use Rattle.terms.specs.declared.command.Caller.TheVariants.{Desk as FromDesk, Patron as FromPatron}
use Rattle.terms.specs.declared.command.Command.{Command}
use Rattle.terms.specs.declared.command.Command.TheVariants.{Patron, SetCardKey, AmendPatron, CheckOut, PlaceHold, Pay, Waive, Page, Ask}
use Rattle.terms.specs.declared.command.Command.TheVariants.{PatronBarcode, Charge, PayAt}
use Rattle.terms.specs.declared.command.Request.{Request}
use Rattle.terms.specs.declared.question.Question.{Question}
use Rattle.terms.specs.declared.question.Question.TheVariants as question
use Rattle.terms.specs.declared.reply.Reply.{Reply}
use Rattle.model.specs.Checks.{is_large_number}
use Rattle.model.specs.History.{Event, History}
use Rattle.model.specs.Pages.{page}
use Rattle.model.specs.Requests.{IsLegal, reply_to, after, after_one}

-- Other numbers for patrons: each its own, within the limits of patron numbers if the number was. 0 is no
-- patron's, and stays.
pub record IsRenaming (f : ℕ → ℕ) : Type 0 where
  pub one_to_one : (p q : ℕ) → f p ≡ f q → p ≡ q
  pub within : (p : ℕ) → is_large_number (f p) ≡ is_large_number p
  pub zero_stays : f 0 ≡ 0

module _ (f : ℕ → ℕ) where
  -- A patron's events, and requests, become those of the new number.
  abbrev pub renamed_owner : Owner → Owner
  renamed_owner Desk = Desk
  renamed_owner (Reader p) = Reader (f p)

  abbrev pub renamed_caller : Caller → Caller
  renamed_caller FromDesk = FromDesk
  renamed_caller (FromPatron p card_key) = FromPatron (f p) card_key

  -- A question names the patron by the new number. `debts` and `find-patrons` go on from a number, which is no
  -- name.
  abbrev pub renamed_question : Question → Question
  renamed_question (question.Account p after) = question.Account (f p) after
  renamed_question (question.Borrower p) = question.Borrower (f p)
  renamed_question q = q

  -- A command names its patron by the new number.
  abbrev pub renamed : Command → Command
  renamed (Patron p k card_key name) = Patron (f p) k card_key name
  renamed (SetCardKey p card_key) = SetCardKey (f p) card_key
  renamed (AmendPatron p k name) = AmendPatron (f p) k name
  renamed (CheckOut p c b) = CheckOut (f p) c b
  renamed (PlaceHold p t b d) = PlaceHold (f p) t b d
  renamed (Pay p n) = Pay (f p) n
  renamed (Waive p n) = Waive (f p) n
  renamed (PatronBarcode p barcode) = PatronBarcode (f p) barcode
  renamed (Charge p n b text) = Charge (f p) n b text
  renamed (PayAt p n b) = PayAt (f p) n b
  renamed (Page p) = Page (f p)
  renamed (Ask q) = Ask (renamed_question q)
  renamed c = c

  abbrev pub renamed_event : Event → Event
  renamed_event e = record { owner = renamed_owner e.owner; key = e.key; command = renamed e.command }

  abbrev pub renamed_history : History → History
  renamed_history [] = []
  renamed_history (e ∷ H) = renamed_event e ∷ renamed_history H

  abbrev pub renamed_request : Request → Request
  renamed_request r = record { caller = renamed_caller r.caller; key = r.key; command = renamed r.command }

-- The request comes from this patron, whatever card key is shown.
abbrev pub is_from : ℕ → Caller → Bool
is_from p FromDesk = false
is_from p (FromPatron q card_key) = q == p

-- One reply more, if it went to the patron.
abbrev pub reply_if : Bool → Reply → List Reply → List Reply
reply_if true reply later = reply ∷ later
reply_if false reply later = later

-- The replies that a patron gets among those to the requests of all.
abbrev pub replies_to : ℕ → History → List Request → List Reply
replies_to p H [] = []
replies_to p H (r ∷ rs) = reply_if (is_from p r.caller) (reply_to H r) (replies_to p (after_one H r) rs)

-- Other numbers for all patrons but this one, before and among the requests of all, leave a legal history,
-- the replies to this patron and the patron's page.
pub record IsAnonymousTo (p : ℕ) (f : ℕ → ℕ) (H : History) : Type 0 where
  pub legal : IsLegal (renamed_history f H)
  pub replies : (rs : List Request) → replies_to p (renamed_history f H) (map (renamed_request f) rs) ≡ replies_to p H rs
  pub page : page (renamed_history f H) p ≡ page H p
  pub later : (rs : List Request) → after (renamed_history f H) (map (renamed_request f) rs) ≡ renamed_history f (after H rs)

-- No patron learns who other patrons are.
abbrev pub Anonymity : Type 0
Anonymity = (f : ℕ → ℕ) (p : ℕ) (H : History) → IsRenaming f → f p ≡ p → IsLegal H → IsAnonymousTo p f H

-- Two patrons with each other's numbers.
abbrev pub swapped : ℕ → ℕ → ℕ → ℕ
swapped q r n = if n == q then r else (if n == r then q else n)

-- Such a swap is a renaming: if two patrons had each done what the other did, no third would notice.
abbrev pub SwapsRename : Type 0
SwapsRename = (q r : ℕ) → is_large_number q ≡ true → is_large_number r ≡ true → IsRenaming (swapped q r)
