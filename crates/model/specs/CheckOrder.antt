-- In which order the checks of a command are made, and which refusal is told where several fail.
use Rattle.std.specs.Prelude.{◌≡◌, ℕ, true, false, List, [], ◌∷◌, ◌++◌, map, None, IfSome}
use Rattle.std.specs.List.{AllByRecursion}
use Rattle.terms.specs.Texts.{refusal_number}
use Rattle.terms.specs.declared.command.Owner.{Owner}
use Rattle.terms.specs.declared.command.Command.{Command}
use Rattle.terms.specs.declared.command.Command.TheVariants.{BeginDay, Branch, Week, CloseDay, OpenDay, Kind, Rule, Grace, Patron, Acquire}
use Rattle.terms.specs.declared.command.Command.TheVariants.{SetCardKey, AmendPatron, AmendBranch, AmendTitle, AmendCopy, Rehome}
use Rattle.terms.specs.declared.command.Command.TheVariants.{CopyBarcode, PatronBarcode, DropBarcode, Charge, PayAt}
use Rattle.terms.specs.declared.command.Command.TheVariants.{CheckOut, CheckIn, Renew, PlaceHold, CancelHold, Unshelve, UnshelveCancelled}
use Rattle.terms.specs.declared.command.Command.TheVariants.{Missing, Withdraw, Pay, Waive, Page, Ask}
use Rattle.terms.specs.declared.question.Question.{Question}
use Rattle.terms.specs.declared.question.Question.TheVariants as question
use Rattle.terms.specs.declared.refusal.Refusal.{Refusal}
use Rattle.model.specs.History.{History}
use Rattle.model.specs.Checks.{Check}
use Rattle.model.specs.Refusals.{checks, refusal}

-- The numbers of the refusals that a question can get, in the order of their checks.
abbrev pub refusals_asked : Question → List ℕ
refusals_asked (question.Copy c) = 13 ∷ []
refusals_asked (question.Copies t after) = 12 ∷ []
refusals_asked (question.Queue t after) = 12 ∷ []
refusals_asked (question.Account p after) = 11 ∷ []
refusals_asked (question.Debts after) = []
refusals_asked (question.Overdue b after) = 10 ∷ []
refusals_asked (question.Shelf b after) = 10 ∷ []
refusals_asked (question.Pulls b after) = 10 ∷ []
refusals_asked (question.Transits b after) = 10 ∷ []
refusals_asked (question.Till d) = []
refusals_asked question.Today = []
refusals_asked (question.Borrower p) = 11 ∷ []
refusals_asked (question.FindPatrons after text) = []
refusals_asked (question.FindTitles after text) = []
refusals_asked (question.Branches after) = []
refusals_asked (question.ClosedDays b after) = 10 ∷ []
refusals_asked (question.Kinds after) = []
refusals_asked (question.Rules k after) = 17 ∷ []
refusals_asked (question.MissingCopies after) = []
refusals_asked (question.Loans c after) = 13 ∷ []
refusals_asked (question.FindBarcode barcode) = 18 ∷ []
refusals_asked (question.TillAt b d) = 10 ∷ []

-- The numbers of the refusals that a command can get, in the order of their checks.
abbrev pub refusals_in_order : Command → List ℕ
refusals_in_order (BeginDay d) = 23 ∷ []
refusals_in_order (Branch b pickup name) = 21 ∷ 20 ∷ []
refusals_in_order (Week b closed) = 10 ∷ 22 ∷ []
refusals_in_order (CloseDay b d) = 10 ∷ 23 ∷ 24 ∷ 21 ∷ []
refusals_in_order (OpenDay b d) = 10 ∷ 23 ∷ 25 ∷ []
refusals_in_order (Kind k loans holds debt) = 21 ∷ []
refusals_in_order (Rule k c period renewals rate cap) = 21 ∷ 17 ∷ []
refusals_in_order (Grace k c days) = 21 ∷ 16 ∷ []
refusals_in_order (Patron p k card_key name) = 21 ∷ 17 ∷ 20 ∷ []
refusals_in_order (Acquire c t k home price text) = 21 ∷ 10 ∷ 20 ∷ []
refusals_in_order (SetCardKey p card_key) = 11 ∷ []
refusals_in_order (AmendPatron p k name) = 21 ∷ 11 ∷ 17 ∷ []
refusals_in_order (AmendBranch b pickup name) = 21 ∷ 10 ∷ []
refusals_in_order (AmendTitle t text) = 12 ∷ []
refusals_in_order (AmendCopy c k price) = 21 ∷ 13 ∷ []
refusals_in_order (Rehome c b) = 10 ∷ 13 ∷ 35 ∷ []
refusals_in_order (CopyBarcode c barcode) = 13 ∷ 26 ∷ []
refusals_in_order (PatronBarcode p barcode) = 11 ∷ 26 ∷ []
refusals_in_order (DropBarcode barcode) = 18 ∷ []
refusals_in_order (CheckOut p c b) = 10 ∷ 11 ∷ 13 ∷ 35 ∷ 34 ∷ 31 ∷ 32 ∷ 30 ∷ 33 ∷ 36 ∷ 50 ∷ 16 ∷ 37 ∷ 38 ∷ 70 ∷ []
refusals_in_order (CheckIn c b) = 10 ∷ 13 ∷ 35 ∷ 33 ∷ 70 ∷ []
refusals_in_order (Renew l) = 14 ∷ 40 ∷ 41 ∷ 36 ∷ 42 ∷ 38 ∷ 39 ∷ []
refusals_in_order (PlaceHold p t b d) = 11 ∷ 12 ∷ 10 ∷ 23 ∷ 50 ∷ 52 ∷ 51 ∷ 70 ∷ []
refusals_in_order (CancelHold h) = 15 ∷ 53 ∷ []
refusals_in_order (Unshelve h) = 15 ∷ 53 ∷ 54 ∷ []
refusals_in_order (UnshelveCancelled h) = 15 ∷ 53 ∷ []
refusals_in_order (Missing c) = 13 ∷ 35 ∷ 34 ∷ 70 ∷ []
refusals_in_order (Withdraw c) = 13 ∷ 35 ∷ 31 ∷ 32 ∷ 33 ∷ []
refusals_in_order (Pay p n) = 11 ∷ 60 ∷ 70 ∷ []
refusals_in_order (Waive p n) = 11 ∷ 60 ∷ 70 ∷ []
refusals_in_order (Charge p n b text) = 21 ∷ 11 ∷ 10 ∷ 60 ∷ 70 ∷ []
refusals_in_order (PayAt p n b) = 11 ∷ 10 ∷ 60 ∷ 70 ∷ []
refusals_in_order (Page p) = 11 ∷ []
refusals_in_order (Ask question) = refusals_asked question

-- Each check passes.
abbrev pub ArePassed : List Check → Type 0
ArePassed = AllByRecursion (λ k. k.1 ≡ false)

-- The check with this refusal fails, and each one before it passes.
pub record IsFirstFailing (refused : Refusal) (ks : List Check) : Type 0 where
  pub before : List Check
  pub after : List Check
  pub is : ks ≡ before ++ (refused, true) ∷ after
  pub passed : ArePassed before

-- The checks of a command stand in that order. The refusal is that of the first one that fails, and there is
-- none only if each passes.
pub record IsRefusedInOrder (H : History) (o : Owner) (c : Command) : Type 0 where
  pub order : map (λ (k : Check). refusal_number k.0) (checks H o c) ≡ refusals_in_order c
  pub first : IfSome (refusal H o c) (λ refused. IsFirstFailing refused (checks H o c))
  pub none : refusal H o c ≡ None → ArePassed (checks H o c)

-- Whichever command comes after whichever history.
abbrev pub RefusedInOrder : Type 0
RefusedInOrder = (H : History) (o : Owner) (c : Command) → IsRefusedInOrder H o c
