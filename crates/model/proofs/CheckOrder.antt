-- The order of checks is that of the table of refusals.
use Rattle.std.proofs.Common.{◌≡◌, ℕ, Bool, true, false, List, [], ◌∷◌, map, refl, ap}
use Rattle.std.specs.Prelude.{Option, Some, None, IfSome}
use Rattle.terms.specs.Texts.{refusal_number}
use Rattle.terms.specs.declared.command.Owner.{Owner}
use Rattle.terms.specs.declared.command.Command.{Command}
use Rattle.terms.specs.declared.command.Command.TheVariants.{BeginDay, Branch, Week, CloseDay, OpenDay, Kind, Rule, Grace, Patron, Acquire}
use Rattle.terms.specs.declared.command.Command.TheVariants.{SetCardKey, AmendPatron, AmendBranch, AmendTitle, AmendCopy, Rehome}
use Rattle.terms.specs.declared.command.Command.TheVariants.{CopyBarcode, PatronBarcode, DropBarcode, Charge, PayAt}
use Rattle.terms.specs.declared.command.Command.TheVariants.{CheckOut, CheckIn, Renew, PlaceHold, CancelHold, Unshelve, UnshelveCancelled}
use Rattle.terms.specs.declared.command.Command.TheVariants.{Missing, Withdraw, Pay, Waive, Page, Ask}
use Rattle.terms.specs.declared.question.Question.{Question}
use Rattle.terms.specs.declared.question.Question.TheVariants as question
use Rattle.terms.specs.declared.refusal.Refusal.{Refusal}
use Rattle.model.specs.CheckOrder.{ArePassed, IsFirstFailing, RefusedInOrder, refusals_asked, refusals_in_order}
use Rattle.model.specs.Checks.{Check, first_failing}
use Rattle.model.specs.History.{History}
use Rattle.model.specs.Refusals.{checks, checks_asked}

-- The number that a check tells.
abbrev told : Check → ℕ
told k = refusal_number k.0

asked-order : (H : History) (q : Question) → map told (checks_asked H q) ≡ refusals_asked q
asked-order H (question.Copy c) = refl
asked-order H (question.Copies t after) = refl
asked-order H (question.Queue t after) = refl
asked-order H (question.Account p after) = refl
asked-order H (question.Debts after) = refl
asked-order H (question.Overdue b after) = refl
asked-order H (question.Shelf b after) = refl
asked-order H (question.Pulls b after) = refl
asked-order H (question.Transits b after) = refl
asked-order H (question.Till d) = refl
asked-order H question.Today = refl
asked-order H (question.Borrower p) = refl
asked-order H (question.FindPatrons after text) = refl
asked-order H (question.FindTitles after text) = refl
asked-order H (question.Branches after) = refl
asked-order H (question.ClosedDays b after) = refl
asked-order H (question.Kinds after) = refl
asked-order H (question.Rules k after) = refl
asked-order H (question.MissingCopies after) = refl
asked-order H (question.Loans c after) = refl
asked-order H (question.FindBarcode barcode) = refl
asked-order H (question.TillAt b d) = refl

order : (H : History) (o : Owner) (c : Command) → map told (checks H o c) ≡ refusals_in_order c
order H o (BeginDay d) = refl
order H o (Branch b pickup name) = refl
order H o (Week b closed) = refl
order H o (CloseDay b d) = refl
order H o (OpenDay b d) = refl
order H o (Kind k loans holds debt) = refl
order H o (Rule k c period renewals rate cap) = refl
order H o (Grace k c days) = refl
order H o (Patron p k card_key name) = refl
order H o (Acquire c t k home price text) = refl
order H o (SetCardKey p card_key) = refl
order H o (AmendPatron p k name) = refl
order H o (AmendBranch b pickup name) = refl
order H o (AmendTitle t text) = refl
order H o (AmendCopy c k price) = refl
order H o (Rehome c b) = refl
order H o (CopyBarcode c barcode) = refl
order H o (PatronBarcode p barcode) = refl
order H o (DropBarcode barcode) = refl
order H o (CheckOut p c b) = refl
order H o (CheckIn c b) = refl
order H o (Renew l) = refl
order H o (PlaceHold p t b d) = refl
order H o (CancelHold h) = refl
order H o (Unshelve h) = refl
order H o (UnshelveCancelled h) = refl
order H o (Missing c) = refl
order H o (Withdraw c) = refl
order H o (Pay p n) = refl
order H o (Waive p n) = refl
order H o (Charge p n b text) = refl
order H o (PayAt p n b) = refl
order H o (Page p) = refl
order H o (Ask question) = asked-order H question

later : (k : Check) (ks : List Check) → k.1 ≡ false → (o : Option Refusal) → IfSome o (λ r. IsFirstFailing r ks) → IfSome o (λ r. IsFirstFailing r (k ∷ ks))
later k ks p None first = tt
later k ks p (Some r) first =
    record { before = k ∷ first.before; after = first.after; is = ap (λ (more : List Check). k ∷ more) first.is; passed = (p, first.passed) }

first-from : (k : Check) (ks : List Check) → IfSome (first_failing ks) (λ r. IsFirstFailing r ks) → (b : Bool) → k.1 ≡ b
    → IfSome (elim b [ true ↦ Some k.0 | false ↦ first_failing ks ]) (λ r. IsFirstFailing r (k ∷ ks))
first-from k ks more true p = record { before = []; after = ks; is = ap (λ (x : Bool). (k.0, x) ∷ ks) p; passed = tt }
first-from k ks more false p = later k ks p (first_failing ks) more

first-of : (ks : List Check) → IfSome (first_failing ks) (λ r. IsFirstFailing r ks)
first-of [] = tt
first-of (k ∷ ks) = first-from k ks (first-of ks) k.1 refl

all-from : (k : Check) (ks : List Check) → (first_failing ks ≡ None → ArePassed ks) → (b : Bool) → k.1 ≡ b
    → ◌≡◌ {A = Option Refusal} (elim b [ true ↦ Some k.0 | false ↦ first_failing ks ]) None → ArePassed (k ∷ ks)
all-from k ks more true p e = let no : ⊥ = cc in absurd no
all-from k ks more false p e = (p, more e)

all-pass : (ks : List Check) → first_failing ks ≡ None → ArePassed ks
all-pass [] e = tt
all-pass (k ∷ ks) e = all-from k ks (all-pass ks) k.1 refl e

pub refused-in-order : RefusedInOrder
refused-in-order H o c = record { order = order H o c; first = first-of (checks H o c); none = all-pass (checks H o c) }
