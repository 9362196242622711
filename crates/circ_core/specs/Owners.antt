-- What patrons learn of loans and holds: others' don't exist for them.
use Rattle.std.specs.Prelude.{◌≡◌, ℕ, ◌==◌, Bool, true, false, Some, None}
use Rattle.terms.specs.declared.command.Owner.TheVariants.{Desk, Patron as Reader}
use Rattle.terms.specs.declared.command.Command.{Command}
use Rattle.terms.specs.declared.command.Command.TheVariants.{Renew, CancelHold, Unshelve, UnshelveCancelled}
use Rattle.terms.specs.declared.refusal.Refusal.TheVariants.{UnknownLoan, UnknownHold}
use Rattle.terms.specs.declared.row.LoanRow.{LoanRow}
use Rattle.terms.specs.declared.row.HoldRow.{HoldRow}
use Rattle.model.specs.History.{History}
use Rattle.model.specs.Refusals.{refusal}
use Rattle.model.specs.Requests.{IsLegal}
use Rattle.model.specs.Picture.{picture}

-- The command names a loan or a hold.
abbrev pub names_one : Command → Bool
names_one (Renew loan) = true
names_one (CancelHold hold) = true
names_one (Unshelve hold) = true
names_one (UnshelveCancelled hold) = true
names_one _ = false

-- Another's loan is refused as unknown; one's own, or a nonexistent one, as to the desk.
pub record LoansApart (H : History) (p l : ℕ) : Type 0 where
  pub others : (r : LoanRow) → (picture H).loans l ≡ Some r → (r.patron == p) ≡ false → refusal H (Reader p) (Renew l) ≡ Some UnknownLoan
  pub own : (r : LoanRow) → (picture H).loans l ≡ Some r → (r.patron == p) ≡ true → refusal H (Reader p) (Renew l) ≡ refusal H Desk (Renew l)
  pub none : (picture H).loans l ≡ None → refusal H (Reader p) (Renew l) ≡ refusal H Desk (Renew l)

-- Another's hold is refused as unknown; one's own, or a nonexistent one, as to the desk.
pub record HoldsApart (H : History) (p h : ℕ) : Type 0 where
  pub others : (r : HoldRow) → (picture H).holds h ≡ Some r → (r.patron == p) ≡ false → refusal H (Reader p) (CancelHold h) ≡ Some UnknownHold
  pub own : (r : HoldRow) → (picture H).holds h ≡ Some r → (r.patron == p) ≡ true → refusal H (Reader p) (CancelHold h) ≡ refusal H Desk (CancelHold h)
  pub none : (picture H).holds h ≡ None → refusal H (Reader p) (CancelHold h) ≡ refusal H Desk (CancelHold h)

-- To a patron others' loans and holds are unknown; a command that names neither is refused as it is to the
-- desk.
pub record OwnersApart (H : History) : Type 0 where
  pub loans : (p l : ℕ) → LoansApart H p l
  pub holds : (p h : ℕ) → HoldsApart H p h
  pub others : (p : ℕ) (command : Command) → names_one command ≡ false → refusal H (Reader p) command ≡ refusal H Desk command

-- This holds after every legal history.
abbrev pub OwnersAreKeptApart : Type 0
OwnersAreKeptApart = (H : History) → IsLegal H → OwnersApart H
