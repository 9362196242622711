-- Who sends a request.
use Rattle.std.specs.Prelude.{ℕ}
use Rattle.terms.specs.declared.command.Caller.{Caller}
use Rattle.terms.specs.declared.command.Caller.TheVariants as caller
use Rattle.terms.specs.declared.command.Owner.{Owner}
use Rattle.terms.specs.declared.command.Owner.TheVariants as owner

-- whose keys a caller's requests have
abbrev pub owner_of : Caller → Owner
owner_of caller.Desk = owner.Desk
owner_of (caller.Patron patron card_key) = owner.Patron patron

-- 0 for the desk, else the patron
abbrev pub owner_number : Owner → ℕ
owner_number owner.Desk = 0
owner_number (owner.Patron patron) = patron
