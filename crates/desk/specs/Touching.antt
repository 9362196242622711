-- Which patrons' own rows a command changes.
use Rattle.std.specs.Prelude.{◌≡◌, ◌==◌, ◌⊎◌, ℕ, true, false, List, [], ◌∷◌, Option, Some, None, Ok}
use Rattle.std.specs.List.{list_any, filter_map}
use Rattle.terms.specs.declared.command.Command.{Command}
use Rattle.terms.specs.declared.command.Command.TheVariants.{AmendTitle}
use Rattle.terms.specs.declared.row.CopyRow.{CopyRow}
use Rattle.terms.specs.declared.row.LoanRow.{LoanRow}
use Rattle.terms.specs.declared.row.HoldRow.{HoldRow}
use Rattle.circ_core.specs.Deciding.{DecidesOn}
use Rattle.circ_core.specs.Views.{IsViewOf}
use Rattle.circ_core.specs.declared.changes.Decision.{Decision}
use Rattle.circ_core.specs.declared.changes.RowChange.{RowChange}
use Rattle.circ_core.specs.declared.changes.RowChange.TheVariants.{PutPatron, PutLoan, PutHold}
use Rattle.circ_core.specs.declared.views.View.{View}
use Rattle.model.specs.History.{History}
use Rattle.model.specs.Laws.{KeepsOwnRows, KeepsOwnTitles, is_active_state}
use Rattle.model.specs.Picture.{picture}

-- The patron whose own row (patron, loan or hold) a change puts.
abbrev pub patron_put : RowChange → Option ℕ
patron_put (PutPatron row) = Some row.patron
patron_put (PutLoan row) = Some row.patron
patron_put (PutHold row) = Some row.patron
patron_put _ = None

-- The patrons whose own rows the changes put, in the changes' order.
abbrev pub patrons_put : List RowChange → List ℕ
patrons_put changes = filter_map patron_put changes

-- The second list of accepted requests leaves unchanged the own rows of every patron not among these, and the
-- titles of that patron's open loans and active holds.
abbrev pub KeepsOthers : List ℕ → History → History → Type 0
KeepsOthers touched H K = (p : ℕ) → list_any (λ q. q == p) touched ≡ false
    → KeepsOwnRows (picture H) (picture K) p × KeepsOwnTitles (picture H) (picture K) p

-- ---- the readers of a title

-- The patron is among these.
abbrev pub IsAmong : List ℕ → ℕ → Type 0
IsAmong patrons p = list_any (λ q. q == p) patrons ≡ true

-- These patrons are those of whom this holds, and no others.
pub record AreExactly (Is : ℕ → Type 0) (patrons : List ℕ) : Type 0 where
  pub only : (p : ℕ) → IsAmong patrons p → Is p
  pub all : (p : ℕ) → Is p → IsAmong patrons p

-- To the patrons were added those of whom this holds, and no others.
pub record Adds (Is : ℕ → Type 0) (old new : List ℕ) : Type 0 where
  pub only : (p : ℕ) → IsAmong new p → IsAmong old p ⊎ Is p
  pub kept : (p : ℕ) → IsAmong old p → IsAmong new p
  pub all : (p : ℕ) → Is p → IsAmong new p

-- The patron of the loan, if there is one.
abbrev pub borrower_of : Option LoanRow → List ℕ
borrower_of (Some row) = row.patron ∷ []
borrower_of None = []

-- The patron has an open loan of the copy.
abbrev pub HasLoanOf : History → ℕ → ℕ → Type 0
HasLoanOf H copy p = (l : ℕ) × (r : LoanRow) × ((picture H).loans l ≡ Some r) × (r.copy ≡ copy) × (r.ended ≡ None) × (r.patron ≡ p)

-- The patron has an open loan of one of these copies.
abbrev pub HasLoanAmong : History → List CopyRow → ℕ → Type 0
HasLoanAmong H [] p = ⊥
HasLoanAmong H (copy ∷ copies) p = HasLoanOf H copy.copy p ⊎ HasLoanAmong H copies p

-- The patron has an open loan of a copy of the title.
abbrev pub HasLoan : History → ℕ → ℕ → Type 0
HasLoan H title p = (l : ℕ) × (r : LoanRow) × (c : CopyRow) × ((picture H).loans l ≡ Some r) × (r.ended ≡ None)
    × ((picture H).copies r.copy ≡ Some c) × (c.title ≡ title) × (r.patron ≡ p)

-- The patron has an active hold on the title.
abbrev pub HasHold : History → ℕ → ℕ → Type 0
HasHold H title p = (h : ℕ) × (r : HoldRow) × ((picture H).holds h ≡ Some r) × (is_active_state r.state ≡ true) × (r.title ≡ title) × (r.patron ≡ p)

-- The page of the patron shows the title.
abbrev pub IsReader : History → ℕ → ℕ → Type 0
IsReader H title p = HasLoan H title p ⊎ HasHold H title p

-- An amend-title changes what its title's readers see; no other command changes a text that is there.
abbrev pub IsReaderFor : History → Command → ℕ → Type 0
IsReaderFor H (AmendTitle title text) p = IsReader H title p
IsReaderFor H _ p = ⊥

-- ---- whom a command touches

-- The command's changes put a row of the patron's own: they are decided on the rows of its view.
abbrev pub PutsOwnRow : History → Command → ℕ → Type 0
PutsOwnRow H command p = (view : View) × (decision : Decision) × IsViewOf (picture H) command view
    × DecidesOn view command (Ok decision) × IsAmong (patrons_put decision.changes) p

-- The patron's page may be another one after the command.
abbrev pub IsTouched : History → Command → ℕ → Type 0
IsTouched H command p = IsReaderFor H command p ⊎ PutsOwnRow H command p
