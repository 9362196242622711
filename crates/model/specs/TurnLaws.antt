-- Whose turn each loan and renewal was, the limits that it kept, and the places that holds keep in line.
use Rattle.std.specs.Prelude.{◌≡◌, ◌≢◌, ◌⊎◌, ℕ, ◌==◌, ◌<◌, ◌≤◌, true, false, List, [], ◌∷◌, length, Option, Some, None}
use Rattle.terms.specs.declared.command.Command.{Command}
use Rattle.terms.specs.declared.command.Command.TheVariants.{BeginDay, CheckOut, Renew, PlaceHold, Missing}
use Rattle.terms.specs.declared.row.CopyRow.{CopyRow}
use Rattle.terms.specs.declared.row.HoldRow.{HoldRow}
use Rattle.terms.specs.declared.row.HoldState.TheVariants.{Filled}
use Rattle.terms.specs.declared.row.KindRow.{KindRow}
use Rattle.terms.specs.declared.row.LoanRow.{LoanRow}
use Rattle.terms.specs.declared.row.PatronRow.{PatronRow}
use Rattle.model.specs.History.{Event, History}
use Rattle.model.specs.Places.{Place, Shelf, HoldShelf, place, state, line, is_begun, title_of_copy, title_of_hold, patron_of_hold, goal_of}
use Rattle.model.specs.Loans.{open_loans, title_of_loan}
use Rattle.model.specs.Accounts.{borrower}
use Rattle.model.specs.Refusals.{kind_now, active_holds}
use Rattle.model.specs.Invariant.{Serves}
use Rattle.model.specs.Laws.{stands_in_line, is_active_state}
use Rattle.model.specs.Picture.{Picture, picture}
use Rattle.model.specs.Requests.{IsLegal}

-- Each event of the history is such an event after the history before it.
abbrev pub EachEvent : (Event → History → Type 0) → History → Type 0
EachEvent Is [] = Unit {0}
EachEvent Is (e ∷ H) = Is e H × EachEvent Is H

-- ---- turns

-- The event gives the copy to the patron for this hold: the hold is the patron's and of the copy's title, and
-- the event fills it.
pub record IsGivenFor (e : Event) (H : History) (p c h : ℕ) : Type 0 where
  pub patron : patron_of_hold H h ≡ p
  pub title : title_of_hold H h ≡ title_of_copy H c
  pub filled : state (e ∷ H) h ≡ Some Filled

-- The patron's hold is the first in the line of the copy's title, and the event gives the copy for it.
pub record IsGivenToFirst (e : Event) (H : History) (p c : ℕ) : Type 0 where
  pub hold : ℕ
  pub others : List ℕ
  pub first : line H (title_of_copy H c) ≡ hold ∷ others
  pub given : IsGivenFor e H p c hold

-- A copy is lent from this place in turn: from the branch's shelf if nobody stands in line for its title, or
-- to the first in line; from the branch's hold shelf for the hold that it was kept for; from nowhere else.
abbrev pub IsLentFrom : Event → History → ℕ → ℕ → ℕ → Place → Type 0
IsLentFrom e H p c b (Shelf n) = (n ≡ b) × ((line H (title_of_copy H c) ≡ []) ⊎ IsGivenToFirst e H p c)
IsLentFrom e H p c b (HoldShelf h) = (goal_of H h ≡ b) × IsGivenFor e H p c h
IsLentFrom e H p c b _ = ⊥

-- The hold's patron is lent a copy of its title.
pub record IsCheckOutFor (e : Event) (H : History) (h : ℕ) : Type 0 where
  pub copy : ℕ
  pub branch : ℕ
  pub command : e.command ≡ CheckOut (patron_of_hold H h) copy branch
  pub title : title_of_hold H h ≡ title_of_copy H copy

-- The event keeps to the turns.
pub record IsInTurn (e : Event) (H : History) : Type 0 where
  -- A copy is lent in turn.
  pub lent : (p c b : ℕ) → e.command ≡ CheckOut p c b → IsLentFrom e H p c b (place H c)
  -- A loan is renewed only if nobody stands in line for its title.
  pub renewed : (l : ℕ) → e.command ≡ Renew l → line H (title_of_loan H l) ≡ []
  -- A hold is filled only by lending its patron a copy of its title.
  pub filled : (h : ℕ) → state H h ≢ Some Filled → state (e ∷ H) h ≡ Some Filled → IsCheckOutFor e H h

-- Each accepted event keeps to the turns.
abbrev pub Turns : Type 0
Turns = (H : History) → IsLegal H → EachEvent IsInTurn H

-- ---- limits

-- The patron has a row, and this is the row of the patron's kind.
pub record IsOfKind (T : Picture) (p : ℕ) (k : KindRow) : Type 0 where
  pub row : PatronRow
  pub enrolled : T.patrons p ≡ Some row
  pub kind : T.kinds row.kind ≡ Some k

-- The kind that the patron has now allows it.
abbrev pub KindAllows : History → ℕ → (KindRow → Type 0) → Type 0
KindAllows H p Allows = (k : KindRow) × IsOfKind (picture H) p k × Allows k

-- The patron's row shows at most this debt.
abbrev pub OwesAtMost : History → ℕ → ℕ → Type 0
OwesAtMost H p most = (r : PatronRow) → (picture H).patrons p ≡ Some r → r.owed ≤ most

-- The event keeps to the limits of the patron's kind as they are then.
pub record IsWithinLimits (e : Event) (H : History) : Type 0 where
  -- A copy is lent to a patron with fewer open loans than the kind allows, who owes no more than it allows.
  pub lent : (p c b : ℕ) → e.command ≡ CheckOut p c b
      → KindAllows H p (λ k. (length (open_loans H p) < k.loans) × OwesAtMost H p k.debt)
  -- A loan is renewed for a patron who owes no more than the kind allows.
  pub renewed : (l : ℕ) → e.command ≡ Renew l → KindAllows H (borrower H l) (λ k. OwesAtMost H (borrower H l) k.debt)
  -- A hold is placed for a patron with fewer active holds than the kind allows.
  pub placed : (p t b : ℕ) (d : Option ℕ) → e.command ≡ PlaceHold p t b d → KindAllows H p (λ k. length (active_holds H p) < k.holds)

-- Each accepted event keeps to the limits.
abbrev pub Limits : Type 0
Limits = (H : History) → IsLegal H → EachEvent IsWithinLimits H

-- A check-out sets how many open loans its patron was allowed, a hold how many active holds.
abbrev pub loans_allowed_after : History → Command → ℕ → ℕ → ℕ
loans_allowed_after H (CheckOut q c b) p before = elim (q == p) [ true ↦ (kind_now H p).loans | false ↦ before ]
loans_allowed_after H _ p before = before

abbrev pub holds_allowed_after : History → Command → ℕ → ℕ → ℕ
holds_allowed_after H (PlaceHold q t b d) p before = elim (q == p) [ true ↦ (kind_now H p).holds | false ↦ before ]
holds_allowed_after H _ p before = before

-- How many open loans the patron's kind allowed when the patron last borrowed, and how many active holds when
-- the patron last placed one.
abbrev pub loans_allowed : History → ℕ → ℕ
loans_allowed [] p = 0
loans_allowed (e ∷ H) p = loans_allowed_after H e.command p (loans_allowed H p)

abbrev pub holds_allowed : History → ℕ → ℕ
holds_allowed [] p = 0
holds_allowed (e ∷ H) p = holds_allowed_after H e.command p (holds_allowed H p)

-- No patron has more open loans, or active holds, than were allowed when the last of them was made.
pub record HasFew (H : History) (p : ℕ) : Type 0 where
  pub loans : length (open_loans H p) ≤ loans_allowed H p
  pub holds : length (active_holds H p) ≤ holds_allowed H p

-- After every legal history it is so.
abbrev pub FewAtAllTimes : Type 0
FewAtAllTimes = (H : History) (p : ℕ) → IsLegal H → HasFew H p

-- No patron has two active holds of one title, or an active hold of a title that the patron has on loan.
pub record HasOneEach (T : Picture) : Type 0 where
  pub one_hold : (h g : ℕ) (r s : HoldRow) → T.holds h ≡ Some r → T.holds g ≡ Some s → is_active_state r.state ≡ true
      → is_active_state s.state ≡ true → r.patron ≡ s.patron → r.title ≡ s.title → h ≡ g
  pub not_on_loan : (h l : ℕ) (r : HoldRow) (x : LoanRow) (y : CopyRow) → T.holds h ≡ Some r → T.loans l ≡ Some x
      → T.copies x.copy ≡ Some y → is_active_state r.state ≡ true → x.ended ≡ None → r.patron ≡ x.patron → r.title ≡ y.title → ⊥

-- After every legal history it is so.
abbrev pub OneEach : Type 0
OneEach = (H : History) → IsLegal H → HasOneEach (picture H)

-- ---- places in line

-- The hold comes back to its line: a copy that it was to get is missing, or its first day comes.
abbrev pub ComesBack : Event → History → ℕ → Type 0
ComesBack e H g = ((c : ℕ) × (e.command ≡ Missing c) × Serves (place H c) g) ⊎ ((d : ℕ) × (e.command ≡ BeginDay d) × (is_begun H g ≡ false))

-- While a hold stands in line, a hold comes before it only by coming back.
abbrev pub KeepsPlaces : Event → History → Type 0
KeepsPlaces e H = (t g h : ℕ) → g < h → stands_in_line H t h ≡ true → stands_in_line H t g ≡ false
    → stands_in_line (e ∷ H) t g ≡ true → ComesBack e H g

-- Each accepted event lets those who stand in line keep their places.
abbrev pub PlacesKept : Type 0
PlacesKept = (H : History) → IsLegal H → EachEvent KeepsPlaces H
