-- Where a copy is, by the rows that claim it.
use Rattle.std.specs.Prelude.{◌≡◌, unwrap_or, ℕ, List, [], ◌∷◌, ◌++◌, codes, decimal, Option, Some, None, option_map}
use Rattle.std.specs.List.{join_with_byte}
use Rattle.calendar.specs.Days.{day_text}
use Rattle.circ_core.specs.declared.views.View.{View}
use Rattle.terms.specs.declared.row.CopyRow.{CopyRow}
use Rattle.terms.specs.declared.row.Condition.{Condition}
use Rattle.terms.specs.declared.row.Condition.TheVariants.{Present, Missing, Withdrawn}
use Rattle.terms.specs.declared.row.LoanRow.{LoanRow}
use Rattle.terms.specs.declared.row.HoldRow.{HoldRow}
use Rattle.terms.specs.declared.row.TransitRow.{TransitRow}
use Rattle.terms.specs.declared.row.TitleRow.{TitleRow}
use Rattle.model.specs.History.{History}
use Rattle.model.specs.Accounts.{borrower}
use Rattle.model.specs.Loans.{due}
use Rattle.model.specs.Places.{Place, Shelf, HoldShelf, Transit, Loan, MissingCopy, WithdrawnCopy, place, limit, goal_of, patron_of_hold}
use Rattle.model.specs.Pages.{spaced}
use Rattle.model.specs.Asking.{for_words, copy_line, place_line}
use Rattle.desk.specs.declared.placing.CopyPlace.{CopyPlace}
use Rattle.desk.specs.declared.placing.CopyPlace.TheVariants as at

-- A copy that no row claims is placed by its condition.
abbrev pub unclaimed : Condition → ℕ → CopyPlace
unclaimed Present home = at.Shelf home
unclaimed Missing home = at.Missing
unclaimed Withdrawn home = at.Withdrawn

-- A claimed copy is where its loan, hold or transit says; a hold with a copy on its shelf has a shelf limit.
abbrev pub by_loan : Option LoanRow → Option CopyPlace → Option CopyPlace
by_loan (Some loan) else_at = Some (at.Loan loan.loan loan.due loan.patron)
by_loan None else_at = else_at

abbrev pub by_hold : Option HoldRow → Option CopyPlace → Option CopyPlace
by_hold (Some hold) else_at = option_map (λ until. at.HoldShelf hold.hold hold.branch until hold.patron) hold.limit_day
by_hold None else_at = else_at

abbrev pub by_transit : Option TransitRow → Option CopyPlace → Option CopyPlace
by_transit (Some transit) else_at = Some (at.Transit transit.goal transit.hold)
by_transit None else_at = else_at

abbrev pub place_in : View → CopyRow → Option CopyPlace
place_in rows copy = by_loan rows.loan (by_hold rows.hold (by_transit rows.transit (Some (unclaimed copy.condition copy.home))))

-- The words for a place.
abbrev pub words_of : CopyPlace → List (List ℕ)
words_of (at.Shelf branch) = codes "shelf" ∷ decimal branch ∷ []
words_of (at.HoldShelf hold branch until patron) =
    codes "ready" ∷ decimal hold ∷ codes "at" ∷ decimal branch ∷ codes "until" ∷ day_text until ∷ []
words_of (at.Transit goal hold) = codes "transit" ∷ decimal goal ∷ for_words hold
words_of (at.Loan loan due patron) = codes "loan" ∷ decimal loan ∷ codes "due" ∷ day_text due ∷ []
words_of at.Missing = codes "missing" ∷ []
words_of at.Withdrawn = codes "withdrawn" ∷ []

-- A copy with its title.
abbrev pub copy_words : CopyRow → TitleRow → List ℕ
copy_words copy title = spaced (codes "copy" ∷ decimal copy.copy ∷ codes "home" ∷ decimal copy.home ∷ codes "kind" ∷ decimal copy.kind
    ∷ codes "price" ∷ decimal copy.price ∷ codes "title" ∷ decimal title.title ∷ title.text ∷ [])

-- A copy on its way, with its title.
abbrev pub travel_words : TransitRow → TitleRow → List ℕ
travel_words transit title =
    spaced (codes "copy" ∷ decimal transit.copy ∷ for_words transit.hold ++ codes "title" ∷ decimal title.title ∷ title.text ∷ [])

-- The words for a place.
abbrev pub IsPlace : History → CopyPlace → Place → Type 0
IsPlace H (at.Shelf branch) p = p ≡ Shelf branch
IsPlace H (at.HoldShelf hold branch until patron) p =
    (p ≡ HoldShelf hold) × (goal_of H hold ≡ branch) × (unwrap_or (limit H hold) 0 ≡ until) × (patron_of_hold H hold ≡ patron)
IsPlace H (at.Transit goal hold) p = p ≡ Transit goal hold
IsPlace H (at.Loan loan due_day patron) p = (p ≡ Loan loan) × (due H loan ≡ due_day) × (borrower H loan ≡ patron)
IsPlace H at.Missing p = p ≡ MissingCopy
IsPlace H at.Withdrawn p = p ≡ WithdrawnCopy

-- A copy is in this place.
abbrev pub IsAt : History → ℕ → CopyPlace → Type 0
IsAt H copy here = IsPlace H here (place H copy)

-- A copy, and where it is.
abbrev pub two_lines : History → ℕ → List ℕ
two_lines H c = join_with_byte 10 (copy_line H c ∷ place_line H (place H c) ∷ [])

-- Words after others, each preceded by a space.
abbrev pub after_space : List (List ℕ) → List ℕ
after_space [] = []
after_space (word ∷ words) = 32 ∷ word ++ after_space words
