-- The rule of the board.
use Rattle.std.specs.Prelude.{◌≡◌, ℕ, ◌+◌, Bool, true, false, List, [], ◌∷◌, length}
use Rattle.std.specs.Arc.{arc_value}
use mathlib.Core.Option.{some}
use lib.ListN.{get_elem?}
use Rattle.board.specs.declared.board.Update.{Update}
use Rattle.board.specs.declared.board.Update.TheVariants as update
use Rattle.board.specs.declared.entry.Seen.{Seen}
use Rattle.board.specs.declared.entry.Sight.{Sight}
use Rattle.desk.specs.declared.showing.OwnPage.{OwnPage}
use Rattle.logbook.specs.Pages.{Book}
use Rattle.chronicle.specs.Growing.{known}
use Rattle.board.specs.Showing.{Showing, GoesOn, IsBoardOf, AreEntries, blank, first_frame, seen_of}

-- A side that has seen nothing.
abbrev pub nothing_seen : Seen
nothing_seen = seen_of []

-- A side that has not looked.
abbrev pub no_look : Sight
no_look = record { seen = nothing_seen; looks = 0 }

-- The board with this name that shows these pages first.
abbrev pub opening : Book → List (ℕ × OwnPage) → Showing
opening book pages = blank pages (known book (first_frame pages ∷ []))

-- The name of no board.
abbrev pub no_book : Book
no_book = record { number = 0; log_name = 0; cells_name = 0 }

-- ---- what the desk's side knows

-- What was shown, what workers see of it, and the pages to be shown with the next entry.
pub record Publishing : Type 0 where
  pub shown : Seen
  pub board : Showing
  pub pages : List (ℕ × OwnPage)

-- What was shown, permanently, and what workers see of it.
pub record Stopped : Type 0 where
  pub shown : Seen
  pub board : Showing

-- Nothing more is shown.
abbrev pub as_stopped : Publishing → Stopped
as_stopped p = record { shown = p.shown; board = p.board }

-- The pages among updates.
abbrev pub pages_of : List Update → List (ℕ × OwnPage)
pages_of [] = []
pages_of (update.Page patron page ∷ us) = (patron, arc_value page) ∷ pages_of us
pages_of (update.Entry entry frames ∷ us) = pages_of us

-- No entry is among updates.
abbrev pub are_pages : List Update → Bool
are_pages [] = true
are_pages (update.Page patron page ∷ us) = are_pages us
are_pages (update.Entry entry frames ∷ us) = false

-- ---- the rule

-- The board shows the result of all that was shown.
pub record ShowsAll (all : Seen) (x : Showing) : Type 0 where
  pub board : IsBoardOf all x
  pub places : length x.last ≡ 8

-- The board shows the result of all that was shown, which it holds; what each side has seen is a beginning of
-- it.
pub record KeepsBoard (book : Book) (x : Showing) (views : List Sight) : Type 0 where
  pub name : x.frames.book ≡ book
  pub shows : ShowsAll (seen_of x.frames.items) x
  pub sound : AreEntries [] (seen_of x.frames.items).entries
  pub each : (side : ℕ) (v : Sight) → get_elem? views side ≡ some v → GoesOn (seen_of x.frames.items) v.seen

-- A look, one more: what is seen is all that was shown, which extends what was seen before, and the board
-- shows its result.
pub record LooksAtBoard (book : Book) (v : Sight) (x y : Showing) (w : Sight) : Type 0 where
  pub name : y.frames.book ≡ book
  pub is : w.seen ≡ seen_of y.frames.items
  pub more : GoesOn w.seen v.seen
  pub board : IsBoardOf w.seen y
  pub sound : AreEntries [] w.seen.entries
  pub counted : w.looks ≡ v.looks + 1

-- One more frame is shown; its publisher sees nothing by that.
abbrev pub Publishes : Sight → Showing → Showing → Sight → Type 0
Publishes v x y w = w ≡ v
