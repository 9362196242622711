-- What the desk's questions show of the tables.
use Rattle.std.specs.Prelude.{◌≡◌, ◌↔◌, ◌<◌, ℕ, true, List, ◌∷◌, replicate, Some, codes, decimal}
use Rattle.std.specs.List.{join_with_byte}
use Rattle.terms.specs.declared.question.Question.TheVariants as question
use Rattle.finding.specs.Finding.{finds}
use Rattle.terms.specs.declared.row.CopyRow.{CopyRow}
use Rattle.terms.specs.declared.row.PatronRow.{PatronRow}
use Rattle.terms.specs.declared.row.Thing.TheVariants as thing
use Rattle.terms.specs.declared.row.TitleRow.{TitleRow}
use Rattle.model.specs.Asking.{asked, barcode_lines, copy_line, place_line, place_words, copies_list, patrons_search, titles_search}
use Rattle.model.specs.AskingLaws.{ServesFirst, ServesPulled, ShowsAccounts, ShowsDebts, HasRisingLists, ListsShowOnce, has_number}
use Rattle.model.specs.AskingLaws.{SearchesShowOnce, IsSearchedToItsEnd, found_in_turn}
use Rattle.model.specs.Claims.{Claims}
use Rattle.model.specs.History.{History, barcode_of}
use Rattle.model.specs.Laws.{IsInBalance}
use Rattle.model.specs.Pages.{spaced}
use Rattle.model.specs.Picture.{Picture}
use Rattle.model.specs.RowLaws.{ShowsRows}
use Rattle.model.specs.Places.{Place, Shelf}

-- `copy` and `copies` show the copy in this place; `copy` shows its barcode too.
pub record IsToldAt (H : History) (copy : ℕ) (at : Place) : Type 0 where
  pub alone : asked H (question.Copy copy)
      ≡ join_with_byte 10 (copy_line H copy ∷ place_line H at ∷ barcode_lines (barcode_of H (thing.Copy copy)))
  pub listed : (title : ℕ)
      → (copies_list H title).row copy ≡ spaced (codes "copy" ∷ decimal copy ∷ place_words H at)

-- What is shown of the tables T after the history H:
-- each copy where the tables' claim puts it, or on the shelf of its home if they make none;
-- first in a title's queue the hold whose turn it is, and with a copy to pull the hold that it goes to;
-- the lines of a patron's account, whose balance is the debt, and among the debts whoever owes something;
-- each row of a list or a search that is asked for repeatedly exactly once;
-- and by a search the patrons and titles that its text finds.
pub record Asked (H : History) (T : Picture) : Type 0 where
  -- A copy that the tables claim is shown where the claim puts it.
  pub claimed : (copy : ℕ) (at : Place) → Claims T copy at → IsToldAt H copy at
  -- A copy that they don't claim is shown on the shelf of its home.
  pub unclaimed : (copy : ℕ) (row : CopyRow) → T.copies copy ≡ Some row
      → ((at : Place) → Claims T copy at → ⊥) → IsToldAt H copy (Shelf row.home)
  -- The first in a title's queue gets the next copy of the title that routing assigns: one that travels for
  -- no hold.
  pub first : ServesFirst H
  -- A copy to pull from a branch's shelves goes, handed in there, to the hold shown with it.
  pub pulled : ServesPulled H
  -- The lines shown of a patron's account are all of them, in order.
  pub account_lines : ShowsAccounts H
  -- Their charges are the payments and waivers plus what the head says is owed.
  pub balance : (patron : ℕ) → IsInBalance H patron
  -- The debts show exactly the patrons whose charges exceed payments and waivers.
  pub debts : ShowsDebts H
  -- Each list has exactly the numbers of the rows that pass its test, and the till's sums are those of the day's
  -- rows.
  pub rows : ShowsRows H T
  -- The numbers of each list ascend, and each row that is in a list all the time, while it is asked for after
  -- the last number shown until its end, is shown exactly once.
  pub rising : HasRisingLists H
  pub once : ListsShowOnce
  -- A row that is there and found all the time, while a search is asked for from where it stopped until its
  -- end, is shown exactly once.
  pub found_once : SearchesShowOnce
  -- Of the rows of patrons and titles, those are shown whose name or text is found.
  pub found_patrons : (text : List ℕ) (calls patron : ℕ) (row : PatronRow) → 0 < patron → T.patrons patron ≡ Some row
      → IsSearchedToItsEnd (replicate calls (patrons_search H text)) 0
      → has_number (found_in_turn (replicate calls (patrons_search H text)) 0) patron ↔ (finds text row.name ≡ true)
  pub found_titles : (text : List ℕ) (calls title : ℕ) (row : TitleRow) → 0 < title → T.titles title ≡ Some row
      → IsSearchedToItsEnd (replicate calls (titles_search H text)) 0
      → has_number (found_in_turn (replicate calls (titles_search H text)) 0) title ↔ (finds text row.text ≡ true)
