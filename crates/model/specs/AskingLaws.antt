-- Laws of the desk's questions: lists asked for part by part, and whose turn it is.
use Rattle.std.specs.Prelude.{◌≡◌, ℕ, ◌<◌, ◌==◌, ◌↔◌, true, List, [], ◌∷◌, ◌++◌, filter, map, length, replicate, Some, None, is_some}
use Rattle.std.specs.List.{list_any}
use Rattle.model.specs.History.{History, copy_of, patron_of, title_of}
use Rattle.model.specs.Places.{Place, Shelf, place, route, title_of_copy, home_of}
use Rattle.model.specs.Asking.{shown_from, left_from, last_of, above, pulled_for, travels_for}
use Rattle.finding.specs.Finding.{finds}
use Rattle.model.specs.Asking.{Search, found_from, reached_from, unseen_from, patrons_search, titles_search}
use Rattle.model.specs.Pages.{name_of, title_text}
use Rattle.model.specs.Asking.{copies_list, queue_list, account_list, debts_list, overdue_list, shelf_list, pulls_list, transits_list}
use Rattle.model.specs.Asking.{branches_list, closed_days_list, kinds_list, rules_list, missing_copies_list, loans_list}
use Rattle.model.specs.Invariant.{Serves}
use Rattle.model.specs.Accounts.{lines, nth_line, account, charges, credits}
use Rattle.model.specs.Picture.{picture}
use Rattle.model.specs.Claims.{Claims}
use Rattle.model.specs.Requests.{IsLegal}

-- ---- lists, part by part

-- Ascending numbers, all above this one.
abbrev pub Rises : ℕ → List ℕ → Type 0
Rises before [] = Unit {0}
Rises before (n ∷ ns) = (before < n) × Rises n ns

abbrev pub AreRising : List ℕ → Type 0
AreRising [] = Unit {0}
AreRising (n ∷ ns) = Rises n ns

-- The list contains the number.
abbrev pub has_number : List ℕ → ℕ → Type 0
has_number numbers n = list_any (λ m. m == n) numbers ≡ true

-- Each list is ascending and contains the number.
abbrev pub AllHave : ℕ → List (List ℕ) → Type 0
AllHave n [] = Unit {0}
AllHave n (numbers ∷ later) = AreRising numbers × has_number numbers n × AllHave n later

-- What follows a part of a list, if anything is left.
abbrev pub if_left : List ℕ → List ℕ → List ℕ
if_left [] more = []
if_left (next ∷ others) more = more

abbrev pub IfLeft : List ℕ → Type 0 → Type 0
IfLeft [] More = Unit {0}
IfLeft (next ∷ others) More = More

-- What is shown of a list that is asked for repeatedly, each time after the last number shown, until nothing
-- is left. The list may change: each call sees the next of these lists.
abbrev pub shown_in_turn : List (List ℕ) → ℕ → List ℕ
shown_in_turn [] after = []
shown_in_turn (numbers ∷ later) after =
    shown_from numbers after ++ if_left (left_from numbers after) (shown_in_turn later (last_of after (shown_from numbers after)))

-- It is asked for until nothing is left.
abbrev pub IsAskedToItsEnd : List (List ℕ) → ℕ → Type 0
IsAskedToItsEnd [] after = ⊥
IsAskedToItsEnd (numbers ∷ later) after = IfLeft (left_from numbers after) (IsAskedToItsEnd later (last_of after (shown_from numbers after)))

-- How often a number is shown.
abbrev pub times : List ℕ → ℕ → ℕ
times numbers n = length (filter (λ m. m == n) numbers)

-- A number that is in the list all the time is shown exactly once.
abbrev pub ListsShowOnce : Type 0
ListsShowOnce = (lists : List (List ℕ)) (after n : ℕ) → after < n → AllHave n lists → IsAskedToItsEnd lists after → times (shown_in_turn lists after) n ≡ 1

-- ---- searches, part by part

-- Each search's rows are ascending, contain the number, and are found there.
abbrev pub AllFind : ℕ → List Search → Type 0
AllFind n [] = Unit {0}
AllFind n (x ∷ later) = AreRising x.all.numbers × has_number x.all.numbers n × (x.finds n ≡ true) × AllFind n later

-- What is shown by a search that is asked for repeatedly, each time from where it stopped, until nothing is left.
-- The rows and what is found may change: each call sees the next of these searches.
abbrev pub found_in_turn : List Search → ℕ → List ℕ
found_in_turn [] after = []
found_in_turn (x ∷ later) after = found_from x after ++ if_left (unseen_from x after) (found_in_turn later (reached_from x after))

-- It is asked for until nothing is left.
abbrev pub IsSearchedToItsEnd : List Search → ℕ → Type 0
IsSearchedToItsEnd [] after = ⊥
IsSearchedToItsEnd (x ∷ later) after = IfLeft (unseen_from x after) (IsSearchedToItsEnd later (reached_from x after))

-- A row that is there and found all the time is shown exactly once.
abbrev pub SearchesShowOnce : Type 0
SearchesShowOnce = (searches : List Search) (after n : ℕ) → after < n → AllFind n searches → IsSearchedToItsEnd searches after
    → times (found_in_turn searches after) n ≡ 1

-- If nothing changes meanwhile, exactly the rows found are shown, in order.
abbrev pub SearchesShowFound : Type 0
SearchesShowFound = (x : Search) (calls after : ℕ) → AreRising x.all.numbers → IsSearchedToItsEnd (replicate calls x) after
    → found_in_turn (replicate calls x) after ≡ filter x.finds (above after x.all.numbers)

-- A search goes on: if rows are left, it stopped above the number it was asked for.
abbrev pub SearchesGoOn : Type 0
SearchesGoOn = (x : Search) (after : ℕ) → AreRising x.all.numbers → IfLeft (unseen_from x after) (after < reached_from x after)

-- A patron is shown exactly if the text finds the name.
abbrev pub PatronsAreFound : Type 0
PatronsAreFound = (H : History) (text : List ℕ) (calls p : ℕ) → 0 < p → IsSearchedToItsEnd (replicate calls (patrons_search H text)) 0
    → has_number (found_in_turn (replicate calls (patrons_search H text)) 0) p
    ↔ ((is_some (patron_of H p) ≡ true) × (finds text (name_of H p) ≡ true))

-- A title is shown exactly if the text finds its text.
abbrev pub TitlesAreFound : Type 0
TitlesAreFound = (H : History) (text : List ℕ) (calls t : ℕ) → 0 < t → IsSearchedToItsEnd (replicate calls (titles_search H text)) 0
    → has_number (found_in_turn (replicate calls (titles_search H text)) 0) t
    ↔ ((is_some (title_of H t) ≡ true) × (finds text (title_text H t) ≡ true))

-- ---- the lists of the desk

-- The row numbers of each list are ascending.
pub record HasRisingLists (H : History) : Type 0 where
  pub copies : (t : ℕ) → AreRising (copies_list H t).numbers
  pub queue : (t : ℕ) → AreRising (queue_list H t).numbers
  pub account : (p : ℕ) → AreRising (account_list H p).numbers
  pub debts : AreRising (debts_list H).numbers
  pub overdue : (b : ℕ) → AreRising (overdue_list H b).numbers
  pub shelf : (b : ℕ) → AreRising (shelf_list H b).numbers
  pub pulls : (b : ℕ) → AreRising (pulls_list H b).numbers
  pub transits : (b : ℕ) → AreRising (transits_list H b).numbers
  pub found_patrons : (text : List ℕ) → AreRising (patrons_search H text).all.numbers
  pub found_titles : (text : List ℕ) → AreRising (titles_search H text).all.numbers
  pub branches : AreRising (branches_list H).numbers
  pub closed_days : (b : ℕ) → AreRising (closed_days_list H b).numbers
  pub kinds : AreRising (kinds_list H).numbers
  pub rules : (k : ℕ) → AreRising (rules_list H k).numbers
  pub missing_copies : AreRising (missing_copies_list H).numbers
  pub loans : (c : ℕ) → AreRising (loans_list H c).numbers

abbrev pub ListsRise : Type 0
ListsRise = (H : History) → HasRisingLists H

-- ---- whose turn it is

-- The first hold in a title's queue gets the next copy of the title that routing assigns: one that travels for
-- no hold.
abbrev pub ServesFirst : History → Type 0
ServesFirst H = (t h : ℕ) (hs : List ℕ) (c b : ℕ) → (queue_list H t).numbers ≡ h ∷ hs → title_of_copy H c ≡ t → travels_for (place H c) ≡ None
    → Serves (route H c b) h

abbrev pub FirstIsServed : Type 0
FirstIsServed = (H : History) → ServesFirst H

-- A copy pulled from a branch's shelves for a hold, and handed in there, goes to that hold.
abbrev pub ServesPulled : History → Type 0
ServesPulled H = (b h c : ℕ) → pulled_for H b h ≡ Some c → Serves (route H c b) h

abbrev pub PulledCopiesServe : Type 0
PulledCopiesServe = (H : History) → ServesPulled H

-- ---- who owes what

-- The debts list a patron exactly if the patron's fines, prices and charges exceed the payments and waivers.
abbrev pub ShowsDebts : History → Type 0
ShowsDebts H = (p : ℕ) → has_number (debts_list H).numbers p ↔ (credits (account H p) < charges (account H p))

abbrev pub DebtsAreShown : Type 0
DebtsAreShown = (H : History) → IsLegal H → ShowsDebts H

-- The lines shown of a patron's account are all its lines, in order: their balance is what the patron owes.
abbrev pub ShowsAccounts : History → Type 0
ShowsAccounts H = (p : ℕ) → map (nth_line (lines H)) (account_list H p).numbers ≡ map Some (account H p)

abbrev pub AccountsAreShown : Type 0
AccountsAreShown = (H : History) → ShowsAccounts H

-- ---- where copies are

-- An acquired copy is shown on the shelf of its home exactly if the tables make no claim on it. Anywhere else
-- it is shown where the claim puts it.
abbrev pub ShelvesAreUnclaimed : Type 0
ShelvesAreUnclaimed = (H : History) (c : ℕ) → IsLegal H → is_some (copy_of H c) ≡ true
    → (place H c ≡ Shelf (home_of H c)) ↔ ((q : Place) → Claims (picture H) c q → ⊥)
