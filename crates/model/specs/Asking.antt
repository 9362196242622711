-- What the desk's questions show: where copies are, who is next, and who owes what.
use Rattle.std.specs.Prelude.{ℕ, ◌==◌, nat_lt, Bool, true, false, ◌&&◌, if◌then◌else◌, List, [], ◌∷◌, ◌++◌, map, filter, take, drop, length}
use Rattle.std.specs.Prelude.{slice_get, codes, decimal, Option, Some, None, is_some, option_map, unwrap_or}
use Rattle.std.specs.List.{join_with_byte}
use Rattle.calendar.specs.Days.{day_text}
use Rattle.finding.specs.Finding.{finds}
use Rattle.terms.specs.declared.limits.TheConstants.{MOST_ROWS, MOST_LOOKED_AT}
use Rattle.terms.specs.declared.question.Question.{Question}
use Rattle.terms.specs.declared.question.Question.TheVariants as question
use Rattle.terms.specs.declared.row.Sort.{Sort}
use Rattle.terms.specs.declared.row.Sort.TheVariants.{Fine, Price, Payment, Waiver, Charge}
use Rattle.terms.specs.declared.row.Thing.{Thing}
use Rattle.terms.specs.declared.row.Thing.TheVariants as thing
use Rattle.terms.specs.Texts.{mask_text}
use Rattle.model.specs.History.{History, numbers_to, today, week_of, singles_of, branch_of, kind_of, rule_of, copy_of, patron_of, barcode_of, thing_of}
use Rattle.model.specs.History.{branches, kinds, ruled, copies, patrons, titles, loans, holds}
use Rattle.model.specs.Places.{Place, Nowhere, Shelf, HoldShelf, Transit, Loan, MissingCopy, WithdrawnCopy, place, line, limit}
use Rattle.model.specs.Places.{title_of_copy, home_of, title_of_hold, patron_of_hold, goal_of, first_day_of}
use Rattle.model.specs.Loans.{loan_of, is_loan_of_copy, due, ended, title_of_loan}
use Rattle.model.specs.Accounts.{Note, lines, nth_line, borrower, price_of, owed}
use Rattle.model.specs.Pages.{spaced, name_of, title_text, title_words, patron_line}
use Rattle.model.specs.Refusals.{is_missing}
use Rattle.model.specs.Reports.{overdue_head, overdue_loans, overdue_line, shelf_head, ready_holds, shelf_line, till_rows, till_at_rows}

-- ---- lists

-- A list that can be asked for: its head, its row numbers, ascending, and the row of each number.
pub record Listing : Type 0 where
  pub head : List (List ℕ)
  pub numbers : List ℕ
  pub row : ℕ → List ℕ

-- The last of the numbers, or `before` if there are none.
abbrev pub last_of : ℕ → List ℕ → ℕ
last_of before [] = before
last_of before (n ∷ ns) = last_of n ns

-- The last line of a part of a list: `end`, or the last number shown if more follow.
abbrev pub end_line : List ℕ → List ℕ → List ℕ
end_line shown [] = codes "end"
end_line shown (next ∷ others) = spaced (codes "after" ∷ decimal (last_of 0 shown) ∷ [])

-- A part of a list, its lines separated by newlines: head, rows shown, last line.
abbrev pub part_of_list : Listing → List ℕ → List ℕ → List ℕ
part_of_list x shown others = join_with_byte 10 (x.head ++ map x.row shown ++ end_line shown others ∷ [])

-- The numbers above this one.
abbrev pub above : ℕ → List ℕ → List ℕ
above after numbers = filter (λ n. nat_lt after n) numbers

-- The first hundred of the numbers above this one, which are shown, and the rest, which are left.
abbrev pub shown_from : List ℕ → ℕ → List ℕ
shown_from numbers after = take MOST_ROWS (above after numbers)

abbrev pub left_from : List ℕ → ℕ → List ℕ
left_from numbers after = drop MOST_ROWS (above after numbers)

-- What a list shows when asked for after a number.
abbrev pub listed : Listing → ℕ → List ℕ
listed x after = part_of_list x (shown_from x.numbers after) (left_from x.numbers after)

-- ---- searches

-- A search: all rows that it could show, and which of them it finds.
pub record Search : Type 0 where
  pub all : Listing
  pub finds : ℕ → Bool

-- The rows above a number that it looks at.
abbrev pub looked_at : Search → ℕ → List ℕ
looked_at x after = take MOST_LOOKED_AT (above after x.all.numbers)

-- The first hundred that it finds among them, which are shown.
abbrev pub found_from : Search → ℕ → List ℕ
found_from x after = take MOST_ROWS (filter x.finds (looked_at x after))

-- Where it stops: at the last row shown if a hundred are shown, otherwise at the last one looked at.
abbrev pub reached_from : Search → ℕ → ℕ
reached_from x after = last_of after (if length (found_from x after) == MOST_ROWS then found_from x after else looked_at x after)

-- The rows above that, which are left.
abbrev pub unseen_from : Search → ℕ → List ℕ
unseen_from x after = above (reached_from x after) x.all.numbers

-- The last line of an answer: `end`, or where the search stopped if rows are left.
abbrev pub stop_line : ℕ → List ℕ → List ℕ
stop_line reached [] = codes "end"
stop_line reached (next ∷ others) = spaced (codes "after" ∷ decimal reached ∷ [])

-- What a search shows when asked for after a number.
abbrev pub searched : Search → ℕ → List ℕ
searched x after =
    join_with_byte 10 (x.all.head ++ map x.all.row (found_from x after) ++ stop_line (reached_from x after) (unseen_from x after) ∷ [])

-- ---- ascending numbers

-- Inserts a number into ascending numbers, unless it is there.
abbrev pub put_in : ℕ → List ℕ → List ℕ
put_in n [] = n ∷ []
put_in n (m ∷ ms) = if nat_lt n m then n ∷ m ∷ ms else (if n == m then m ∷ ms else m ∷ put_in n ms)

-- The numbers, ascending, without duplicates.
abbrev pub rising : List ℕ → List ℕ
rising [] = []
rising (n ∷ ns) = put_in n (rising ns)

-- The first of the numbers, if any.
abbrev pub first_of : List ℕ → Option ℕ
first_of numbers = slice_get numbers 0

-- The first of the numbers is this one.
abbrev pub is_first : List ℕ → ℕ → Bool
is_first [] n = false
is_first (m ∷ ms) n = m == n

-- ---- places

-- The place is the shelf of this branch.
abbrev pub is_shelf_of : ℕ → Place → Bool
is_shelf_of b (Shelf n) = n == b
is_shelf_of b _ = false

-- The place is transit to this branch.
abbrev pub is_bound_to : ℕ → Place → Bool
is_bound_to b (Transit n h) = n == b
is_bound_to b _ = false

-- The hold that a copy in this place travels for.
abbrev pub travels_for : Place → Option ℕ
travels_for (Transit n h) = h
travels_for _ = None

-- ---- words

-- The sort of a line of an account.
abbrev pub sort_word : Sort → List ℕ
sort_word Fine = codes "fine"
sort_word Price = codes "price"
sort_word Payment = codes "payment"
sort_word Waiver = codes "waiver"
sort_word Charge = codes "charge"

-- The first day of a hold, if it has one.
abbrev pub from_words : Option ℕ → List (List ℕ)
from_words None = []
from_words (Some day) = codes "from" ∷ day_text day ∷ []

-- The day a loan ended, if it has.
abbrev pub ended_words : Option ℕ → List (List ℕ)
ended_words None = []
ended_words (Some day) = codes "ended" ∷ day_text day ∷ []

-- The hold that a copy travels for, if any.
abbrev pub for_words : Option ℕ → List (List ℕ)
for_words None = []
for_words (Some h) = codes "for" ∷ decimal h ∷ []

-- What a charge is for, if the line is one.
abbrev pub text_words : Option (List ℕ) → List (List ℕ)
text_words None = []
text_words (Some text) = codes "for" ∷ text ∷ []

-- Where a line was made, and what for, if it has a note.
abbrev pub note_words : Option Note → List (List ℕ)
note_words None = []
note_words (Some note) = codes "at" ∷ decimal note.branch ∷ text_words note.text

-- The line of a barcode, if there is one.
abbrev pub barcode_lines : Option (List ℕ) → List (List ℕ)
barcode_lines None = []
barcode_lines (Some barcode) = spaced (codes "barcode" ∷ barcode ∷ []) ∷ []

-- The copy or the patron that has a barcode, if any.
abbrev pub thing_words : Option Thing → List (List ℕ)
thing_words None = []
thing_words (Some (thing.Patron p)) = codes "patron" ∷ decimal p ∷ []
thing_words (Some (thing.Copy c)) = codes "copy" ∷ decimal c ∷ []

module _ (H : History) where
  -- The place of a copy.
  abbrev pub place_words : Place → List (List ℕ)
  place_words (Shelf b) = codes "shelf" ∷ decimal b ∷ []
  place_words (HoldShelf h) =
      codes "ready" ∷ decimal h ∷ codes "at" ∷ decimal (goal_of H h) ∷ codes "until" ∷ day_text (unwrap_or (limit H h) 0) ∷ []
  place_words (Transit b h) = codes "transit" ∷ decimal b ∷ for_words h
  place_words (Loan l) = codes "loan" ∷ decimal l ∷ codes "due" ∷ day_text (due H l) ∷ []
  place_words MissingCopy = codes "missing" ∷ []
  place_words WithdrawnCopy = codes "withdrawn" ∷ []
  place_words Nowhere = []

  -- The patron of a copy in this place: its hold's or its loan's.
  abbrev pub patron_at : Place → Option ℕ
  patron_at (HoldShelf h) = Some (patron_of_hold H h)
  patron_at (Transit b h) = option_map (patron_of_hold H) h
  patron_at (Loan l) = Some (borrower H l)
  patron_at _ = None

  -- The number and name of a patron, if any.
  abbrev pub patron_words : Option ℕ → List (List ℕ)
  patron_words None = []
  patron_words (Some p) = codes "patron" ∷ decimal p ∷ name_of H p ∷ []

  -- The loan and title of an account line, if it is for a loan.
  abbrev pub loan_words : Option ℕ → List (List ℕ)
  loan_words None = []
  loan_words (Some l) = codes "loan" ∷ decimal l ∷ title_words H (title_of_loan H l)

-- ---- what is asked for

module _ (H : History) where
  -- The kind of a copy.
  abbrev pub kind_of_copy : ℕ → ℕ
  kind_of_copy c = unwrap_or (option_map (λ r. r.kind) (copy_of H c)) 0

  -- A copy.
  abbrev pub copy_line : ℕ → List ℕ
  copy_line c = spaced (codes "copy" ∷ decimal c ∷ codes "home" ∷ decimal (home_of H c) ∷ codes "kind" ∷ decimal (kind_of_copy c)
      ∷ codes "price" ∷ decimal (price_of H c) ∷ title_words H (title_of_copy H c))

  -- Where it is, and for whom.
  abbrev pub place_line : Place → List ℕ
  place_line p = spaced (place_words H p ++ patron_words H (patron_at H p))

  -- The copies of a title.
  abbrev pub copies_of : ℕ → List ℕ
  copies_of t = filter (λ c. title_of_copy H c == t) (rising (copies H))

  abbrev pub copies_list : ℕ → Listing
  copies_list t = record {
    head = spaced (title_words H t) ∷ [];
    numbers = copies_of t;
    row = λ c. spaced (codes "copy" ∷ decimal c ∷ place_words H (place H c));
  }

  -- The line of a title, with the pick-up branch of each hold.
  abbrev pub queue_list : ℕ → Listing
  queue_list t = record {
    head = spaced (title_words H t) ∷ [];
    numbers = line H t;
    row = λ h. spaced (codes "hold" ∷ decimal h ∷ codes "patron" ∷ decimal (patron_of_hold H h) ∷ codes "at" ∷ decimal (goal_of H h)
        ∷ from_words (first_day_of H h));
  }

  -- The n-th line of all accounts.
  abbrev pub account_line : ℕ → List ℕ
  account_line n = unwrap_or (option_map (λ x. spaced (codes "line" ∷ decimal n ∷ day_text x.day ∷ sort_word x.sort ∷ decimal x.amount
      ∷ loan_words H x.loan ++ note_words x.note))
      (nth_line (lines H) n)) []

  -- The line is this patron's.
  abbrev pub is_line_of : ℕ → ℕ → Bool
  is_line_of p n = unwrap_or (option_map (λ x. x.patron == p) (nth_line (lines H) n)) false

  -- A patron's account, headed by what the patron owes.
  abbrev pub account_list : ℕ → Listing
  account_list p = record {
    head = patron_line H p ∷ [];
    numbers = filter (is_line_of p) (numbers_to (length (lines H)));
    row = account_line;
  }

  -- The patrons who owe something.
  abbrev pub debts_list : Listing
  debts_list = record {
    head = [];
    numbers = filter (λ p. nat_lt 0 (owed H p)) (rising (patrons H));
    row = patron_line H;
  }

  -- The loans of the overdue report, and the holds of the shelf report.
  abbrev pub overdue_list : ℕ → Listing
  overdue_list b = record { head = overdue_head ∷ []; numbers = overdue_loans H b; row = overdue_line H b }

  abbrev pub shelf_list : ℕ → Listing
  shelf_list b = record { head = shelf_head ∷ []; numbers = ready_holds H b; row = shelf_line H }

  -- The copy to pull from the branch's shelves for a hold that is first in line: the lowest number of its
  -- title there.
  abbrev pub pulled_for : ℕ → ℕ → Option ℕ
  pulled_for b h = elim (is_first (line H (title_of_hold H h)) h)
      [ true ↦ first_of (filter (λ c. (title_of_copy H c == title_of_hold H h) && is_shelf_of b (place H c)) (rising (copies H))) | false ↦ None ]

  abbrev pub pulls_list : ℕ → Listing
  pulls_list b = record {
    head = [];
    numbers = filter (λ h. is_some (pulled_for b h)) (numbers_to (holds H));
    row = λ h. spaced (codes "hold" ∷ decimal h ∷ codes "copy" ∷ decimal (unwrap_or (pulled_for b h) 0) ∷ title_words H (title_of_hold H h));
  }

  -- The copies on their way to a branch.
  abbrev pub transits_list : ℕ → Listing
  transits_list b = record {
    head = [];
    numbers = filter (λ c. is_bound_to b (place H c)) (rising (copies H));
    row = λ c. spaced (codes "copy" ∷ decimal c ∷ for_words (travels_for (place H c)) ++ title_words H (title_of_copy H c));
  }

  -- The missing copies, each with its home.
  abbrev pub missing_copies_list : Listing
  missing_copies_list = record {
    head = [];
    numbers = filter (λ c. is_missing (place H c)) (rising (copies H));
    row = λ c. spaced (codes "copy" ∷ decimal c ∷ codes "home" ∷ decimal (home_of H c) ∷ title_words H (title_of_copy H c));
  }

  -- The loans ever made of a copy: whose each is, when it was made, when it is due, and when it ended.
  abbrev pub loans_list : ℕ → Listing
  loans_list c = record {
    head = [];
    numbers = filter (λ l. is_loan_of_copy H l c) (numbers_to (loans H));
    row = λ l. unwrap_or (option_map (λ r. spaced (codes "loan" ∷ decimal l ∷ codes "patron" ∷ decimal r.patron ∷ codes "made" ∷ day_text r.made
        ∷ codes "due" ∷ day_text (due H l) ∷ ended_words (ended H l))) (loan_of H l)) [];
  }

  -- The kind of a patron.
  abbrev pub kind_of_patron : ℕ → ℕ
  kind_of_patron p = unwrap_or (option_map (λ r. r.kind) (patron_of H p)) 0

  -- A patron, and the kind.
  abbrev pub borrower_lines : ℕ → List (List ℕ)
  borrower_lines p = patron_line H p ∷ spaced (codes "kind" ∷ decimal (kind_of_patron p) ∷ []) ∷ barcode_lines (barcode_of H (thing.Patron p))

  -- The patrons whose names the text finds.
  abbrev pub patrons_search : List ℕ → Search
  patrons_search text = record {
    all = record { head = []; numbers = rising (patrons H); row = patron_line H };
    finds = λ p. finds text (name_of H p);
  }

  -- The titles whose texts the text finds.
  abbrev pub titles_search : List ℕ → Search
  titles_search text = record {
    all = record { head = []; numbers = rising (titles H); row = λ t. spaced (title_words H t) };
    finds = λ t. finds text (title_text H t);
  }

-- ---- settings

module _ (H : History) where
  -- A branch: its pick-up period, its closed weekdays and its name.
  abbrev pub branch_line : ℕ → List ℕ
  branch_line b = unwrap_or (option_map (λ r. spaced (codes "branch" ∷ decimal b ∷ codes "pickup" ∷ decimal r.pickup
      ∷ codes "week" ∷ mask_text (week_of H b) ∷ codes "name" ∷ r.name ∷ [])) (branch_of H b)) []

  abbrev pub branches_list : Listing
  branches_list = record { head = []; numbers = rising (branches H); row = branch_line }

  -- The single closed days of a branch that are still to come, by day.
  abbrev pub closed_days_list : ℕ → Listing
  closed_days_list b = record {
    head = [];
    numbers = filter (λ d. nat_lt (today H) d) (rising (singles_of H b));
    row = λ d. spaced (codes "day" ∷ day_text d ∷ []);
  }

  -- A patron kind: how many loans and holds, and how much debt.
  abbrev pub kind_line : ℕ → List ℕ
  kind_line k = unwrap_or (option_map (λ r. spaced (codes "kind" ∷ decimal k ∷ codes "loans" ∷ decimal r.loans
      ∷ codes "holds" ∷ decimal r.holds ∷ codes "debt" ∷ decimal r.debt ∷ [])) (kind_of H k)) []

  abbrev pub kinds_list : Listing
  kinds_list = record { head = []; numbers = rising (kinds H); row = kind_line }

  -- The rule of a patron kind and a copy kind.
  abbrev pub rule_line : ℕ → ℕ → List ℕ
  rule_line k c = unwrap_or (option_map (λ r. spaced (codes "rule" ∷ decimal k ∷ decimal c ∷ codes "period" ∷ decimal r.period
      ∷ codes "renewals" ∷ decimal r.renewals ∷ codes "rate" ∷ decimal r.rate ∷ codes "cap" ∷ decimal r.cap
      ∷ codes "grace" ∷ decimal r.grace ∷ [])) (rule_of H k c)) []

  -- The rules of a patron kind, by copy kind.
  abbrev pub rules_list : ℕ → Listing
  rules_list k = record { head = []; numbers = rising (ruled H k); row = rule_line k }

-- What a question shows after a history.
abbrev pub asked : History → Question → List ℕ
asked H (question.Copy c) = join_with_byte 10 (copy_line H c ∷ place_line H (place H c) ∷ barcode_lines (barcode_of H (thing.Copy c)))
asked H (question.Copies t after) = listed (copies_list H t) after
asked H (question.Queue t after) = listed (queue_list H t) after
asked H (question.Account p after) = listed (account_list H p) after
asked H (question.Debts after) = listed (debts_list H) after
asked H (question.Overdue b after) = listed (overdue_list H b) after
asked H (question.Shelf b after) = listed (shelf_list H b) after
asked H (question.Pulls b after) = listed (pulls_list H b) after
asked H (question.Transits b after) = listed (transits_list H b) after
asked H (question.Till d) = join_with_byte 10 (till_rows H d)
asked H question.Today = spaced (codes "today" ∷ day_text (today H) ∷ [])
asked H (question.Borrower p) = join_with_byte 10 (borrower_lines H p)
asked H (question.FindPatrons after text) = searched (patrons_search H text) after
asked H (question.FindTitles after text) = searched (titles_search H text) after
asked H (question.Branches after) = listed (branches_list H) after
asked H (question.ClosedDays b after) = listed (closed_days_list H b) after
asked H (question.Kinds after) = listed (kinds_list H) after
asked H (question.Rules k after) = listed (rules_list H k) after
asked H (question.MissingCopies after) = listed (missing_copies_list H) after
asked H (question.Loans c after) = listed (loans_list H c) after
asked H (question.FindBarcode barcode) = spaced (thing_words (thing_of H barcode))
asked H (question.TillAt b d) = join_with_byte 10 (till_at_rows H b d)
