-- The page of a patron.
use Rattle.std.specs.Prelude.{ℕ, Bool, true, false, List, [], ◌∷◌, ◌++◌, map, codes, decimal, Option, Some, None, option_map, unwrap_or}
use Rattle.std.specs.List.{join_with_byte}
use Rattle.calendar.specs.Days.{day_text}
use Rattle.model.specs.History.{History, patron_of, title_of}
use Rattle.model.specs.Places.{is_ready, goal_of, title_of_hold, first_day_of}
use Rattle.model.specs.Loans.{due, renewals_left, open_loans, title_of_loan}
use Rattle.model.specs.Sights.{Sight, sight, owed_seen}
use Rattle.model.specs.Refusals.{active_holds_by}

-- Words joined by single spaces.
abbrev pub spaced : List (List ℕ) → List ℕ
spaced words = join_with_byte 32 words

-- The name of a patron.
abbrev pub name_of : History → ℕ → List ℕ
name_of H p = unwrap_or (option_map (λ r. r.name) (patron_of H p)) []

-- The text of a title.
abbrev pub title_text : History → ℕ → List ℕ
title_text H t = unwrap_or (title_of H t) []

-- The number and text of a title, as at the end of a page's line.
abbrev pub title_words : History → ℕ → List (List ℕ)
title_words H t = codes "title" ∷ decimal t ∷ title_text H t ∷ []

-- The first line of the page: the patron's debt and name.
abbrev pub patron_line_by : History → Sight → ℕ → List ℕ
patron_line_by H s p = spaced (codes "patron" ∷ decimal p ∷ codes "owed" ∷ decimal (owed_seen H s p) ∷ codes "name" ∷ name_of H p ∷ [])

abbrev pub patron_line : History → ℕ → List ℕ
patron_line H p = patron_line_by H (sight H) p

-- The line of an open loan.
abbrev pub loan_line : History → ℕ → List ℕ
loan_line H l =
    spaced (codes "loan" ∷ decimal l ∷ codes "due" ∷ day_text (due H l) ∷ codes "renewals" ∷ decimal (renewals_left H l) ∷ title_words H (title_of_loan H l))

-- How a hold waits: with its first day if it has one, before and after that day.
abbrev pub waiting_words : Option ℕ → List (List ℕ)
waiting_words None = codes "waiting" ∷ []
waiting_words (Some d) = codes "waiting" ∷ codes "from" ∷ day_text d ∷ []

-- An active hold's standing: it is ready, or it waits.
abbrev pub standing_words : Bool → Option ℕ → List (List ℕ)
standing_words true first_day = codes "ready" ∷ []
standing_words false first_day = waiting_words first_day

-- The line of an active hold. A coming hold is shown as waiting.
abbrev pub hold_line_by : History → Sight → ℕ → List ℕ
hold_line_by H s h =
    spaced (codes "hold" ∷ decimal h ∷ codes "at" ∷ decimal (goal_of H h) ∷ standing_words (is_ready (s.state h)) (first_day_of H h)
    ++ title_words H (title_of_hold H h))

abbrev pub hold_line : History → ℕ → List ℕ
hold_line H h = hold_line_by H (sight H) h

-- The page, given the sight: the patron's own line, the open loans, the active holds, separated by newlines.
abbrev pub page_by : History → Sight → ℕ → List ℕ
page_by H s p = join_with_byte 10 (patron_line_by H s p ∷ map (loan_line H) (open_loans H p) ++ map (hold_line_by H s) (active_holds_by H s p))

-- The page of a patron after a history.
abbrev pub page : History → ℕ → List ℕ
page H p = page_by H (sight H) p
