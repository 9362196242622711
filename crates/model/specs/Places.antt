-- Where each copy is, the state of each hold, and the lines of titles.
use Rattle.std.specs.Prelude.{ℕ, ◌+◌, ◌==◌, Bool, true, false, ◌&&◌, not, List, [], ◌∷◌, filter, find, Option, Some, None, is_none}
use Rattle.std.specs.Prelude.{option_map, option_and_then, unwrap_or}
use Rattle.std.specs.List.{list_any}
use Rattle.terms.specs.declared.command.Command.{Command}
use Rattle.terms.specs.declared.command.Command.TheVariants.{Acquire, Rehome, CheckOut, CheckIn, CancelHold, Unshelve, UnshelveCancelled, Missing, Withdraw}
use Rattle.terms.specs.declared.row.HoldState.{HoldState}
use Rattle.terms.specs.declared.row.HoldState.TheVariants.{Waiting, Ready, Filled, Cancelled, Expired}
use Rattle.model.specs.Calendar.{least}
use Rattle.model.specs.History.{History, numbers_to, today, is_open, branch_of, copy_of, copies, next_loan, HoldFacts, has_begun, hold_made}
use Rattle.model.specs.History.{holds, next_hold, hold_of}

-- The one place of a copy: on a branch's shelf, on the hold shelf for a hold, in transit to a branch (for a
-- hold or none), on a loan, missing or withdrawn. A copy never acquired is nowhere.
pub data Place : Type 0 where
  Nowhere : Place
  Shelf : ℕ → Place
  HoldShelf : ℕ → Place
  Transit : ℕ → Option ℕ → Place
  Loan : ℕ → Place
  MissingCopy : Place
  WithdrawnCopy : Place

-- ---- tests

-- The place is the hold shelf for h.
abbrev pub is_kept_for : Place → ℕ → Bool
is_kept_for (HoldShelf g) h = g == h
is_kept_for _ h = false

-- The place is transit for h.
abbrev pub is_bound_for : Place → ℕ → Bool
is_bound_for (Transit b (Some g)) h = g == h
is_bound_for _ h = false

-- The hold waits.
abbrev pub is_waiting : Option HoldState → Bool
is_waiting (Some Waiting) = true
is_waiting _ = false

-- The hold is ready.
abbrev pub is_ready : Option HoldState → Bool
is_ready (Some Ready) = true
is_ready _ = false

-- ---- facts by number, 0 if there are none

-- The title of a copy.
abbrev pub title_of_copy : History → ℕ → ℕ
title_of_copy H c = unwrap_or (option_map (λ r. r.title) (copy_of H c)) 0

-- The home branch of a copy.
abbrev pub home_of : History → ℕ → ℕ
home_of H c = unwrap_or (option_map (λ r. r.home) (copy_of H c)) 0

-- The title of a hold.
abbrev pub title_of_hold : History → ℕ → ℕ
title_of_hold H h = unwrap_or (option_map (λ r. r.title) (hold_of H h)) 0

-- The patron of a hold.
abbrev pub patron_of_hold : History → ℕ → ℕ
patron_of_hold H h = unwrap_or (option_map (λ r. r.patron) (hold_of H h)) 0

-- The pick-up branch of a hold.
abbrev pub goal_of : History → ℕ → ℕ
goal_of H h = unwrap_or (option_map (λ r. r.branch) (hold_of H h)) 0

-- The first day of a hold, if it has one.
abbrev pub first_day_of : History → ℕ → Option ℕ
first_day_of H h = option_and_then (λ r. r.first_day) (hold_of H h)

-- Whether a hold's first day has come, or it has none.
abbrev pub is_begun : History → ℕ → Bool
is_begun H h = has_begun (today H) (first_day_of H h)

-- The shelf limit of a hold that becomes ready now: its pick-up branch's least open day from the end of the
-- pick-up period.
abbrev pub limit_now : History → ℕ → Option ℕ
limit_now H h = least (is_open H (goal_of H h)) (today H + unwrap_or (option_map (λ r. r.pickup) (branch_of H (goal_of H h))) 0)

-- A copy that comes to the hold shelf for h sets the limit of h.
abbrev pub limit_at : History → Place → ℕ → Option ℕ → Option ℕ
limit_at H p h before = elim (is_kept_for p h) [ true ↦ limit_now H h | false ↦ before ]

-- ---- lines and routing, given the places and states before, and which holds have begun

module _ (H : History) (places : ℕ → Place) (states : ℕ → Option HoldState) (begun : ℕ → Bool) where
  -- A hold is coming while a copy is in transit for it.
  abbrev pub is_coming_by : ℕ → Bool
  is_coming_by h = list_any (λ c. is_bound_for (places c) h) (copies H)

  -- The title's waiting holds that have begun and aren't coming, lowest number first.
  abbrev pub line_by : ℕ → List ℕ
  line_by t = filter (λ h. elim (title_of_hold H h == t)
      [ true ↦ is_waiting (states h) && (not (is_coming_by h) && begun h) | false ↦ false ]) (numbers_to (holds H))

  -- The first in line gets the copy, at once or by transit; if nobody is in line it goes home.
  abbrev pub route_to : ℕ → ℕ → List ℕ → Place
  route_to c b (h ∷ hs) = elim (goal_of H h == b) [ true ↦ HoldShelf h | false ↦ Transit (goal_of H h) (Some h) ]
  route_to c b [] = elim (home_of H c == b) [ true ↦ Shelf b | false ↦ Transit (home_of H c) None ]

  -- A copy in transit for a hold goes on its hold shelf at the goal, and stays in transit elsewhere; any
  -- other copy goes to the line of its title.
  abbrev pub route_from : ℕ → ℕ → Place → Place
  route_from c b (Transit g (Some h)) = elim (g == b) [ true ↦ HoldShelf h | false ↦ Transit g (Some h) ]
  route_from c b _ = route_to c b (line_by (title_of_copy H c))

  -- The place of a copy handed in at the branch.
  abbrev pub route_by : ℕ → ℕ → Place
  route_by c b = route_from c b (places c)

  -- The copy on the hold shelf for h.
  abbrev pub kept_for_by : ℕ → Option ℕ
  kept_for_by h = find (λ c. is_kept_for (places c) h) (copies H)

  -- A check-out from the shelf fills the first hold in line if it is this patron's.
  abbrev pub fills_first : ℕ → List ℕ → ℕ → Bool
  fills_first p [] h = false
  fills_first p (g ∷ gs) h = (g == h) && (patron_of_hold H g == p)

  -- A check-out from a hold shelf fills that shelf's hold; one from the shelf may fill the first in line.
  abbrev pub fills_from : ℕ → ℕ → Place → ℕ → Bool
  fills_from p c (HoldShelf g) h = g == h
  fills_from p c (Shelf b) h = fills_first p (line_by (title_of_copy H c)) h
  fills_from p c _ h = false

  -- Whether a check-out of the copy by the patron fills the hold h.
  abbrev pub fills_by : ℕ → ℕ → ℕ → Bool
  fills_by p c h = fills_from p c (places c) h

  -- A copy on the hold shelf for g is routed at the pick-up branch of g.
  abbrev pub place_unshelved : ℕ → ℕ → Place
  place_unshelved g c = elim (is_kept_for (places c) g) [ true ↦ route_by c (goal_of H g) | false ↦ places c ]

  -- A copy that travelled for g travels on for no hold.
  abbrev pub place_let_go : ℕ → Place → Place
  place_let_go g (Transit b (Some h)) = elim (g == h) [ true ↦ Transit b None | false ↦ Transit b (Some h) ]
  place_let_go g p = p

  -- A copy on the shelf of another branch than its new home is in transit to it, for no hold; every other copy
  -- stays where it is.
  abbrev pub place_rehomed : ℕ → Place → Place
  place_rehomed b (Shelf g) = elim (g == b) [ true ↦ Shelf g | false ↦ Transit b None ]
  place_rehomed b p = p

  -- Where a command leaves a copy.
  abbrev pub place_after : Command → ℕ → Place
  place_after (Acquire n title kind home price text) c =
      elim (is_none (copy_of H n)) [ true ↦ elim (n == c) [ true ↦ Shelf home | false ↦ places c ] | false ↦ places c ]
  place_after (Rehome n b) c = elim (n == c) [ true ↦ place_rehomed b (places n) | false ↦ places c ]
  place_after (CheckOut p n b) c = elim (n == c) [ true ↦ Loan (next_loan H) | false ↦ places c ]
  place_after (CheckIn n b) c = elim (n == c) [ true ↦ route_by n b | false ↦ places c ]
  place_after (CancelHold g) c = place_let_go g (places c)
  place_after (Unshelve g) c = place_unshelved g c
  place_after (UnshelveCancelled g) c = place_unshelved g c
  place_after (Missing n) c = elim (n == c) [ true ↦ MissingCopy | false ↦ places c ]
  place_after (Withdraw n) c = elim (n == c) [ true ↦ WithdrawnCopy | false ↦ places c ]
  place_after _ c = places c

  -- A copy that comes to the hold shelf for h makes h ready.
  abbrev pub state_at : Place → ℕ → Option HoldState
  state_at p h = elim (is_kept_for p h) [ true ↦ Some Ready | false ↦ states h ]

  -- The hold g ends in the given state, and its copy may make another hold ready.
  abbrev pub state_unshelved : ℕ → HoldState → Option ℕ → ℕ → Option HoldState
  state_unshelved g ends None h = elim (g == h) [ true ↦ Some ends | false ↦ states h ]
  state_unshelved g ends (Some c) h = elim (g == h) [ true ↦ Some ends | false ↦ state_at (route_by c (goal_of H g)) h ]

  -- The state of a hold after a command that makes none.
  abbrev pub state_moved : Command → ℕ → Option HoldState
  state_moved (CheckOut p c b) h = elim (fills_by p c h) [ true ↦ Some Filled | false ↦ states h ]
  state_moved (CheckIn c b) h = state_at (route_by c b) h
  state_moved (CancelHold g) h = elim (g == h) [ true ↦ Some Cancelled | false ↦ states h ]
  state_moved (Unshelve g) h = state_unshelved g Expired (kept_for_by g) h
  state_moved (UnshelveCancelled g) h = state_unshelved g Cancelled (kept_for_by g) h
  state_moved (Missing c) h = elim (is_kept_for (places c) h) [ true ↦ Some Waiting | false ↦ states h ]
  state_moved _ h = states h

  -- A new hold waits.
  abbrev pub state_made : Option HoldFacts → Command → ℕ → Option HoldState
  state_made (Some made) c h = elim (next_hold H == h) [ true ↦ Some Waiting | false ↦ states h ]
  state_made None c h = state_moved c h

  -- The state of a hold after a command.
  abbrev pub state_after : Command → ℕ → Option HoldState
  state_after c h = state_made (hold_made c) c h

  -- The place that unshelving the hold g gives the copy on its shelf.
  abbrev pub unshelved_to_by : ℕ → Option ℕ → Place
  unshelved_to_by g (Some c) = route_by c (goal_of H g)
  unshelved_to_by g None = Nowhere

  -- Commands that may bring a copy to a hold shelf may set a limit.
  abbrev pub limit_after_by : Command → ℕ → Option ℕ → Option ℕ
  limit_after_by (CheckIn c b) h before = limit_at H (route_by c b) h before
  limit_after_by (Unshelve g) h before = limit_at H (unshelved_to_by g (kept_for_by g)) h before
  limit_after_by (UnshelveCancelled g) h before = limit_at H (unshelved_to_by g (kept_for_by g)) h before
  limit_after_by _ h before = before

-- ---- the definitions

abbrev mutual
  -- A copy is where the last command that moved it left it.
  pub place : History → ℕ → Place
  place [] c = Nowhere
  place (e ∷ H) c = place_after H (place H) (state H) (is_begun H) e.command c

  -- A hold is in the state in which the last command that touched it left it.
  pub state : History → ℕ → Option HoldState
  state [] h = None
  state (e ∷ H) h = state_after H (place H) (state H) (is_begun H) e.command h

-- A hold is coming while a copy is in transit for it.
abbrev pub is_coming : History → ℕ → Bool
is_coming H h = is_coming_by H (place H) (state H) (is_begun H) h

-- The line of a title: its waiting holds that aren't coming and have no first day after today, lowest number
-- first.
abbrev pub line : History → ℕ → List ℕ
line H t = line_by H (place H) (state H) (is_begun H) t

-- The place that routing gives a copy handed in at the branch.
abbrev pub route : History → ℕ → ℕ → Place
route H c b = route_by H (place H) (state H) (is_begun H) c b

-- The copy on the hold shelf for h.
abbrev pub kept_for : History → ℕ → Option ℕ
kept_for H h = kept_for_by H (place H) (state H) (is_begun H) h

-- Whether a check-out of the copy by the patron fills the hold h.
abbrev pub fills : History → ℕ → ℕ → ℕ → Bool
fills H p c h = fills_by H (place H) (state H) (is_begun H) p c h

-- The place that unshelving the hold g gives the copy on its shelf.
abbrev pub unshelved_to : History → ℕ → Option ℕ → Place
unshelved_to H g c = unshelved_to_by H (place H) (state H) (is_begun H) g c

-- The shelf limit of a hold after a command.
abbrev pub limit_after : History → Command → ℕ → Option ℕ → Option ℕ
limit_after H c h before = limit_after_by H (place H) (state H) (is_begun H) c h before

-- The shelf limit of a hold, as set when the hold last became ready.
abbrev pub limit : History → ℕ → Option ℕ
limit [] h = None
limit (e ∷ H) h = limit_after H e.command h (limit H h)
