-- Schedules of submissions, handlings, publishings and looks, and their results.
use Rattle.std.specs.Prelude.{◌≡◌, ℕ, ◌+◌, ◌-◌, ◌≤◌, Bool, true, List, [], ◌∷◌, ◌++◌, length, map, take, set, if◌then◌else◌, ◌==◌, ◌&&◌}
use Rattle.std.specs.Prelude.{nat_lt, nat_le, slice_index, slice_index_or, count_by, filter, fold}
use Rattle.std.specs.List.{list_all}
use Rattle.std.specs.declared.vec.Vec.{Vec}
use Rattle.std.specs.declared.alloc.Global.{Global}
use Rattle.hall_schedule.specs.declared.schedule.TheConstants.{WORKERS, PLACES}
use Rattle.hall_schedule.specs.declared.schedule.Item.{Item}
use Rattle.hall_schedule.specs.declared.schedule.Act.{Act}
use Rattle.hall_schedule.specs.declared.schedule.Act.TheVariants.{Submit, Handle, Publish, Look}
use Rattle.hall_schedule.specs.declared.schedule.World.{World}

-- ---- what a schedule makes

-- The result of a schedule. In `submitted` and in `seen`, worker w is at place w - 1.
pub record State : Type 0 where
  -- the number of acts taken
  pub taken : ℕ
  -- what each worker submitted, in order
  pub submitted : List (List ℕ)
  -- what waits for the desk
  pub queue : List Item
  -- what was handled, in order
  pub handled : List Item
  -- how many handled submissions the board shows
  pub published : ℕ
  -- how many of them each worker has seen
  pub seen : List ℕ

-- The lists that these vectors hold.
abbrev pub lists_of : List (Vec ℕ Global) → List (List ℕ)
lists_of = map (λ (v : Vec ℕ Global). v.items)

-- What the world holds.
abbrev pub state_of : World → State
state_of w = record {
  taken = w.taken;
  submitted = lists_of w.submitted;
  queue = w.queue.items;
  handled = w.handled.items;
  published = w.published;
  seen = w.seen;
}

-- Before the first act: nothing was submitted, shown or seen.
abbrev pub start : State
start = record {
  taken = 0;
  submitted = [] ∷ [] ∷ [] ∷ [] ∷ [] ∷ [] ∷ [] ∷ [] ∷ [];
  queue = [];
  handled = [];
  published = 0;
  seen = 0 ∷ 0
      ∷ 0 ∷ 0 ∷ 0 ∷ 0 ∷ 0 ∷ 0 ∷ [];
}

-- Workers are numbered from 1.
abbrev pub is_worker : ℕ → Bool
is_worker w = nat_le 1 w && nat_le w WORKERS

-- The item is worker w's.
abbrev pub is_of : ℕ → Item → Bool
is_of w item = item.worker == w

-- Worker w's requests among these, in order.
abbrev pub own : ℕ → List Item → List ℕ
own w items = map (λ item. item.request) (filter (is_of w) items)

-- What worker w submitted.
abbrev pub list_at : State → ℕ → List ℕ
list_at s w = slice_index_or s.submitted (w - 1) []

-- How many handled submissions worker w has seen.
abbrev pub seen_at : State → ℕ → ℕ
seen_at s w = slice_index s.seen (w - 1)

-- A worker may submit if the queue has a free place and the worker has seen everything it submitted handled.
abbrev pub may_submit : State → ℕ → Bool
may_submit s w = is_worker w && (nat_lt (length s.queue) PLACES && (count_by (is_of w) (take (seen_at s w) s.handled) == length (list_at s w)))

-- An impossible act is taken, and changes nothing else.
abbrev pub ticked : State → State
ticked s = record s { taken = s.taken + 1 }

-- Request r of worker w was put at the end of that worker's list and of the queue, with how many handled ones
-- the worker has seen.
abbrev pub submitted_by : State → ℕ → ℕ → State
submitted_by s w r = record s {
  taken = s.taken + 1;
  submitted = set s.submitted (w - 1) (list_at s w ++ r ∷ []);
  queue = s.queue ++ record { worker = w; request = r; seen = seen_at s w } ∷ [];
}

-- The front of this queue was moved to the end of the handled list.
abbrev pub handle : State → List Item → State
handle s [] = ticked s
handle s (item ∷ queue) = record s { taken = s.taken + 1; queue = queue; handled = s.handled ++ item ∷ [] }

-- One act.
abbrev pub step : State → Act → State
step s (Submit w r) = if may_submit s w then submitted_by s w r else ticked s
step s Handle = handle s s.queue
step s Publish = record s { taken = s.taken + 1; published = length s.handled }
step s (Look w) = if is_worker w then record s { taken = s.taken + 1; seen = set s.seen (w - 1) s.published } else ticked s

-- The acts, in order.
abbrev pub run : List Act → State
run acts = fold step start acts

-- ---- what holds after every schedule

-- If n items precede these, each follows as many as its worker had seen when it submitted it.
abbrev pub StandsAfter : ℕ → List Item → Type 0
StandsAfter n [] = Unit {0}
StandsAfter n (item ∷ items) = (item.seen ≤ n) × StandsAfter (n + 1) items

-- The worker has seen handled all that it submitted, except at most the last.
abbrev pub HasSeenMost : State → ℕ → Type 0
HasSeenMost s w = (rest : List ℕ) × (list_at s w ≡ own w (take (seen_at s w) s.handled) ++ rest) × (length rest ≤ 1)

-- What holds of each worker and the board after any schedule.
pub record IsLawful (s : State) : Type 0 where
  -- there are lists and lengths for eight workers
  pub eight : (length s.submitted ≡ 8) × (length s.seen ≡ 8)
  -- what was handled and then what is queued has exactly what each worker submitted, in order
  pub each : (w : ℕ) → is_worker w ≡ true → own w (s.handled ++ s.queue) ≡ list_at s w
  -- and nothing of anybody else
  pub none_else : list_all (λ (item : Item). is_worker item.worker) (s.handled ++ s.queue) ≡ true
  -- no more is shown than was handled
  pub published : s.published ≤ length s.handled
  -- no worker has seen more than is shown
  pub seen : (w : ℕ) → is_worker w ≡ true → seen_at s w ≤ s.published
  -- each item follows what its worker had seen when submitting it
  pub after : StandsAfter 0 (s.handled ++ s.queue)
  -- each worker has seen all its submissions handled, except at most the last
  pub most : (w : ℕ) → is_worker w ≡ true → HasSeenMost s w
