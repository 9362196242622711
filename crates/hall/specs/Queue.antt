-- What the queue holds, and what each end knows of it.
use Rattle.std.specs.Prelude.{◌≡◌, ℕ, zero, suc, ◌+◌, ◌<◌, ◌≤◌, Bool, true, false, List, [], ◌∷◌, ◌++◌, length, if◌then◌else◌, ◌==◌, map, take, drop}
use mathlib.Core.Option.{some}
use lib.ListN.{get_elem?}
use Rattle.terms.specs.declared.command.Request.{Request}
use Rattle.hall.specs.declared.messages.Submission.{Submission}
use Rattle.hall.specs.declared.messages.Message.{Message}
use Rattle.hall.specs.declared.messages.Message.TheVariants.{Submit, Leave}
use Rattle.hall.specs.declared.messages.Sent.{Sent}
use Rattle.hall.specs.declared.messages.View.{View}

-- ---- messages

-- The worker that sent the message.
abbrev pub from : Message → ℕ
from (Submit s) = s.worker
from (Leave worker) = worker

-- This worker's messages among these, in order.
abbrev pub of : ℕ → List Message → List Message
of worker [] = []
of worker (m ∷ ms) = if from m == worker then m ∷ of worker ms else of worker ms

-- Each was sent by one of the workers 1 to n.
abbrev pub AreFrom : ℕ → List Message → Type 0
AreFrom n [] = Unit {0}
AreFrom n (m ∷ ms) = (1 ≤ from m) × (from m ≤ n) × AreFrom n ms

-- There is no Leave among them.
abbrev pub is_open : List Message → Bool
is_open [] = true
is_open (Submit s ∷ ms) = is_open ms
is_open (Leave worker ∷ ms) = false

-- The message is a Leave, or a submission of this number.
abbrev pub HasNumber : ℕ → Message → Type 0
HasNumber n (Submit s) = s.number ≡ n
HasNumber n (Leave worker) = Unit {0}

-- The submissions are numbered from n + 1, and nothing follows a Leave.
abbrev pub Numbered : ℕ → List Message → Type 0
Numbered n [] = Unit {0}
Numbered n (Submit s ∷ ms) = (s.number ≡ n + 1) × Numbered (n + 1) ms
Numbered n (Leave worker ∷ ms) = ms ≡ []

-- The message is its worker's next after these: the worker hasn't left, and a submission has its next number.
abbrev pub IsNext : List Message → Message → Type 0
IsNext got x = (is_open (of (from x) got) ≡ true) × HasNumber (length (of (from x) got) + 1) x

-- For each of these workers the list has exactly what it sent.
abbrev pub AreHeard : List Message → List Sent → Type 0
AreHeard all [] = Unit {0}
AreHeard all (s ∷ ss) = ((of s.worker all ≡ s.messages) × Numbered 0 s.messages) × AreHeard all ss

-- ---- submissions

-- The submissions among these messages.
abbrev pub submissions : List Message → List Submission
submissions [] = []
submissions (Submit s ∷ ms) = s ∷ submissions ms
submissions (Leave worker ∷ ms) = submissions ms

-- This worker's submissions.
abbrev pub own : ℕ → List Submission → List Submission
own worker [] = []
own worker (s ∷ ss) = if s.worker == worker then s ∷ own worker ss else own worker ss

-- The handled list: the first n submissions received.
abbrev pub handled : ℕ → List Message → List Submission
handled n got = take n (submissions got)

-- The others, in order of arrival.
abbrev pub unhandled : ℕ → List Message → List Submission
unhandled n got = drop n (submissions got)

-- Their requests.
abbrev pub requests : List Submission → List Request
requests = map (λ (s : Submission). s.request)

-- A worker's handled submissions are a beginning of what it submitted, in that order, and all of it if every
-- received submission was handled.
pub record AreFirst (worker n : ℕ) (got sent : List Message) : Type 0 where
  -- what it submitted that wasn't handled
  pub rest : List Submission
  pub begins : submissions sent ≡ own worker (handled n got) ++ rest
  pub all : n ≡ length (submissions got) → rest ≡ []

-- ---- what an end knows

-- The desk's end, before anything was sent.
abbrev pub desk_view : View
desk_view = record { sends = false; gets = true; worker = 0; sent = []; got = []; made = 0; heard = [] }

-- The end of this worker, before it sent anything.
abbrev pub worker_view : ℕ → View
worker_view worker = record { sends = true; gets = false; worker = worker; sent = []; got = []; made = 0; heard = [] }

-- The ends of the workers 1 to n.
abbrev pub worker_views : ℕ → List View
worker_views zero = []
worker_views (suc n) = worker_views n ++ worker_view (suc n) ∷ []

-- An end that was taken in.
abbrev pub spent : View
spent = record { sends = false; gets = false; worker = 0; sent = []; got = []; made = 0; heard = [] }

-- One more worker's end was made.
abbrev pub joined : View → View
joined v = record v { made = v.made + 1 }

-- A worker's end was taken in.
abbrev pub taken_in : View → View → View
taken_in v u = record v { heard = record { worker = u.worker; messages = u.sent } ∷ v.heard }

-- The message was sent.
abbrev pub sent_more : View → Message → View
sent_more v x = record v { sent = v.sent ++ x ∷ [] }

-- The message was received.
abbrev pub got_more : View → Message → View
got_more v x = record v { got = v.got ++ x ∷ [] }

-- A desk's end.
abbrev pub IsHearing : View → Type 0
IsHearing v = (v.gets ≡ true) × (v.sends ≡ false)

-- A worker's end.
abbrev pub IsSending : View → Type 0
IsSending v = (v.sends ≡ true) × (v.gets ≡ false)

-- ---- the rule

-- `seat w` is one more than the number of the end that sends for worker w, or 0. That end knows what the
-- worker sent.
abbrev pub FitsSender : (ℕ → ℕ) → (ℕ → List Message) → ℕ → View → Type 0
FitsSender seat sent pass v = v.sends ≡ true → (seat v.worker ≡ suc pass) × (v.sent ≡ sent v.worker)

-- These workers have left permanently: no end sends for them.
abbrev pub HaveLeft : ℕ → (ℕ → ℕ) → (ℕ → List Message) → List Sent → Type 0
HaveLeft made seat sent [] = Unit {0}
HaveLeft made seat sent (s ∷ ss) =
    ((s.worker ≤ made) × (seat s.worker ≡ 0) × (s.messages ≡ sent s.worker)) × HaveLeft made seat sent ss

-- One end receives, and knows what was received; workers without an end sent nothing.
abbrev pub FitsReceiver : ℕ → (ℕ → ℕ) → (ℕ → List Message) → List Message → ℕ → View → Type 0
FitsReceiver reader seat sent got pass v =
    v.gets ≡ true
    → (pass ≡ reader) × (v.got ≡ got) × ((w : ℕ) → v.made < w → (seat w ≡ 0) × (sent w ≡ [])) × HaveLeft v.made seat sent v.heard

-- What was received from each worker, then what is queued from it, is what it sent, in order.
pub record Carries (items : List Message) (views : List View) : Type 0 where
  pub reader : ℕ
  pub seat : ℕ → ℕ
  pub sent : ℕ → List Message
  pub got : List Message
  pub whole : (w : ℕ) → of w (got ++ items) ≡ sent w
  pub numbered : (w : ℕ) → Numbered 0 (sent w)
  pub each : (pass : ℕ) (v : View) → get_elem? views pass ≡ some v → FitsSender seat sent pass v × FitsReceiver reader seat sent got pass v
