-- What the desk of a hall has done after the submissions that it handled.
use Rattle.std.specs.Prelude.{◌≡◌, ◌⊎◌, ℕ, ◌+◌, ◌^◌, ◌<◌, ◌≤◌, ◌==◌, false, List, [], ◌∷◌, ◌++◌, length, map, take, Option, None, Some}
use Rattle.std.specs.Prelude.{Result, Ok, Err, IfSome, IsSome}
use Rattle.std.specs.List.{list_any}
use Rattle.store.specs.Library.{Ghosts, Held, state, IsClean, IsOpen, HasTables, IsAsItWas, StaysReady}
use Rattle.terms.specs.declared.command.Request.{Request}
use Rattle.terms.specs.declared.fault.Fault.{Fault}
use Rattle.terms.specs.declared.fault.ServiceFault.{ServiceFault}
use Rattle.terms.specs.declared.fault.Fault.TheVariants.{Stored}
use Rattle.terms.specs.declared.fault.ServiceFault.TheVariants.{Met, Closed}
use Rattle.terms.specs.declared.reply.Reply.{Reply}
use Rattle.model.specs.History.{History}
use Rattle.model.specs.Requests.{after, after_one, reply_to}
use Rattle.desk.specs.Answering.{Shows, Handled, LeavesOneOf}
use Rattle.desk.specs.Running.{Handles, ShowsHeadline}
use Rattle.desk.specs.Showing.{own_page}
use Rattle.desk.specs.declared.showing.OwnPage.{OwnPage}
use Rattle.board.specs.Rule.{Publishing, Stopped}
use Rattle.board.specs.declared.entry.Entry.{Entry}
use Rattle.board.specs.declared.entry.Seen.{Seen}
use Rattle.board.specs.Showing.{count_own, overlaid, LeavesOpen, requests as entry_requests}
use Rattle.hall.specs.declared.messages.Submission.{Submission}
use Rattle.hall.specs.Openings.{LooksOnly, MeetsFaultOf, ToldBy}
use Rattle.hall.specs.declared.messages.Message.{Message}
use Rattle.hall.specs.declared.messages.Message.TheVariants.{Submit, Leave}
use Rattle.hall.specs.Queue.{AreFrom, of, is_open, submissions, handled, unhandled, requests}

-- ---- tables with any rows

-- The tables were only looked at, whatever rows they have: nothing is changed, after a fault if the database
-- is still open.
pub record LooksAny {S : Type 0} (g : Ghosts S) (old new : Held S) (fault : Option ServiceFault) : Type 0 where
  -- the step limit is as it was, and only a failure of the disk shuts the database
  pub ready : StaysReady (state g old) (state g new)
  pub clean : IsClean g new → IsClean g old
  pub nothing : IsClean g new → (IsSome fault → IsOpen g new) → HasTables (state g old).now
      → IsAsItWas (state g old) (state g new)

-- The requests were handled in order, and nothing else changed the tables, whatever rows they have.
abbrev pub HandledAny : {S : Type 0} → Ghosts S → List Request → Held S → Held S → Option ServiceFault → Type 0
HandledAny g [] old new fault = LooksAny g old new fault
HandledAny {S} g (r ∷ rs) old new fault =
    (from : Held S) × (made : Held S) × (answer : Result Reply Fault) × LooksAny g old from None
    × LeavesOpen r answer × Handled r g from made answer × HandledAny g rs made new fault

-- ---- the requests that were handled

-- The first of these requests were handled in order, and `fault` is what came then, if anything; `rest` are
-- those that came and weren't handled. As in the desk's records, the promises are for a disk that returns
-- what was written to it; in memory it does, and the database is open.
pub record HandledFirst {S : Type 0} (first rest : List Request)
    (g : Ghosts S) (old new : Held S) (fault : Option ServiceFault) : Type 0 where
  pub clean : IsClean g new → IsClean g old
  -- the tables show the list of accepted requests after them
  pub shown : IsClean g new → fault ≡ None → (H : History) → Shows (state g old) H
      → Shows (state g new) (after H first)
  -- they show the headline of that list
  pub headline : IsClean g new → fault ≡ None → (H : History) → Shows (state g old) H
      → ShowsHeadline g new (after H first)
  -- fault 93 doesn't come if the tables show a list of accepted requests
  pub sound : IsClean g new → fault ≡ Some (Met Stored) → (H : History) → Shows (state g old) H → ⊥
  -- after a fault the tables show that list too, if the database is still open
  pub undone : IsClean g new → IsOpen g new → (H : History) → Shows (state g old) H
      → Shows (state g new) (after H first)
  -- and a stop then leaves that, or also what is there after the first of the rest
  pub left : IsClean g new → IfSome fault (λ _. (H : History) → Shows (state g old) H
      → LeavesOneOf (state g new) (after H first) (after H (first ++ take 1 rest)))
  -- nothing else changed the tables, whatever rows they have
  pub any : HandledAny g first old new fault

-- ---- one more submission

-- The desk answered a request, and more may be handled. The pages of all patrons but these are unchanged.
pub record AnswersTouching {S : Type 0} (request : Request)
    (g : Ghosts S) (old new : Held S) (answer : Result Reply Fault) (touched : List ℕ) : Type 0 where
  pub stays : LeavesOpen request answer
  pub handles : Handles request g old new answer
  pub kept : IsClean g new → (H : History) → Shows (state g old) H → (p : ℕ)
      → list_any (λ q. q == p) touched ≡ false → own_page (after_one H request) p ≡ own_page H p

-- It was handled, and then pages were looked up to be shown.
pub record IsHandled {S : Type 0} (request : Request)
    (g : Ghosts S) (old new : Held S) (n m : ℕ) (before after : Option ServiceFault) : Type 0 where
  pub was : before ≡ None
  pub is : after ≡ None
  pub counted : m ≡ n + 1
  pub answer : Result Reply Fault
  pub stays : LeavesOpen request answer
  pub made : Held S
  pub handles : Handles request g old made answer
  pub looks : LooksOnly g made new (Ok tt)

-- It was handled, but the board can't show it, which closes the hall: memory ran out, or a page could not be
-- looked up.
pub record IsUnshown {S : Type 0} (request : Request)
    (g : Ghosts S) (old new : Held S) (n m : ℕ) (before after : Option ServiceFault) : Type 0 where
  pub was : before ≡ None
  pub met : Fault
  pub is : after ≡ Some (Met met)
  pub counted : m ≡ n + 1
  pub answer : Result Reply Fault
  pub stays : LeavesOpen request answer
  pub made : Held S
  pub handles : Handles request g old made answer
  pub looks : MeetsFaultOf g made new met

-- It met a fault, which closes the hall: not 93 to a request that only asks.
pub record MeetsFault {S : Type 0} (request : Request)
    (g : Ghosts S) (old new : Held S) (n m : ℕ) (before after : Option ServiceFault) : Type 0 where
  pub was : before ≡ None
  pub met : Fault
  pub is : after ≡ Some (Met met)
  pub counted : m ≡ n
  pub closes : ¬ LeavesOpen request (Err met)
  pub handles : Handles request g old new (Err met)

-- A request wasn't handled: the desk met a fault after which no more may be handled, or no more can be counted
-- and the desk wasn't asked.
abbrev pub IsUnhandled : {S : Type 0} → Request → Ghosts S → Held S → Held S → ℕ → ServiceFault → Type 0
IsUnhandled request g old new n fault =
    ((met : Fault) × (fault ≡ Met met) × (¬ LeavesOpen request (Err met)) × Handles request g old new (Err met))
    ⊎ ((fault ≡ Closed) × (2 ^ 64 ≤ n + 1) × (new ≡ old))

-- The hall was already closed, or closes because it can't count further: nothing was asked of the desk.
pub record IsPassedOver {S : Type 0}
    (old new : Held S) (n m : ℕ) (before after : Option ServiceFault) : Type 0 where
  pub fault : ServiceFault
  pub was : (before ≡ Some fault) ⊎ ((before ≡ None) × (fault ≡ Closed) × (2 ^ 64 ≤ n + 1))
  pub is : after ≡ Some fault
  pub counted : m ≡ n
  pub same : new ≡ old

-- One more submission was received. `n` and `m` count the submissions handled before and after it; `before`
-- and `after` are the fault that had closed the hall, if any.
abbrev pub TakesNext : {S : Type 0} → Request → Ghosts S → Held S → Held S → ℕ → ℕ
    → Option ServiceFault → Option ServiceFault → Type 0
TakesNext request g old new n m before after =
    IsHandled request g old new n m before after
    ⊎ (IsUnshown request g old new n m before after
    ⊎ (MeetsFault request g old new n m before after ⊎ IsPassedOver old new n m before after))

-- ---- what the board shows

-- An entry without its reply.
abbrev pub submission_of : Entry → Submission
submission_of e = record { worker = e.worker; number = e.number; request = e.request }

-- The board shows these submissions, in order.
abbrev pub AreShown : List Entry → List Submission → Type 0
AreShown entries handled = map submission_of entries ≡ handled

-- What it shows, even if permanently.
abbrev pub shown_by : Result Publishing Stopped → Seen
shown_by (Ok p) = p.shown
shown_by (Err b) = b.shown

-- ---- what closes a hall

-- `got` is what was received and `n` how many submissions were handled, starting from the desk `old`; the
-- board shows these entries permanently.
module _ {S : Type 0} (n : ℕ) (got : List Message) (g : Ghosts S) (old new : Held S)
    (entries : List Entry) (fault : ServiceFault) where
  -- The desk met this fault at the first request that wasn't handled.
  pub record IsDesksFault : Type 0 where
    -- the desk after the handled ones
    pub before : Held S
    pub reached : HandledFirst (requests (handled n got)) [] g old before None
    pub next : Request
    pub later : List Request
    pub rest_is : requests (unhandled n got) ≡ next ∷ later
    pub met : Fault
    pub is : fault ≡ Met met
    pub closes : ¬ LeavesOpen next (Err met)
    pub handles : Handles next g before new (Err met)
    pub shown : AreShown entries (handled n got)

  -- The board couldn't show the last handled submission.
  pub record IsBoardsFault : Type 0 where
    -- the desk after the handled ones
    pub made : Held S
    pub reached : HandledFirst (requests (handled n got)) [] g old made None
    pub met : Fault
    pub is : fault ≡ Met met
    pub looks : MeetsFaultOf g made new met
    pub last : Submission
    pub shown : handled n got ≡ map submission_of entries ++ last ∷ []

  -- No more submissions can be counted.
  pub record IsFull : Type 0 where
    pub is : fault ≡ Closed
    pub full : 2 ^ 64 ≤ n + 1
    pub shown : AreShown entries (handled n got)

  -- One of these.
  abbrev pub ClosedBy : Type 0
  ClosedBy = IsDesksFault ⊎ (IsBoardsFault ⊎ IsFull)

-- ---- what is shown next

-- These pages were looked up for the patrons, to be shown over the earlier ones.
abbrev pub PutsPages : List ℕ → List (ℕ × OwnPage) → List (ℕ × OwnPage) → History → Type 0
PutsPages patrons before after H = (p : ℕ) (page : Option OwnPage)
    → (own_page H p ≡ None → overlaid before p page ≡ None)
    → (list_any (λ q. q == p) patrons ≡ false → overlaid before p page ≡ own_page H p)
    → overlaid after p page ≡ own_page H p

-- What the desk's tables show after these requests, if the disk has returned what was written to it so far:
-- each of these lists with the requests.
abbrev pub ShowsAfter : {S : Type 0} → (History → Type 0) → Ghosts S → Held S → List Request → Type 0
ShowsAfter lists g held requests = IsClean g held → (H : History) → lists H
    → Shows (state g held) (after H requests)

-- What a list of accepted requests makes of a submission: its reply as this answer, and unchanged pages for
-- all patrons but these; the tables show the list with it.
pub record IsGivenBy {S : Type 0} (g : Ghosts S) (desk : Held S) (H : History) (request : Request)
    (answer : Result Reply Fault) (touched : List ℕ) : Type 0 where
  pub answer_is : answer ≡ Ok (reply_to H request)
  pub shows : Shows (state g desk) (after_one H request)
  pub kept : (p : ℕ) → list_any (λ q. q == p) touched ≡ false
      → own_page (after_one H request) p ≡ own_page H p

-- The submission was handled with this answer, after which more may be handled, and the board shows everything
-- before it: it has its worker's next number. If the disk has returned what was written to it, each of these
-- lists gave what was shown, and gives the answer.
pub record IsDue {S : Type 0} (lists : History → Type 0) (g : Ghosts S) (desk : Held S)
    (shown : Seen) (s : Submission) (answer : Result Reply Fault) (touched : List ℕ) : Type 0 where
  pub stays : LeavesOpen s.request answer
  pub number : s.number ≡ count_own s.worker shown.entries + 1
  pub told : ToldBy lists g desk shown
  pub given : IsClean g desk → (H : History) → lists H
      → IsGivenBy g desk (after H (entry_requests shown.entries)) s.request answer touched

-- The submission may be handled next: the board shows all handled ones, with nothing waiting to be shown, and
-- this one has its worker's next number.
pub record MayBeNext {S : Type 0} (lists : History → Type 0) (g : Ghosts S) (desk : Held S)
    (p : Publishing) (s : Submission) : Type 0 where
  pub blank : p.pages ≡ []
  pub number : s.number ≡ count_own s.worker p.shown.entries + 1
  pub told : ToldBy lists g desk p.shown
  pub list : ShowsAfter lists g desk (entry_requests p.shown.entries)

-- The board shows this submission too, after the earlier ones, with what these lists give for it; or a fault
-- has closed the hall, and the board shows permanently what it showed.
module _ {S : Type 0} (lists : History → Type 0) (g : Ghosts S) (desk : Held S) where
  abbrev pub ShowsNext : Result Publishing Stopped → Result Publishing Stopped → Submission
      → Option ServiceFault → Type 0
  ShowsNext (Ok old) (Ok new) s fault =
      (fault ≡ None) × (new.pages ≡ [])
      × AreShown new.shown.entries (map submission_of old.shown.entries ++ s ∷ [])
      × ToldBy lists g desk new.shown
  ShowsNext (Err old) (Ok new) s fault = ⊥
  ShowsNext (Ok old) (Err new) s fault = IsSome fault × (new.shown ≡ old.shown)
  ShowsNext (Err old) (Err new) s fault = IsSome fault × (new.shown ≡ old.shown)

module _ {S : Type 0} (lists : History → Type 0) (g : Ghosts S) (desk : Held S)
    (fault : Option ServiceFault) where
  -- The submission may be handled next, unless a fault has closed the hall.
  abbrev pub MayHandle : Result Publishing Stopped → Submission → Type 0
  MayHandle (Ok p) s = (fault ≡ None) × MayBeNext lists g desk p s
  MayHandle (Err b) s = IsSome fault

  -- So may a submission in a message; a Leave always may.
  abbrev pub MayTake : Result Publishing Stopped → Message → Type 0
  MayTake board (Submit s) = MayHandle board s
  MayTake board (Leave worker) = Unit {0}

-- One more message was taken: a submission as above, which the board shows if it may still be written; a
-- worker's Leave changes nothing.
abbrev pub TakesMessage : {S : Type 0} → (History → Type 0) → Message → Ghosts S → Held S → Held S
    → ℕ → ℕ → Option ServiceFault → Option ServiceFault
    → Result Publishing Stopped → Result Publishing Stopped → Type 0
TakesMessage lists (Submit s) g old new n m before after shown shows =
    TakesNext s.request g old new n m before after × ShowsNext lists g new shown shows s after
TakesMessage lists (Leave worker) g old new n m before after shown shows =
    (new ≡ old) × (m ≡ n) × (after ≡ before) × (shows ≡ shown)

-- The board shows these submissions, or a fault has closed the hall.
abbrev pub BoardShows : Result Publishing Stopped → List Submission → Option ServiceFault → Type 0
BoardShows (Ok p) handled fault = (fault ≡ None) × (p.pages ≡ []) × AreShown p.shown.entries handled
BoardShows (Err b) handled fault = IsSome fault

-- The state of an open hall's desk after these messages: what it handled, what closed it, and what the board
-- shows.
pub record StandsOpen {S : Type 0} (lists : History → Type 0) (g : Ghosts S) (old new : Held S) (n : ℕ)
    (fault : Option ServiceFault) (got : List Message) (board : Result Publishing Stopped) : Type 0 where
  -- the handled ones are among those received
  pub counted : n ≤ length (submissions got)
  -- if the hall wasn't closed, every submission was handled
  pub all : fault ≡ None → n ≡ length (submissions got)
  -- what closed it, and what the board shows since
  pub cause : IfSome fault (ClosedBy n got g old new (shown_by board).entries)
  -- the desk is as the handled list left it
  pub desk : HandledFirst (requests (handled n got)) (requests (unhandled n got)) g old new fault
  -- and the board shows that list
  pub shown : BoardShows board (handled n got) fault
  -- what it shows is what these lists of accepted requests give
  pub told : ToldBy lists g new (shown_by board)

-- ---- until each worker has left

-- The desk took what the workers sent until each had left: `got` is what it received and `n` how many
-- submissions it handled; the board shows these entries. The hall was closed exactly if there is a fault.
pub record Finishes {S : Type 0} (workers n : ℕ) (got : List Message) (entries : List Entry)
    (g : Ghosts S) (old new : Held S) (fault : Option ServiceFault) : Type 0 where
  -- the Leave of each worker was received
  pub gone : (k : ℕ) → k < workers → is_open (of (k + 1) got) ≡ false
  -- nobody but the workers sent anything
  pub from : AreFrom workers got
  -- the handled ones are among those received
  pub counted : n ≤ length (submissions got)
  -- if the hall wasn't closed, every submission was handled
  pub all : fault ≡ None → n ≡ length (submissions got)
  -- and the board shows exactly the handled list, in order
  pub shown : fault ≡ None → AreShown entries (handled n got)
  -- what closed it, and what the board then shows: the handled list, or all of it but the last
  pub cause : IfSome fault (ClosedBy n got g old new entries)
  -- the desk is as the handled list left it
  pub desk : HandledFirst (requests (handled n got)) (requests (unhandled n got)) g old new fault
