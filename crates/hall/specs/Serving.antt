-- What a worker knows, submits and answers.
use Rattle.std.specs.Prelude.{◌≡◌, ◌⊎◌, ℕ, ◌+◌, ◌<◌, if◌then◌else◌, bytes_eq, false, List, ◌∷◌, ◌++◌, length, map, Option, Some, None, Result, Ok, Err, IfOk}
use Rattle.std.specs.Prelude.{IfErr, IfSome, OnOk, OnErr}
use Rattle.std.specs.Io.KnownBytes.{Appends, Keeps}
use Rattle.store.specs.Library.{Ghosts, Held, IsClean}
use Rattle.terms.specs.Writing.{AppendsFront}
use Rattle.terms.specs.declared.command.Caller.{Caller}
use Rattle.terms.specs.declared.command.Caller.TheVariants.{Desk}
use Rattle.terms.specs.declared.command.Command.{Command}
use Rattle.terms.specs.declared.command.Command.TheVariants.{Page as AsksPage, SetCardKey}
use Rattle.terms.specs.declared.command.Request.{Request as Requested}
use Rattle.terms.specs.declared.fault.Fault.{Fault}
use Rattle.terms.specs.declared.fault.Fault.TheVariants.{Memory}
use Rattle.terms.specs.declared.fault.ServiceFault.{ServiceFault}
use Rattle.terms.specs.declared.fault.ServiceFault.TheVariants.{Met, Closed}
use Rattle.terms.specs.declared.refusal.Refusal.TheVariants.{NotAllowed, UnknownPatron}
use Rattle.terms.specs.declared.reply.Reply.{Reply}
use Rattle.terms.specs.declared.reply.Reply.TheVariants.{Refused}
use Rattle.model.specs.Corrections.{KeepsCardKey}
use Rattle.model.specs.History.{Event, History}
use Rattle.model.specs.Requests.{IsLegal, after, reply_to}
use Rattle.desk.specs.Answering.{IsPageFor, IsOwnPageFor}
use Rattle.desk.specs.declared.showing.OwnPage.{OwnPage}
use Rattle.clerks.specs.declared.clerk.Clerk.{Clerk}
use Rattle.web.specs.Answers.{answer_bytes, answer_for}
use Rattle.web.specs.Asked.{asked_of}
use Rattle.web.specs.Checks.{ChecksHead, Reading}
use Rattle.web.specs.Taking.{TakesRequest}
use Rattle.web.specs.declared.answer.Answer.{Answer}
use Rattle.web.specs.declared.answer.Answer.TheVariants.{Faulted, Failed}
use Rattle.web.specs.declared.asked.Asked.{Asked}
use Rattle.web.specs.declared.asked.Asked.TheVariants.{Nothing, Page, Request}
use Rattle.web.specs.declared.fault.WebFault.TheVariants.{Status}
use Rattle.web.specs.declared.fault.WebStatus.{WebStatus}
use Rattle.web.specs.declared.request.WebRequest.{WebRequest}
use Rattle.board.specs.declared.entry.Seen.{Seen}
use Rattle.board.specs.Rule.{nothing_seen}
use Rattle.board.specs.Showing.{StartsWith, GoesOn, HasLooked, IsAnswer, page_of, requests}
use Rattle.hall.specs.declared.messages.TheConstants.{LAST_SUBMISSION}
use Rattle.hall.specs.declared.messages.Message.{Message}
use Rattle.hall.specs.declared.messages.Message.TheVariants.{Submit}
use Rattle.hall.specs.declared.messages.View.{View}
use Rattle.hall.specs.declared.worker.NoReply.{NoReply}
use Rattle.hall.specs.declared.worker.NoReply.TheVariants.{Told, Gone, Untold}
use Rattle.hall.specs.declared.closing.Closing.{Closing}
use Rattle.hall.specs.Closings.{told_of}
use Rattle.hall.specs.Queue.{AreFirst, sent_more, worker_views}

-- ---- what a worker knows

-- What it sent; what it has seen on the board, a beginning of the handled list with its pages; the submission
-- at which the hall closed, if told; and how many times it looked at the board, 0 once it has left.
pub record Working : Type 0 where
  pub post : View
  pub seen : Seen
  pub closing : List Closing
  pub looks : ℕ

-- The workers 1 to n, which have sent nothing.
abbrev pub AreWorkers : ℕ → List Working → Type 0
AreWorkers n workers = map (λ (w : Working). w.post) workers ≡ worker_views n

-- It has not looked at the board, has seen nothing of it, and was told this of the closing.
pub record IsNew (told : List Closing) (w : Working) : Type 0 where
  pub seen : w.seen ≡ nothing_seen
  pub looks : w.looks ≡ 0
  pub closing : w.closing ≡ told

-- ---- what is submitted

-- What the worker knows of the queue after submitting the request under its next number.
abbrev pub submitted : View → Requested → View
submitted v request = sent_more v (Submit (record { worker = v.worker; number = length v.sent + 1; request = request }))

-- The request was submitted once, and the worker had numbers left: the last is 2^50.
abbrev pub Submits : View → View → Requested → Type 0
Submits old new request = (length old.sent < LAST_SUBMISSION) × (new ≡ submitted old request)

-- Nothing was submitted, or this request once.
abbrev pub SubmitsOnce : View → View → Requested → Type 0
SubmitsOnce old new request = (new ≡ old) ⊎ Submits old new request

-- ---- what is asked for

-- Whose page the desk asks for, if it asks for one: that is answered from the board.
abbrev pub page_by_desk : Caller → Command → Option ℕ
page_by_desk Desk (AsksPage patron) = Some patron
page_by_desk _ _ = None

abbrev pub page_asked : Requested → Option ℕ
page_asked request = page_by_desk request.caller request.command

-- What is shown of a page: to the desk the page, or that the patron is unknown; to a caller who shows a card
-- key the page that it opens, or that this isn't allowed.
abbrev pub shown_page : Option OwnPage → Option (List ℕ) → Reply
shown_page (Some page) (Some card_key) = if bytes_eq page.card_key card_key then page.reply else Refused NotAllowed
shown_page None (Some card_key) = Refused NotAllowed
shown_page (Some page) None = page.reply
shown_page None None = Refused UnknownPatron

-- The worker looked at the board once, and the reply is the patron's page that it saw: the one shown with the
-- beginning of the handled list that was then seen.
pub record IsPageSeen (patron : ℕ) (shown : Option (List ℕ)) (old new : Working) (reply : Reply)
    : Type 0 where
  pub look : new.looks ≡ old.looks + 1
  pub looked : HasLooked new.seen
  pub reply_is : reply ≡ shown_page (page_of new.seen patron) shown

-- The answer to a request not answered from the board's pages: it was submitted, and the board shows this
-- answer to it. The beginning of the handled list that the board shows, ending with the submission, extends all
-- that the worker had seen before.
pub record IsAnswered (request : Requested) (old new : Working) (answer : Result Reply Fault) : Type 0 where
  pub submits : Submits old.post new.post request
  pub answered : IsAnswer new.seen.entries old.post.worker (length old.post.sent + 1) request answer
  pub later : StartsWith answered.front old.seen.entries

-- The reply to the desk's request for a page, or to anybody's request for something else.
abbrev pub IsReplyFor : Option ℕ → Requested → Working → Working → Reply → Type 0
IsReplyFor (Some patron) request old new reply = (new.post ≡ old.post) × IsPageSeen patron None old new reply
IsReplyFor None request old new reply = IsAnswered request old new (Ok reply)

-- The reply to what is asked for. A page is the one that the board shows with what the worker has seen, a
-- beginning of the handled list.
abbrev pub IsReplyTo : Asked → Working → Working → Reply → Type 0
IsReplyTo Nothing old new reply = (new.post ≡ old.post) × (reply ≡ Refused NotAllowed)
IsReplyTo (Page patron card_key) old new reply =
    (new.post ≡ old.post) × IsPageSeen patron (Some card_key) old new reply
IsReplyTo (Request request) old new reply = IsReplyFor (page_asked request) request old new reply

-- For a desk's page request nothing is submitted; any other request is submitted at most once.
abbrev pub SubmitsFor : Option ℕ → Requested → View → View → Type 0
SubmitsFor (Some patron) request old new = new ≡ old
SubmitsFor None request old new = SubmitsOnce old new request

-- The same for what is asked for: a page is never submitted.
abbrev pub SubmitsAsked : Asked → View → View → Type 0
SubmitsAsked (Request request) old new = SubmitsFor (page_asked request) request old new
SubmitsAsked _ old new = new ≡ old

-- ---- what is answered

-- What became of a request that the board shows.
abbrev pub outcome_of : Result Reply Fault → Result Reply ServiceFault
outcome_of (Ok reply) = Ok reply
outcome_of (Err met) = Err (Met met)

-- The answer that says what became of a request.
abbrev pub answer_to : Result Reply ServiceFault → Answer
answer_to (Ok reply) = answer_for reply
answer_to (Err fault) = Faulted fault

-- A worker's own faults: its memory ran out, or it can't go on, since its numbers are used up, or the desk or
-- the board is gone.
abbrev pub IsOwnFault : ServiceFault → Type 0
IsOwnFault fault = (fault ≡ Met Memory) ⊎ (fault ≡ Closed)

-- The fault instead of a page or a reply: nothing was submitted, and the fault is the worker's own.
abbrev pub IsUnsubmitted : Working → Working → ServiceFault → Type 0
IsUnsubmitted old new fault = (new.post ≡ old.post) × IsOwnFault fault

-- The fault instead of a reply to a request not answered from the board's pages: that of a worker that
-- submitted nothing, what the closing of the hall tells of the submission, or the one that the board shows for
-- it, which is 93 to a request that only asks.
abbrev pub IsFaultOf : Requested → Working → Working → ServiceFault → Type 0
IsFaultOf request old new fault =
    IsUnsubmitted old new fault
    ⊎ ((Submits old.post new.post request
    × (told_of new.closing old.post.worker (length old.post.sent + 1) ≡ Some fault))
    ⊎ ((met : Fault) × (fault ≡ Met met) × IsAnswered request old new (Err met)))

-- The fault instead of a reply to the desk's request for a page, or to anybody's request for something else.
abbrev pub IsFaultFor : Option ℕ → Requested → Working → Working → ServiceFault → Type 0
IsFaultFor (Some patron) request old new fault = IsUnsubmitted old new fault
IsFaultFor None request old new fault = IsFaultOf request old new fault

-- The same for what is asked for; what isn't allowed is answered so, without a fault.
abbrev pub IsFaultTo : Asked → Working → Working → ServiceFault → Type 0
IsFaultTo Nothing old new fault = ⊥
IsFaultTo (Page patron card_key) old new fault = IsUnsubmitted old new fault
IsFaultTo (Request request) old new fault = IsFaultFor (page_asked request) request old new fault

-- If a fault came instead, `Is` holds of it.
abbrev pub IfTold : (ServiceFault → Type 0) → NoReply → Type 0
IfTold Is (Told fault) = Is fault
IfTold Is Gone = Unit {0}
IfTold Is Untold = Unit {0}

-- The answer says what became of what is asked for.
pub record TellsReply (asked : Asked) (old new : Working) (answer : Answer) : Type 0 where
  pub outcome : Result Reply ServiceFault
  pub answer_is : answer ≡ answer_to outcome
  pub reply : IfOk outcome (IsReplyTo asked old new)
  pub fault : IfErr outcome (IsFaultTo asked old new)

-- The same for a request that is submitted.
pub record TellsSubmitted (request : Requested) (old new : Working) (answer : Answer) : Type 0 where
  pub outcome : Result Reply ServiceFault
  pub answer_is : answer ≡ answer_to outcome
  pub reply : IfOk outcome (λ reply. IsAnswered request old new (Ok reply))
  pub fault : IfErr outcome (IsFaultOf request old new)

-- The same for a page.
pub record TellsPage (patron : ℕ) (shown : Option (List ℕ)) (old new : Working) (answer : Answer)
    : Type 0 where
  pub outcome : Result Reply ServiceFault
  pub answer_is : answer ≡ answer_to outcome
  pub reply : IfOk outcome (IsPageSeen patron shown old new)
  pub fault : IfErr outcome IsOwnFault

-- What is asked for gets an answer; or none, since memory ran out, or the board is gone.
pub record MeetsAsked (asked : Asked) (old new : Working) (answer : Option Answer) : Type 0 where
  pub on : GoesOn new.seen old.seen
  pub closing : StartsWith new.closing old.closing
  pub once : SubmitsAsked asked old.post new.post
  pub told : IfSome answer (TellsReply asked old new)

-- The bytes read fail a check: the answer is its status.
pub record TellsStatus (bytes : Option (List ℕ)) (answer : Answer) : Type 0 where
  pub status : WebStatus
  pub read : IfSome bytes (λ all. ChecksHead all (Err (Status status)))
  pub answer_is : answer ≡ Failed status

-- A request was read: the answer says what became of what it asks for.
pub record TellsOutcome (clerks : List Clerk) (bytes : Option (List ℕ)) (old new : Working)
    (answer : Answer) : Type 0 where
  pub request : WebRequest
  pub read : IfSome bytes (λ all. ChecksHead all (Ok request))
  pub tells : TellsReply (asked_of clerks request) old new answer

-- The answer to the bytes: nothing was submitted, and it is a status, or fault 90 for lack of memory to read
-- them; or it says what became of what they ask for.
abbrev pub Answers : List Clerk → Option (List ℕ) → Working → Working → Answer → Type 0
Answers clerks bytes old new answer =
    ((new.post ≡ old.post) × (TellsStatus bytes answer ⊎ (answer ≡ Faulted (Met Memory))))
    ⊎ TellsOutcome clerks bytes old new answer

-- A connection was served. `bytes` are the reader's, if known; `before` and `after` are the writer's before
-- and after.
pub record Serves {E : Type 0} (clerks : List Clerk) (bytes : Option (List ℕ)) (old new : Working)
    (before after : Option (List ℕ)) (result : Result (Unit {0}) E) : Type 0 where
  -- what the worker has seen never gets shorter, nor what it was told of the hall's closing
  pub on : GoesOn new.seen old.seen
  pub closing : StartsWith new.closing old.closing
  -- nothing was submitted, or the one request that the bytes ask for, which isn't for a page
  pub once : (new.post ≡ old.post)
      ⊎ ((request : Requested) × (web : WebRequest) × IfSome bytes (λ all. ChecksHead all (Ok web))
      × (asked_of clerks web ≡ Request request) × (page_asked request ≡ None)
      × Submits old.post new.post request)
  -- one whole answer went out
  pub told : OnOk result ((answer : Answer) × Answers clerks bytes old new answer
      × Appends before after (answer_bytes answer))
  -- or nothing, or a beginning of one
  pub broken : OnErr result (Keeps before after
      ⊎ ((answer : Answer) × Answers clerks bytes old new answer
      × AppendsFront before after (answer_bytes answer)))

-- A request was read, and served: no read followed the request, the end of the input, or a failed read.
pub record ServesFrom {I E : Type 0} (reads : I → ℕ → Option (List ℕ) → I → Type 0) (remaining : I → Option (List ℕ))
    (clerks : List Clerk) (reader rest : I) (old new : Working) (before after : Option (List ℕ))
    (result : Result (Unit {0}) E) : Type 0 where
  pub serves : Serves clerks (remaining reader) old new before after result
  pub takes : (read : Reading) × TakesRequest reads remaining reader rest read

-- ---- what a list of accepted requests gives

-- An accepted card-key set another card key than this for the patron, and the patron has had none since.
pub record IsVoid (patron : ℕ) (card_key : List ℕ) (H : History) : Type 0 where
  pub later : History
  pub set : Event
  pub before : History
  pub new_key : List ℕ
  pub list_is : H ≡ later ++ set ∷ before
  pub accepted : IsLegal (set ∷ before)
  pub sets : set.command ≡ SetCardKey patron new_key
  pub last : KeepsCardKey patron later
  pub differs : bytes_eq new_key card_key ≡ false

-- The reply is the page that the card key opens after this list of accepted requests, or that this isn't
-- allowed; it is the same after every list that agrees on the patron's own rows. A void card key opens nothing.
pub record IsOwnPage (patron : ℕ) (card_key : List ℕ) (H : History) (reply : Reply) : Type 0 where
  pub page : IsPageFor patron card_key H reply
  pub own : IsOwnPageFor patron card_key H reply
  pub void : IsVoid patron card_key H → reply ≡ Refused NotAllowed

-- A reply by the list H of accepted requests, once the worker has seen a beginning of the handled list: to a
-- submission, the list's reply at its place there; to a page, the page after H and that beginning.
module _ (H : History) (old new : Working) (reply : Reply) where
  -- to a submission: its place comes after all that the worker had seen before it
  pub record IsGivenReply (request : Requested) : Type 0 where
    pub answered : IsAnswered request old new (Ok reply)
    pub given : reply ≡ reply_to (after H (requests answered.answered.front)) request

  -- to the desk's request for a page, or anybody's for something else
  abbrev pub IsGivenFor : Option ℕ → Requested → Type 0
  IsGivenFor (Some patron) request = reply ≡ reply_to (after H (requests new.seen.entries)) request
  IsGivenFor None request = IsGivenReply request

  -- to what is asked for
  abbrev pub IsGivenTo : Asked → Type 0
  IsGivenTo Nothing = reply ≡ Refused NotAllowed
  IsGivenTo (Page patron card_key) = IsOwnPage patron card_key (after H (requests new.seen.entries)) reply
  IsGivenTo (Request request) = IsGivenFor (page_asked request) request

-- The list H of accepted requests gives what the worker answers: each reply, and no fault to what it submitted.
pub record GivesAnswers (H : History) (old new : Working) : Type 0 where
  pub reply : (asked : Asked) (reply : Reply) → IsReplyTo asked old new reply → IsGivenTo H old new reply asked
  pub never : (request : Requested) (met : Fault) → ¬ IsAnswered request old new (Err met)

-- If the disk has returned what was written to it so far, each of these lists of accepted requests gives what
-- a worker answers that has seen a beginning of all that was shown.
abbrev pub GivesReplies : {S : Type 0} → (History → Type 0) → Ghosts S → Held S → Seen → Type 0
GivesReplies lists g held all = IsClean g held → (H : History) → lists H
    → (old new : Working) → GoesOn all new.seen → GivesAnswers H old new

-- The worker, which has left, took part in a hall that received `got` and handled its first n submissions:
-- the worker's are a beginning of what it submitted, and what it had seen is a beginning of all that was
-- shown.
pub record TookPart (n : ℕ) (got : List Message) (shown : Seen) (w : Working) : Type 0 where
  pub first : AreFirst w.post.worker n got w.post.sent
  pub seen : GoesOn shown w.seen
