-- How the desk answers a request, given tables that show a history.
use Rattle.std.specs.Prelude.{◌≡◌, Bool, true, false, List, ◌∷◌, ℕ, Option, Some, None, is_none, Result, Err, IfOk, OnOk, OnErr, IsTrue}
use Rattle.store.specs.Library.{Ghosts, Held, State, state, IsClean, IsOpen, HasCleanDisk, HasTables, IsAsItWas, StaysReady}
use Rattle.store.specs.Numbers.{AreFree}
use Rattle.store.specs.Reads.{IsUsed}
use Rattle.store.specs.Stops.{KeepsPicture, LeavesPicture, LeavesEither}
use Rattle.circ_core.specs.Decides.{event}
use Rattle.circ_core.specs.Views.{IsViewOf}
use Rattle.circ_core.specs.declared.views.View.{View}
use Rattle.circ_tables.specs.Encoding.{HasPicture}
use Rattle.terms.specs.Limits.{IsOwner, IsMeta}
use Rattle.terms.specs.Pictures.{Picture}
use Rattle.terms.specs.declared.command.Owner.{Owner}
use Rattle.terms.specs.declared.command.Owner.TheVariants.{Desk, Patron}
use Rattle.terms.specs.declared.command.Caller.{Caller}
use Rattle.terms.specs.declared.command.Caller.TheVariants.{Patron as FromPatron}
use Rattle.terms.specs.declared.command.Command.TheVariants.{Page}
use Rattle.terms.specs.declared.command.Command.{Command}
use Rattle.terms.specs.declared.command.Request.{Request}
use Rattle.terms.specs.declared.fault.Fault.{Fault}
use Rattle.terms.specs.declared.fault.Fault.TheVariants.{Stored}
use Rattle.terms.specs.declared.refusal.Refusal.{Refusal}
use Rattle.terms.specs.declared.refusal.Refusal.TheVariants.{KeyUsed, NotAllowed}
use Rattle.terms.specs.declared.reply.Reply.{Reply}
use Rattle.terms.specs.declared.reply.Reply.TheVariants.{Refused}
use Rattle.terms.specs.Callers.{owner_of}
use Rattle.model.specs.History.{History, Event}
use Rattle.model.specs.Refusals.{refusal}
use Rattle.model.specs.Answers.{answer}
use Rattle.model.specs.Picture.{picture}
use Rattle.model.specs.Forms.{HasForms}
use Rattle.model.specs.Laws.{AgreesOn}
use Rattle.model.specs.Requests.{IsLegal, is_known, may_send, only_asks, kept_of, event_of, reply_by_key, reply_to, after_one}
use Rattle.desk.specs.Callers.{RefusesForeign}
use Rattle.desk.specs.Touching.{KeepsOthers, AreExactly, IsAmong, IsReaderFor, IsTouched}

-- ---- tables that show a history

-- The tables show what a legal history leaves, as does anything that a stop may leave.
pub record Shows (s : State) (H : History) : Type 0 where
  pub legal : IsLegal H
  pub forms : HasForms H
  pub tables : KeepsPicture s (picture H)

-- The tables still show any history that they showed.
abbrev pub Stays : State → State → Type 0
Stays old new = (H : History) → Shows old H → Shows new H

-- A stop leaves what one of the two histories leaves.
abbrev pub LeavesOneOf : State → History → History → Type 0
LeavesOneOf s H K = LeavesEither s (picture H) (picture K)

-- Nothing changes, whatever rows the tables have: neither after an answer nor, if the database is still open,
-- after an error.
pub record ChangesNothing {T E : Type 0} (old new : State) (result : Result T E) : Type 0 where
  -- the step limit is as it was, and only a failure of the disk shuts the database
  pub ready : StaysReady old new
  pub answered : HasCleanDisk new → HasTables old.now → OnOk result (IsAsItWas old new)
  pub failed : HasCleanDisk new → IsTrue new.is_open → HasTables old.now
      → OnErr result (IsAsItWas old new)

-- A call that only reads the tables. As in the records below, the promises are for a disk that returns what
-- was written to it, up to the end of the call.
pub record DeskLooks {T E : Type 0} (old new : State) (result : Result T E) : Type 0 where
  -- a disk that is sound at the end was sound at the start
  pub clean : HasCleanDisk new → HasCleanDisk old
  -- the tables show what they showed
  pub stays : HasCleanDisk new → OnOk result (Stays old new)
  -- after an error too, if the database is still open
  pub undone : HasCleanDisk new → IsTrue new.is_open → OnErr result (Stays old new)
  -- whenever the program is stopped, that is what remains
  pub left : HasCleanDisk new → (H : History) → Shows old H → LeavesPicture new (picture H)
  -- tables that show no such list stay the same too
  pub nothing : ChangesNothing old new result

-- A call that only reads the tables, and what it answers, if the list of accepted requests satisfies `If`.
pub record LearnsIf {S A : Type 0} (If : History → Type 0) (Is : History → A → Type 0)
    (g : Ghosts S) (old new : Held S) (result : Result A Fault) : Type 0 where
  -- the answer fits each such list that the tables show
  pub shown : IsClean g new
      → IfOk result (λ x. (H : History) → Shows (state g old) H → If H → Is H x)
  -- fault 93 never comes after such a list
  pub sound : IsClean g new → result ≡ Err Stored → (H : History) → Shows (state g old) H → If H
      → ⊥
  -- whatever the outcome, the tables show what they showed
  pub looks : DeskLooks (state g old) (state g new) result

-- For any list of accepted requests.
abbrev pub Learns : {S A : Type 0} → (History → A → Type 0)
    → Ghosts S → Held S → Held S → Result A Fault → Type 0
Learns = LearnsIf (λ _. Unit {0})

-- ---- parts of an answer

-- The owner's refusal, or none beyond the desk's.
abbrev pub RefusesAnothers : Owner → Command → History → Option Refusal → Type 0
RefusesAnothers o c H (Some refused) = refusal H o c ≡ Some refused
RefusesAnothers o c H None = refusal H o c ≡ refusal H Desk c

-- Whether the caller is the desk, or a patron who shows their own card key.
abbrev pub Knows : Caller → History → Bool → Type 0
Knows caller H known = known ≡ is_known H caller

-- The view holds the rows that the command needs, the owner has no refusal beyond the desk's, and these are
-- the readers of what it changes.
abbrev pub IsViewFor : Owner → Command → View → List ℕ → History → Type 0
IsViewFor owner command view readers H = IsViewOf (picture H) command view
    × (refusal H owner command ≡ refusal H Desk command) × AreExactly (IsReaderFor H command) readers

-- The history with the event, unless the event is refused.
abbrev pub added : History → Event → History
added H e = elim (is_none (refusal H e.owner e.command)) [ true ↦ e ∷ H | false ↦ H ]

-- A kept reply is repeated only to the same text.
abbrev pub repeated : Bool → Reply → Reply
repeated same reply = elim same [ true ↦ reply | false ↦ Refused KeyUsed ]

-- The history after a request that is allowed and isn't a page.
abbrev pub after_key : History → Request → History
after_key H r = elim (is_none (kept_of H (owner_of r.caller) r.key)) [ true ↦ added H (event_of r) | false ↦ H ]

-- What a patron who shows a card key gets: their own page, or that this isn't allowed.
abbrev pub page_for : History → ℕ → List ℕ → Reply
page_for H patron card_key = elim (is_known H (FromPatron patron card_key)) [ true ↦ answer H (Patron patron) (Page patron) | false ↦ Refused NotAllowed ]

-- The reply is what such a patron gets.
abbrev pub IsPageFor : ℕ → List ℕ → History → Reply → Type 0
IsPageFor patron card_key H reply = reply ≡ page_for H patron card_key

-- The reply is what such a patron gets after every list of accepted requests that agrees with this one on the
-- patron's own rows.
abbrev pub IsOwnPageFor : ℕ → List ℕ → History → Reply → Type 0
IsOwnPageFor patron card_key H reply = (K : History) → AgreesOn H K patron → reply ≡ page_for K patron card_key

-- ---- a request that is handled

-- After a fault the tables show what they showed, if the database is still open.
abbrev pub Undoes : {S A : Type 0} → Ghosts S → Held S → Held S → Result A Fault → Type 0
Undoes g old new result = IsClean g new → IsOpen g new
    → OnErr result (Stays (state g old) (state g new))

-- What a request does to tables with any rows, even damaged ones.
pub record HandlesAny {S : Type 0} (g : Ghosts S) (old new : Held S) (result : Result Reply Fault)
    : Type 0 where
  -- the step limit is as it was, and only a failure of the disk shuts the database
  pub ready : StaysReady (state g old) (state g new)
  -- the tables still exist
  pub tables : IsClean g new → HasTables (state g old).now → OnOk result (HasTables (state g new).now)
  -- a refused request changes nothing
  pub refused : IsClean g new → HasTables (state g old).now
      → IfOk result (λ reply. (r : Refusal) → reply ≡ Refused r → IsAsItWas (state g old) (state g new))
  -- nor does one that met a fault, even 93, if the database is still open
  pub failed : IsClean g new → IsOpen g new → HasTables (state g old).now
      → OnErr result (IsAsItWas (state g old) (state g new))

-- The changes of an accepted command and its kept reply were recorded in one step: `made` gives the picture
-- after it.
pub record Records {S A : Type 0} (owner : Owner) (made : Picture → Picture)
    (g : Ghosts S) (old new : Held S) (result : Result A Fault) : Type 0 where
  -- the step limit is as it was, and only a failure of the disk shuts the database
  pub ready : StaysReady (state g old) (state g new)
  pub clean : IsClean g new → IsClean g old
  -- fault 93 never comes over a picture whose row of `meta` is within its limits, if the numbers that are given
  -- have no row
  pub sound : IsClean g new → result ≡ Err Stored → (P : Picture) → HasPicture (state g old).now P
      → IsMeta P.meta → ¬ AreFree P (made P).meta
  -- on success the tables show the picture after it
  pub done : IsClean g new → IsOwner owner
      → OnOk result ((P : Picture) → HasPicture (state g old).now P
      → KeepsPicture (state g new) (made P))
  -- the tables still exist, whatever their rows
  pub tables : IsClean g new → HasTables (state g old).now → OnOk result (HasTables (state g new).now)
  -- after a fault nothing is changed, if the database is still open
  pub failed : IsClean g new → IsOpen g new → OnErr result (IsAsItWas (state g old) (state g new))
  -- a stop leaves the picture before or after it
  pub left : IsClean g new → IsOwner owner → (P : Picture) → KeepsPicture (state g old) P
      → LeavesEither (state g new) P (made P)

-- A command was answered, if the list of accepted requests satisfies `If`: `reply` is the list's reply,
-- `next` the list after the command, and `touched` the patrons whose own rows may differ then.
pub record Answered {S : Type 0} (owner : Owner) (If : History → Type 0) (reply : History → Reply)
    (next : History → History) (touched : List ℕ)
    (g : Ghosts S) (old new : Held S) (result : Result Reply Fault) : Type 0 where
  pub clean : IsClean g new → IsClean g old
  -- the answer is that reply, and the tables show what the next list leaves, with unchanged own rows of every
  -- patron not among those touched
  pub replied : IsClean g new → IsOwner owner
      → IfOk result (λ given. (H : History) → Shows (state g old) H → If H
      → (given ≡ reply H) × KeepsPicture (state g new) (picture (next H)) × KeepsOthers touched H (next H))
  -- fault 93 never comes after such a list
  pub sound : IsClean g new → IsOwner owner → result ≡ Err Stored
      → (H : History) → Shows (state g old) H → If H → ⊥
  -- a stop leaves what one of the two lists leaves
  pub left : IsClean g new → IsOwner owner → (H : History) → Shows (state g old) H → If H
      → LeavesOneOf (state g new) H (next H)

-- The owner's command was answered; if accepted, it is kept under the key.
abbrev pub AnswersCommand : {S : Type 0} → Owner → List ℕ → Command → (History → Type 0) → List ℕ
    → Ghosts S → Held S → Held S → Result Reply Fault → Type 0
AnswersCommand owner key command If =
    Answered owner If (λ H. answer H owner command) (λ H. added H (event owner key command))

-- A request that its caller may send was answered: by what is kept under its key, otherwise by the outcome of
-- its command.
abbrev pub AnswersByKey : {S : Type 0} → Request → List ℕ → Ghosts S → Held S → Held S
    → Result Reply Fault → Type 0
AnswersByKey request =
    Answered (owner_of request.caller)
    (λ _. may_send (owner_of request.caller) request.command ≡ true)
    (λ H. reply_by_key H request (kept_of H (owner_of request.caller) request.key))
    (λ H. after_key H request)

-- Any caller's request was handled, or a fault came.
pub record Handled {S : Type 0} (request : Request)
    (g : Ghosts S) (old new : Held S) (result : Result Reply Fault) : Type 0 where
  -- a caller who may not send the command is refused as not allowed
  pub foreign : IfOk result (RefusesForeign request)
  pub clean : IsClean g new → IsClean g old
  -- the reply is the one that the list of accepted requests gives, and the tables show the list after the
  -- request
  pub replied : IsClean g new → IfOk result (λ reply. (H : History) → Shows (state g old) H
      → (reply ≡ reply_to H request) × Shows (state g new) (after_one H request))
  -- fault 93 doesn't come if the tables show a list of accepted requests
  pub sound : IsClean g new → result ≡ Err Stored → (H : History) → Shows (state g old) H → ⊥
  -- after a fault the tables show what they showed, if the database is still open
  pub undone : Undoes g old new result
  -- what is promised for any tables, after a refusal too
  pub any : HandlesAny g old new result
  -- what only asks changes nothing, whatever rows the tables have
  pub asks : only_asks request.command ≡ true → ChangesNothing (state g old) (state g new) result
  -- nor does a request whose key is used
  pub repeats : IsUsed (owner_of request.caller) request.key (state g old).now → ChangesNothing (state g old) (state g new) result
  -- a stop leaves what was there before or what is there after the request
  pub left : IsClean g new → (H : History) → Shows (state g old) H
      → LeavesOneOf (state g new) H (after_one H request)

-- A handled request left the own rows of every patron not among these unchanged.
abbrev pub TouchesOnly : {S : Type 0} → Request → List ℕ → Ghosts S → Held S → Held S
    → Result Reply Fault → Type 0
TouchesOnly request touched g old new result = IsClean g new → IfOk result
    (λ _. (H : History) → Shows (state g old) H → KeepsOthers touched H (after_one H request))

-- Nobody is named as touched whose page the command leaves as it is, if the list of accepted requests
-- satisfies `If`.
abbrev pub NamesIf : {S : Type 0} → (History → Type 0) → Command → List ℕ → Ghosts S → Held S → Held S
    → Result Reply Fault → Type 0
NamesIf If command touched g old new result = IsClean g new → OnOk result
    ((H : History) → Shows (state g old) H → If H → (p : ℕ) → IsAmong touched p → IsTouched H command p)

-- For any list of accepted requests.
abbrev pub NamesTouched : {S : Type 0} → Command → List ℕ → Ghosts S → Held S → Held S
    → Result Reply Fault → Type 0
NamesTouched = NamesIf (λ _. Unit {0})
