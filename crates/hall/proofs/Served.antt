-- The outcome of serving a connection, from that of its parts.
use Rattle.std.proofs.Common.{◌≡◌, ◌⊎◌, inl, inr, ℕ, List, refl, sym, ap, subst}
use Rattle.std.specs.Prelude.{Option, Some, None, Result, Ok, Err, IfSome, OnOk, OnErr}
use Rattle.std.specs.Io.KnownBytes.{Appends, Keeps}
use Rattle.terms.specs.Writing.{Writes, AppendsFront}
use Rattle.terms.specs.declared.command.Request.{Request as Requested}
use Rattle.terms.specs.declared.fault.Fault.TheVariants.{Memory}
use Rattle.terms.specs.declared.fault.ServiceFault.TheVariants.{Met}
use Rattle.web.specs.Answers.{answer_bytes}
use Rattle.clerks.specs.declared.clerk.Clerk.{Clerk}
use Rattle.web.specs.Asked.{asked_of}
use Rattle.web.specs.Checks.{Reading, UnlessFaulted, ChecksHead}
use Rattle.web.specs.declared.answer.Answer.{Answer}
use Rattle.web.specs.declared.answer.Answer.TheVariants.{Faulted, Failed}
use Rattle.web.specs.declared.asked.Asked.{Asked}
use Rattle.web.specs.declared.asked.Asked.TheVariants.{Nothing, Page, Request}
use Rattle.web.specs.declared.fault.WebFault.TheVariants.{Status}
use Rattle.web.specs.declared.fault.WebStatus.{WebStatus}
use Rattle.web.specs.declared.request.WebRequest.{WebRequest}
use Rattle.board.specs.Showing.{StartsWith, GoesOn}
use Rattle.board.proofs.Beginnings.{goes_self, starts_self}
use Rattle.hall.specs.Serving.{Working, Submits, SubmitsFor, page_asked, SubmitsAsked, TellsReply, TellsStatus, MeetsAsked, Answers, Serves}

-- what was read, by what the reading gave
pub read-status : (bytes : Option (List ℕ)) (r : Reading) (status : WebStatus) → r ≡ Err (Status status)
    → IfSome bytes (λ all. UnlessFaulted r (ChecksHead all r)) → IfSome bytes (λ all. ChecksHead all (Err (Status status)))
read-status None r status e h = tt
read-status (Some all) r status e h = subst (λ (x : Reading). UnlessFaulted x (ChecksHead all x)) e h

-- What was submitted, if anything was.
abbrev Once : List Clerk → Option (List ℕ) → Working → Working → Type 0
Once clerks bytes old new = (new.post ≡ old.post)
    ⊎ ((request : Requested) × (web : WebRequest) × IfSome bytes (λ all. ChecksHead all (Ok web))
    × (asked_of clerks web ≡ Request request) × (page_asked request ≡ None) × Submits old.post new.post request)

asked-once : (clerks : List Clerk) (bytes : Option (List ℕ)) (old new : Working) (web : WebRequest) (asked : Asked) → asked ≡ asked_of clerks web
    → IfSome bytes (λ all. ChecksHead all (Ok web)) → SubmitsAsked asked old.post new.post → Once clerks bytes old new
asked-once clerks bytes old new web Nothing is read same = inl same
asked-once clerks bytes old new web (Page patron card_key) is read same = inl same
asked-once clerks bytes old new web (Request request) is read h = by (page_asked request) refl h
  where
    by : (o : Option ℕ) → page_asked request ≡ o → SubmitsFor o request old.post new.post → Once clerks bytes old new
    by (Some patron) asks same = inl same
    by None asks (inl same) = inl same
    by None asks (inr more) = inr (request, web, read, sym is, asks, more)

still : (bytes : Option (List ℕ)) → Keeps bytes bytes
still None = tt
still (Some xs) = refl

-- no answer went out
module _ {E : Type 0} (clerks : List Clerk) (bytes : Option (List ℕ)) (old new : Working) (before : Option (List ℕ)) (e : E) where
  pub unread : new ≡ old → Serves clerks bytes old new before before (Err e)
  unread same = record {
    on = subst (λ (w : Working). GoesOn w.seen old.seen) (sym same) (goes_self old.seen);
    closing = subst (λ (w : Working). StartsWith w.closing old.closing) (sym same) (starts_self old.closing);
    once = inl (ap (λ (w : Working). w.post) same);
    told = tt;
    broken = inl (still before);
  }

  pub unanswered : (web : WebRequest) (asked : Asked) (met : Option Answer) → asked ≡ asked_of clerks web
      → IfSome bytes (λ all. ChecksHead all (Ok web)) → MeetsAsked asked old new met → Serves clerks bytes old new before before (Err e)
  unanswered web asked met is read meets = record {
    on = meets.on;
    closing = meets.closing;
    once = asked-once clerks bytes old new web asked is read meets.once;
    told = tt;
    broken = inl (still before);
  }

module _ {E : Type 0} (clerks : List Clerk) (bytes : Option (List ℕ)) (old new : Working) (before after : Option (List ℕ))
    (r : Result (Unit {0}) E) (answer : Answer) (sends : Writes (answer_bytes answer) before after r) where
  served : GoesOn new.seen old.seen → StartsWith new.closing old.closing → Once clerks bytes old new
      → Answers clerks bytes old new answer → Serves clerks bytes old new before after r
  served on closing once answers = record { on = on; closing = closing; once = once; told = whole r sends.all; broken = cut r sends.front }
    where
      whole : (q : Result (Unit {0}) E) → OnOk q (Appends before after (answer_bytes answer))
          → OnOk q ((a : Answer) × Answers clerks bytes old new a × Appends before after (answer_bytes a))
      whole (Ok x) out = (answer, answers, out)
      whole (Err e) out = tt

      cut : (q : Result (Unit {0}) E) → OnErr q (AppendsFront before after (answer_bytes answer))
          → OnErr q (Keeps before after ⊎ ((a : Answer) × Answers clerks bytes old new a × AppendsFront before after (answer_bytes a)))
      cut (Ok x) front = tt
      cut (Err e) front = inr (answer, answers, front)

  -- nothing was asked of the hall
  untouched : new ≡ old → TellsStatus bytes answer ⊎ (answer ≡ Faulted (Met Memory)) → Serves clerks bytes old new before after r
  untouched same tells =
      let posts : new.post ≡ old.post = ap (λ (w : Working). w.post) same in
      served (subst (λ (w : Working). GoesOn w.seen old.seen) (sym same) (goes_self old.seen))
      (subst (λ (w : Working). StartsWith w.closing old.closing) (sym same) (starts_self old.closing)) (inl posts) (inl (posts, tells))

  pub status-served : (status : WebStatus) → new ≡ old → answer ≡ Failed status → IfSome bytes (λ all. ChecksHead all (Err (Status status)))
      → Serves clerks bytes old new before after r
  status-served status same is read = untouched same (inl (record { status = status; read = read; answer_is = is }))

  pub want-served : new ≡ old → answer ≡ Faulted (Met Memory) → Serves clerks bytes old new before after r
  want-served same is = untouched same (inr is)

  pub request-served : (web : WebRequest) (asked : Asked) (met : Option Answer) → asked ≡ asked_of clerks web
      → IfSome bytes (λ all. ChecksHead all (Ok web)) → met ≡ Some answer → MeetsAsked asked old new met
      → Serves clerks bytes old new before after r
  request-served web asked met is read some meets =
      served meets.on meets.closing (asked-once clerks bytes old new web asked is read meets.once) (inr (record {
        request = web;
        read = read;
        tells = subst (λ (a : Asked). TellsReply a old new answer) is
            (subst (λ (o : Option Answer). IfSome o (TellsReply asked old new)) some meets.told);
      }))
