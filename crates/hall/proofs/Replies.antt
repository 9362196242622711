-- Pages shown by the board are the desk's replies.
use Rattle.std.proofs.Common.{◌≡◌, ℕ, Bool, true, false, not, cond, List, [], ◌∷◌, ◌++◌, append_assoc, inr, refl, sym, ◌∙◌, ap, subst}
use Rattle.std.specs.Prelude.{Option, Some, None, option_map, unwrap_or, is_some, bytes_eq, Result, Ok, Err, IfOk, IfErr, IfSome}
use Rattle.std.proofs.lemmas.Bool.{eq-eqb}
use Rattle.terms.specs.declared.command.Caller.{Caller}
use Rattle.terms.specs.declared.command.Caller.TheVariants.{Desk}
use Rattle.terms.specs.declared.command.Caller.TheVariants.{Patron as FromPatron}
use Rattle.terms.specs.declared.command.Owner.TheVariants.{Patron}
use Rattle.terms.specs.declared.command.Command.{Command}
use Rattle.terms.specs.declared.command.Command.TheVariants.{Page}
use Rattle.terms.specs.declared.command.Request.{Request}
use Rattle.terms.specs.declared.fault.Fault.{Fault}
use Rattle.terms.specs.declared.fault.ServiceFault.{ServiceFault}
use Rattle.terms.specs.declared.fault.ServiceFault.TheVariants.{Met}
use Rattle.terms.specs.declared.refusal.Refusal.TheVariants.{UnknownPatron, NotAllowed}
use Rattle.terms.specs.declared.reply.Reply.{Reply}
use Rattle.terms.specs.declared.reply.Reply.TheVariants.{Shown, Refused}
use Rattle.model.specs.Checks.{first_failing}
use Rattle.model.specs.History.{History, PatronFacts, patron_of}
use Rattle.model.specs.Pages.{page}
use Rattle.model.specs.Answers.{answer as answer_to}
use Rattle.model.specs.Requests.{after, is_known, reply_to}
use Rattle.model.proofs.Corrections.{old-key-void}
use Rattle.desk.specs.Answering.{page_for}
use Rattle.desk.specs.Showing.{own_page}
use Rattle.desk.specs.declared.showing.OwnPage.{OwnPage}
use Rattle.desk.proofs.Handled.{allowed-both, reply-page}
use Rattle.desk.proofs.PageFor.{page_for-same}
use Rattle.web.specs.declared.answer.Answer.{Answer}
use Rattle.web.specs.declared.answer.Answer.TheVariants as answer
use Rattle.web.specs.declared.asked.Asked.TheVariants.{Nothing}
use Rattle.web.specs.declared.asked.Asked.TheVariants as asked
use Rattle.web.specs.declared.asked.Asked.{Asked}
use Rattle.board.specs.declared.entry.Seen.{Seen}
use Rattle.board.specs.Showing.{StartsWith, GoesOn, IsTold, requests}
use Rattle.board.proofs.Beginnings.{goes_self, starts_self}
use Rattle.board.proofs.Telling.{told-answer}
use Rattle.hall.specs.declared.closing.Closing.{Closing}
use Rattle.hall.specs.Serving.{Working, shown_page, page_by_desk, page_asked, IsOwnPage, IsVoid, IsPageSeen, IsAnswered, IsReplyFor, IsReplyTo}
use Rattle.hall.specs.Serving.{IsGivenReply, IsGivenFor, IsGivenTo, IsOwnFault, IsUnsubmitted, IsFaultFor, IsFaultTo}
use Rattle.hall.specs.Serving.{SubmitsFor, TellsPage, TellsSubmitted, MeetsAsked, outcome_of}
use Rattle.hall.specs.Serving.{answer_to as tells_of}

abbrev asked_page : Option PatronFacts → List ℕ → Reply
asked_page row text = elim (first_failing ((UnknownPatron, not (is_some row)) ∷ [])) as (λ _. Reply) [ Some refused ↦ Refused refused | None ↦ Shown text ]

abbrev board_page : Option PatronFacts → List ℕ → Option OwnPage
board_page row text = option_map (λ r. record { card_key = r.card_key; reply = asked_page row text }) row

by-card-key : (card_key : List ℕ) (row : Option PatronFacts) (text : List ℕ) → shown_page (board_page row text) (Some card_key)
    ≡ elim (unwrap_or (option_map (λ r. bytes_eq r.card_key card_key) row) false) [ true ↦ asked_page row text | false ↦ Refused NotAllowed ]
by-card-key card_key None text = refl
by-card-key card_key (Some r) text =
    elim (bytes_eq r.card_key card_key) as (λ b. cond b (Shown text) (Refused NotAllowed) ≡ elim b as (λ _. Reply)
    [ true ↦ Shown text | false ↦ Refused NotAllowed ]) [ true ↦ refl | false ↦ refl ]

-- by a card key
pub page-shown : (H : History) (patron : ℕ) (card_key : List ℕ) → shown_page (own_page H patron) (Some card_key) ≡ page_for H patron card_key
page-shown H patron card_key = by-card-key card_key (patron_of H patron) (page H patron)

-- the card key that the patron had before the last card-key
void-page : (H : History) (patron : ℕ) (card_key : List ℕ) → IsVoid patron card_key H → page_for H patron card_key ≡ Refused NotAllowed
void-page H patron card_key v = go (is_known H (FromPatron patron card_key)) refl
  where
    asks : Request
    asks = record { caller = FromPatron patron card_key; key = []; command = Page patron }

    by : Bool → Reply
    by known = elim known [ true ↦ answer_to H (Patron patron) (Page patron) | false ↦ Refused NotAllowed ]

    refused : reply_to H asks ≡ Refused NotAllowed
    refused = subst (λ (K : History). reply_to K asks ≡ Refused NotAllowed) (sym v.list_is)
        (old-key-void v.set v.before v.later patron v.new_key card_key [] (Page patron) v.accepted v.sets v.last v.differs)

    go : (known : Bool) → is_known H (FromPatron patron card_key) ≡ known → page_for H patron card_key ≡ Refused NotAllowed
    go false e = ap by e
    go true e = ap by e ∙ sym (reply-page H asks (allowed-both H (FromPatron patron card_key) (Page patron) e (eq-eqb patron patron refl)) refl) ∙ refused

pub own-page : (H : History) (patron : ℕ) (card_key : List ℕ) (reply : Reply) → reply ≡ shown_page (own_page H patron) (Some card_key)
    → IsOwnPage patron card_key H reply
own-page H patron card_key reply is =
    let same : reply ≡ page_for H patron card_key = is ∙ page-shown H patron card_key in
    record { page = same; own = λ K agrees. same ∙ page_for-same patron card_key H K agrees; void = λ v. same ∙ void-page H patron card_key v }

by-desk : (row : Option PatronFacts) (text : List ℕ) → shown_page (board_page row text) None ≡ asked_page row text
by-desk None text = refl
by-desk (Some r) text = refl

-- by the desk
pub page-replied : (H : History) (request : Request) (patron : ℕ) → page_asked request ≡ Some patron → shown_page (own_page H patron) None ≡ reply_to H request
page-replied H request patron asked = by request.caller request.command asked
  where
    by : (caller : Caller) (command : Command) → page_by_desk caller command ≡ Some patron
        → shown_page (own_page H patron) None ≡ reply_to H (record { caller = caller; key = request.key; command = command })
    by Desk (Page q) is =
        let same : q ≡ patron = cc in
        by-desk (patron_of H patron) (page H patron) ∙ ap (λ n. reply_to H (record { caller = Desk; key = request.key; command = Page n })) (sym same)
    by _ _ is = let never : ⊥ = cc in absurd never

-- ---- what is asked for is met

module _ (old : Working) where
  pub nothing-met : MeetsAsked Nothing old old (Some (answer.Refused NotAllowed))
  nothing-met = record {
    on = goes_self old.seen;
    closing = starts_self old.closing;
    once = refl;
    told = record { outcome = Ok (Refused NotAllowed); answer_is = refl; reply = (refl, refl); fault = tt };
  }

  module _ (new : Working) (told : Answer) (on : GoesOn new.seen old.seen)
      (kept : (new.post ≡ old.post) × (new.closing ≡ old.closing)) (patron : ℕ) where
    same : new.post ≡ old.post
    same = kept.0

    closing-on : StartsWith new.closing old.closing
    closing-on = subst (λ (l : List Closing). StartsWith l old.closing) (sym kept.1) (starts_self old.closing)

    pub page-met : (card_key : List ℕ) → TellsPage patron (Some card_key) old new told → MeetsAsked (asked.Page patron card_key) old new (Some told)
    page-met card_key t = record {
      on = on;
      closing = closing-on;
      once = same;
      told = record { outcome = t.outcome; answer_is = t.answer_is; reply = by t.outcome t.reply; fault = faulted t.outcome t.fault };
    }
      where
        faulted : (o : Result Reply ServiceFault) → IfErr o IsOwnFault → IfErr o (IsUnsubmitted old new)
        faulted (Ok reply) h = tt
        faulted (Err fault) h = (same, h)

        by : (o : Result Reply ServiceFault) → IfOk o (IsPageSeen patron (Some card_key) old new) → IfOk o (IsReplyTo (asked.Page patron card_key) old new)
        by (Ok reply) h = (same, h)
        by (Err fault) h = tt

    pub desk-page-met : (request : Request) → page_asked request ≡ Some patron → TellsPage patron None old new told
        → MeetsAsked (asked.Request request) old new (Some told)
    desk-page-met request asks t =
        record {
          on = on;
          closing = closing-on;
          once = subst (λ (q : Option ℕ). SubmitsFor q request old.post new.post) (sym asks) same;
          told = record { outcome = t.outcome; answer_is = t.answer_is; reply = by t.outcome t.reply; fault = faulted t.outcome t.fault };
        }
      where
        faulted : (o : Result Reply ServiceFault) → IfErr o IsOwnFault → IfErr o (IsFaultTo (asked.Request request) old new)
        faulted (Ok reply) h = tt
        faulted (Err fault) h = subst (λ (q : Option ℕ). IsFaultFor q request old new fault) (sym asks) (same, h)

        by : (o : Result Reply ServiceFault) → IfOk o (IsPageSeen patron None old new) → IfOk o (IsReplyTo (asked.Request request) old new)
        by (Ok reply) h = subst (λ (q : Option ℕ). IsReplyFor q request old new reply) (sym asks) (same, h)
        by (Err fault) h = tt

  -- What was submitted is told by the answer that the board shows.
  submitted-told : (new : Working) (request : Request) (shown : Result Reply Fault) (told : Answer) → told ≡ tells_of (outcome_of shown)
      → IsAnswered request old new shown → TellsSubmitted request old new told
  submitted-told new request (Ok reply) told is answered = record { outcome = Ok reply; answer_is = is; reply = answered; fault = tt }
  submitted-told new request (Err met) told is answered =
      record { outcome = Err (Met met); answer_is = is; reply = tt; fault = inr (inr (met, refl, answered)) }

  -- The same where an answer was made of it.
  pub submitted-if : (new : Working) (request : Request) (shown : Result Reply Fault) (told : Option Answer)
      → IfSome told (λ a. a ≡ tells_of (outcome_of shown)) → IsAnswered request old new shown → IfSome told (TellsSubmitted request old new)
  submitted-if new request shown None is answered = tt
  submitted-if new request shown (Some a) is answered = submitted-told new request shown a is answered

-- ---- what a list of accepted requests makes of it

-- What the board showed by its end is what the list makes it, and the worker has seen a beginning of
-- that: so its reply is the one that the list gives.
module _ (H : History) (all : Seen) (told : IsTold H all) (old new : Working) (on : GoesOn all new.seen) where
  -- The answer is the reply that the list gives in its place.
  answer-given : (request : Request) (answer : Result Reply Fault) (r : IsAnswered request old new answer)
      → answer ≡ Ok (reply_to (after H (requests r.answered.front)) request)
  answer-given request answer r =
      let e = r.answered.entry in
      let here : StartsWith all.entries (r.answered.front ++ e ∷ r.answered.rest) = subst (StartsWith all.entries) r.answered.seen_is on.0 in
      let at : all.entries ≡ r.answered.front ++ e ∷ (r.answered.rest ++ here.0) = here.1 ∙ append_assoc r.answered.front (e ∷ r.answered.rest) here.0 in
      sym r.answered.answer_is
      ∙ (told-answer H all r.answered.front e (r.answered.rest ++ here.0) told at
      ∙ ap (λ (q : Request). Ok (reply_to (after H (requests r.answered.front)) q)) r.answered.request_is)

  submission-given : (request : Request) (reply : Reply) → IsAnswered request old new (Ok reply) → IsGivenReply H old new reply request
  submission-given request reply r = record { answered = r; given = let is = answer-given request (Ok reply) r in cc }

  -- So it is no fault.
  pub no-fault-shown : (request : Request) (met : Fault) → IsAnswered request old new (Err met) → ⊥
  no-fault-shown request met r = let is = answer-given request (Err met) r in cc

  seen-page : (patron : ℕ) (shown : Option (List ℕ)) (reply : Reply) → IsPageSeen patron shown old new reply
      → reply ≡ shown_page (own_page (after H (requests new.seen.entries)) patron) shown
  seen-page patron shown reply p = p.reply_is ∙ ap (λ o. shown_page o shown) (told.pages new.seen on p.looked patron)

  pub given-to : (a : Asked) (reply : Reply) → IsReplyTo a old new reply → IsGivenTo H old new reply a
  given-to Nothing reply r = r.1
  given-to (asked.Page patron card_key) reply r =
      own-page (after H (requests new.seen.entries)) patron card_key reply (seen-page patron (Some card_key) reply r.1)
  given-to (asked.Request request) reply r = by (page_asked request) refl r
    where
      by : (o : Option ℕ) → page_asked request ≡ o → IsReplyFor o request old new reply → IsGivenFor H old new reply o request
      by None e h = submission-given request reply h
      by (Some patron) e h = seen-page patron None reply h.1 ∙ page-replied (after H (requests new.seen.entries)) request patron e
