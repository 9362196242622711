-- What the board shows of what was handled.
use Rattle.std.proofs.Common.{◌≡◌, ℕ, ◌+◌, ◌<◌, true, false, cond, List, [], ◌∷◌, ◌++◌, length, map, Option, None, inl, inr, sym, refl, ap}
use Rattle.std.proofs.Common.{◌∙◌, subst, eqb, arith}
use Rattle.std.proofs.lemmas.List.Sums.{sum_by-cons}
use Rattle.std.proofs.lemmas.List.{map-append}
use Rattle.std.specs.Prelude.{Result, Ok, Err, IsSome, IfSome, MatchResult}
use Rattle.terms.specs.declared.command.Request.{Request}
use Rattle.terms.specs.declared.fault.Fault.{Fault}
use Rattle.terms.specs.declared.fault.ServiceFault.{ServiceFault}
use Rattle.terms.specs.declared.reply.Reply.{Reply}
use Rattle.store.specs.Library.{Ghosts, Held, state, IsClean}
use Rattle.model.specs.History.{History}
use Rattle.model.specs.Requests.{after, after_one}
use Rattle.desk.specs.Answering.{Learns, Shows}
use Rattle.desk.specs.Showing.{own_page}
use Rattle.desk.specs.declared.showing.OwnPage.{OwnPage}
use Rattle.board.specs.declared.entry.Entry.{Entry}
use Rattle.board.specs.declared.entry.Seen.{Seen}
use Rattle.board.specs.Showing.{count_own, IsNextEntry, ShowsMore, IsTold, requests as entry_requests}
use Rattle.board.specs.Rule.{Publishing, Stopped}
use Rattle.board.proofs.Telling.{told-more}
use Rattle.board.specs.Workers.{is_worker}
use Rattle.hall.specs.declared.messages.Submission.{Submission}
use Rattle.hall.specs.declared.messages.Message.{Message}
use Rattle.hall.specs.declared.messages.Message.TheVariants.{Submit, Leave}
use Rattle.hall.specs.Queue.{AreFrom, of, is_open, submissions, own, handled, unhandled, requests, IsNext}
use Rattle.hall.specs.Openings.{ToldBy}
use Rattle.hall.specs.Handling.{submission_of, AreShown, ShowsAfter, PutsPages, IsDue, HandledFirst, TakesNext, ClosedBy, MayHandle}
use Rattle.hall.specs.Handling.{MayTake, ShowsNext, TakesMessage, BoardShows, StandsOpen, Finishes, AnswersTouching, shown_by}
use Rattle.hall.proofs.HandledLists.{submissions_of, submissions-append, all_of, leave_kept, rest_kept, no_rest}
use Rattle.hall.proofs.Pages.{no-page-before}
use Rattle.hall.proofs.Progress.{after-last, answered, submission-kept}
use Rattle.hall.proofs.Causes.{open-shows, closed-shows, cause-left, cause-kept}

own-count : (w : ℕ) (es : List Entry) → count_own w es ≡ length (own w (map submission_of es))
own-count w [] = refl
own-count w (e ∷ es) =
    let rest = own-count w es in
    sum_by-cons (λ (d : Entry). cond (eqb d.worker w) 1 0) e es
    ∙ (elim (eqb e.worker w) as (λ b. cond b 1 0 + count_own w es ≡ length
    (cond b (submission_of e ∷ own w (map submission_of es)) (own w (map submission_of es))))
    [ true ↦ omega (arith, rest) | false ↦ omega (arith, rest) ])

pub same-requests : (es : List Entry) → entry_requests es ≡ requests (map submission_of es)
same-requests [] = refl
same-requests (e ∷ es) = ap (λ (l : List Request). e.request ∷ l) (same-requests es)

open-length : (ms : List Message) → is_open ms ≡ true → length (submissions ms) ≡ length ms
open-length [] h = refl
open-length (Submit s ∷ ms) h = let r = open-length ms h in omega (arith, r)
open-length (Leave w ∷ ms) h = absurd (cc)

-- all that came were handled
all-handled : (n : ℕ) (got : List Message) → n ≡ length (submissions got) → handled n got ≡ submissions got
all-handled n got whole = ap (λ k. handled k got) whole ∙ all_of (submissions got)

-- the number of a submission that was just received, where all before it are shown
pub due-number : (n : ℕ) (got : List Message) (s : Submission) (shown : List Entry) → IsNext got (Submit s) → n ≡ length (submissions got)
    → AreShown shown (handled n got) → s.number ≡ count_own s.worker shown + 1
due-number n got s shown next whole is =
    let all = all-handled n got whole in
    let long : length (of s.worker got) ≡ count_own s.worker shown =
    sym (open-length (of s.worker got) next.0)
    ∙ (ap length (submissions_of s.worker got)
    ∙ (ap (λ l. length (own s.worker l)) (sym (is ∙ all)) ∙ sym (own-count s.worker shown))) in
    next.1 ∙ ap (λ k. k + 1) long

-- the board after one more submission
pub board-kept : {S : Type 0} (lists : History → Type 0) (g : Ghosts S) (c : Held S) (n m : ℕ) (before after' : Option ServiceFault)
    (got got' : List Message) (s : Submission) (old new : Result Publishing Stopped) → got' ≡ got ++ Submit s ∷ []
    → (before ≡ None → n ≡ length (submissions got)) → (after' ≡ None → m ≡ length (submissions got'))
    → BoardShows old (handled n got) before → ShowsNext lists g c old new s after' → BoardShows new (handled m got') after'
board-kept lists g c n m before after' got got' s (Ok p) (Ok q) e all all' shows next =
    let more : submissions got' ≡ submissions got ++ s ∷ [] = ap submissions e ∙ submissions-append got (Submit s ∷ []) in
    (next.0, next.1, next.2 ∙ (ap (λ l. l ++ s ∷ []) (shows.2 ∙ all-handled n got (all shows.0)) ∙ (sym more ∙ sym (all-handled m got' (all' next.0)))))
board-kept lists g c n m before after' got got' s (Err w) (Ok q) e all all' shows next = absurd next
board-kept lists g c n m before after' got got' s (Ok p) (Err v) e all all' shows next = next.0
board-kept lists g c n m before after' got got' s (Err w) (Err v) e all all' shows next = next.0

-- ---- what may be shown next

module _ {S : Type 0} (g : Ghosts S) (lists : History → Type 0) where
  -- a submission that was handled is due to be shown
  pub is-due : (old made : Held S) (shown : Seen) (s : Submission) (answer : Result Reply Fault) (touched : List ℕ)
      → s.number ≡ count_own s.worker shown.entries + 1 → ToldBy lists g old shown → ShowsAfter lists g old (entry_requests shown.entries)
      → AnswersTouching s.request g old made answer touched → IsDue lists g made shown s answer touched
  is-due old made shown s answer touched number told list answers =
      let was : IsClean g made → IsClean g old = answers.handles.handled.clean in
      record {
        stays = answers.stays;
        number = number;
        told = λ disk H first. told (was disk) H first;
        given = λ disk H first.
            let K : History = after H (entry_requests shown.entries) in
            let at : Shows (state g old) K = list (was disk) H first in
            let replied = answered g s.request old made answer answers.stays answers.handles.handled disk K at in
            record { answer_is = replied.0; shows = replied.1; kept = λ p out. answers.kept disk K at p out };
      }

  -- one that is due may be shown
  pub may-follow : (desk : Held S) (shown now : Seen) (s : Submission) (answer : Result Reply Fault) (touched : List ℕ) → is_worker s.worker ≡ true
      → IsDue lists g desk shown s answer touched → now ≡ shown
      → IsNextEntry now.entries (record { worker = s.worker; number = s.number; request = s.request; answer = answer })
  may-follow desk shown now s answer touched worker due same =
      let e : Entry = record { worker = s.worker; number = s.number; request = s.request; answer = answer } in
      let next : IsNextEntry shown.entries e = record { worker = worker; number = due.number; stays = due.stays } in
      subst (λ (l : Seen). IsNextEntry l.entries e) (sym same) next

  -- what is shown with it, once its pages are looked up, is what the list makes it
  pub told-next : (desk now : Held S) (shown next : Seen) (s : Submission) (answer : Result Reply Fault) (touched : List ℕ)
      (before put : List (ℕ × OwnPage)) → IsDue lists g desk shown s answer touched → before ≡ []
      → Learns {A = Unit {0}} (λ H _. PutsPages touched before put H) g desk now (Ok tt)
      → ShowsMore shown put (record { worker = s.worker; number = s.number; request = s.request; answer = answer }) next → ToldBy lists g now next
  told-next desk now shown next s answer touched before put due blank learnt more disk H first =
      let e : Entry = record { worker = s.worker; number = s.number; request = s.request; answer = answer } in
      let was : IsClean g desk = learnt.looks.clean disk in
      let K : History = after H (entry_requests shown.entries) in
      let J : History = after_one K s.request in
      let given = due.given was H first in
      let list-is : after H (entry_requests (shown.entries ++ e ∷ [])) ≡ J =
      ap (after H) (map-append (λ (d : Entry). d.request) shown.entries (e ∷ [])) ∙ after-last (entry_requests shown.entries) H s.request in
      let puts : PutsPages touched [] put J = subst (λ (l : List (ℕ × OwnPage)). PutsPages touched l put J) blank (learnt.shown disk J given.shows tt) in
      told-more H shown next put e (due.told was H first) more given.answer_is
      (λ q. puts q (own_page K q) (no-page-before K s.request q) (λ out. sym (given.kept q out)) ∙ ap (λ (L : History). own_page L q) (sym list-is))

  -- the tables show each list with the requests, as far as the board shows them
  pub shows-after : (old desk : Held S) (shown : List Entry) (all : List Submission) (rest : List Request) (fault : Option ServiceFault)
      → (IsClean g old → (H : History) → lists H → Shows (state g old) H)
      → HandledFirst (requests all) rest g old desk fault → fault ≡ None → AreShown shown all → ShowsAfter lists g desk (entry_requests shown)
  shows-after old desk shown all rest fault tables h none is disk H first =
      subst (λ (l : List Request). Shows (state g desk) (after H l)) (sym (same-requests shown ∙ ap requests is))
      (h.shown disk none H (tables (h.clean disk) H first))

  -- the next submission may be handled, where the hall isn't closed
  pub may-be-next : (old desk : Held S) (n : ℕ) (got : List Message) (s : Submission) (fault : Option ServiceFault)
      (board : Result Publishing Stopped) (rest : List Request)
      → (IsClean g old → (H : History) → lists H → Shows (state g old) H) → IsNext got (Submit s)
      → (fault ≡ None → n ≡ length (submissions got)) → HandledFirst (requests (handled n got)) rest g old desk fault
      → BoardShows board (handled n got) fault → ToldBy lists g desk (shown_by board) → MayHandle lists g desk fault board s
  may-be-next old desk n got s fault (Ok p) rest tables next all h shows told = (
    shows.0,
    record {
      blank = shows.1;
      number = due-number n got s p.shown.entries next (all shows.0) shows.2;
      told = told;
      list = shows-after old desk p.shown.entries (handled n got) rest fault tables h shows.0 shows.2;
    },
  )
  may-be-next old desk n got s fault (Err w) rest tables next all h shows told = shows

  -- what is shown next, after a board that shows something
  pub shows-next : (desk : Held S) (old : Publishing) (new : Result Publishing Stopped) (s : Submission) (fault : Option ServiceFault)
      → MatchResult new (λ (p : Publishing). (fault ≡ None) × (p.pages ≡ [])
      × AreShown p.shown.entries (map submission_of old.shown.entries ++ s ∷ []) × ToldBy lists g desk p.shown)
      (λ (b : Stopped). IsSome fault × (b.shown ≡ old.shown)) → ShowsNext lists g desk (Ok old) new s fault
  shows-next desk old (Ok p) s fault h = h
  shows-next desk old (Err w) s fault h = h

  -- a disk that is clean after it was clean before
  still-clean : (request : Request) (old new : Held S) (n m : ℕ) (before after' : Option ServiceFault)
      → TakesNext request g old new n m before after' → IsClean g new → IsClean g old
  still-clean request old new n m before after' (inl t) disk = t.handles.handled.clean (t.looks.looks.clean disk)
  still-clean request old new n m before after' (inr (inl t)) disk = t.handles.handled.clean (t.looks.looks.looks.clean disk)
  still-clean request old new n m before after' (inr (inr (inl t))) disk = t.handles.handled.clean disk
  still-clean request old new n m before after' (inr (inr (inr t))) disk = subst (λ (x : Held S). IsClean g x) t.same disk

  -- what is shown after one submission more is what the lists make it
  pub told-kept : (old new : Held S) (shown shows : Result Publishing Stopped) (s : Submission) (fault : Option ServiceFault)
      → (IsClean g new → IsClean g old) → ToldBy lists g old (shown_by shown)
      → ShowsNext lists g new shown shows s fault → ToldBy lists g new (shown_by shows)
  told-kept old new (Ok p) (Ok q) s fault clean told next = next.3
  told-kept old new (Err w) (Ok q) s fault clean told next = absurd next
  told-kept old new (Ok p) (Err v) s fault clean told next = λ disk H first. subst (IsTold H) (sym next.1) (told (clean disk) H first)
  told-kept old new (Err w) (Err v) s fault clean told next = λ disk H first. subst (IsTold H) (sym next.1) (told (clean disk) H first)

-- ---- one message more

module _ {S : Type 0} (g : Ghosts S) where
  -- it may be taken
  pub may-take : (lists : History → Type 0) (old desk : Held S) (n : ℕ) (fault : Option ServiceFault) (got : List Message)
      (board : Result Publishing Stopped) (message : Message)
      → (IsClean g old → (H : History) → lists H → Shows (state g old) H) → IsNext got message → StandsOpen lists g old desk n fault got board
      → MayTake lists g desk fault board message
  may-take lists old desk n fault got board (Submit s) tables next h =
      may-be-next g lists old desk n got s fault board (requests (unhandled n got)) tables next h.all h.desk h.shown h.told
  may-take lists old desk n fault got board (Leave w) tables next h = tt

  -- how the desk stands once it is taken
  pub message-kept : (lists : History → Type 0) (old b c : Held S) (n m : ℕ) (before after' : Option ServiceFault) (got got' : List Message)
      (board board' : Result Publishing Stopped) (message : Message) → got' ≡ got ++ message ∷ []
      → TakesMessage lists message g b c n m before after' board board' → StandsOpen lists g old b n before got board
      → StandsOpen lists g old c m after' got' board'
  message-kept lists old b c n m before after' got got' board board' (Submit s) e t h =
      let k = submission-kept g old b c n m before after' got got' s e t.0 h.counted h.all h.desk in
      record {
        counted = k.0;
        all = k.1;
        cause = cause-kept g old b c n m before after' got got' s board board' e h.counted h.all
            (λ none. open-shows board (handled n got) before none h.shown) (λ f is. closed-shows lists g c board board' s after' f is t.1)
            (λ none. subst (λ (l : List Request). HandledFirst (requests (handled n got)) l g old b None) (no_rest n got (h.all none))
            (subst (HandledFirst (requests (handled n got)) (requests (unhandled n got)) g old b) none h.desk)) t.0 h.cause;
        desk = k.2;
        shown = board-kept lists g c n m before after' got got' s board board' e h.all k.1 h.shown t.1;
        told = told-kept g lists b c board board' s after' (still-clean g lists s.request b c n m before after' t.0) h.told t.1;
      }
  message-kept lists old b c n m before after' got got' board board' (Leave w) e t h =
      let k = leave_kept n got got' w e h.counted in
      let rest = rest_kept n got got' w e in
      let now : StandsOpen lists g old b n before got' board = record {
        counted = omega (arith, k.0, h.counted);
        all = λ f. h.all f ∙ sym k.0;
        cause = cause-left g old n got got' b (shown_by board).entries before rest k.1 h.cause;
        desk = subst (λ (l : List Request). HandledFirst l (requests (unhandled n got')) g old b before) (sym (ap requests k.1))
            (subst (λ (l : List Request). HandledFirst (requests (handled n got)) l g old b before) (sym rest) h.desk);
        shown = subst (λ (l : List Submission). BoardShows board l before) (sym k.1) h.shown;
        told = h.told;
      } in
      subst (λ (d : Held S). StandsOpen lists g old d m after' got' board') (sym t.0)
      (subst (λ (j : ℕ). StandsOpen lists g old b j after' got' board') (sym t.1)
      (subst (λ (f : Option ServiceFault). StandsOpen lists g old b n f got' board') (sym t.2)
      (subst (λ (x : Result Publishing Stopped). StandsOpen lists g old b n before got' x) (sym t.3) now)))

  -- what stands once each worker has left
  pub finishes : (lists : History → Type 0) (workers n : ℕ) (got : List Message) (entries : List Entry) (old now : Held S)
      (fault : Option ServiceFault) (board : Result Publishing Stopped) → ((k : ℕ) → k < workers → is_open (of (k + 1) got) ≡ false)
      → AreFrom workers got → entries ≡ (shown_by board).entries → StandsOpen lists g old now n fault got board → Finishes workers n got entries g old now fault
  finishes lists workers n got entries old now fault board gone sent same h = record {
    gone = gone;
    from = sent;
    counted = h.counted;
    all = h.all;
    shown = λ none. ap (map submission_of) same ∙ open-shows board (handled n got) fault none h.shown;
    cause = subst (λ (l : List Entry). IfSome fault (ClosedBy n got g old now l)) (sym same) h.cause;
    desk = h.desk;
  }
