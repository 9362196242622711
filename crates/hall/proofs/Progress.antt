-- What holds after one more submission.
use Rattle.std.proofs.Common.{◌≡◌, ℕ, ◌+◌, ◌≤◌, List, [], ◌∷◌, ◌++◌, length, Option, None, Some, ◌⊎◌, inl, inr, refl, sym, ap, ◌∙◌, subst, arith}
use Rattle.std.proofs.Common.{⊎_elim, take}
use Rattle.std.proofs.lemmas.List.{append-nil}
use Rattle.std.specs.Prelude.{Result, Ok, Err, IfSome, ◌^◌}
use Rattle.store.specs.Library.{Ghosts, Held, State, state, IsClean, IsOpen}
use Rattle.terms.specs.declared.command.Request.{Request}
use Rattle.terms.specs.declared.fault.Fault.{Fault}
use Rattle.terms.specs.declared.fault.ServiceFault.{ServiceFault}
use Rattle.terms.specs.declared.fault.Fault.TheVariants.{Memory, Stored}
use Rattle.terms.specs.declared.fault.ServiceFault.TheVariants.{Met, Closed}
use Rattle.terms.specs.declared.reply.Reply.{Reply}
use Rattle.model.specs.History.{History}
use Rattle.model.specs.Requests.{after, after_one, reply_to}
use Rattle.desk.specs.Answering.{Shows, Stays, DeskLooks, Handled, LeavesOneOf}
use Rattle.desk.specs.Running.{Handles}
use Rattle.desk.proofs.Looking.{leaves-first}
use Rattle.desk.proofs.Shown.{shows-headline}
use Rattle.desk.proofs.Unchanged.{as-it-was, as-then, tables-as}
use Rattle.model.specs.Picture.{picture}
use Rattle.hall.specs.declared.messages.Submission.{Submission}
use Rattle.hall.specs.declared.messages.Message.{Message}
use Rattle.hall.specs.declared.messages.Message.TheVariants.{Submit}
use Rattle.hall.specs.Queue.{submissions, handled, unhandled, requests}
use Rattle.hall.specs.Openings.{LooksOnly, MeetsFaultOf, IsMet}
use Rattle.store.proofs.ReadLemmas.{ready_same, ready_then}
use Rattle.board.specs.Showing.{LeavesOpen}
use Rattle.hall.specs.Handling.{HandledFirst, HandledAny, LooksAny, TakesNext}
use Rattle.hall.proofs.HandledLists.{submit_same, submit_more, rest_more, no_rest}

pub after-last : (xs : List Request) (H : History) (r : Request) → after H (xs ++ r ∷ []) ≡ after_one (after H xs) r
after-last [] H r = refl
after-last (x ∷ xs) H r = after-last xs (after_one H x) r

pub none-some : (o : Option ServiceFault) (f : ServiceFault) → o ≡ None → o ≡ Some f → ⊥
none-some o f n s = cc

met-is : (e f : Fault) → ◌≡◌ {A = Option ServiceFault} (Some (Met e)) (Some (Met f)) → e ≡ f
met-is e f h = cc

own-is-none : (f : Fault) → ◌≡◌ {A = Option ServiceFault} (Some Closed) (Some (Met f)) → ⊥
own-is-none f h = cc

module _ {S : Type 0} (g : Ghosts S) where
  -- ---- tables with any rows

  not-asked : (held : Held S) (fault : Option ServiceFault) → LooksAny g held held fault
  not-asked held fault = record { ready = ready_same (state g held); clean = λ disk. disk; nothing = λ disk is_open tables. as-it-was (state g held) }

  -- a look that answered, and one that met a fault
  looked-any : (a b : Held S) (fault : Option ServiceFault) → LooksOnly g a b (Ok tt) → LooksAny g a b fault
  looked-any a b fault l =
      record { ready = l.looks.nothing.ready; clean = l.looks.clean; nothing = λ disk is_open tables. l.looks.nothing.answered disk tables }

  met-any : (a b : Held S) (fault : Fault) (looked : Result (Unit {0}) Fault) → LooksOnly g a b looked → LooksAny g a b (Some (Met fault))
  met-any a b fault (Ok x) l = looked-any a b (Some (Met fault)) l
  met-any a b fault (Err e) l = record {
    ready = l.looks.nothing.ready;
    clean = l.looks.clean;
    nothing = λ disk is_open tables. l.looks.nothing.failed disk (is_open refl) tables;
  }

  look-then : (a b c : Held S) (fault : Option ServiceFault) → LooksAny g a b None → LooksAny g b c fault → LooksAny g a c fault
  look-then a b c fault one two = record {
    ready = ready_then (state g a) (state g b) (state g c) one.ready two.ready;
    clean = λ disk. one.clean (two.clean disk);
    nothing = λ disk is_open tables.
        let same = one.nothing (two.clean disk) (λ some. let never : ⊥ = cc in absurd never) tables in
        as-then (state g a) (state g b) (state g c) same (two.nothing disk is_open (tables-as (state g a) (state g b) same tables));
  }

  -- a look before the requests, and one after them
  any-after-look : (first : List Request) (a b c : Held S) (fault : Option ServiceFault) → LooksAny g a b None
      → HandledAny g first b c fault → HandledAny g first a c fault
  any-after-look [] a b c fault look h = look-then a b c fault look h
  any-after-look (r ∷ rs) a b c fault look h = (h.0, h.1, h.2, look-then a b h.0 None look h.3, h.4, h.5, h.6)

  any-then-look : (first : List Request) (a b c : Held S) (fault : Option ServiceFault) → HandledAny g first a b None
      → LooksAny g b c fault → HandledAny g first a c fault
  any-then-look [] a b c fault h look = look-then a b c fault h look
  any-then-look (r ∷ rs) a b c fault h look = (h.0, h.1, h.2, h.3, h.4, h.5, any-then-look rs h.1 b c fault h.6 look)

  -- one request more
  any-more : (first : List Request) (request : Request) (a b m c : Held S) (answer : Result Reply Fault) (fault : Option ServiceFault)
      → HandledAny g first a b None → LeavesOpen request answer → Handled request g b m answer → LooksAny g m c fault
      → HandledAny g (first ++ request ∷ []) a c fault
  any-more [] request a b m c answer fault h stays d look = (b, m, answer, h, stays, d, look)
  any-more (r ∷ rs) request a b m c answer fault h stays d look =
      (h.0, h.1, h.2, h.3, h.4, h.5, any-more rs request h.1 b m c answer fault h.6 stays d look)

  -- ---- tables that show a list of accepted requests

  -- what more may follow was answered as the list gives it: a fault doesn't come
  pub answered : (request : Request) (a b : Held S) (answer : Result Reply Fault) → LeavesOpen request answer → Handled request g a b answer
      → IsClean g b → (H : History) → Shows (state g a) H → (answer ≡ Ok (reply_to H request)) × Shows (state g b) (after_one H request)
  answered request a b (Ok reply) stays d disk H shows = let r = d.replied disk H shows in (ap Ok r.0, r.1)
  answered request a b (Err fault) stays d disk H shows = absurd (d.sound disk (ap Err stays.0) H shows)

  -- nothing was handled
  pub none-handled : (held : Held S) (rest : List Request) → HandledFirst [] rest g held held None
  none-handled held rest = record {
    clean = λ disk. disk;
    shown = λ disk e H shows. shows;
    headline = λ disk e H shows. shows-headline (state g held) H shows;
    sound = λ disk e. let never : ⊥ = cc in absurd never;
    undone = λ disk is_open H shows. shows;
    left = λ disk. tt;
    any = not-asked held None;
  }

  -- whatever came of a look, the tables show what they showed, as long as the database is open
  stays-any : (a b : Held S) (r : Result (Unit {0}) Fault) → DeskLooks (state g a) (state g b) r → IsClean g b → IsOpen g b → Stays (state g a) (state g b)
  stays-any a b (Ok x) looks disk is_open = looks.stays disk
  stays-any a b (Err e) looks disk is_open = looks.undone disk is_open

  if-some : (o : Option ServiceFault) (P Q : Type 0) → (P → Q) → IfSome o (λ _. P) → IfSome o (λ _. Q)
  if-some None P Q f h = tt
  if-some (Some x) P Q f h = f h

  -- some were handled after a look at the tables
  pub handled-after-look : (first rest : List Request) (a b c : Held S) (fault : Option ServiceFault) → LooksOnly g a b (Ok tt)
      → HandledFirst first rest g b c fault → HandledFirst first rest g a c fault
  handled-after-look first rest a b c fault l h = record {
    clean = λ disk. l.looks.clean (h.clean disk);
    shown = λ disk e H shows. h.shown disk e H (l.looks.stays (h.clean disk) H shows);
    headline = λ disk e H shows. h.headline disk e H (l.looks.stays (h.clean disk) H shows);
    sound = λ disk e H shows. h.sound disk e H (l.looks.stays (h.clean disk) H shows);
    undone = λ disk is_open H shows. h.undone disk is_open H (l.looks.stays (h.clean disk) H shows);
    left = λ disk. if-some fault _ _ (λ f H shows. f H (l.looks.stays (h.clean disk) H shows)) (h.left disk);
    any = any-after-look first a b c fault (looked-any a b None l) h.any;
  }

  -- a look met a fault, or no memory was left after it
  after-look : (a b : Held S) (fault : Fault) → MeetsFaultOf g a b fault → HandledFirst [] [] g a b (Some (Met fault))
  after-look a b fault met =
      let looks = met.looks.looks in
      record {
        clean = looks.clean;
        shown = λ disk e. let never : ⊥ = cc in absurd never;
        headline = λ disk e. let never : ⊥ = cc in absurd never;
        sound = λ disk e H shows. stored disk (met-is fault Stored e) H shows met.cause;
        undone = λ disk is_open. stays-any a b met.looked looks disk is_open;
        left = λ disk H shows. leaves-first (state g b) (picture H) (picture H) (looks.left disk H shows);
        any = met-any a b fault met.looked met.looks;
      }
    where
      stored : IsClean g b → fault ≡ Stored → (H : History) → Shows (state g a) H → (met.looked ≡ Err fault) ⊎ (fault ≡ Memory) → ⊥
      stored disk is H shows (inl same) = met.looks.sound disk (same ∙ ap Err is) H shows tt
      stored disk is H shows (inr want) = let never : Memory ≡ Stored = sym want ∙ is in absurd (cc)

  -- and then the hall isn't opened; nor where the board has no place for a reader
  pub unopened : (a b : Held S) (fault : ServiceFault) → IsMet (MeetsFaultOf g a b) fault ⊎ (LooksOnly g a b (Ok tt) × (fault ≡ Closed))
      → HandledFirst [] [] g a b (Some fault)
  unopened a b fault (inl found) = subst (λ (f : ServiceFault). HandledFirst [] [] g a b (Some f)) (sym found.1) (after-look a b found.0 found.2)
  unopened a b fault (inr met) =
      let looks = met.0.looks in
      record {
        clean = looks.clean;
        shown = λ disk e. let never : ⊥ = cc in absurd never;
        headline = λ disk e. let never : ⊥ = cc in absurd never;
        sound = λ disk e. absurd (own-is-none Stored (ap Some (sym met.1) ∙ e));
        undone = λ disk is_open. looks.stays disk;
        left = λ disk H shows. leaves-first (state g b) (picture H) (picture H) (looks.left disk H shows);
        any = looked-any a b (Some fault) met.0;
      }

  module _ (first rest : List Request) (request : Request) (a b m : Held S) (answer : Result Reply Fault) (h : HandledFirst first rest g a b None)
      (stays : LeavesOpen request answer) (d : Handles request g b m answer) where
    -- what the tables show once it is handled
    made-shows : IsClean g m → (H : History) → Shows (state g a) H → Shows (state g m) (after H (first ++ request ∷ []))
    made-shows disk H shows = subst (Shows (state g m)) (sym (after-last first H request))
        (answered request b m answer stays d.handled disk (after H first) (h.shown (d.handled.clean disk) refl H shows)).1

    -- one more was handled, and shown
    pub handled-more : (rest' : List Request) (c : Held S) → LooksOnly g m c (Ok tt) → HandledFirst (first ++ request ∷ []) rest' g a c None
    handled-more rest' c l =
        let now : IsClean g c → (H : History) → Shows (state g a) H → Shows (state g c) (after H (first ++ request ∷ [])) =
        λ disk H shows. l.looks.stays disk (after H (first ++ request ∷ [])) (made-shows (l.looks.clean disk) H shows) in
        record {
          clean = λ disk. h.clean (d.handled.clean (l.looks.clean disk));
          shown = λ disk e. now disk;
          headline = λ disk e H shows. shows-headline (state g c) (after H (first ++ request ∷ [])) (now disk H shows);
          sound = λ disk e. let never : ⊥ = cc in absurd never;
          undone = λ disk is_open. now disk;
          left = λ disk. tt;
          any = any-more first request a b m c answer None h.any stays d.handled (looked-any m c None l);
        }

    -- one more was handled, but the board can't show it
    handled-unshown : (rest' : List Request) (c : Held S) (fault : Fault) → MeetsFaultOf g m c fault
        → HandledFirst (first ++ request ∷ []) rest' g a c (Some (Met fault))
    handled-unshown rest' c fault l =
        let looks = l.looks.looks in
        record {
          clean = λ disk. h.clean (d.handled.clean (looks.clean disk));
          shown = λ disk e. let never : ⊥ = cc in absurd never;
          headline = λ disk e. let never : ⊥ = cc in absurd never;
          sound = λ disk e H shows. stored disk (met-is fault Stored e) H (made-shows (looks.clean disk) H shows) l.cause;
          undone = λ disk is_open H shows. stays-any m c l.looked looks disk is_open (after H (first ++ request ∷ [])) (made-shows (looks.clean disk) H shows);
          left = λ disk H shows. leaves-first (state g c) (picture (after H (first ++ request ∷ [])))
              (picture (after H ((first ++ request ∷ []) ++ take 1 rest')))
              (looks.left disk (after H (first ++ request ∷ [])) (made-shows (looks.clean disk) H shows));
          any = any-more first request a b m c answer (Some (Met fault)) h.any stays d.handled (met-any m c fault l.looked l.looks);
        }
      where
        stored : IsClean g c → fault ≡ Stored → (H : History) → Shows (state g m) (after H (first ++ request ∷ [])) → (l.looked ≡ Err fault)
            ⊎ (fault ≡ Memory) → ⊥
        stored disk is H shows (inl met) = l.looks.sound disk (met ∙ ap Err is) (after H (first ++ request ∷ [])) shows tt
        stored disk is H shows (inr want) = let never : Memory ≡ Stored = sym want ∙ is in absurd (cc)

  -- a fault came
  fault-met : (first rest : List Request) (request : Request) (a b c : Held S) (fault : Fault) → rest ≡ []
      → HandledFirst first rest g a b None → Handles request g b c (Err fault)
      → HandledFirst first (rest ++ request ∷ []) g a c (Some (Met fault))
  fault-met first rest request a b c fault none h d = record {
    clean = λ disk. h.clean (d.handled.clean disk);
    shown = λ disk e. let never : ⊥ = cc in absurd never;
    headline = λ disk e. let never : ⊥ = cc in absurd never;
    sound = λ disk e H shows.
        let is : fault ≡ Stored = met-is fault Stored e in
        d.handled.sound disk (ap Err is) (after H first) (h.shown (d.handled.clean disk) refl H shows);
    undone = λ disk is_open H shows. d.handled.undone disk is_open (after H first) (h.shown (d.handled.clean disk) refl H shows);
    left = λ disk H shows. subst (LeavesOneOf (state g c) (after H first))
        (sym (ap (λ (l : List Request). after H (first ++ take 1 (l ++ request ∷ []))) none ∙ after-last first H request))
        (d.handled.left disk (after H first) (h.shown (d.handled.clean disk) refl H shows));
    any = any-then-look first a b c (Some (Met fault)) h.any
        (record { ready = d.handled.any.ready; clean = d.handled.clean; nothing = λ disk is_open tables. d.handled.any.failed disk (is_open refl) tables });
  }

  -- what may be there after one more of the rest
  still-leaves : (s : State) (H : History) (first rest : List Request) (request : Request)
      → LeavesOneOf s (after H first) (after H (first ++ take 1 rest))
      → LeavesOneOf s (after H first) (after H (first ++ take 1 (rest ++ request ∷ [])))
  still-leaves s H first [] request left =
      let same : LeavesOneOf s (after H first) (after H first) =
      subst (λ (l : List Request). LeavesOneOf s (after H first) (after H l)) (append-nil first) left in
      λ trees may. let found = same trees may in (found.0, ⊎_elim (λ one. inl one) (λ other. inl other) found.1, found.2)
  still-leaves s H first (x ∷ xs) request left = left

  -- a stop leaves what the tables show
  still-left : (held : Held S) (H K : History) → Shows (state g held) H → LeavesOneOf (state g held) H K
  still-left held H K shows = λ trees may. let found = shows.tables.left trees may in (found.0, inl found.1, found.2)

  -- the count has come to its end
  closed-now : (first rest : List Request) (request : Request) (a b : Held S) → rest ≡ [] → HandledFirst first rest g a b None
      → HandledFirst first (rest ++ request ∷ []) g a b (Some Closed)
  closed-now first rest request a b none h = record {
    clean = h.clean;
    shown = λ disk e. let never : ⊥ = cc in absurd never;
    headline = λ disk e. let never : ⊥ = cc in absurd never;
    sound = λ disk e. let never : ⊥ = cc in absurd never;
    undone = h.undone;
    left = λ disk H shows. still-left b (after H first) (after H (first ++ take 1 (rest ++ request ∷ []))) (h.shown disk refl H shows);
    any = any-then-look first a b b (Some Closed) h.any (not-asked b (Some Closed));
  }

  -- it was closed before
  closed-on : (first rest : List Request) (request : Request) (a b : Held S) (fault : ServiceFault)
      → HandledFirst first rest g a b (Some fault) → HandledFirst first (rest ++ request ∷ []) g a b (Some fault)
  closed-on first rest request a b fault h = record {
    clean = h.clean;
    shown = h.shown;
    headline = h.headline;
    sound = h.sound;
    undone = h.undone;
    left = λ disk H shows. still-leaves (state g b) H first rest request (h.left disk H shows);
    any = h.any;
  }

  passed-over : (n : ℕ) (first rest : List Request) (request : Request) (a b : Held S) (before : Option ServiceFault) (fault : ServiceFault)
      → (before ≡ None → rest ≡ [])
      → (before ≡ Some fault) ⊎ ((before ≡ None) × (fault ≡ Closed) × (2 ^ 64 ≤ n + 1)) → HandledFirst first rest g a b before
      → HandledFirst first (rest ++ request ∷ []) g a b (Some fault)
  passed-over n first rest request a b before fault all (inl same) h = closed-on first rest request a b fault (subst (HandledFirst first rest g a b) same h)
  passed-over n first rest request a b before fault all (inr now) h =
      subst (λ (f : ServiceFault). HandledFirst first (rest ++ request ∷ []) g a b (Some f)) (sym now.1)
      (closed-now first rest request a b (all now.0) (subst (HandledFirst first rest g a b) now.0 h))

  -- one more submission was received
  pub submission-kept : (a b c : Held S) (n m : ℕ) (before after' : Option ServiceFault) (got got' : List Message) (s : Submission)
      → got' ≡ got ++ Submit s ∷ []
      → TakesNext s.request g b c n m before after' → n ≤ length (submissions got) → (before ≡ None → n ≡ length (submissions got))
      → HandledFirst (requests (handled n got)) (requests (unhandled n got)) g a b before
      → (m ≤ length (submissions got')) × (after' ≡ None → m ≡ length (submissions got'))
      × HandledFirst (requests (handled m got')) (requests (unhandled m got')) g a c after'
  submission-kept a b c n m before after' got got' s e (inl t) le all h =
      let first = requests (handled n got) in
      let rest = requests (unhandled n got) in
      let rest' = requests (unhandled m got') in
      let k = submit_more n m got got' s e t.counted (all t.was) in
      let done = handled-more first rest s.request a b t.made t.answer (subst (HandledFirst first rest g a b) t.was h) t.stays t.handles rest' c t.looks in (
        omega (arith, k.0),
        (λ none. k.0),
        subst (λ (x : List Request). HandledFirst x rest' g a c after') (sym k.1)
            (subst (HandledFirst (first ++ s.request ∷ []) rest' g a c) (sym t.is) done),
      )
  submission-kept a b c n m before after' got got' s e (inr (inl t)) le all h =
      let first = requests (handled n got) in
      let rest = requests (unhandled n got) in
      let rest' = requests (unhandled m got') in
      let k = submit_more n m got got' s e t.counted (all t.was) in
      let done = handled-unshown first rest s.request a b t.made t.answer (subst (HandledFirst first rest g a b) t.was h) t.stays t.handles rest' c t.met t.looks in (
        omega (arith, k.0),
        (λ none. k.0),
        subst (λ (x : List Request). HandledFirst x rest' g a c after') (sym k.1)
            (subst (HandledFirst (first ++ s.request ∷ []) rest' g a c) (sym t.is) done),
      )
  submission-kept a b c n m before after' got got' s e (inr (inr (inl t))) le all h =
      let first = requests (handled n got) in
      let rest = requests (unhandled n got) in
      let k = submit_same n m got got' s e t.counted le in
      let met = fault-met first rest s.request a b c t.met (no_rest n got (all t.was)) (subst (HandledFirst first rest g a b) t.was h) t.handles in
      let here : HandledFirst first (rest ++ s.request ∷ []) g a c after' = subst (HandledFirst first (rest ++ s.request ∷ []) g a c) (sym t.is) met in
      let more : HandledFirst first (requests (unhandled m got')) g a c after' =
      subst (λ (x : List Request). HandledFirst first x g a c after') (sym (rest_more n m got got' s e t.counted le)) here in (
        k.0,
        (λ none. absurd (none-some after' (Met t.met) none t.is)),
        subst (λ (x : List Request). HandledFirst x (requests (unhandled m got')) g a c after') (sym k.1) more,
      )
  submission-kept a b c n m before after' got got' s e (inr (inr (inr t))) le all h =
      let first = requests (handled n got) in
      let rest = requests (unhandled n got) in
      let k = submit_same n m got got' s e t.counted le in
      let past = passed-over n first rest s.request a b before t.fault (λ none. no_rest n got (all none)) t.was h in
      let same : HandledFirst first (rest ++ s.request ∷ []) g a c (Some t.fault) =
      subst (λ (x : Held S). HandledFirst first (rest ++ s.request ∷ []) g a x (Some t.fault)) (sym t.same) past in
      let here : HandledFirst first (rest ++ s.request ∷ []) g a c after' = subst (HandledFirst first (rest ++ s.request ∷ []) g a c) (sym t.is) same in
      let more : HandledFirst first (requests (unhandled m got')) g a c after' =
      subst (λ (x : List Request). HandledFirst first x g a c after') (sym (rest_more n m got got' s e t.counted le)) here in (
        k.0,
        (λ none. absurd (none-some after' t.fault none t.is)),
        subst (λ (x : List Request). HandledFirst x (requests (unhandled m got')) g a c after') (sym k.1) more,
      )
