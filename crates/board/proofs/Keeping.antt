-- Each step keeps the rule of the board.
use Rattle.std.proofs.Common.{◌≡◌, ◌≢◌, ℕ, ◌+◌, ◌-◌, Bool, true, false, cond, eqb, arith, List, [], ◌∷◌, ◌++◌, length, map, set, fold, Option, Some}
use Rattle.std.proofs.Common.{None, get_or, zero, suc, sym, refl, ap, ◌∙◌, subst, ⊎_elim, append_assoc, length-append}
use mathlib.Core.Option.{some, some-ne-none}
use lib.ListN.{get_elem?}
use Rattle.std.proofs.lemmas.List.{append-nil, map-append}
use Rattle.std.proofs.Math.ListN.{length-set}
use Rattle.crossbeam_utils.specs.Register.{Admits, Turns, TurnsAt}
use Rattle.atomic_table.proofs.Lists.{at_set, at_snoc}
use Rattle.std.specs.Prelude.{IsSome, Result}
use Rattle.terms.specs.declared.command.Request.{Request}
use Rattle.terms.specs.declared.fault.Fault.{Fault}
use Rattle.terms.specs.declared.reply.Reply.{Reply}
use Rattle.board.specs.declared.board.Update.{Update}
use Rattle.logbook.specs.Pages.{Book}
use Rattle.chronicle.specs.Growing.{Known, known}
use Rattle.board.specs.declared.entry.Entry.{Entry}
use Rattle.board.specs.declared.entry.Frame.{Frame}
use Rattle.board.specs.declared.entry.Seen.{Seen}
use Rattle.board.specs.declared.entry.Sight.{Sight}
use Rattle.board.specs.Workers.{is_worker}
use Rattle.board.specs.Showing.{Showing, EachIs, GoesOn, IsBoardOf, IsNextEntry, AreEntries, IsAnswer, LeavesOpen, ShowsEntry, ShowsMore}
use Rattle.board.specs.Showing.{page_at, page_of, last_pages, first_seen, seen_of, entries_of, next_frame, overlaid, last_of}
use Rattle.board.specs.Showing.{last_on, count_own, with_entry, updated}
use Rattle.desk.specs.declared.showing.OwnPage.{OwnPage}
use Rattle.board.specs.Rule.{KeepsBoard, ShowsAll, LooksAtBoard, Publishes, nothing_seen, no_look, opening, pages_of, are_pages}
use Rattle.board.proofs.Beginnings.{starts_more, goes_self, fold-append, entries-append}
use Rattle.std.proofs.lemmas.Bool.{false≢true}
use Rattle.board.proofs.Lasts.{last_next, found_in, count_found, none_in, none_counted, last_here, count-append, count-cons, eqb-self, StandsLast}
use Rattle.board.proofs.PageLists.{put-all}

-- ---- each of a list

pub each-append : (Is : List Entry → Entry → Type 0) (before es : List Entry) (e : Entry) → EachIs Is before es → Is (before ++ es) e
    → EachIs Is before (es ++ e ∷ [])
each-append Is before [] e h may = (subst (λ l. Is l e) (append-nil before) may, tt)
each-append Is before (x ∷ es) e h may = (h.0, each-append Is (before ++ x ∷ []) es e h.1 (subst (λ l. Is l e) (sym (append_assoc before (x ∷ []) es)) may))

pub each_at : (Is : List Entry → Entry → Type 0) (before front : List Entry) (e : Entry) (rest : List Entry)
    → EachIs Is before (front ++ e ∷ rest) → Is (before ++ front) e
each_at Is before [] e rest h = subst (λ l. Is l e) (sym (append-nil before)) h.0
each_at Is before (x ∷ front) e rest h = subst (λ l. Is l e) (append_assoc before (x ∷ []) front) (each_at Is (before ++ x ∷ []) front e rest h.1)

-- ---- the last of the pages

pub last-more : (all : List (List (ℕ × OwnPage))) (now : List (ℕ × OwnPage)) → last_pages (all ++ now ∷ []) ≡ now
last-more all now = fold-append (λ _ pages. pages) [] all (now ∷ [])

-- ---- the rule

set_view : (all : Seen) (views : List Sight) (side : ℕ) (w : Sight) → GoesOn all w.seen
    → ((j : ℕ) (v : Sight) → get_elem? views j ≡ some v → GoesOn all v.seen)
    → (j : ℕ) (u : Sight) → get_elem? (set views side w) j ≡ some u → GoesOn all u.seen
set_view all views side w mine others j u e =
    ⊎_elim (λ (x : (j ≡ side) × (w ≡ u)). subst (λ (y : Sight). GoesOn all y.seen) x.1 mine)
    (λ (x : (j ≢ side) × (get_elem? views j ≡ some u)). others j u x.1) (at_set views side j w u e)

-- a side that has seen nothing
begins_nothing : (all : Seen) → GoesOn all nothing_seen
begins_nothing all = ((all.entries, refl), (all.pages, refl))

-- a board with pages alone shows what no entry comes to
pub shows-first : (book : Book) (pages : List (ℕ × OwnPage)) → ShowsAll (first_seen pages) (opening book pages)
shows-first book pages = record { board = record { last = nobody; pages = refl; looked = refl }; places = refl }
  where
    Nones : List (Option Entry) → Type 0
    Nones [] = Unit {0}
    Nones (o ∷ os) = (o ≡ None) × Nones os

    none_at : (os : List (Option Entry)) → Nones os → (k : ℕ) → get_or os k None ≡ None
    none_at [] h k = refl
    none_at (o ∷ os) h zero = h.0
    none_at (o ∷ os) h (suc k) = none_at os h.1 k

    nobody : (w : ℕ) → last_on w (opening book pages) ≡ cond (is_worker w) (last_of w []) None
    nobody w = ap (λ o. cond (is_worker w) o None)
        (none_at (opening book pages).last (refl, (refl, (refl, (refl, (refl, (refl, (refl, (refl, tt)))))))) (w - 1))

-- the rule holds of what is shown first
pub begins : (book : Book) (pages : List (ℕ × OwnPage)) → KeepsBoard book (opening book pages) (no_look ∷ [])
begins book pages = record {
  name = refl;
  shows = shows-first book pages;
  sound = tt;
  each = λ side v e. ⊎_elim (λ (y : get_elem? {A = Sight} [] side ≡ some v). absurd (some-ne-none v (sym y)))
      (λ (y : no_look ≡ v). subst (λ (u : Sight). GoesOn (first_seen pages) u.seen) y (begins_nothing (first_seen pages)))
      (at_snoc [] no_look v side e);
}

-- a side more, which has seen nothing
pub admits : (book : Book) → Admits (KeepsBoard book) no_look
admits book x views h = record {
  name = h.name;
  shows = h.shows;
  sound = h.sound;
  each = λ side v e. ⊎_elim (λ (old : get_elem? views side ≡ some v). h.each side v old)
      (λ (is : no_look ≡ v). subst (λ (u : Sight). GoesOn (seen_of x.frames.items) u.seen) is (begins_nothing (seen_of x.frames.items)))
      (at_snoc views no_look v side e);
}

pub looks : (book : Book) (side : ℕ) (v : Sight) → Turns (KeepsBoard book) side v (λ x. x) (LooksAtBoard book)
looks book side v x views h at =
    let all = seen_of x.frames.items in
    let w : Sight = record { seen = all; looks = v.looks + 1 } in (
      w,
      record { name = h.name; shows = h.shows; sound = h.sound; each = set_view all views side w (goes_self all) h.each },
      record { name = h.name; is = refl; more = h.each side v at; board = h.shows.board; sound = h.sound; counted = refl },
    )

-- what a worker keeps of a look
pub seen-now : (x : Showing) (frames : Known Frame) (seen : Seen) → seen ≡ seen_of x.frames.items → frames ≡ x.frames → seen_of frames.items ≡ seen
seen-now x frames seen is same = ap (λ (k : Known Frame). seen_of k.items) same ∙ sym is

-- ---- one frame more

-- what frames have shown, once an entry is shown with pages
pub seen-more : (fs : List Frame) (e : Entry) (pages : List (ℕ × OwnPage))
    → seen_of (fs ++ (record { entry = Some e; pages = pages }) ∷ []) ≡ record { entries = entries_of fs ++ e ∷ []; pages = (seen_of fs).pages ++ pages ∷ [] }
seen-more fs e pages =
    let f : Frame = record { entry = Some e; pages = pages } in
    ap (λ l. record { entries = l; pages = map (λ (g : Frame). g.pages) (fs ++ f ∷ []) }) (entries-append fs (f ∷ []))
    ∙ ap (λ l. record { entries = entries_of fs ++ e ∷ []; pages = l }) (map-append (λ (g : Frame). g.pages) fs (f ∷ []))

-- the board once an entry is shown
pub shows-next : (all : Seen) (x next : Showing) (us : List Update) (e : Entry) (frames : Known Frame) → ShowsAll all x
    → are_pages us ≡ true → IsNextEntry all.entries e
    → next ≡ with_entry (fold updated x us) e frames
    → ShowsAll (record { entries = all.entries ++ e ∷ []; pages = all.pages ++ next.pages ∷ [] }) next
shows-next all x next us e frames shows pages may is =
    let put = put-all x us pages in
    let mid : Showing = fold updated x us in
    let lasts : mid.last ≡ x.last = ap (λ (y : Showing). y.last) put.0 in
    let long : length mid.last ≡ 8 = ap length lasts ∙ shows.places in
    record {
      board = record {
        last = λ w. ap (last_on w) is ∙ last_next mid e frames all.entries w may.worker long
            (ap (λ l. cond (is_worker w) (get_or l (w - 1) None) None) lasts ∙ shows.board.last w);
        pages = sym (last-more all.pages next.pages);
        looked = length-append all.pages (next.pages ∷ []) ∙ (ap (λ n. n + 1) (shows.board.looked ∙ sym (length-append all.entries (e ∷ []))));
      };
      places = ap (λ (y : Showing). length y.last) is
          ∙ (ap (λ c. length (cond c (set mid.last (e.worker - 1) (Some e)) mid.last)) may.worker
          ∙ (length-set mid.last (e.worker - 1) (Some e) ∙ long));
    }

-- and the pages that it shows
pub pages-next : (all : Seen) (x next : Showing) (us : List Update) (e : Entry) (frames : Known Frame) → ShowsAll all x
    → are_pages us ≡ true → next ≡ with_entry (fold updated x us) e frames
    → (patron : ℕ) → page_at next.pages patron ≡ overlaid (pages_of us) patron (page_of all patron)
pages-next all x next us e frames shows pages is patron =
    ap (λ (y : Showing). page_at y.pages patron) is
    ∙ ((put-all x us pages).1 patron ∙ ap (λ l. overlaid (pages_of us) patron (page_at l patron)) shows.board.pages)

-- All frames once an entry is shown, on a board on which these updates were written since.
abbrev pub frames_next : Showing → List Update → Entry → Known Frame
frames_next x us e = known x.frames.book (x.frames.items ++ next_frame x us e ∷ [])

-- An entry is shown next on a board that showed these frames, with pages alone written since.
module _ (x next : Showing) (us : List Update) (e : Entry) (pages : are_pages us ≡ true) where
  module _ (is : next ≡ with_entry (fold updated x us) e (frames_next x us e)) where
    -- this has been shown then
    pub all-next : seen_of next.frames.items ≡ record {
      entries = (seen_of x.frames.items).entries ++ e ∷ [];
      pages = (seen_of x.frames.items).pages ++ next.pages ∷ [];
    }
    all-next =
        ap (λ (y : Showing). seen_of y.frames.items) is ∙ (seen-more x.frames.items e (fold updated x us).pages
        ∙ ap (λ (y : Showing). record {
          entries = (seen_of x.frames.items).entries ++ e ∷ [];
          pages = (seen_of x.frames.items).pages
              ++ y.pages ∷ [];
        }) (sym is))

    pub shows-all-next : ShowsAll (seen_of x.frames.items) x → IsNextEntry (seen_of x.frames.items).entries e → ShowsAll (seen_of next.frames.items) next
    shows-all-next shows may = subst (λ (s : Seen). ShowsAll s next) (sym all-next)
        (shows-next (seen_of x.frames.items) x next us e (frames_next x us e) shows pages may is)

    pub publishes : (book : Book) (side : ℕ) (v : Sight) → IsNextEntry (seen_of x.frames.items).entries e → TurnsAt (KeepsBoard book) side v x next Publishes
    publishes book side v may views h at =
        let old : Seen = seen_of x.frames.items in
        let w : Seen = record { entries = old.entries ++ e ∷ []; pages = old.pages ++ next.pages ∷ [] } in
        let more : (j : ℕ) (u : Sight) → get_elem? views j ≡ some u → GoesOn w u.seen = λ j u a.
        let t = h.each j u a in (starts_more old.entries u.seen.entries (e ∷ []) t.0, starts_more old.pages u.seen.pages (next.pages ∷ []) t.1) in (
          v,
          record {
            name = ap (λ (y : Showing). y.frames.book) is ∙ h.name;
            shows = shows-all-next h.shows may;
            sound = subst (λ (s : Seen). AreEntries [] s.entries) (sym all-next) (each-append IsNextEntry [] old.entries e h.sound may);
            each = subst (λ (s : Seen). (j : ℕ) (u : Sight) → get_elem? (set views side v) j ≡ some u → GoesOn s u.seen) (sym all-next)
                (set_view w views side v (more side v at) more);
          },
          refl,
        )

    -- it is one entry more
    pub more-next : ShowsAll (seen_of x.frames.items) x → ShowsMore (seen_of x.frames.items) (pages_of us) e (seen_of next.frames.items)
    more-next shows =
        let old : Seen = seen_of x.frames.items in
        subst (λ (s : Seen). ShowsMore old (pages_of us) e s) (sym all-next)
        (record {
          looked = shows.board.looked;
          entries = refl;
          now = next.pages;
          pages = refl;
          each = pages-next old x next us e
              (frames_next x us e) shows pages is;
        })

-- nothing is seen of a worker of whom the board shows nothing
pub none-seen : (all : Seen) (x : Showing) (w : ℕ) → is_worker w ≡ true → IsBoardOf all x → last_on w x ≡ None → count_own w all.entries ≡ 0
none-seen all x w is b none = none_in w all.entries (by (is_worker w) is (sym (b.last w) ∙ none))
  where
    by : (c : Bool) → c ≡ true → cond c (last_of w all.entries) None ≡ None → last_of w all.entries ≡ None
    by true h e = e
    by false h e = absurd (false≢true h)

-- something is seen of a worker of whom the board shows an entry
pub some-seen : (all : Seen) (x : Showing) (w : ℕ) → IsBoardOf all x → IsSome (last_on w x) → count_own w all.entries ≢ 0
some-seen all x w b shown none = by (is_worker w) (last_on w x) shown (b.last w ∙ ap (λ o. cond (is_worker w) o None) (none_counted w all.entries none))
  where
    by : (c : Bool) (o : Option Entry) → IsSome o → o ≡ cond c None None → ⊥
    by true (Some e) s h = absurd (cc)
    by false (Some e) s h = absurd (cc)
    by true None s h = absurd (cc)
    by false None s h = absurd (cc)

-- an answer that was seen at its number is on the board
pub not-found : (all : Seen) (x : Showing) (w n : ℕ) (request : Request) → IsBoardOf all x → AreEntries [] all.entries
    → ((e : Entry) → ¬ ShowsEntry x w n request e) → (answer : Result Reply Fault) → ¬ IsAnswer all.entries w n request answer
not-found all x w n request b sound none answer is =
    let may = each_at IsNextEntry [] is.front is.entry is.rest (subst (AreEntries []) is.seen_is sound) in
    let worker : is_worker w ≡ true = ap is_worker (sym is.worker_is) ∙ may.worker in
    let one : ◌≡◌ {A = ℕ} (cond (eqb is.entry.worker w) 1 0) 1 = ap (λ c. cond c 1 0) (eqb-self is.entry.worker w is.worker_is) in
    let counted = ap (count_own w) is.seen_is ∙ (count-append w is.front (is.entry ∷ is.rest)
    ∙ ap (λ k. count_own w is.front + k) (count-cons w is.entry is.rest)) in
    let later : count_own w is.rest ≡ 0 = omega (arith, one, counted, is.all, is.next) in
    none is.entry (record {
      last = b.last w ∙ (ap (λ c. cond c (last_of w all.entries) None) worker
          ∙ (ap (last_of w) is.seen_is ∙ last_here w is.front is.entry is.rest is.worker_is later));
      number = is.number_is;
      request_is = is.request_is;
    })

-- what a worker finds under its number is the answer to its submission
pub found : (all : Seen) (x : Showing) (w n : ℕ) (request : Request) (e : Entry) → IsBoardOf all x → AreEntries [] all.entries
    → ShowsEntry x w n request e → IsAnswer all.entries w n request e.answer
found all x w n request e b sound shows = by (is_worker w) (sym (b.last w) ∙ shows.last)
  where
    by : (c : Bool) → cond c (last_of w all.entries) None ≡ Some e → IsAnswer all.entries w n request e.answer
    by false h = absurd (cc)
    by true h =
        let s : StandsLast w all.entries e = found_in w all.entries e h in
        let next = each_at IsNextEntry [] s.front e s.rest (subst (AreEntries []) s.is sound) in
        let place : n ≡ count_own w s.front + 1 = sym shows.number ∙ (next.number ∙ ap (λ k. count_own k s.front + 1) s.mine) in
        record {
          front = s.front;
          entry = e;
          rest = s.rest;
          seen_is = s.is;
          worker_is = s.mine;
          number_is = shows.number;
          request_is = shows.request_is;
          answer_is = refl;
          stays = subst (λ (r : Request). LeavesOpen r e.answer) shows.request_is next.stays;
          next = place;
          all = count_found w all.entries e s ∙ sym place;
        }
