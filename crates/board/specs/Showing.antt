-- What the board of a hall shows.
use Rattle.std.specs.Prelude.{◌≡◌, ℕ, ◌+◌, ◌-◌, ◌==◌, true, if◌then◌else◌, List, [], ◌∷◌, ◌++◌, fold, length, map, set, slice_index_or}
use Rattle.std.specs.Prelude.{count_by, Option, None, Some, Result, Ok, Err}
use Rattle.std.specs.Option.{option_or}
use Rattle.std.specs.Ordering.{nat_cmp}
use Rattle.std.specs.Map.{lookup}
use Rattle.std.specs.BTreeMap.{insert_entry, is_at}
use Rattle.std.specs.Arc.{arc_value}
use Rattle.terms.specs.declared.command.Request.{Request}
use Rattle.terms.specs.declared.fault.Fault.{Fault}
use Rattle.terms.specs.declared.fault.Fault.TheVariants.{Stored}
use Rattle.terms.specs.declared.reply.Reply.{Reply}
use Rattle.model.specs.History.{History}
use Rattle.model.specs.Requests.{after, reply_to, only_asks}
use Rattle.board.specs.declared.board.Update.{Update}
use Rattle.board.specs.declared.board.Update.TheVariants as update
use Rattle.board.specs.declared.entry.Entry.{Entry}
use Rattle.board.specs.declared.entry.Frame.{Frame}
use Rattle.board.specs.declared.entry.Seen.{Seen}
use Rattle.desk.specs.Showing.{own_page}
use Rattle.desk.specs.declared.showing.OwnPage.{OwnPage}
use Rattle.chronicle.specs.Growing.{Known}
use Rattle.board.specs.Workers.{is_worker}

-- ---- pages

-- The page of a patron among pages ordered by patron.
abbrev pub page_at : List (ℕ × OwnPage) → ℕ → Option OwnPage
page_at pages patron = lookup (is_at (nat_cmp patron)) pages

-- One patron's page is put, replacing any there.
abbrev pub put_page : List (ℕ × OwnPage) → ℕ → OwnPage → List (ℕ × OwnPage)
put_page pages patron page = insert_entry nat_cmp pages patron page

-- What this patron is shown after these pages are put, in order.
abbrev pub overlaid : List (ℕ × OwnPage) → ℕ → Option OwnPage → Option OwnPage
overlaid [] patron before = before
overlaid (p ∷ ps) patron before = overlaid ps patron (if p.0 == patron then Some p.1 else before)

-- ---- entries

-- The requests of entries.
abbrev pub requests : List Entry → List Request
requests = map (λ (e : Entry). e.request)

-- The number of this worker's entries.
abbrev pub count_own : ℕ → List Entry → ℕ
count_own w entries = count_by (λ (e : Entry). e.worker == w) entries

-- The worker's last entry, if any.
abbrev pub last_of : ℕ → List Entry → Option Entry
last_of w [] = None
last_of w (e ∷ es) = option_or (last_of w es) (if e.worker == w then Some e else None)

-- The list begins with what was seen.
abbrev pub StartsWith : {A : Type 0} → List A → List A → Type 0
StartsWith {A} all seen = (rest : List A) × (all ≡ seen ++ rest)

-- Each of these entries may follow those before it: `Is` holds of it.
abbrev pub EachIs : (List Entry → Entry → Type 0) → List Entry → List Entry → Type 0
EachIs Is before [] = Unit {0}
EachIs Is before (e ∷ es) = Is before e × EachIs Is (before ++ e ∷ []) es

-- ---- what is seen

-- No entry, and these pages.
abbrev pub first_seen : List (ℕ × OwnPage) → Seen
first_seen pages = record { entries = []; pages = pages ∷ [] }

-- What is seen begins with what was seen.
abbrev pub GoesOn : Seen → Seen → Type 0
GoesOn new old = StartsWith new.entries old.entries × StartsWith new.pages old.pages

-- The pages that were seen are those before any of the entries and with each of them.
abbrev pub HasLooked : Seen → Type 0
HasLooked seen = length seen.pages ≡ length seen.entries + 1

-- The last of these pages.
abbrev pub last_pages : List (List (ℕ × OwnPage)) → List (ℕ × OwnPage)
last_pages all = fold (λ _ pages. pages) [] all

-- The patron's page as last seen.
abbrev pub page_of : Seen → ℕ → Option OwnPage
page_of seen patron = page_at (last_pages seen.pages) patron

-- One more entry is shown, and with it these pages over the earlier ones.
pub record ShowsMore (old : Seen) (put : List (ℕ × OwnPage)) (e : Entry) (new : Seen) : Type 0 where
  pub looked : HasLooked old
  pub entries : new.entries ≡ old.entries ++ e ∷ []
  pub now : List (ℕ × OwnPage)
  pub pages : new.pages ≡ old.pages ++ now ∷ []
  pub each : (patron : ℕ) → page_at now patron ≡ overlaid put patron (page_of old patron)

-- ---- what was shown, frame by frame

-- Just pages.
abbrev pub first_frame : List (ℕ × OwnPage) → Frame
first_frame pages = record { entry = None; pages = pages }

-- An entry, if any, before others.
abbrev pub entry_before : Option Entry → List Entry → List Entry
entry_before None es = es
entry_before (Some e) es = e ∷ es

-- The entries of frames.
abbrev pub entries_of : List Frame → List Entry
entries_of [] = []
entries_of (f ∷ fs) = entry_before f.entry (entries_of fs)

-- What these frames showed.
abbrev pub seen_of : List Frame → Seen
seen_of frames = record { entries = entries_of frames; pages = map (λ (f : Frame). f.pages) frames }

-- ---- the board

-- What the board shows: each patron's page and each worker's last entry; and all that was shown up to them.
pub record Showing : Type 0 where
  pub pages : List (ℕ × OwnPage)
  pub last : List (Option Entry)
  pub frames : Known Frame

-- Just pages.
abbrev pub blank : List (ℕ × OwnPage) → Known Frame → Showing
blank pages frames = record { pages = pages; last = None ∷ None ∷ None ∷ None ∷ None ∷ None ∷ None ∷ None ∷ []; frames = frames }

-- A patron's page was put.
abbrev pub with_page : Showing → ℕ → OwnPage → Showing
with_page x patron page = record x { pages = put_page x.pages patron page }

-- The last entry of its worker was put.
abbrev pub with_last : List (Option Entry) → Entry → List (Option Entry)
with_last last e = if is_worker e.worker then set last (e.worker - 1) (Some e) else last

-- An entry was put; all this was shown with it.
abbrev pub with_entry : Showing → Entry → Known Frame → Showing
with_entry x e frames = record x { last = with_last x.last e; frames = frames }

-- The worker's entry on the board.
abbrev pub last_on : ℕ → Showing → Option Entry
last_on w x = if is_worker w then slice_index_or x.last (w - 1) None else None

-- This is the worker's last entry; it has this number and request.
pub record ShowsEntry (x : Showing) (w n : ℕ) (request : Request) (e : Entry) : Type 0 where
  pub last : last_on w x ≡ Some e
  pub number : e.number ≡ n
  pub request_is : e.request ≡ request

-- What is shown after an update.
abbrev pub updated : Showing → Update → Showing
updated x (update.Page patron page) = with_page x patron (arc_value page)
updated x (update.Entry entry frames) = with_entry x (arc_value entry) frames

-- The next frame: this entry, with the pages after these updates.
abbrev pub next_frame : Showing → List Update → Entry → Frame
next_frame x us e = record { entry = Some e; pages = (fold updated x us).pages }

-- ---- what holds of it

-- More may be handled after this answer: it is a reply, or fault 93 to a request that only asks.
abbrev pub LeavesOpen : Request → Result Reply Fault → Type 0
LeavesOpen request (Ok reply) = Unit {0}
LeavesOpen request (Err fault) = (fault ≡ Stored) × (only_asks request.command ≡ true)

-- The entry may follow these: it is a worker's, has that worker's next number, and more may be handled after
-- its answer.
pub record IsNextEntry (before : List Entry) (e : Entry) : Type 0 where
  pub worker : is_worker e.worker ≡ true
  pub number : e.number ≡ count_own e.worker before + 1
  pub stays : LeavesOpen e.request e.answer

-- Each of these entries may follow those before it.
abbrev pub AreEntries : List Entry → List Entry → Type 0
AreEntries = EachIs IsNextEntry

-- The board shows the result of these entries, and the last of the pages.
pub record IsBoardOf (all : Seen) (x : Showing) : Type 0 where
  pub last : (w : ℕ) → last_on w x ≡ (if is_worker w then last_of w all.entries else None)
  pub pages : x.pages ≡ last_pages all.pages
  pub looked : HasLooked all

-- The worker's submission with this number has this answer: what was seen shows it in its place in the list,
-- for this request, after all others of the worker's own.
pub record IsAnswer (seen : List Entry) (w n : ℕ) (request : Request) (answer : Result Reply Fault) : Type 0 where
  pub front : List Entry
  pub entry : Entry
  pub rest : List Entry
  pub seen_is : seen ≡ front ++ entry ∷ rest
  pub worker_is : entry.worker ≡ w
  pub number_is : entry.number ≡ n
  pub request_is : entry.request ≡ request
  pub answer_is : entry.answer ≡ answer
  pub stays : LeavesOpen request answer
  pub next : n ≡ count_own w front + 1
  pub all : count_own w seen ≡ n

-- ---- what a list of accepted requests gives

-- The answer is the list's reply after these entries.
abbrev pub IsGivenAfter : History → List Entry → Entry → Type 0
IsGivenAfter H before e = e.answer ≡ Ok (reply_to (after H (requests before)) e.request)

-- Each answer shown is the reply that this list of accepted requests gives in its place, and each page is the
-- one after this list and the beginning with which it was shown.
pub record IsTold (H : History) (all : Seen) : Type 0 where
  pub replies : EachIs (IsGivenAfter H) [] all.entries
  pub pages : (seen : Seen) → GoesOn all seen → HasLooked seen → (patron : ℕ)
      → page_of seen patron ≡ own_page (after H (requests seen.entries)) patron
