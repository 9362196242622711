-- How a hall is opened, or why it isn't.
use Rattle.std.specs.Prelude.{◌≡◌, ◌≢◌, ◌⊎◌, ◌==◌, ℕ, true, false, Bool, ◌&&◌, if◌then◌else◌, nat_le, List, [], None, Result, Ok, Err}
use Rattle.std.specs.List.{list_any}
use Rattle.store.specs.Library.{Ghosts, Held, state, IsClean}
use Rattle.desk.specs.Answering.{Learns, Shows}
use Rattle.desk.specs.Showing.{own_page}
use Rattle.desk.specs.declared.showing.OwnPage.{OwnPage}
use Rattle.board.specs.Rule.{Publishing, opening}
use Rattle.board.specs.declared.entry.Seen.{Seen}
use Rattle.board.specs.Showing.{page_at, first_seen, IsTold}
use Rattle.model.specs.History.{History}
use Rattle.terms.specs.declared.fault.Fault.{Fault}
use Rattle.terms.specs.declared.fault.ServiceFault.{ServiceFault}
use Rattle.terms.specs.Texts.{service_fault_number, refusal_number}
use Rattle.terms.specs.declared.fault.Fault.TheVariants.{Memory, Stored}
use Rattle.terms.specs.declared.fault.ServiceFault.TheVariants.{Met, Closed}
use Rattle.terms.specs.declared.refusal.Refusal.TheVariants.{OutOfLimits}
use Rattle.hall_schedule.specs.declared.schedule.TheConstants.{WORKERS}
use Rattle.hall.specs.declared.hall.Why.{Why}
use Rattle.hall.specs.declared.hall.Why.TheVariants.{Refused, Faulted}

-- ---- a desk that only reads

-- The desk only read its tables.
abbrev pub LooksOnly : {S : Type 0} → Ghosts S → Held S → Held S → Result (Unit {0}) Fault → Type 0
LooksOnly = Learns (λ _ _. Unit {0})

-- The desk only read its tables, then this fault came: a read's, or 90 because memory ran out. It is never
-- 92.
pub record MeetsFaultOf {S : Type 0} (g : Ghosts S) (old new : Held S) (fault : Fault) : Type 0 where
  pub looked : Result (Unit {0}) Fault
  pub looks : LooksOnly g old new looked
  pub cause : (looked ≡ Err fault) ⊎ (fault ≡ Memory)

-- A fault was met, so it isn't one of the hall's own; `Is` holds of it.
abbrev pub IsMet : (Fault → Type 0) → ServiceFault → Type 0
IsMet Is fault = (met : Fault) × (fault ≡ Met met) × Is met

-- The pages of exactly these patrons, as the list of accepted requests gives them.
abbrev pub AreFirstPages : List ℕ → History → List (ℕ × OwnPage) → Type 0
AreFirstPages patrons H pages = (p : ℕ) → page_at pages p ≡ (if list_any (λ q. q == p) patrons then own_page H p else None)

-- ---- an opened board

-- The board shows only pages: those that any list of accepted requests shown by the tables gives, of its
-- patrons and nobody else.
pub record OpensBoard {S : Type 0} (g : Ghosts S) (old new : Held S) (p : Publishing) : Type 0 where
  -- no entry is shown, and no page waits for one
  pub none : (p.shown ≡ first_seen p.board.pages) × (p.pages ≡ [])
  pub alone : p.board ≡ opening p.board.frames.book p.board.pages
  pub pages : Learns (λ H first. (patron : ℕ) → page_at first patron ≡ own_page H patron)
      g old new (Ok p.board.pages)

-- If the disk has returned what was written to it so far, what was shown is what each of these lists of
-- accepted requests gives.
abbrev pub ToldBy : {S : Type 0} → (History → Type 0) → Ghosts S → Held S → Seen → Type 0
ToldBy lists g held shown = IsClean g held → (H : History) → lists H → IsTold H shown

-- An open hall that has handled nothing: if the disk has returned what was written to it so far, the tables
-- show each of these lists, and the board shows what it gives.
pub record OpensWith {S : Type 0} (lists : History → Type 0) (g : Ghosts S) (held : Held S)
    (shown : Seen) : Type 0 where
  pub tables : IsClean g held → (H : History) → lists H → Shows (state g held) H
  pub told : ToldBy lists g held shown

-- ---- a hall that isn't opened

-- This many workers are allowed.
abbrev pub can_be_workers : ℕ → Bool
can_be_workers workers = nat_le 1 workers && nat_le workers WORKERS

-- The fault that keeps a hall from opening: a page couldn't be looked up, memory ran out, or the board has no
-- place for a reader.
abbrev pub KeepsClosed : {S : Type 0} → Ghosts S → Held S → Held S → ServiceFault → Type 0
KeepsClosed g old new fault = IsMet (MeetsFaultOf g old new) fault ⊎ (LooksOnly g old new (Ok tt) × (fault ≡ Closed))

-- Why a hall with this many workers isn't opened. Its desk comes back: it wasn't asked for anything, or only
-- read its tables.
pub record IsUnopened {S : Type 0} (workers : ℕ) (g : Ghosts S) (old new : Held S) (why : Why)
    : Type 0 where
  -- there are none, or too many
  pub refused : can_be_workers workers ≡ false → (why ≡ Refused OutOfLimits) × (new ≡ old)
  -- or a fault came
  pub faulted : can_be_workers workers ≡ true → (fault : ServiceFault) × (why ≡ Faulted fault)
      × KeepsClosed g old new fault

-- Why a hall with this many workers isn't opened over a new library.
pub record IsUnmade (workers : ℕ) (why : Why) : Type 0 where
  -- there are none, or too many
  pub refused : can_be_workers workers ≡ false → why ≡ Refused OutOfLimits
  -- the library couldn't be made, or the hall not opened; no row is damaged
  pub faulted : can_be_workers workers ≡ true → (fault : ServiceFault) × (why ≡ Faulted fault)
      × (fault ≢ Met Stored)

-- Its number.
abbrev pub why_number : Why → ℕ
why_number (Refused refusal) = refusal_number refusal
why_number (Faulted fault) = service_fault_number fault
