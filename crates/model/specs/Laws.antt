-- Laws of all legal histories.
use Rattle.std.specs.Prelude.{◌≡◌, ◌≢◌, ℕ, ◌+◌, ◌==◌, ◌↔◌, Bool, true, false, List, ◌∷◌, Some, None, is_some}
use Rattle.std.specs.List.{list_any}
use Rattle.terms.specs.declared.command.Command.TheVariants.{CancelHold}
use Rattle.terms.specs.declared.command.Request.{Request}
use Rattle.terms.specs.declared.row.LoanRow.{LoanRow}
use Rattle.terms.specs.declared.row.HoldRow.{HoldRow}
use Rattle.terms.specs.declared.row.CopyRow.{CopyRow}
use Rattle.terms.specs.declared.row.TitleRow.{TitleRow}
use Rattle.terms.specs.declared.row.HoldState.{HoldState}
use Rattle.terms.specs.declared.row.HoldState.TheVariants.{Waiting, Ready, Filled, Cancelled, Expired}
use Rattle.model.specs.Checks.{is_within}
use Rattle.model.specs.History.{Event, History, patron_of, title_of, holds, hold_of}
use Rattle.model.specs.Places.{HoldShelf, Transit, place, state, line, goal_of, title_of_hold}
use Rattle.model.specs.Picture.{Picture, picture}
use Rattle.model.specs.Claims.{IsInOnePlace}
use Rattle.model.specs.Loans.{due, renewals_left, open_loans, title_of_loan}
use Rattle.model.specs.Accounts.{account, charges, credits, owed}
use Rattle.model.specs.Refusals.{active_holds}
use Rattle.model.specs.Pages.{page}
use Rattle.terms.specs.Texts.{request_text}
use Rattle.terms.specs.Callers.{owner_of}
use Rattle.model.specs.Requests.{IsLegal, is_allowed, only_asks, adds, after_one, reply_to, after}

-- Handling any requests keeps a history legal.
abbrev pub StaysLegal : Type 0
StaysLegal = (H : History) (rs : List Request) → IsLegal H → IsLegal (after H rs)

-- Charges are payments and waivers plus what is owed, for every patron.
abbrev pub IsInBalance : History → ℕ → Type 0
IsInBalance H p = charges (account H p) ≡ credits (account H p) + owed H p

abbrev pub Balance : Type 0
Balance = (H : History) (p : ℕ) → IsLegal H → IsInBalance H p

-- A hold is ready exactly if a copy stands on its hold shelf, and then only one does; at most one copy
-- travels for it, to its branch.
pub record IsBinding (H : History) (h : ℕ) : Type 0 where
  pub ready : (state H h ≡ Some Ready) ↔ ((c : ℕ) × (place H c ≡ HoldShelf h))
  pub one_copy : (c d : ℕ) → place H c ≡ HoldShelf h → place H d ≡ HoldShelf h → c ≡ d
  pub travels : (c b : ℕ) → place H c ≡ Transit b (Some h) → (goal_of H h ≡ b) × (state H h ≡ Some Waiting)
  pub one_travels : (c d a b : ℕ) → place H c ≡ Transit a (Some h) → place H d ≡ Transit b (Some h) → c ≡ d

-- Every hold is bound to its copy.
abbrev pub Bindings : Type 0
Bindings = (H : History) (h : ℕ) → IsLegal H → IsBinding H h

-- The tables show every copy in one place: where its last accepted movement left it.
abbrev pub Places : Type 0
Places = (H : History) (c : ℕ) → IsLegal H → IsInOnePlace (picture H) c (place H c)

-- The holds with a row, and so with one state, are those whose numbers were given.
abbrev pub HoldRows : Type 0
HoldRows = (H : History) (h : ℕ) → IsLegal H → is_some ((picture H).holds h) ≡ is_within 1 (holds H) h

-- A filled, cancelled or expired hold is in a final state.
abbrev pub is_final : HoldState → Bool
is_final Filled = true
is_final Cancelled = true
is_final Expired = true
is_final _ = false

-- A hold in a final state stays in it, whatever is requested.
abbrev pub FinalStates : Type 0
FinalStates = (H : History) (rs : List Request) (h : ℕ) (s : HoldState) → IsLegal H → is_final s ≡ true → state H h ≡ Some s → state (after H rs) h ≡ Some s

-- The hold stands in the line of the title.
abbrev pub stands_in_line : History → ℕ → ℕ → Bool
stands_in_line H t h = list_any (λ g. g == h) (line H t)

-- A hold that leaves a line by an accepted command, other than its cancellation, was the first of that line.
abbrev pub FirstInLineIsServed : Type 0
FirstInLineIsServed = (e : Event) (H : History) (t h : ℕ) → IsLegal (e ∷ H) → e.command ≢ CancelHold h
    → stands_in_line H t h ≡ true → stands_in_line (e ∷ H) t h ≡ false → (hs : List ℕ) × (line H t ≡ h ∷ hs)

-- A request that repeats an accepted one (same owner, key and text) adds nothing and gets the first one's
-- reply.
abbrev pub RepeatsActOnce : Type 0
RepeatsActOnce = (H : History) (first again : Request) (between : List Request) → adds H first ≡ true
    → owner_of again.caller ≡ owner_of first.caller → again.key ≡ first.key → request_text again.command ≡ request_text first.command
    → only_asks again.command ≡ false → is_allowed (after H (first ∷ between)) again.caller again.command ≡ true
    → (after_one (after H (first ∷ between)) again ≡ after H (first ∷ between)) × (reply_to (after H (first ∷ between)) again ≡ reply_to H first)

-- Two histories agree on a patron: on the patron's own row, debt, open loans and active holds, with their
-- copies and titles.
pub record AgreesOn (H K : History) (p : ℕ) : Type 0 where
  pub patron : patron_of H p ≡ patron_of K p
  pub debt : owed H p ≡ owed K p
  pub loans : open_loans H p ≡ open_loans K p
  pub dues : (l : ℕ) → list_any (λ k. k == l) (open_loans H p) ≡ true → due H l ≡ due K l
  pub renewals : (l : ℕ) → list_any (λ k. k == l) (open_loans H p) ≡ true → renewals_left H l ≡ renewals_left K l
  pub lent_titles : (l : ℕ) → list_any (λ k. k == l) (open_loans H p) ≡ true → title_of_loan H l ≡ title_of_loan K l
  pub lent_texts : (l : ℕ) → list_any (λ k. k == l) (open_loans H p) ≡ true → title_of H (title_of_loan H l) ≡ title_of K (title_of_loan K l)
  pub holds : active_holds H p ≡ active_holds K p
  pub held : (h : ℕ) → list_any (λ k. k == h) (active_holds H p) ≡ true → hold_of H h ≡ hold_of K h
  pub states : (h : ℕ) → list_any (λ k. k == h) (active_holds H p) ≡ true → state H h ≡ state K h
  pub held_texts : (h : ℕ) → list_any (λ k. k == h) (active_holds H p) ≡ true → title_of H (title_of_hold H h) ≡ title_of K (title_of_hold K h)

-- Histories that agree on a patron give the patron the same page.
abbrev pub OwnRows : Type 0
OwnRows = (H K : History) (p : ℕ) → AgreesOn H K p → page H p ≡ page K p

-- A hold in this state is active.
abbrev pub is_active_state : HoldState → Bool
is_active_state Waiting = true
is_active_state Ready = true
is_active_state _ = false

-- A picture keeps a patron's own rows from the one before: the patron's row is the same, and each loan and
-- hold that it shows of the patron was there before, unchanged.
pub record KeepsOwnRows (P Q : Picture) (p : ℕ) : Type 0 where
  pub patron : P.patrons p ≡ Q.patrons p
  pub loans : (l : ℕ) (r : LoanRow) → Q.loans l ≡ Some r → r.patron ≡ p → P.loans l ≡ Some r
  pub holds : (h : ℕ) (r : HoldRow) → Q.holds h ≡ Some r → r.patron ≡ p → P.holds h ≡ Some r

-- A picture keeps a patron's own titles from the one before: the row of each title of which the patron has an
-- open loan or an active hold.
pub record KeepsOwnTitles (P Q : Picture) (p : ℕ) : Type 0 where
  pub lent : (l : ℕ) (r : LoanRow) (c : CopyRow) (x : TitleRow) → Q.loans l ≡ Some r → r.patron ≡ p → r.ended ≡ None
      → P.copies r.copy ≡ Some c → P.titles c.title ≡ Some x → Q.titles c.title ≡ Some x
  pub held : (h : ℕ) (r : HoldRow) (x : TitleRow) → Q.holds h ≡ Some r → r.patron ≡ p → is_active_state r.state ≡ true
      → P.titles r.title ≡ Some x → Q.titles r.title ≡ Some x

-- A legal history agrees with the one before its last event on each patron whose own rows and titles it keeps.
abbrev pub KeptRowsAgree : Type 0
KeptRowsAgree = (e : Event) (H : History) (p : ℕ) → IsLegal (e ∷ H) → KeepsOwnRows (picture H) (picture (e ∷ H)) p
    → KeepsOwnTitles (picture H) (picture (e ∷ H)) p → AgreesOn H (e ∷ H) p
