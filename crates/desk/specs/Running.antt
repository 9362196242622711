-- What a new desk shows, and what it shows after many requests.
use Rattle.std.specs.Prelude.{◌≡◌, ◌≤◌, ◌+◌, ◌-◌, ◌==◌, ℕ, false, List, [], ◌∷◌, length, take, Vec, vec_len, Result, Ok, Err, IfOk, IfErr}
use Rattle.std.specs.List.{list_any}
use Rattle.store.specs.Library.{Ghosts, Held, state, IsClean, IsOpen, HasTables, IsAsItWas, StaysReady}
use Rattle.store.specs.Commit.{empty_library}
use Rattle.store.specs.Schemas.{IsKnown}
use Rattle.store.specs.Stops.{KeepsPicture, LeavesPicture}
use Rattle.circ_tables.specs.Encoding.{HasPicture, HasPictureAt}
use Rattle.terms.specs.Pictures.{Picture}
use Rattle.terms.specs.declared.command.Request.{Request}
use Rattle.terms.specs.declared.fault.Fault.{Fault}
use Rattle.terms.specs.declared.fault.Fault.TheVariants.{Stored}
use Rattle.terms.specs.declared.limits.TheConstants.{SCHEMA}
use Rattle.terms.specs.declared.reply.Reply.{Reply}
use Rattle.model.specs.History.{History}
use Rattle.model.specs.Requests.{after, after_one, replies as replies_to}
use Rattle.desk.specs.Answering.{Handled, Shows, LeavesOneOf, Learns, IsPageFor, IsOwnPageFor}
use Rattle.desk.specs.Headline.{Headline}
use Rattle.desk.specs.Showing.{own_page}
use Rattle.desk.specs.Touching.{IsAmong, IsTouched}

-- A store was dropped because its tables show no list of accepted requests. Nothing was changed if the
-- database was still open.
pub record RefusesTables {S : Type 0} (g : Ghosts S) (store : Held S) : Type 0 where
  -- the store when it was dropped
  pub last : Held S
  pub ready : StaysReady (state g store) (state g last)
  pub clean : IsClean g last → IsClean g store
  pub nothing : IsClean g last → IsOpen g last → IsAsItWas (state g store) (state g last)
  pub none : IsClean g last → (H : History) → ¬ Shows (state g store) H

-- A desk was made over a store's tables.
pub record Begins {S : Type 0}
    (g : Ghosts S) (store : Held S) (result : Result (Held S) Fault) : Type 0 where
  pub clean : IfOk result (λ desk. IsClean g desk → IsClean g store)
  -- nothing is changed, whatever tables there are
  pub nothing : IfOk result (λ desk. IsClean g desk → IsOpen g desk
      → IsAsItWas (state g store) (state g desk))
  -- a stop leaves what it would have left
  pub left : IfOk result (λ desk. IsClean g desk → (P : Picture)
      → KeepsPicture (state g store) P → LeavesPicture (state g desk) P)
  -- the tables of a new library show the empty list of accepted requests
  pub begins : IfOk result (λ desk. IsClean g desk → IsOpen g desk
      → KeepsPicture (state g store) empty_library → Shows (state g desk) [])
  -- there is no desk for tables of an older schema
  pub older : IfOk result (λ desk. IsClean g desk → (n : ℕ) → IsKnown n → (P : Picture)
      → HasPictureAt n (state g store).now P → P.meta.schema ≡ SCHEMA)
  -- nor a fault of a stored row for tables that show a list of accepted requests
  pub made : IfErr result (λ fault. fault ≡ Stored → RefusesTables g store)
  -- the step limit is as it was, and only a failure of the disk shuts the database
  pub ready : IfOk result (λ desk. StaysReady (state g store) (state g desk))

-- The tables show the headline of the list of accepted requests.
abbrev pub ShowsHeadline : {S : Type 0} → Ghosts S → Held S → History → Type 0
ShowsHeadline g held H = (T : Picture) × HasPicture (state g held).now T × Headline H T

-- A request was handled.
pub record Handles {S : Type 0} (request : Request)
    (g : Ghosts S) (old new : Held S) (result : Result Reply Fault) : Type 0 where
  pub handled : Handled request g old new result
  -- the tables show the headline of the list after it
  pub headline : IsClean g new → IfOk result (λ _. (H : History) → Shows (state g old) H
      → ShowsHeadline g new (after_one H request))

-- The reply without the patrons reported beside it.
abbrev pub reply_alone : Result (Reply × List ℕ) Fault → Result Reply Fault
reply_alone (Ok told) = Ok told.0
reply_alone (Err fault) = Err fault

-- A request was handled, and the patrons whose pages it may have changed were reported.
pub record HandlesTouching {S : Type 0} (request : Request)
    (g : Ghosts S) (old new : Held S) (result : Result (Reply × List ℕ) Fault) : Type 0 where
  pub handles : Handles request g old new (reply_alone result)
  -- all other patrons' pages and card keys are unchanged
  pub kept : IsClean g new → IfOk result (λ told. (H : History) → Shows (state g old) H → (p : ℕ)
      → list_any (λ q. q == p) told.1 ≡ false → own_page (after_one H request) p ≡ own_page H p)
  -- and nobody is named but whom the command touches
  pub named : IsClean g new → IfOk result (λ told. (H : History) → Shows (state g old) H → (p : ℕ)
      → IsAmong told.1 p → IsTouched H request.command p)

-- A patron who shows a card key got their own page or was refused.
pub record ShowsPage {S : Type 0} (patron : ℕ) (card_key : List ℕ)
    (g : Ghosts S) (old new : Held S) (result : Result Reply Fault) : Type 0 where
  -- the reply is the page if the patron shows their own card key, otherwise one refusal for an unknown patron
  -- and a wrong key alike
  pub page : Learns (IsPageFor patron card_key) g old new result
  -- it is the same after every list that agrees on the patron's own rows
  pub own : IsClean g new → IfOk result (λ reply. (H : History) → Shows (state g old) H
      → IsOwnPageFor patron card_key H reply)

-- The requests were handled in order, with these replies.
abbrev pub HandledAll : {S : Type 0} → Ghosts S → List Request → List Reply → Held S → Held S → Type 0
HandledAll g [] [] old new = new ≡ old
HandledAll {S} g (r ∷ rs) (a ∷ more) old new =
    (mid : Held S) × Handled r g old mid (Ok a) × HandledAll g rs more mid new
HandledAll g [] (a ∷ more) old new = ⊥
HandledAll g (r ∷ rs) [] old new = ⊥

-- The requests before the one that met a fault stand; that one changed nothing, whatever rows the tables
-- have, if the database is still open.
pub record Stands {S : Type 0} (requests : List Request) (replies : List Reply)
    (g : Ghosts S) (old new : Held S) : Type 0 where
  pub before : ℕ
  pub mid : Held S
  pub handled : HandledAll g (take before requests) replies old mid
  pub clean : IsClean g new → IsClean g mid
  pub nothing : IsClean g new → IsOpen g new → HasTables (state g old).now
      → IsAsItWas (state g mid) (state g new)

-- The requests were handled in order: all of them, or those before a fault.
pub record Ran {S Z : Type 0} (requests : List Request)
    (g : Ghosts S) (old new : Held S)
    (result : Result (Vec Reply Z) (Vec Reply Z × Fault)) : Type 0 where
  -- each request has a reply
  pub many : IfOk result (λ replies. vec_len replies ≡ length requests)
  -- before a fault there are fewer: the request that met it has none
  pub few : IfErr result (λ end. vec_len end.0 ≤ length requests - 1)
  -- the step limit is as it was, and only a failure of the disk shuts the database
  pub ready : StaysReady (state g old) (state g new)
  pub clean : IsClean g new → IsClean g old
  -- the replies are those that the list of accepted requests gives, and the tables show the list after the
  -- requests
  pub ran : IsClean g new → IfOk result (λ replies. (H : History) → Shows (state g old) H
      → (replies.items ≡ replies_to H requests) × Shows (state g new) (after H requests))
  -- the tables show the headline of that list
  pub headline : IsClean g new → IfOk result (λ _. (H : History) → Shows (state g old) H
      → ShowsHeadline g new (after H requests))
  -- fault 93 doesn't come if the tables show a list of accepted requests
  pub sound : IsClean g new → IfErr result (λ end. end.1 ≡ Stored
      → (H : History) → Shows (state g old) H → ⊥)
  -- a fault came at the request after the first n: the replies are theirs, the tables show the list after
  -- them, if the database is still open, and a stop leaves that or also what that request leaves
  pub stopped : IsClean g new → IfErr result (λ end. (H : History) → Shows (state g old) H
      → (n : ℕ) × (n ≤ length requests) × (end.0.items ≡ replies_to H (take n requests))
      × (IsOpen g new → Shows (state g new) (after H (take n requests)))
      × LeavesOneOf (state g new) (after H (take n requests)) (after H (take (n + 1) requests)))
  -- what is promised for tables that show no such list
  pub stands : IfErr result (λ end. Stands requests end.0.items g old new)
