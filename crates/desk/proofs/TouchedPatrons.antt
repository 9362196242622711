-- Whoever is named as touched is.
use Rattle.std.proofs.Common.{◌≡◌, ℕ, List, ◌++◌, ◌⊎◌, inl, inr, subst}
use Rattle.std.specs.Prelude.{Result, Ok, Err}
use Rattle.store.specs.Library.{Ghosts, Held, IsClean}
use Rattle.terms.specs.declared.command.Command.{Command}
use Rattle.terms.specs.declared.fault.Fault.{Fault}
use Rattle.terms.specs.declared.reply.Reply.{Reply}
use Rattle.circ_core.specs.Deciding.{DecidesOn}
use Rattle.circ_core.specs.Views.{IsViewOf}
use Rattle.circ_core.specs.declared.changes.Decision.{Decision}
use Rattle.circ_core.specs.declared.views.View.{View}
use Rattle.model.specs.History.{History}
use Rattle.model.specs.Picture.{picture}
use Rattle.model.specs.Requests.{IsLegal}
use Rattle.desk.specs.Answering.{LearnsIf, NamesIf}
use Rattle.desk.specs.Touching.{AreExactly, IsAmong, IsReaderFor, IsTouched, patrons_put}
use Rattle.desk.proofs.Looking.{IsAnyList}
use Rattle.desk.proofs.TitleReaders.{among-either}

-- The readers, and the patrons whose rows are put.
pub is-touched : (H : History) (command : Command) (view : View) (decision : Decision) → IsViewOf (picture H) command view
    → DecidesOn view command (Ok decision) → (readers : List ℕ) → AreExactly (IsReaderFor H command) readers → (touched : List ℕ)
    → touched ≡ readers ++ patrons_put decision.changes → (p : ℕ) → IsAmong touched p → IsTouched H command p
is-touched H command view decision is_view decided readers are touched is p among =
    go (among-either readers (patrons_put decision.changes) p (subst (λ (ps : List ℕ). IsAmong ps p) is among))
  where
    go : IsAmong readers p ⊎ IsAmong (patrons_put decision.changes) p → IsTouched H command p
    go (inl reads) = inl (are.only p reads)
    go (inr put) = inr (view, decision, is_view, decided, put)

-- The same after a look at the tables.
pub named-after : {S A : Type 0} {g : Ghosts S} {a b : Held S} {If Given Needs : History → Type 0} {Is : History → A → Type 0} {x : A}
    (c : Held S) (command : Command) (touched : List ℕ) (r : Result Reply Fault)
    → LearnsIf If Is g a b (Ok x) → (IsClean g c → IsClean g b) → NamesIf Needs command touched g b c r
    → ((H : History) → IsAnyList H → Given H → If H) → ((H : History) → IsLegal H → Is H x → Given H → Needs H) → NamesIf Given command touched g a c r
named-after c command touched (Ok y) learnt clean named needs then =
    λ disk H shows given.
    let before = clean disk in
    named disk H (learnt.looks.stays before H shows) (then H shows.legal (learnt.shown before H shows (needs H (shows.legal, shows.forms) given)) given)
named-after c command touched (Err e) learnt clean named needs then = λ disk. tt
