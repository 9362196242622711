-- A hall over the desk of a new library in memory.
use Rattle.std.proofs.Common.{◌≡◌, ◌≢◌, inl, inr, ℕ, [], sym, subst}
use Rattle.std.specs.Prelude.{None, Ok, Err}
use Rattle.sqlite.proofs.Callers.{memory_is_clean}
use Rattle.sqlite_trees.specs.declared.memory.MemStore.{MemStore}
use Rattle.store.specs.Library.{Held, state, over_memory}
use Rattle.model.specs.History.{History}
use Rattle.desk.specs.Answering.{Shows}
use Rattle.board.specs.Rule.{Publishing}
use Rattle.board.specs.Showing.{page_at}
use Rattle.terms.specs.declared.fault.Fault.TheVariants.{Stored}
use Rattle.terms.specs.declared.fault.ServiceFault.{ServiceFault}
use Rattle.terms.specs.declared.fault.ServiceFault.TheVariants.{Met}
use Rattle.hall.specs.declared.hall.Why.{Why}
use Rattle.hall.specs.Openings.{LooksOnly, OpensBoard, KeepsClosed, IsUnopened, IsUnmade}

-- its tables show the empty list
pub shows-none : (desk : Held MemStore) (H : History) → H ≡ [] → Shows (state over_memory desk) [] → Shows (state over_memory desk) H
shows-none desk H is shows = subst (Shows (state over_memory desk)) (sym is) shows

module _ (old new : Held MemStore) (shows : Shows (state over_memory old) []) where
  -- after a look too
  pub still-none : LooksOnly over_memory old new (Ok tt) → Shows (state over_memory new) []
  still-none l = l.looks.stays (memory_is_clean new) [] shows

  -- nobody has a page
  pub no-pages : (p : Publishing) → OpensBoard over_memory old new p → (patron : ℕ) → page_at p.board.pages patron ≡ None
  no-pages p opens patron = opens.pages.shown (memory_is_clean new) [] shows tt patron

  -- no look at it meets a damaged row
  not-damaged : (fault : ServiceFault) → KeepsClosed over_memory old new fault → fault ≢ Met Stored
  not-damaged fault (inr closed) is = absurd (let other = closed.1 in cc)
  not-damaged fault (inl (met, same, looks)) is = elim looks.cause [
    | inl failed ↦
        let stored : looks.looked ≡ Err Stored = cc in
        looks.looks.sound (memory_is_clean new) stored [] shows tt
    | inr memory ↦ absurd (cc)
  ]

  pub unmade : (workers : ℕ) (why : Why) → IsUnopened workers over_memory old new why → IsUnmade workers why
  unmade workers why is = record {
    refused = λ out. (is.refused out).0;
    faulted = λ within. let met = is.faulted within in (met.0, met.1, not-damaged met.0 met.2);
  }
