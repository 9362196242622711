-- Why a hall isn't opened.
use Rattle.std.proofs.Common.{◌≡◌, ◌⊎◌, inl, inr, ℕ, true, refl}
use Rattle.std.specs.Prelude.{Ok}
use Rattle.store.specs.Library.{Ghosts, Held}
use Rattle.terms.specs.declared.fault.ServiceFault.{ServiceFault}
use Rattle.terms.specs.declared.fault.Fault.TheVariants.{Memory}
use Rattle.terms.specs.declared.fault.ServiceFault.TheVariants.{Met, Closed}
use Rattle.hall.specs.declared.hall.Why.TheVariants.{Faulted}
use Rattle.hall.specs.Openings.{LooksOnly, MeetsFaultOf, IsMet, IsUnopened, can_be_workers}

module _ {S : Type 0} (g : Ghosts S) (workers : ℕ) (old new : Held S) (fault : ServiceFault) (within : can_be_workers workers ≡ true)
    (looks : LooksOnly g old new (Ok tt)) where
  cause : (fault ≡ Met Memory) ⊎ (fault ≡ Closed) → IsMet (MeetsFaultOf g old new) fault ⊎ (LooksOnly g old new (Ok tt) × (fault ≡ Closed))
  cause (inl want) = inl (Memory, want, record { looked = Ok tt; looks = looks; cause = inr refl })
  cause (inr closed) = inr (looks, closed)

  -- a worker could not be made, after a look at the tables
  pub unhired : (fault ≡ Met Memory) ⊎ (fault ≡ Closed) → IsUnopened workers g old new (Faulted fault)
  unhired why = record {
    refused = λ out. let never : ⊥ = cc in absurd never;
    faulted = λ _. (fault, refl, cause why);
  }
