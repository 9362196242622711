use Rattle.std.proofs.Common.{inl, inr, refl, rules}
use Rattle.store.proofs.GivenNumbers.{meta_seen, meta_unseen}
use Rattle.store.proofs.numbers.meta_inside.Goals as goal

pub returns-in-Ok : goal.returns-in-Ok
returns-in-Ok g c = meta_seen c.in-Ok.ensures

pub returns-in-Err-Stored : goal.returns-in-Err-Stored
returns-in-Err-Stored g c = meta_unseen _ (inr refl) (λ same. search rules) c.in-Err-Stored.ensures

pub returns-in-Err : goal.returns-in-Err
returns-in-Err g c = meta_unseen _ (inl refl) (λ same. absurd (let never = same in cc)) c.in-Err.ensures
