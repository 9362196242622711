use Rattle.std.proofs.Common.{◌≡◌, ◌≢◌, [], rules, sym, subst}
use Rattle.std.specs.Prelude.{Err, IfErr}
use Rattle.sqlite.proofs.Callers.{memory_is_clean}
use Rattle.terms.specs.declared.fault.Fault.TheVariants.{Stored}
use Rattle.store.specs.Library.{state, over_memory}
use Rattle.desk.specs.Answering.{Shows}
use Rattle.desk.proofs.desk.Desk+MemStore.in_memory.Goals as goal

pub returns-in_err-desk-clause-fault : goal.returns-in_err-desk-clause-fault
returns-in_err-desk-clause-fault c =
    let told : c.from_residual-in_err-desk.result ≡ Err c.in_err-desk.field-0.0 = search rules in
    let empty : Shows (state over_memory c.in_ok-store.store) [] =
    record { legal = search rules; forms = search rules; tables = c.in_ok-store.ensures.made } in
    subst (λ r. IfErr r (λ fault. fault ≢ Stored)) (sym told)
    (λ stored. let refuses = c.in_err-desk.ensures.made stored in refuses.none (memory_is_clean refuses.last) [] empty)
