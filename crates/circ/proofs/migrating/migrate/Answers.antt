use Rattle.terms.specs.Texts.{fault_number}
use Rattle.circ.specs.Lines.{schema_line, fault_line}
use Rattle.circ.specs.Migrating.{SaysOneOf}
use Rattle.circ.specs.declared.lines.Exit.TheVariants.{Done, Faulted}
use Rattle.circ.proofs.Migrations.{says-led, says-not-led, left-in-one, left-same}
use Rattle.circ.proofs.Said.{said-whole, said-cut}
use Rattle.circ.proofs.migrating.migrate.Goals as goal

pub returns-in-Ok : goal.returns-in-Ok
returns-in-Ok g c =
    let old = c.args.store.now in
    let new = c.migrate.new.self in
    let says = says-led g.S.Store old new tt c.in-Ok.ensures in
    record {
      clean = c.in-Ok.ensures.clean;
      written = said-whole (SaysOneOf g.S.Store old new) c.tell_schema.result _ _ schema_line Done says c.tell_schema.ensures.exit_is
          c.tell_schema.ensures.writes.all;
      left = left-in-one g.S.Store old new c.in-Ok.ensures;
      left_same = left-same g.S.Store old new c.in-Ok.ensures;
      left_damaged = c.in-Ok.ensures.stop_damaged;
      cut = said-cut (SaysOneOf g.S.Store old new) c.tell_schema.result _ _ schema_line Done says c.tell_schema.ensures.writes.front;
    }

pub returns-in-Err : goal.returns-in-Err
returns-in-Err g c =
    let old = c.args.store.now in
    let new = c.migrate.new.self in
    let line = fault_line (fault_number c.in-Err.fault) in
    let says = says-not-led g.S.Store old new c.in-Err.fault c.in-Err.ensures in
    record {
      clean = c.in-Err.ensures.clean;
      written = said-whole (SaysOneOf g.S.Store old new) c.tell_fault.result _ _ line Faulted says c.tell_fault.ensures.exit_is c.tell_fault.ensures.writes.all;
      left = left-in-one g.S.Store old new c.in-Err.ensures;
      left_same = left-same g.S.Store old new c.in-Err.ensures;
      left_damaged = c.in-Err.ensures.stop_damaged;
      cut = said-cut (SaysOneOf g.S.Store old new) c.tell_fault.result _ _ line Faulted says c.tell_fault.ensures.writes.front;
    }
