use Rattle.std.proofs.Common.{ℕ, List, subst}
use Rattle.std.specs.Prelude.{Some}
use Rattle.terms.specs.declared.writing.WriteFault.{WriteFault}
use Rattle.circ_audit.specs.declared.auditing.Finding.{Finding}
use Rattle.circ.specs.Auditing.{SaysAllOf}
use Rattle.circ.specs.Lines.{all_lines, all_exit, EndsWith}
use Rattle.circ.proofs.AllAudits.{says-all}
use Rattle.circ.proofs.Said.{said-whole, said-cut}
use Rattle.circ.proofs.auditing.audit_all.Goals as goal

pub returns-in-Ok : goal.returns-in-Ok
returns-in-Ok g c =
    let before = g.W.Write.contents c.args.writer.now in
    let after = g.W.Write.contents c.tell_all-told.new.writer in
    let result = c.tell_all-told.result in
    let found = c.in-Ok.found in
    let lines = all_lines found.broken.items found.doubled.items found.old in
    let exit = all_exit found.broken.items found.doubled.items found.old in
    let says = says-all g.S.Store c.args.store.now c.find_all.new.store found c.in-Ok.ensures.finds in
    let told = subst (λ (doubled : List ℕ). EndsWith {E = WriteFault} (all_exit found.broken.items doubled found.old)
    (all_lines found.broken.items doubled found.old) before after result) c.as_slice-in-Ok.ensures.value
    (subst (λ (broken : List Finding). EndsWith {E = WriteFault} (all_exit broken c.as_slice-in-Ok.result.now found.old)
    (all_lines broken c.as_slice-in-Ok.result.now found.old) before after result) c.as_slice.ensures.value c.tell_all-told.ensures) in
    record {
      clean = c.in-Ok.ensures.clean;
      written = said-whole (SaysAllOf g.S.Store c.args.store.now c.find_all.new.store (Some found)) result before after lines exit says told.exit_is
          told.writes.all;
      left = c.in-Ok.ensures.left;
      cut = said-cut (SaysAllOf g.S.Store c.args.store.now c.find_all.new.store (Some found)) result before after lines exit says told.writes.front;
    }
