use Rattle.std.proofs.Common.{◌≡◌, ◌+◌, ◌-◌, ℕ, length, ◌∙◌, ap, subst, arith}
use Rattle.store.specs.Library.{state}
use Rattle.circ_audit.specs.Barcodes.{AreDoubled}
use Rattle.circ_audit.specs.declared.auditing.TheConstants.{MOST_FINDINGS}
use Rattle.circ.specs.Auditing.{told_row}
use Rattle.circ.proofs.AllAudits.{finds-all}
use Rattle.circ.proofs.Audits.{faulted, faulted-later, no-memory, read-left, both-clean, both-left}
use Rattle.circ.proofs.auditing.find_all.Goals as goal

pub returns-in-Err : goal.returns-in-Err
returns-in-Err g c = record {
  clean = c.in-Err.ensures.looked.reads.clean;
  finds = faulted g.S.Store c.args.store.now c.audit_tables.new.self c.in-Err.fault c.in-Err.ensures.looked;
  left = read-left (state g.S.Store c.args.store.now) (state g.S.Store c.audit_tables.new.self) c.in-Err.ensures.looked.reads;
}

pub returns-in-Err-audit_all : goal.returns-in-Err-audit_all
returns-in-Err-audit_all g c = record {
  clean = c.in-Ok.ensures.looked.reads.clean;
  finds = no-memory g.S.Store c.args.store.now c.audit_tables.new.self c.in-Ok.tables c.in-Ok.ensures.looked;
  left = read-left (state g.S.Store c.args.store.now) (state g.S.Store c.audit_tables.new.self) c.in-Ok.ensures.looked.reads;
}

pub returns-in-Err-doubled_barcodes : goal.returns-in-Err-doubled_barcodes
returns-in-Err-doubled_barcodes g c = record {
  clean = c.in-Ok.ensures.looked.reads.clean;
  finds = no-memory g.S.Store c.args.store.now c.audit_tables.new.self c.in-Ok.tables c.in-Ok.ensures.looked;
  left = read-left (state g.S.Store c.args.store.now) (state g.S.Store c.audit_tables.new.self) c.in-Ok.ensures.looked.reads;
}

pub returns-in-Ok-old_row : goal.returns-in-Ok-old_row
returns-in-Ok-old_row g c =
    let broken = c.in-Ok-audit_all.broken in
    let doubled = c.in-Ok-doubled_barcodes.doubled in
    let row = c.in-Ok-old_row.row in
    let one = c.len.ensures in
    let size : c.len.result ≡ length broken.items = omega (arith, one) in
    let again = c.len-in-Ok-old_row.ensures in
    let other = c.len-in-Ok-old_row-2.ensures in
    let lines : c.len-in-Ok-old_row.result + c.len-in-Ok-old_row-2.result ≡ length broken.items + length doubled.items = omega (arith, again, other) in
    record {
      clean = both-clean (state g.S.Store c.args.store.now) (state g.S.Store c.audit_tables.new.self) (state g.S.Store c.old_row.new.self)
          c.in-Ok.ensures.looked.reads c.in-Ok-old_row.ensures.looked.reads;
      finds = finds-all g.S.Store c.args.store.now c.audit_tables.new.self c.old_row.new.self c.legal_tables_are_sound.ensures c.in-Ok.tables
          c.in-Ok.ensures.looked c.in-Ok.ensures.legal (record { broken = broken; doubled = doubled; old = c.told_row-old.result }) (record {
            laws = c.in-Ok-audit_all.ensures.findings;
            barcodes = subst (λ (n : ℕ). AreDoubled c.in-Ok.tables.barcodes (MOST_FINDINGS - n) doubled.items) size c.in-Ok-doubled_barcodes.ensures;
          }) row c.in-Ok-old_row.ensures.looked c.in-Ok-old_row.ensures.tells
          (c.told_row-old.ensures ∙ ap (λ (n : ℕ). told_row n row) lines);
      left = both-left (state g.S.Store c.args.store.now) (state g.S.Store c.audit_tables.new.self) (state g.S.Store c.old_row.new.self)
          c.in-Ok.ensures.looked.reads c.in-Ok-old_row.ensures.looked.reads;
    }

pub returns : goal.returns
returns g c = record {
  clean = both-clean (state g.S.Store c.args.store.now) (state g.S.Store c.audit_tables.new.self) (state g.S.Store c.old_row.new.self)
      c.in-Ok.ensures.looked.reads c.in-Err-old_row.ensures.looked.reads;
  finds = faulted-later g.S.Store c.args.store.now c.audit_tables.new.self c.old_row.new.self c.in-Ok.tables c.in-Ok.ensures.looked
      c.in-Err-old_row.fault c.in-Err-old_row.ensures.looked;
  left = both-left (state g.S.Store c.args.store.now) (state g.S.Store c.audit_tables.new.self) (state g.S.Store c.old_row.new.self)
      c.in-Ok.ensures.looked.reads c.in-Err-old_row.ensures.looked.reads;
}
