use Rattle.terms.specs.Texts.{fault_number}
use Rattle.terms.specs.declared.fault.Fault.TheVariants.{Memory}
use Rattle.circ_audit.specs.declared.auditing.Finding.TheVariants.{Reference}
use Rattle.circ_audit.specs.declared.references.Table.TheVariants.{Barcodes}
use Rattle.circ.specs.Auditing.{SaysOf}
use Rattle.circ.specs.Lines.{sound_line, finding_line, old_row_line, fault_line}
use Rattle.circ.specs.declared.lines.Exit.TheVariants.{Done, Refused, Faulted}
use Rattle.circ.proofs.Said.{said-whole, said-cut}
use Rattle.circ.proofs.Audits.{says-sound, says-unsound, says-doubled, says-no-memory, says-old-row, says-faulted, says-faulted-later}
use Rattle.circ.proofs.Audits.{none-doubled, one-doubled, read-left, both-clean, both-left}
use Rattle.store.specs.Library.{state}
use Rattle.circ.proofs.auditing.audit.Goals as goal

pub returns-in-Err : goal.returns-in-Err
returns-in-Err g c = record {
  clean = c.in-Err.ensures.looked.reads.clean;
  written = said-whole (SaysOf g.S.Store c.args.store.now c.audit_tables.new.self) c.tell_fault.result _ _ (fault_line (fault_number c.in-Err.fault))
      Faulted
      (says-faulted g.S.Store c.args.store.now c.audit_tables.new.self c.in-Err.fault c.in-Err.ensures.looked) c.tell_fault.ensures.exit_is
      c.tell_fault.ensures.writes.all;
  left = read-left (state g.S.Store c.args.store.now) (state g.S.Store c.audit_tables.new.self) c.in-Err.ensures.looked.reads;
  cut = said-cut (SaysOf g.S.Store c.args.store.now c.audit_tables.new.self) c.tell_fault.result _ _ (fault_line (fault_number c.in-Err.fault))
      Faulted
      (says-faulted g.S.Store c.args.store.now c.audit_tables.new.self c.in-Err.fault c.in-Err.ensures.looked) c.tell_fault.ensures.writes.front;
}

pub returns-in-Err-audit : goal.returns-in-Err-audit
returns-in-Err-audit g c = record {
  clean = c.in-Ok.ensures.looked.reads.clean;
  written = said-whole (SaysOf g.S.Store c.args.store.now c.audit_tables.new.self) c.tell_finding.result _ _ (finding_line c.in-Err-audit.finding)
      Refused
      (says-unsound g.S.Store c.args.store.now c.audit_tables.new.self c.legal_tables_are_sound.ensures c.in-Ok.tables
      c.in-Err-audit.finding c.in-Ok.ensures.looked c.in-Ok.ensures.legal c.in-Err-audit.ensures)
      c.tell_finding.ensures.exit_is c.tell_finding.ensures.writes.all;
  left = read-left (state g.S.Store c.args.store.now) (state g.S.Store c.audit_tables.new.self) c.in-Ok.ensures.looked.reads;
  cut = said-cut (SaysOf g.S.Store c.args.store.now c.audit_tables.new.self) c.tell_finding.result _ _ (finding_line c.in-Err-audit.finding) Refused
      (says-unsound g.S.Store c.args.store.now c.audit_tables.new.self c.legal_tables_are_sound.ensures c.in-Ok.tables
      c.in-Err-audit.finding c.in-Ok.ensures.looked c.in-Ok.ensures.legal c.in-Err-audit.ensures)
      c.tell_finding.ensures.writes.front;
}

pub returns-in-Ok-Some : goal.returns-in-Ok-Some
returns-in-Ok-Some g c = record {
  clean = c.in-Ok.ensures.looked.reads.clean;
  written = said-whole (SaysOf g.S.Store c.args.store.now c.audit_tables.new.self) c.tell_finding-in-Ok-Some.result _ _ (finding_line (Reference
      Barcodes c.in-Ok-Some.thing)) Refused
      (says-doubled g.S.Store c.args.store.now c.audit_tables.new.self c.legal_tables_are_sound.ensures c.in-Ok.tables c.in-Ok.ensures.looked
      c.in-Ok.ensures.legal c.in-Ok-audit.ensures c.in-Ok-Some.thing
      (one-doubled c.in-Ok.tables.barcodes c.in-Ok-Some.thing c.in-Ok-Some.field-0 c.in-Ok-Some.field-0-is c.in-Ok-Some.ensures))
      c.tell_finding-in-Ok-Some.ensures.exit_is c.tell_finding-in-Ok-Some.ensures.writes.all;
  left = read-left (state g.S.Store c.args.store.now) (state g.S.Store c.audit_tables.new.self) c.in-Ok.ensures.looked.reads;
  cut = said-cut (SaysOf g.S.Store c.args.store.now c.audit_tables.new.self) c.tell_finding-in-Ok-Some.result _ _ (finding_line (Reference Barcodes
      c.in-Ok-Some.thing)) Refused
      (says-doubled g.S.Store c.args.store.now c.audit_tables.new.self c.legal_tables_are_sound.ensures c.in-Ok.tables c.in-Ok.ensures.looked
      c.in-Ok.ensures.legal c.in-Ok-audit.ensures c.in-Ok-Some.thing
      (one-doubled c.in-Ok.tables.barcodes c.in-Ok-Some.thing c.in-Ok-Some.field-0 c.in-Ok-Some.field-0-is c.in-Ok-Some.ensures))
      c.tell_finding-in-Ok-Some.ensures.writes.front;
}

pub returns-in-Err-doubled_barcode : goal.returns-in-Err-doubled_barcode
returns-in-Err-doubled_barcode g c = record {
  clean = c.in-Ok.ensures.looked.reads.clean;
  written = said-whole (SaysOf g.S.Store c.args.store.now c.audit_tables.new.self) c.tell_fault-in-Err-doubled_barcode.result _ _ (fault_line
      (fault_number Memory)) Faulted
      (says-no-memory g.S.Store c.args.store.now c.audit_tables.new.self c.legal_tables_are_sound.ensures c.in-Ok.tables c.in-Ok.ensures.looked
      c.in-Ok.ensures.legal c.in-Ok-audit.ensures) c.tell_fault-in-Err-doubled_barcode.ensures.exit_is
      c.tell_fault-in-Err-doubled_barcode.ensures.writes.all;
  left = read-left (state g.S.Store c.args.store.now) (state g.S.Store c.audit_tables.new.self) c.in-Ok.ensures.looked.reads;
  cut = said-cut (SaysOf g.S.Store c.args.store.now c.audit_tables.new.self) c.tell_fault-in-Err-doubled_barcode.result _ _ (fault_line (fault_number
      Memory)) Faulted
      (says-no-memory g.S.Store c.args.store.now c.audit_tables.new.self c.legal_tables_are_sound.ensures c.in-Ok.tables c.in-Ok.ensures.looked
      c.in-Ok.ensures.legal c.in-Ok-audit.ensures) c.tell_fault-in-Err-doubled_barcode.ensures.writes.front;
}

pub returns-in-Ok-None-old_row : goal.returns-in-Ok-None-old_row
returns-in-Ok-None-old_row g c = record {
  clean = both-clean (state g.S.Store c.args.store.now) (state g.S.Store c.audit_tables.new.self) (state g.S.Store c.old_row.new.self)
      c.in-Ok.ensures.looked.reads c.in-Ok-None-old_row.ensures.looked.reads;
  written = said-whole (SaysOf g.S.Store c.args.store.now c.old_row.new.self) c.tell_sound.result _ _ sound_line Done
      (says-sound g.S.Store c.args.store.now c.audit_tables.new.self c.old_row.new.self c.in-Ok.tables c.in-Ok.ensures.looked
      c.in-Ok.ensures.legal c.in-Ok-audit.ensures
      (none-doubled c.in-Ok.tables.barcodes c.in-Ok-None.field-0 c.in-Ok-None.field-0-is c.in-Ok-None.ensures)
      c.in-Ok-None-old_row.field-0 c.in-Ok-None-old_row.field-0-is c.in-Ok-None-old_row.ensures.looked c.in-Ok-None-old_row.ensures.tells)
      c.tell_sound.ensures.exit_is c.tell_sound.ensures.writes.all;
  left = both-left (state g.S.Store c.args.store.now) (state g.S.Store c.audit_tables.new.self) (state g.S.Store c.old_row.new.self)
      c.in-Ok.ensures.looked.reads c.in-Ok-None-old_row.ensures.looked.reads;
  cut = said-cut (SaysOf g.S.Store c.args.store.now c.old_row.new.self) c.tell_sound.result _ _ sound_line Done
      (says-sound g.S.Store c.args.store.now c.audit_tables.new.self c.old_row.new.self c.in-Ok.tables c.in-Ok.ensures.looked
      c.in-Ok.ensures.legal c.in-Ok-audit.ensures
      (none-doubled c.in-Ok.tables.barcodes c.in-Ok-None.field-0 c.in-Ok-None.field-0-is c.in-Ok-None.ensures)
      c.in-Ok-None-old_row.field-0 c.in-Ok-None-old_row.field-0-is c.in-Ok-None-old_row.ensures.looked c.in-Ok-None-old_row.ensures.tells)
      c.tell_sound.ensures.writes.front;
}

pub returns-in-Ok-Some-old_row : goal.returns-in-Ok-Some-old_row
returns-in-Ok-Some-old_row g c = record {
  clean = both-clean (state g.S.Store c.args.store.now) (state g.S.Store c.audit_tables.new.self) (state g.S.Store c.old_row.new.self)
      c.in-Ok.ensures.looked.reads c.in-Ok-Some-old_row.ensures.looked.reads;
  written = said-whole (SaysOf g.S.Store c.args.store.now c.old_row.new.self) c.tell_old_row.result _ _ (old_row_line c.in-Ok-Some-old_row.row)
      Refused
      (says-old-row g.S.Store c.args.store.now c.audit_tables.new.self c.old_row.new.self c.in-Ok.tables c.in-Ok.ensures.looked
      c.in-Ok.ensures.legal c.in-Ok-audit.ensures
      (none-doubled c.in-Ok.tables.barcodes c.in-Ok-None.field-0 c.in-Ok-None.field-0-is c.in-Ok-None.ensures)
      c.in-Ok-Some-old_row.row c.in-Ok-Some-old_row.field-0 c.in-Ok-Some-old_row.field-0-is c.in-Ok-Some-old_row.ensures.looked
      c.in-Ok-Some-old_row.ensures.tells) c.tell_old_row.ensures.exit_is c.tell_old_row.ensures.writes.all;
  left = both-left (state g.S.Store c.args.store.now) (state g.S.Store c.audit_tables.new.self) (state g.S.Store c.old_row.new.self)
      c.in-Ok.ensures.looked.reads c.in-Ok-Some-old_row.ensures.looked.reads;
  cut = said-cut (SaysOf g.S.Store c.args.store.now c.old_row.new.self) c.tell_old_row.result _ _ (old_row_line c.in-Ok-Some-old_row.row) Refused
      (says-old-row g.S.Store c.args.store.now c.audit_tables.new.self c.old_row.new.self c.in-Ok.tables c.in-Ok.ensures.looked
      c.in-Ok.ensures.legal c.in-Ok-audit.ensures
      (none-doubled c.in-Ok.tables.barcodes c.in-Ok-None.field-0 c.in-Ok-None.field-0-is c.in-Ok-None.ensures)
      c.in-Ok-Some-old_row.row c.in-Ok-Some-old_row.field-0 c.in-Ok-Some-old_row.field-0-is c.in-Ok-Some-old_row.ensures.looked
      c.in-Ok-Some-old_row.ensures.tells) c.tell_old_row.ensures.writes.front;
}

pub returns : goal.returns
returns g c = record {
  clean = both-clean (state g.S.Store c.args.store.now) (state g.S.Store c.audit_tables.new.self) (state g.S.Store c.old_row.new.self)
      c.in-Ok.ensures.looked.reads c.in-Err-old_row.ensures.looked.reads;
  written = said-whole (SaysOf g.S.Store c.args.store.now c.old_row.new.self) c.tell_fault-in-Err-old_row.result _ _ (fault_line (fault_number
      c.in-Err-old_row.fault)) Faulted
      (says-faulted-later g.S.Store c.args.store.now c.audit_tables.new.self c.old_row.new.self c.in-Ok.tables c.in-Ok.ensures.looked
      c.in-Ok.ensures.legal c.in-Ok-audit.ensures
      (none-doubled c.in-Ok.tables.barcodes c.in-Ok-None.field-0 c.in-Ok-None.field-0-is c.in-Ok-None.ensures)
      c.in-Err-old_row.fault c.in-Err-old_row.ensures.looked) c.tell_fault-in-Err-old_row.ensures.exit_is
      c.tell_fault-in-Err-old_row.ensures.writes.all;
  left = both-left (state g.S.Store c.args.store.now) (state g.S.Store c.audit_tables.new.self) (state g.S.Store c.old_row.new.self)
      c.in-Ok.ensures.looked.reads c.in-Err-old_row.ensures.looked.reads;
  cut = said-cut (SaysOf g.S.Store c.args.store.now c.old_row.new.self) c.tell_fault-in-Err-old_row.result _ _ (fault_line (fault_number
      c.in-Err-old_row.fault)) Faulted
      (says-faulted-later g.S.Store c.args.store.now c.audit_tables.new.self c.old_row.new.self c.in-Ok.tables c.in-Ok.ensures.looked
      c.in-Ok.ensures.legal c.in-Ok-audit.ensures
      (none-doubled c.in-Ok.tables.barcodes c.in-Ok-None.field-0 c.in-Ok-None.field-0-is c.in-Ok-None.ensures)
      c.in-Err-old_row.fault c.in-Err-old_row.ensures.looked) c.tell_fault-in-Err-old_row.ensures.writes.front;
}
