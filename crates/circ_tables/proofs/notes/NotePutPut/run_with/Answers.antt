use Rattle.std.proofs.Common.{◌∷◌, [], subst}
use Rattle.circ_tables.specs.Cells.{number, note_cells}
use Rattle.circ_tables.specs.Puts.{Runs}
use Rattle.terms.specs.declared.row.NoteRow.{NoteRow}
use Rattle.circ_tables.proofs.NumberLemmas.{bound_words}
use Rattle.circ_tables.proofs.notes.NotePutPut.run_with.Goals as goal

pub returns : goal.returns
returns g c =
    subst (λ (r : NoteRow). Runs c.args.sql.now (note_cells r) g.S.Store c.args.tx.now c.run.new.tx c.run.result) c.self.view_is
    (subst
    (λ v. Runs c.args.sql.now (number c.self.inside.line ∷ number c.self.inside.branch ∷ v ∷ []) g.S.Store c.args.tx.now c.run.new.tx c.run.result)
    (bound_words (λ s. s.now) (λ n. n.now) c.name_or_null.result c.self.inside.text c.name_or_null.ensures)
    (rw (
      c.params-to_sql.ensures,
      c.number.ensures.value,
      c.params-to_sql-2.ensures,
      c.number-2.ensures.value,
      c.params-to_sql-3.ensures,
    ) at c.run.ensures))
