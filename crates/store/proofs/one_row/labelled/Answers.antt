use Rattle.circ_tables.specs.Barcodes.{barcodes}
use Rattle.circ_tables.proofs.TableLemmas.{barcodes_within}
use Rattle.store.proofs.LabelLemmas.{thing_is}
use Rattle.store.proofs.ViewLemmas.{fails, gives, selects_sound, sound_fails}
use Rattle.store.proofs.one_row.labelled.Goals as goal

pub returns-in_err-row-clause-view : goal.returns-in_err-row-clause-view
returns-in_err-row-clause-view g c = fails _ _ c.from_residual.ensures c.in_err-row.ensures.view

pub returns-in_err-row-clause-sound : goal.returns-in_err-row-clause-sound
returns-in_err-row-clause-sound g c =
    sound_fails _ _ c.from_residual.ensures c.in_err-row.ensures.view (selects_sound {t = barcodes} barcodes_within c.in_err-row.ensures.selects)

pub returns-clause-view : goal.returns-clause-view
returns-clause-view g c = gives c.in_ok-row.ensures.view (λ P is. rw (c.thing_of.ensures) (thing_is P c.args.barcode.now c.in_ok-row.row is))
