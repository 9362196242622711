use Rattle.sql_maps.specs.Maps.{ListedBy, PairBelow}
use Rattle.circ_tables.specs.Barcodes.{barcodes, barcodes_are}
use Rattle.circ_tables.specs.TableSchemas.{has_fourth}
use Rattle.terms.specs.declared.limits.TheConstants.{SCHEMA}
use Rattle.circ_tables.specs.Selections.{is_any}
use Rattle.circ_tables.proofs.PairedLemmas.{all_plain, pair_listed}
use Rattle.circ_tables.proofs.ReadingLemmas.{lists_of}
use Rattle.circ_tables.proofs.TableLemmas.{barcodes_within}
use Rattle.circ_tables.proofs.barcodes.all_barcodes.Goals as goal

pub returns : goal.returns
returns g c = lists_of barcodes _ _ (all_plain (barcodes_are SCHEMA has_fourth)) _ (λ m. ListedBy PairBelow m is_any)
    (pair_listed (barcodes_are SCHEMA has_fourth)) (λ m rows listed v there. let at = listed.sound v there in (at.0, at.1)) barcodes_within _ _ _ _
    c.rows_of.ensures
