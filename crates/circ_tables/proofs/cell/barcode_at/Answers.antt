use Rattle.std.proofs.Common.{rules}
use Rattle.std.specs.Prelude.{IsUtf8}
use Rattle.circ_tables.proofs.TextLemmas.{barcode_utf8}
use Rattle.circ_tables.proofs.cell.barcode_at.Goals as goal

pub returns-in_err-text-clause-stored : goal.returns-in_err-text-clause-stored
returns-in_err-text-clause-stored c is there t form = let text : IsUtf8 t = barcode_utf8 t form in search rules
