-- What has a barcode, in words of the picture.
use Rattle.std.proofs.Common.{◌∙◌, ℕ, List, Option, Some, None, ap}
use Rattle.std.specs.Prelude.{option_map}
use Rattle.terms.specs.Pictures.{Picture}
use Rattle.terms.specs.declared.row.BarcodeRow.{BarcodeRow}
use Rattle.circ_core.specs.Views.{IsThingOf}
use Rattle.circ_tables.specs.Barcodes.{IsFoundBy}

-- The thing of the row that has the barcode.
pub thing_is : (P : Picture) (barcode : List ℕ) (row : Option BarcodeRow) → IsFoundBy barcode P row → IsThingOf P barcode (option_map (λ r. r.thing) row)
thing_is P barcode None none = none
thing_is P barcode (Some row) is = is.0 ∙ ap (λ (b : List ℕ). Some (record { thing = row.thing; barcode = b })) is.1
