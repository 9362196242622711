-- The table of barcodes, which exists from schema 4 on.
use Rattle.std.proofs.Common.{inl, inr, refl}
use Rattle.std.specs.Prelude.{◌≡◌, ◌≢◌, ℕ, List, Option, Some, None}
use Rattle.sqlite.specs.Listing.{understood}
use Rattle.sqlite_tied.specs.Compute.{everything}
use Rattle.sql_maps.proofs.UniqueLemmas.{or_false, alone_by_index}
use Rattle.terms.specs.Limits.{IsBarcode}
use Rattle.terms.specs.Pictures.{Picture, put_thing}
use Rattle.terms.specs.declared.row.BarcodeRow.{BarcodeRow}
use Rattle.terms.specs.declared.row.Thing.{Thing}
use Rattle.circ_tables.specs.Cells.{thing_key, barcode_cells}
use Rattle.circ_tables.specs.Paired.{IsPaired}
use Rattle.circ_tables.specs.Reading.{Table}
use Rattle.circ_tables.specs.Shape as shape
use Rattle.circ_tables.specs.TableSchemas.{since_fourth}

abbrev pub barcodes : Table Thing BarcodeRow
barcodes = record {
  shape = shape.barcodes;
  place = shape.barcodes_place;
  since = 4;
  key = thing_key;
  cells = barcode_cells;
  IsLegal = IsBarcode;
  rows = λ P. P.barcodes;
  set = λ P k row. record P { barcodes = put_thing P.barcodes k row };
}

texts_are : IsPaired shape.schema shape.barcodes_place shape.barcodes
unfolding understood everything
texts_are = record {
  fixed = record {
    listed = refl;
    uncounted = refl;
    calm = λ keys depth tree olds news. refl;
    target = λ r new. or_false _;
    alone = alone_by_index shape.schema shape.barcodes_place shape.barcodes _ refl
        (inr (inr (inr (inr (inr (inr (inr (inr (inr (inr (inr (inr (inr (inr (inr (inr (inr (inr (inr (inr (inr (inr (inr (inr (inr (inl refl)))))))))))))))))))))))))) refl refl refl;
  };
  primary = refl;
  first_cell = λ r. refl;
  second_cell = λ r. refl;
  shows = λ given r. refl;
  put = record { command_is = refl; bare = (refl, refl) };
  take = record { command_is = refl; bare = (refl, refl) };
  get = record { command_is = refl; bare = (refl, refl); unlisted = refl };
  all = record { command_is = refl; bare = (refl, refl); unlisted = refl };
}

pub barcodes_are : (n : ℕ) → shape.HasTable 4 n → IsPaired (shape.schema_at n) shape.barcodes_place shape.barcodes
barcodes_are = since_fourth (λ n. IsPaired (shape.schema_at n) shape.barcodes_place shape.barcodes) texts_are

-- The row is one of the picture, and has this barcode; where there is none, no row has it.
abbrev pub IsFoundBy : List ℕ → Picture → Option BarcodeRow → Type 0
IsFoundBy barcode P None = (t : Thing) (r : BarcodeRow) → P.barcodes t ≡ Some r → r.barcode ≢ barcode
IsFoundBy barcode P (Some row) = (P.barcodes row.thing ≡ Some row) × (row.barcode ≡ barcode)
