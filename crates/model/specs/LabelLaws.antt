-- Laws of barcodes: whose each is.
use Rattle.std.specs.Prelude.{◌≡◌, ◌↔◌, ℕ, List, ◌∷◌, ◌++◌, Some}
use Rattle.std.specs.List.{AllByRecursion}
use Rattle.terms.specs.declared.row.Thing.{Thing}
use Rattle.terms.specs.declared.row.BarcodeRow.{BarcodeRow}
use Rattle.model.specs.History.{Event, History, Gives, Takes, labelling, thing_of}
use Rattle.model.specs.Picture.{Picture, picture}
use Rattle.model.specs.Requests.{IsLegal}

-- The event leaves the thing this barcode: it gives the thing no other one, and doesn't take this one.
pub record LeavesBarcode (t : Thing) (barcode : List ℕ) (e : Event) : Type 0 where
  pub no_other : (other : List ℕ) → labelling e.command ≡ Gives t other → ⊥
  pub not_taken : labelling e.command ≡ Takes barcode → ⊥

-- A command gave the thing this barcode, and every later one left it.
pub record WasGiven (H : History) (t : Thing) (barcode : List ℕ) : Type 0 where
  pub later : History
  pub event : Event
  pub earlier : History
  pub split : H ≡ later ++ event ∷ earlier
  pub gives : labelling event.command ≡ Gives t barcode
  pub left : AllByRecursion (LeavesBarcode t barcode) later

-- The row of the thing has this barcode.
abbrev pub HasBarcode : Picture → Thing → List ℕ → Type 0
HasBarcode T t barcode = T.barcodes t ≡ Some (record { thing = t; barcode = barcode })

-- No two things have the same barcode. A thing has the one that the last command gave it, unless it was taken
-- since, and the thing that is found by a barcode is the one that has it.
pub record HasLabels (H : History) (T : Picture) : Type 0 where
  pub one_thing : (t u : Thing) (r s : BarcodeRow) → T.barcodes t ≡ Some r → T.barcodes u ≡ Some s → r.barcode ≡ s.barcode → t ≡ u
  pub given : (t : Thing) (barcode : List ℕ) → HasBarcode T t barcode ↔ WasGiven H t barcode
  pub found : (t : Thing) (barcode : List ℕ) → (thing_of H barcode ≡ Some t) ↔ HasBarcode T t barcode

-- After every legal history it is so.
abbrev pub Labels : Type 0
Labels = (H : History) → IsLegal H → HasLabels H (picture H)
