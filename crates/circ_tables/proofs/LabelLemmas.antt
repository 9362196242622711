-- Which row has a barcode.
use Rattle.std.proofs.Common.{◌≡◌, ℕ, pos, Bool, true, false, List, [], ◌∷◌, map, Option, Some, None, Result, Ok, Err, IfOk, refl, sym, ap, subst, ◌∙◌}
use Rattle.std.specs.Prelude.{IfSome, option_map}
use Rattle.std.specs.Option.{option_to_list}
use Rattle.std.proofs.lemmas.Bool.{and_parts, and_from}
use Rattle.sqlite_schema.specs.Rules.{equal}
use Rattle.sqlite.specs.declared.types.Value.TheVariants.{Int, Text}
use Rattle.sqlite_value.specs.declared.keys.Collation.TheVariants.{Binary}
use Rattle.sqlite.specs.Order.{Row, column}
use Rattle.sqlite.specs.Schema.{Schema}
use Rattle.sqlite.specs.Effect.{Database}
use Rattle.sqlite.specs.Held.{Held, state}
use Rattle.sqlite.specs.Store.{Ghosts}
use Rattle.sqlite.specs.Term.{Term, lit, col, op2}
use Rattle.sqlite_sql.specs.declared.ops.BinaryOp.TheVariants.{Compare}
use Rattle.sqlite_sql.specs.declared.ops.CompareOp.TheVariants.{Eq}
use Rattle.sqlite.specs.Query.{Query, inner, end}
use Rattle.sqlite.specs.Program.{IsProgramAnswer}
use Rattle.sqlite.specs.Listing.{understood, reads_listing}
use Rattle.sqlite.specs.Given.{IsPlain}
use Rattle.sqlite.specs.State.{State, IsUnchanged}
use Rattle.sqlite.proofs.Callers.{command_of}
use Rattle.sqlite_tied.specs.Compute.{everything}
use Rattle.sqlite_tied.specs.Listing.{each_column}
use Rattle.sql_maps.specs.Maps.{Maps, Holds, FirstOfBy, PairBelow, cells}
use Rattle.sql_maps.specs.Calls.{FindsRow}
use Rattle.sql_maps.proofs.AnswerLemmas.{passes, matched}
use Rattle.sql_maps.proofs.KeyLemmas.{equal_same, same_equal}
use Rattle.sql_maps.proofs.SelectLemmas.{first_of_listed}
use Rattle.sql_maps.proofs.FromLemmas.{from_in_order_of, sorted_by}
use Rattle.terms.specs.Limits.{InLimits, IsBarcode}
use Rattle.terms.specs.Pictures.{Picture}
use Rattle.terms.specs.declared.fault.Fault.{Fault}
use Rattle.terms.specs.declared.row.BarcodeRow.{BarcodeRow}
use Rattle.terms.specs.declared.row.Thing.{Thing}
use Rattle.circ_tables.specs.Barcodes.{barcodes, IsFoundBy}
use Rattle.circ_tables.specs.Cells.{thing_key, barcode_cells}
use Rattle.circ_tables.specs.Encoding.{Encodes, HasPicture}
use Rattle.circ_tables.specs.Paired.{by_pair}
use Rattle.circ_tables.specs.Reading.{Selects, Views}
use Rattle.circ_tables.specs.Selections.{has_barcode}
use Rattle.circ_tables.specs.Shape as shape
use Rattle.circ_tables.specs.declared.barcodes.TheConstants.{FIND_BARCODE_TEXT}
use Rattle.circ_tables.proofs.InverseLemmas.{barcode_told}
use Rattle.circ_tables.proofs.LineLemmas.{asks, found_first}
use Rattle.circ_tables.proofs.ListLemmas.{pair_tells, pair_below}

abbrev find_text : List ℕ
find_text = FIND_BARCODE_TEXT.now

abbrev find_tests : List Term
find_tests = op2 (Compare Eq Binary) (col 1 3) (col 0 0) ∷ []

abbrev find_query : Query
find_query = from_in_order_of (inner shape.barcodes.tree end) find_tests (each_column 1 shape.barcodes) by_pair (lit (Int (pos 1)))

find_is : (command_of (understood shape.schema find_text) ≡ asks shape.barcodes find_query) × IsPlain (understood shape.schema find_text)
    × (reads_listing shape.schema find_text ≡ false)
unfolding understood everything
find_is = (refl, (refl, refl), refl)

pub find_plain : (s : Schema) → s ≡ shape.schema → IsPlain (understood s find_text)
find_plain s e = subst (λ z. IsPlain (understood z find_text)) (sym e) find_is.1

-- A row has the barcode.
abbrev pub Has : List ℕ → Row → Type 0
Has barcode v = has_barcode barcode v ≡ true

find_out : (barcode : List ℕ) (db : Database) (maps : Maps) → Holds shape.schema db maps → (out : List Row)
    → IsProgramAnswer [] find_query db.trees (Text barcode ∷ []) out → FirstOfBy PairBelow (maps shape.barcodes_place) (Has barcode) out
find_out barcode db maps held out h =
    let given : Row = Text barcode ∷ [] in
    let p : Row → Bool = passes find_tests given in
    let env : Row → List Row = λ r. given ∷ r ∷ [] in
    let it =
    sorted_by shape.barcodes (inner shape.barcodes.tree end) find_tests (each_column 1 shape.barcodes) by_pair (lit (Int (pos 1))) db.trees given
    env p (has_barcode barcode) (matched p env (db.trees shape.barcodes.tree)) (λ r. refl) PairBelow
    (λ x y plain other _ _ tie. pair_tells (column x 1) (column x 2) (column y 1) (column y 2) plain other tie)
    (λ x y less. pair_below (column x 1) (column x 2) (column y 1) (column y 2) less)
    (maps shape.barcodes_place) (held.tables shape.barcodes_place shape.barcodes refl) out h in
    subst (FirstOfBy PairBelow (maps shape.barcodes_place) (Has barcode)) (sym it.1)
    (first_of_listed PairBelow (maps shape.barcodes_place) (has_barcode barcode) (Has barcode) (λ v h. h) (λ v h. h)
    (map (cells shape.barcodes) it.0) it.2)

pub find_found : (barcode : List ℕ) (old new : State) (o : Option Row) → FindsRow find_text (Text barcode ∷ []) old new o → (maps : Maps)
    → Holds shape.schema old.now maps
    → FirstOfBy PairBelow (maps shape.barcodes_place) (Has barcode) (option_to_list o) × IsUnchanged old new
find_found barcode = found_first shape.barcodes shape.barcodes_place find_text find_query find_is (Text barcode ∷ []) PairBelow
    (λ maps. Has barcode) (λ db maps held. find_out barcode db maps held)

-- ---- in words of the picture

has_if : (barcode : List ℕ) (r : BarcodeRow) → Has barcode (barcode_cells r) → r.barcode ≡ barcode
has_if barcode r h =
    let same : Text r.barcode ≡ Text barcode = equal_same (Text r.barcode) (Text barcode) refl refl (and_parts _ true h).0 in
    cc

if_has : (barcode : List ℕ) (r : BarcodeRow) → r.barcode ≡ barcode → Has barcode (barcode_cells r)
if_has barcode r e = and_from _ true (ap (λ b. equal Binary (Text b) (Text barcode)) e ∙ same_equal (Text barcode) refl) refl

module _ (maps : Maps) (P : Picture) (is : Encodes maps P) (legal : InLimits P) where
  -- a row within its limits that stands under a key is the picture's
  own : (row : BarcodeRow) → IsBarcode row → (t : Thing) (o : Option BarcodeRow) → P.barcodes t ≡ o
      → Some (barcode_cells row) ≡ option_map barcode_cells o → P.barcodes row.thing ≡ Some row
  own row good t None there e = absurd (let never : ⊥ = cc in never)
  own row good t (Some r) there e =
      let same_cells : barcode_cells row ≡ barcode_cells r = cc in
      let mine = legal.barcodes t r there in
      let same : row ≡ r = barcode_told row r good mine.1 same_cells in
      ap P.barcodes (ap (λ (x : BarcodeRow). x.thing) same ∙ mine.0) ∙ there ∙ ap Some (sym same)

  found_shown : (barcode : List ℕ) (row : Option BarcodeRow) → IfSome row IsBarcode
      → FirstOfBy PairBelow (maps shape.barcodes_place) (Has barcode) (map barcode_cells (option_to_list row)) → IsFoundBy barcode P row
  found_shown barcode None good none = λ t r there same.
      none (thing_key t) (barcode_cells r) (is.barcodes.there t tt ∙ ap (option_map barcode_cells) there) (if_has barcode r same)
  found_shown barcode (Some row) good found =
      let key = is.barcodes.only found.0.0 (barcode_cells row) found.0.1 in (
        own row good key.0 (P.barcodes key.0) refl (sym found.0.1 ∙ ap (maps shape.barcodes_place) key.2 ∙ is.barcodes.there key.0 key.1),
        has_if barcode row found.1,
      )

shown_by : (barcode : List ℕ) (a b : State) (r : Result (Option BarcodeRow) Fault)
    → IfOk r (λ row. (maps : Maps) → Holds shape.schema a.now maps
    → FirstOfBy PairBelow (maps shape.barcodes_place) (Has barcode) (map barcode_cells (option_to_list row)) × IsUnchanged a b)
    → IfOk r (λ row. IfSome row IsBarcode)
    → IfOk r (λ row. (P : Picture) → HasPicture a.now P → InLimits P → IsFoundBy barcode P row)
shown_by barcode a b (Ok row) found good = λ P shown legal. found_shown shown.maps P shown.encodes legal barcode row good (found shown.maps shown.holds).0
shown_by barcode a b (Err e) found good = tt

pub find_seen : {S : Type 0} {g : Ghosts S} {barcode : List ℕ} {r : Result (Option BarcodeRow) Fault} {a b : Held S}
    → Selects barcodes (λ maps. FirstOfBy PairBelow (maps shape.barcodes_place) (Has barcode)) g a b r → Views (IsFoundBy barcode) g a b r
find_seen {g = g} {barcode = barcode} {r = r} {a = a} {b = b} is =
    record { read = is.read; shown = λ clean. shown_by barcode (state g a) (state g b) r (is.first clean) is.limits }
