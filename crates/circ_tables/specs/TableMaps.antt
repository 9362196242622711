-- The maps of all tables as one list, so that one table is changed and no other.
use Rattle.std.specs.Prelude.{ℕ, zero, suc, List, [], ◌∷◌}
use Rattle.sql_maps.specs.Maps.{Map, Maps}
use Rattle.terms.specs.declared.command.Owner.{Owner}
use Rattle.terms.specs.Limits.{IsOwner}
use Rattle.terms.specs.Pictures.{Picture}
use Rattle.circ_tables.specs.Encoding.{IsEncoded, Any, Pair, lone, closed, Encodes, with_map}
use Rattle.circ_tables.specs.Cells.{number_key, pair_key, kept_key, meta_cells, branch_cells, kind_cells, rule_cells, rule1_cells}
use Rattle.circ_tables.specs.Cells.{patron_cells, title_cells, copy_cells, loan_cells, loan1_cells, hold_cells, hold1_cells, transit_cells}
use Rattle.circ_tables.specs.Cells.{line_cells, kept_cells, thing_key, barcode_cells, note_cells}

-- What the picture says of the map of each table, in the order of their places.
abbrev pub all_held : Picture → List (Map → Type 0)
all_held P =
    (λ m. IsEncoded Any number_key meta_cells m (lone P.meta))
    ∷ (λ m. IsEncoded Any number_key branch_cells m P.branches)
    ∷ (λ m. IsEncoded Any (λ (k : Pair). pair_key k.0 k.1) (λ (k : Pair). pair_key k.0 k.1) m (closed P.closed_days))
    ∷ (λ m. IsEncoded Any number_key kind_cells m P.kinds)
    ∷ (λ m. IsEncoded Any (λ (k : Pair). pair_key k.0 k.1) rule1_cells m (λ k. P.rules1 k.0 k.1))
    ∷ (λ m. IsEncoded Any number_key patron_cells m P.patrons)
    ∷ (λ m. IsEncoded Any number_key title_cells m P.titles)
    ∷ (λ m. IsEncoded Any number_key copy_cells m P.copies)
    ∷ (λ m. IsEncoded Any number_key loan1_cells m P.loans1)
    ∷ (λ m. IsEncoded Any number_key hold1_cells m P.holds1)
    ∷ (λ m. IsEncoded Any number_key transit_cells m P.transits)
    ∷ (λ m. IsEncoded Any number_key line_cells m P.lines)
    ∷ (λ m. IsEncoded (λ (k : Owner × List ℕ). IsOwner k.0) (λ k. kept_key k.0 k.1) kept_cells m (λ k. P.kept k.0 k.1))
    ∷ (λ m. IsEncoded Any number_key hold_cells m P.holds)
    ∷ (λ m. IsEncoded Any (λ (k : Pair). pair_key k.0 k.1) rule_cells m (λ k. P.rules k.0 k.1))
    ∷ (λ m. IsEncoded Any number_key loan_cells m P.loans)
    ∷ (λ m. IsEncoded Any thing_key barcode_cells m P.barcodes)
    ∷ (λ m. IsEncoded Any number_key note_cells m P.notes)
    ∷ []

-- Each map is as the list says.
abbrev pub AllHeld : List (Map → Type 0) → Maps → Type 0
AllHeld [] maps = Unit {0}
AllHeld (h ∷ hs) maps = h (maps 0) × AllHeld hs (λ i. maps (suc i))

abbrev pub with_at : List (Map → Type 0) → ℕ → (Map → Type 0) → List (Map → Type 0)
with_at [] at h = []
with_at (g ∷ hs) zero h = h ∷ hs
with_at (g ∷ hs) (suc at) h = g ∷ with_at hs at h

-- One table is changed, and no other.
pub with_held : (hs : List (Map → Type 0)) (at : ℕ) (h : Map → Type 0) (m : Map) (maps : Maps) → AllHeld hs maps → h m
    → AllHeld (with_at hs at h) (with_map maps at m)
with_held [] at h m maps is it = tt
with_held (g ∷ hs) zero h m maps is it = (it, is.1)
with_held (g ∷ hs) (suc at) h m maps is it = (is.0, with_held hs at h m (λ j. maps (suc j)) is.1 it)

infixr 10 ◌⨾◌
-- one after another
pub ◌⨾◌ : {A B : Type 0} → A → B → A × B
◌⨾◌ a b = (a, b)

pub to_list : (maps : Maps) (P : Picture) → Encodes maps P → AllHeld (all_held P) maps
to_list maps P is = is.meta ⨾ is.branches ⨾ is.closed_days ⨾ is.kinds ⨾ is.rules1 ⨾ is.patrons ⨾ is.titles ⨾ is.copies ⨾ is.loans1
    ⨾ is.holds1 ⨾ is.transits ⨾ is.lines ⨾ is.kept ⨾ is.holds ⨾ is.rules ⨾ is.loans
    ⨾ is.barcodes ⨾ is.notes ⨾ tt

pub from_list : (maps : Maps) (P : Picture) → AllHeld (all_held P) maps → Encodes maps P
from_list maps P is =
    record {
      meta = is.0;
      branches = is.1.0;
      closed_days = is.1.1.0;
      kinds = is.1.1.1.0;
      rules1 = is.1.1.1.1.0;
      patrons = is.1.1.1.1.1.0;
      titles = is.1.1.1.1.1.1.0;
      copies = is.1.1.1.1.1.1.1.0;
      loans1 = is.1.1.1.1.1.1.1.1.0;
      holds1 = is.1.1.1.1.1.1.1.1.1.0;
      transits = is.1.1.1.1.1.1.1.1.1.1.0;
      lines = is.1.1.1.1.1.1.1.1.1.1.1.0;
      kept = is.1.1.1.1.1.1.1.1.1.1.1.1.0;
      holds = is.1.1.1.1.1.1.1.1.1.1.1.1.1.0;
      rules = is.1.1.1.1.1.1.1.1.1.1.1.1.1.1.0;
      loans = is.1.1.1.1.1.1.1.1.1.1.1.1.1.1.1.0;
      barcodes = is.1.1.1.1.1.1.1.1.1.1.1.1.1.1.1.1.0;
      notes = is.1.1.1.1.1.1.1.1.1.1.1.1.1.1.1.1.1.0;
    }
