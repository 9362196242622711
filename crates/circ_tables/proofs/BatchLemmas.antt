-- What the batches find.
use Rattle.std.proofs.Common.{◌≡◌, ℕ, Some, pos, List, [], ◌∷◌, false, refl, sym, subst}
use Rattle.sqlite.specs.declared.types.Value.TheVariants.{Int, Text}
use Rattle.sqlite_value.specs.declared.keys.Collation.TheVariants.{Binary}
use Rattle.sqlite.specs.Order.{Row, column}
use Rattle.sqlite.specs.Schema.{Schema}
use Rattle.sqlite.specs.Term.{Term, lit, col, op2}
use Rattle.sqlite_sql.specs.declared.ops.BinaryOp.TheVariants.{Compare}
use Rattle.sqlite_sql.specs.declared.ops.CompareOp.TheVariants.{Eq, Gt}
use Rattle.sqlite.specs.Listing.{understood, reads_listing}
use Rattle.sqlite.specs.Given.{IsPlain}
use Rattle.sqlite.specs.State.{State, Shown, IsUnchanged}
use Rattle.sqlite.specs.Command.TheVariants.{Select}
use Rattle.sqlite.proofs.Callers.{command_of}
use Rattle.sqlite_tied.specs.Compute.{everything}
use Rattle.sqlite_tied.specs.Listing.{each_column}
use Rattle.sql_maps.specs.Maps.{Map, Maps, Holds, PairBelow}
use Rattle.sql_maps.specs.Batches.{FirstRows, FirstRowsBy}
use Rattle.sqlite_rules.specs.Lists.{Has}
use Rattle.sql_maps.proofs.OrderLemmas.{batch_sorted}
use Rattle.sql_maps.proofs.Words.{in_order_up_to}
use Rattle.circ_tables.specs.Paired.{by_pair}
use Rattle.circ_tables.specs.Shape.{schema, closed_days, closed_days_place, rules, rules_place, kept, kept_place, barcodes, barcodes_place}
use Rattle.circ_tables.specs.Texts.{names_of}
use Rattle.circ_tables.specs.Selections.{is_after, is_any, is_kept_after, is_second_after}
use Rattle.circ_tables.specs.declared.by_number.TheConstants.{BATCH_ROWS}
use Rattle.circ_tables.specs.declared.kept.TheConstants.{FIRST_KEPT_TEXT, KEPT_AFTER_TEXT, KEPT_PAST_TEXT}
use Rattle.circ_tables.specs.declared.barcodes.TheConstants.{FIRST_BARCODES_TEXT, BARCODES_AFTER_TEXT, BARCODES_PAST_TEXT}
use Rattle.circ_tables.specs.declared.closed_days.TheConstants.{CLOSED_DAYS_AFTER_TEXT}
use Rattle.circ_tables.specs.declared.rules.TheConstants.{RULES_AFTER_TEXT}
use Rattle.circ_tables.proofs.ListLemmas.{pair_tells, pair_below}

-- a row of a batch is one of the map
pub there : (most : ℕ) (m : Map) (good : Row → _) (rows : List Row) → FirstRows most m good rows → (v : Row) → Has rows v → (k : Row) × (m k ≡ Some v)
there most m good rows first v has = let at = first.sound v has in (at.0, at.1)

-- ---- tables that are keyed by two columns

-- a row of such a batch is one of the map
pub pairs_there : (good : Row → _) (m : Map) (rows : List Row) → FirstRowsBy PairBelow BATCH_ROWS m good rows → (v : Row) → Has rows v
    → (k : Row) × (m k ≡ Some v)
pairs_there good m rows first v has = let at = first.sound v has in (at.0, at.1)

-- ---- what is kept, by callers and keys

abbrev first_kept_text : List ℕ
first_kept_text = FIRST_KEPT_TEXT.now

abbrev first_kept_tests : List Term
first_kept_tests = []

first_kept_is : (command_of (understood schema first_kept_text) ≡ Select
    (record { lets = []; body = in_order_up_to kept.tree first_kept_tests (each_column 1 kept) by_pair (lit (Int (pos BATCH_ROWS))) })
    (names_of kept)) × IsPlain (understood schema first_kept_text) × (reads_listing schema first_kept_text ≡ false)
unfolding understood everything
first_kept_is = (refl, (refl, refl), refl)

pub first_kept_plain : (s : Schema) → s ≡ schema → IsPlain (understood s first_kept_text)
first_kept_plain s e = subst (λ z. IsPlain (understood z first_kept_text)) (sym e) first_kept_is.1

pub first_kept_found : (old new : State) (rows : List Row) → Shown first_kept_text ([]) old new rows → (maps : Maps)
    → Holds schema old.now maps → FirstRowsBy PairBelow BATCH_ROWS (maps kept_place) is_any rows × IsUnchanged old new
first_kept_found =
    batch_sorted kept first_kept_tests by_pair ([]) is_any (λ r. refl) (λ r. refl) PairBelow BATCH_ROWS
    (λ x y p q _ _ tie. pair_tells (column x 1) (column x 2) (column y 1) (column y 2) p q tie)
    (λ x y less. pair_below (column x 1) (column x 2) (column y 1) (column y 2) less) (λ l. refl) schema kept_place
    (names_of kept) first_kept_text refl first_kept_is.0 first_kept_is.1 first_kept_is.2

abbrev kept_after_text : List ℕ
kept_after_text = KEPT_AFTER_TEXT.now

abbrev kept_after_tests : List Term
kept_after_tests = op2 (Compare Eq Binary) (col 1 1) (col 0 0) ∷ op2 (Compare Gt Binary) (col 1 2) (col 0 1) ∷ []

kept_after_is : (command_of (understood schema kept_after_text) ≡ Select
    (record { lets = []; body = in_order_up_to kept.tree kept_after_tests (each_column 1 kept) by_pair (lit (Int (pos BATCH_ROWS))) })
    (names_of kept)) × IsPlain (understood schema kept_after_text) × (reads_listing schema kept_after_text ≡ false)
unfolding understood everything
kept_after_is = (refl, (refl, refl), refl)

pub kept_after_plain : (s : Schema) → s ≡ schema → IsPlain (understood s kept_after_text)
kept_after_plain s e = subst (λ z. IsPlain (understood z kept_after_text)) (sym e) kept_after_is.1

pub kept_after_found : (a : ℕ) (b : List ℕ) → (old new : State) (rows : List Row)
    → Shown kept_after_text (Int (pos a) ∷ Text b ∷ []) old new rows → (maps : Maps) → Holds schema old.now maps
    → FirstRowsBy PairBelow BATCH_ROWS (maps kept_place) (is_kept_after a b) rows × IsUnchanged old new
kept_after_found a b =
    batch_sorted kept kept_after_tests by_pair (Int (pos a) ∷ Text b ∷ []) (is_kept_after a b) (λ r. refl) (λ r. refl) PairBelow BATCH_ROWS
    (λ x y p q _ _ tie. pair_tells (column x 1) (column x 2) (column y 1) (column y 2) p q tie)
    (λ x y less. pair_below (column x 1) (column x 2) (column y 1) (column y 2) less) (λ l. refl) schema kept_place
    (names_of kept) kept_after_text refl kept_after_is.0 kept_after_is.1 kept_after_is.2

abbrev kept_past_text : List ℕ
kept_past_text = KEPT_PAST_TEXT.now

abbrev kept_past_tests : List Term
kept_past_tests = op2 (Compare Gt Binary) (col 1 1) (col 0 0) ∷ []

kept_past_is : (command_of (understood schema kept_past_text) ≡ Select
    (record { lets = []; body = in_order_up_to kept.tree kept_past_tests (each_column 1 kept) by_pair (lit (Int (pos BATCH_ROWS))) })
    (names_of kept)) × IsPlain (understood schema kept_past_text) × (reads_listing schema kept_past_text ≡ false)
unfolding understood everything
kept_past_is = (refl, (refl, refl), refl)

pub kept_past_plain : (s : Schema) → s ≡ schema → IsPlain (understood s kept_past_text)
kept_past_plain s e = subst (λ z. IsPlain (understood z kept_past_text)) (sym e) kept_past_is.1

pub kept_past_found : (a : ℕ) → (old new : State) (rows : List Row) → Shown kept_past_text (Int (pos a) ∷ []) old new rows → (maps : Maps)
    → Holds schema old.now maps → FirstRowsBy PairBelow BATCH_ROWS (maps kept_place) (is_after a) rows × IsUnchanged old new
kept_past_found a =
    batch_sorted kept kept_past_tests by_pair (Int (pos a) ∷ []) (is_after a) (λ r. refl) (λ r. refl) PairBelow BATCH_ROWS
    (λ x y p q _ _ tie. pair_tells (column x 1) (column x 2) (column y 1) (column y 2) p q tie)
    (λ x y less. pair_below (column x 1) (column x 2) (column y 1) (column y 2) less) (λ l. refl) schema kept_place
    (names_of kept) kept_past_text refl kept_past_is.0 kept_past_is.1 kept_past_is.2

-- ---- closed days of a branch, and rules of a kind

abbrev second_after_tests : List Term
second_after_tests = op2 (Compare Eq Binary) (col 1 1) (col 0 0) ∷ op2 (Compare Gt Binary) (col 1 2) (col 0 1) ∷ []

abbrev closed_days_after_text : List ℕ
closed_days_after_text = CLOSED_DAYS_AFTER_TEXT.now

closed_days_after_is : (command_of (understood schema closed_days_after_text) ≡ Select
    (record { lets = []; body = in_order_up_to closed_days.tree second_after_tests (each_column 1 closed_days) by_pair (lit (Int (pos BATCH_ROWS))) })
    (names_of closed_days)) × IsPlain (understood schema closed_days_after_text) × (reads_listing schema closed_days_after_text ≡ false)
unfolding understood everything
closed_days_after_is = (refl, (refl, refl), refl)

pub closed_days_after_plain : (s : Schema) → s ≡ schema → IsPlain (understood s closed_days_after_text)
closed_days_after_plain s e = subst (λ z. IsPlain (understood z closed_days_after_text)) (sym e) closed_days_after_is.1

pub closed_days_after_found : (a b : ℕ) → (old new : State) (rows : List Row) → Shown closed_days_after_text (Int (pos a) ∷ Int (pos b) ∷ []) old new rows
    → (maps : Maps) → Holds schema old.now maps
    → FirstRowsBy PairBelow BATCH_ROWS (maps closed_days_place) (is_second_after a b) rows × IsUnchanged old new
closed_days_after_found a b =
    batch_sorted closed_days second_after_tests by_pair (Int (pos a) ∷ Int (pos b) ∷ []) (is_second_after a b) (λ r. refl) (λ r. refl) PairBelow BATCH_ROWS
    (λ x y p q _ _ tie. pair_tells (column x 1) (column x 2) (column y 1) (column y 2) p q tie)
    (λ x y less. pair_below (column x 1) (column x 2) (column y 1) (column y 2) less) (λ l. refl) schema closed_days_place
    (names_of closed_days) closed_days_after_text refl closed_days_after_is.0 closed_days_after_is.1 closed_days_after_is.2

abbrev rules_after_text : List ℕ
rules_after_text = RULES_AFTER_TEXT.now

rules_after_is : (command_of (understood schema rules_after_text) ≡ Select
    (record { lets = []; body = in_order_up_to rules.tree second_after_tests (each_column 1 rules) by_pair (lit (Int (pos BATCH_ROWS))) })
    (names_of rules)) × IsPlain (understood schema rules_after_text) × (reads_listing schema rules_after_text ≡ false)
unfolding understood everything
rules_after_is = (refl, (refl, refl), refl)

pub rules_after_plain : (s : Schema) → s ≡ schema → IsPlain (understood s rules_after_text)
rules_after_plain s e = subst (λ z. IsPlain (understood z rules_after_text)) (sym e) rules_after_is.1

pub rules_after_found : (a b : ℕ) → (old new : State) (rows : List Row) → Shown rules_after_text (Int (pos a) ∷ Int (pos b) ∷ []) old new rows
    → (maps : Maps) → Holds schema old.now maps
    → FirstRowsBy PairBelow BATCH_ROWS (maps rules_place) (is_second_after a b) rows × IsUnchanged old new
rules_after_found a b =
    batch_sorted rules second_after_tests by_pair (Int (pos a) ∷ Int (pos b) ∷ []) (is_second_after a b) (λ r. refl) (λ r. refl) PairBelow BATCH_ROWS
    (λ x y p q _ _ tie. pair_tells (column x 1) (column x 2) (column y 1) (column y 2) p q tie)
    (λ x y less. pair_below (column x 1) (column x 2) (column y 1) (column y 2) less) (λ l. refl) schema rules_place
    (names_of rules) rules_after_text refl rules_after_is.0 rules_after_is.1 rules_after_is.2

-- ---- barcodes, by sorts and numbers

abbrev first_barcodes_text : List ℕ
first_barcodes_text = FIRST_BARCODES_TEXT.now

first_barcodes_is : (command_of (understood schema first_barcodes_text) ≡ Select
    (record { lets = []; body = in_order_up_to barcodes.tree first_kept_tests (each_column 1 barcodes) by_pair (lit (Int (pos BATCH_ROWS))) })
    (names_of barcodes)) × IsPlain (understood schema first_barcodes_text) × (reads_listing schema first_barcodes_text ≡ false)
unfolding understood everything
first_barcodes_is = (refl, (refl, refl), refl)

pub first_barcodes_plain : (s : Schema) → s ≡ schema → IsPlain (understood s first_barcodes_text)
first_barcodes_plain s e = subst (λ z. IsPlain (understood z first_barcodes_text)) (sym e) first_barcodes_is.1

pub first_barcodes_found : (old new : State) (rows : List Row) → Shown first_barcodes_text ([]) old new rows
    → (maps : Maps) → Holds schema old.now maps
    → FirstRowsBy PairBelow BATCH_ROWS (maps barcodes_place) is_any rows × IsUnchanged old new
first_barcodes_found =
    batch_sorted barcodes first_kept_tests by_pair ([]) is_any (λ r. refl) (λ r. refl) PairBelow BATCH_ROWS
    (λ x y p q _ _ tie. pair_tells (column x 1) (column x 2) (column y 1) (column y 2) p q tie)
    (λ x y less. pair_below (column x 1) (column x 2) (column y 1) (column y 2) less) (λ l. refl) schema barcodes_place
    (names_of barcodes) first_barcodes_text refl first_barcodes_is.0 first_barcodes_is.1 first_barcodes_is.2

abbrev barcodes_after_text : List ℕ
barcodes_after_text = BARCODES_AFTER_TEXT.now

barcodes_after_is : (command_of (understood schema barcodes_after_text) ≡ Select
    (record { lets = []; body = in_order_up_to barcodes.tree second_after_tests (each_column 1 barcodes) by_pair (lit (Int (pos BATCH_ROWS))) })
    (names_of barcodes)) × IsPlain (understood schema barcodes_after_text) × (reads_listing schema barcodes_after_text ≡ false)
unfolding understood everything
barcodes_after_is = (refl, (refl, refl), refl)

pub barcodes_after_plain : (s : Schema) → s ≡ schema → IsPlain (understood s barcodes_after_text)
barcodes_after_plain s e = subst (λ z. IsPlain (understood z barcodes_after_text)) (sym e) barcodes_after_is.1

pub barcodes_after_found : (a b : ℕ) → (old new : State) (rows : List Row) → Shown barcodes_after_text (Int (pos a) ∷ Int (pos b) ∷ []) old new rows
    → (maps : Maps) → Holds schema old.now maps
    → FirstRowsBy PairBelow BATCH_ROWS (maps barcodes_place) (is_second_after a b) rows × IsUnchanged old new
barcodes_after_found a b =
    batch_sorted barcodes second_after_tests by_pair (Int (pos a) ∷ Int (pos b) ∷ []) (is_second_after a b) (λ r. refl) (λ r. refl) PairBelow BATCH_ROWS
    (λ x y p q _ _ tie. pair_tells (column x 1) (column x 2) (column y 1) (column y 2) p q tie)
    (λ x y less. pair_below (column x 1) (column x 2) (column y 1) (column y 2) less) (λ l. refl) schema barcodes_place
    (names_of barcodes) barcodes_after_text refl barcodes_after_is.0 barcodes_after_is.1 barcodes_after_is.2

abbrev barcodes_past_text : List ℕ
barcodes_past_text = BARCODES_PAST_TEXT.now

barcodes_past_is : (command_of (understood schema barcodes_past_text) ≡ Select
    (record { lets = []; body = in_order_up_to barcodes.tree kept_past_tests (each_column 1 barcodes) by_pair (lit (Int (pos BATCH_ROWS))) })
    (names_of barcodes)) × IsPlain (understood schema barcodes_past_text) × (reads_listing schema barcodes_past_text ≡ false)
unfolding understood everything
barcodes_past_is = (refl, (refl, refl), refl)

pub barcodes_past_plain : (s : Schema) → s ≡ schema → IsPlain (understood s barcodes_past_text)
barcodes_past_plain s e = subst (λ z. IsPlain (understood z barcodes_past_text)) (sym e) barcodes_past_is.1

pub barcodes_past_found : (a : ℕ) → (old new : State) (rows : List Row) → Shown barcodes_past_text (Int (pos a) ∷ []) old new rows
    → (maps : Maps) → Holds schema old.now maps
    → FirstRowsBy PairBelow BATCH_ROWS (maps barcodes_place) (is_after a) rows × IsUnchanged old new
barcodes_past_found a =
    batch_sorted barcodes kept_past_tests by_pair (Int (pos a) ∷ []) (is_after a) (λ r. refl) (λ r. refl) PairBelow BATCH_ROWS
    (λ x y p q _ _ tie. pair_tells (column x 1) (column x 2) (column y 1) (column y 2) p q tie)
    (λ x y less. pair_below (column x 1) (column x 2) (column y 1) (column y 2) less) (λ l. refl) schema barcodes_place
    (names_of barcodes) barcodes_past_text refl barcodes_past_is.0 barcodes_past_is.1 barcodes_past_is.2
