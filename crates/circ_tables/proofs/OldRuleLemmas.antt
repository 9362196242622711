-- What the first batch of the rules of schema 1 finds.
use Rattle.std.proofs.Common.{◌≡◌, ℕ, pos, List, [], false, refl, sym, subst}
use Rattle.sqlite.specs.declared.types.Value.TheVariants.{Int}
use Rattle.sqlite.specs.Order.{Row, column}
use Rattle.sqlite.specs.Schema.{Schema}
use Rattle.sqlite.specs.Term.{Term, lit}
use Rattle.sqlite.specs.Listing.{understood, reads_listing}
use Rattle.sqlite.specs.Given.{IsPlain}
use Rattle.sqlite.specs.State.{State, Shown, IsUnchanged}
use Rattle.sqlite.specs.Command.TheVariants.{Select}
use Rattle.sqlite.proofs.Callers.{command_of}
use Rattle.sqlite_tied.specs.Compute.{everything}
use Rattle.sqlite_tied.specs.Listing.{each_column}
use Rattle.sql_maps.specs.Maps.{Maps, Holds, PairBelow}
use Rattle.sql_maps.specs.Batches.{FirstRowsBy}
use Rattle.sql_maps.proofs.OrderLemmas.{batch_sorted}
use Rattle.sql_maps.proofs.Words.{in_order_up_to}
use Rattle.circ_tables.specs.Paired.{by_pair}
use Rattle.circ_tables.specs.Shape.{schema, rules1, rules1_place}
use Rattle.circ_tables.specs.Texts.{names_of}
use Rattle.circ_tables.specs.Selections.{is_any}
use Rattle.circ_tables.specs.declared.by_number.TheConstants.{BATCH_ROWS}
use Rattle.circ_tables.specs.declared.rules_of_schema_1.TheConstants.{FIRST_OLD_RULES_TEXT}
use Rattle.circ_tables.proofs.ListLemmas.{pair_tells, pair_below}

abbrev first_old_rules_text : List ℕ
first_old_rules_text = FIRST_OLD_RULES_TEXT.now

abbrev first_old_rules_tests : List Term
first_old_rules_tests = []

first_old_rules_is : (command_of (understood schema first_old_rules_text) ≡ Select
    (record { lets = []; body = in_order_up_to rules1.tree first_old_rules_tests (each_column 1 rules1) by_pair (lit (Int (pos BATCH_ROWS))) })
    (names_of rules1)) × IsPlain (understood schema first_old_rules_text) × (reads_listing schema first_old_rules_text ≡ false)
unfolding understood everything
first_old_rules_is = (refl, (refl, refl), refl)

pub first_old_rules_plain : (s : Schema) → s ≡ schema → IsPlain (understood s first_old_rules_text)
first_old_rules_plain s e = subst (λ z. IsPlain (understood z first_old_rules_text)) (sym e) first_old_rules_is.1

pub first_old_rules_found : (old new : State) (rows : List Row) → Shown first_old_rules_text ([]) old new rows → (maps : Maps)
    → Holds schema old.now maps → FirstRowsBy PairBelow BATCH_ROWS (maps rules1_place) is_any rows × IsUnchanged old new
first_old_rules_found =
    batch_sorted rules1 first_old_rules_tests by_pair ([]) is_any (λ r. refl) (λ r. refl) PairBelow BATCH_ROWS
    (λ x y p q _ _ tie. pair_tells (column x 1) (column x 2) (column y 1) (column y 2) p q tie)
    (λ x y less. pair_below (column x 1) (column x 2) (column y 1) (column y 2) less) (λ l. refl) schema rules1_place
    (names_of rules1) first_old_rules_text refl first_old_rules_is.0 first_old_rules_is.1 first_old_rules_is.2
