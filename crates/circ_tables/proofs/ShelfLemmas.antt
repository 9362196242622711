-- The shelf of a branch: the copies of a title with their home there that are present and claimed by no
-- transit, hold or open loan.
use Rattle.std.proofs.Common.{◌≡◌, ◌&&◌, not, ℕ, pos, Bool, true, false, List, [], ◌∷◌, map, take, filter, Option, refl}
use Rattle.std.proofs.Common.{sym, ap, subst, ◌∙◌, true≢false}
use Rattle.std.specs.List.{list_all, list_any}
use Rattle.std.specs.Option.{option_to_list}
use Rattle.std.proofs.lemmas.Bool.{and_parts, and_from, false_from_ne_true}
use Rattle.sqlite_schema.specs.Rules.{equal}
use Rattle.sqlite.specs.declared.types.Value.TheVariants.{Int, Null}
use Rattle.sqlite_value.specs.declared.keys.Collation.TheVariants.{Binary}
use Rattle.sqlite.specs.Order.{Row, column}
use Rattle.sqlite.specs.Schema.{Schema}
use Rattle.sqlite.specs.Table.{Table}
use Rattle.sqlite.specs.Effect.{Database}
use Rattle.sqlite.specs.Term.{Term, lit, col, op1, op2, holds}
use Rattle.sqlite_sql.specs.declared.ops.BinaryOp.TheVariants.{Compare, Is}
use Rattle.sqlite_sql.specs.declared.ops.CompareOp.TheVariants.{Eq}
use Rattle.sqlite_sql.specs.declared.ops.UnaryOp.TheVariants.{Not}
use Rattle.sqlite.specs.Query.{Query, Join, inner, counted, end}
use Rattle.sqlite.specs.Program.{IsProgramAnswer}
use Rattle.sqlite.specs.Tree.{Trees}
use Rattle.sqlite.specs.Listing.{understood, reads_listing}
use Rattle.sqlite.specs.Given.{IsPlain}
use Rattle.sqlite.specs.State.{State, IsUnchanged}
use Rattle.sqlite.proofs.Callers.{command_of}
use Rattle.sqlite_tied.specs.Compute.{everything}
use Rattle.sqlite_tied.specs.Listing.{each_column}
use Rattle.sqlite_rules.proofs.ListLemmas.{some_has, some_from}
use Rattle.sql_maps.specs.Maps.{Map, Maps, Holds, IsMap, FirstOf, FirstBelow, cells, key_at}
use Rattle.sql_maps.specs.Calls.{FindsRow}
use Rattle.sql_maps.proofs.AnswerLemmas.{matched}
use Rattle.sql_maps.proofs.RowsLemmas.{not_true, not_false}
use Rattle.sql_maps.proofs.SelectLemmas.{first_is, first_of}
use Rattle.sql_maps.proofs.FromLemmas.{from_in_order, ordered_by}
use Rattle.circ_tables.specs.Shape as shape
use Rattle.circ_tables.specs.Selections.{HasNone, StandsFree, moves_copy, keeps_copy, lends_copy}
use Rattle.circ_tables.specs.declared.copies.TheConstants.{LEAST_SHELVED_TEXT}
use Rattle.circ_tables.proofs.LineLemmas.{asks, count_of, none_counted_beside, found_first}

abbrev shelf_text : List ℕ
shelf_text = LEAST_SHELVED_TEXT.now

abbrev shelf_tests : List Term
shelf_tests =
    op2 (Compare Eq Binary) (col 1 2) (col 0 0) ∷ op2 (Compare Eq Binary) (col 1 4) (col 0 1) ∷ op2 (Compare Eq Binary) (col 1 6) (lit (Int (pos 0)))
    ∷ op1 Not (col 2 0) ∷ op1 Not (col 3 0) ∷ op1 Not (col 4 0) ∷ []

-- the three that are counted, each in the slot after the counts before it
abbrev transit_tests : List Term
transit_tests = op2 (Compare Eq Binary) (col 2 0) (col 1 0) ∷ []

abbrev hold_tests : List Term
hold_tests = op2 (Compare Eq Binary) (col 3 6) (col 1 0) ∷ []

abbrev loan_tests : List Term
loan_tests = op2 (Compare Eq Binary) (col 4 2) (col 1 0) ∷ op2 (Is Binary) (col 4 11) (lit Null) ∷ []

abbrev shelf_from : Join
shelf_from = inner shape.copies.tree
    (counted 1 (inner shape.transits.tree end) transit_tests
    (counted 1 (inner shape.holds.tree end) hold_tests (counted 1 (inner shape.loans.tree end) loan_tests end)))

abbrev shelf_query : Query
shelf_query = from_in_order shelf_from shelf_tests (each_column 1 shape.copies) (lit (Int (pos 1)))

shelf_is : (command_of (understood shape.schema shelf_text) ≡ asks shape.copies shelf_query) × IsPlain (understood shape.schema shelf_text)
    × (reads_listing shape.schema shelf_text ≡ false)
unfolding understood everything
shelf_is = (refl, (refl, refl), refl)

pub shelf_plain : (s : Schema) → s ≡ shape.schema → IsPlain (understood s shelf_text)
shelf_plain s e = subst (λ z. IsPlain (understood z shelf_text)) (sym e) shelf_is.1

-- ---- which rows pass

-- the slots of a copy: the parameters, its row, and whether a transit, a hold and an open loan claims it
module _ (db : Trees) (given r : Row) where
  abbrev moved : Row
  moved = count_of db shape.transits.tree transit_tests (given ∷ r ∷ [])

  abbrev kept : Row
  kept = count_of db shape.holds.tree hold_tests (given ∷ r ∷ moved ∷ [])

  abbrev lent : Row
  lent = count_of db shape.loans.tree loan_tests (given ∷ r ∷ moved ∷ kept ∷ [])

  abbrev shelf_env : List Row
  shelf_env = given ∷ r ∷ moved ∷ kept ∷ lent ∷ []

  abbrev passes_shelf : Bool
  passes_shelf = list_all (holds shelf_env) shelf_tests

-- no stored row passes
abbrev none_of : Table → Trees → (Row → Bool) → Bool
none_of table db good = not (list_any (λ s. good (cells table s)) (db table.tree))

abbrev stands_in : Trees → ℕ → ℕ → Row → Bool
stands_in db title branch v = equal Binary (column v 1) (Int (pos title))
    && (equal Binary (column v 3) (Int (pos branch)) && (equal Binary (column v 5) (Int (pos 0))
    && (none_of shape.transits db (moves_copy v) && (none_of shape.holds db (keeps_copy v) && (none_of shape.loans db (lends_copy v) && true)))))

shelf_passes : (db : Trees) (title branch : ℕ) (r : Row)
    → passes_shelf db (Int (pos title) ∷ Int (pos branch) ∷ []) r ≡ stands_in db title branch (cells shape.copies r)
shelf_passes db title branch r i =
    let given : Row = Int (pos title) ∷ Int (pos branch) ∷ [] in
    let still = none_counted_beside db shape.transits.tree transit_tests (given ∷ r ∷ []) in
    let unnamed = none_counted_beside db shape.holds.tree hold_tests (given ∷ r ∷ moved db given r ∷ []) in
    let unlent = none_counted_beside db shape.loans.tree loan_tests (given ∷ r ∷ moved db given r ∷ kept db given r ∷ []) in
    equal Binary (column r 2) (Int (pos title)) && (equal Binary (column r 4) (Int (pos branch))
    && (equal Binary (column r 6) (Int (pos 0)) && (still i && (unnamed i && (unlent i && true)))))

-- that no stored row passes, and that none of the map does
module _ (table : Table) (db : Trees) (m : Map) (is : IsMap table (db table.tree) m) (good : Row → Bool) where
  none_from : none_of table db good ≡ true → HasNone m good
  none_from none j w e = false_from_ne_true _ (λ passes.
      let s = is.whole j w e in
      let some = some_from (λ x. good (cells table x)) (db table.tree) s.0 s.1 (ap good s.3 ∙ passes) in
      true≢false (sym some ∙ not_true _ none))

  from_none : HasNone m good → none_of table db good ≡ true
  from_none none = not_false _ (false_from_ne_true _ (λ any.
      let s = some_has (λ x. good (cells table x)) (db table.tree) any in
      true≢false (sym s.2 ∙ none (key_at table s.0) (cells table s.0) (is.sound s.0 s.1))))

module _ (db : Database) (maps : Maps) (held : Holds shape.schema db maps) (title branch : ℕ) where
  abbrev Free : Row → Type 0
  Free = StandsFree (maps shape.transits_place) (maps shape.holds_place) (maps shape.loans_place) title branch

  abbrev transits_is : IsMap shape.transits (db.trees shape.transits.tree) (maps shape.transits_place)
  transits_is = held.tables shape.transits_place shape.transits refl

  abbrev holds_is : IsMap shape.holds (db.trees shape.holds.tree) (maps shape.holds_place)
  holds_is = held.tables shape.holds_place shape.holds refl

  abbrev loans_is : IsMap shape.loans (db.trees shape.loans.tree) (maps shape.loans_place)
  loans_is = held.tables shape.loans_place shape.loans refl

  module _ (v : Row) where
    abbrev of_title : Bool
    of_title = equal Binary (column v 1) (Int (pos title))

    abbrev at_home : Bool
    at_home = equal Binary (column v 3) (Int (pos branch))

    abbrev present : Bool
    present = equal Binary (column v 5) (Int (pos 0))

    abbrev unmoved : Bool
    unmoved = none_of shape.transits db.trees (moves_copy v)

    abbrev unkept : Bool
    unkept = none_of shape.holds db.trees (keeps_copy v)

    abbrev unlent : Bool
    unlent = none_of shape.loans db.trees (lends_copy v)

    stands_from : stands_in db.trees title branch v ≡ true → Free v
    stands_from h =
        let one = and_parts of_title (at_home && (present && (unmoved && (unkept && (unlent && true))))) h in
        let two = and_parts at_home (present && (unmoved && (unkept && (unlent && true)))) one.1 in
        let three = and_parts present (unmoved && (unkept && (unlent && true))) two.1 in
        let four = and_parts unmoved (unkept && (unlent && true)) three.1 in
        let five = and_parts unkept (unlent && true) four.1 in
        let six = and_parts unlent true five.1 in (
          and_from of_title (at_home && (present && true)) one.0 (and_from at_home (present && true) two.0 (and_from present true three.0 refl)),
          none_from shape.transits db.trees (maps shape.transits_place) transits_is (moves_copy v) four.0,
          none_from shape.holds db.trees (maps shape.holds_place) holds_is (keeps_copy v) five.0,
          none_from shape.loans db.trees (maps shape.loans_place) loans_is (lends_copy v) six.0,
        )

    from_stands : Free v → stands_in db.trees title branch v ≡ true
    from_stands h =
        let one = and_parts of_title (at_home && (present && true)) h.0 in
        let two = and_parts at_home (present && true) one.1 in
        let three = and_parts present true two.1 in
        let four = from_none shape.transits db.trees (maps shape.transits_place) transits_is (moves_copy v) h.1 in
        let five = from_none shape.holds db.trees (maps shape.holds_place) holds_is (keeps_copy v) h.2 in
        let six = from_none shape.loans db.trees (maps shape.loans_place) loans_is (lends_copy v) h.3 in
        and_from of_title (at_home && (present && (unmoved && (unkept && (unlent && true))))) one.0
        (and_from at_home (present && (unmoved && (unkept && (unlent && true)))) two.0
        (and_from present (unmoved && (unkept && (unlent && true))) three.0
        (and_from unmoved (unkept && (unlent && true)) four (and_from unkept (unlent && true) five (and_from unlent true six refl)))))

  shelf_out : (out : List Row) → IsProgramAnswer [] shelf_query db.trees (Int (pos title) ∷ Int (pos branch) ∷ []) out
      → FirstOf (maps shape.copies_place) Free out
  shelf_out out h =
      let given : Row = Int (pos title) ∷ Int (pos branch) ∷ [] in
      let p : Row → Bool = passes_shelf db.trees given in
      let rows = db.trees shape.copies.tree in
      let copies_is : IsMap shape.copies rows (maps shape.copies_place) = held.tables shape.copies_place shape.copies refl in
      let taken : out ≡ take 1 (map (cells shape.copies) (filter p rows)) =
      ordered_by shelf_from shelf_tests (each_column 1 shape.copies) (lit (Int (pos 1))) db.trees given (shelf_env db.trees given) p rows
      (matched p (shelf_env db.trees given) rows) (λ r. refl) copies_is.shaped.0 out h in
      first_of (maps shape.copies_place) (stands_in db.trees title branch) Free stands_from from_stands out
      (first_is shape.copies rows (maps shape.copies_place) copies_is p (stands_in db.trees title branch) (shelf_passes db.trees title branch)
      (λ r. refl) (λ r. refl) out taken)

pub shelf_found : (title branch : ℕ) (old new : State) (o : Option Row)
    → FindsRow shelf_text (Int (pos title) ∷ Int (pos branch) ∷ []) old new o → (maps : Maps) → Holds shape.schema old.now maps
    → FirstOf (maps shape.copies_place)
    (StandsFree (maps shape.transits_place) (maps shape.holds_place) (maps shape.loans_place) title branch) (option_to_list o) × IsUnchanged old new
shelf_found title branch = found_first shape.copies shape.copies_place shelf_text shelf_query shelf_is (Int (pos title) ∷ Int (pos branch) ∷ []) FirstBelow
    (λ maps. StandsFree (maps shape.transits_place) (maps shape.holds_place) (maps shape.loans_place) title branch)
    (λ db maps held. shelf_out db maps held title branch)
