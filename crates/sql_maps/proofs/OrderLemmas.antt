-- A selection ordered by columns that aren't the rowid.
use Rattle.std.proofs.Common.{inl, inr, ◌≡◌, ℕ, pos, negsuc, take, Bool, true, false, cond, List, [], ◌∷◌, map, filter, flat_map}
use Rattle.std.proofs.Common.{IsPermutation, Some, slice_get, refl, sym, ap, subst, ◌∙◌, true≢false, Ordering, Less, Equal, Greater, is_eq}
use Rattle.std.proofs.Common.{is_gt}
use Rattle.std.specs.List.{AllByRecursion, list_all}
use Rattle.std.specs.Cmp.{IsTotalOrder}
use Rattle.std.specs.Ordering.{ordering_reverse}
use Rattle.std.proofs.lemmas.Bool.{false_from_ne_true}
use Rattle.std.proofs.lemmas.Cmp.{on_total, tied_itself}
use Rattle.sqlite.specs.declared.types.Value.TheVariants.{Null, Int}
use Rattle.sqlite_value.specs.Order.{value_cmp}
use Rattle.sqlite_value.specs.declared.keys.Key.{Key}
use Rattle.sqlite_value.proofs.OrderLemmas.{value_cmp_total}
use Rattle.sqlite.specs.Order.{Row}
use Rattle.sqlite.specs.Table.{Table}
use Rattle.sqlite.specs.Schema.{Schema}
use Rattle.sqlite.specs.Term.{Term, lit, eval_all}
use Rattle.sqlite.specs.Query.{Query, Output, output, output_cmp, page, IsAnswer}
use Rattle.sqlite.specs.Program.{overlay, IsProgramAnswer}
use Rattle.sqlite.specs.Tree.{Trees}
use Rattle.sqlite.specs.Listing.{understood, reads_listing}
use Rattle.sqlite.specs.Command.TheVariants.{Select}
use Rattle.sqlite.specs.Given.{IsPlain}
use Rattle.sqlite.specs.State.{State, Shown, IsUnchanged}
use Rattle.sqlite.proofs.Callers.{command_of, reads_as}
use Rattle.sqlite_trees.specs.Tree.{IsAscending, rowid}
use Rattle.sqlite_sql.proofs.QueryLemmas.{output_cmp_total}
use Rattle.sqlite_keyed.specs.Lists.{insert_sorted, sort_by}
use Rattle.sqlite_keyed.proofs.SortLemmas.{IsPermutation-sort_by, sorted_is-sort_by, sort_by-map}
use Rattle.sqlite_keyed.proofs.ListLemmas.{all_weaker, ascending-map, ascending-filter, ascending_weaker}
use Rattle.sqlite_tied.specs.Listing.{each_column}
use Rattle.sqlite_rules.specs.Lists.{Has}
use Rattle.sqlite_rules.proofs.ListLemmas.{all_has, all_from, has_filtered, has_kept}
use Rattle.sqlite_rules.proofs.ProbeLemmas.{has_mapped, mapped_has}
use Rattle.std.proofs.lemmas.List.Sorted.{IsPermutation-sym}
use Rattle.sql_maps.specs.Maps.{is_plain, key_at, cells, Map, IsMap, Maps, Holds, ListedBy}
use Rattle.sql_maps.specs.Batches.{FirstRowsBy}
use Rattle.sql_maps.proofs.Words.{in_order_of, in_order_up_to}
use Rattle.sql_maps.proofs.BatchLemmas.{first_listed}
use Rattle.sql_maps.proofs.AnswerLemmas.{passes, shown_of, plain_overlay, matched, has_permuted}
use Rattle.sql_maps.proofs.ReadLemmas.{shown_unchanged}

-- ---- a list with no ties rises strictly once it is sorted

module _ {X : Type 0} (cmp : X → X → Ordering) (total : IsTotalOrder cmp) where
  all-insert : (P : X → Type 0) (new : X) (xs : List X) → P new → AllByRecursion P xs → AllByRecursion P (insert_sorted cmp new xs)
  all-insert P new [] h all = (h, tt)
  all-insert P new (x ∷ xs) h all =
      elim (is_gt (cmp new x)) as (λ b. AllByRecursion P (cond b (x ∷ insert_sorted cmp new xs) (new ∷ x ∷ xs)))
      [ true ↦ (all.0, all-insert P new xs h all.1) | false ↦ (h, all) ]

  all-sort : (P : X → Type 0) (xs : List X) → AllByRecursion P xs → AllByRecursion P (sort_by cmp xs)
  all-sort P [] all = tt
  all-sort P (x ∷ xs) all = all-insert P x _ all.0 (all-sort P xs all.1)

  rises-insert : (new : X) (xs : List X) → AllByRecursion (λ y. is_eq (cmp new y) ≡ false) xs → IsAscending (λ a b. cmp a b ≡ Less) xs
      → IsAscending (λ a b. cmp a b ≡ Less) (insert_sorted cmp new xs)
  rises-insert new [] apart up = (tt, tt)
  rises-insert new (x ∷ xs) apart up = go (cmp new x) refl (rises-insert new xs apart.1 up.1)
    where
      go : (o : Ordering) → cmp new x ≡ o → IsAscending (λ a b. cmp a b ≡ Less) (insert_sorted cmp new xs)
          → IsAscending (λ a b. cmp a b ≡ Less) (cond (is_gt o) (x ∷ insert_sorted cmp new xs) (new ∷ x ∷ xs))
      go Less e more = ((e, all_weaker _ (λ y. cmp new y ≡ Less) (λ y. total.trans new x y e) xs up.0), up)
      go Equal e more = absurd (true≢false (sym (ap is_eq e) ∙ apart.0))
      go Greater e more = (all-insert _ new xs (total.antisymm x new ∙ ap ordering_reverse e) up.0, more)

  pub rises-sorted : (xs : List X) → IsAscending (λ a b. is_eq (cmp a b) ≡ false) xs → IsAscending (λ a b. cmp a b ≡ Less) (sort_by cmp xs)
  rises-sorted [] apart = tt
  rises-sorted (x ∷ xs) apart = rises-insert x _ (all-sort _ xs apart.0) (rises-sorted xs apart.1)

pub mapped_twice : {A B C : Type 0} (f : A → B) (g : B → C) (xs : List A) → map g (map f xs) ≡ map (λ x. g (f x)) xs
mapped_twice f g [] = refl
mapped_twice f g (x ∷ xs) = ap (λ l. g (f x) ∷ l) (mapped_twice f g xs)

same_mapped : {A B : Type 0} (f g : A → B) → ((x : A) → f x ≡ g x) → (xs : List A) → map f xs ≡ map g xs
same_mapped f g same [] = refl
same_mapped f g same (x ∷ xs) = λ i. same x i ∷ same_mapped f g same xs i

-- ---- the rows that pass, in the order of ORDER BY

-- of a query that keeps the stored rows that pass, each in the slots that are its own
module _ (table : Table) (q : Query) (env : Row → List Row) (p good : Row → Bool) (reads : (r : Row) → p r ≡ good (cells table r))
    (Before : Row → Row → Type 0) where
  abbrev shown_env : Row → Output
  shown_env r = output q (env r)

  -- how two stored rows compare
  abbrev pub rows_cmp : Row → Row → Ordering
  rows_cmp x y = output_cmp q (shown_env x) (shown_env y)

  module _ (tells : (x y : Row) → list_all is_plain (key_at table x) ≡ true → list_all is_plain (key_at table y) ≡ true → p x ≡ true
      → p y ≡ true → is_eq (rows_cmp x y) ≡ true → key_at table x ≡ key_at table y)
      (before : (x y : Row) → rows_cmp x y ≡ Less → Before (cells table x) (cells table y)) where
    no_ties : (rows : List Row) (m : Map) → IsMap table rows m → (xs : List Row) → ((x : Row) → Has xs x → Has rows x × (p x ≡ true))
        → IsAscending (λ a b. value_cmp (rowid a) (rowid b) ≡ Less) xs → IsAscending (λ a b. is_eq (rows_cmp a b) ≡ false) xs
    no_ties rows m is [] from up = tt
    no_ties rows m is (x ∷ xs) from up =
        let here = from x (inl refl) in (
          all_from (λ y. is_eq (rows_cmp x y) ≡ false) xs (λ y there. false_from_ne_true _ (λ tie.
              let it = from y (inr there) in
              let same : x ≡ y = is.alone x y here.0 it.0 (tells x y (is.plain x here.0) (is.plain y it.0) here.1 it.1 tie) in
              let less : value_cmp (rowid x) (rowid y) ≡ Less = all_has (λ z. value_cmp (rowid x) (rowid z) ≡ Less) xs y up.0 there in
              let self : value_cmp (rowid x) (rowid x) ≡ Less = subst (λ z. value_cmp (rowid x) (rowid z) ≡ Less) (sym same) less in
              let tied = tied_itself value_cmp_total (rowid x) in
              cc)),
          no_ties rows m is xs (λ y there. from y (inr there)) up.1,
        )

    good_apart : (rows : List Row) (m : Map) → IsMap table rows m → IsAscending (λ a b. is_eq (rows_cmp a b) ≡ false) (filter p rows)
    good_apart rows m is = no_ties rows m is (filter p rows) (λ x there. has_filtered p rows x there) (ascending-filter _ p rows is.shaped.0)

    total_rows : IsTotalOrder rows_cmp
    total_rows = on_total shown_env (output_cmp_total q)

    -- all of them, in this order
    abbrev pub sorted_rows : List Row → List Row
    sorted_rows rows = sort_by rows_cmp (filter p rows)

    pub sorted_answer : (rows : List Row) (m : Map) → IsMap table rows m
        → (db : Trees) (given : Row) (out : List Row) (a : IsAnswer q db given out) → a.kept ≡ map shown_env (filter p rows)
        → out ≡ page q given (map (λ r. eval_all q.project (env r)) (sorted_rows rows))
    sorted_answer rows m is db given out a kept =
        let apart = ascending-map (λ a b. is_eq (output_cmp q a b) ≡ false) shown_env (filter p rows) (good_apart rows m is) in
        let sorted = sorted_is-sort_by (output_cmp q) (output_cmp_total q) (map shown_env (filter p rows)) a.ordered apart
        (subst (λ k. IsPermutation k a.ordered) kept a.same) a.sorted in
        a.shown ∙ ap (λ l. page q given (map (λ (o : Output). o.1) l)) (sorted ∙ sort_by-map (output_cmp q) shown_env (filter p rows))
        ∙ ap (page q given) (mapped_twice shown_env (λ (o : Output). o.1) (sorted_rows rows))

    pub sorted_list : (rows : List Row) (m : Map) → IsMap table rows m → ListedBy Before m good (map (cells table) (sorted_rows rows))
    sorted_list rows m is =
        let all = sorted_rows rows in
        let mixed = IsPermutation-sort_by rows_cmp total_rows (filter p rows) in
        record {
          sound = λ v there.
              let it = has_mapped (cells table) all v there in
              let r = has_filtered p rows it.0 (has_permuted (filter p rows) all it.0 (IsPermutation-sym _ _ mixed) it.1) in
              (key_at table it.0, is.sound it.0 r.0 ∙ ap Some (sym it.2), ap good it.2 ∙ sym (reads it.0) ∙ r.1);
          whole = λ k v e fine.
              let r = is.whole k v e in
              let there = has_permuted all (filter p rows) r.0 mixed (has_kept p rows r.0 r.1 (reads r.0 ∙ ap good r.3 ∙ fine)) in
              subst (Has (map (cells table) all)) r.3 (mapped_has (cells table) all r.0 there);
          rises = ascending-map Before (cells table) all
              (ascending_weaker (λ a b. rows_cmp a b ≡ Less) (λ a b. Before (cells table a) (cells table b)) before all
              (rises-sorted rows_cmp total_rows (filter p rows) (good_apart rows m is)));
        }

-- of a query on one table
module _ (table : Table) (tests : List Term) (order : List (Term × Key)) (most : Term) (given : Row) (good : Row → Bool)
    (reads : (r : Row) → passes tests given r ≡ good (cells table r))
    (as_cells : (r : Row) → shown_of (each_column 1 table) given r ≡ cells table r) (Before : Row → Row → Type 0) where
  abbrev pub ordering_query : Query
  ordering_query = in_order_up_to table.tree tests (each_column 1 table) order most

  abbrev row_env : Row → List Row
  row_env r = given ∷ r ∷ []

  abbrev pub table_cmp : Row → Row → Ordering
  table_cmp = rows_cmp table ordering_query row_env (passes tests given) good reads Before

  module _ (tells : (x y : Row) → list_all is_plain (key_at table x) ≡ true → list_all is_plain (key_at table y) ≡ true
      → passes tests given x ≡ true → passes tests given y ≡ true
      → is_eq (table_cmp x y) ≡ true → key_at table x ≡ key_at table y)
      (before : (x y : Row) → table_cmp x y ≡ Less → Before (cells table x) (cells table y)) where
    abbrev pub table_rows : List Row → List Row
    table_rows rows = sorted_rows table ordering_query row_env (passes tests given) good reads Before tells before rows

    abbrev pub all_rows : Trees → List Row
    all_rows db = map (cells table) (table_rows (db table.tree))

    ordered_rows : (db : Trees) (m : Map) → IsMap table (db table.tree) m → (out : List Row)
        → IsProgramAnswer [] ordering_query db given out → out ≡ page ordering_query given (all_rows db)
    ordered_rows db m is out h =
        let q = ordering_query in
        let a = h Null in
        let kept = filter (passes tests given) (db table.tree) in
        let staged = a.grouped ∙ ap (λ rows. flat_map (λ r. cond (passes tests given r) (row_env r ∷ []) []) rows)
        (plain_overlay db table.tree) ∙ matched (passes tests given) row_env (db table.tree) in
        sorted_answer table q row_env (passes tests given) good reads Before tells before (db table.tree) m is (overlay db []) given out a
        (a.distinct ∙ ap (map (output q)) staged ∙ mapped_twice row_env (output q) kept)
        ∙ ap (page q given) (same_mapped (λ r. shown_of (each_column 1 table) given r) (cells table) as_cells (table_rows (db table.tree)))

    -- of the rows that a text shows: all in this order, and which of them those are
    pub sorted_shown : (schema : Schema) (at : ℕ) (names : List (List ℕ)) (text : List ℕ) → slice_get schema.tables at ≡ Some table
        → command_of (understood schema text) ≡ Select (record { lets = []; body = ordering_query }) names
        → IsPlain (understood schema text) → reads_listing schema text ≡ false
        → (old new : State) (rows : List Row) → Shown text given old new rows → (maps : Maps) → Holds schema old.now maps
        → (rows ≡ page ordering_query given (all_rows old.now.trees)) × ListedBy Before (maps at) good (all_rows old.now.trees) × IsUnchanged old new
    sorted_shown schema at names text listed command bare unlisted old new rows h maps held =
        let is = held.tables at table listed in
        let read = reads_as text given old new schema held.schema_is _ command bare unlisted rows h in (
          ordered_rows old.now.trees (maps at) is rows read.answer,
          sorted_list table ordering_query row_env (passes tests given) good reads Before tells before (old.now.trees table.tree) (maps at) is,
          shown_unchanged text given old new schema held.schema_is bare rows h,
        )

module _ (table : Table) (tests : List Term) (order : List (Term × Key)) (given : Row) (good : Row → Bool)
    (reads : (r : Row) → passes tests given r ≡ good (cells table r))
    (as_cells : (r : Row) → shown_of (each_column 1 table) given r ≡ cells table r) (Before : Row → Row → Type 0) where
  -- where all of them are shown
  abbrev whole : Term
  whole = lit (Int (negsuc 0))

  pub sorted_found : (tells : (x y : Row) → list_all is_plain (key_at table x) ≡ true → list_all is_plain (key_at table y) ≡ true
      → passes tests given x ≡ true → passes tests given y ≡ true
      → is_eq (table_cmp table tests order whole given good reads as_cells Before x y) ≡ true → key_at table x ≡ key_at table y)
      (before : (x y : Row) → table_cmp table tests order whole given good reads as_cells Before x y ≡ Less → Before (cells table x) (cells table y))
      (schema : Schema) (at : ℕ) (names : List (List ℕ)) (text : List ℕ) → slice_get schema.tables at ≡ Some table
      → command_of (understood schema text) ≡ Select (record { lets = []; body = in_order_of table.tree tests (each_column 1 table) order })
      names → IsPlain (understood schema text) → reads_listing schema text ≡ false
      → (old new : State) (rows : List Row) → Shown text given old new rows → (maps : Maps) → Holds schema old.now maps
      → ListedBy Before (maps at) good rows × IsUnchanged old new
  sorted_found tells before schema at names text listed command bare unlisted old new rows h maps held =
      let it = sorted_shown table tests order whole given good reads as_cells Before tells before schema at names text listed command bare
      unlisted old new rows h maps held in
      (subst (ListedBy Before (maps at) good) (sym it.0) it.1, it.2)

  -- where as many are shown as a page has
  module _ (most : ℕ) where
    abbrev so_many : Term
    so_many = lit (Int (pos most))

    pub batch_sorted : (tells : (x y : Row) → list_all is_plain (key_at table x) ≡ true → list_all is_plain (key_at table y) ≡ true
        → passes tests given x ≡ true → passes tests given y ≡ true
        → is_eq (table_cmp table tests order so_many given good reads as_cells Before x y) ≡ true → key_at table x ≡ key_at table y)
        (before : (x y : Row) → table_cmp table tests order so_many given good reads as_cells Before x y ≡ Less → Before (cells table x) (cells table y))
        (cut : (l : List Row) → page (in_order_up_to table.tree tests (each_column 1 table) order so_many) given l ≡ take most l)
        (schema : Schema) (at : ℕ) (names : List (List ℕ)) (text : List ℕ) → slice_get schema.tables at ≡ Some table
        → command_of (understood schema text) ≡ Select
        (record { lets = []; body = in_order_up_to table.tree tests (each_column 1 table) order so_many }) names
        → IsPlain (understood schema text) → reads_listing schema text ≡ false
        → (old new : State) (rows : List Row) → Shown text given old new rows → (maps : Maps) → Holds schema old.now maps
        → FirstRowsBy Before most (maps at) good rows × IsUnchanged old new
    batch_sorted tells before cut schema at names text listed command bare unlisted old new rows h maps held =
        let it = sorted_shown table tests order so_many given good reads as_cells Before tells before schema at names text listed command
        bare unlisted old new rows h maps held in
        (subst (FirstRowsBy Before most (maps at) good) (sym (it.0 ∙ cut _)) (first_listed Before most (maps at) good _ it.1), it.2)
