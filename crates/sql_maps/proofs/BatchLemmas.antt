-- A selection with a row limit, ordered by the key.
use Rattle.std.proofs.Common.{◌≡◌, ◌⊎◌, ◌≤◌, inl, inr, ℕ, zero, suc, pos, Bool, true, false, cond, List, [], ◌∷◌, map, filter, flat_map}
use Rattle.std.proofs.Common.{length, take, IsPermutation, Some, slice_get, refl, sym, ap, subst, ◌∙◌, arith, Less}
use Rattle.std.specs.List.{AllByRecursion}
use Rattle.sqlite.specs.declared.types.Value.TheVariants.{Null, Int}
use Rattle.sqlite_value.specs.Order.{value_cmp}
use Rattle.sqlite_value.specs.declared.keys.Key.{Key}
use Rattle.sqlite.specs.Order.{Row, column}
use Rattle.sqlite.specs.Table.{Table}
use Rattle.sqlite.specs.Schema.{Schema}
use Rattle.sqlite.specs.Term.{Term, lit}
use Rattle.sqlite.specs.Query.{Query, Output, output, output_cmp, page}
use Rattle.sqlite.specs.Program.{IsProgramAnswer}
use Rattle.sqlite.specs.Tree.{Trees}
use Rattle.sqlite.specs.Listing.{understood, reads_listing}
use Rattle.sqlite.specs.Command.TheVariants.{Select}
use Rattle.sqlite.specs.Given.{IsPlain}
use Rattle.sqlite.specs.State.{State, Shown, IsUnchanged}
use Rattle.sqlite.proofs.Callers.{command_of, reads_as}
use Rattle.sqlite_trees.specs.Tree.{IsAscending, IsTable, rowid}
use Rattle.sqlite_sql.proofs.QueryLemmas.{output_cmp_total}
use Rattle.sqlite_keyed.proofs.SortLemmas.{sorted_unique}
use Rattle.sqlite_keyed.proofs.ListLemmas.{ascending-map, ascending-filter}
use Rattle.sqlite_tied.specs.Listing.{each_column}
use Rattle.sqlite_rules.specs.Lists.{Has}
use Rattle.sqlite_rules.proofs.ListLemmas.{all_has, all_from, has_filtered}
use Rattle.sql_maps.specs.Maps.{cells, Map, Maps, Holds, ListedBy, FirstBelow}
use Rattle.sql_maps.specs.Batches.{FirstRows, FirstRowsBy}
use Rattle.sql_maps.specs.Maps.{key_at}
use Rattle.sql_maps.proofs.Words.{in_order_up_to}
use Rattle.sql_maps.proofs.AnswerLemmas.{passes, shown_of, plain_overlay, matched, twice}
use Rattle.sql_maps.proofs.ReadLemmas.{shown_unchanged}
use Rattle.sql_maps.proofs.SelectLemmas.{listed_is}

-- ---- the beginning of a list that rises

module _ {X : Type 0} (Before : X → X → Type 0) where
  has_taken : (n : ℕ) (xs : List X) (x : X) → Has (take n xs) x → Has xs x
  has_taken zero xs x there = absurd there
  has_taken (suc n) [] x there = absurd there
  has_taken (suc n) (y ∷ xs) x (inl same) = inl same
  has_taken (suc n) (y ∷ xs) x (inr more) = inr (has_taken n xs x more)

  taken_or_after : (n : ℕ) (xs : List X) → IsAscending Before xs → (x : X) → Has xs x → Has (take n xs) x
      ⊎ ((length (take n xs) ≡ n) × ((w : X) → Has (take n xs) w → Before w x))
  taken_or_after zero xs up x there = inr (refl, λ w none. absurd none)
  taken_or_after (suc n) [] up x there = absurd there
  taken_or_after (suc n) (y ∷ xs) up x (inl same) = inl (inl same)
  taken_or_after (suc n) (y ∷ xs) up x (inr more) = go (taken_or_after n xs up.1 x more)
    where
      after : ((w : X) → Has (take n xs) w → Before w x) → (w : X) → Has (y ∷ take n xs) w → Before w x
      after others w (inl first) = subst (λ z. Before z x) (sym first) (all_has (Before y) xs x up.0 more)
      after others w (inr later) = others w later

      go : Has (take n xs) x ⊎ ((length (take n xs) ≡ n) × ((w : X) → Has (take n xs) w → Before w x))
          → Has (y ∷ take n xs) x ⊎ ((length (y ∷ take n xs) ≡ suc n) × ((w : X) → Has (y ∷ take n xs) w → Before w x))
      go (inl taken) = inl (inr taken)
      go (inr rest) = inr (ap (λ k. suc k) rest.0, after rest.1)

  all_taken : (P : X → Type 0) (n : ℕ) (xs : List X) → AllByRecursion P xs → AllByRecursion P (take n xs)
  all_taken P zero xs all = tt
  all_taken P (suc n) [] all = tt
  all_taken P (suc n) (x ∷ xs) all = (all.0, all_taken P n xs all.1)

  taken_rises : (n : ℕ) (xs : List X) → IsAscending Before xs → IsAscending Before (take n xs)
  taken_rises zero xs up = tt
  taken_rises (suc n) [] up = tt
  taken_rises (suc n) (x ∷ xs) up = (all_taken (Before x) n xs up.0, taken_rises n xs up.1)

  taken_few : (n : ℕ) (xs : List X) → length (take n xs) ≤ n
  taken_few zero xs = omega arith
  taken_few (suc n) [] = omega arith
  taken_few (suc n) (x ∷ xs) = let less = taken_few n xs in omega (arith, less)

-- the first rows of all that are listed
pub first_listed : (Before : Row → Row → Type 0) (most : ℕ) (m : Map) (good : Row → Bool) (all : List Row) → ListedBy Before m good all
    → FirstRowsBy Before most m good (take most all)
first_listed Before most m good all is = record {
  sound = λ v there. is.sound v (has_taken Before most all v there);
  whole = λ k v e fine. taken_or_after Before most all is.rises v (is.whole k v e fine);
  rises = taken_rises Before most all is.rises;
  few = taken_few Before most all;
}

-- ---- the rows that a text shows

module _ (tree : ℕ) (tests shows : List Term) (order : List (Term × Key)) (most : Term) (given : Row) where
  abbrev pub paged : Query
  paged = in_order_up_to tree tests shows order most

  -- how two stored rows compare that pass
  abbrev pub KeepsOrder : Type 0
  KeepsOrder = (x y : Row) → passes tests given x ≡ true → passes tests given y ≡ true → value_cmp (rowid x) (rowid y) ≡ Less
      → output_cmp paged (output paged (given ∷ x ∷ [])) (output paged (given ∷ y ∷ [])) ≡ Less

  in_this_order : KeepsOrder → (xs : List Row) → ((x : Row) → Has xs x → passes tests given x ≡ true)
      → IsAscending (λ x y. value_cmp (rowid x) (rowid y) ≡ Less) xs
      → IsAscending (λ x y. output_cmp paged (output paged (given ∷ x ∷ [])) (output paged (given ∷ y ∷ [])) ≡ Less) xs
  in_this_order keeps [] pass up = tt
  in_this_order keeps (x ∷ xs) pass up = (
    all_from (λ y. output_cmp paged (output paged (given ∷ x ∷ [])) (output paged (given ∷ y ∷ [])) ≡ Less) xs
        (λ y there. keeps x y (pass x (inl refl)) (pass y (inr there)) (all_has (λ z. value_cmp (rowid x) (rowid z) ≡ Less) xs y up.0 there)),
    in_this_order keeps xs (λ y there. pass y (inr there)) up.1,
  )

  -- the rows that pass, in the order of their rowids, where the order of the query is theirs
  paged_as : KeepsOrder → (db : Trees) (out : List Row) → IsTable (db tree) → IsProgramAnswer [] paged db given out
      → out ≡ page paged given (map (shown_of shows given) (filter (passes tests given) (db tree)))
  paged_as keeps db out rise h =
      let q = paged in
      let a = h Null in
      let env = λ (r : Row). given ∷ r ∷ [] in
      let good = filter (passes tests given) (db tree) in
      let staged = a.grouped ∙ ap (λ rows. flat_map (λ r. cond (passes tests given r) (env r ∷ []) []) rows) (plain_overlay db tree)
      ∙ matched (passes tests given) env (db tree) in
      let kept : a.kept ≡ map (output q) (map env good) = a.distinct ∙ ap (map (output q)) staged in
      let up : IsAscending (λ x y. output_cmp q x y ≡ Less) (map (output q) (map env good)) =
      ascending-map (λ x y. output_cmp q x y ≡ Less) (output q) (map env good) (ascending-map (λ x y. output_cmp q (output q x) (output q y) ≡ Less) env good
      (in_this_order keeps good (λ x there. (has_filtered (passes tests given) (db tree) x there).1)
      (ascending-filter _ (passes tests given) (db tree) rise))) in
      let same = sorted_unique (output_cmp q) (output_cmp_total q) (map (output q) (map env good)) a.ordered up
      (subst (λ k. IsPermutation k a.ordered) kept a.same) a.sorted in
      a.shown ∙ ap (λ l. page q given (map (λ (o : Output). o.1) l)) same ∙ ap (page q given) (twice q env good)

-- what has to be computed of the text of a page
pub record Pages (schema : Schema) (at : ℕ) (table : Table) (tests : List Term) (order : List (Term × Key)) (most : ℕ)
    (names : List (List ℕ)) (text : List ℕ) : Type 0 where
  pub listed : slice_get schema.tables at ≡ Some table
  pub command : command_of (understood schema text) ≡ Select
      (record { lets = []; body = in_order_up_to table.tree tests (each_column 1 table) order (lit (Int (pos most))) }) names
  pub bare : IsPlain (understood schema text)
  pub unlisted : reads_listing schema text ≡ false
  pub single : (r : Row) → key_at table r ≡ rowid r ∷ []
  pub key_cell : (r : Row) → column (cells table r) 0 ≡ rowid r
  pub as_cells : (given : Row) (l : List Row) → map (shown_of (each_column 1 table) given) l ≡ map (cells table) l
  pub cut : (given : Row) (l : List Row) → page (in_order_up_to table.tree tests (each_column 1 table) order (lit (Int (pos most)))) given l ≡ take most l

module _ (schema : Schema) (at : ℕ) (table : Table) (tests : List Term) (order : List (Term × Key)) (most : ℕ) (names : List (List ℕ))
    (text : List ℕ) (given : Row) (good : Row → Bool)
    (reads : (r : Row) → passes tests given r ≡ good (cells table r))
    (keeps : KeepsOrder table.tree tests (each_column 1 table) order (lit (Int (pos most))) given) where
  pub batch_found : Pages schema at table tests order most names text → (old new : State) (rows : List Row) → Shown text given old new rows
      → (maps : Maps) → Holds schema old.now maps
      → FirstRows most (maps at) good rows × IsUnchanged old new
  batch_found pages old new rows h maps held =
      let is = held.tables at table pages.listed in
      let read = reads_as text given old new schema held.schema_is _ pages.command pages.bare pages.unlisted rows h in
      let out = paged_as table.tree tests (each_column 1 table) order (lit (Int (pos most))) given keeps old.now.trees rows is.shaped.0 read.answer in
      let all = map (cells table) (filter (passes tests given) (old.now.trees table.tree)) in
      let taken : rows ≡ take most all = out ∙ pages.cut given _ ∙ ap (take most) (pages.as_cells given _) in
      let listed = listed_is table (old.now.trees table.tree) (maps at) is (passes tests given) good reads pages.single pages.key_cell all refl in (
        subst (FirstRows most (maps at) good) (sym taken) (first_listed FirstBelow most (maps at) good all listed),
        shown_unchanged text given old new schema held.schema_is pages.bare rows h,
      )
