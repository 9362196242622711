-- A selection ordered by the key, and a count.
use Rattle.std.proofs.Common.{◌≡◌, inl, inr, ℕ, Bool, true, false, cond, List, [], ◌∷◌, map, filter, flat_map, length, min, IsPermutation}
use Rattle.std.proofs.Common.{pos, Some, refl, sym, ap, subst, ◌∙◌, Less}
use Rattle.std.specs.List.{list_all, AllZip}
use Rattle.std.proofs.lemmas.List.{length-map}
use Rattle.std.proofs.lemmas.List.Sorted.{length_permutation}
use Rattle.sqlite.specs.declared.types.Value.TheVariants.{Null, Int}
use Rattle.sqlite_value.specs.Order.{value_cmp}
use Rattle.sqlite.specs.Order.{Row}
use Rattle.sqlite.specs.Term.{Term, lit, holds, eval}
use Rattle.sqlite.specs.Query.{Output, output, output_cmp, matches, inner, end, page}
use Rattle.sqlite.specs.Program.{overlay, IsProgramAnswer}
use Rattle.sqlite.specs.Tree.{Trees}
use Rattle.sqlite_trees.specs.Tree.{IsAscending, IsTable, rowid}
use Rattle.sqlite_sql.specs.Group.{IsSummary, Grouping, value_over}
use Rattle.sqlite_sql.specs.declared.aggregate.AggregateOp.TheVariants.{CountRows}
use Rattle.sqlite_value.specs.declared.keys.Collation.TheVariants.{Binary}
use Rattle.sqlite_sql.proofs.QueryLemmas.{output_cmp_total}
use Rattle.sqlite_keyed.proofs.SortLemmas.{sorted_unique}
use Rattle.sqlite_keyed.proofs.ListLemmas.{ascending-map, ascending-filter, ascending_weaker}
use Rattle.sqlite.proofs.Callers.{one_permutation}
use Rattle.std.proofs.Common.{◌≢◌, take, true≢false}
use Rattle.std.proofs.lemmas.Bool.{false_from_ne_true}
use Rattle.std.proofs.lemmas.Cmp.{tied_itself}
use Rattle.sqlite_value.proofs.OrderLemmas.{value_cmp_total}
use Rattle.sqlite.specs.Order.{column}
use Rattle.sqlite.specs.Table.{Table}
use Rattle.sqlite_rules.specs.Lists.{Has}
use Rattle.sqlite_rules.proofs.ListLemmas.{has_filtered, has_kept, all_has}
use Rattle.sqlite_rules.proofs.ProbeLemmas.{has_mapped, mapped_has}
use Rattle.sql_maps.specs.Maps.{key_at, cells, Map, IsMap, First, Count, Listed, ListedBy, FirstOf, FirstOfBy}
use Rattle.sql_maps.proofs.Words.{in_order, counting}
use Rattle.sql_maps.proofs.AnswerLemmas.{passes, shown_of, plain_overlay, matched, twice}

-- the rows that pass, in the order of their rowids
pub ordered : (tree : ℕ) (tests shows : List Term) (most : Term) (db : Trees) (given : Row) (out : List Row) → IsTable (db tree)
    → IsProgramAnswer [] (in_order tree tests shows most) db given out
    → out ≡ page (in_order tree tests shows most) given (map (shown_of shows given) (filter (passes tests given) (db tree)))
ordered tree tests shows most db given out rise h =
    let q = in_order tree tests shows most in
    let a = h Null in
    let env = λ (r : Row). given ∷ r ∷ [] in
    let good = filter (passes tests given) (db tree) in
    let staged = a.grouped ∙ ap (λ rows. flat_map (λ r. cond (passes tests given r) (env r ∷ []) []) rows) (plain_overlay db tree)
    ∙ matched (passes tests given) env (db tree) in
    let kept : a.kept ≡ map (output q) (map env good) = a.distinct ∙ ap (map (output q)) staged in
    let up : IsAscending (λ x y. output_cmp q x y ≡ Less) (map (output q) (map env good)) =
    ascending-map (λ x y. output_cmp q x y ≡ Less) (output q) (map env good) (ascending-map (λ x y. output_cmp q (output q x) (output q y) ≡ Less) env good
    (ascending_weaker (λ x y. value_cmp (rowid x) (rowid y) ≡ Less) (λ x y. output_cmp q (output q (env x)) (output q (env y)) ≡ Less)
    (λ x y l. rw l refl) good (ascending-filter _ (passes tests given) (db tree) rise))) in
    let same = sorted_unique (output_cmp q) (output_cmp_total q) (map (output q) (map env good)) a.ordered up
    (subst (λ k. IsPermutation k a.ordered) kept a.same) a.sorted in
    a.shown ∙ ap (λ l. page q given (map (λ (o : Output). o.1) l)) same ∙ ap (page q given) (twice q env good)

abbrev counts : Grouping
counts = record {
  keys = [];
  collations = [];
  aggregates
      = record { op = CountRows; distinct = false; collation = Binary; argument = lit Null } ∷ [];
  having = [];
}

one_value : (group : List (List Row)) (values : Row) → AllZip (λ a v. value_over group a ≡ Some v) counts.aggregates values
    → values ≡ Int (pos (min (length group) 9223372036854775807)) ∷ []
one_value group [] h = absurd h
one_value group (v ∷ []) h =
    let first : Some (Int (pos (min (length (map (eval (lit Null)) group)) 9223372036854775807))) ≡ Some v = h.0 in
    let is : v ≡ Int (pos (min (length (map (eval (lit Null)) group)) 9223372036854775807)) = cc in
    ap (λ x. x ∷ []) is ∙ ap (λ n. Int (pos (min n 9223372036854775807)) ∷ []) (length-map group (eval (lit Null)))
one_value group (v ∷ w ∷ values) h = absurd h.1

summary : (rows : List Row) (group : List (List Row)) → AllZip (IsSummary counts) (group ∷ []) rows
    → rows ≡ (Int (pos (min (length group) 9223372036854775807)) ∷ []) ∷ []
summary [] group h = absurd h
summary (row ∷ []) group h = ap (λ r. r ∷ []) (h.0.2 ∙ one_value group h.0.0 h.0.1)
summary (row ∷ r ∷ rows) group h = absurd h.1

-- COUNT(*) is how many rows pass
pub counted : (tree : ℕ) (tests : List Term) (db : Trees) (given : Row) (out : List Row) → IsProgramAnswer [] (counting tree tests) db given out
    → out ≡ (Int (pos (min (length (filter (passes tests given) (db tree))) 9223372036854775807)) ∷ []) ∷ []
counted tree tests db given out h =
    let q = counting tree tests in
    let none : List Term = [] in
    let a = h Null in
    let env = λ (r : Row). given ∷ r ∷ [] in
    let good = filter (passes tests given) (db tree) in
    let found : matches (overlay db []) tests (inner tree end) (given ∷ []) ≡ map env good =
    ap (λ rows. flat_map (λ r. cond (passes tests given r) (env r ∷ []) []) rows) (plain_overlay db tree) ∙ matched (passes tests given) env (db tree) in
    let made = a.grouped in
    let n = length_permutation _ _ made.grouping.1 ∙ ap length found ∙ length-map good env in
    let row = summary made.rows made.grouping.0
    (subst (λ (groups : List (List (List Row))). AllZip (IsSummary counts) groups made.rows) made.grouping.2 made.summaries) in
    let kept = a.distinct ∙ ap (map (output q)) (made.having ∙ ap (λ rows. filter (λ e. list_all (holds e) none) (map (λ r. given ∷ r ∷ []) rows)) row) in
    let last = one_permutation _ a.ordered (subst (λ k. IsPermutation k a.ordered) kept a.same) in
    a.shown ∙ ap (λ l. page q given (map (λ (o : Output). o.1) l)) last ∙ ap (λ k. (Int (pos (min k 9223372036854775807)) ∷ []) ∷ []) n

-- as facts about the map

module _ (table : Table) (rows : List Row) (m : Map) (is : IsMap table rows m) (p : Row → Bool) (good : Row → Bool)
    (reads : (r : Row) → p r ≡ good (cells table r))
    (single : (r : Row) → key_at table r ≡ rowid r ∷ []) (key_cell : (r : Row) → column (cells table r) 0 ≡ rowid r) where
  -- a row of the map that passes is among them
  in_all : (k v : Row) → m k ≡ Some v → good v ≡ true → (r : Row) × Has (filter p rows) r × (key_at table r ≡ k) × (cells table r ≡ v)
  in_all k v e fine = let r = is.whole k v e in (r.0, has_kept p rows r.0 r.1 (reads r.0 ∙ ap good r.3 ∙ fine), r.2, r.3)

  from_all : (r : Row) → Has (filter p rows) r → (m (key_at table r) ≡ Some (cells table r)) × (good (cells table r) ≡ true)
  from_all r h = let it = has_filtered p rows r h in (is.sound r it.0, sym (reads r) ∙ it.1)

  pub first_is : (out : List Row) → out ≡ take 1 (map (cells table) (filter p rows)) → First m good out
  first_is out e = subst (First m good) (sym e) (go (filter p rows) in_all from_all (ascending-filter _ p rows is.shaped.0))
    where
      go : (all : List Row) → ((k v : Row) → m k ≡ Some v → good v ≡ true → (r : Row) × Has all r × (key_at table r ≡ k) × (cells table r ≡ v))
          → ((r : Row) → Has all r → (m (key_at table r) ≡ Some (cells table r)) × (good (cells table r) ≡ true)) → IsTable all
          → First m good (take 1 (map (cells table) all))
      go [] has_in from rise = λ k v e. false_from_ne_true _ (λ fine. (has_in k v e fine).1)
      go (r ∷ rest) has_in from rise = (
        (key_at table r, (from r (inl refl)).0),
        (from r (inl refl)).1,
        λ k w e fine.
            let it = has_in k w e fine in
            elim it.1 [
              | inl same ↦ inl (sym it.3 ∙ ap (cells table) same)
              | inr later ↦ inr (
                  let less = all_has (λ z. value_cmp (rowid r) (rowid z) ≡ Less) rest it.0 rise.0 later in
                  ap (λ v. value_cmp v (column w 0)) (key_cell r) ∙ ap (value_cmp (rowid r)) (ap (λ v. column v 0) (sym it.3) ∙ key_cell it.0) ∙ less
                  )
            ],
        refl,
      )

  pub listed_is : (out : List Row) → out ≡ map (cells table) (filter p rows) → Listed m good out
  listed_is out e = subst (Listed m good) (sym e) (record {
    sound = λ v h. let it = has_mapped (cells table) (filter p rows) v h in let f = from_all it.0 it.1 in
        (key_at table it.0, f.0 ∙ ap Some (sym it.2), ap good it.2 ∙ f.1);
    whole = λ k v is_there fine. let it = in_all k v is_there fine in
        subst (Has (map (cells table) (filter p rows))) it.3 (mapped_has (cells table) (filter p rows) it.0 it.1);
    rises = ascending-map (λ v w. value_cmp (column v 0) (column w 0) ≡ Less) (cells table) _
        (ascending_weaker (λ a b. value_cmp (rowid a) (rowid b) ≡ Less)
        (λ a b. value_cmp (column (cells table a) 0) (column (cells table b) 0) ≡ Less)
        (λ a b less. ap (λ v. value_cmp v (column (cells table b) 0)) (key_cell a) ∙ ap (value_cmp (rowid a)) (key_cell b) ∙ less) _
        (ascending-filter _ p rows is.shaped.0));
  })

  pub count_is : Count m good (length (filter p rows))
  count_is = record {
    keys = map (key_at table) (filter p rows);
    sound = λ k h. let it = has_mapped (key_at table) (filter p rows) k h in let f = from_all it.0 it.1 in (cells table it.0, ap m it.2 ∙ f.0, f.1);
    whole = λ k v e fine. let it = in_all k v e fine in
        subst (Has (map (key_at table) (filter p rows))) it.2 (mapped_has (key_at table) (filter p rows) it.0 it.1);
    distinct = ascending-map (λ a b. a ≢ b) (key_at table) _
        (ascending_weaker (λ a b. value_cmp (rowid a) (rowid b) ≡ Less) (λ a b. key_at table a ≢ key_at table b)
        (λ a b less same. apart a b less (sym (single a) ∙ same ∙ single b)) _
        (ascending-filter _ p rows is.shaped.0));
    many = sym (length-map (filter p rows) (key_at table));
  }
    where
      apart : (a b : Row) → value_cmp (rowid a) (rowid b) ≡ Less → rowid a ∷ [] ≡ rowid b ∷ [] → ⊥
      apart a b less same = let e : rowid a ≡ rowid b = cc in let tie = tied_itself value_cmp_total (rowid b) in let h = rw e at less in cc

-- the same where the condition is a fact that a test decides for the rows of the map
pub first_of : (m : Map) (good : Row → Bool) (Good : Row → Type 0) → ((v : Row) → good v ≡ true → Good v)
    → ((v : Row) → Good v → good v ≡ true) → (out : List Row) → First m good out → FirstOf m Good out
first_of m good Good from to [] h = λ k v e fine. true≢false (sym (to v fine) ∙ h k v e)
first_of m good Good from to (v ∷ more) h = (h.0, from v h.1, λ k w e fine. h.2 k w e (to w fine), h.3)

-- the first of all that are listed
pub first_of_listed : (Before : Row → Row → Type 0) (m : Map) (good : Row → Bool) (Good : Row → Type 0)
    → ((v : Row) → good v ≡ true → Good v) → ((v : Row) → Good v → good v ≡ true) → (all : List Row) → ListedBy Before m good all
    → FirstOfBy Before m Good (take 1 all)
first_of_listed Before m good Good from to [] is = λ k v e fine. is.whole k v e (to v fine)
first_of_listed Before m good Good from to (v ∷ rest) is =
    let first = is.sound v (inl refl) in (
      (first.0, first.1),
      from v first.2,
      λ k w e fine. elim (is.whole k w e (to w fine)) [ inl same ↦ inl same | inr later ↦ inr (all_has (Before v) rest w is.rises.0 later) ],
      refl,
    )
