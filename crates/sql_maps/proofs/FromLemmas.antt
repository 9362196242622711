-- A query whose FROM has an EXISTS, in order of its table's rowids.
use Rattle.std.proofs.Common.{◌≡◌, not, ℕ, pos, Bool, true, false, List, [], ◌∷◌, map, filter, min, IsPermutation, None, refl, sym, ap}
use Rattle.std.proofs.Common.{subst, ◌∙◌, Ordering, Less, is_eq}
use Rattle.std.specs.List.{list_all}
use Rattle.std.proofs.lemmas.Bool.{false_from_ne_true}
use Rattle.std.proofs.lemmas.Bool.Decides.{Decides-eqb}
use Rattle.std.proofs.Common.{arith}
use Rattle.sqlite.specs.declared.types.Value.TheVariants.{Null, Int}
use Rattle.sqlite_value.specs.Keys.{ascending}
use Rattle.sqlite_value.specs.Order.{value_cmp}
use Rattle.sqlite_value.specs.declared.keys.Collation.TheVariants.{Binary}
use Rattle.sqlite_value.specs.declared.keys.Key.{Key}
use Rattle.sqlite.specs.Order.{Row}
use Rattle.sqlite.specs.Table.{Table}
use Rattle.sqlite.specs.Term.{Term, lit, col, eval, eval_all}
use Rattle.sqlite_sql.specs.declared.ops.UnaryOp.TheVariants.{Not}
use Rattle.sqlite_sql.specs.Ops.{unary, is_true}
use Rattle.std.specs.Prelude.{◌==◌, zero, suc}
use Rattle.sqlite.specs.Query.{Query, Join, matches, IsAnswer, Output, output, output_cmp, page}
use Rattle.sqlite.specs.Program.{overlay, IsProgramAnswer}
use Rattle.sqlite.specs.Tree.{Trees}
use Rattle.sqlite_trees.specs.Tree.{IsAscending, IsTable, rowid}
use Rattle.sqlite_sql.proofs.QueryLemmas.{output_cmp_total}
use Rattle.sqlite_keyed.proofs.SortLemmas.{sorted_unique}
use Rattle.sqlite_keyed.proofs.ListLemmas.{ascending-map, ascending-filter, ascending_weaker}
use Rattle.sql_maps.specs.Maps.{is_plain, key_at, cells, Map, IsMap, ListedBy}
use Rattle.sql_maps.proofs.AnswerLemmas.{plain_overlay, twice}
use Rattle.sql_maps.proofs.OrderLemmas.{mapped_twice, rows_cmp, sorted_rows, sorted_answer, sorted_list}

-- a query over FROM, in the order of these columns
abbrev pub from_in_order_of : Join → List Term → List Term → List (Term × Key) → Term → Query
from_in_order_of from tests shows order most = record {
  from = from;
  filter = tests;
  group = None;
  project = shows;
  distinct = false;
  collations = [];
  order = order;
  limit = most;
  offset = lit (Int (pos 0));
}

-- the same, in the order of the first table's rowids
abbrev pub from_in_order : Join → List Term → List Term → Term → Query
from_in_order from tests shows most = from_in_order_of from tests shows ((col 1 0, ascending Binary) ∷ []) most

module _ (from : Join) (tests shows : List Term) (most : Term) (db : Trees) (given : Row) (env : Row → List Row) (p : Row → Bool) (rows : List Row)
    (covers : matches db tests from (given ∷ []) ≡ map env (filter p rows)) (keyed : (r : Row) → eval (col 1 0) (env r) ≡ rowid r) (rise : IsTable rows) where
  pub ordered_by : (out : List Row) → IsProgramAnswer [] (from_in_order from tests shows most) db given out
      → out ≡ page (from_in_order from tests shows most) given (map (λ r. eval_all shows (env r)) (filter p rows))
  ordered_by out h =
      let q = from_in_order from tests shows most in
      let same_trees : overlay db [] ≡ db = λ i t. plain_overlay db t i in
      let a = subst (λ (trees : Trees). IsAnswer q trees given out) same_trees (h Null) in
      let good = filter p rows in
      let kept : a.kept ≡ map (output q) (map env good) = a.distinct ∙ ap (map (output q)) (a.grouped ∙ covers) in
      let up : IsAscending (λ x y. output_cmp q x y ≡ Less) (map (output q) (map env good)) =
      ascending-map (λ x y. output_cmp q x y ≡ Less) (output q) (map env good) (ascending-map (λ x y. output_cmp q (output q x) (output q y) ≡ Less) env good
      (ascending_weaker (λ x y. value_cmp (rowid x) (rowid y) ≡ Less) (λ x y. output_cmp q (output q (env x)) (output q (env y)) ≡ Less)
      (λ x y l. rw (keyed x, keyed y, l) refl) good (ascending-filter _ p rows rise))) in
      let same = sorted_unique (output_cmp q) (output_cmp_total q) (map (output q) (map env good)) a.ordered up
      (subst (λ k. IsPermutation k a.ordered) kept a.same) a.sorted in
      a.shown ∙ ap (λ l. page q given (map (λ (o : Output). o.1) l)) same ∙ ap (page q given) (twice q env good)

-- the rows that pass, in the order of ORDER BY
module _ (table : Table) (from : Join) (tests shows : List Term) (order : List (Term × Key)) (most : Term) (db : Trees) (given : Row)
    (env : Row → List Row) (p good : Row → Bool)
    (covers : matches db tests from (given ∷ []) ≡ map env (filter p (db table.tree))) (reads : (r : Row) → p r ≡ good (cells table r))
    (Before : Row → Row → Type 0) where
  abbrev pub sorting_query : Query
  sorting_query = from_in_order_of from tests shows order most

  abbrev pub from_cmp : Row → Row → Ordering
  from_cmp = rows_cmp table sorting_query env p good reads Before

  pub sorted_by : (tells : (x y : Row) → list_all is_plain (key_at table x) ≡ true → list_all is_plain (key_at table y) ≡ true → p x ≡ true
      → p y ≡ true → is_eq (from_cmp x y) ≡ true → key_at table x ≡ key_at table y)
      (before : (x y : Row) → from_cmp x y ≡ Less → Before (cells table x) (cells table y)) (m : Map) → IsMap table (db table.tree) m
      → (out : List Row) → IsProgramAnswer [] sorting_query db given out
      → (all : List Row) × (out ≡ page sorting_query given (map (λ r. eval_all shows (env r)) all)) × ListedBy Before m good (map (cells table) all)
  sorted_by tells before m is out h =
      let q = sorting_query in
      let same_trees : overlay db [] ≡ db = λ i t. plain_overlay db t i in
      let a = subst (λ (trees : Trees). IsAnswer q trees given out) same_trees (h Null) in (
        sorted_rows table q env p good reads Before tells before (db table.tree),
        sorted_answer table q env p good reads Before tells before (db table.tree) m is db given out a
            (a.distinct ∙ ap (map (output q)) (a.grouped ∙ covers) ∙ mapped_twice env (output q) (filter p (db table.tree))),
        sorted_list table q env p good reads Before tells before (db table.tree) m is,
      )

-- NOT EXISTS holds where none is counted
pub not_counted : (n : ℕ) → is_true (unary Not (Int (pos (min 1 n)))) ≡ (n == 0)
unfolding unary
not_counted zero = refl
not_counted (suc n) =
    let e : min 1 (suc n) ≡ 1 = omega arith in
    ap (λ k. is_true (unary Not (Int (pos k)))) e
    ∙ sym (false_from_ne_true (suc n == 0) (λ h. let z : suc n ≡ 0 = (Decides-eqb (suc n) 0).0 h in absurd (omega (arith, z))))

-- and EXISTS where some are
pub is_counted : (n : ℕ) → is_true (Int (pos (min 1 n))) ≡ not (n == 0)
is_counted zero = refl
is_counted (suc n) =
    let e : min 1 (suc n) ≡ 1 = omega arith in
    let f : (suc n == 0) ≡ false = false_from_ne_true (suc n == 0) (λ h. let z : suc n ≡ 0 = (Decides-eqb (suc n) 0).0 h in absurd (omega (arith, z))) in
    ap (λ k. is_true (Int (pos k))) e ∙ sym (ap not f)
