-- What a query on one table shows.
use Rattle.std.proofs.Common.{◌≡◌, ℕ, Bool, true, false, cond, List, [], ◌∷◌, ◌++◌, map, filter, flat_map, IsPermutation, refl, sym, ap, subst, ◌∙◌}
use Rattle.std.specs.Prelude.{nat_le, ◌^◌, ◌-◌, unwrap_or, slice_get, None}
use Rattle.std.specs.List.{list_all}
use Rattle.std.proofs.lemmas.List.Sorted.{IsPermutation-map, IsPermutation-sym}
use Rattle.sqlite.specs.declared.types.Value.TheVariants.{Null}
use Rattle.sqlite.specs.Order.{Row}
use Rattle.sqlite.specs.Term.{Term, holds, eval_all}
use Rattle.sqlite.specs.Query.{Query, Output, output}
use Rattle.sqlite.specs.Program.{overlay, IsProgramAnswer}
use Rattle.sqlite.specs.Tree.{Trees}
use Rattle.sqlite_trees.proofs.ListLemmas.{all-permutation}
use Rattle.sqlite_rules.specs.Lists.{Has}
use Rattle.sqlite_rules.proofs.ListLemmas.{all_has, all_from, has_filtered, has_kept}
use Rattle.sqlite_rules.proofs.ProbeLemmas.{has_mapped, mapped_has}
use Rattle.sql_maps.proofs.Words.{over}

pub has_permuted : {X : Type 0} (xs ys : List X) (x : X) → IsPermutation xs ys → Has ys x → Has xs x
has_permuted xs ys x same = all_has (Has xs) ys x (all-permutation (Has xs) xs ys same (all_from (Has xs) xs (λ e h. h)))

pub plain_overlay : (db : Trees) (t : ℕ) → overlay db [] t ≡ db t
plain_overlay db t = let none : List (List Row) = [] in
    elim (nat_le (2 ^ 31) t) as (λ b. unwrap_or (cond b (slice_get none (t - 2 ^ 31)) None) (db t) ≡ db t) [ true ↦ refl | false ↦ refl ]

pub matched : {X Y : Type 0} (p : X → Bool) (f : X → Y) (xs : List X) → flat_map (λ x. cond (p x) (f x ∷ []) []) xs ≡ map f (filter p xs)
matched p f [] = refl
matched p f (x ∷ xs) = elim (p x) as (λ b. cond b (f x ∷ []) []
    ++ flat_map (λ z. cond (p z) (f z ∷ []) []) xs ≡ map f (cond b (x ∷ filter p xs) (filter p xs))) [
      | true ↦ ap (λ l. f x ∷ l) (matched p f xs)
      | false ↦ matched p f xs
    ]

abbrev pub passes : List Term → Row → Row → Bool
passes tests given r = list_all (holds (given ∷ r ∷ [])) tests

abbrev pub shown_of : List Term → Row → Row → Row
shown_of shows given r = eval_all shows (given ∷ r ∷ [])

pub twice : (q : Query) (env : Row → List Row) (rows : List Row)
    → map (λ (o : Output). o.1) (map (output q) (map env rows)) ≡ map (λ r. eval_all q.project (env r)) rows
twice q env [] = refl
twice q env (r ∷ rows) = ap (λ l. eval_all q.project (env r) ∷ l) (twice q env rows)

-- the rows that pass, each as it is shown, in some order
pub answered : (tree : ℕ) (tests shows : List Term) (db : Trees) (given : Row) (out : List Row) → IsProgramAnswer [] (over tree tests shows) db given out
    → IsPermutation (map (shown_of shows given) (filter (passes tests given) (db tree))) out
answered tree tests shows db given out h =
    let q = over tree tests shows in
    let a = h Null in
    let env = λ (r : Row). given ∷ r ∷ [] in
    let good = filter (passes tests given) (db tree) in
    let staged = a.grouped ∙ ap (λ rows. flat_map (λ r. cond (passes tests given r) (env r ∷ []) []) rows) (plain_overlay db tree)
    ∙ matched (passes tests given) env (db tree) in
    let kept : a.kept ≡ map (output q) (map env good) = a.distinct ∙ ap (map (output q)) staged in
    let mixed = IsPermutation-map (λ (o : Output). o.1) _ _ (subst (λ k. IsPermutation k a.ordered) kept a.same) in
    subst (λ k. IsPermutation k out) (twice q env good) (subst (IsPermutation (map (λ (o : Output). o.1) (map (output q) (map env good)))) (sym a.shown) mixed)

pub answer_has : (tree : ℕ) (tests shows : List Term) (db : Trees) (given : Row) (out : List Row) → IsProgramAnswer [] (over tree tests shows) db given out
    → (x : Row) → Has out x → (r : Row) × Has (db tree) r × (passes tests given r ≡ true) × (x ≡ shown_of shows given r)
answer_has tree tests shows db given out h x there =
    let it = has_mapped (shown_of shows given) (filter (passes tests given) (db tree)) x
    (has_permuted _ out x (answered tree tests shows db given out h) there) in
    let r = has_filtered (passes tests given) (db tree) it.0 it.1 in
    (it.0, r.0, r.1, it.2)

pub has_answer : (tree : ℕ) (tests shows : List Term) (db : Trees) (given : Row) (out : List Row) → IsProgramAnswer [] (over tree tests shows) db given out
    → (r : Row) → Has (db tree) r → passes tests given r ≡ true → Has out (shown_of shows given r)
has_answer tree tests shows db given out h r there good =
    has_permuted out _ _ (IsPermutation-sym _ _ (answered tree tests shows db given out h))
    (mapped_has (shown_of shows given) (filter (passes tests given) (db tree)) r (has_kept (passes tests given) (db tree) r there good))
