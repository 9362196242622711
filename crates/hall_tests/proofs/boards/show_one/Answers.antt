use Rattle.std.proofs.Common.{◌≡◌, ◌+◌, cond, eqb, List, [], ◌∷◌, ◌++◌, Option, Some, None, IfSome, sym, ap, ◌∙◌}
use Rattle.std.proofs.lemmas.List.Sums.{sum_by-cons}
use Rattle.board.specs.declared.entry.Entry.{Entry}
use Rattle.board.specs.Showing.{count_own}
use Rattle.board.specs.Rule.{Publishing}
use Rattle.hall_tests.proofs.boards.show_one.Goals as goal

-- Worker 2 has no entry where there is one of worker 1 alone.
none_of_two : (shown : List Entry) (e : Entry) → shown ≡ [] → e.worker ≡ 1 → count_own 2 (shown ++ e ∷ []) ≡ 0
none_of_two shown e none one =
    ap (λ (l : List Entry). count_own 2 (l ++ e ∷ [])) none
    ∙ (sum_by-cons (λ (d : Entry). cond (eqb d.worker 2) 1 0) e [] ∙ ap (λ k. cond (eqb k 2) 1 0 + 0) one)

-- What holds of a value, where what is known of it is enough.
if_some : {X : Type 0} (o : Option X) (P Q : X → Type 0) → ((x : X) → P x → Q x) → IfSome o P → IfSome o Q
if_some (Some x) P Q f h = f x h
if_some None P Q f h = tt

-- The first entry of all has the number 1.
pub show-requires : goal.show-requires
show-requires g c = (ap (λ (l : List Entry). count_own c.in-Some.worker l + 1) (sym (c.in_ok-publisher.ensures ∙ c.requires)), tt)

pub returns : goal.returns
returns g c = if_some c.show.result _ (λ (p : Publishing). count_own 2 p.shown.entries ≡ 0)
    (λ p is. ap (count_own 2) is ∙ none_of_two _ _ (c.in_ok-publisher.ensures ∙ c.requires) c.in-Some.ensures.1) c.show.ensures
