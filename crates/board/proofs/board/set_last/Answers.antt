use Rattle.std.proofs.Common.{◌≡◌, ◌-◌, ℕ, true, cond, List, Option, Some, map, set, sym, ap, ◌∙◌, option_map}
use Rattle.std.specs.Arc.{arc_value}
use Rattle.std.proofs.lemmas.List.{map-set}
use Rattle.board.specs.declared.entry.Entry.{Entry}
use Rattle.board.specs.Workers.{is_worker}
use Rattle.board.specs.Showing.{with_last}
use Rattle.board.proofs.board.set_last.Goals as goal

set_at : {A : Type 0} (g : A → Entry) (last : List (Option A)) (a : A) (w : ℕ) → w ≡ (g a).worker → is_worker w ≡ true
    → map (option_map g) (set last (w - 1) (Some a)) ≡ with_last (map (option_map g) last) (g a)
set_at g last a w e is =
    let mine : is_worker (g a).worker ≡ true = ap is_worker (sym e) ∙ is in
    map-set (option_map g) last (w - 1) (Some a)
    ∙ (ap (λ k. set (map (option_map g) last) (k - 1) (Some (g a))) e
    ∙ sym (ap (λ b. cond b (set (map (option_map g) last) ((g a).worker - 1) (Some (g a))) (map (option_map g) last)) mine))

pub returns : goal.returns
returns c =
    let same = c.number-worker.ensures.value in
    set_at arc_value c.args.last.now c.args.entry c.number-worker.result (same ∙ ap (λ (e : Entry). e.worker) c.deref.ensures)
    (ap is_worker same ∙ c.number-worker.ensures.limits)
