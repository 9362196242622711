use Rattle.std.proofs.Common.{◌≡◌, ℕ, ◌<◌, List, [], ◌∷◌, ◌++◌, set, length, get_or, ap, sym, ◌∙◌, Result, Ok, Err, OnErr}
use Rattle.std.proofs.lemmas.List.{map-set, get_or-map}
use Rattle.std.proofs.Math.Seq.{map-set_same}
use Rattle.std.specs.declared.vec.Vec.{Vec}
use Rattle.std.specs.declared.alloc.Global.{Global}
use Rattle.hall_schedule.specs.Schedules.{lists_of}
use Rattle.hall_schedule.proofs.schedule.put.Goals as goal

at_err : {T E P : Type 0} (r : Result T E) → P → OnErr r P
at_err (Ok x) p = tt
at_err (Err e) p = p

same : (l : List (Vec ℕ Global)) (i : ℕ) (old new : Vec ℕ Global) → old ≡ get_or l i old → new.items ≡ old.items → lists_of (set l i new) ≡ lists_of l
same l i old new at is = map-set_same (λ (v : Vec ℕ Global). v.items) l i new old (is ∙ ap (λ (v : Vec ℕ Global). v.items) at)

more : (l : List (Vec ℕ Global)) (i x : ℕ) (old new : Vec ℕ Global) → i < length l → old ≡ get_or l i old → new.items ≡ old.items ++ x ∷ []
    → lists_of (set l i new) ≡ set (lists_of l) i (get_or (lists_of l) i [] ++ x ∷ [])
more l i x old new within at is =
    let e : get_or (lists_of l) i [] ≡ old.items = get_or-map (λ (v : Vec ℕ Global). v.items) l i old [] within ∙ ap (λ (v : Vec ℕ Global). v.items) (sym at) in
    map-set (λ (v : Vec ℕ Global). v.items) l i new ∙ ap (set (lists_of l) i) (is ∙ ap (λ ys. ys ++ x ∷ []) (sym e))

pub returns-in_err-reserve-clause-err : goal.returns-in_err-reserve-clause-err
returns-in_err-reserve-clause-err c =
    at_err c.from_residual.result (same c.args.lists.now c.args.place c.index-lists-place.result c.reserve.new.self c.index-lists-place.is
    (c.reserve.ensures.items ∙ ap (λ (v : Vec ℕ Global). v.items) (sym c.index-lists-place.is)))

pub returns-clause-ok : goal.returns-clause-ok
returns-clause-ok c = more c.args.lists.now c.args.place c.args.request c.index-lists-place.result c.push_reserved.new.self c.requires
    c.index-lists-place.is (c.push_reserved.ensures.items
    ∙ ap (λ ys. ys ++ c.args.request ∷ []) (c.reserve.ensures.items ∙ ap (λ (v : Vec ℕ Global). v.items) (sym c.index-lists-place.is)))
