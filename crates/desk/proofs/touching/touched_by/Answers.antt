use Rattle.std.proofs.Common.{◌≡◌, ℕ, ◌+◌, ◌≤◌, List, [], ◌∷◌, ◌++◌, length, take, sym, ◌∙◌, ap, arith}
use Rattle.std.specs.List.{cons_option}
use Rattle.std.proofs.lemmas.List.{append-nil, append_assoc, length-append, take_all}
use Rattle.circ_core.specs.declared.changes.RowChange.{RowChange}
use Rattle.desk.specs.Touching.{patrons_put}
use Rattle.desk.proofs.Untouched.{patrons-next}
use Rattle.desk.proofs.touching.touched_by.Goals.{in-Some-patron_put+in_ok-push-in-Some, in_default}
use Rattle.desk.proofs.touching.touched_by.Goals as goal

pub places-preserved : goal.places-preserved
places-preserved c =
    let xs : List RowChange = c.args.changes.now in
    let i : ℕ = c.places.place in
    let rs : List ℕ = c.args.readers in
    let next = patrons-next xs i c.in-Some.change.now (sym c.in-Some.ensures.value) in
    elim c.match-patron_put.branch [
      | in-Some-patron_put+in_ok-push-in-Some w ↦
          let more = w.touched-is ∙ w.in_ok-push-in-Some.ensures.added in
          let one_more : length c.match-patron_put.touched ≡ length c.places.touched + 1 =
          ap length more ∙ length-append c.places.touched (w.in-Some-patron_put.patron ∷ []) in
          record {
            so_far = more ∙ ap (λ (ps : List ℕ). ps ++ w.in-Some-patron_put.patron ∷ []) c.places.invariant.so_far
                ∙ append_assoc rs (patrons_put (take i xs)) (w.in-Some-patron_put.patron ∷ [])
                ∙ ap (λ (ps : List ℕ). rs ++ ps) (sym (next ∙ ap (λ o. patrons_put (take i xs) ++ cons_option o [])
                (sym c.patron_put.ensures ∙ w.in-Some-patron_put.is)));
            room = λ blank. let before : length c.places.touched ≤ i = c.places.invariant.room blank in omega (arith, one_more, before);
            few = λ _. c.get.ensures.few;
          }
      | in_default w ↦
          let as_long : length c.match-patron_put.touched ≡ length c.places.touched = ap length w.touched-is in
          record {
            so_far = w.touched-is ∙ c.places.invariant.so_far
                ∙ ap (λ (ps : List ℕ). rs ++ ps) (sym (next ∙ ap (λ o. patrons_put (take i xs) ++ cons_option o []) (sym c.patron_put.ensures ∙ w.in_default.is)
                ∙ append-nil (patrons_put (take i xs))));
            room = λ blank. let before : length c.places.touched ≤ i = c.places.invariant.room blank in omega (arith, as_long, before);
            few = λ _. c.get.ensures.few;
          }
    ]

pub returns-clause-touched : goal.returns-clause-touched
returns-clause-touched c =
    let whole : length c.args.changes.now ≤ c.places.place = omega (arith, c.places-test.false, c.places.invariant.few) in
    c.places.invariant.so_far ∙ ap (λ (ys : List RowChange). c.args.readers ++ patrons_put ys) (take_all c.places.place c.args.changes.now whole)
