use Rattle.std.proofs.Common.{◌≡◌, ◌≤◌, ◌∙◌, length, List, ap, refl, subst, sym, take, arith}
use Rattle.std.proofs.lemmas.List.{take_all}
use Rattle.std.specs.Prelude.{unwrap_or}
use Rattle.terms.specs.Pictures.{Picture}
use Rattle.circ_core.specs.Tables.{change, changed}
use Rattle.circ_core.specs.declared.changes.RowChange.{RowChange}
use Rattle.store.proofs.ChangeSteps.{changed_next, past}
use Rattle.store.proofs.GivenNumbers.{meta_after}
use Rattle.store.proofs.numbers.meta_put.Goals as goal

pub places-preserved : goal.places-preserved
places-preserved c = record {
  so_far = λ P.
      ap (λ (Q : Picture). Q.meta)
      (changed_next change changed (λ Q. refl) (λ x list Q. refl) c.args.changes.now c.places.place c.in-Some.change.now c.in-Some.ensures.value P)
      ∙ subst (λ o. (change c.in-Some.change.now (changed (take c.places.place c.args.changes.now) P)).meta ≡ unwrap_or o P.meta) (sym c.put_after-put.ensures)
      (meta_after c.in-Some.change.now c.places.put P.meta (changed (take c.places.place c.args.changes.now) P) (c.places.invariant.so_far P));
  few = λ _. c.get.ensures.few;
}

pub returns-in-None : goal.returns-in-None
returns-in-None c = λ P.
    ap (λ (xs : List RowChange). (changed xs P).meta)
    (sym (take_all c.places.place c.args.changes.now (past c.args.changes.now c.places.place c.in-None.ensures.value)))
    ∙ c.places.invariant.so_far P

pub returns : goal.returns
returns c = λ P.
    let whole : length c.args.changes.now ≤ c.places.place = omega (arith, c.places-test.false, c.places.invariant.few) in
    ap (λ (xs : List RowChange). (changed xs P).meta) (sym (take_all c.places.place c.args.changes.now whole)) ∙ c.places.invariant.so_far P
