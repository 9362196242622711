use Rattle.std.proofs.Common.{◌≡◌, refl, ◌∙◌, rules, arith}
use Rattle.sqlite.specs.Held.{state}
use Rattle.sqlite.specs.State.{State, HasCleanDisk, Survives}
use Rattle.sqlite.proofs.StateLemmas.{survives_then}
use Rattle.sql_maps.proofs.CallLemmas.{same_keeps}
use Rattle.sql_maps.proofs.CreateLemmas.{keeps_then, moves_then}
use Rattle.circ_tables.proofs.schema.make_absent_indexes.Goals as goal

then : (a b c : State) → Survives a b (λ _. ⊥) → Survives b c (λ _. ⊥) → Survives a c (λ _. ⊥)
then a b c one two = survives_then a b c _ _ _ (λ _ db none. none) (λ _ db none. none) one two

pub texts-init : goal.texts-init
texts-init g c = (
  refl,
  search rules,
  λ clean. same_keeps (state g.S.Store c.args.tx.now.conn.now),
  λ clean begun. record { maps = λ maps free h. h; is_inside = begun; committed = refl },
)

pub returns-in_err-make_absent : goal.returns-in_err-make_absent
returns-in_err-make_absent g c = record {
  works = record {
    same_reference = c.make_absent.ensures.works.same_reference ∙ c.texts.invariant.0;
    kept = λ clean.
        let was : HasCleanDisk (state g.S.Store c.texts.tx.conn.now) = omega (arith, c.make_absent.ensures.works.survives.clean) in
        keeps_then _ _ _ (c.texts.invariant.2 was) (c.make_absent.ensures.works.kept clean);
    survives = then _ _ _ c.texts.invariant.1 c.make_absent.ensures.works.survives;
  };
  moves = search rules;
  fault = search rules;
}

pub texts-preserved : goal.texts-preserved
texts-preserved g c =
    let was : HasCleanDisk (state g.S.Store c.make_absent.new.tx.conn.now) → HasCleanDisk (state g.S.Store c.texts.tx.conn.now) =
    λ clean. omega (arith, c.make_absent.ensures.works.survives.clean) in (
      c.make_absent.ensures.works.same_reference ∙ c.texts.invariant.0,
      then _ _ _ c.texts.invariant.1 c.make_absent.ensures.works.survives,
      λ clean. keeps_then _ _ _ (c.texts.invariant.2 (was clean)) (c.make_absent.ensures.works.kept clean),
      λ clean begun. let one = c.texts.invariant.3 (was clean) begun in
          moves_then _ _ _ (omega arith) _ _ _ one (c.in_ok-make_absent.ensures.moves clean one.is_inside),
    )

pub returns : goal.returns
returns g c = record {
  works = record { same_reference = c.texts.invariant.0; kept = c.texts.invariant.2; survives = c.texts.invariant.1 };
  moves = λ clean begun. c.texts.invariant.3 clean begun;
  fault = search rules;
}
