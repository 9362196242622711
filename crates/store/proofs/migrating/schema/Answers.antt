use Rattle.std.proofs.Common.{◌≡◌, ◌∙◌, inl, inr, IsTrue, sym, arith, rules}
use Rattle.sqlite.specs.Held.{state}
use Rattle.sqlite.proofs.StateLemmas.{survives_weaker}
use Rattle.circ_tables.specs.SchemaNumber.{NamesSchema}
use Rattle.circ_tables.proofs.InverseLemmas.{schema_told}
use Rattle.store.proofs.OpenLemmas.{of_known}
use Rattle.store.proofs.SchemaSteps.{can_be_told}
use Rattle.store.proofs.StopLemmas.{if_ok}
use Rattle.store.proofs.migrating.schema.Goals as goal

pub returns : goal.returns
returns g c =
    let old = state g.S.Store c.args.conn.now in
    let undone = c.schema_of.ensures.undone (search rules) in
    let settled : IsTrue old.is_open → old.now ≡ old.committed = c.committed_is_held.ensures in
    record {
      clean = λ clean. omega (arith, undone.survives.clean);
      idle = undone.idle;
      now = λ clean is. let same = undone.same clean is in same.1 ∙ sym (settled same.0);
      committed = λ clean is. let same = undone.same clean is in same.2 ∙ sym (settled same.0);
      left = λ clean trees may. elim (undone.survives.crash clean trees may) [ inl before ↦ before | inr none ↦ absurd none ];
      ready = survives_weaker old (state g.S.Store c.schema_of.new.conn) _ _ (λ _ _ _. tt) undone.survives;
      told = λ clean. if_ok c.schema_of.result
          (λ named names n known P shown. schema_told shown.maps P named shown.encodes
          (of_known (λ maps. NamesSchema maps named) old.now names n known shown.maps shown.holds)) (c.schema_of.ensures.named clean);
      sound = λ clean told. can_be_told old.now (c.schema_of.ensures.stored clean told);
    }
