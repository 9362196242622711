use Rattle.std.proofs.Common.{◌≡◌, ◌<◌, refl, length, sym, subst, ap, ◌∙◌, arith, rules}
use Rattle.std.specs.Prelude.{[], ◌∷◌}
use Rattle.sqlite.specs.Held.{state}
use Rattle.sqlite.specs.Order.{column}
use Rattle.sql_maps.proofs.LookLemmas.{ok_then}
use Rattle.sql_maps.proofs.ReadLemmas.{shown_unchanged}
use Rattle.circ_tables.specs.Numbered.{grown}
use Rattle.circ_tables.specs.declared.meta.TheConstants.{ALL_META}
use Rattle.circ_tables.proofs.FoundLemmas.{schema_found, all_meta_plain}
use Rattle.circ_tables.proofs.KnownLemmas.{meta_understood, named_alone, named_wide}
use Rattle.circ_tables.proofs.QueryLemmas.{query_works}
use Rattle.circ_tables.proofs.schema_number.schema_inside.Goals as goal

pub returns-in-Err-SqlInputError : goal.returns-in-Err-SqlInputError
returns-in-Err-SqlInputError g c =
    let old = state g.S.Store c.args.tx.now.conn.now in
    let new = state g.S.Store c.query_all.new.self.conn.now in
    record {
      works = query_works g.S.Store _ _ _ _ _ c.query_all.result c.query_all.ensures.same_reference c.query_all.ensures.survives
          c.query_all.ensures.ok c.query_all.ensures.err;
      named = search rules;
      stored = λ clean is more others maps holds n few names. meta_understood more others old new c.in-Err-SqlInputError.field-0-0
          holds.schema_is (rw c.in-Err-SqlInputError.field-0-is at (c.in-Err-SqlInputError.ensures.err clean));
    }

pub returns-in-Err : goal.returns-in-Err
returns-in-Err g c =
    let old = state g.S.Store c.args.tx.now.conn.now in
    let new = state g.S.Store c.query_all.new.self.conn.now in
    record {
      works = query_works g.S.Store _ _ _ _ _ c.query_all.result c.query_all.ensures.same_reference c.query_all.ensures.survives
          c.query_all.ensures.ok c.query_all.ensures.err;
      named = search rules;
      stored = search rules;
    }

pub returns-in_err-one_of : goal.returns-in_err-one_of
returns-in_err-one_of g c =
    let old = state g.S.Store c.args.tx.now.conn.now in
    let new = state g.S.Store c.query_all.new.self.conn.now in
    record {
      works = query_works g.S.Store _ _ _ _ _ c.query_all.result c.query_all.ensures.same_reference c.query_all.ensures.survives
          c.query_all.ensures.ok c.query_all.ensures.err;
      named = search rules;
      stored = λ clean is more others maps holds n few names.
          let alone = named_alone more others old new c.in-Ok.rows.items (c.in-Ok.ensures.ok clean) maps holds n names in
          let one : length c.as_slice.result.now ≡ 1 = ap length (c.as_slice.ensures.value ∙ alone) in
          c.in_err-one_of.ensures.err one;
    }

pub returns : goal.returns
returns g c =
    let old = state g.S.Store c.args.tx.now.conn.now in
    let new = state g.S.Store c.query_all.new.self.conn.now in
    record {
      works = query_works g.S.Store _ _ _ _ _ c.query_all.result c.query_all.ensures.same_reference c.query_all.ensures.survives
          c.query_all.ensures.ok c.query_all.ensures.err;
      named = λ clean.
          let one = sym c.as_slice.ensures.value ∙ c.in_ok-one_of.ensures.ok in
          let shown = c.in-Ok.ensures.ok clean in
          ok_then c.number_at.result
          (λ n is more others maps holds. (
            schema_found more others old new c.in-Ok.rows.items c.in_ok-one_of.field-0.now n one shown is.0 maps holds,
            shown_unchanged ALL_META.now [] old new (grown more others) holds.schema_is
                (all_meta_plain more others (grown more others) refl) c.in-Ok.rows.items shown,
          )) c.number_at.ensures.ok;
      stored = λ clean is more others maps holds n few names.
          let alone = named_alone more others old new c.in-Ok.rows.items (c.in-Ok.ensures.ok clean) maps holds n names in
          let row = c.in_ok-one_of.field-0.now in
          let both : row ∷ [] ≡ names.row ∷ [] = sym (sym c.as_slice.ensures.value ∙ c.in_ok-one_of.ensures.ok) ∙ alone in
          let same : row ≡ names.row = cc in
          let wide : 1 < length row = subst (λ r. 1 < length r) (sym same) (named_wide more others old.now maps holds n names) in
          c.number_at.ensures.stored is wide n (omega arith) (omega (arith, few)) (ap (λ r. column r 1) same ∙ names.schema);
    }
