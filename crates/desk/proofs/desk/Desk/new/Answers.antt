use Rattle.std.proofs.Common.{◌≡◌, ◌∙◌, inl, sym, subst, arith, rules, []}
use Rattle.std.specs.Prelude.{Err}
use Rattle.store.specs.Library.{state, IsClean, IsOpen, IsAsItWas}
use Rattle.store.specs.Schemas.{IsKnown}
use Rattle.terms.specs.declared.fault.Fault.TheVariants.{Stored}
use Rattle.terms.specs.declared.limits.TheConstants.{SCHEMA}
use Rattle.model.specs.Picture.{picture}
use Rattle.desk.specs.Running.{Begins}
use Rattle.desk.proofs.Unchanged.{keeps-as}
use Rattle.desk.proofs.desk.Desk.new.Goals as goal

newest : IsKnown SCHEMA
newest = (omega arith, omega arith)

pub returns-in_err-schema : goal.returns-in_err-schema
returns-in_err-schema g c =
    let told : c.from_residual.result ≡ Err c.in_err-schema.field-0.0 = search rules in
    subst (λ r. Begins g.S.Store c.args.store r) (sym told) (record {
      clean = tt;
      nothing = tt;
      left = tt;
      begins = tt;
      older = tt;
      made = λ stored. record {
        last = c.schema.new.self;
        ready = c.schema.ensures.ready;
        clean = c.schema.ensures.clean;
        nothing = λ clean is. record { now = c.schema.ensures.now clean is; left = λ trees may. inl (c.schema.ensures.left clean trees may) };
        none = λ clean H shows.
            let same : c.schema.result ≡ Err Stored = search rules in
            c.schema.ensures.sound clean same SCHEMA newest (picture H) shows.tables.now (omega arith);
      };
      ready = tt;
    })

pub returns-then-branch-ne-SCHEMA : goal.returns-then-branch-ne-SCHEMA
returns-then-branch-ne-SCHEMA g c = record {
  clean = tt;
  nothing = tt;
  left = tt;
  begins = tt;
  older = tt;
  made = λ stored. record {
    last = c.schema.new.self;
    ready = c.in_ok-schema.ensures.ready;
    clean = c.in_ok-schema.ensures.clean;
    nothing = λ clean is. record { now = c.in_ok-schema.ensures.now clean is; left = λ trees may. inl (c.in_ok-schema.ensures.left clean trees may) };
    none = λ clean H shows. c.if-branch-ne-SCHEMA.true (sym (c.in_ok-schema.ensures.told clean SCHEMA newest (picture H) shows.tables.now));
  };
  ready = tt;
}

pub returns : goal.returns
returns g c =
    let old = state g.S.Store c.args.store in
    let new = state g.S.Store c.schema.new.self in
    let told = c.in_ok-schema.ensures in
    let nothing : IsClean g.S.Store c.schema.new.self → IsOpen g.S.Store c.schema.new.self → IsAsItWas old new =
    λ clean is. record { now = told.now clean is; left = λ trees may. inl (told.left clean trees may) } in
    record {
      clean = told.clean;
      nothing = nothing;
      left = λ clean P it trees may. it.left trees (told.left clean trees may);
      begins = λ clean is it. record { legal = search rules; forms = search rules; tables = keeps-as old new (picture []) (nothing clean is) it };
      older = λ clean n known P shown. told.told clean n known P shown ∙ c.if-branch-ne-SCHEMA.false;
      made = tt;
      ready = told.ready;
    }
