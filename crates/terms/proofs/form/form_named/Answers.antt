use Rattle.std.proofs.Common.{◌∙◌, sym}
use Rattle.terms.proofs.TableLemmas.{parts-here, parts-later, parts-none}
use Rattle.terms.proofs.form.form_named.Goals as goal

pub returns-then-eq : goal.returns-then-eq
returns-then-eq c =
    sym (parts-here c.args.forms.now c.args.name.now c.loop-form.form-index _ c.loop-form-test.true (sym c.eq.ensures ∙ c.if-eq.true))
    ∙ c.loop-form.invariant

pub loop-form-preserved : goal.loop-form-preserved
loop-form-preserved c =
    sym (parts-later c.args.forms.now c.args.name.now c.loop-form.form-index _ c.loop-form-test.true (sym c.eq.ensures ∙ c.if-eq.false))
    ∙ c.loop-form.invariant

pub returns : goal.returns
returns c = sym (parts-none c.args.forms.now c.args.name.now c.loop-form.form-index c.loop-form-test.false) ∙ c.loop-form.invariant
