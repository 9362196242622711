use Rattle.std.proofs.Common.{codes, refl}
use Rattle.terms.proofs.Faults.{same_error}
use Rattle.terms.proofs.CommandLemmas.{no_amount}
use Rattle.terms.specs.Commands.{parts_in}
use Rattle.terms.proofs.words.kind.Goals as goal

pub returns-in_err-debt-clause-refused : goal.returns-in_err-debt-clause-refused
unfolding parts_in
returns-in_err-debt-clause-refused c = λ e.
    no_amount (codes "kind") c.args.values.now 3 _ refl
    (c.in_err-debt.ensures.refused (same_error _ c.in_err-debt.field-0.0 _ c.from_residual-in_err-debt.ensures.1 e))
