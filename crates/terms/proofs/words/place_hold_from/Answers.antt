use Rattle.std.proofs.Common.{refl, codes}
use Rattle.terms.proofs.Faults.{same_error}
use Rattle.terms.proofs.CommandLemmas.{no_day}
use Rattle.terms.specs.Commands.{parts_in}
use Rattle.terms.proofs.words.place_hold_from.Goals as goal

pub returns-in_err-day-clause-refused : goal.returns-in_err-day-clause-refused
unfolding parts_in
returns-in_err-day-clause-refused c = λ e.
    no_day (codes "place-hold-from") c.args.values.now 3 _ refl
    (c.in_err-day.ensures.refused (same_error _ c.in_err-day.field-0.0 _ c.from_residual-in_err-day.ensures.1 e))
