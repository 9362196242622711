use Rattle.store.proofs.GivenNumbers.{made_if_free, made_unless_free}
use Rattle.store.proofs.changing.make_command.Goals as goal

pub returns-in_err-numbers_are_free : goal.returns-in_err-numbers_are_free
returns-in_err-numbers_are_free g c = made_unless_free g.S.Store c.args.changes.now c.args.kept.now c.from_residual.result _ c.from_residual.ensures
    c.in_err-numbers_are_free.ensures

pub returns : goal.returns
returns g c = made_if_free g.S.Store c.args.changes.now c.args.kept.now c.change_and_keep.result c.in_ok-numbers_are_free.ensures c.change_and_keep.ensures
