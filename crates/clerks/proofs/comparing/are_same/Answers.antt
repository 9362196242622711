use Rattle.std.proofs.Common.{arith}
use Rattle.clerks.proofs.Agreeing.{agree-decides}
use Rattle.clerks.proofs.comparing.are_same.Goals as goal

pub returns : goal.returns
returns c = agree-decides c.places.are_same c.args.one.now c.args.other.now c.places.place
    (omega (arith, c.requires.one, c.places-test.false)) c.places.invariant
