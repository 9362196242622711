use Rattle.std.proofs.Common.{rules, refl}
use Rattle.web.proofs.Takings.{nothing-taken}
use Rattle.web.proofs.request.read_request.Goals as goal

pub returns-in_default-clause-takes : goal.returns-in_default-clause-takes
returns-in_default-clause-takes g c = nothing-taken g.R.Source.reads g.R.Read.remaining _ _ refl

pub returns-in_err-buf-clause-takes : goal.returns-in_err-buf-clause-takes
returns-in_err-buf-clause-takes g c = nothing-taken g.R.Source.reads g.R.Read.remaining _ c.from_residual.result (search rules)

pub returns-in_err-headers-clause-takes : goal.returns-in_err-headers-clause-takes
returns-in_err-headers-clause-takes g c =
    nothing-taken g.R.Source.reads g.R.Read.remaining _ c.from_residual-in_err-headers.result (search rules)
