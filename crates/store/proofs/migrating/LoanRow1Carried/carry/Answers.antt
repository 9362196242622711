use Rattle.std.proofs.Common.{arith}
use Rattle.circ_tables.specs.TableSchemas.{has_third}
use Rattle.store.proofs.ChangeSteps.{changes_then, changes_failed}
use Rattle.store.proofs.migrating.LoanRow1Carried.carry.Goals as goal

pub returns-in_err-put_row : goal.returns-in_err-put_row
returns-in_err-put_row g c = changes_failed g.S.Store _ c.from_residual.ensures c.in_err-put_row.ensures.changes

pub returns : goal.returns
returns g c = rw c.new.ensures at (changes_then g.S.Store has_third (λ n has. (has, (let low = has.0 in omega (arith, low), has.1)))
    c.in_ok-put_row.ensures.changes c.take_row.ensures.changes)
