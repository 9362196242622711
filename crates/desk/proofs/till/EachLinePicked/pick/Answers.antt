use Rattle.std.proofs.Common.{sym}
use Rattle.desk.proofs.Founds.{found-nothing, found-as}
use Rattle.desk.proofs.TillBatches.{every}
use Rattle.desk.proofs.till.EachLinePicked.pick.Goals as goal

pub returns : goal.returns
returns g c = found-as (found-nothing {Is = λ _ _. Unit {0}} (λ P legal. tt)) (λ P legal _. sym (every c.args.rows.items))
