use Rattle.desk.proofs.Founds.{found-as, found-err, found-stops}
use Rattle.desk.proofs.till.till_text_at.Goals as goal

pub returns-in_err-sums : goal.returns-in_err-sums
returns-in_err-sums g c = found-err _ c.from_residual.ensures c.in_err-sums.ensures

pub returns-in_err-till_at_lines : goal.returns-in_err-till_at_lines
returns-in_err-till_at_lines g c = found-stops c.in_ok-sums.ensures _ c.from_residual-in_err-till_at_lines.ensures

pub returns : goal.returns
returns g c = found-as c.in_ok-sums.ensures (λ P legal of. (_, of, c.in_ok-till_at_lines.ensures))
