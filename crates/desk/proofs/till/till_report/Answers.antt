use Rattle.desk.proofs.Founds.{found-as, found-err, found-stops}
use Rattle.desk.proofs.till.till_report.Goals as goal

pub returns-in_err-till_text : goal.returns-in_err-till_text
returns-in_err-till_text g c = found-err _ c.from_residual.ensures c.in_err-till_text.ensures

pub returns-in_err-with_newline : goal.returns-in_err-with_newline
returns-in_err-with_newline g c = found-stops c.in_ok-till_text.ensures _ c.from_residual-in_err-with_newline.ensures

pub returns : goal.returns
returns g c = found-as c.in_ok-till_text.ensures (λ P legal of. (_, of, c.in_ok-with_newline.ensures))
