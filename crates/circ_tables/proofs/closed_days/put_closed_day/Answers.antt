use Rattle.std.proofs.Common.{pos}
use Rattle.circ_tables.proofs.PictureLemmas.{closed_day_drawn}
use Rattle.circ_tables.proofs.PairedLemmas.{pair_puts, closed_day_fills}
use Rattle.circ_tables.specs.Cells.{number, pair_key}
use Rattle.circ_tables.specs.ClosedDays.{closed_days_are}
use Rattle.circ_tables.proofs.PutLemmas.{apart, puts_of}
use Rattle.circ_tables.proofs.closed_days.put_closed_day.Goals as goal

pub returns : goal.returns
returns g c = puts_of _ _ _ _ (λ n has. pair_puts (closed_days_are n has) (apart n) (number c.args.branch) (number c.args.day)
    (pair_key c.args.branch c.args.day) (closed_day_fills (pos c.args.branch) (pos c.args.day)))
    (λ n has a b any. closed_day_drawn n a b c.args.branch c.args.day)
    (rw (c.params-to_sql.ensures, c.number.ensures.value, c.params-to_sql-2.ensures, c.number-2.ensures.value) at c.run.ensures)
