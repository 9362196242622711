use Rattle.std.proofs.Common.{refl}
use Rattle.circ_tables.proofs.PictureLemmas.{open_day_drawn}
use Rattle.circ_tables.proofs.PairedLemmas.{pair_takes}
use Rattle.circ_tables.specs.Cells.{number}
use Rattle.circ_tables.specs.ClosedDays.{closed_days_are}
use Rattle.circ_tables.proofs.PutLemmas.{apart, puts_of}
use Rattle.circ_tables.proofs.closed_days.take_closed_day.Goals as goal

pub returns : goal.returns
returns g c = puts_of _ _ _ _ (λ n has. pair_takes (closed_days_are n has) (apart n) (number c.args.branch) (number c.args.day) refl refl)
    (λ n has a b any. open_day_drawn n a b c.args.branch c.args.day)
    (rw (c.params-to_sql.ensures, c.number.ensures.value, c.params-to_sql-2.ensures, c.number-2.ensures.value) at c.run.ensures)
