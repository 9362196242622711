use Rattle.std.proofs.Common.{rules}
use Rattle.circ_tables.proofs.NumberedLemmas.{tells_row}
use Rattle.circ_tables.proofs.by_number.has_row_inside.Goals as goal

pub returns-in_err-rows : goal.returns-in_err-rows
returns-in_err-rows g c = record { works = c.all_rows_inside.ensures.works; inside = search rules; tells = search rules; shows = search rules; fault = search rules }

pub returns : goal.returns
returns g c =
    let asked = rw (c.texts.ensures.get, c.params-to_sql.ensures) at c.in_ok-rows.ensures in
    tells_row g.met.T.Numbered.sound c.args.number g.S.Store _ _ _ _ (search rules) asked.works asked.shown
