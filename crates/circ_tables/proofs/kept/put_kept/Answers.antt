use Rattle.std.proofs.Common.{pos, subst}
use Rattle.circ_tables.specs.Cells.{number, owner_number}
use Rattle.terms.specs.declared.row.KeptRow.{KeptRow}
use Rattle.circ_tables.proofs.PictureLemmas.{kept_drawn}
use Rattle.circ_tables.proofs.PairedLemmas.{pair_puts, kept_fills}
use Rattle.circ_tables.specs.Kept.{kept_are}
use Rattle.sqlite.specs.declared.types.Value.TheVariants.{Text}
use Rattle.circ_tables.proofs.PutLemmas.{apart, puts_of}
use Rattle.circ_tables.specs.Puts.{PutsKept}
use Rattle.circ_tables.proofs.kept.put_kept.Goals as goal

pub returns : goal.returns
returns g c =
    subst (λ (r : KeptRow). PutsKept r g.S.Store c.args.tx.now c.run.new.tx c.run.result) c.row.view_is
    (puts_of _ _ _ _ (λ n has. pair_puts (kept_are n has) (apart n) (number (owner_number c.row.inside.caller))
    (Text c.row.inside.key.now) _ (kept_fills (pos (owner_number c.row.inside.caller)) c.row.inside.key.now c.row.inside.text.now
    c.row.inside.reply.now)) (λ n has a b owner. kept_drawn n a b _ owner)
    (rw (
      c.params-to_sql.ensures,
      c.owner_number.ensures,
      c.params-to_sql-2.ensures,
      c.as_str.ensures.value,
      c.params-to_sql-3.ensures,
      c.as_str-2.ensures.value,
      c.params-to_sql-4.ensures,
      c.as_str-3.ensures.value,
    ) at c.run.ensures))
