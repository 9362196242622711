use Rattle.std.proofs.Common.{ℕ, List, subst}
use Rattle.circ.specs.declared.lines.Exit.TheVariants.{Refused}
use Rattle.circ.specs.Lines.{unsound_line, old_number, EndsWith}
use Rattle.circ.proofs.lines.tell_old_row.Goals as goal

pub returns : goal.returns
returns g c =
    subst (λ (words : List ℕ). EndsWith Refused (unsound_line words (old_number c.args.row)) (g.W.Write.contents c.args.writer.now)
    (g.W.Write.contents c.tell_unsound.new.writer) c.tell_unsound.result) c.old_words.ensures
    (subst (λ (n : ℕ). EndsWith Refused (unsound_line c.old_words.result.now n) (g.W.Write.contents c.args.writer.now)
    (g.W.Write.contents c.tell_unsound.new.writer) c.tell_unsound.result) c.old_number.ensures c.tell_unsound.ensures)
