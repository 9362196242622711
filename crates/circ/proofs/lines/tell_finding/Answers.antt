use Rattle.std.proofs.Common.{ℕ, List, subst}
use Rattle.circ_audit.specs.Findings.{number_of}
use Rattle.circ.specs.declared.lines.Exit.TheVariants.{Refused}
use Rattle.circ.specs.Lines.{unsound_line, EndsWith}
use Rattle.circ.proofs.lines.tell_finding.Goals as goal

pub returns : goal.returns
returns g c =
    subst (λ (words : List ℕ). EndsWith Refused (unsound_line words (number_of c.args.finding)) (g.W.Write.contents c.args.writer.now)
    (g.W.Write.contents c.tell_unsound.new.writer) c.tell_unsound.result) c.law_words.ensures
    (subst (λ (n : ℕ). EndsWith Refused (unsound_line c.law_words.result.now n) (g.W.Write.contents c.args.writer.now)
    (g.W.Write.contents c.tell_unsound.new.writer) c.tell_unsound.result) c.number_of.ensures c.tell_unsound.ensures)
