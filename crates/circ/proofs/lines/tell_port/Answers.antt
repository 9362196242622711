use Rattle.std.proofs.Common.{List, ℕ, [], ◌∷◌, ◌++◌, subst, ◌∙◌}
use Rattle.std.specs.Prelude.{codes}
use Rattle.terms.specs.Writing.{Writes}
use Rattle.circ.proofs.lines.tell_port.Goals as goal

pub returns : goal.returns
returns g c =
    subst (λ (digits : List ℕ). Writes (codes "listening on " ++ (digits ++ 10 ∷ [])) (g.W.Write.contents c.args.writer.now)
    (g.W.Write.contents c.write_pieces.new.writer) c.write_pieces.result)
    (c.as_bytes.ensures.value ∙ c.format.ensures.text) c.write_pieces.ensures
