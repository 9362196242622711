use Rattle.std.proofs.Common.{sym, subst}
use Rattle.clap.specs.Words.{App, new_app}
use Rattle.front.specs.Line.{IsApp, with_required}
use Rattle.front.proofs.Tables.{fold-names_more}
use Rattle.front.proofs.parser.subcommand.Goals as goal

pub loop-part-preserved : goal.loop-part-preserved
loop-part-preserved c =
    subst (λ (app : App). IsApp c.in_ok-line.line app)
    (sym (fold-names_more with_required (new_app c.args.name.now) c.args.parts.now c.loop-part.part-index _ c.loop-part-test.true))
    (c.in_ok-line.ensures _ c.loop-part.invariant)
