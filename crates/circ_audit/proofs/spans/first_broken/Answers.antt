use Rattle.std.proofs.Common.{ℕ, ◌<◌, subst}
use Rattle.circ_audit.specs.Spans.{span_of}
use Rattle.circ_audit.proofs.Firsts.{before-first}
use Rattle.circ_audit.proofs.spans.first_broken.Goals as goal

pub loop-after-init : goal.loop-after-init
loop-after-init g c m lt =
    before-first (g.L.Law.keeps c.args.tables.now) c.args.after m (subst (λ (span : ℕ). span_of m < span) c.first_span-span.ensures lt)
