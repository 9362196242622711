use Rattle.std.proofs.Common.{◌∙◌}
use Rattle.desk.proofs.SearchLemmas.{searched-is}
use Rattle.desk.proofs.Looking.{gives}
use Rattle.desk.proofs.searching.search_text.Goals as goal

pub returns : goal.returns
returns g c = gives c.in_ok-seen.ensures (λ H list given. tt) (λ H legal given searched rising bare.
    c.in_ok-with_end.ensures ∙ searched-is (g.T.Searched.search H c.args.query.now) c.args.after c.in_ok-seen.seen rising searched bare)
