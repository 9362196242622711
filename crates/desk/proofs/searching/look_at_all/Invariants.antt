use Rattle.std.proofs.Common.{ℕ, map, take}
use Rattle.model.specs.History.{History}
use Rattle.model.specs.Asking.{last_of}
use Rattle.desk.specs.Searching.{HasListed}
use Rattle.desk.specs.Searching.{SearchGoesOn}
use Rattle.desk.proofs.searching.look_at_all.Given as goal

abbrev pub invariant-rows : goal.invariant-rows
invariant-rows g l = (H : History) (at : ℕ)
    → HasListed g.T.Searched.number_of (λ r. g.T.Searched.IsRow r H) (g.T.Searched.search H l.query).all at l.rows
    → SearchGoesOn (g.T.Searched.search H l.query) at (last_of at (map g.T.Searched.number_of (take l.row-index l.rows))) l.fn.seen l.seen
