use Rattle.std.proofs.Common.{◌≤◌, ◌<◌, length, List, ap, subst, arith}
use Rattle.std.proofs.lemmas.Bool.Decides.{nat_tests}
use mathlib.Core.List.{IsPrefix}
use Rattle.chronicle.proofs.Beginnings.{prefix_shorter}
use Rattle.chronicle.proofs.beginning.Beginning.begins.Goals as goal

pub returns-clause-yes : goal.returns-clause-yes
returns-clause-yes g c = λ few.
    let both = c.learn.new.self.log in
    let this : IsPrefix c.self.inside.seen.log both =
    subst (λ (l : List g.row.E.Denot). IsPrefix l both) (ap (λ s. s.log) c.again-both.ensures) c.learn.ensures.2 in
    let counted : c.self.inside.count ≤ c.other.inside.count = grind (arith, nat_tests) in
    let less : length c.self.inside.seen.log ≤ length c.other.inside.seen.log = omega (arith, counted, c.self.invariant, c.other.invariant) in
    rw (← c.self.view_is, ← c.other.view_is) (prefix_shorter c.self.inside.seen.log c.other.inside.seen.log both this c.learn.ensures.3 less)

pub returns-clause-no : goal.returns-clause-no
returns-clause-no g c = λ more.
    let counted : c.other.inside.count < c.self.inside.count = grind (arith, nat_tests) in
    let less : length c.other.inside.seen.log < length c.self.inside.seen.log = omega (arith, counted, c.self.invariant, c.other.invariant) in
    rw (← c.self.view_is, ← c.other.view_is) less
