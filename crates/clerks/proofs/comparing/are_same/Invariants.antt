use Rattle.std.specs.Prelude.{MatchBool}
use Rattle.clerks.proofs.Agreeing.{Agree}
use Rattle.clerks.proofs.comparing.are_same.Given as goal

-- what was found of the bytes before this place
abbrev pub invariant-places : goal.invariant-places
invariant-places l = MatchBool l.are_same (Agree l.one l.other l.place) (Agree l.one l.other l.place → ⊥)
