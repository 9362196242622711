use Rattle.std.proofs.Common.{rules, sym, ◌∙◌}
use Rattle.finding.proofs.SearchLemmas.{begins-nil, begins-none, begins-other, begins-same}
use Rattle.finding.proofs.searching.begins.Goals as goal

pub loop-letter-preserved : goal.loop-letter-preserved
loop-letter-preserved c = (
  search rules,
  search rules,
  c.loop-letter.invariant.2 ∙ begins-same _ _ _ _ c.in-Some.letter c.in-Some-take_letter.other c.in-Some.ensures.next c.in-Some-take_letter.ensures.next c.if-letter-other.false,
)

pub returns : goal.returns
returns c = sym (c.loop-letter.invariant.2 ∙ begins-nil _ _ c.in_default.ensures.next)

pub returns-then-letter-other : goal.returns-then-letter-other
returns-then-letter-other c = sym (c.loop-letter.invariant.2
    ∙ begins-other _ _ _ _ c.in-Some.letter c.in-Some-take_letter.other c.in-Some.ensures.next c.in-Some-take_letter.ensures.next c.if-letter-other.true)

pub returns-in-None : goal.returns-in-None
returns-in-None c = sym (c.loop-letter.invariant.2 ∙ begins-none _ _ _ c.in-Some.letter c.in-Some.ensures.next c.in-None.ensures.next)
