use Rattle.std.proofs.Common.{rules, ◌≡◌, true, false, sym, ◌∙◌}
use Rattle.finding.specs.Finding.{folded, begins_with}
use Rattle.finding.proofs.SearchLemmas.{occurs-here, occurs-nowhere, occurs-later}
use Rattle.finding.proofs.searching.occurs.Goals as goal

pub loop-text_left-preserved : goal.loop-text_left-preserved
loop-text_left-preserved c =
    let here : begins_with (folded c.args.word.now) (folded c.loop-text_left.text_left.now) ≡ false = cc in
    (search rules, c.loop-text_left.invariant.1 ∙ occurs-later _ _ _ c.in-Some._first c.in-Some.ensures.next here)

pub returns-in-None : goal.returns-in-None
returns-in-None c =
    let here : begins_with (folded c.args.word.now) (folded c.loop-text_left.text_left.now) ≡ false = cc in
    sym (c.loop-text_left.invariant.1 ∙ occurs-nowhere _ _ c.in-None.ensures.next here)

pub returns : goal.returns
returns c =
    let here : begins_with (folded c.args.word.now) (folded c.loop-text_left.text_left.now) ≡ true = cc in
    sym (c.loop-text_left.invariant.1 ∙ occurs-here _ _ here)
