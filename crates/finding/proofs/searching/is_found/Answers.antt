use Rattle.std.proofs.Common.{rules, ◌&&◌, Bool, sym, ap, ◌∙◌, arith}
use Rattle.std.proofs.lemmas.Str.Pattern.{split_once_first}
use Rattle.finding.proofs.SearchLemmas.{finds-word, finds-last}
use Rattle.finding.specs.Finding.{finds}
use Rattle.finding.proofs.searching.is_found.Goals as goal

pub returns-then-not-occurs : goal.returns-then-not-occurs
returns-then-not-occurs c =
    let cut = rw c.in-Some.is at (split_once_first 32 _ _ c.split_once.ensures.cases (omega arith)) in
    let first = finds-word _ c.args.text.now c.in-Some.word.now c.in-Some.rest.now cut.0 cut.1 cut.2 in
    sym (c.loop-word.invariant.1 ∙ first ∙ ap (λ (b : Bool). b && finds c.in-Some.rest.now c.args.text.now) (sym c.if-not-occurs.ensures))

pub loop-word-preserved : goal.loop-word-preserved
loop-word-preserved c =
    let cut = rw c.in-Some.is at (split_once_first 32 _ _ c.split_once.ensures.cases (omega arith)) in
    let first = finds-word _ c.args.text.now c.in-Some.word.now c.in-Some.rest.now cut.0 cut.1 cut.2 in
    (search rules, c.loop-word.invariant.1 ∙ first ∙ ap (λ (b : Bool). b && finds c.in-Some.rest.now c.args.text.now) (sym c.if-not-occurs.ensures))

pub returns : goal.returns
returns c =
    let whole = rw c.in_default.is at (split_once_first 32 _ _ c.split_once.ensures.cases (omega arith)) in
    c.occurs-2.ensures ∙ sym (c.loop-word.invariant.1 ∙ finds-last _ c.args.text.now whole)
