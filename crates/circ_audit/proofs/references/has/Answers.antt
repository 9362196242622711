use Rattle.std.proofs.Common.{◌<◌, List, rules, ◌∙◌, ap}
use Rattle.std.proofs.lemmas.List.Sorted.{answers_always}
use Rattle.terms.proofs.OrderLemmas.{ordered-as}
use Rattle.circ_audit.specs.References.{has}
use Rattle.circ_audit.proofs.Lookups.{searched-has}
use Rattle.circ_audit.proofs.references.has.Goals as goal

pub returns : goal.returns
returns g c =
    let last_of = g.R.Keyed.last_of in
    let rows = c.as_slice-rows.result.now in
    c.is_ok.ensures.value
    ∙ searched-has last_of rows (ordered-as g.R.Ordered.comes_before (λ r s. last_of r < last_of s) g.met.R.Numbered.by_number rows c.as_slice-rows.ensures.ordered)
    c.args.number c.binary_search_by_key.result c.binary_search_by_key.ensures.bound
    (c.binary_search_by_key.ensures.position last_of (answers_always _ _ _ (λ f a r g called. search rules)))
    ∙ ap (λ (xs : List _). has last_of xs c.args.number) c.as_slice-rows.ensures.rows
