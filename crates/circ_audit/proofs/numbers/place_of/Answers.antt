use Rattle.std.proofs.Common.{◌<◌, List, nat_lt, rules, subst}
use Rattle.std.proofs.lemmas.List.Sorted.{IsPartitionPoint-from_clause}
use Rattle.terms.proofs.OrderLemmas.{ordered-as}
use Rattle.circ_audit.specs.Numbers.{IsPlaceOf}
use Rattle.circ_audit.proofs.Gaps.{parted, place-parted}
use Rattle.circ_audit.proofs.numbers.place_of.Goals as goal

pub returns : goal.returns
returns g c =
    let last_of = g.R.Keyed.last_of in
    let rows = c.as_slice.result.now in
    subst (λ (xs : List _). IsPlaceOf last_of xs c.args.from c.partition_point.result) c.as_slice.ensures.rows
    (place-parted last_of rows c.args.from c.partition_point.result c.partition_point.ensures.bound
    (IsPartitionPoint-from_clause (λ r. nat_lt (last_of r) c.args.from) _ _ c.partition_point.ensures.partitioned
    (parted last_of rows (ordered-as g.R.Ordered.comes_before (λ r s. last_of r < last_of s) g.met.R.Numbered.by_number rows c.as_slice.ensures.ordered)
    c.args.from) (λ a r q k. search rules)))
