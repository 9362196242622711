use Rattle.std.proofs.Common.{ℕ, ◌∙◌, List, ap, subst, arith}
use Rattle.std.specs.Prelude.{count_by}
use Rattle.terms.specs.declared.row.TransitRow.{TransitRow}
use Rattle.circ_audit.specs.Rows.{names}
use Rattle.circ_audit.specs.Sound.{IsServedOnce}
use Rattle.circ_audit.specs.Spans.{HoldsAfter, LooksAt}
use Rattle.circ_audit.proofs.Counting.{shows-same}
use Rattle.circ_audit.proofs.bindings.ServedOnceLaw.look.Goals as goal

pub returns : goal.returns
returns c =
    subst (λ (span : ℕ). LooksAt (HoldsAfter c.args.after (IsServedOnce c.args.tables.now)) span c.look.result) (c.tally.ensures.span ∙ c.new-counters.ensures.span)
    (c.look.ensures (λ n. count_by (λ r. names r.hold n) c.args.tables.now.transits)
    (shows-same c.tally.new.self _ (λ n. count_by (λ r. names r.hold n) c.args.tables.now.transits)
    (λ n. let transits = ap (λ (xs : List TransitRow). count_by (λ r. names r.hold n) xs) c.as_slice.ensures.rows in omega (arith, transits))
    (c.tally.ensures.shows (λ n. 0) c.new-counters.ensures.shows)))
