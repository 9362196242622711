use Rattle.std.proofs.Common.{◌≡◌, ℕ, ◌+◌, ◌∙◌, List, ap, subst, arith}
use Rattle.std.specs.Prelude.{count_by}
use Rattle.terms.specs.declared.row.LoanRow.{LoanRow}
use Rattle.terms.specs.declared.row.HoldRow.{HoldRow}
use Rattle.terms.specs.declared.row.TransitRow.{TransitRow}
use Rattle.terms.specs.declared.row.CopyRow.{CopyRow}
use Rattle.circ_audit.specs.Rows.{names, lent_copy, shelved_copy, travelling_copy, absent_copy}
use Rattle.circ_audit.specs.Sound.{claims_on, IsClaimedOnce}
use Rattle.circ_audit.specs.Spans.{HoldsAfter, LooksAt}
use Rattle.circ_audit.proofs.Counting.{shows-same}
use Rattle.circ_audit.proofs.claims.ClaimedOnceLaw.look.Goals as goal

pub returns : goal.returns
returns c =
    subst (λ (span : ℕ). LooksAt (HoldsAfter c.args.after (IsClaimedOnce c.args.tables.now)) span c.look.result)
    (c.tally-4.ensures.span ∙ c.tally-3.ensures.span ∙ c.tally-2.ensures.span ∙ c.tally.ensures.span ∙ c.new-counters.ensures.span)
    (c.look.ensures (claims_on c.args.tables.now)
    (shows-same c.tally-4.new.self _ (claims_on c.args.tables.now) same
    (c.tally-4.ensures.shows _ (c.tally-3.ensures.shows _ (c.tally-2.ensures.shows _ (c.tally.ensures.shows (λ n. 0) c.new-counters.ensures.shows))))))
  where
    same : (n : ℕ)
        → 0 + count_by (λ r. names (lent_copy r) n) c.as_slice.result.now + count_by (λ r. names (shelved_copy r) n) c.as_slice-2.result.now
        + count_by (λ r. names (travelling_copy r) n) c.as_slice-3.result.now + count_by
        (λ r. names (absent_copy r) n) c.as_slice-4.result.now ≡ claims_on c.args.tables.now n
    same n =
        let loans = ap (λ (xs : List LoanRow). count_by (λ r. names (lent_copy r) n) xs) c.as_slice.ensures.rows in
        let holds = ap (λ (xs : List HoldRow). count_by (λ r. names (shelved_copy r) n) xs) c.as_slice-2.ensures.rows in
        let transits = ap (λ (xs : List TransitRow). count_by (λ r. names (travelling_copy r) n) xs) c.as_slice-3.ensures.rows in
        let copies = ap (λ (xs : List CopyRow). count_by (λ r. names (absent_copy r) n) xs) c.as_slice-4.ensures.rows in
        omega (arith, loans, holds, transits, copies)
