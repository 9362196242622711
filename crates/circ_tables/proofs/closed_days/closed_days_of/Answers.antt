use Rattle.std.proofs.Common.{refl, rules, ◌∙◌}
use Rattle.sql_maps.specs.Maps.{ListedBy, SecondBelow}
use Rattle.sql_maps.proofs.LookLemmas.{ok_then}
use Rattle.circ_tables.specs.ClosedDays.{closed_days}
use Rattle.circ_tables.specs.Selections.{is_closed_at}
use Rattle.circ_tables.proofs.DayLemmas.{branch_days_found, branch_days_plain}
use Rattle.circ_tables.proofs.ReadingLemmas.{lists_of}
use Rattle.circ_tables.proofs.SingleLemmas.{days_of}
use Rattle.circ_tables.proofs.TableLemmas.{closed_days_within}
use Rattle.circ_tables.proofs.closed_days.closed_days_of.Goals as goal

pub returns-in_err-closed : goal.returns-in_err-closed
returns-in_err-closed g c =
    days_of _ _ c.args.branch _ _ _ c.rows_of.result c.from_residual.result
    (lists_of closed_days _ _ branch_days_plain _ (λ m. ListedBy SecondBelow m (is_closed_at c.args.branch))
    (branch_days_found c.args.branch) (λ m rows listed v there. let at = listed.sound v there in (at.0, at.1)) closed_days_within _ _ _
    _ (rw (c.params-to_sql.ensures, c.number.ensures.value) at c.rows_of.ensures))
    (search rules) (search rules)

pub returns : goal.returns
returns g c =
    days_of _ _ c.args.branch _ _ _ c.rows_of.result c.days_of.result
    (lists_of closed_days _ _ branch_days_plain _ (λ m. ListedBy SecondBelow m (is_closed_at c.args.branch))
    (branch_days_found c.args.branch) (λ m rows listed v there. let at = listed.sound v there in (at.0, at.1)) closed_days_within _ _ _
    _ (rw (c.params-to_sql.ensures, c.number.ensures.value) at c.rows_of.ensures))
    (ok_then c.days_of.result (λ days is. (c.in_ok-closed.closed, c.in_ok-closed.was, is ∙ (rw c.as_slice.ensures.value refl)))
    c.days_of.ensures.days) (search rules)
