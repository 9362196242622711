use Rattle.std.proofs.Common.{◌≡◌, ◌<◌, ◌∙◌, Bool, true, false, length, sym, ap, arith}
use Rattle.std.specs.Prelude.{filter}
use Rattle.std.proofs.lemmas.List.{take_all}
use Rattle.terms.specs.declared.row.LineRow.{LineRow}
use Rattle.desk.specs.Reporting.{is_noted}
use Rattle.desk.proofs.TillBatches.{picked-more}
use Rattle.desk.proofs.Founds.{found-nothing, found-as, found-fault, found-stops, found-then}
use Rattle.desk.proofs.till.made_at.Goals as goal
use Rattle.desk.proofs.till.made_at.Goals.{then-is_noted+in_ok-push, else-is_noted}

pub rows-init : goal.rows-init
rows-init g c = found-nothing (λ P legal. c.new-picked.ensures.items)

pub returns-in_err-note : goal.returns-in_err-note
returns-in_err-note g c = found-fault c.rows.invariant _ c.from_residual.ensures c.in_err-note.ensures

pub returns-in_err-push : goal.returns-in_err-push
returns-in_err-push g c = found-stops (found-then c.rows.invariant {C = Unit {0}} {Wanted = λ _ _. Unit {0}} {z = tt} c.in_ok-note.ensures (λ _ _ _ _. tt)) _
    c.from_residual-in_err-push.ensures

pub rows-preserved : goal.rows-preserved
rows-preserved g c = found-then c.rows.invariant c.in_ok-note.ensures (λ P legal so_far note.
    let test : LineRow → Bool = λ r. is_noted c.args.branch (P.notes r.line) in
    let within : c.rows.row-index < length c.args.rows.now = omega (arith, c.rows-test.true) in
    let passes : test c.row-item.result ≡ c.is_noted.result = ap (is_noted c.args.branch) (sym note) ∙ sym c.is_noted.ensures in
    let more = λ (b : Bool) (e : test c.row-item.result ≡ b). picked-more test c.args.rows.now c.rows.picked.items c.rows.row-index c.row-item.result within
    c.row-item.is b e so_far in
    elim c.if-is_noted.branch [
      | then-is_noted+in_ok-push w ↦ rw w.picked-is (w.in_ok-push.ensures.items ∙ more true (passes ∙ w.if-is_noted.true))
      | else-is_noted w ↦ rw w.picked-is (more false (passes ∙ w.if-is_noted.false))
    ])

pub returns : goal.returns
returns g c = found-as c.rows.invariant (λ P legal is. is ∙ ap (filter (λ r. is_noted c.args.branch (P.notes r.line)))
    (take_all c.rows.row-index c.args.rows.now c.rows-test.false))
