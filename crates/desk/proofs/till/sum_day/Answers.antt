use Rattle.std.proofs.Common.{◌≡◌, ◌^◌, ◌≤◌, ◌<◌, ◌++◌, ℕ, List, [], Bool, refl, sym, subst, arith, rules}
use Rattle.std.specs.Prelude.{Some, None, filter}
use Rattle.store.specs.Batches.{AreLinesAfter}
use Rattle.terms.specs.Pictures.{Picture}
use Rattle.terms.specs.declared.row.LineRow.{LineRow}
use Rattle.desk.specs.Parts.{IsLast}
use Rattle.desk.specs.Reporting.{capped_sums}
use Rattle.desk.proofs.Founds.{found-nothing, found-then, found-fault, found-never}
use Rattle.desk.proofs.TillBatches.{AreLinesTo, AreSumsTo, no-lines, lines-all, lines-more, lines-go-on, picked-then, sums-of}
use Rattle.desk.proofs.till.sum_day.Goals as goal

pub batches-init : goal.batches-init
batches-init g c = record {
  found = found-nothing (λ P legal. record {
    done = [];
    lines = no-lines P c.args.day c.new-after.result legal c.new-after.ensures;
    sums_are = refl;
    few = omega arith;
  });
  low = let first : c.new-after.result ≡ 0 = c.new-after.ensures in omega (arith, first);
}

pub returns-in_err-rows : goal.returns-in_err-rows
returns-in_err-rows g c = found-fault c.batches.invariant.found _ c.from_residual.ensures c.in_err-rows.ensures

pub returns-in_err-picked : goal.returns-in_err-picked
returns-in_err-picked g c = found-fault
    (found-then c.batches.invariant.found {C = Unit {0}} {Wanted = λ _ _. Unit {0}} {z = tt} c.in_ok-rows.ensures (λ _ _ _ _. tt)) _
    c.from_residual-in_err-picked.ensures c.in_err-picked.ensures

pub returns-in-None : goal.returns-in-None
returns-in-None g c =
    let test : Picture → LineRow → Bool = λ P. g.L.Picked.test c.args.lines.now P in
    let rows : List LineRow = c.in_ok-rows.rows.items in
    let short : IsLast (λ (r : LineRow). r.line) rows None = subst (λ (l : List LineRow). IsLast (λ (r : LineRow). r.line) l None) c.as_slice.ensures.value
    (subst (IsLast (λ (r : LineRow). r.line) c.as_slice.result.now) c.in-None.is c.last_line-last.ensures) in
    let added : (before : List LineRow) → c.batches.sums ≡ capped_sums before
    → c.add_lines-sums.result ≡ capped_sums (before ++ c.in_ok-picked.picked.items) = rw c.as_slice-in-batches.ensures.value at c.add_lines-sums.ensures in
    found-then (found-then c.batches.invariant.found {C = Unit {0}}
    {Wanted = λ P _. AreSumsTo P (test P) c.args.day c.batches.after c.batches.sums c.batches._batch × AreLinesAfter P c.args.day c.batches.after rows}
    {z = tt} c.in_ok-rows.ensures (λ P legal so_far batch. (so_far, batch)))
    c.in_ok-picked.ensures (λ P legal both picked. sums-of P (test P) c.args.day legal (both.0.done ++ rows)
    (lines-all P c.args.day c.batches.after legal both.0.done rows both.0.lines both.1 short) c.add_lines-sums.result
    (picked-then (test P) both.0.done rows c.in_ok-picked.picked.items picked c.batches.sums c.add_lines-sums.result both.0.sums_are
    (added (filter (test P) both.0.done))))

pub batches-preserved : goal.batches-preserved
batches-preserved g c =
    let test : Picture → LineRow → Bool = λ P. g.L.Picked.test c.args.lines.now P in
    let rows : List LineRow = c.in_ok-rows.rows.items in
    let last : IsLast (λ (r : LineRow). r.line) rows (Some c.in-Some.last) =
    subst (λ (l : List LineRow). IsLast (λ (r : LineRow). r.line) l (Some c.in-Some.last)) c.as_slice.ensures.value
    (subst (IsLast (λ (r : LineRow). r.line) c.as_slice.result.now) c.in-Some.is c.last_line-last.ensures) in
    let added : (before : List LineRow) → c.batches.sums ≡ capped_sums before
    → c.add_lines-sums.result ≡ capped_sums (before ++ c.in_ok-picked.picked.items) = rw c.as_slice-in-batches.ensures.value at c.add_lines-sums.ensures in
    record {
      found = found-then (found-then c.batches.invariant.found {C = Unit {0}}
          {Wanted = λ P _. AreSumsTo P (test P) c.args.day c.batches.after c.batches.sums c.batches._batch × AreLinesAfter P c.args.day c.batches.after rows}
          {z = tt} c.in_ok-rows.ensures (λ P legal so_far batch. (so_far, batch)))
          c.in_ok-picked.ensures (λ P legal both picked. record {
            done = both.0.done ++ rows;
            lines = subst (λ (n : ℕ). AreLinesTo P c.args.day n (both.0.done ++ rows)) (sym c.new-after-in-Some.ensures)
                (lines-more P c.args.day c.batches.after legal both.0.done rows both.0.lines both.1 c.in-Some.last last);
            sums_are = picked-then (test P) both.0.done rows c.in_ok-picked.picked.items picked c.batches.sums c.add_lines-sums.result both.0.sums_are
                (added (filter (test P) both.0.done));
            few =
                let so : c.batches._batch ≤ c.batches.after = both.0.few in
                let on : c.batches.after < c.in-Some.last =
                lines-go-on P c.args.day c.batches.after legal both.0.done rows both.0.lines both.1 c.in-Some.last last in
                let same : c.new-after-in-Some.result ≡ c.in-Some.last = c.new-after-in-Some.ensures in
                omega (arith, so, on, same);
          });
      low = search rules;
    }

pub returns : goal.returns
returns g c = found-never c.batches.invariant.found (λ P legal so_far.
    let few : c.batches._batch ≤ c.batches.after = so_far.few in
    let low : c.batches.after < 2 ^ 32 = c.batches.invariant.low in
    omega (arith, few, low, c.batches-test.false))
