use Rattle.std.proofs.Common.{◌≡◌, ◌≤◌, ℕ, List, ◌++◌, Bor, length, take, drop}
use Rattle.std.specs.BTreeMap.{get_by}
use Rattle.std.specs.Cmp.Lexicographic.{slice_cmp}
use Rattle.std.specs.Ordering.{nat_cmp}
use Rattle.std.specs.Prelude.{is_some}
use Rattle.circ_audit.specs.Barcodes.{has_barcode, doubled_after, doubled_numbers}
use Rattle.circ_audit.proofs.doubled.doubled_in.Given as goal

-- the numbers that are found, and those of the rows to come, and the barcodes of the rows so far
abbrev pub invariant-loop-row : goal.invariant-loop-row
invariant-loop-row l = record {
  numbers : take l.most (l.found.items ++ doubled_after (take l.row-index l.rows) (drop l.row-index l.rows)) ≡ take l.most (doubled_numbers l.rows);
  few : length l.found.items ≤ l.most;
  seen : (q : List ℕ) → is_some (get_by (λ (k : Bor (List ℕ)). slice_cmp nat_cmp q k.now) l.seen) ≡ has_barcode (take l.row-index l.rows) q;
}
