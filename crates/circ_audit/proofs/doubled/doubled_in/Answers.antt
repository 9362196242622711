use Rattle.std.proofs.Common.{◌≡◌, ℕ, ◌+◌, ◌≤◌, Bool, true, false, cond, List, [], ◌++◌, Bor, length, take, drop, get_or, Option, Some, refl, sym, ◌∙◌, ap, subst, arith}
use Rattle.std.specs.Prelude.{is_some, bytes_eq, ◌||◌}
use Rattle.std.specs.BTreeMap.{get_by, is_at}
use Rattle.std.specs.Map.{lookup}
use Rattle.std.specs.Cmp.Lexicographic.{slice_cmp}
use Rattle.std.specs.Ordering.{nat_cmp}
use Rattle.std.proofs.lemmas.List.Folds.{list_any_more}
use Rattle.std.proofs.lemmas.Map.Text.{is_eq-slice_cmp}
use Rattle.terms.specs.declared.row.BarcodeRow.{BarcodeRow}
use Rattle.terms.specs.Things.{thing_number}
use Rattle.circ_audit.specs.Barcodes.{has_barcode, with_doubled, doubled_after}
use Rattle.circ_audit.proofs.Doubling.{doubled-are, doubled-more, few-more, all-found, full-found}
use Rattle.circ_audit.proofs.doubled.doubled_in.Goals as goal

pub loop-row-init : goal.loop-row-init
loop-row-init c = record {
  numbers = ap (λ (xs : List ℕ). take c.args.most (xs ++ doubled_after [] c.args.rows.now)) c.new-found.ensures.items;
  few = (let none = c.new-found.ensures.len in omega (arith, none));
  seen = λ q. ap (λ es. is_some (lookup (is_at (λ (k : Bor (List ℕ)). slice_cmp nat_cmp q k.now)) es)) c.new-seen.ensures.empty;
}

pub returns-then-len-most : goal.returns-then-len-most
returns-then-len-most c =
    let full = c.if-len-most.true in
    let len = c.len.ensures in
    doubled-are c.args.rows.now c.args.most c.loop-row.found.items
    (full-found c.args.most c.loop-row.found.items _ (omega (arith, full, len)) ∙ c.loop-row.invariant.numbers)

-- One key more is there, besides those that were.
put-or : (b x : Bool) (o : Option (Unit {0})) → is_some o ≡ x → is_some (cond b (Some tt) o) ≡ (x || b)
put-or true true o e = refl
put-or true false o e = refl
put-or false true o e = e
put-or false false o e = e

pub loop-row-preserved : goal.loop-row-preserved
loop-row-preserved c = record {
  numbers =
      let found = c.loop-row.found.items in
      let row = c.row-item.result in
      let i = c.loop-row.row-index in
      let new : c.add_doubled.new.found.items ≡ found ++ with_doubled (has_barcode (take i c.args.rows.now) row.barcode) (thing_number row.thing) [] =
      c.in_ok-add_doubled.ensures
      ∙ ap (λ (b : Bool). found ++ with_doubled b c.number.result []) (c.is_some.ensures ∙ ap is_some c.in_ok-before.ensures.old
      ∙ c.loop-row.invariant.seen c.as_str-barcode.result.now ∙ ap (has_barcode (take i c.args.rows.now)) c.as_str-barcode.ensures.value)
      ∙ ap (λ (n : ℕ). found ++ with_doubled (has_barcode (take i c.args.rows.now) row.barcode) n []) c.number.ensures in
      ap (λ (xs : List ℕ). take c.args.most (xs ++ doubled_after (take (i + 1) c.args.rows.now) (drop (i + 1) c.args.rows.now))) new
      ∙ ap (take c.args.most) (doubled-more c.args.rows.now i row found c.loop-row-test.true c.row-item.is) ∙ c.loop-row.invariant.numbers;
  few =
      let few = c.loop-row.invariant.few in
      let len = c.len.ensures in
      let other = c.if-len-most.false in
      subst (λ (xs : List ℕ). length xs ≤ c.args.most) (sym c.in_ok-add_doubled.ensures)
      (few-more c.is_some.result c.number.result c.args.most c.loop-row.found.items (omega (arith, few, len, other)));
  seen = λ q.
      let key : Bor (List ℕ) = record c.as_str-barcode.result { now = q } in
      let updated = (c.in_ok-before.ensures.updates).0 key in
      let put : is_some (get_by (λ (k : Bor (List ℕ)). slice_cmp nat_cmp q k.now) c.insert.new.self)
      ≡ is_some (cond (bytes_eq c.as_str-barcode.result.now q) (Some tt) (get_by (λ (k : Bor (List ℕ)). slice_cmp nat_cmp q k.now) c.loop-row.seen)) =
      ap is_some updated
      ∙ ap (λ b. is_some (cond b (Some tt) (get_by (λ (k : Bor (List ℕ)). slice_cmp nat_cmp q k.now) c.loop-row.seen)))
      (is_eq-slice_cmp c.as_str-barcode.result.now q) in
      let rows = c.args.rows.now in
      let i = c.loop-row.row-index in
      let one : bytes_eq c.as_str-barcode.result.now q ≡ bytes_eq (get_or rows i c.row-item.result).barcode q =
      ap (λ b. bytes_eq b q) c.as_str-barcode.ensures.value ∙ ap (λ (r : BarcodeRow). bytes_eq r.barcode q) c.row-item.is in
      put
      ∙ (put-or (bytes_eq c.as_str-barcode.result.now q) (has_barcode (take i rows) q)
      (get_by (λ (k : Bor (List ℕ)). slice_cmp nat_cmp q k.now) c.loop-row.seen) (c.loop-row.invariant.seen q)
      ∙ (ap (λ (b : Bool). has_barcode (take i rows) q || b) one
      ∙ sym (list_any_more (λ r. bytes_eq r.barcode q) rows i c.row-item.result c.loop-row-test.true)));
}

pub returns : goal.returns
returns c =
    let end = c.loop-row-test.false in
    doubled-are c.args.rows.now c.args.most c.loop-row.found.items
    (all-found c.args.rows.now c.loop-row.row-index c.args.most c.loop-row.found.items (omega (arith, end)) c.loop-row.invariant.few c.loop-row.invariant.numbers)
