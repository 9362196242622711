use Rattle.std.proofs.Common.{◌≡◌, ◌≢◌, sym, arith}
use Rattle.std.proofs.lemmas.Bool.{eqb-true, eqb-false}
use Rattle.store.proofs.BatchLemmas.{passed_over}
use Rattle.store.proofs.ReviewLemmas.{if_fails, more_of_caller, past_caller}
use Rattle.store.proofs.ViewLemmas.{◌⨾◌, fails, gives, seen_as}
use Rattle.store.proofs.batches.next_kept.Goals as goal

pub returns-in_err-more : goal.returns-in_err-more
returns-in_err-more g c = record {
  view = fails _ _ c.from_residual.ensures (passed_over c.in_err-more.ensures);
  batch = λ clean. if_fails _ _ _ c.from_residual.ensures;
}

pub returns-then-is_empty : goal.returns-then-is_empty
returns-then-is_empty g c = record {
  view = seen_as (passed_over c.in_ok-more.ensures ⨾ passed_over c.kept_past.ensures) (λ P x all. tt);
  batch = past_caller c.args.last.now
      (let is = c.if-is_empty.ensures in let none : c.in_ok-more.more.len ≡ 0 = eqb-true c.in_ok-more.more.len 0
      (sym is) in omega (arith, none)) c.in_ok-more.ensures c.kept_past.ensures;
}

pub returns-else-is_empty : goal.returns-else-is_empty
returns-else-is_empty g c = record {
  view = gives (passed_over c.in_ok-more.ensures) (λ P all. tt);
  batch = more_of_caller c.args.last.now
      (let is = c.if-is_empty.ensures in let some : c.in_ok-more.more.len ≢ 0 = eqb-false c.in_ok-more.more.len 0
      (sym is) in omega (arith, some)) c.in_ok-more.ensures;
}
