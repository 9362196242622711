use Rattle.std.proofs.Common.{◌≡◌, ℕ, ◌<◌, ◌≤◌, List, [], ◌++◌, append-nil, refl, sym, ◌∙◌, ap, subst, arith, rules}
use Rattle.std.proofs.KnownBytes.{Appends-nil}
use Rattle.desk.specs.Listing.{HasBatch, lines_of}
use Rattle.desk.specs.Parts.{IsFront}
use Rattle.desk.proofs.Listings.{none-so-far, so-far-front, told-next, told-end}
use Rattle.desk.proofs.Parts.{fault-part, wrote-part, then-part, answered-part, gives-part, handed-part}
use Rattle.desk.proofs.RowsTold.{batch-part}
use Rattle.desk.proofs.listing.tell.Goals as goal

pub batches-init : goal.batches-init
batches-init g c = record {
  part = gives-part (wrote-part {T = Unit {0}} {Cut = λ _ _. ⊥} {x = tt} [] (Appends-nil (g.W.Write.contents c.args.writer.now))) (λ H list needs. needs)
      (λ H list needs s none. (none-so-far (g.L.Listed.list c.args.list.now H) c.args.most c.args.after _ s none refl refl refl, omega arith));
  low = search rules;
}

pub returns-in_err-batch : goal.returns-in_err-batch
returns-in_err-batch g c =
    then-part c.batches.invariant.part
    (fault-part {Wanted = λ _ _ _. ⊥} {Cut = λ H s. s ≡ []} _ _ c.from_residual.ensures c.in_err-batch.ensures (λ H list needs. needs) (λ _ _. refl))
    (λ H list needs. needs) (λ H list needs is. needs)
    (λ H list needs is s none. subst (λ (t : List ℕ). IsFront t (lines_of (g.L.Listed.list c.args.list.now H) c.args.most c.args.after))
    (sym (append-nil _) ∙ ap (λ (t : List ℕ). c.batches.invariant.part.sent ++ t) (sym none))
    (so-far-front (g.L.Listed.list c.args.list.now H) c.args.most c.args.after c.batches.at c.batches.told _ is.0))
    (λ H list needs is y s never. absurd never)

pub returns-in_err-told : goal.returns-in_err-told
returns-in_err-told g c =
    handed-part _ c.from_residual-in_err-told.ensures
    (then-part {Wanted = λ _ _ _. Unit {0}} c.batches.invariant.part
    (batch-part (g.L.Listed.list c.args.list.now) c.args.most c.batches.at g.L.Listed.number_of (λ H r. g.L.Listed.IsRow c.args.list.now r H) _ _ c.in_ok-batch.ensures
    (λ H is. subst (HasBatch g.L.Listed.number_of (λ r. g.L.Listed.IsRow c.args.list.now r H) (g.L.Listed.list c.args.list.now H) c.batches.at)
    (sym c.as_slice-rows.ensures.value) is) c.in_err-told.ensures)
    (λ H list needs. needs) (λ H list needs is. needs) (λ H list needs is s cut. cut _ c.args.after is.0) (λ _ _ _ _ _ _ _. tt))

pub returns-in-None : goal.returns-in-None
returns-in-None g c =
    answered-part c.batches.invariant.part
    (batch-part (g.L.Listed.list c.args.list.now) c.args.most c.batches.at g.L.Listed.number_of (λ H r. g.L.Listed.IsRow c.args.list.now r H) _ _ c.in_ok-batch.ensures
    (λ H is. subst (HasBatch g.L.Listed.number_of (λ r. g.L.Listed.IsRow c.args.list.now r H) (g.L.Listed.list c.args.list.now H) c.batches.at)
    (sym c.as_slice-rows.ensures.value) is) c.in_ok-told.ensures)
    (λ H list needs. needs) (λ H list needs is. needs)
    (λ H list needs is s both. told-end g.L.Listed.number_of (λ r. g.L.Listed.IsRow c.args.list.now r H) (g.L.Listed.list c.args.list.now H) c.args.most
    c.args.after c.batches.at c.in_ok-told.told _ c.as_slice-rows.result.now both.0 (rw c.in-None.is at c.next_from.ensures) (both.1 _ c.args.after is.0))

pub batches-preserved : goal.batches-preserved
batches-preserved g c = record {
  part =
      answered-part c.batches.invariant.part
      (batch-part (g.L.Listed.list c.args.list.now) c.args.most c.batches.at g.L.Listed.number_of (λ H r. g.L.Listed.IsRow c.args.list.now r H) _ _ c.in_ok-batch.ensures
      (λ H is. subst (HasBatch g.L.Listed.number_of (λ r. g.L.Listed.IsRow c.args.list.now r H) (g.L.Listed.list c.args.list.now H) c.batches.at)
      (sym c.as_slice-rows.ensures.value) is) c.in_ok-told.ensures)
      (λ H list needs. needs) (λ H list needs is. needs)
      (λ H list needs is s both.
      let next = told-next g.L.Listed.number_of (λ r. g.L.Listed.IsRow c.args.list.now r H) (g.L.Listed.list c.args.list.now H) c.args.most
      c.args.after c.batches.at c.in-Some.last c.in_ok-told.told _ c.as_slice-rows.result.now both.0 (rw c.in-Some.is at c.next_from.ensures)
      (both.1 _ c.args.after is.0) in
      let few : c.batches._batch ≤ c.batches.at = is.1 in
      let more : c.batches.at < c.in-Some.last = next.1 in
      (next.0, omega (arith, few, more)));
  low = search rules;
}
