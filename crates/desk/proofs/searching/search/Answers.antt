use Rattle.std.proofs.Common.{◌≡◌, ◌<◌, ◌≤◌, refl, sym, ◌∙◌, subst, arith, rules}
use Rattle.std.specs.Prelude.{Some, None}
use Rattle.desk.specs.Searching.{HasListed, IsNextBatch}
use Rattle.desk.proofs.SearchLemmas.{none-searched, searched-next, searched-end}
use Rattle.desk.proofs.Looking.{◌⨾◌, idle, gives, fails, stops}
use Rattle.desk.proofs.searching.search.Goals as goal

pub batches-init : goal.batches-init
batches-init g c = record {
  seen = gives idle (λ _ _ _. tt) (λ H legal given none.
      (none-searched (g.T.Searched.search H c.args.query.now) c.args.after _ _ c.new.ensures.bytes refl refl refl refl, omega arith));
  low = search rules;
}

pub returns-in_err-batch : goal.returns-in_err-batch
returns-in_err-batch g c = fails _ c.from_residual.ensures (c.batches.invariant.seen ⨾ c.in_err-batch.ensures) (λ H list given. (tt, λ _. tt))

pub returns-in_err-look_at_all : goal.returns-in_err-look_at_all
returns-in_err-look_at_all g c =
    stops _ c.from_residual-in_err-look_at_all.ensures (c.batches.invariant.seen ⨾ c.in_ok-batch.ensures)

pub returns-in-None : goal.returns-in-None
returns-in-None g c =
    gives (c.batches.invariant.seen ⨾ c.in_ok-batch.ensures) (λ H list given. (tt, λ _. tt))
    (λ H legal given is.
    let x = g.T.Searched.search H c.args.query.now in
    let batch = subst (λ rows. HasListed g.T.Searched.number_of (λ r. g.T.Searched.IsRow r H) x.all c.batches.at rows)
    (sym c.as_slice.ensures.value) (is.1 c.args.query.now) in
    let same : c.as_slice-in-batches.result.now ≡ c.as_slice.result.now = c.as_slice-in-batches.ensures.value ∙ sym c.as_slice.ensures.value in
    searched-end g.T.Searched.number_of (λ r. g.T.Searched.IsRow r H) x c.args.after c.batches.at _ c.look_at_all.new.seen c.as_slice.result.now batch.batch
    (subst (λ rows. IsNextBatch g.T.Searched.number_of rows c.look_at_all.new.seen None) same (rw c.in-None.is at c.next_from.ensures))
    (c.in_ok-look_at_all.ensures H c.batches.at batch _ c.args.after is.0.0))

pub batches-preserved : goal.batches-preserved
batches-preserved g c = record {
  seen = gives (c.batches.invariant.seen ⨾ c.in_ok-batch.ensures) (λ H list given. (tt, λ _. tt))
      (λ H legal given is.
      let x = g.T.Searched.search H c.args.query.now in
      let batch = subst (λ rows. HasListed g.T.Searched.number_of (λ r. g.T.Searched.IsRow r H) x.all c.batches.at rows)
      (sym c.as_slice.ensures.value) (is.1 c.args.query.now) in
      let same : c.as_slice-in-batches.result.now ≡ c.as_slice.result.now = c.as_slice-in-batches.ensures.value ∙ sym c.as_slice.ensures.value in
      let next = searched-next g.T.Searched.number_of (λ r. g.T.Searched.IsRow r H) x c.args.after c.batches.at c.in-Some.last _ c.look_at_all.new.seen
      c.as_slice.result.now batch.batch
      (subst (λ rows. IsNextBatch g.T.Searched.number_of rows c.look_at_all.new.seen (Some c.in-Some.last)) same (rw c.in-Some.is at c.next_from.ensures))
      (c.in_ok-look_at_all.ensures H c.batches.at batch _ c.args.after is.0.0) in
      let few : c.batches._batch ≤ c.batches.at = is.0.1 in
      let more : c.batches.at < c.in-Some.last = next.1 in
      (next.0, omega (arith, few, more)));
  low = search rules;
}
