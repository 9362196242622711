use Rattle.std.proofs.Common.{rules, ◌≡◌, ℕ, ◌<◌, ◌+◌, List, [], ◌∷◌, ◌++◌, length, take, sym, ◌∙◌, ap, subst, arith}
use Rattle.std.proofs.lemmas.List.{take_all, take_more}
use Rattle.std.specs.Prelude.{is_ok, true, Err}
use Rattle.store.specs.Library.{state}
use Rattle.terms.specs.declared.command.Request.{Request}
use Rattle.terms.specs.declared.reply.Reply.{Reply}
use Rattle.model.specs.History.{History}
use Rattle.model.specs.Requests.{after, replies, after_one}
use Rattle.desk.specs.Answering.{Shows, LeavesOneOf}
use Rattle.desk.proofs.Afterwards.{after-last, replies-last}
use Rattle.desk.proofs.Shown.{shows-headline}
use Rattle.desk.proofs.Chains.{handled-last, handled-none}
use Rattle.desk.proofs.Unchanged.{as-it-was}
use Rattle.store.proofs.ReadLemmas.{ready_same, ready_then}
use Rattle.desk.proofs.desk.run.Goals as goal

pub returns-in_default : goal.returns-in_default
returns-in_default g c = record {
  many = search rules;
  few = search rules;
  ready = ready_same (state g.S.Store c.args.store.now);
  clean = search rules;
  ran = search rules;
  headline = search rules;
  sound = search rules;
  stopped = search rules;
  stands = record {
    before = 0;
    mid = c.args.store.now;
    handled = handled-none g.S.Store _ c.args.store.now (search rules);
    clean = λ disk. disk;
    nothing = λ disk is_open tables. as-it-was (state g.S.Store c.args.store.now);
  };
}

pub returns-in-Err : goal.returns-in-Err
returns-in-Err g c = record {
  many = search rules;
  few = search rules;
  ready = ready_then (state g.S.Store c.args.store.now) (state g.S.Store c.requests.store) (state g.S.Store c.handle.new.store)
      c.requests.invariant.ready c.handle.ensures.handled.any.ready;
  clean = search rules;
  ran = search rules;
  headline = search rules;
  sound = λ disk stored H shows.
      let before = c.requests.invariant.so_far (c.handle.ensures.handled.clean disk) H shows in
      c.in-Err.ensures.handled.sound disk (ap Err stored) (after H (take c.requests.request-index c.args.requests.now)) before.1;
  stopped = λ disk H shows.
      let xs : List Request = c.args.requests.now in
      let i : ℕ = c.requests.request-index in
      let r : Request = c.request-item.result in
      let within : i < length xs = omega (arith, c.requests-test.true) in
      let more : take (i + 1) xs ≡ take i xs ++ r ∷ [] = take_more xs i r within ∙ ap (λ x. take i xs ++ x ∷ []) (sym c.request-item.is) in
      let next : after H (take (i + 1) xs) ≡ after_one (after H (take i xs)) r = ap (after H) more ∙ after-last (take i xs) H r in
      let before = c.requests.invariant.so_far (c.handle.ensures.handled.clean disk) H shows in (
        i,
        omega (arith, within),
        before.0,
        λ is_open. c.in-Err.ensures.handled.undone disk is_open (after H (take i xs)) before.1,
        subst (λ (K : History). LeavesOneOf (state g.S.Store c.handle.new.store) (after H (take i xs)) K) (sym next)
            (c.handle.ensures.handled.left disk (after H (take i xs)) before.1),
      );
  stands = record {
    before = c.requests.request-index;
    mid = c.requests.store;
    handled = c.requests.invariant.chain;
    clean = c.handle.ensures.handled.clean;
    nothing = λ disk is_open tables. c.in-Err.ensures.handled.any.failed disk is_open
        (c.requests.invariant.tables (c.handle.ensures.handled.clean disk) tables);
  };
}

pub returns : goal.returns
returns g c =
    let xs : List Request = c.args.requests.now in
    let whole : take c.requests.request-index xs ≡ xs = take_all c.requests.request-index xs c.requests-test.false in
    record {
      many = search rules;
      few = search rules;
      ready = c.requests.invariant.ready;
      clean = search rules;
      ran = λ disk H shows. rw whole at (c.requests.invariant.so_far disk H shows);
      headline = λ disk H shows.
          let done = rw whole at (c.requests.invariant.so_far disk H shows) in
          shows-headline _ (after H xs) done.1;
      sound = search rules;
      stopped = search rules;
      stands = search rules;
    }

pub requests-preserved : goal.requests-preserved
requests-preserved g c = record {
  room = omega (arith, c.push.ensures.capacity, c.requests.invariant.room);
  count =
      let pushed : is_ok c.push.result ≡ true = sym c.is_ok-pushed.ensures.value ∙ c.if-prove.false in
      let len = rw pushed at c.push.ensures.len in
      len ∙ ap (λ n. n + 1) c.requests.invariant.count;
  ready = ready_then (state g.S.Store c.args.store.now) (state g.S.Store c.requests.store) (state g.S.Store c.handle.new.store)
      c.requests.invariant.ready c.handle.ensures.handled.any.ready;
  clean = λ disk. c.requests.invariant.clean (c.handle.ensures.handled.clean disk);
  tables = λ disk tables. c.in-Ok-handle.ensures.handled.any.tables disk (c.requests.invariant.tables (c.handle.ensures.handled.clean disk) tables);
  chain =
      let xs : List Request = c.args.requests.now in
      let i : ℕ = c.requests.request-index in
      let r : Request = c.request-item.result in
      let within : i < length xs = omega (arith, c.requests-test.true) in
      let more : take (i + 1) xs ≡ take i xs ++ r ∷ [] = take_more xs i r within ∙ ap (λ x. take i xs ++ x ∷ []) (sym c.request-item.is) in
      let pushed : is_ok c.push.result ≡ true = sym c.is_ok-pushed.ensures.value ∙ c.if-prove.false in
      let items = rw pushed at c.push.ensures.items in
      rw (more, items) (handled-last g.S.Store (take i xs) c.requests.replies.items r c.in-Ok-handle.reply c.args.store.now c.requests.store
      c.handle.new.store c.requests.invariant.chain c.in-Ok-handle.ensures.handled);
  so_far = λ disk H shows.
      let xs : List Request = c.args.requests.now in
      let i : ℕ = c.requests.request-index in
      let r : Request = c.request-item.result in
      let within : i < length xs = omega (arith, c.requests-test.true) in
      let more : take (i + 1) xs ≡ take i xs ++ r ∷ [] = take_more xs i r within ∙ ap (λ x. take i xs ++ x ∷ []) (sym c.request-item.is) in
      let next : after H (take (i + 1) xs) ≡ after_one (after H (take i xs)) r = ap (after H) more ∙ after-last (take i xs) H r in
      let before = c.requests.invariant.so_far (c.handle.ensures.handled.clean disk) H shows in
      let done = c.in-Ok-handle.ensures.handled.replied disk (after H (take i xs)) before.1 in
      let pushed : is_ok c.push.result ≡ true = sym c.is_ok-pushed.ensures.value ∙ c.if-prove.false in
      let items = rw pushed at c.push.ensures.items in (
        items ∙ ap (λ (t : List Reply). t ++ c.in-Ok-handle.reply ∷ []) before.0 ∙ ap (λ (y : Reply). replies H (take i xs) ++ y ∷ []) done.0
            ∙ sym (replies-last (take i xs) H r) ∙ ap (replies H) (sym more),
        subst (λ (K : History). Shows (state g.S.Store c.handle.new.store) K) (sym next) done.1,
      );
}
