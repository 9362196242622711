use Rattle.std.proofs.Common.{◌≡◌, ◌+◌, ◌-◌, ◌<◌, ◌≤◌, ℕ, false, subst, arith}
use Rattle.board.proofs.Lasts.{worker_tells}
use Rattle.hall.specs.Queue.{of, is_open}
use Rattle.hall.proofs.HandledLists.{first_of}
use Rattle.hall.proofs.ended.Ended.take_in.Goals as goal

pub returns-then-number-self-clause-first : goal.returns-then-number-self-clause-first
returns-then-number-self-clause-first g c =
    λ closed. first_of c.args.left.post.worker c.args.self.now.handled c.args.self.now.heard.got c.args.left.post.sent
    (c.take_in.ensures.whole closed)

pub returns-clause-first : goal.returns-clause-first
returns-clause-first g c = λ closed. first_of c.args.left.post.worker c.args.self.now.handled c.args.self.now.heard.got
    c.args.left.post.sent (c.take_in.ensures.whole closed)

pub returns-clause-part : goal.returns-clause-part
returns-clause-part g c = λ part.
    let n : ℕ = c.args.left.post.worker in
    let one = worker_tells c.args.left.worker c.number.ensures.limits in
    let few : c.number.result ≤ c.args.self.now.workers = omega (arith, c.if-number-self.false) in
    let within : n - 1 < c.args.self.now.workers = omega (arith, one, c.args.left.named, c.number.ensures.value, few) in
    let next : (n - 1) + 1 ≡ n = omega (arith, one, c.args.left.named) in
    let closed : is_open (of n c.args.self.now.heard.got) ≡ false =
    subst (λ k. is_open (of k c.args.self.now.heard.got) ≡ false) next (c.args.self.now.gone (n - 1) within) in
    record {
      first = first_of n c.args.self.now.handled c.args.self.now.heard.got c.args.left.post.sent (c.take_in.ensures.whole closed);
      seen = c.has_shown.ensures.yes part;
    }

pub returns-then-not-begins-clause-first : goal.returns-then-not-begins-clause-first
returns-then-not-begins-clause-first g c = λ closed. first_of c.args.left.post.worker c.args.self.now.handled c.args.self.now.heard.got
    c.args.left.post.sent (c.take_in.ensures.whole closed)
