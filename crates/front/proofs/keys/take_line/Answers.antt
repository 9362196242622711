use Rattle.std.proofs.Common.{◌≡◌, ◌+◌, ◌<◌, arith, length, rules}
use Rattle.std.proofs.lemmas.Bool.{both_ways}
use Rattle.clerks.specs.declared.list.TheConstants.{MOST_CLERKS}
use Rattle.front.proofs.KeyFiles.{other_line, known_clerk, taken}
use Rattle.front.proofs.keys.take_line.Goals as goal
use Rattle.front.proofs.keys.take_line.Goals.{in-Ok, in-Err}

pub returns-in_default-2-clause-wrong : goal.returns-in_default-2-clause-wrong
returns-in_default-2-clause-wrong c = λ n e.
    let same : c.len.result + 1 ≡ n = cc in
    let none = rw c.in_default-2.is at c.in_ok-clerk.ensures in (
      omega (arith, same, c.len.ensures, c.args.clerks.now.ok.0),
      other_line c.args.clerks.now.items c.args.bytes.now c.in-Some.line.now c.in-Some.rest.now c.in-Some.ensures none,
    )

pub returns-then-not-is_new-clause-wrong : goal.returns-then-not-is_new-clause-wrong
returns-then-not-is_new-clause-wrong c = λ n e.
    let same : c.len.result + 1 ≡ n = cc in
    let clerk = rw c.in-Some-2.is at c.in_ok-clerk.ensures in
    let new = rw c.deref.ensures.value at c.is_new.ensures in (
      omega (arith, same, c.len.ensures, c.args.clerks.now.ok.0),
      known_clerk c.args.clerks.now.items c.args.bytes.now c.in-Some.line.now c.in-Some.rest.now c.in-Some-2.clerk c.in-Some.ensures clerk.0 clerk.1
          (λ all. both_ways c.is_new.result c.if-not-is_new.true (new.1 all)),
    )

pub returns-clause-taken : goal.returns-clause-taken
returns-clause-taken c =
    let clerk = rw c.in-Some-2.is at c.in_ok-clerk.ensures in
    let new = rw c.deref.ensures.value at c.is_new.ensures in
    let few : length c.args.clerks.now.items < MOST_CLERKS = search rules in
    elim c.match-push.branch [
      | in-Ok w ↦
          rw w.result-is (taken c.args.clerks.now.items c.push.new.self.items c.args.bytes.now c.in-Some.line.now c.in-Some.rest.now c.in-Some-2.clerk c.in-Some.ensures
          clerk.0 clerk.1 (new.0 (search rules)) few w.in-Ok.ensures.items)
      | in-Err w ↦ rw w.result-is tt
    ]
