use Rattle.std.proofs.Common.{◌≡◌, length, rules}
use Rattle.front.proofs.KeyFiles.{first_taken, more_taken, shorter, all_taken, first_refused, next_refused, passed_on}
use Rattle.front.proofs.keys.read_lines.Goals as goal

pub loop-rest-init : goal.loop-rest-init
loop-rest-init c =
    let taken = rw c.new-clerks.ensures.items at c.in_ok-rest.ensures.taken in
    first_taken c.take_line.new.clerks.items c.args.bytes.now c.in_ok-rest.rest.now taken

pub loop-rest-preserved : goal.loop-rest-preserved
loop-rest-preserved c =
    more_taken c.loop-rest.clerks.items c.take_line-in-loop-rest.new.clerks.items c.args.bytes.now c.loop-rest.rest.now c.in_ok-rest-2.rest.now c.loop-rest.invariant
    c.in_ok-rest-2.ensures.taken

pub loop-rest-smaller : goal.loop-rest-smaller
loop-rest-smaller c =
    shorter c.loop-rest.clerks.items c.take_line-in-loop-rest.new.clerks.items c.loop-rest.rest.now c.in_ok-rest-2.rest.now c.in_ok-rest-2.ensures.taken

pub returns-in_err-rest : goal.returns-in_err-rest
returns-in_err-rest c =
    let wrong = rw c.new-clerks.ensures.items at c.in_err-rest.ensures.wrong in
    passed_on c.args.bytes.now c.from_residual.result c.in_err-rest.field-0.0 c.from_residual.ensures.1
    (first_refused c.args.bytes.now c.in_err-rest.field-0.0 wrong c.in_err-rest.ensures.read)

pub returns-in_err-rest-2 : goal.returns-in_err-rest-2
returns-in_err-rest-2 c =
    let some : length c.loop-rest.rest.now ≡ 0 → ⊥ = search rules in
    passed_on c.args.bytes.now c.from_residual-in_err-rest-2.result c.in_err-rest-2.field-0.0 c.from_residual-in_err-rest-2.ensures.1
    (next_refused c.args.bytes.now c.loop-rest.clerks.items c.loop-rest.rest.now c.in_err-rest-2.field-0.0 c.loop-rest.invariant some c.in_err-rest-2.ensures.wrong
    c.in_err-rest-2.ensures.read)

pub returns : goal.returns
returns c =
    let none : length c.loop-rest.rest.now ≡ 0 = search rules in
    let file = all_taken c.args.bytes.now c.loop-rest.clerks.items c.loop-rest.rest.now c.loop-rest.invariant none in
    rw c.new.ensures file
