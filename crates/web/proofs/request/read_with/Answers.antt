use Rattle.std.proofs.Common.{◌≤◌, arith, rules, length, take, length-take-le}
use Rattle.web.specs.declared.limits.TheConstants.{HEAD_BYTES}
use Rattle.web.proofs.CheckLemmas.{head_read}
use Rattle.web.proofs.Takings.{taken, part-faulted, part-refused, whole-taken}
use Rattle.web.specs.Taking.{Wants}
use Rattle.web.proofs.request.read_with.Goals as goal

pub returns-clause-checks : goal.returns-clause-checks
returns-clause-checks g c =
    let found = rw c.in-Some.is at c.in_ok-spans.ensures.filled in
    let head = rw c.in-Some.is at c.in_ok-spans.ensures.head in
    let within = rw c.in-Some.is at c.in_ok-spans.ensures.within in
    let long : length (take c.in-Some.filled c.read_head.new.buf) ≤ HEAD_BYTES =
    omega (arith, found.0, length-take-le c.in-Some.filled c.read_head.new.buf (omega (arith, found.0, c.read_head.auto.buf, c.requires.size))) in
    head_read _ _ _ c.read_head.new.headers c.in-Some.spans c.check_head.result found.1 head within long
    (omega (arith, c.read_head.auto.headers, c.requires.room)) c.check_head.ensures.checks

pub returns-in_err-spans-clause-takes : goal.returns-in_err-spans-clause-takes
returns-in_err-spans-clause-takes g c = taken g.R.Source.reads g.R.Read.remaining _ _ _
    (part-faulted g.R.Source.reads g.R.Read.remaining Wants Wants (λ got room w. w) _ _
    c.in_err-spans.field-0.0 c.from_residual.result (search rules) c.in_err-spans.ensures.takes.takes)

pub returns-in_default-clause-takes : goal.returns-in_default-clause-takes
returns-in_default-clause-takes g c = taken g.R.Source.reads g.R.Read.remaining _ _ _
    (part-refused g.R.Source.reads g.R.Read.remaining Wants Wants (λ got room w. w) _ _
    c.in_ok-spans.field-0 c.in_default.is c.in_ok-spans.ensures.takes.takes)

pub returns-clause-takes : goal.returns-clause-takes
returns-clause-takes g c =
    let found = rw c.in-Some.is at c.in_ok-spans.ensures.filled in
    let head = rw c.in-Some.is at c.in_ok-spans.ensures.head in
    let within = rw c.in-Some.is at c.in_ok-spans.ensures.within in
    let takes = rw c.in-Some.is at c.in_ok-spans.ensures.takes in
    let long : length (take c.in-Some.filled c.read_head.new.buf) ≤ HEAD_BYTES =
    omega (arith, found.0, length-take-le c.in-Some.filled c.read_head.new.buf (omega (arith, found.0, c.read_head.auto.buf, c.requires.size))) in
    whole-taken g.R.Source.reads g.R.Read.remaining _ _ _ c.read_head.new.buf c.in-Some.filled c.read_head.new.headers c.in-Some.spans c.check_head.result
    takes head within long (omega (arith, c.read_head.auto.headers, c.requires.room)) c.check_head.ensures.takes
