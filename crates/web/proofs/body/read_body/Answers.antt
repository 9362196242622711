use Rattle.std.proofs.Common.{◌≡◌, ap, length, arith}
use Rattle.web.proofs.BodyLemmas.{body_whole, resized}
use Rattle.web.proofs.Takings.{body-full}
use Rattle.web.proofs.body.read_body.Goals as goal

pub returns-clause-body : goal.returns-clause-body
returns-clause-body g c =
    let filled = rw c.if-not-branch.false at c.in_ok-fill_all.ensures.fills in
    let first = c.deref_mut.ensures.value in
    let long : length c.deref_mut.result.now ≡ c.args.size = omega (arith, c.in_ok-resize.ensures.len, ap length first, c.deref_mut.ensures.len) in
    body_whole _ _ c.args.front.now c.deref_mut.result.now c.fill_all.new.buf _ c.args.size c.min-kept.result c.resize.new.self.len c.min-kept.ensures
    (resized c.args.front.now c.in_ok-body.body.items c.deref_mut.result.now _ _ c.args.size c.min-kept.result c.min-kept.ensures
    c.in_ok-body.ensures.items first c.in_ok-resize.ensures.items)
    long (omega (arith, long, c.fill_all.auto.buf)) (omega (arith, c.in_ok-resize.ensures.len)) filled

pub returns-clause-takes : goal.returns-clause-takes
returns-clause-takes g c =
    let first = c.deref_mut.ensures.value in
    let long : length c.deref_mut.result.now ≡ c.args.size = omega (arith, c.in_ok-resize.ensures.len, ap length first, c.deref_mut.ensures.len) in
    body-full g.R.Source.reads g.R.Read.remaining _ _ _ _ c.min-kept.ensures long c.resize.new.self c.args.reader.now c.fill_all.new.reader
    (rw c.if-not-branch.false at c.in_ok-fill_all.ensures.takes)
