use Rattle.std.proofs.Common.{inl, subst, Bool}
use Rattle.circ.proofs.connections.serve_next.Goals as goal

pub returns : goal.returns
returns g c = inl (record {
  reader = c.in-Some.reader;
  writer = c.in-Some.writer;
  at = c.accept.new.self;
  came = c.in-Some.ensures.came;
  told = c.serve-told.new.writer;
  result = c.serve-told.result;
  served = c.serve-told.ensures.serves;
  ended = subst (λ (b : Bool). g.C.Connections.goes c.accept.new.self c.serve-told.new.writer b c.end.new.self) c.is_ok.ensures.value c.end.ensures;
})
