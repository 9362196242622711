use Rattle.circ.specs.Connections.{ServesMany}
use Rattle.circ.proofs.connections.work.Given as goal

abbrev pub invariant-connections : goal.invariant-connections
invariant-connections g l =
    ServesMany g.C.Connections.comes g.C.Connections.goes g.C.Connections.misses g.C.Reader.Read.remaining g.C.Writer.Write.contents
    l.fn.clerks l._served l.fn.connections l.connections l.initial.worker l.worker
