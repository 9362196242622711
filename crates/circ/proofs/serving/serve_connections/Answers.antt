use Rattle.std.proofs.Common.{inr, refl}
use Rattle.terms.specs.declared.fault.Fault.TheVariants.{Memory}
use Rattle.terms.specs.declared.fault.ServiceFault.TheVariants.{Met}
use Rattle.circ.proofs.Halls.{no-memory, fault-told}
use Rattle.circ.proofs.serving.serve_connections.Goals as goal

pub returns-in-Err : goal.returns-in-Err
returns-in-Err g c = fault-told g.S.Store g.C.Connections.comes g.C.Connections.goes g.C.Connections.misses g.C.Reader.Read.remaining g.C.Writer.Write.contents c.args.web.clerks c.args.web.each c.args.web.port c.args.connections.now.items c.args.desk c.args.desk _ _
    c.out_of_memory.result (Met Memory) (inr refl) (no-memory g.S.Store c.args.desk) c.out_of_memory.ensures
