use Rattle.std.proofs.Common.{inl, inr, [], refl}
use Rattle.terms.specs.declared.fault.Fault.TheVariants.{Memory}
use Rattle.terms.specs.declared.fault.ServiceFault.TheVariants.{Met}
use Rattle.circ.proofs.Halls.{no-memory, nobody-served}
use Rattle.circ.proofs.serving.serve.Goals as goal

pub returns-in-Ok : goal.returns-in-Ok
returns-in-Ok g c = inl (c.in-Ok.ports.items, c.serve_connections.new.connections.items, c.in-Ok.ensures, c.serve_connections.ensures)

pub returns-in-Err : goal.returns-in-Err
returns-in-Err g c = inr (nobody-served g.S.Store [] c.args.desk c.args.desk _ _ c.out_of_memory.result (Met Memory) (inr refl) (no-memory g.S.Store c.args.desk)
    c.out_of_memory.ensures)
