use Rattle.circ.proofs.Halls.{port-told, port-untold}
use Rattle.circ.proofs.serving.serve_hall.Goals as goal

pub returns-in-Ok : goal.returns-in-Ok
returns-in-Ok g c =
    port-told g.S.Store g.C.Connections.comes g.C.Connections.goes g.C.Connections.misses g.C.Reader.Read.remaining g.C.Writer.Write.contents _ g.J.Opening.shows
    c.args.each c.args.port c.args.connections.now.items _ c.args.side.desk _ _ _ _ _ _ _ c.run_all-desk.ensures c.in-Ok.ensures.all c.tell_end.ensures

pub returns-in-Err : goal.returns-in-Err
returns-in-Err g c =
    port-untold g.S.Store g.C.Connections.comes g.C.Connections.goes g.C.Connections.misses g.C.Reader.Read.remaining g.C.Writer.Write.contents _ g.J.Opening.shows
    c.args.each c.args.port c.args.connections.now.items _ c.args.side.desk _ _ _ c.in-Err.fault _ _ c.run_all-desk-in-Err.ensures c.in-Err.ensures.front
