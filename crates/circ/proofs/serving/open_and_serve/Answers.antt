use Rattle.std.proofs.Common.{◌≡◌, true, length, inr, refl, ◌∙◌, subst}
use Rattle.hall.specs.Openings.{can_be_workers, IsUnopened}
use Rattle.circ.specs.Serving.{ServesHall}
use Rattle.terms.specs.declared.fault.Fault.TheVariants.{Memory}
use Rattle.terms.specs.declared.fault.ServiceFault.TheVariants.{Met}
use Rattle.circ.proofs.Halls.{no-memory, fault-told, opened-served, why-told}
use Rattle.circ.proofs.serving.open_and_serve.Goals as goal

pub returns-in-Err : goal.returns-in-Err
returns-in-Err g c = fault-told g.S.Store g.C.Connections.comes g.C.Connections.goes g.C.Connections.misses g.C.Reader.Read.remaining g.C.Writer.Write.contents c.args.web.clerks c.args.web.each c.args.web.port c.args.connections.now.items c.args.desk c.args.desk _ _
    c.out_of_memory.result (Met Memory) (inr refl) (no-memory g.S.Store c.args.desk) c.out_of_memory.ensures

pub returns-in-Ok-new : goal.returns-in-Ok-new
returns-in-Ok-new g c =
    let count : c.len.result ≡ length c.args.connections.now.items = c.len.ensures ∙ c.args.connections.now.ok.0 in
    opened-served g.S.Store g.C.Connections.comes g.C.Connections.goes g.C.Connections.misses g.C.Reader.Read.remaining g.C.Writer.Write.contents c.args.web.clerks g.J.Opening.shows c.args.web.each c.args.web.port c.args.connections.now.items
    _ c.args.desk c.in-Ok-new.side.desk _ _ _ c.serve_hall.result.1 c.requires.every
    (subst (λ n. can_be_workers n ≡ true) count c.in-Ok-new.ensures.limits) c.in-Ok-new.ensures.side.0
    (subst (λ key. ServesHall g.C.Connections.comes g.C.Connections.goes g.C.Connections.misses g.C.Reader.Read.remaining g.C.Writer.Write.contents key c.args.web.each c.args.web.port c.args.connections.now.items c.serve_hall.new.connections.items
    g.J.Opening.shows g.S.Store c.in-Ok-new.side.desk c.serve_hall.result.0 (g.W.Write.contents c.args.writer.now) (g.W.Write.contents c.serve_hall.new.writer)
    c.serve_hall.result.1) c.in-Ok.ensures.ok c.serve_hall.ensures)

pub returns : goal.returns
returns g c =
    let count : c.len.result ≡ length c.args.connections.now.items = c.len.ensures ∙ c.args.connections.now.ok.0 in
    why-told g.S.Store g.C.Connections.comes g.C.Connections.goes g.C.Connections.misses g.C.Reader.Read.remaining g.C.Writer.Write.contents c.args.web.clerks c.args.web.each c.args.web.port c.args.connections.now.items c.args.desk c.in-Err-new.field-0.desk
    c.in-Err-new.field-0.why _ _ c.tell_why.result
    (subst (λ n. IsUnopened n g.S.Store c.args.desk c.in-Err-new.field-0.desk c.in-Err-new.field-0.why) count c.in-Err-new.ensures.fault) c.tell_why.ensures
