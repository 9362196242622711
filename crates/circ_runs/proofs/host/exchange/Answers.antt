use Rattle.circ_runs.proofs.host.exchange.Goals as goal

pub returns : goal.returns
returns g c = (g.T.Write.contents c.send.new.output, c.send.ensures)
