use Rattle.desk.proofs.desk.Desk.shelf.Goals as goal

pub returns : goal.returns
returns g c = rw c.self.view_is at c.shelf.ensures
