use Rattle.desk.proofs.desk.Desk.overdue.Goals as goal

pub returns : goal.returns
returns g c = rw c.self.view_is at c.overdue.ensures
