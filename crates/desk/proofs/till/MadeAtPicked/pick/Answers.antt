use Rattle.desk.proofs.till.MadeAtPicked.pick.Goals as goal

pub returns : goal.returns
returns g c = rw c.as_slice.ensures.value at c.made_at.ensures
