use Rattle.store.proofs.ViewLemmas.{active_holds_on_seen}
use Rattle.store.proofs.viewing.holds_for.Goals as goal

pub returns-in-Some : goal.returns-in-Some
returns-in-Some g c = rw c.in-Some.is (active_holds_on_seen c.count_active_holds_on.ensures)
