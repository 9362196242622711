use Rattle.std.proofs.Common.{append-nil, sym}
use Rattle.desk.proofs.readers.add_patron.Goals as goal

pub returns-in-None : goal.returns-in-None
returns-in-None c = rw c.in-None.is (sym (append-nil c.args.readers.now))
