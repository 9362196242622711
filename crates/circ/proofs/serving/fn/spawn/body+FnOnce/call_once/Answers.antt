use Rattle.std.proofs.Common.{rules}
use Rattle.circ.proofs.serving.fn.spawn.body+FnOnce.call_once.Goals as goal

pub body-requires : goal.body-requires
body-requires g c = let h = c.requires.1.1.1.1.1 in (search rules, (search rules, (search rules, (search rules, (search rules, search rules)))))
