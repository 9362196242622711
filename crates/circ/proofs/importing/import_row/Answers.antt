use Rattle.std.proofs.Common.{rules}
use Rattle.desk.proofs.Looking.{on-err-any}
use Rattle.circ.proofs.importing.import_row.Goals as goal

pub returns-in_err-write_row-in-Ok : goal.returns-in_err-write_row-in-Ok
returns-in_err-write_row-in-Ok g c = record {
  clean = c.in-Ok.ensures.clean;
  done = search rules;
  silent = search rules;
  sound = search rules;
  undone = search rules;
  nothing = search rules;
  left = c.in-Ok.ensures.left;
  cut = on-err-any c.from_residual.result (c.in-Ok.reply, c.in-Ok.ensures, search rules);
}
