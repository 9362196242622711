use Rattle.std.proofs.Common.{◌≡◌, map, drop}
use Rattle.terms.specs.Commands.{line, parts_in}
use Rattle.terms.proofs.form.form_named.Given as goal

abbrev pub invariant-loop-form : goal.invariant-loop-form
invariant-loop-form l = parts_in (map line (drop l.form-index l.forms)) l.name ≡ parts_in (map line l.forms) l.name
