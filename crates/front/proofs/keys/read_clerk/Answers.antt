use Rattle.std.proofs.Common.{sym, subst, ◌∙◌}
use Rattle.std.specs.Prelude.{IsUtf8}
use Rattle.front.proofs.KeyLines.{line_utf8, other_name, other_key}
use Rattle.front.proofs.keys.read_clerk.Goals as goal

pub returns-in_default : goal.returns-in_default
returns-in_default c = λ clerk h e. c.in_default.ensures.cases.0 (subst IsUtf8 (sym e) (line_utf8 clerk h))

pub returns-in_default-2 : goal.returns-in_default-2
returns-in_default-2 c = λ clerk h e.
    let other = rw c.in_default-2.is at c.in_ok-name.ensures in
    other_name c.in-Ok.line.now c.in-Some.name.now c.in-Some.role c.in-Some.key.now c.in-Some.ensures.some other clerk h (c.in-Ok.ensures.cases.0 ∙ e)

pub returns-in_default-3 : goal.returns-in_default-3
returns-in_default-3 c = λ clerk h e.
    let other = rw c.in_default-3.is at c.in_ok-key.ensures in
    other_key c.in-Ok.line.now c.in-Some.name.now c.in-Some.role c.in-Some.key.now c.in-Some.ensures.some other clerk h (c.in-Ok.ensures.cases.0 ∙ e)
