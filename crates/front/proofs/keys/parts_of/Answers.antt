use Rattle.std.proofs.Common.{sym, subst, List, ℕ, Option, Bor}
use Rattle.std.specs.Prelude.{IfNone}
use Rattle.clerks.specs.declared.clerk.Role.{Role}
use Rattle.front.specs.KeyReading.{IsNoLine}
use Rattle.front.proofs.KeyLines.{unsplit, unsplit_rest, other_word, parts_made}
use Rattle.front.proofs.keys.parts_of.Goals as goal

abbrev Parts : Type 0
Parts = Option (Bor (List ℕ) × Role × Bor (List ℕ))

pub returns-in_err-name-clause-none : goal.returns-in_err-name-clause-none
returns-in_err-name-clause-none c =
    subst (λ (o : Parts). IfNone o (IsNoLine c.args.line.now)) (sym c.from_residual.ensures) (unsplit c.args.line.now c.in_err-name.ensures.cases)

pub returns-in_err-word-clause-none : goal.returns-in_err-word-clause-none
returns-in_err-word-clause-none c =
    subst (λ (o : Parts). IfNone o (IsNoLine c.args.line.now)) (sym c.from_residual-in_err-word.ensures)
    (unsplit_rest c.args.line.now c.in_ok-name.name c.in_ok-name.rest c.in_ok-name.ensures.cases c.in_err-word.ensures.cases)

pub returns-in_err-read_role-clause-none : goal.returns-in_err-read_role-clause-none
returns-in_err-read_role-clause-none c =
    subst (λ (o : Parts). IfNone o (IsNoLine c.args.line.now)) (sym c.from_residual-in_err-read_role.ensures)
    (other_word c.args.line.now c.in_ok-name.name c.in_ok-name.rest c.in_ok-word.word c.in_ok-word.key c.in_ok-name.ensures.cases c.in_ok-word.ensures.cases
    c.in_err-read_role.ensures)

pub returns-clause-some : goal.returns-clause-some
returns-clause-some c =
    parts_made c.args.line.now c.in_ok-name.name c.in_ok-name.rest c.in_ok-word.word c.in_ok-word.key c.in_ok-read_role.field-0 c.in_ok-name.ensures.cases
    c.in_ok-word.ensures.cases c.in_ok-read_role.ensures
