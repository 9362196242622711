use Rattle.std.proofs.Common.{sym, subst, rules, List, ℕ, Option, Some, None, Bor}
use Rattle.std.specs.Prelude.{MatchOption}
use Rattle.std.proofs.lemmas.List.{take_rest}
use Rattle.front.specs.KeyReading.{IsCut}
use Rattle.front.proofs.KeyLines.{cut_made, uncut}
use Rattle.front.proofs.keys.cut_line.Goals as goal

pub returns-in_err-end : goal.returns-in_err-end
returns-in_err-end c =
    subst (λ (o : Option (Bor (List ℕ) × Bor (List ℕ))). MatchOption o (IsCut c.args.bytes.now None) (λ cut. IsCut c.args.bytes.now (Some (cut.0.now, cut.1.now))))
    (sym c.from_residual.ensures) (uncut c.args.bytes.now (search rules))

pub returns : goal.returns
returns c =
    let made = cut_made c.args.bytes.now c.in_ok-end.end (search rules) (search rules) (search rules) in
    rw take_rest made
