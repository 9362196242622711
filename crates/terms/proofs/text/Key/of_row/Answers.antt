use Rattle.std.proofs.Common.{◌≡◌, sym, subst, true}
use Rattle.terms.specs.Forms.{is_key}
use Rattle.terms.proofs.KeyLemmas.{request_text-is_key}
use Rattle.terms.proofs.text.Key.of_row.Goals as goal

pub invariant_of-result : goal.invariant_of-result
invariant_of-result c = subst (λ t. is_key t ≡ true) (sym c.in_ok-text.ensures) (request_text-is_key c.args.command.now)
