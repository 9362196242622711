use Rattle.std.proofs.Common.{◌≡◌, sym, subst, true, rules}
use Rattle.std.specs.Prelude.{string_bytes}
use Rattle.terms.specs.Forms.{is_outside_key, is_clerk_name, clerk_key, is_key}
use Rattle.terms.proofs.KeyLemmas.{clerk_key-is_key}
use Rattle.terms.proofs.text.Key.of_clerk.Goals as goal

pub invariant_of-result : goal.invariant_of-result
invariant_of-result c =
    let made : string_bytes c.in_ok-text.text ≡ clerk_key c.args.name.now c.args.key.now = search rules in
    let named : is_clerk_name c.args.name.now ≡ true = search rules in
    let given : is_outside_key c.args.key.now ≡ true = search rules in
    subst (λ t. is_key t ≡ true) (sym made)
    (clerk_key-is_key c.args.name.now c.args.key.now named given)
