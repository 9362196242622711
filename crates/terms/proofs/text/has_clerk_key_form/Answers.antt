use Rattle.std.proofs.Common.{◌≡◌, ◌∙◌, sym, ap, arith}
use Rattle.std.specs.Prelude.{◌&&◌, ◌==◌, true}
use Rattle.std.specs.List.{before_first, after_first}
use Rattle.std.proofs.lemmas.Bool.{and_left}
use Rattle.std.proofs.lemmas.Str.Pattern.{split_once_first}
use Rattle.terms.specs.Forms.{is_outside_key, is_clerk_name, is_clerk_key}
use Rattle.terms.proofs.KeyLemmas.{slash-none}
use Rattle.terms.proofs.text.has_clerk_key_form.Goals as goal

pub returns-then-has_clerk_name_form : goal.returns-then-has_clerk_name_form
unfolding is_clerk_key
returns-then-has_clerk_name_form c =
    let cut = rw c.in-Some.is at (split_once_first 47 _ _ c.split_once.ensures.cases (omega arith)) in
    let named : is_clerk_name (before_first (λ b. b == 47) c.args.text.now) ≡ true =
    ap is_clerk_name (sym cut.1) ∙ (sym c.has_clerk_name_form.ensures ∙ c.if-has_clerk_name_form.true) in
    c.has_key_form.ensures ∙ (ap is_outside_key cut.2 ∙ sym (ap (λ x. x && is_outside_key (after_first (λ b. b == 47) c.args.text.now)) named))

pub returns-else-has_clerk_name_form : goal.returns-else-has_clerk_name_form
unfolding is_clerk_key
returns-else-has_clerk_name_form c =
    let cut = rw c.in-Some.is at (split_once_first 47 _ _ c.split_once.ensures.cases (omega arith)) in
    c.if-has_clerk_name_form.false
    ∙ sym (and_left _ _ (sym (ap is_clerk_name cut.1) ∙ (sym c.has_clerk_name_form.ensures ∙ c.if-has_clerk_name_form.false)))

pub returns-in-None : goal.returns-in-None
returns-in-None c = sym (slash-none c.args.text.now (rw c.in-None.is at (split_once_first 47 _ _ c.split_once.ensures.cases (omega arith))))
