use Rattle.std.proofs.Common.{inl, inr, refl}
use Rattle.web.proofs.CheckLemmas.{parts_checked}
use Rattle.web.proofs.request.check_parts.Goals as goal

pub returns-in-Some-2-clause-checks : goal.returns-in-Some-2-clause-checks
returns-in-Some-2-clause-checks c = parts_checked _ _ _ _ c.in-Some.route _ _ _ _ _ _ _ c.in-Some.ensures.some.0 c.in-Some.ensures.some.1
    c.in_ok-check_method.ensures c.in_ok-check_repeats.ensures c.in_ok-shown.ensures c.in_ok-key.ensures.key
    (inr (c.in-Some-2.command, (rw c.in-Some-2.is at c.in_ok-command.ensures.asked), cc))

pub returns-in-None-clause-checks : goal.returns-in-None-clause-checks
returns-in-None-clause-checks c = parts_checked _ _ _ _ c.in-Some.route _ _ _ _ _ _ _ c.in-Some.ensures.some.0 c.in-Some.ensures.some.1
    c.in_ok-check_method.ensures c.in_ok-check_repeats.ensures c.in_ok-shown.ensures c.in_ok-key.ensures.key
    (inl ((rw c.in-None.is at c.in_ok-command.ensures.none), refl))
