use Rattle.std.proofs.Common.{◌≡◌, ◌∙◌, ◌+◌, ◌<◌, ◌≤◌, ap, sym, subst, get_or, length, not, Option, Bor}
use Rattle.clerks.specs.declared.clerk.Clerk.{Clerk}
use Rattle.clerks.proofs.Finding.{IsFoundBefore, found-here, found-before, not-found, found-of-all}
use Rattle.clerks.proofs.list.Clerks.find.Goals.{then-has_key+then-is_none, else-has_key, else-has_key-via-then-has_key+else-is_none, else-has_key-via-else-has_key}
use Rattle.clerks.proofs.list.Clerks.find.Goals as goal

pub clerks-preserved : goal.clerks-preserved
clerks-preserved c =
    let shown = c.args.shown.now in
    let all = c.args.self.now in
    let i = c.clerks.clerk-index in
    let clerk = c.clerk-item.result in
    let is-next : clerk ≡ get_or all i clerk = subst (λ l. clerk ≡ get_or l i clerk) c.clerks.invariant.0 c.clerk-item.is in
    let within : i < length all = subst (λ l. i < length l) c.clerks.invariant.0 c.clerks-test.true in (
      c.clerks.invariant.0,
      elim c.if-has_key.branch [
        | then-has_key+then-is_none w ↦
            subst (λ (o : Option (Bor Clerk)). IsFoundBefore shown all (i + 1) o) (sym w.found-is)
            (found-here shown all i clerk is-next within c.clerks.found (w.is_none.ensures ∙ ap not w.if-is_none.true)
            (sym c.has_key.ensures ∙ w.if-has_key.true) c.clerks.invariant.1)
        | else-has_key w ↦ subst (λ (o : Option (Bor Clerk)). IsFoundBefore shown all (i + 1) o) (sym w.found-is) (elim w.else-has_key.branch [
          | else-has_key-via-then-has_key+else-is_none w' ↦
              found-before shown all i clerk is-next within c.clerks.found (w'.is_none.ensures ∙ ap not w'.if-is_none.false) c.clerks.invariant.1
          | else-has_key-via-else-has_key w' ↦
              not-found shown all i clerk is-next within c.clerks.found (sym c.has_key.ensures ∙ w'.if-has_key.false) c.clerks.invariant.1
        ])
      ],
    )

pub returns : goal.returns
returns c = found-of-all c.args.shown.now c.args.self.now c.clerks.clerk-index c.clerks.found
    (subst (λ l. length l ≤ c.clerks.clerk-index) c.clerks.invariant.0 c.clerks-test.false) c.clerks.invariant.1
