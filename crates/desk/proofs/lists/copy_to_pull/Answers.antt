use Rattle.std.proofs.Common.{sym, ◌∙◌, ap}
use Rattle.std.specs.Prelude.{option_map}
use Rattle.std.proofs.lemmas.Bool.{eqb-true, eqb-false}
use Rattle.model.proofs.Invariants.{legal-Invariant}
use Rattle.model.proofs.RowRanges.{legal-rows}
use Rattle.desk.proofs.Looking.{looked, ◌⨾◌, gives, fails}
use Rattle.desk.proofs.Pulls.{pulled-none, pulled-later, pulled-now}
use Rattle.desk.proofs.lists.copy_to_pull.Goals as goal

pub returns-in_err-first : goal.returns-in_err-first
returns-in_err-first g c = fails _ c.from_residual.ensures (looked c.in_err-first.ensures legal-rows legal-rows) (λ _ _ _. tt)

pub returns-in_default : goal.returns-in_default
returns-in_default g c = gives (looked c.in_ok-first.ensures legal-rows legal-rows) (λ _ _ _. tt) (λ H legal given first.
    sym (pulled-none H (legal-Invariant H legal) c.args.pulls.now.branch c.args.row.now given.1 (rw c.in_default.is at (first given.0))))

pub returns-then-not-is_of : goal.returns-then-not-is_of
returns-then-not-is_of g c = gives (looked c.in_ok-first.ensures legal-rows legal-rows) (λ _ _ _. tt) (λ H legal given first.
    sym (pulled-later H (legal-Invariant H legal) c.args.pulls.now.branch c.args.row.now given.1 c.in-Some.first (rw c.in-Some.is at (first given.0))
    (eqb-false _ _ (sym c.is_of.ensures ∙ c.if-not-is_of.true))))

pub returns-in_err-copy : goal.returns-in_err-copy
returns-in_err-copy g c = fails _ c.from_residual-in_err-copy.ensures
    (looked c.in_ok-first.ensures legal-rows legal-rows ⨾ looked c.in_err-copy.ensures legal-rows legal-rows) (λ _ _ _. (tt, λ _. tt))

pub returns-in-Some-2 : goal.returns-in-Some-2
returns-in-Some-2 g c = gives (looked c.in_ok-first.ensures legal-rows legal-rows ⨾ looked c.in_ok-copy.ensures legal-rows legal-rows) (λ _ _ _. (tt, λ _. tt))
    (λ H legal given is.
    sym (pulled-now H (legal-Invariant H legal) c.args.pulls.now.branch c.args.row.now given.1 c.in-Some.first (rw c.in-Some.is at (is.0 given.0))
    (eqb-true _ _ (sym c.is_of.ensures ∙ c.if-not-is_of.false)) _ is.1
    ∙ ap (option_map (λ r. r.copy)) c.in-Some-2.is))

pub returns-in-None : goal.returns-in-None
returns-in-None g c = gives (looked c.in_ok-first.ensures legal-rows legal-rows ⨾ looked c.in_ok-copy.ensures legal-rows legal-rows) (λ _ _ _. (tt, λ _. tt))
    (λ H legal given is.
    sym (pulled-now H (legal-Invariant H legal) c.args.pulls.now.branch c.args.row.now given.1 c.in-Some.first (rw c.in-Some.is at (is.0 given.0))
    (eqb-true _ _ (sym c.is_of.ensures ∙ c.if-not-is_of.false)) _ is.1
    ∙ ap (option_map (λ r. r.copy)) c.in-None.is))
