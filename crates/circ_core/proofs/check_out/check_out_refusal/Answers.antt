use Rattle.terms.specs.declared.limits.TheConstants.{LAST_NUMBER}
use Rattle.std.proofs.Common.{◌≡◌, Bool, List, [], ◌∷◌, ap, ◌∙◌, rules}
use Rattle.std.specs.Prelude.{◌==◌, not, nat_le, nat_lt, is_none, is_some}
use Rattle.terms.specs.declared.refusal.Refusal.TheVariants.{UnknownBranch, UnknownPatron, UnknownCopy, CopyWithdrawn, CopyMissing, OnLoan}
use Rattle.terms.specs.declared.refusal.Refusal.TheVariants.{InTransit, Elsewhere, OnHoldShelf, HoldWaits, AlreadyHolds, NoRule}
use Rattle.terms.specs.declared.refusal.Refusal.TheVariants.{TooManyLoans, OwesTooMuch, NumbersUsedUp, PastCalendar}
use Rattle.model.specs.Checks.{Check, first_failing}
use Rattle.circ_core.specs.Condition.{is_missing, is_withdrawn}
use Rattle.circ_core.specs.CheckOut.{stands_at, is_of_other, filled_hold, is_wanted, has_more, loans_allowed, loan_due}
use Rattle.circ_core.specs.Debt.{debt_allowed, owed_by}
use Rattle.circ_core.proofs.check_out.check_out_refusal.Goals as goal

-- the same tests fail in the same order
same_table : (b0 b1 b2 b3 b4 b5 b6 b7 b8 b9 b10 b11 b12 b13 b14 b15 d0 d1 d2 d3 d4 d5 d6 d7 d8 d9 d10 d11 d12 d13 d14 d15 : Bool) → b0 ≡ d0
    → b1 ≡ d1 → b2 ≡ d2 → b3 ≡ d3 → b4 ≡ d4 → b5 ≡ d5 → b6 ≡ d6 → b7 ≡ d7 → b8 ≡ d8 → b9 ≡ d9 → b10 ≡ d10 → b11 ≡ d11 → b12 ≡ d12
    → b13 ≡ d13 → b14 ≡ d14 → b15 ≡ d15
    → first_failing ((UnknownBranch, b0) ∷ (UnknownPatron, b1) ∷ (UnknownCopy, b2) ∷ (CopyWithdrawn, b3) ∷ (CopyMissing, b4) ∷ (OnLoan, b5)
    ∷ (InTransit, b6) ∷ (Elsewhere, b7) ∷ (OnHoldShelf, b8) ∷ (HoldWaits, b9) ∷ (AlreadyHolds, b10) ∷ (NoRule, b11)
    ∷ (TooManyLoans, b12) ∷ (OwesTooMuch, b13) ∷ (NumbersUsedUp, b14) ∷ (PastCalendar, b15) ∷ [])
    ≡ first_failing ((UnknownBranch, d0) ∷ (UnknownPatron, d1) ∷ (UnknownCopy, d2) ∷ (CopyWithdrawn, d3) ∷ (CopyMissing, d4) ∷ (OnLoan, d5)
    ∷ (InTransit, d6) ∷ (Elsewhere, d7) ∷ (OnHoldShelf, d8) ∷ (HoldWaits, d9) ∷ (AlreadyHolds, d10) ∷ (NoRule, d11)
    ∷ (TooManyLoans, d12) ∷ (OwesTooMuch, d13) ∷ (NumbersUsedUp, d14) ∷ (PastCalendar, d15) ∷ [])
same_table b0 b1 b2 b3 b4 b5 b6 b7 b8 b9 b10 b11 b12 b13 b14 b15 d0 d1 d2 d3 d4 d5 d6 d7 d8 d9 d10 d11 d12 d13 d14 d15 e0 e1 e2 e3 e4 e5 e6
    e7 e8 e9 e10 e11 e12 e13 e14 e15 =
    let left : List Check = (UnknownBranch, b0) ∷ (UnknownPatron, b1) ∷ (UnknownCopy, b2) ∷ (CopyWithdrawn, b3) ∷ (CopyMissing, b4)
    ∷ (OnLoan, b5) ∷ (InTransit, b6) ∷ (Elsewhere, b7) ∷ (OnHoldShelf, b8) ∷ (HoldWaits, b9) ∷ (AlreadyHolds, b10) ∷ (NoRule, b11)
    ∷ (TooManyLoans, b12) ∷ (OwesTooMuch, b13) ∷ (NumbersUsedUp, b14) ∷ (PastCalendar, b15) ∷ [] in
    let right : List Check = (UnknownBranch, d0) ∷ (UnknownPatron, d1) ∷ (UnknownCopy, d2) ∷ (CopyWithdrawn, d3) ∷ (CopyMissing, d4)
    ∷ (OnLoan, d5) ∷ (InTransit, d6) ∷ (Elsewhere, d7) ∷ (OnHoldShelf, d8) ∷ (HoldWaits, d9) ∷ (AlreadyHolds, d10) ∷ (NoRule, d11)
    ∷ (TooManyLoans, d12) ∷ (OwesTooMuch, d13) ∷ (NumbersUsedUp, d14) ∷ (PastCalendar, d15) ∷ [] in
    let same : left ≡ right = cc in
    ap first_failing same

pub returns : goal.returns
returns c =
    let v = c.args.view.now in
    let p = c.args.patron in
    let b = c.args.branch in
    c.first_refusal.ensures
    ∙ same_table c.is_none.result c.is_none-2.result c.is_none-3.result c.is_withdrawn.result c.is_missing.result c.is_some.result
    c.is_some-2.result (not c.is_at.result) c.is_anothers.result c.is_for_another.result c.holds_more.result c.is_none-4.result
    c.has_all_loans.result c.owes_too_much.result c.is_used_up.result c.args.is_late
    (is_none v.calendar) (is_none v.patron) (is_none v.copy) (is_withdrawn v.copy) (is_missing v.copy) (is_some v.loan) (is_some v.transit)
    (not (stands_at v.hold v.copy == b)) (is_of_other v.hold p) (is_wanted v.hold v.first p)
    (has_more (filled_hold v.hold v.first) v.own_holds) (is_none v.rule) (nat_le (loans_allowed v.kind) v.open_loans)
    (nat_lt (debt_allowed v.kind) (owed_by v.patron)) (nat_lt LAST_NUMBER v.meta.next_loan) (is_none (loan_due v))
    (search rules) (search rules) (search rules) (search rules) (search rules) (search rules) (search rules) (search rules) (search rules)
    (search rules) (search rules) (search rules) (search rules) (search rules) (search rules) (search rules)
