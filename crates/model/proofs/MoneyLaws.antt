-- In every legal history fines, prices and debts are bounded, and numbers aren't past their end.
use Rattle.terms.specs.declared.limits.TheConstants.{LAST_NUMBER}
use Rattle.std.proofs.Common.{◌≡◌, ℕ, zero, suc, ◌*◌, ◌≤◌, ◌<◌, ◌==◌, nat_le, Bool, true, false, cond, List, [], ◌∷◌, ◌++◌, length}
use Rattle.std.proofs.Common.{length-append, refl, ap, subst, arith}
use Rattle.std.specs.Prelude.{Option, Some, None, option_map, unwrap_or, filter, min}
use Rattle.std.proofs.lemmas.List.Sums.{sum_by-append, sum_by-cons}
use Rattle.std.proofs.lemmas.Bool.{leb-false}
use Rattle.terms.specs.Money.{fine_for}
use Rattle.terms.specs.declared.command.Owner.{Owner}
use Rattle.terms.specs.declared.command.Command.{Command}
use Rattle.terms.specs.declared.command.Command.TheVariants.{CheckOut}
use Rattle.terms.specs.declared.row.Sort.{Sort}
use Rattle.terms.specs.declared.row.Sort.TheVariants.{Fine, Price, Charge as ChargeSort}
use Rattle.terms.specs.declared.refusal.Refusal.TheVariants as check
use Rattle.model.specs.Calendar.{late}
use Rattle.model.specs.History.{History, today, is_open, loans, loans_after, next_loan, HoldFacts, hold_made, holds, holds_after, CopyFacts, copy_of}
use Rattle.model.specs.Places.{Place, Loan, place}
use Rattle.model.specs.Loans.{LoanFacts, loan_of, loan_after, due, grace_of, terms_for, no_terms}
use Rattle.model.specs.Accounts.{Note, Line, Posting, Returned, Lost, Settled, Charged, NoPosting, posting, fine_now, price_of, borrower, noted_line}
use Rattle.model.specs.Accounts.{fine_line, price_line, lines_posted, lines_after, lines, charge, charges, owed}
use Rattle.model.specs.Refusals.{refusal, checks}
use Rattle.model.specs.Requests.{IsLegal}
use Rattle.model.proofs.Passing.{passed}
use Rattle.model.proofs.MadeHolds.{placeable}
use Rattle.model.proofs.Postings.{settlement, charging, lines-event, lines-numbered}
use Rattle.model.proofs.SettingLaws.{SettingLaws, legal-SettingLaws}
use Rattle.model.proofs.DueDayLaws.{checked_out-terms, rule-of_terms}

pub record MoneyLaws (H : History) : Type 0 where
  pub caps : (l : ℕ) (r : LoanFacts) → loan_of H l ≡ Some r → r.terms.cap ≤ 100000
  pub charged : charges (lines H) ≤ 1000000 * length (lines H)
  pub lines_left : length (lines H) ≤ LAST_NUMBER
  pub loans_left : loans H ≤ LAST_NUMBER
  pub holds_left : holds H ≤ LAST_NUMBER

-- A fine is no more than its cap.
fine-le : (days rate cap grace : ℕ) → fine_for days rate cap grace ≤ cap
fine-le days rate cap grace = go (nat_le days grace)
  where
    go : (x : Bool) → elim x as (λ _. ℕ) [ true ↦ 0 | false ↦ min (days * rate) cap ] ≤ cap
    go true = omega arith
    go false = omega arith

module _ (H : History) (inv : MoneyLaws H) (settings : SettingLaws H) where
  pub fine-small : (l : ℕ) → fine_now H (grace_of H) l ≤ 100000
  fine-small l = go (loan_of H l) refl
    where
      go : (y : Option LoanFacts) → loan_of H l ≡ y
          → unwrap_or (option_map (λ r. fine_for (late (is_open H r.branch) (due H l) (today H)) r.terms.rate r.terms.cap (grace_of H l)) y)
          0 ≤ 100000
      go (Some r) e = omega (arith, inv.caps l r e, fine-le (late (is_open H r.branch) (due H l) (today H)) r.terms.rate r.terms.cap (grace_of H l))
      go None e = omega arith

  pub price-small : (c : ℕ) → price_of H c ≤ 1000000
  price-small c = go (copy_of H c) refl
    where
      go : (y : Option CopyFacts) → copy_of H c ≡ y → unwrap_or (option_map (λ r. r.price) y) 0 ≤ 1000000
      go (Some r) e = settings.prices c r e
      go None e = omega arith

  -- New lines of at most 1,000,000 cents each.
  abbrev AreSmall : List Line → Type 0
  AreSmall xs = charges xs ≤ 1000000 * length xs

  line-small : (p : ℕ) (s : Sort) (loan : Option ℕ) (remark : Option Note) (n : ℕ) → charge s n ≤ 1000000 → AreSmall (noted_line H p s loan remark n)
  line-small p s loan remark zero le = omega arith
  line-small p s loan remark (suc n) le = omega (arith, le)

  fine_line-small : (at : Place) → AreSmall (fine_line H (grace_of H) at)
  fine_line-small (Loan l) = line-small (borrower H l) Fine (Some l) None (fine_now H (grace_of H) l) (omega (arith, fine-small l))
  fine_line-small _ = omega arith

  price_line-small : (c : ℕ) (at : Place) → AreSmall (price_line H c at)
  price_line-small c (Loan l) = line-small (borrower H l) Price (Some l) None (price_of H c) (price-small c)
  price_line-small c _ = omega arith

  append-small : (xs ys : List Line) → AreSmall xs → AreSmall ys → AreSmall (xs ++ ys)
  append-small xs ys a b = rw (sum_by-append (λ x. charge x.sort x.amount) xs ys, length-append xs ys) (omega (arith, a, b))

  new-small : (o : Owner) (x : Command) (made : Posting) → refusal H o x ≡ None → posting x ≡ made → AreSmall (lines_posted H (place H) (grace_of H) made)
  new-small o x (Returned c) ok e = fine_line-small (place H c)
  new-small o x (Lost c) ok e = append-small (fine_line H (grace_of H) (place H c)) (price_line H c (place H c)) (fine_line-small (place H c))
      (price_line-small c (place H c))
  new-small o x (Settled p sort remark n) ok e = line-small p sort None remark n (omega (arith, (settlement x p n sort remark e).charges n))
  new-small o x (Charged p remark n) ok e = line-small p ChargeSort None (Some remark) n (charging H o x p n remark ok e).amount
  new-small o x NoPosting ok e = omega arith

  charged-step : (o : Owner) (x : Command) → refusal H o x ≡ None → AreSmall (lines_after H (posting x) (lines H))
  charged-step o x ok =
      let made = posting x in
      rw (lines-event H made) (append-small (lines H) (lines_posted H (place H) (grace_of H) made) inv.charged (new-small o x made ok refl))

  loans-step : (o : Owner) (x : Command) → refusal H o x ≡ None → loans_after x (loans H) ≤ LAST_NUMBER
  loans-step o (CheckOut p c b) ok =
      let room : loans H < LAST_NUMBER = leb-false _ _ (passed (checks H o (CheckOut p c b)) ok check.NumbersUsedUp) in omega (arith, room)
  loans-step o _ ok = inv.loans_left

  holds-step : (o : Owner) (x : Command) (made : Option HoldFacts) → hold_made x ≡ made → refusal H o x ≡ None → holds_after made (holds H) ≤ LAST_NUMBER
  holds-step o x (Some made) e ok = let room : holds H < LAST_NUMBER = leb-false _ _ (placeable H o x made ok e).room in omega (arith, room)
  holds-step o x None e ok = inv.holds_left

  caps-step : (o : Owner) (x : Command) → refusal H o x ≡ None → (l : ℕ) (r : LoanFacts) → loan_after H x l (loan_of H l) ≡ Some r → r.terms.cap ≤ 100000
  caps-step o (CheckOut p c b) ok l r e = go (next_loan H == l) e
    where
      small : (unwrap_or (terms_for H p c) no_terms).cap ≤ 100000
      small =
          let t = checked_out-terms H o p c b ok in
          rw t.1 (rule-of_terms H settings p c t.0 t.1).1

      go : (x : Bool) → cond x (Some
          (record { copy = c; patron = p; branch = b; made = today H; terms = unwrap_or (terms_for H p c) no_terms }))
          (loan_of H l) ≡ Some r → r.terms.cap ≤ 100000
      go true f =
          let same : ◌≡◌ {A = LoanFacts} (record { copy = c; patron = p; branch = b; made = today H; terms = unwrap_or (terms_for H p c) no_terms }) r = cc in
          subst (λ q. q ≤ 100000) (ap (λ q. q.terms.cap) same) small
      go false f = inv.caps l r f
  caps-step o _ ok l r e = inv.caps l r e

pub legal-MoneyLaws : (H : History) → IsLegal H → MoneyLaws H
legal-MoneyLaws [] legal = record {
  caps = λ l r e. let never : ⊥ = cc in absurd never;
  charged = omega arith;
  lines_left = omega arith;
  loans_left = omega arith;
  holds_left = omega arith;
}
legal-MoneyLaws (e ∷ H) legal =
    let inv : MoneyLaws H = legal-MoneyLaws H legal.1 in
    let settings : SettingLaws H = legal-SettingLaws H legal.1 in
    let ok = legal.0.unrefused in
    record {
      caps = caps-step H inv settings e.owner e.command ok;
      charged = charged-step H inv settings e.owner e.command ok;
      lines_left = lines-numbered H e.owner e.command inv.lines_left ok;
      loans_left = loans-step H inv settings e.owner e.command ok;
      holds_left = holds-step H inv settings e.owner e.command (hold_made e.command) refl ok;
    }

-- ---- what is owed

some-charged : (p : ℕ) (xs : List Line) → charges (filter (λ x. x.patron == p) xs) ≤ charges xs
some-charged p [] = omega arith
some-charged p (x ∷ xs) = go (x.patron == p) (some-charged p xs)
  where
    go : (b : Bool) → charges (filter (λ y. y.patron == p) xs) ≤ charges xs
        → charges (cond b (x ∷ filter (λ y. y.patron == p) xs) (filter (λ y. y.patron == p) xs)) ≤ charges (x ∷ xs)
    go true le = omega (arith, le, sum_by-cons (λ y. charge y.sort y.amount) x xs, sum_by-cons (λ y. charge y.sort y.amount) x (filter (λ y. y.patron == p) xs))
    go false le = omega (arith, le, sum_by-cons (λ y. charge y.sort y.amount) x xs)

-- Nobody owes more than 1,000,000 cents for each line that there is.
pub owed-bound : (H : History) (p : ℕ) → MoneyLaws H → owed H p ≤ 1000000 * length (lines H)
owed-bound H p inv = omega (arith, inv.charged, some-charged p (lines H))
