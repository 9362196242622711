-- For every patron of a legal history, charges are payments and waivers plus the debt.
use Rattle.std.proofs.Common.{◌≡◌, ℕ, zero, suc, ◌+◌, ◌≤◌, ◌==◌, Bool, true, false, cond, ◌||◌, List, [], ◌∷◌, refl, arith}
use Rattle.std.specs.Prelude.{Option, Some, None, filter, nat_lt}
use Rattle.std.proofs.lemmas.List.Elements.{filter-append}
use Rattle.std.proofs.lemmas.List.Sums.{sum_by-append}
use Rattle.std.proofs.lemmas.Bool.{ltb-false, eqb-true, or_parts}
use Rattle.terms.specs.declared.command.Owner.{Owner}
use Rattle.terms.specs.declared.row.Sort.{Sort}
use Rattle.terms.specs.declared.row.Sort.TheVariants.{Fine, Price, Charge as ChargeSort}
use Rattle.terms.specs.declared.command.Command.{Command}
use Rattle.model.specs.History.{History}
use Rattle.model.specs.Places.{Place, Loan, place}
use Rattle.model.specs.Loans.{grace_of}
use Rattle.model.specs.Accounts.{Note, Line, Posting, Returned, Lost, Settled, Charged, NoPosting, posting, line_of, noted_line, lines, lines_posted, fine_line}
use Rattle.model.specs.Accounts.{price_line, account, charge, credit, charges, credits, owed}
use Rattle.model.specs.Refusals.{refusal}
use Rattle.model.specs.Requests.{IsLegal}
use Rattle.model.proofs.Postings.{settlement, settling, lines-event}

-- The lines among these that are the patron's.
abbrev pub of_patron : ℕ → List Line → List Line
of_patron p xs = filter (λ x. x.patron == p) xs

-- What the lines take off the charges is at most the charges.
abbrev pub Covers : List Line → Type 0
Covers xs = credits xs ≤ charges xs

-- ---- one line

-- A fine or price line gives no credit.
one_charge : (x : Line) (p : ℕ) → credit x.sort x.amount ≡ 0 → credits (of_patron p (x ∷ [])) ≡ 0
one_charge x p e = go (x.patron == p)
  where
    go : (b : Bool) → credits (cond b (x ∷ []) []) ≡ 0
    go true = omega (arith, e)
    go false = refl

fine_credit : (H : History) (q p : ℕ) (l : Option ℕ) (n : ℕ) → credits (of_patron p (line_of H q Fine l n)) ≡ 0
fine_credit H q p l zero = refl
fine_credit H q p l (suc n) = one_charge _ p refl

price_credit : (H : History) (q p : ℕ) (l : Option ℕ) (n : ℕ) → credits (of_patron p (line_of H q Price l n)) ≡ 0
price_credit H q p l zero = refl
price_credit H q p l (suc n) = one_charge _ p refl

charge_credit : (H : History) (q p : ℕ) (remark : Option Note) (n : ℕ) → credits (of_patron p (noted_line H q ChargeSort None remark n)) ≡ 0
charge_credit H q p remark zero = refl
charge_credit H q p remark (suc n) = one_charge _ p refl

fine_line_credit : (H : History) (p : ℕ) (at : Place) → credits (of_patron p (fine_line H (grace_of H) at)) ≡ 0
fine_line_credit H p (Loan l) = fine_credit H _ p _ _
fine_line_credit H p _ = refl

price_line_credit : (H : History) (c p : ℕ) (at : Place) → credits (of_patron p (price_line H c at)) ≡ 0
price_line_credit H c p (Loan l) = price_credit H _ p _ _
price_line_credit H c p _ = refl

-- A payment or waiver of at most what is owed is covered: it is the patron's own, or nothing to the account.
own_covers : (H : History) (p q n : ℕ) (s : Sort) (b : Bool) → (q == p) ≡ b → credit s n ≡ n → n ≤ owed H q → Covers (account H p)
    → (x : Line) → x.sort ≡ s → x.amount ≡ n → credits (account H p) + credits (cond b (x ∷ []) []) ≤ charges (account H p) + charges (cond b (x ∷ []) [])
own_covers H p q n s true e c le covers x es ea =
    let own : n ≤ owed H p = rw (eqb-true q p e) at le in
    let c' : credit x.sort x.amount ≡ n = rw (es, ea) c in
    omega (arith, own, c', covers)
own_covers H p q n s false e c le covers x es ea = omega (arith, covers)

line_covers : (H : History) (p q n : ℕ) (s : Sort) (remark : Option Note) → ((k : ℕ) → credit s k ≡ k) → n ≤ owed H q → Covers (account H p)
    → credits (account H p) + credits (of_patron p (noted_line H q s None remark n))
    ≤ charges (account H p) + charges (of_patron p (noted_line H q s None remark n))
line_covers H p q zero s remark c le covers = omega (arith, covers)
line_covers H p q (suc n) s remark c le covers = own_covers H p q (suc n) s (q == p) refl (c (suc n)) le covers _ refl refl

-- ---- one event

-- An amount that isn't refused is at most what is owed.
amount_le : (H : History) (p n : ℕ) → ((n == 0) || nat_lt (owed H p) n) ≡ false → n ≤ owed H p
amount_le H p n e = ltb-false _ _ (or_parts _ _ e).1

abbrev new_lines : History → Posting → ℕ → List Line
new_lines H made p = of_patron p (lines_posted H (place H) (grace_of H) made)

new_covers : (H : History) (o : Owner) (x : Command) (made : Posting) → posting x ≡ made → (p : ℕ) → refusal H o x ≡ None → Covers (account H p)
    → credits (account H p) + credits (new_lines H made p) ≤ charges (account H p) + charges (new_lines H made p)
new_covers H o x (Returned c) e p ok covers = omega (arith, covers, fine_line_credit H p (place H c))
new_covers H o x (Lost c) e p ok covers =
    rw (
      filter-append (λ x. x.patron == p) (fine_line H (grace_of H) (place H c)) (price_line H c (place H c)),
      sum_by-append (λ x. credit x.sort x.amount) (of_patron p (fine_line H (grace_of H) (place H c)))
          (of_patron p (price_line H c (place H c))),
    )
    (omega (arith, covers, fine_line_credit H p (place H c), price_line_credit H c p (place H c)))
new_covers H o x (Settled q sort remark n) e p ok covers =
    line_covers H p q n sort remark (settlement x q n sort remark e).credits (amount_le H q n (settling H o x q n sort remark ok e).amount) covers
new_covers H o x (Charged q remark n) e p ok covers = omega (arith, covers, charge_credit H q p (Some remark) n)
new_covers H o x NoPosting e p ok covers = omega (arith, covers)

-- ---- every legal history

pub account_covers : (H : History) (p : ℕ) → IsLegal H → Covers (account H p)
account_covers [] p legal = omega arith
account_covers (e ∷ H) p legal =
    let made = posting e.command in
    rw (
      lines-event H made,
      filter-append (λ x. x.patron == p) (lines H) (lines_posted H (place H) (grace_of H) made),
      sum_by-append (λ x. credit x.sort x.amount) (account H p) (new_lines H made p),
      sum_by-append (λ x. charge x.sort x.amount) (account H p) (new_lines H made p),
    )
    (new_covers H e.owner e.command made refl p legal.0.unrefused (account_covers H p legal.1))

-- Charges are payments and waivers plus what is owed.
pub balance : (H : History) (p : ℕ) → IsLegal H → charges (account H p) ≡ credits (account H p) + owed H p
balance H p legal = omega (arith, account_covers H p legal)
