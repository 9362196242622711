-- A command that posts to accounts: what it passed, and that it adds just its own lines.
use Rattle.std.proofs.Common.{◌≡◌, ℕ, zero, suc, ◌+◌, ◌≤◌, Bool, true, false, not, ◌&&◌, ◌++◌, length, length-append, refl, sym, append-nil, subst, arith}
use Rattle.std.specs.Prelude.{Option, Some, None, nat_le, IfSome, is_some}
use Rattle.std.proofs.lemmas.Bool.{ltb-false, leb-true, and_parts}
use Rattle.terms.specs.declared.limits.TheConstants.{LAST_NUMBER, HIGHEST_CHARGE}
use Rattle.terms.specs.declared.command.Owner.{Owner}
use Rattle.terms.specs.declared.command.Command.{Command}
use Rattle.terms.specs.declared.command.Command.TheVariants.{CheckIn, Missing, Pay, Waive, Charge, PayAt}
use Rattle.terms.specs.declared.row.Sort.{Sort}
use Rattle.terms.specs.declared.row.Sort.TheVariants.{Payment, Waiver, Charge as ChargeSort}
use Rattle.terms.specs.declared.refusal.Refusal.TheVariants as check
use Rattle.model.specs.History.{History}
use Rattle.model.specs.Places.{place}
use Rattle.model.specs.Loans.{grace_of}
use Rattle.model.specs.Accounts.{Note, Posting, Returned, Lost, Settled, Charged, NoPosting, posting, noted_line, lines, lines_posted, lines_by, lines_after, charge, credit}
use Rattle.model.specs.Refusals.{refusal, checks, has_branch, has_patron, is_bad_amount}
use Rattle.model.specs.Sights.{sight}
use Rattle.model.proofs.Passing.{passed}

-- A line of this sort takes its amount off the charges, and adds nothing to them.
pub record IsSettlement (sort : Sort) : Type 0 where
  pub credits : (n : ℕ) → credit sort n ≡ n
  pub charges : (n : ℕ) → charge sort n ≡ 0

-- What a command passed that settles this amount for this patron, whichever command it is.
pub record IsSettling (H : History) (p n : ℕ) : Type 0 where
  pub patron : not (has_patron H p) ≡ false
  pub amount : is_bad_amount H (sight H) p n ≡ false

-- A line with a note that settles something is a payment, and names a branch that is there.
pub record IsCounter (H : History) (sort : Sort) (x : Note) : Type 0 where
  pub payment : sort ≡ Payment
  pub branch : not (has_branch H x.branch) ≡ false
  pub untold : x.text ≡ None

-- What a command passed that charges this amount to this patron, whichever command it is.
pub record IsCharging (H : History) (p : ℕ) (remark : Note) (n : ℕ) : Type 0 where
  pub patron : not (has_patron H p) ≡ false
  pub branch : not (has_branch H remark.branch) ≡ false
  pub told : is_some remark.text ≡ true
  pub amount : n ≤ HIGHEST_CHARGE

pub settlement : (x : Command) (p n : ℕ) (sort : Sort) (remark : Option Note) → posting x ≡ Settled p sort remark n → IsSettlement sort
settlement (Pay q m) p n sort remark e = let same : Payment ≡ sort = cc in subst IsSettlement same (record { credits = λ k. refl; charges = λ k. refl })
settlement (Waive q m) p n sort remark e = let same : Waiver ≡ sort = cc in subst IsSettlement same (record { credits = λ k. refl; charges = λ k. refl })
settlement (PayAt q m b) p n sort remark e = let same : Payment ≡ sort = cc in subst IsSettlement same (record { credits = λ k. refl; charges = λ k. refl })
settlement (CheckIn c b) p n sort remark e = let never : ⊥ = cc in absurd never
settlement (Missing c) p n sort remark e = let never : ⊥ = cc in absurd never
settlement (Charge q m b text) p n sort remark e = let never : ⊥ = cc in absurd never
settlement _ p n sort remark e = let never : ⊥ = cc in absurd never

pub settling : (H : History) (o : Owner) (x : Command) (p n : ℕ) (sort : Sort) (remark : Option Note) → refusal H o x ≡ None
    → posting x ≡ Settled p sort remark n → IsSettling H p n
settling H o (Pay q m) p n sort remark ok e =
    let pass = passed (checks H o (Pay q m)) ok in
    let patron : q ≡ p = cc in
    let amount : m ≡ n = cc in
    subst (λ k. IsSettling H k n) patron (subst (IsSettling H q) amount (record { patron = (pass check.UnknownPatron); amount = (pass check.BadAmount) }))
settling H o (Waive q m) p n sort remark ok e =
    let pass = passed (checks H o (Waive q m)) ok in
    let patron : q ≡ p = cc in
    let amount : m ≡ n = cc in
    subst (λ k. IsSettling H k n) patron (subst (IsSettling H q) amount (record { patron = (pass check.UnknownPatron); amount = (pass check.BadAmount) }))
settling H o (PayAt q m b) p n sort remark ok e =
    let pass = passed (checks H o (PayAt q m b)) ok in
    let patron : q ≡ p = cc in
    let amount : m ≡ n = cc in
    subst (λ k. IsSettling H k n) patron (subst (IsSettling H q) amount (record { patron = (pass check.UnknownPatron); amount = (pass check.BadAmount) }))
settling H o (CheckIn c b) p n sort remark ok e = let never : ⊥ = cc in absurd never
settling H o (Missing c) p n sort remark ok e = let never : ⊥ = cc in absurd never
settling H o (Charge q m b text) p n sort remark ok e = let never : ⊥ = cc in absurd never
settling H o _ p n sort remark ok e = let never : ⊥ = cc in absurd never

pub at-counter : (H : History) (o : Owner) (x : Command) (p n : ℕ) (sort : Sort) (remark : Option Note) → refusal H o x ≡ None
    → posting x ≡ Settled p sort remark n → IfSome remark (IsCounter H sort)
at-counter H o (Pay q m) p n sort remark ok e = let same : None ≡ remark = cc in subst (λ k. IfSome k (IsCounter H sort)) same tt
at-counter H o (Waive q m) p n sort remark ok e = let same : None ≡ remark = cc in subst (λ k. IfSome k (IsCounter H sort)) same tt
at-counter H o (PayAt q m b) p n sort remark ok e =
    let kind : Payment ≡ sort = cc in
    let same : ◌≡◌ {A = Option Note} (Some (record { branch = b; text = None })) remark = cc in
    subst (λ k. IfSome k (IsCounter H sort)) same
    (record { payment = sym kind; branch = passed (checks H o (PayAt q m b)) ok check.UnknownBranch; untold = refl })
at-counter H o (CheckIn c b) p n sort remark ok e = let never : ⊥ = cc in absurd never
at-counter H o (Missing c) p n sort remark ok e = let never : ⊥ = cc in absurd never
at-counter H o (Charge q m b text) p n sort remark ok e = let never : ⊥ = cc in absurd never
at-counter H o _ p n sort remark ok e = let never : ⊥ = cc in absurd never

is-true : (b : Bool) → not b ≡ false → b ≡ true
is-true true e = refl
is-true false e = let never : ⊥ = cc in absurd never

pub charging : (H : History) (o : Owner) (x : Command) (p n : ℕ) (remark : Note) → refusal H o x ≡ None → posting x ≡ Charged p remark n → IsCharging H p remark n
charging H o (Charge q m b text) p n remark ok e =
    let pass = passed (checks H o (Charge q m b text)) ok in
    let patron : q ≡ p = cc in
    let amount : m ≡ n = cc in
    let same : ◌≡◌ {A = Note} (record { branch = b; text = Some text }) remark = cc in
    let within : (nat_le 0 m && nat_le m HIGHEST_CHARGE) ≡ true = is-true _ (pass check.OutOfLimits) in
    let small : m ≤ HIGHEST_CHARGE = leb-true _ _ (and_parts (nat_le 0 m) (nat_le m HIGHEST_CHARGE) within).1 in
    let had : IsCharging H q (record { branch = b; text = Some text }) m = record {
      patron = pass check.UnknownPatron;
      branch = pass check.UnknownBranch;
      told = refl;
      amount = small;
    } in
    subst (λ k. IsCharging H k remark n) patron
    (subst (λ (k : Note). IsCharging H q k n) same (subst (λ k. IsCharging H q (record { branch = b; text = Some text }) k) amount had))
charging H o (Pay q m) p n remark ok e = let never : ⊥ = cc in absurd never
charging H o (Waive q m) p n remark ok e = let never : ⊥ = cc in absurd never
charging H o (PayAt q m b) p n remark ok e = let never : ⊥ = cc in absurd never
charging H o (CheckIn c b) p n remark ok e = let never : ⊥ = cc in absurd never
charging H o (Missing c) p n remark ok e = let never : ⊥ = cc in absurd never
charging H o _ p n remark ok e = let never : ⊥ = cc in absurd never

-- The lines grow by those of the posting.
pub lines-event : (H : History) (made : Posting) → lines_after H made (lines H) ≡ lines H ++ lines_posted H (place H) (grace_of H) made
lines-event H (Returned c) = refl
lines-event H (Lost c) = refl
lines-event H (Settled p sort remark n) = refl
lines-event H (Charged p remark n) = refl
lines-event H NoPosting = sym (append-nil _)

one-line : (H : History) (p : ℕ) (sort : Sort) (remark : Option Note) (n : ℕ) → length (noted_line H p sort None remark n) ≤ 1
one-line H p sort remark zero = omega arith
one-line H p sort remark (suc n) = omega arith

-- No line is numbered past the last number.
pub lines-numbered : (H : History) (o : Owner) (x : Command) → length (lines H) ≤ LAST_NUMBER → refusal H o x ≡ None
    → length (lines_after H (posting x) (lines H)) ≤ LAST_NUMBER
lines-numbered H o (CheckIn c b) before ok =
    let room : length (lines H) + length (lines_by H (CheckIn c b)) ≤ LAST_NUMBER = ltb-false _ _ (passed (checks H o (CheckIn c b)) ok check.NumbersUsedUp) in
    rw (length-append (lines H) (lines_by H (CheckIn c b))) room
lines-numbered H o (Missing c) before ok =
    let room : length (lines H) + length (lines_by H (Missing c)) ≤ LAST_NUMBER = ltb-false _ _ (passed (checks H o (Missing c)) ok check.NumbersUsedUp) in
    rw (length-append (lines H) (lines_by H (Missing c))) room
lines-numbered H o (Pay p n) before ok =
    let room : length (lines H) + 1 ≤ LAST_NUMBER = ltb-false _ _ (passed (checks H o (Pay p n)) ok check.NumbersUsedUp) in
    rw (length-append (lines H) (noted_line H p Payment None None n)) (omega (arith, room, one-line H p Payment None n))
lines-numbered H o (Waive p n) before ok =
    let room : length (lines H) + 1 ≤ LAST_NUMBER = ltb-false _ _ (passed (checks H o (Waive p n)) ok check.NumbersUsedUp) in
    rw (length-append (lines H) (noted_line H p Waiver None None n)) (omega (arith, room, one-line H p Waiver None n))
lines-numbered H o (PayAt p n b) before ok =
    let room : length (lines H) + 1 ≤ LAST_NUMBER = ltb-false _ _ (passed (checks H o (PayAt p n b)) ok check.NumbersUsedUp) in
    let remark : Option Note = Some (record { branch = b; text = None }) in
    rw (length-append (lines H) (noted_line H p Payment None remark n)) (omega (arith, room, one-line H p Payment remark n))
lines-numbered H o (Charge p n b text) before ok =
    let room : length (lines H) + 1 ≤ LAST_NUMBER = ltb-false _ _ (passed (checks H o (Charge p n b text)) ok check.NumbersUsedUp) in
    let remark : Option Note = Some (record { branch = b; text = Some text }) in
    rw (length-append (lines H) (noted_line H p ChargeSort None remark n)) (omega (arith, room, one-line H p ChargeSort remark n))
lines-numbered H o _ before ok = before
