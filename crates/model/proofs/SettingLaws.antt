-- In every legal history what was set is within its limits, no day is closed twice, and a nonexistent branch
-- has no closed days.
use Rattle.calendar.specs.declared.limits.TheConstants.{MOST_CLOSED_DAYS, FIRST_DAY}
use Rattle.terms.specs.declared.limits.TheConstants.{LAST_TODAY}
use Rattle.std.proofs.Common.{◌≡◌, ℕ, suc, ◌≤◌, ◌<◌, ◌==◌, Bool, true, false, cond, not, ◌&&◌, List, [], ◌∷◌, length, replicate, refl, sym}
use Rattle.std.proofs.Common.{ap, ◌∙◌, subst, arith}
use Rattle.std.specs.Prelude.{Option, Some, None, is_some, filter, nat_le, nat_lt, slice_index_or}
use Rattle.std.specs.Option.{option_or}
use Rattle.std.specs.List.{list_all, IsDistinct, AllByRecursion}
use Rattle.std.proofs.lemmas.Bool.{and_parts, or_parts, eqb-true, eq-eqb, leb-true, leb-false, ltb-true}
use Rattle.terms.specs.declared.command.Owner.{Owner}
use Rattle.terms.specs.declared.command.Command.{Command}
use Rattle.terms.specs.declared.command.Command.TheVariants.{AmendBranch, AmendCopy, Rehome}
use Rattle.terms.specs.declared.command.Command.TheVariants.{BeginDay, Branch, Week, CloseDay, OpenDay, Rule, Grace, Acquire}
use Rattle.terms.specs.declared.refusal.Refusal.TheVariants as check
use Rattle.model.specs.Calendar.{is_single}
use Rattle.model.specs.Checks.{is_within, is_within_limits, is_small_number, is_large_number}
use Rattle.model.specs.History.{History, today, today_after, week_of, week_after, singles_of, singles_after, BranchFacts, branch_of}
use Rattle.model.specs.History.{branch_after, Terms, rule_of, rule_after, CopyFacts, copy_of, copy_after, with_grace, with_pickup, with_price, with_home}
use Rattle.model.specs.Refusals.{refusal, checks, has_branch}
use Rattle.model.specs.Requests.{IsLegal}
use Rattle.model.specs.DueDays.{IsWholeWeek, HasWholeWeeks}
use Rattle.model.proofs.Passing.{passed}
use Rattle.model.proofs.Moves.{ne-eqb}
use Rattle.model.proofs.Bindings.{not-false, clash}
use Rattle.model.proofs.LoanLaws.{none-or}
use Rattle.model.proofs.OpenDays.{length-filter-le}
use Rattle.model.proofs.Amending.{amended-none, amended-keeps}

pub record SettingLaws (H : History) : Type 0 where
  pub today_from : FIRST_DAY ≤ today H
  pub today_to : today H ≤ LAST_TODAY
  pub few_singles : (b : ℕ) → length (singles_of H b) ≤ MOST_CLOSED_DAYS
  pub once : (b : ℕ) → IsDistinct ◌==◌ (singles_of H b)
  pub unset : (b : ℕ) → branch_of H b ≡ None → (week_of H b ≡ replicate 7 false) × (singles_of H b ≡ [])
  pub terms : (k c : ℕ) (t : Terms) → rule_of H k c ≡ Some t → (t.period ≤ 365) × (t.cap ≤ 100000)
  pub pickups : (b : ℕ) (r : BranchFacts) → branch_of H b ≡ Some r → r.pickup ≤ 60
  pub prices : (c : ℕ) (r : CopyFacts) → copy_of H c ≡ Some r → r.price ≤ 1000000

-- ---- limits

within-le : (low high n : ℕ) → is_within low high n ≡ true → n ≤ high
within-le low high n e = leb-true _ _ (and_parts _ _ e).1

rule-short : (n m period renewals rate most : ℕ) → is_within_limits (Rule n m period renewals rate most) ≡ true → (period ≤ 365) × (most ≤ 100000)
rule-short n m period renewals rate most e =
    let rest : (is_within 1 365 period ≡ true) × ((is_within 0 99 renewals && (is_within 0 10000 rate && is_within 0 100000 most)) ≡ true) =
    and_parts _ _ (and_parts _ _ (and_parts _ _ e).1).1 in
    (within-le 1 365 period rest.0, within-le 0 100000 most (and_parts _ _ (and_parts _ _ rest.1).1).1)

branch-short : (n pickup : ℕ) (name : List ℕ) → is_within_limits (Branch n pickup name) ≡ true → pickup ≤ 60
branch-short n pickup name e = within-le 0 60 pickup (and_parts _ _ e).1

price-small : (c t k home price : ℕ) (text : List ℕ) → is_within_limits (Acquire c t k home price text) ≡ true → price ≤ 1000000
price-small c t k home price text e =
    within-le 0 1000000 price (and_parts (is_small_number k) _ (and_parts (is_large_number t) _ (and_parts (is_large_number c) _ e).1).1).1

-- ---- days once

turned : (x y : ℕ) → (y == x) ≡ false → (x == y) ≡ false
turned x y e = ne-eqb x y (λ same. clash (y == x) (eq-eqb y x (sym same)) e)

-- A day that isn't among the days differs from each.
pub apart : (d : ℕ) (s : List ℕ) → is_single s d ≡ false → AllByRecursion (λ y. (d == y) ≡ false) s
apart d [] e = tt
apart d (x ∷ s) e = let parts : ((x == d) ≡ false) × (is_single s d ≡ false) = or_parts _ _ e in (turned d x parts.0, apart d s parts.1)

once-more : (d : ℕ) (s : List ℕ) → is_single s d ≡ false → IsDistinct ◌==◌ s → IsDistinct ◌==◌ (d ∷ s)
unfolding IsDistinct
once-more d s e once = (apart d s e, once)

apart-filter : (test : ℕ → Bool) (x : ℕ) (s : List ℕ) → AllByRecursion (λ y. (x == y) ≡ false) s → AllByRecursion (λ y. (x == y) ≡ false) (filter test s)
apart-filter test x [] a = tt
apart-filter test x (y ∷ s) a = go (test y) (apart-filter test x s a.1)
  where
    go : (b : Bool) → AllByRecursion (λ y. (x == y) ≡ false) (filter test s)
        → AllByRecursion (λ y. (x == y) ≡ false) (cond b (y ∷ filter test s) (filter test s))
    go true rest = (a.0, rest)
    go false rest = rest

once-filter : (test : ℕ → Bool) (s : List ℕ) → IsDistinct ◌==◌ s → IsDistinct ◌==◌ (filter test s)
unfolding IsDistinct
once-filter test [] once = tt
once-filter test (x ∷ s) once = go (test x) (once-filter test s once.1)
  where
    go : (b : Bool) → IsDistinct ◌==◌ (filter test s) → IsDistinct ◌==◌ (cond b (x ∷ filter test s) (filter test s))
    go true rest = (apart-filter test x s once.0, rest)
    go false rest = rest

-- ---- one event

module _ (H : History) (inv : SettingLaws H) (o : Owner) where
  today-step : (x : Command) → refusal H o x ≡ None → (FIRST_DAY ≤ today_after x (today H)) × (today_after x (today H) ≤ LAST_TODAY)
  today-step (BeginDay d) ok =
      let parts : (nat_lt (today H) d ≡ true) × (nat_le d LAST_TODAY ≡ true) = and_parts _ _ (not-false _ (passed (checks H o (BeginDay d)) ok check.BadDay)) in
      (omega (arith, inv.today_from, ltb-true _ _ parts.0), leb-true _ _ parts.1)
  today-step _ ok = (inv.today_from, inv.today_to)

  few-step : (x : Command) → refusal H o x ≡ None → (b : ℕ) → length (singles_after x b (singles_of H b)) ≤ MOST_CLOSED_DAYS
  few-step (CloseDay n d) ok b = go (n == b) refl
    where
      room : length (singles_of H n) < MOST_CLOSED_DAYS
      room = leb-false _ _ (passed (checks H o (CloseDay n d)) ok check.OutOfLimits)

      go : (x : Bool) → (n == b) ≡ x → length (cond x (d ∷ singles_of H b) (singles_of H b)) ≤ MOST_CLOSED_DAYS
      go true e = let here : length (singles_of H b) < MOST_CLOSED_DAYS =
          subst (λ m. length (singles_of H m) < MOST_CLOSED_DAYS) (eqb-true n b e) room in omega (arith, here)
      go false e = inv.few_singles b
  few-step (OpenDay n d) ok b = go (n == b)
    where
      go : (x : Bool) → length (cond x (filter (λ e. not (d == e)) (singles_of H b)) (singles_of H b)) ≤ MOST_CLOSED_DAYS
      go true = omega (arith, length-filter-le (λ e. not (d == e)) (singles_of H b), inv.few_singles b)
      go false = inv.few_singles b
  few-step _ ok b = inv.few_singles b

  once-step : (x : Command) → refusal H o x ≡ None → (b : ℕ) → IsDistinct ◌==◌ (singles_after x b (singles_of H b))
  once-step (CloseDay n d) ok b = go (n == b) refl
    where
      new : is_single (singles_of H n) d ≡ false
      new = (passed (checks H o (CloseDay n d)) ok check.AlreadyClosed)

      go : (x : Bool) → (n == b) ≡ x → IsDistinct ◌==◌ (cond x (d ∷ singles_of H b) (singles_of H b))
      go true e = once-more d (singles_of H b) (subst (λ m. is_single (singles_of H m) d ≡ false) (eqb-true n b e) new) (inv.once b)
      go false e = inv.once b
  once-step (OpenDay n d) ok b = go (n == b)
    where
      go : (x : Bool) → IsDistinct ◌==◌ (cond x (filter (λ e. not (d == e)) (singles_of H b)) (singles_of H b))
      go true = once-filter (λ e. not (d == e)) (singles_of H b) (inv.once b)
      go false = inv.once b
  once-step _ ok b = inv.once b

  -- A branch that is there isn't one that isn't.
  other-branch : (n b : ℕ) → not (has_branch H n) ≡ false → branch_of H b ≡ None → (n == b) ≡ true → ⊥
  other-branch n b has none same =
      let there : has_branch H b ≡ true = subst (λ m. has_branch H m ≡ true) (eqb-true n b same) (not-false _ has) in
      clash (has_branch H b) there (ap is_some none)

  unset-step : (x : Command) → refusal H o x ≡ None → (b : ℕ) → branch_after x b (branch_of H b) ≡ None
      → (week_after x b (week_of H b) ≡ replicate 7 false) × (singles_after x b (singles_of H b) ≡ [])
  unset-step (Branch n pickup name) ok b none = inv.unset b (none-or (branch_of H b) _ none).0
  unset-step (Week n closed) ok b none = (go (n == b) refl, (inv.unset b none).1)
    where
      has : not (has_branch H n) ≡ false
      has = (passed (checks H o (Week n closed)) ok check.UnknownBranch)

      go : (x : Bool) → (n == b) ≡ x → cond x closed (week_of H b) ≡ replicate 7 false
      go true e = absurd (other-branch n b has none e)
      go false e = (inv.unset b none).0
  unset-step (CloseDay n d) ok b none = ((inv.unset b none).0, go (n == b) refl)
    where
      has : not (has_branch H n) ≡ false
      has = (passed (checks H o (CloseDay n d)) ok check.UnknownBranch)

      go : (x : Bool) → (n == b) ≡ x → cond x (d ∷ singles_of H b) (singles_of H b) ≡ []
      go true e = absurd (other-branch n b has none e)
      go false e = (inv.unset b none).1
  unset-step (OpenDay n d) ok b none = ((inv.unset b none).0, go (n == b) refl)
    where
      has : not (has_branch H n) ≡ false
      has = (passed (checks H o (OpenDay n d)) ok check.UnknownBranch)

      go : (x : Bool) → (n == b) ≡ x → cond x (filter (λ e. not (d == e)) (singles_of H b)) (singles_of H b) ≡ []
      go true e = absurd (other-branch n b has none e)
      go false e = (inv.unset b none).1
  unset-step (AmendBranch n pickup name) ok b none = inv.unset b (amended-none (n == b) _ (branch_of H b) none)
  unset-step _ ok b none = inv.unset b none

  terms-step : (x : Command) → refusal H o x ≡ None → (k c : ℕ) (t : Terms) → rule_after x k c (rule_of H k c) ≡ Some t → (t.period ≤ 365) × (t.cap ≤ 100000)
  terms-step (Rule n m period renewals rate most) ok k c t e = go ((n == k) && (m == c)) e
    where
      limits : is_within_limits (Rule n m period renewals rate most) ≡ true
      limits = not-false _ (passed (checks H o (Rule n m period renewals rate most)) ok check.OutOfLimits)

      go : (x : Bool) → cond x (Some (record { period = period; renewals = renewals; rate = rate; cap = most; grace = 0 }))
          (rule_of H k c) ≡ Some t → (t.period ≤ 365) × (t.cap ≤ 100000)
      go true f =
          let same : ◌≡◌ {A = Terms} (record { period = period; renewals = renewals; rate = rate; cap = most; grace = 0 }) t = cc in
          subst (λ q. (q.period ≤ 365) × (q.cap ≤ 100000)) same (rule-short n m period renewals rate most limits)
      go false f = inv.terms k c t f
  terms-step (Grace n m days) ok k c t e =
      amended-keeps (λ q. (q.period ≤ 365) × (q.cap ≤ 100000)) ((n == k) && (m == c)) (with_grace days) (rule_of H k c) (inv.terms k c) (λ z was. was) t e
  terms-step _ ok k c t e = inv.terms k c t e

  pickups-step : (x : Command) → refusal H o x ≡ None → (b : ℕ) (r : BranchFacts) → branch_after x b (branch_of H b) ≡ Some r → r.pickup ≤ 60
  pickups-step (Branch n pickup name) ok b r e = go (branch_of H b) (n == b) refl e
    where
      limits : is_within_limits (Branch n pickup name) ≡ true
      limits = not-false _ (passed (checks H o (Branch n pickup name)) ok check.OutOfLimits)

      go : (y : Option BranchFacts) (x : Bool) → branch_of H b ≡ y
          → option_or y (cond x (Some (record { pickup = pickup; name = name })) None) ≡ Some r → r.pickup ≤ 60
      go (Some z) x d f = inv.pickups b r (d ∙ f)
      go None true d f =
          let same : ◌≡◌ {A = BranchFacts} (record { pickup = pickup; name = name }) r = cc in
          subst (λ q. q ≤ 60) (ap (λ q. q.pickup) same) (branch-short n pickup name limits)
      go None false d f = let never : ⊥ = cc in absurd never
  pickups-step (AmendBranch n pickup name) ok b r e =
      let short = within-le 0 60 pickup (and_parts (is_small_number n) _ (not-false _ (passed (checks H o (AmendBranch n pickup name)) ok check.OutOfLimits))).1 in
      amended-keeps (λ q. q.pickup ≤ 60) (n == b) (with_pickup pickup name) (branch_of H b) (inv.pickups b) (λ z was. short) r e
  pickups-step _ ok b r e = inv.pickups b r e

  prices-step : (x : Command) → refusal H o x ≡ None → (c : ℕ) (r : CopyFacts) → copy_after x c (copy_of H c) ≡ Some r → r.price ≤ 1000000
  prices-step (Acquire n t k home price text) ok c r e = go (copy_of H c) (n == c) refl e
    where
      limits : is_within_limits (Acquire n t k home price text) ≡ true
      limits = not-false _ (passed (checks H o (Acquire n t k home price text)) ok check.OutOfLimits)

      go : (y : Option CopyFacts) (x : Bool) → copy_of H c ≡ y
          → option_or y (cond x (Some (record { title = t; kind = k; home = home; price = price })) None) ≡ Some r → r.price ≤ 1000000
      go (Some z) x d f = inv.prices c r (d ∙ f)
      go None true d f =
          let same : ◌≡◌ {A = CopyFacts} (record { title = t; kind = k; home = home; price = price }) r = cc in
          subst (λ q. q ≤ 1000000) (ap (λ q. q.price) same) (price-small n t k home price text limits)
      go None false d f = let never : ⊥ = cc in absurd never
  prices-step (AmendCopy n k price) ok c r e =
      let small = within-le 0 1000000 price (and_parts (is_small_number k) _ (not-false _ (passed (checks H o (AmendCopy n k price)) ok check.OutOfLimits))).1 in
      amended-keeps (λ q. q.price ≤ 1000000) (n == c) (with_price k price) (copy_of H c) (inv.prices c) (λ z was. small) r e
  prices-step (Rehome n b) ok c r e = amended-keeps (λ q. q.price ≤ 1000000) (n == c) (with_home b) (copy_of H c) (inv.prices c) (λ z was. was) r e
  prices-step _ ok c r e = inv.prices c r e

-- ---- every legal history

once-none : IsDistinct ◌==◌ []
unfolding IsDistinct
once-none = tt

pub legal-SettingLaws : (H : History) → IsLegal H → SettingLaws H
legal-SettingLaws [] legal = record {
  today_from = omega arith;
  today_to = omega arith;
  few_singles = λ b. omega arith;
  once = λ b. once-none;
  unset = λ b e. (refl, refl);
  terms = λ k c t e. let never : ⊥ = cc in absurd never;
  pickups = λ b r e. let never : ⊥ = cc in absurd never;
  prices = λ c r e. let never : ⊥ = cc in absurd never;
}
legal-SettingLaws (e ∷ H) legal =
    let inv : SettingLaws H = legal-SettingLaws H legal.1 in
    let ok = legal.0.unrefused in
    let day : (FIRST_DAY ≤ today_after e.command (today H)) × (today_after e.command (today H) ≤ LAST_TODAY) = today-step H inv e.owner e.command ok in
    record {
      today_from = day.0;
      today_to = day.1;
      few_singles = few-step H inv e.owner e.command ok;
      once = once-step H inv e.owner e.command ok;
      unset = unset-step H inv e.owner e.command ok;
      terms = terms-step H inv e.owner e.command ok;
      pickups = pickups-step H inv e.owner e.command ok;
      prices = prices-step H inv e.owner e.command ok;
    }

-- ---- open weekdays

-- Some weekday is open.
abbrev pub HasOpenWeekday : List Bool → Type 0
HasOpenWeekday week = (w : ℕ) × (w < 7) × (slice_index_or week w false ≡ false)

not-all : (xs : List Bool) → list_all (λ x. x) xs ≡ false → (w : ℕ) × (w < length xs) × (slice_index_or xs w false ≡ false)
not-all [] e = let never : ⊥ = cc in absurd never
not-all (true ∷ xs) e = let r : (w : ℕ) × (w < length xs) × (slice_index_or xs w false ≡ false) = not-all xs e in (suc r.0, omega (arith, r.1), r.2)
not-all (false ∷ xs) e = (0, omega arith, refl)

weekdays-step : (H : History) (o : Owner) (x : Command) (b : ℕ) → IsWholeWeek x → refusal H o x ≡ None → HasOpenWeekday (week_of H b)
    → HasOpenWeekday (week_after x b (week_of H b))
weekdays-step H o (Week n closed) b whole ok before = go (n == b)
  where
    some : HasOpenWeekday closed
    some = let w : (w : ℕ) × (w < length closed) × (slice_index_or closed w false ≡ false) =
        not-all closed (passed (checks H o (Week n closed)) ok check.AllWeekdaysClosed) in (w.0, omega (arith, w.1, whole), w.2)

    go : (x : Bool) → HasOpenWeekday (cond x closed (week_of H b))
    go true = some
    go false = before
weekdays-step H o _ b whole ok before = before

-- Every branch has an open weekday.
pub legal-weekdays : (H : History) (b : ℕ) → IsLegal H → HasWholeWeeks H → HasOpenWeekday (week_of H b)
legal-weekdays [] b legal whole = (0, omega arith, refl)
legal-weekdays (e ∷ H) b legal whole = weekdays-step H e.owner e.command b whole.0 legal.0.unrefused (legal-weekdays H b legal.1 whole.1)

-- What due days need of a history.
pub record CalendarLaws (H : History) : Type 0 where
  pub settings : SettingLaws H
  pub weekdays : (b : ℕ) → HasOpenWeekday (week_of H b)

pub legal-CalendarLaws : (H : History) → IsLegal H → HasWholeWeeks H → CalendarLaws H
legal-CalendarLaws H legal whole = record { settings = legal-SettingLaws H legal; weekdays = λ b. legal-weekdays H b legal whole }
