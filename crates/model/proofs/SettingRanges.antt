-- In every legal history whose commands have their forms: what was set and made is within its limits.
use Rattle.std.proofs.Common.{◌≡◌, ℕ, ◌≤◌, ◌==◌, Bool, true, false, cond, not, ◌&&◌, ◌||◌, List, [], ◌∷◌, refl, subst, arith}
use Rattle.std.specs.Prelude.{Option, Some, None, is_some, filter}
use Rattle.std.specs.Option.{option_or}
use Rattle.std.specs.List.{list_all, list_any}
use Rattle.std.proofs.lemmas.Bool.{and_parts, eqb-true, leb-true}
use Rattle.calendar.specs.Days.{IsDayNumber}
use Rattle.calendar.specs.Openings.{AreWeekdays}
use Rattle.terms.specs.Forms.{IsName, is_card_key}
use Rattle.terms.specs.Laws.{IsCommand}
use Rattle.terms.specs.Limits.{IsSmall, IsLarge, IsPeriod}
use Rattle.terms.specs.declared.command.Owner.{Owner}
use Rattle.terms.specs.declared.command.Command.{Command}
use Rattle.terms.specs.declared.command.Command.TheVariants.{SetCardKey, AmendPatron, AmendBranch, AmendTitle, AmendCopy, Rehome}
use Rattle.terms.specs.declared.command.Command.TheVariants.{Branch, Week, CloseDay, OpenDay, Kind, Rule, Grace, Patron, Acquire}
use Rattle.terms.specs.declared.refusal.Refusal.TheVariants as check
use Rattle.model.specs.Calendar.{is_single}
use Rattle.model.specs.Checks.{is_within, is_within_limits, is_small_number, is_large_number}
use Rattle.model.specs.History.{History, week_of, week_after, singles_of, singles_after, BranchFacts, branch_of, branch_after, KindFacts}
use Rattle.model.specs.History.{kind_of, kind_after, Terms, with_grace, rule_of, rule_after, PatronFacts, patron_of, patron_after, title_of}
use Rattle.model.specs.History.{title_after, CopyFacts, copy_of, copy_after, with_pickup, with_card_key, with_kind, with_price, with_home}
use Rattle.model.specs.Refusals.{refusal, checks, has_branch}
use Rattle.model.specs.Requests.{IsLegal}
use Rattle.model.specs.Forms.{HasForms}
use Rattle.model.proofs.Passing.{passed}
use Rattle.model.proofs.Bindings.{not-false}
use Rattle.model.proofs.Amending.{amended-keeps}

-- ---- what each row keeps to

abbrev BranchIn : ℕ → BranchFacts → Type 0
BranchIn b r = IsSmall b × (r.pickup ≤ 60) × IsName r.name

abbrev KindIn : ℕ → KindFacts → Type 0
KindIn k r = IsSmall k × (r.loans ≤ 200) × (r.holds ≤ 200) × (r.debt ≤ 1000000)

abbrev pub TermsIn : Terms → Type 0
TermsIn t = IsPeriod t.period × (t.renewals ≤ 99) × (t.rate ≤ 10000) × (t.cap ≤ 100000) × (t.grace ≤ 365)

abbrev RuleIn : ℕ → ℕ → Terms → Type 0
RuleIn k c t = IsSmall k × IsSmall c × TermsIn t

abbrev PatronIn : ℕ → PatronFacts → Type 0
PatronIn p r = IsLarge p × IsSmall r.kind × (is_card_key r.card_key ≡ true) × IsName r.name

abbrev TitleIn : ℕ → List ℕ → Type 0
TitleIn t text = IsLarge t × IsName text

abbrev CopyIn : ℕ → CopyFacts → Type 0
CopyIn c r = IsLarge c × IsLarge r.title × IsSmall r.kind × IsSmall r.home × (r.price ≤ 1000000)

-- What was set and made lies in its limits.
pub record SettingRanges (H : History) : Type 0 where
  pub branches : (b : ℕ) (r : BranchFacts) → branch_of H b ≡ Some r → BranchIn b r
  pub weeks : (b : ℕ) → AreWeekdays (week_of H b)
  pub singles : (b d : ℕ) → is_single (singles_of H b) d ≡ true → IsSmall b × IsDayNumber d
  pub kinds : (k : ℕ) (r : KindFacts) → kind_of H k ≡ Some r → KindIn k r
  pub rules : (k c : ℕ) (t : Terms) → rule_of H k c ≡ Some t → RuleIn k c t
  pub patrons : (p : ℕ) (r : PatronFacts) → patron_of H p ≡ Some r → PatronIn p r
  pub titles : (t : ℕ) (text : List ℕ) → title_of H t ≡ Some text → TitleIn t text
  pub copies : (c : ℕ) (r : CopyFacts) → copy_of H c ≡ Some r → CopyIn c r

-- ---- rows that are made once, and rows that are set

pub some-same : {A : Type 0} (x y : A) → ◌≡◌ {A = Option A} (Some x) (Some y) → x ≡ y
some-same x y e = cc

pub none-some : {A : Type 0} (y : A) → ◌≡◌ {A = Option A} None (Some y) → ⊥
none-some y e = let never : ⊥ = cc in never

-- The row that is set if the test tells so, else the row before.
pub set-if : {A : Type 0} (P : A → Type 0) (x : Bool) (f : A) (y : Option A) → (x ≡ true → P f) → ((z : A) → y ≡ Some z → P z) → (r : A)
    → cond x (Some f) y ≡ Some r → P r
set-if P true f y new old r e = subst P (some-same f r e) (new refl)
set-if P false f y new old r e = old r e

-- A row that is set under its key keeps to what it has to if the new one does under that key, and the old one did.
pub set-at : {A : Type 0} (P : ℕ → A → Type 0) (n k : ℕ) (f : A) (y : Option A) → P n f → ((z : A) → y ≡ Some z → P k z) → (r : A)
    → cond (n == k) (Some f) y ≡ Some r → P k r
set-at P n k f y new old r e = set-if (P k) (n == k) f y (λ d. subst (λ m. P m f) (eqb-true n k d) new) old r e

-- The same for a row that is made once and stays.
pub make-at : {A : Type 0} (P : ℕ → A → Type 0) (n k : ℕ) (f : A) (y : Option A) → P n f → ((z : A) → y ≡ Some z → P k z) → (r : A)
    → option_or y (cond (n == k) (Some f) None) ≡ Some r → P k r
make-at P n k f (Some z) new old r e = old r e
make-at P n k f None new old r e = set-at P n k f None new (λ z d. absurd (none-some z d)) r e

-- ---- limits

within : (low high n : ℕ) → is_within low high n ≡ true → (low ≤ n) × (n ≤ high)
within low high n e = let p = and_parts _ _ e in (leb-true _ _ p.0, leb-true _ _ p.1)

kind-within : (n loans holds debt : ℕ) → is_within_limits (Kind n loans holds debt) ≡ true → IsSmall n × (loans ≤ 200) × (holds ≤ 200) × (debt ≤ 1000000)
kind-within n loans holds debt e =
    let a = and_parts (is_small_number n) _ e in
    let b = and_parts (is_within 0 200 loans) _ a.1 in
    let c = and_parts (is_within 0 200 holds) (is_within 0 1000000 debt) b.1 in
    (within 1 99 n a.0, (within 0 200 loans b.0).1, (within 0 200 holds c.0).1, (within 0 1000000 debt c.1).1)

rule-within : (n m period renewals rate most : ℕ) → is_within_limits (Rule n m period renewals rate most) ≡ true
    → IsSmall n × IsSmall m × IsPeriod period × (renewals ≤ 99) × (rate ≤ 10000) × (most ≤ 100000)
rule-within n m period renewals rate most e =
    let a = and_parts (is_small_number n) _ e in
    let b = and_parts (is_small_number m) _ a.1 in
    let c = and_parts (is_within 1 365 period) _ b.1 in
    let d = and_parts (is_within 0 99 renewals) _ c.1 in
    let f = and_parts (is_within 0 10000 rate) (is_within 0 100000 most) d.1 in
    (within 1 99 n a.0, within 1 99 m b.0, within 1 365 period c.0, (within 0 99 renewals d.0).1, (within 0 10000 rate f.0).1, (within 0 100000 most f.1).1)

grace-within : (n m days : ℕ) → is_within_limits (Grace n m days) ≡ true → days ≤ 365
grace-within n m days e = (within 0 365 days (and_parts (is_small_number m) (is_within 0 365 days) (and_parts (is_small_number n) _ e).1).1).1

copy-within : (c t k home price : ℕ) (text : List ℕ) → is_within_limits (Acquire c t k home price text) ≡ true → IsLarge c × IsLarge t
    × IsSmall k × (price ≤ 1000000)
copy-within c t k home price text e =
    let a = and_parts (is_large_number c) _ e in
    let b = and_parts (is_large_number t) _ a.1 in
    let d = and_parts (is_small_number k) (is_within 0 1000000 price) b.1 in
    (within 1 9999999 c a.0, within 1 9999999 t b.0, within 1 99 k d.0, (within 0 1000000 price d.1).1)

-- A branch that is there.
pub there : {A : Type 0} (o : Option A) → is_some o ≡ true → (x : A) × (o ≡ Some x)
there (Some x) e = (x, refl)
there None e = let never : ⊥ = cc in absurd never

-- ---- days

single-filter : (test : ℕ → Bool) (s : List ℕ) (d : ℕ) → is_single (filter test s) d ≡ true → is_single s d ≡ true
single-filter test [] d e = e
single-filter test (x ∷ s) d e = go (test x) (x == d) refl (single-filter test s d) e
  where
    go : (a b : Bool) → (x == d) ≡ b → (is_single (filter test s) d ≡ true → is_single s d ≡ true)
        → is_single (cond a (x ∷ filter test s) (filter test s)) d ≡ true → (b || is_single s d) ≡ true
    go a true q rest f = refl
    go true false q rest f = let later : is_single (filter test s) d ≡ true = rw q at f in rest later
    go false false q rest f = rest f

some-open : (xs : List Bool) → list_all (λ x. x) xs ≡ false → list_any (λ x. not x) xs ≡ true
some-open [] e = let never : ⊥ = cc in absurd never
some-open (true ∷ xs) e = some-open xs e
some-open (false ∷ xs) e = refl

-- ---- one event

module _ (H : History) (inv : SettingRanges H) (o : Owner) where
  small-branch : (b : ℕ) → not (has_branch H b) ≡ false → IsSmall b
  small-branch b has = let r = there (branch_of H b) (not-false _ has) in (inv.branches b r.0 r.1).0

  branches-step : (x : Command) → IsCommand x → refusal H o x ≡ None → (b : ℕ) (r : BranchFacts) → branch_after x b (branch_of H b) ≡ Some r → BranchIn b r
  branches-step (Branch n pickup name) form ok b r e =
      let limits = and_parts (is_small_number n) (is_within 0 60 pickup) (not-false _ (passed (checks H o (Branch n pickup name)) ok check.OutOfLimits)) in
      make-at BranchIn n b (record { pickup = pickup; name = name }) (branch_of H b)
      (within 1 99 n limits.0, (within 0 60 pickup limits.1).1, form.1.1.0) (inv.branches b) r e
  branches-step (AmendBranch n pickup name) form ok b r e =
      let limits = and_parts (is_small_number n) (is_within 0 60 pickup) (not-false _ (passed (checks H o (AmendBranch n pickup name)) ok check.OutOfLimits)) in
      amended-keeps (BranchIn b) (n == b) (with_pickup pickup name) (branch_of H b) (inv.branches b)
      (λ z was. (was.0, (within 0 60 pickup limits.1).1, form.1.1.0)) r e
  branches-step _ form ok b r e = inv.branches b r e

  weeks-step : (x : Command) → IsCommand x → refusal H o x ≡ None → (b : ℕ) → AreWeekdays (week_after x b (week_of H b))
  weeks-step (Week n closed) form ok b = go (n == b)
    where
      go : (x : Bool) → AreWeekdays (cond x closed (week_of H b))
      go true = record { seven = form.1.0; some_open = some-open closed (passed (checks H o (Week n closed)) ok check.AllWeekdaysClosed) }
      go false = inv.weeks b
  weeks-step _ form ok b = inv.weeks b

  singles-step : (x : Command) → IsCommand x → refusal H o x ≡ None → (b d : ℕ) → is_single (singles_after x b (singles_of H b)) d ≡ true
      → IsSmall b × IsDayNumber d
  singles-step (CloseDay n day) form ok b d e = go (n == b) refl e
    where
      small : IsSmall n
      small = small-branch n (passed (checks H o (CloseDay n day)) ok check.UnknownBranch)

      new : (x : Bool) → (day == d) ≡ x → n ≡ b → (x || is_single (singles_of H b) d) ≡ true → IsSmall b × IsDayNumber d
      new true q same f = (subst IsSmall same small, subst IsDayNumber (eqb-true day d q) form.1.0)
      new false q same f = inv.singles b d f

      go : (x : Bool) → (n == b) ≡ x → is_single (cond x (day ∷ singles_of H b) (singles_of H b)) d ≡ true → IsSmall b × IsDayNumber d
      go true q f = new (day == d) refl (eqb-true n b q) f
      go false q f = inv.singles b d f
  singles-step (OpenDay n day) form ok b d e = go (n == b) e
    where
      go : (x : Bool) → is_single (cond x (filter (λ k. not (day == k)) (singles_of H b)) (singles_of H b)) d ≡ true → IsSmall b × IsDayNumber d
      go true f = inv.singles b d (single-filter (λ k. not (day == k)) (singles_of H b) d f)
      go false f = inv.singles b d f
  singles-step _ form ok b d e = inv.singles b d e

  kinds-step : (x : Command) → refusal H o x ≡ None → (k : ℕ) (r : KindFacts) → kind_after x k (kind_of H k) ≡ Some r → KindIn k r
  kinds-step (Kind n loans holds debt) ok k r e =
      let limits = kind-within n loans holds debt (not-false _ (passed (checks H o (Kind n loans holds debt)) ok check.OutOfLimits)) in
      set-at KindIn n k (record { loans = loans; holds = holds; debt = debt }) (kind_of H k) limits (inv.kinds k) r e
  kinds-step _ ok k r e = inv.kinds k r e

  rules-step : (x : Command) → refusal H o x ≡ None → (k c : ℕ) (t : Terms) → rule_after x k c (rule_of H k c) ≡ Some t → RuleIn k c t
  rules-step (Rule n m period renewals rate most) ok k c t e =
      let limits = rule-within n m period renewals rate most (not-false _ (passed (checks H o (Rule n m period renewals rate most)) ok check.OutOfLimits)) in
      let terms : Terms = record { period = period; renewals = renewals; rate = rate; cap = most; grace = 0 } in
      let new : RuleIn n m terms = (limits.0, limits.1, (limits.2, limits.3, limits.4, limits.5, omega arith)) in
      set-if (RuleIn k c) ((n == k) && (m == c)) terms (rule_of H k c)
      (λ d. let q = and_parts _ _ d in subst (λ b. RuleIn k b terms) (eqb-true m c q.1)
      (subst (λ a. RuleIn a m terms) (eqb-true n k q.0) new)) (inv.rules k c) t e
  rules-step (Grace n m days) ok k c t e =
      let most = grace-within n m days (not-false _ (passed (checks H o (Grace n m days)) ok check.OutOfLimits)) in
      amended-keeps (RuleIn k c) ((n == k) && (m == c)) (with_grace days) (rule_of H k c) (inv.rules k c) (λ z was. (was.0, was.1, (was.2.0, was.2.1, was.2.2, was.2.3, most))) t e
  rules-step _ ok k c t e = inv.rules k c t e

  patrons-step : (x : Command) → IsCommand x → refusal H o x ≡ None → (p : ℕ) (r : PatronFacts) → patron_after x p (patron_of H p) ≡ Some r → PatronIn p r
  patrons-step (Patron n k card_key name) form ok p r e =
      let limits = and_parts (is_large_number n) (is_small_number k) (not-false _ (passed (checks H o (Patron n k card_key name)) ok check.OutOfLimits)) in
      make-at PatronIn n p (record { kind = k; card_key = card_key; name = name }) (patron_of H p)
      (within 1 9999999 n limits.0, within 1 99 k limits.1, form.1.1.0, form.1.1.1.0) (inv.patrons p) r e
  patrons-step (SetCardKey n card_key) form ok p r e =
      amended-keeps (PatronIn p) (n == p) (with_card_key card_key) (patron_of H p) (inv.patrons p) (λ z was. (was.0, was.1, form.1.0, was.3)) r e
  patrons-step (AmendPatron n k name) form ok p r e =
      let small = within 1 99 k (not-false _ (passed (checks H o (AmendPatron n k name)) ok check.OutOfLimits)) in
      amended-keeps (PatronIn p) (n == p) (with_kind k name) (patron_of H p) (inv.patrons p) (λ z was. (was.0, small, was.2, form.1.1.0)) r e
  patrons-step _ form ok p r e = inv.patrons p r e

  titles-step : (x : Command) → IsCommand x → refusal H o x ≡ None → (t : ℕ) (text : List ℕ) → title_after x t (title_of H t) ≡ Some text → TitleIn t text
  titles-step (Acquire c n k home price name) form ok t text e =
      let limits = copy-within c n k home price name (not-false _ (passed (checks H o (Acquire c n k home price name)) ok check.OutOfLimits)) in
      make-at TitleIn n t name (title_of H t) (limits.1, form.1.1.1.1.1.0) (inv.titles t) text e
  titles-step (AmendTitle n name) form ok t text e =
      amended-keeps (TitleIn t) (n == t) (λ old. name) (title_of H t) (inv.titles t) (λ z was. (was.0, form.1.0)) text e
  titles-step _ form ok t text e = inv.titles t text e

  copies-step : (x : Command) → refusal H o x ≡ None → (c : ℕ) (r : CopyFacts) → copy_after x c (copy_of H c) ≡ Some r → CopyIn c r
  copies-step (Acquire n t k home price text) ok c r e =
      let pass = passed (checks H o (Acquire n t k home price text)) ok in
      let limits = copy-within n t k home price text (not-false _ (pass check.OutOfLimits)) in
      make-at CopyIn n c (record { title = t; kind = k; home = home; price = price }) (copy_of H c)
      (limits.0, limits.1, limits.2, small-branch home (pass check.UnknownBranch), limits.3) (inv.copies c) r e
  copies-step (AmendCopy n k price) ok c r e =
      let limits = and_parts (is_small_number k) (is_within 0 1000000 price) (not-false _ (passed (checks H o (AmendCopy n k price)) ok check.OutOfLimits)) in
      amended-keeps (CopyIn c) (n == c) (with_price k price) (copy_of H c) (inv.copies c)
      (λ z was. (was.0, was.1, within 1 99 k limits.0, was.3, (within 0 1000000 price limits.1).1)) r e
  copies-step (Rehome n b) ok c r e =
      let small = small-branch b (passed (checks H o (Rehome n b)) ok check.UnknownBranch) in
      amended-keeps (CopyIn c) (n == c) (with_home b) (copy_of H c) (inv.copies c) (λ z was. (was.0, was.1, was.2, small, was.4)) r e
  copies-step _ ok c r e = inv.copies c r e

-- ---- every legal history

pub legal-SettingRanges : (H : History) → IsLegal H → HasForms H → SettingRanges H
legal-SettingRanges [] legal forms = record {
  branches = λ b r e. absurd (none-some r e);
  weeks = λ b. record { seven = refl; some_open = refl };
  singles = λ b d e. let never : ⊥ = cc in absurd never;
  kinds = λ k r e. absurd (none-some r e);
  rules = λ k c t e. absurd (none-some t e);
  patrons = λ p r e. absurd (none-some r e);
  titles = λ t x e. absurd (none-some x e);
  copies = λ c r e. absurd (none-some r e);
}
legal-SettingRanges (e ∷ H) legal forms =
    let inv : SettingRanges H = legal-SettingRanges H legal.1 forms.2 in
    let ok = legal.0.unrefused in
    record {
      branches = branches-step H inv e.owner e.command forms.0 ok;
      weeks = weeks-step H inv e.owner e.command forms.0 ok;
      singles = singles-step H inv e.owner e.command forms.0 ok;
      kinds = kinds-step H inv e.owner e.command ok;
      rules = rules-step H inv e.owner e.command ok;
      patrons = patrons-step H inv e.owner e.command forms.0 ok;
      titles = titles-step H inv e.owner e.command forms.0 ok;
      copies = copies-step H inv e.owner e.command ok;
    }
