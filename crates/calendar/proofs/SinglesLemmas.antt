-- Single closed days in ascending order: searching them, and adding or removing a day.
use Rattle.std.proofs.Common.{◌≡◌, ◌≢◌, ℕ, zero, suc, ◌+◌, ◌-◌, ◌<◌, ◌≤◌, List, [], ◌∷◌, ◌++◌, length, get_or, take, drop, insert, remove}
use Rattle.std.proofs.Common.{Bool, true, false, not, ◌&&◌, ◌||◌, sym, ◌∙◌, refl, ap, arith, subst, inl, inr}
use Rattle.std.specs.Prelude.{◌==◌}
use Rattle.std.proofs.lemmas.Bool.{cases_order}
use Rattle.std.proofs.lemmas.Bool.Decides.{nat_tests, Decides-eqb}
use Rattle.std.proofs.lemmas.List.{take-append-drop, take_more, get_or-take, get_or-drop, length-take-le, length-drop}
use Rattle.std.proofs.lemmas.List.Edits.{length-insert, get_or-insert_below, get_or-insert_at, get_or-insert_above, length-remove}
use Rattle.std.proofs.lemmas.List.Edits.{get_or-remove_below, get_or-remove_above}
use Rattle.std.proofs.lemmas.List.Folds.{list_any-append, list_any_at}
use Rattle.calendar.specs.Days.{IsDayNumber, is_day}
use Rattle.calendar.specs.Openings.{Closings, AreClosings, ClosesOnly, ClosesExactly, IsLeastOpen, has_day, has_repeat, is_open, is_single, is_weekly}
use Rattle.calendar.specs.Weeks.{IsRising, IsCountBelow, IsPlaceOf, IsPlaceFor, IsOpenFrom, is_closed_weekday, singles_among}
use Rattle.calendar.proofs.OpeningLemmas.{has_day-push, is_open-past, is_open-inside, same_day}
use Rattle.calendar.proofs.WeekLemmas.{no_repeat, listed, listed-append, listed-outside, one_listed-open, one_listed-closed, singles_among-listed}

-- ---- a search that halves

-- two to the power of n: what n looks can tell apart
abbrev pub span : ℕ → ℕ
span zero = 1
span (suc n) = span n + span n

pub span-some : (n size : ℕ) → size < span n → 0 < size → 0 < n
span-some zero size small some = absurd (omega arith)
span-some (suc n) size small some = omega arith

pub span-half : (n size half : ℕ) → size < span n → 0 < size → half + half ≤ size → half < span (n - 1)
span-half zero size half small some halves = absurd (omega arith)
span-half (suc n) size half small some halves = let e : suc n - 1 ≡ n = omega arith in rw e (omega arith)

-- ---- days that are there

differs : (x d : ℕ) → x ≢ d → (x == d) ≡ false
differs x d h = grind (arith, nat_tests)

has_day-none : (days : List ℕ) (d : ℕ) → ((i : ℕ) → i < length days → get_or days i 0 ≢ d) → has_day days d ≡ false
has_day-none [] d h = refl
has_day-none (x ∷ days) d h = rw (differs x d (h 0 (omega arith)), has_day-none days d (λ i lt. h (suc i) (omega arith))) refl

pub has_day-there : (days : List ℕ) (i d : ℕ) → i < length days → get_or days i 0 ≡ d → has_day days d ≡ true
has_day-there days i d lt e = list_any_at (λ x. x == d) days i 0 lt ((Decides-eqb (get_or days i 0) d).1 e)

pub has_day-IsPlaceOf : (days : List ℕ) (d i : ℕ) → IsPlaceOf days d i → has_day days d ≡ true
has_day-IsPlaceOf days d i p = has_day-there days i d p.within p.is_there

pub has_day-IsPlaceFor : (days : List ℕ) (d n : ℕ) → IsPlaceFor days d n → has_day days d ≡ false
has_day-IsPlaceFor days d n p = has_day-none days d (λ i lt e. elim (cases_order i n) [
  | inl same ↦ let a = p.after i (omega arith) lt in omega arith
  | inr apart ↦ elim apart [ inl below ↦ (let a = p.before i below in omega arith) | inr above ↦ (let a = p.after i (omega arith) lt in omega arith) ]
])

-- what is not at the first place from a day on is nowhere
pub IsPlaceFor-apart : (days : List ℕ) (d n : ℕ) → IsRising days → IsCountBelow days d n → (n < length days → get_or days n 0 ≢ d) → IsPlaceFor days d n
IsPlaceFor-apart days d n up p apart = record {
  within = p.within;
  before = p.before;
  after = λ i from lt. elim (cases_order n i) [
    | inl same ↦ (let a = p.after n (omega arith) (omega arith) in let b = apart (omega arith) in subst (λ (j : ℕ). d < get_or days j 0)
        same (strictly _ _ a b))
    | inr aside ↦ elim aside [
      | inl below ↦ (let a = p.after n (omega arith) (omega arith) in let b = up n i below lt in omega arith)
      | inr above ↦ absurd (omega arith)
    ]
  ];
}
  where
    strictly : (d e : ℕ) → d ≤ e → e ≢ d → d < e
    strictly d e h k = elim (cases_order d e)
        [ inl same ↦ absurd (k (sym same)) | inr aside ↦ elim aside [ inl below ↦ below | inr above ↦ absurd (omega arith) ] ]

IsRising-tail : (x : ℕ) (days : List ℕ) → IsRising (x ∷ days) → IsRising days
IsRising-tail x days h = λ i j less lt. h (suc i) (suc j) (omega arith) (omega arith)

pub has_repeat-IsRising : (days : List ℕ) → IsRising days → has_repeat days ≡ false
has_repeat-IsRising [] h = refl
has_repeat-IsRising (x ∷ days) h =
    let here = has_day-none days x (λ i lt e. let a = h 0 (suc i) (omega arith) (omega arith) in omega arith) in
    rw (here, has_repeat-IsRising days (IsRising-tail x days h)) refl

-- ---- one day more

moved : (a b c : Bool) → (a || (b || c)) ≡ (b || (a || c))
moved true true c = refl
moved true false c = refl
moved false true c = refl
moved false false c = refl

has_day-insert : (days : List ℕ) (n day d : ℕ) → has_day (insert days n day) d ≡ ((d == day) || has_day days d)
has_day-insert days n day d =
    let whole : has_day days d ≡ (has_day (take n days) d || has_day (drop n days) d) =
    ap (λ (xs : List ℕ). has_day xs d) (sym (take-append-drop n days)) ∙ list_any-append (λ e. e == d) (take n days) (drop n days) in
    list_any-append (λ e. e == d) (take n days) (day ∷ drop n days)
    ∙ (moved (has_day (take n days) d) (day == d) (has_day (drop n days) d)
    ∙ (ap (λ (b : Bool). (day == d) || b) (sym whole) ∙ ap (λ (b : Bool). b || has_day days d) (same_day day d)))

IsRising-insert : (days : List ℕ) (n day : ℕ) → IsRising days → IsPlaceFor days day n → IsRising (insert days n day)
IsRising-insert days n day up p = λ i j less lt. between i j less (let e = length-insert days n day p.within in omega arith)
  where
    low : (k : ℕ) → k < n → get_or (insert days n day) k 0 ≡ get_or days k 0
    low k h = get_or-insert_below days n day 0 k h p.within

    here : (k : ℕ) → k ≡ n → get_or (insert days n day) k 0 ≡ day
    here k h = rw h (get_or-insert_at days n day 0 p.within)

    high : (k : ℕ) → n ≤ k → get_or (insert days n day) (k + 1) 0 ≡ get_or days k 0
    high k h = get_or-insert_above days n day 0 k h p.within

    above : (k : ℕ) → n < k → get_or (insert days n day) k 0 ≡ get_or days (k - 1) 0
    above k h = let e : k ≡ k - 1 + 1 = omega arith in ap (λ (m : ℕ). get_or (insert days n day) m 0) e ∙ high (k - 1) (omega arith)

    to_high : (i j : ℕ) → i < j → n < j → j < length days + 1 → get_or (insert days n day) i 0 < get_or days (j - 1) 0
    to_high i j less h lt = elim (cases_order i n) [
      | inl same ↦ rw (here i same) (p.after (j - 1) (omega arith) (omega arith))
      | inr apart ↦ elim apart [
        | inl below ↦ rw (low i below) (up i (j - 1) (omega arith) (omega arith))
        | inr over ↦ rw (above i over) (up (i - 1) (j - 1) (omega arith) (omega arith))
      ]
    ]

    between : (i j : ℕ) → i < j → j < length days + 1 → get_or (insert days n day) i 0 < get_or (insert days n day) j 0
    between i j less lt = elim (cases_order j n) [
      | inl same ↦ rw (low i (omega arith), here j same) (p.before i (omega arith))
      | inr apart ↦ elim apart [
        | inl below ↦ (let w = p.within in rw (low i (omega arith), low j below) (up i j less (omega arith)))
        | inr over ↦ rw (above j over) (to_high i j less over lt)
      ]
    ]

-- the closed days with one more, at its place
pub closed_more : (c : Closings) (n day : ℕ) → AreClosings c → IsRising c.single → IsDayNumber day → IsPlaceFor c.single day n → length c.single ≢ 400
    → AreClosings (record { weekly = c.weekly; single = insert c.single n day }) × IsRising (insert c.single n day)
closed_more c n day h up in_range p room =
    let rising = IsRising-insert c.single n day up p in (
      record {
        weekdays = h.weekdays;
        in_range = λ d e. inside d (d == day) refl (sym (has_day-insert c.single n day d) ∙ e);
        once = has_repeat-IsRising (insert c.single n day) rising;
        few = let e = length-insert c.single n day p.within in omega (arith, h.few, room);
      },
      rising,
    )
  where
    inside : (d : ℕ) (same : Bool) → (d == day) ≡ same → ((d == day) || is_single c d) ≡ true → IsDayNumber d
    inside d true q e = subst IsDayNumber (sym ((Decides-eqb d day).0 q)) in_range
    inside d false q e = h.in_range d (rw q at e)

pub ClosesOnly-insert : (c : Closings) (n day : ℕ) → IsPlaceFor c.single day n → ClosesOnly c (record { weekly = c.weekly; single = insert c.single n day }) day
ClosesOnly-insert c n day p = record {
  weekly = refl;
  single = λ d. has_day-insert c.single n day d;
  one_more = length-insert c.single n day p.within;
}

-- a day that stands once is not among those before it
pub has_day-take : (days : List ℕ) (i day : ℕ) → has_repeat days ≡ false → i < length days → get_or days i 0 ≡ day → has_day (take i days) day ≡ false
has_day-take [] i day h lt e = absurd (omega arith)
has_day-take (x ∷ days) zero day h lt e = refl
has_day-take (x ∷ days) (suc i) day h lt e =
    let p = no_repeat (has_day days x) (has_repeat days) h in
    let apart : x ≢ day = λ same. let there = has_day-there days i x (omega arith) (e ∙ sym same) in cc in
    rw (differs x day apart, has_day-take days i day p.1 (omega arith) e) refl

-- a day closed after those before it
pub ClosesExactly-more : (old new : Closings) (mask : List Bool) (days : List ℕ) (i day : ℕ) → i < length days → get_or days i 0 ≡ day
    → ClosesExactly old mask (take i days) → ClosesOnly old new day → ClosesExactly new mask (take (i + 1) days)
ClosesExactly-more old new mask days i day lt e h k =
    let more : take (i + 1) days ≡ take i days ++ day ∷ [] = take_more days i 0 lt ∙ ap (λ (x : ℕ). take i days ++ x ∷ []) e in
    record {
      weekly = k.weekly ∙ h.weekly;
      single = λ d. k.single d ∙ (ap (λ (b : Bool). (d == day) || b) (h.single d) ∙ rw more (sym (has_day-push (take i days) day d)));
      as_many = let n = length-take-le i days (omega arith) in let m = length-take-le (i + 1) days (omega arith) in let a = k.one_more in
          let b = h.as_many in omega arith;
    }

-- ---- one day less

pub IsRising-remove : (days : List ℕ) (n : ℕ) → n < length days → IsRising days → IsRising (remove days n)
IsRising-remove days n lt up = λ i j less within. between i j less (let e = length-remove days n lt in omega arith)
  where
    low : (k : ℕ) → k < n → get_or (remove days n) k 0 ≡ get_or days k 0
    low k h = get_or-remove_below days n 0 k h lt

    high : (k : ℕ) → n ≤ k → get_or (remove days n) k 0 ≡ get_or days (k + 1) 0
    high k h = get_or-remove_above days n 0 k h lt

    to_high : (i j : ℕ) → i < j → n ≤ j → j + 1 < length days → get_or (remove days n) i 0 < get_or days (j + 1) 0
    to_high i j less h within = elim (cases_order i n) [
      | inl same ↦ rw (high i (omega arith)) (up (i + 1) (j + 1) (omega arith) within)
      | inr apart ↦ elim apart [
        | inl below ↦ rw (low i below) (up i (j + 1) (omega arith) within)
        | inr over ↦ rw (high i (omega arith)) (up (i + 1) (j + 1) (omega arith) within)
      ]
    ]

    between : (i j : ℕ) → i < j → j + 1 < length days → get_or (remove days n) i 0 < get_or (remove days n) j 0
    between i j less within = elim (cases_order j n) [
      | inl same ↦ rw (high j (omega arith)) (to_high i j less (omega arith) within)
      | inr apart ↦ elim apart [
        | inl below ↦ rw (low i (omega arith), low j below) (up i j less (omega arith))
        | inr over ↦ rw (high j (omega arith)) (to_high i j less (omega arith) within)
      ]
    ]

-- ---- how many count between two days

-- a search for the day after one
pub IsCountBelow-next : (days : List ℕ) (a b n : ℕ) → a ≡ b → IsCountBelow days (a + 1) n → IsCountBelow days (b + 1) n
IsCountBelow-next days a b n e p = rw (← e) p

-- none before the first place after the due day
pub listed-before : (w : List Bool) (days : List ℕ) (due n from : ℕ) → IsCountBelow days (due + 1) from → 0 ≡ listed w due n (take from days)
listed-before w days due n from p = sym (listed-outside w due n (take from days) (λ i lt.
    let k = length-take-le from days p.within in
    let a = p.before i (omega arith) in
    inl (rw (get_or-take from days i 0 (omega arith)) (omega arith))))

pub listed-more_open : (w : List Bool) (days : List ℕ) (due n i day : ℕ) → i < length days → get_or days i 0 ≡ day → due < day
    → day ≤ due + n → is_closed_weekday w day ≡ false
    → listed w due n (take (i + 1) days) ≡ listed w due n (take i days) + 1
listed-more_open w days due n i day lt e after until o =
    let more : take (i + 1) days ≡ take i days ++ day ∷ [] = take_more days i 0 lt ∙ ap (λ (x : ℕ). take i days ++ x ∷ []) e in
    let one = one_listed-open w due n day after until o in
    let sum = listed-append w due n (take i days) (day ∷ []) in
    rw more (omega arith)

pub listed-more_closed : (w : List Bool) (days : List ℕ) (due n i day : ℕ) → i < length days → get_or days i 0 ≡ day → due < day
    → day ≤ due + n → is_closed_weekday w day ≡ true
    → listed w due n (take (i + 1) days) ≡ listed w due n (take i days)
listed-more_closed w days due n i day lt e after until o =
    let more : take (i + 1) days ≡ take i days ++ day ∷ [] = take_more days i 0 lt ∙ ap (λ (x : ℕ). take i days ++ x ∷ []) e in
    let one = one_listed-closed w due n day after until o in
    let sum = listed-append w due n (take i days) (day ∷ []) in
    rw more (omega arith)

-- none from a place on at which both searches have ended
pub listed-all : (w : List Bool) (days : List ℕ) (due today from to i : ℕ) → IsRising days → IsCountBelow days (due + 1) from
    → IsCountBelow days (today + 1) to → from ≤ i → to ≤ i
    → listed w due (today - due) (take i days) ≡ singles_among w days due (today - due)
listed-all w days due today from to i up p q a b =
    let n = today - due in
    let none : listed w due n (drop i days) ≡ 0 = listed-outside w due n (drop i days) (λ k lt.
    let e = length-drop i days in
    let x = p.after (i + k) (omega arith) (omega arith) in
    let y = q.after (i + k) (omega arith) (omega arith) in
    inr (rw (get_or-drop i days k 0) (omega arith))) in
    let parts = listed-append w due n (take i days) (drop i days) in
    let whole = ap (listed w due n) (take-append-drop i days) in
    let sum = singles_among-listed w days due n (has_repeat-IsRising days up) in
    omega arith

-- ---- from one weekly open day to the next

-- what holds of the weekday-open day that a walk along the days has reached at a place
pub record IsReached (c : Closings) (day i reached : ℕ) : Type 0 where
  pub from : day ≤ reached
  pub near : reached ≤ 84012
  pub weekday : is_closed_weekday c.weekly reached ≡ false
  pub passed : (j : ℕ) → j < i → j < length c.single → get_or c.single j 0 < reached
  pub closed : (k : ℕ) → day ≤ k → k < reached → is_open c k ≡ false

is_open-closed : (c : Closings) (d : ℕ) → is_closed_weekday c.weekly d ≡ true → is_open c d ≡ false
unfolding is_open
is_open-closed c d h = rw h (both (is_day d))
  where
    both : (b : Bool) → (b && false) ≡ false
    both true = refl
    both false = refl

is_open-single : (c : Closings) (d : ℕ) → has_day c.single d ≡ true → is_open c d ≡ false
unfolding is_open
is_open-single c d h = rw h (both (is_day d) (not (is_weekly c d)))
  where
    both : (a b : Bool) → (a && (b && false)) ≡ false
    both true true = refl
    both true false = refl
    both false b = refl

pub IsReached-first : (c : Closings) (day from reached : ℕ) → IsDayNumber day → IsCountBelow c.single day from → day ≤ reached
    → reached ≤ day + 6 → is_closed_weekday c.weekly reached ≡ false
    → ((k : ℕ) → day ≤ k → k < reached → is_closed_weekday c.weekly k ≡ true) → IsReached c day from reached
IsReached-first c day from reached h p a b w closed = record {
  from = a;
  near = omega (arith, h.1);
  weekday = w;
  passed = λ j lt within. let x = p.before j lt in omega arith;
  closed = λ k low high. is_open-closed c k (closed k low high);
}

-- the single day lies before it
pub IsReached-before : (c : Closings) (day i reached single : ℕ) → IsReached c day i reached → get_or c.single i 0 ≡ single
    → single ≤ reached → single ≢ reached → IsReached c day (i + 1) reached
IsReached-before c day i reached single r e not_later apart = record {
  from = r.from;
  near = r.near;
  weekday = r.weekday;
  passed = λ j lt within. elim (cases_order j i) [
    | inl same ↦ rw (same, e) (less single reached not_later apart)
    | inr aside ↦ elim aside [ inl below ↦ r.passed j below within | inr above ↦ absurd (omega arith) ]
  ];
  closed = r.closed;
}
  where
    less : (x y : ℕ) → x ≤ y → x ≢ y → x < y
    less x y h k = elim (cases_order x y) [ inl same ↦ absurd (k same) | inr aside ↦ elim aside [ inl below ↦ below | inr above ↦ absurd (omega arith) ] ]

-- the single day is that day, and the next weekly open day comes after it
pub IsReached-next : (c : Closings) (day i reached single next : ℕ) → IsReached c day i reached → i < length c.single
    → get_or c.single i 0 ≡ single → single ≡ reached → IsDayNumber single
    → reached + 1 ≤ next → next ≤ reached + 1 + 6 → is_closed_weekday c.weekly next ≡ false
    → ((k : ℕ) → reached + 1 ≤ k → k < next → is_closed_weekday c.weekly k ≡ true)
    → IsReached c day (i + 1) next
IsReached-next c day i reached single next r lt e same h a b w closed = record {
  from = omega (arith, r.from);
  near = omega (arith, h.1);
  weekday = w;
  passed = λ j less within. elim (cases_order j i) [
    | inl here ↦ rw (here, e) (omega arith)
    | inr aside ↦ elim aside [ inl below ↦ (let x = r.passed j below within in omega arith) | inr above ↦ absurd (omega arith) ]
  ];
  closed = λ k low high. elim (cases_order k reached) [
    | inl here ↦ rw here (is_open-single c reached (has_day-there c.single i reached lt (e ∙ same)))
    | inr aside ↦ elim aside [ inl below ↦ r.closed k low below | inr above ↦ is_open-closed c k (closed k (omega arith) high) ]
  ];
}

-- the walk has come to a later single day, or to the end
pub IsOpenFrom-reached : (c : Closings) (day i reached : ℕ) → IsRising c.single → IsReached c day i reached
    → (i < length c.single → reached < get_or c.single i 0) → IsOpenFrom c day reached
IsOpenFrom-reached c day i reached up r later = record {
  from = r.from;
  near = r.near;
  weekday = r.weekday;
  single = has_day-none c.single reached (λ j lt e. elim (cases_order j i) [
    | inl same ↦ (let x = later (omega arith) in let y = ap (λ (k : ℕ). get_or c.single k 0) same in omega arith)
    | inr aside ↦ elim aside [
      | inl below ↦ (let x = r.passed j below lt in omega arith)
      | inr above ↦ (let x = later (omega arith) in let y = up i j above lt in omega arith)
    ]
  ]);
  closed = r.closed;
}

pub IsLeastOpen-IsOpenFrom : (c : Closings) (day e : ℕ) → IsOpenFrom c day e → IsDayNumber e → IsLeastOpen c day e
IsLeastOpen-IsOpenFrom c day e o h = (o.from, is_open-inside c e h o.weekday ∙ ap not o.single, o.closed)

-- where it lies past the calendar, no day is open
pub none_open-IsOpenFrom : (c : Closings) (day e : ℕ) → IsOpenFrom c day e → 84005 < e → (k : ℕ) → day ≤ k → is_open c k ≡ false
none_open-IsOpenFrom c day e o past k from = elim (cases_order k e) [
  | inl same ↦ is_open-past c k (omega arith)
  | inr aside ↦ elim aside [ inl below ↦ o.closed k from below | inr above ↦ is_open-past c k (omega arith) ]
]
