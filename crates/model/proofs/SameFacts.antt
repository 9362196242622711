-- Two histories that are the same but for the numbers of patrons, and what is the same of them.
use Rattle.std.proofs.Common.{◌≡◌, ℕ, zero, suc, ◌+◌, ◌-◌, ◌==◌, Bool, true, false, cond, not, ◌&&◌, List, [], ◌∷◌, ◌++◌, refl, sym, ◌∙◌, ap, map, length}
use Rattle.std.specs.Prelude.{Option, Some, None, is_some, is_none, option_map, option_and_then, unwrap_or, filter, find, fold}
use Rattle.std.specs.List.{list_any}
use Rattle.std.proofs.lemmas.Bool.{eqb-true, eq-eqb}
use Rattle.std.proofs.lemmas.List.{length-map, map-append}
use Rattle.terms.specs.declared.command.Command.{Command}
use Rattle.terms.specs.declared.command.Command.TheVariants.{Acquire, Rehome, CheckOut, CheckIn, PlaceHold, CancelHold, Unshelve, UnshelveCancelled, Missing, Withdraw}
use Rattle.terms.specs.declared.command.Command.TheVariants.{Pay, Waive, Charge, PayAt}
use Rattle.terms.specs.declared.row.HoldState.{HoldState}
use Rattle.terms.specs.declared.row.HoldState.TheVariants.{Waiting, Filled, Cancelled, Expired}
use Rattle.terms.specs.declared.row.Sort.{Sort}
use Rattle.terms.specs.declared.row.Sort.TheVariants.{Fine, Price, Payment, Waiver, Charge as ChargeSort}
use Rattle.terms.specs.declared.row.Thing.{Thing}
use Rattle.terms.specs.declared.row.Thing.TheVariants as thing
use Rattle.terms.specs.Money.{fine_for}
use Rattle.model.specs.Calendar.{opens, least, late}
use Rattle.model.specs.History.{History, numbers_to, today, week_of, singles_of, is_open, branch_of, kind_of, rule_of}
use Rattle.model.specs.History.{patron_of, title_of, copy_of, copies, loans, HoldFacts, has_begun, hold_made, holds, hold_of, barcode_of, thing_of}
use Rattle.model.specs.Places.{Place, Shelf, HoldShelf, Transit, Loan, place, state, limit, is_begun, limit_now}
use Rattle.model.specs.Places.{title_of_copy, home_of, title_of_hold, patron_of_hold, goal_of, first_day_of, is_kept_for, is_bound_for, is_waiting}
use Rattle.model.specs.Places.{is_coming_by, line_by, route_to, route_from, route_by, kept_for_by, fills_first, fills_from, fills_by}
use Rattle.model.specs.Places.{place_let_go, place_rehomed, place_unshelved, place_after, state_at, state_unshelved, state_moved, state_made, state_after}
use Rattle.model.specs.Places.{unshelved_to_by, limit_at, limit_after_by}
use Rattle.model.specs.Loans.{LoanFacts, loan_of, terms_for, no_terms, grace_of, is_loan_of_copy, is_loan_of_patron, ended, is_open_loan, title_of_loan}
use Rattle.model.specs.Loans.{first_due, renewed_due, due, renewals, renewals_left, open_loans, has_on_loan}
use Rattle.model.specs.Accounts.{Note, Line, posting, lines, lines_after, noted_line, line_of, fine_line, price_line, price_of, fine_now, borrower, account_in, charge, credit, charges, credits, owed}
use Rattle.model.specs.Renaming.{IsRenaming, renamed}

-- ---- facts under new numbers

abbrev pub renamed_hold : (ℕ → ℕ) → HoldFacts → HoldFacts
renamed_hold f r = record { patron = f r.patron; title = r.title; branch = r.branch; first_day = r.first_day }

abbrev pub renamed_loan : (ℕ → ℕ) → LoanFacts → LoanFacts
renamed_loan f r = record { copy = r.copy; patron = f r.patron; branch = r.branch; made = r.made; terms = r.terms }

abbrev pub renamed_line : (ℕ → ℕ) → Line → Line
renamed_line f x = record { patron = f x.patron; day = x.day; sort = x.sort; amount = x.amount; loan = x.loan; note = x.note }

abbrev pub renamed_thing : (ℕ → ℕ) → Thing → Thing
renamed_thing f (thing.Patron p) = thing.Patron (f p)
renamed_thing f (thing.Copy c) = thing.Copy c

-- K is H with other numbers for patrons.
pub record IsSame (f : ℕ → ℕ) (K H : History) : Type 0 where
  pub days : today K ≡ today H
  pub weeks : (b : ℕ) → week_of K b ≡ week_of H b
  pub singles : (b : ℕ) → singles_of K b ≡ singles_of H b
  pub branch_facts : (b : ℕ) → branch_of K b ≡ branch_of H b
  pub kind_facts : (k : ℕ) → kind_of K k ≡ kind_of H k
  pub rule_facts : (k c : ℕ) → rule_of K k c ≡ rule_of H k c
  pub patron_facts : (p : ℕ) → patron_of K (f p) ≡ patron_of H p
  pub title_texts : (t : ℕ) → title_of K t ≡ title_of H t
  pub copy_facts : (c : ℕ) → copy_of K c ≡ copy_of H c
  pub copy_list : copies K ≡ copies H
  pub loan_count : loans K ≡ loans H
  pub hold_count : holds K ≡ holds H
  pub hold_facts : (h : ℕ) → hold_of K h ≡ option_map (renamed_hold f) (hold_of H h)
  pub loan_facts : (l : ℕ) → loan_of K l ≡ option_map (renamed_loan f) (loan_of H l)
  pub ends : (l : ℕ) → ended K l ≡ ended H l
  pub dues : (l : ℕ) → due K l ≡ due H l
  pub renewed : (l : ℕ) → renewals K l ≡ renewals H l
  pub places : (c : ℕ) → place K c ≡ place H c
  pub states : (h : ℕ) → state K h ≡ state H h
  pub limits : (h : ℕ) → limit K h ≡ limit H h
  pub labels : (t : Thing) → barcode_of K (renamed_thing f t) ≡ barcode_of H t
  pub finds : (barcode : List ℕ) → thing_of K barcode ≡ option_map (renamed_thing f) (thing_of H barcode)
  pub line_list : lines K ≡ map (renamed_line f) (lines H)

-- ---- functions of options and lists

hold-field : {A : Type 0} (f : ℕ → ℕ) (get : HoldFacts → A) (zero' : A) → ((r : HoldFacts) → get (renamed_hold f r) ≡ get r) → (o : Option HoldFacts)
    → unwrap_or (option_map get (option_map (renamed_hold f) o)) zero' ≡ unwrap_or (option_map get o) zero'
hold-field f get none same (Some r) = same r
hold-field f get none same None = refl

loan-field : {A : Type 0} (f : ℕ → ℕ) (get : LoanFacts → A) (zero' : A) → ((r : LoanFacts) → get (renamed_loan f r) ≡ get r) → (o : Option LoanFacts)
    → unwrap_or (option_map get (option_map (renamed_loan f) o)) zero' ≡ unwrap_or (option_map get o) zero'
loan-field f get none same (Some r) = same r
loan-field f get none same None = refl

some-map : {A B : Type 0} (g : A → B) (o : Option A) → is_some (option_map g o) ≡ is_some o
some-map g (Some x) = refl
some-map g None = refl

-- A renamed command makes the renamed hold.
pub made-same : (f : ℕ → ℕ) (x : Command) → hold_made (renamed f x) ≡ option_map (renamed_hold f) (hold_made x)
made-same f (PlaceHold p t b d) = refl
made-same f _ = refl

module _ (f : ℕ → ℕ) (new : IsRenaming f) where
  pub same-eqb : (p q : ℕ) → (f p == f q) ≡ (p == q)
  same-eqb p q = go (p == q) refl (f p == f q) refl
    where
      go : (x : Bool) → (p == q) ≡ x → (y : Bool) → (f p == f q) ≡ y → (f p == f q) ≡ (p == q)
      go true e y d = eq-eqb (f p) (f q) (ap f (eqb-true p q e)) ∙ sym e
      go false e true d = let same : (p == q) ≡ true = eq-eqb p q (new.one_to_one p q (eqb-true (f p) (f q) d)) in let never : ⊥ = cc in absurd never
      go false e false d = d ∙ sym e

  -- ---- lists of lines

  own-lines : (xs : List Line) (p : ℕ) → account_in (map (renamed_line f) xs) (f p) ≡ map (renamed_line f) (account_in xs p)
  own-lines [] p = refl
  own-lines (x ∷ xs) p = go (own-lines xs p) (x.patron == p) (same-eqb x.patron p)
    where
      go : account_in (map (renamed_line f) xs) (f p) ≡ map (renamed_line f) (account_in xs p) → (b : Bool) → (f x.patron == f p) ≡ b
          → cond (f x.patron == f p) (renamed_line f x ∷ account_in (map (renamed_line f) xs) (f p)) (account_in (map (renamed_line f) xs) (f p))
          ≡ map (renamed_line f) (cond b (x ∷ account_in xs p) (account_in xs p))
      go ih true e = λ i. cond (e i) (renamed_line f x ∷ ih i) (ih i)
      go ih false e = λ i. cond (e i) (renamed_line f x ∷ ih i) (ih i)

  fold-lines : (w : Line → ℕ) → ((x : Line) → w (renamed_line f x) ≡ w x) → (xs : List Line) (a : ℕ)
      → fold (λ b x. b + w x) a (map (renamed_line f) xs) ≡ fold (λ b x. b + w x) a xs
  fold-lines w same [] a = refl
  fold-lines w same (x ∷ xs) a = ap (λ n. fold (λ b y. b + w y) (a + n) (map (renamed_line f) xs)) (same x) ∙ fold-lines w same xs (a + w x)

  module _ (K H : History) (same : IsSame f K H) where
    -- ---- single facts

    pub opens-same : (b d : ℕ) → is_open K b d ≡ is_open H b d
    opens-same b d i = opens (same.weeks b i) (same.singles b i) d

    pub title-of-copy : (c : ℕ) → title_of_copy K c ≡ title_of_copy H c
    title-of-copy c i = unwrap_or (option_map (λ r. r.title) (same.copy_facts c i)) 0

    pub home-of : (c : ℕ) → home_of K c ≡ home_of H c
    home-of c i = unwrap_or (option_map (λ r. r.home) (same.copy_facts c i)) 0

    pub title-of-hold : (h : ℕ) → title_of_hold K h ≡ title_of_hold H h
    title-of-hold h = ap (λ o. unwrap_or (option_map (λ r. r.title) o) 0) (same.hold_facts h) ∙ hold-field f (λ r. r.title) 0 (λ r. refl) (hold_of H h)

    pub goal-of : (h : ℕ) → goal_of K h ≡ goal_of H h
    goal-of h = ap (λ o. unwrap_or (option_map (λ r. r.branch) o) 0) (same.hold_facts h) ∙ hold-field f (λ r. r.branch) 0 (λ r. refl) (hold_of H h)

    pub patron-of-hold : (h : ℕ) → patron_of_hold K h ≡ f (patron_of_hold H h)
    patron-of-hold h = ap (λ o. unwrap_or (option_map (λ r. r.patron) o) 0) (same.hold_facts h) ∙ go (hold_of H h)
      where
        go : (o : Option HoldFacts)
            → unwrap_or (option_map (λ r. r.patron) (option_map (renamed_hold f) o)) 0 ≡ f (unwrap_or (option_map (λ r. r.patron) o) 0)
        go (Some r) = refl
        go None = sym new.zero_stays

    pub owns-hold : (p h : ℕ) → (patron_of_hold K h == f p) ≡ (patron_of_hold H h == p)
    owns-hold p h = ap (λ q. q == f p) (patron-of-hold h) ∙ same-eqb (patron_of_hold H h) p

    pub first-day-of : (h : ℕ) → first_day_of K h ≡ first_day_of H h
    first-day-of h = ap (λ o. option_and_then (λ r. r.first_day) o) (same.hold_facts h) ∙ go (hold_of H h)
      where
        go : (o : Option HoldFacts) → option_and_then (λ r. r.first_day) (option_map (renamed_hold f) o) ≡ option_and_then (λ r. r.first_day) o
        go (Some r) = refl
        go None = refl

    pub begun-same : (h : ℕ) → is_begun K h ≡ is_begun H h
    begun-same h i = has_begun (same.days i) (first-day-of h i)

    pub hold-there : (h : ℕ) → is_some (hold_of K h) ≡ is_some (hold_of H h)
    hold-there h = ap is_some (same.hold_facts h) ∙ some-map (renamed_hold f) (hold_of H h)

    pub limit-now : (h : ℕ) → limit_now K h ≡ limit_now H h
    limit-now h i = least (λ d. opens-same (goal-of h i) d i)
        (same.days i + unwrap_or (option_map (λ r. r.pickup) (same.branch_facts (goal-of h i) i)) 0)

    -- ---- lines and routing

    module _ (P : ℕ → Place) (S : ℕ → Option HoldState) (B : ℕ → Bool) where
      coming : (h : ℕ) → is_coming_by K P S B h ≡ is_coming_by H P S B h
      coming h i = list_any (λ c. is_bound_for (P c) h) (same.copy_list i)

      pub line-by : (t : ℕ) → line_by K P S B t ≡ line_by H P S B t
      line-by t i = filter (λ h. elim (title-of-hold h i == t) as (λ _. Bool)
          [ true ↦ is_waiting (S h) && (not (coming h i) && B h) | false ↦ false ]) (numbers_to (same.hold_count i))

      line-of-copy : (c : ℕ) → line_by K P S B (title_of_copy K c) ≡ line_by H P S B (title_of_copy H c)
      line-of-copy c = ap (line_by K P S B) (title-of-copy c) ∙ line-by (title_of_copy H c)

      route-to : (c b : ℕ) (hs : List ℕ) → route_to K P S B c b hs ≡ route_to H P S B c b hs
      route-to c b (h ∷ hs) = λ i. elim (goal-of h i == b) as (λ _. Place) [ true ↦ HoldShelf h | false ↦ Transit (goal-of h i) (Some h) ]
      route-to c b [] = λ i. elim (home-of c i == b) as (λ _. Place) [ true ↦ Shelf b | false ↦ Transit (home-of c i) None ]

      to-line : (c b : ℕ) → route_to K P S B c b (line_by K P S B (title_of_copy K c)) ≡ route_to H P S B c b (line_by H P S B (title_of_copy H c))
      to-line c b = ap (route_to K P S B c b) (line-of-copy c) ∙ route-to c b (line_by H P S B (title_of_copy H c))

      route-from : (c b : ℕ) (p : Place) → route_from K P S B c b p ≡ route_from H P S B c b p
      route-from c b (Transit g (Some h)) = refl
      route-from c b _ = to-line c b

      pub route-by : (c b : ℕ) → route_by K P S B c b ≡ route_by H P S B c b
      route-by c b = route-from c b (P c)

      pub route-home : (c g : ℕ) → route_by K P S B c (goal_of K g) ≡ route_by H P S B c (goal_of H g)
      route-home c g = ap (route_by K P S B c) (goal-of g) ∙ route-by c (goal_of H g)

      pub kept-for : (h : ℕ) → kept_for_by K P S B h ≡ kept_for_by H P S B h
      kept-for h i = find (λ c. is_kept_for (P c) h) (same.copy_list i)

      fills-first : (p : ℕ) (hs : List ℕ) (h : ℕ) → fills_first K P S B (f p) hs h ≡ fills_first H P S B p hs h
      fills-first p [] h = refl
      fills-first p (g ∷ gs) h = λ i. (g == h) && owns-hold p g i

      fills-from : (p c : ℕ) (at : Place) (h : ℕ) → fills_from K P S B (f p) c at h ≡ fills_from H P S B p c at h
      fills-from p c (HoldShelf g) h = refl
      fills-from p c (Shelf b) h =
          ap (λ hs. fills_first K P S B (f p) hs h) (line-of-copy c) ∙ fills-first p (line_by H P S B (title_of_copy H c)) h
      fills-from p c _ h = refl

      pub fills-same : (p c h : ℕ) → fills_by K P S B (f p) c h ≡ fills_by H P S B p c h
      fills-same p c h = fills-from p c (P c) h

      let-go : (g : ℕ) (p : Place) → place_let_go K P S B g p ≡ place_let_go H P S B g p
      let-go g (Transit b (Some h)) = refl
      let-go g (Transit b None) = refl
      let-go g _ = refl

      rehomed : (b : ℕ) (p : Place) → place_rehomed K P S B b p ≡ place_rehomed H P S B b p
      rehomed b (Shelf g) = refl
      rehomed b _ = refl

      unshelved : (g c : ℕ) → place_unshelved K P S B g c ≡ place_unshelved H P S B g c
      unshelved g c = λ i. elim (is_kept_for (P c) g) as (λ _. Place) [ true ↦ route-home c g i | false ↦ P c ]

      pub place-after : (x : Command) (c : ℕ) → place_after K P S B (renamed f x) c ≡ place_after H P S B x c
      place-after (Acquire n t k home price text) c = λ i. elim (is_none (same.copy_facts n i)) as (λ _. Place)
          [ true ↦ (elim (n == c) as (λ _. Place) [ true ↦ Shelf home | false ↦ P c ]) | false ↦ P c ]
      place-after (Rehome n b) c = λ i. elim (n == c) as (λ _. Place) [ true ↦ rehomed b (P n) i | false ↦ P c ]
      place-after (CheckOut p n b) c = λ i. elim (n == c) as (λ _. Place) [ true ↦ Loan (same.loan_count i + 1) | false ↦ P c ]
      place-after (CheckIn n b) c = λ i. elim (n == c) as (λ _. Place) [ true ↦ route-by n b i | false ↦ P c ]
      place-after (CancelHold g) c = let-go g (P c)
      place-after (Unshelve g) c = unshelved g c
      place-after (UnshelveCancelled g) c = unshelved g c
      place-after (Missing n) c = refl
      place-after (Withdraw n) c = refl
      place-after _ c = refl

      state-unshelved : (g : ℕ) (ends : HoldState) (found : Option ℕ) (h : ℕ) → state_unshelved K P S B g ends found h ≡ state_unshelved H P S B g ends found h
      state-unshelved g ends None h = refl
      state-unshelved g ends (Some c) h = λ i. elim (g == h) as (λ _. Option HoldState) [ true ↦ Some ends | false ↦ state_at H P S B (route-home c g i) h ]

      ends-same : (g : ℕ) (ends : HoldState) (h : ℕ)
          → state_unshelved K P S B g ends (kept_for_by K P S B g) h ≡ state_unshelved H P S B g ends (kept_for_by H P S B g) h
      ends-same g ends h = ap (λ q. state_unshelved K P S B g ends q h) (kept-for g) ∙ state-unshelved g ends (kept_for_by H P S B g) h

      state-moved : (x : Command) (h : ℕ) → state_moved K P S B (renamed f x) h ≡ state_moved H P S B x h
      state-moved (CheckOut p c b) h = λ i. elim (fills-same p c h i) as (λ _. Option HoldState) [ true ↦ Some Filled | false ↦ S h ]
      state-moved (CheckIn c b) h = λ i. state_at H P S B (route-by c b i) h
      state-moved (CancelHold g) h = refl
      state-moved (Unshelve g) h = ends-same g Expired h
      state-moved (UnshelveCancelled g) h = ends-same g Cancelled h
      state-moved (Missing c) h = refl
      state-moved _ h = refl

      state-made : (m : Option HoldFacts) (x : Command) (h : ℕ)
          → state_made K P S B (option_map (renamed_hold f) m) (renamed f x) h ≡ state_made H P S B m x h
      state-made (Some made) x h = λ i. elim ((same.hold_count i + 1) == h) as (λ _. Option HoldState) [ true ↦ Some Waiting | false ↦ S h ]
      state-made None x h = state-moved x h

      pub state-after : (x : Command) (h : ℕ) → state_after K P S B (renamed f x) h ≡ state_after H P S B x h
      state-after x h = ap (λ m. state_made K P S B m (renamed f x) h) (made-same f x) ∙ state-made (hold_made x) x h

      unshelved-to : (g : ℕ) (found : Option ℕ) → unshelved_to_by K P S B g found ≡ unshelved_to_by H P S B g found
      unshelved-to g (Some c) = route-home c g
      unshelved-to g None = refl

      limit-at : (p q : Place) (h : ℕ) (before : Option ℕ) → p ≡ q → limit_at K p h before ≡ limit_at H q h before
      limit-at p q h before e = λ i. elim (is_kept_for (e i) h) as (λ _. Option ℕ) [ true ↦ limit-now h i | false ↦ before ]

      pub limit-after : (x : Command) (h : ℕ) (before : Option ℕ) → limit_after_by K P S B (renamed f x) h before ≡ limit_after_by H P S B x h before
      limit-after (CheckIn c b) h before = limit-at _ _ h before (route-by c b)
      limit-after (Unshelve g) h before =
          limit-at _ _ h before (ap (unshelved_to_by K P S B g) (kept-for g) ∙ unshelved-to g (kept_for_by H P S B g))
      limit-after (UnshelveCancelled g) h before =
          limit-at _ _ h before (ap (unshelved_to_by K P S B g) (kept-for g) ∙ unshelved-to g (kept_for_by H P S B g))
      limit-after _ h before = refl

    -- ---- loans

    pub terms-same : (p c : ℕ) → terms_for K (f p) c ≡ terms_for H p c
    terms-same p c i = option_and_then (λ q. option_and_then (λ r. same.rule_facts q.kind r.kind i) (same.copy_facts c i)) (same.patron_facts p i)

    pub first-due : (p c b : ℕ) → first_due K (f p) c b ≡ first_due H p c b
    first-due p c b i = least (λ d. opens-same b d i) (same.days i + (unwrap_or (terms-same p c i) no_terms).period)

    pub loan-there : (l : ℕ) → is_some (loan_of K l) ≡ is_some (loan_of H l)
    loan-there l = ap is_some (same.loan_facts l) ∙ some-map (renamed_loan f) (loan_of H l)

    pub borrower-same : (l : ℕ) → borrower K l ≡ f (borrower H l)
    borrower-same l = ap (λ o. unwrap_or (option_map (λ r. r.patron) o) 0) (same.loan_facts l) ∙ go (loan_of H l)
      where
        go : (o : Option LoanFacts)
            → unwrap_or (option_map (λ r. r.patron) (option_map (renamed_loan f) o)) 0 ≡ f (unwrap_or (option_map (λ r. r.patron) o) 0)
        go (Some r) = refl
        go None = sym new.zero_stays

    pub loan-of-copy : (l c : ℕ) → is_loan_of_copy K l c ≡ is_loan_of_copy H l c
    loan-of-copy l c = ap (λ o. unwrap_or (option_map (λ r. r.copy == c) o) false) (same.loan_facts l)
        ∙ loan-field f (λ r. r.copy == c) false (λ r. refl) (loan_of H l)

    pub grace-same : (l : ℕ) → grace_of K l ≡ grace_of H l
    grace-same l = ap (λ o. unwrap_or (option_map (λ r. r.terms.grace) o) 0) (same.loan_facts l)
        ∙ loan-field f (λ r. r.terms.grace) 0 (λ r. refl) (loan_of H l)

    pub renewed-due : (l d : ℕ) → renewed_due K l d ≡ renewed_due H l d
    renewed-due l d = ap (option_and_then (λ (r : LoanFacts). least (is_open K r.branch) (d + r.terms.period))) (same.loan_facts l) ∙ go (loan_of H l)
      where
        go : (o : Option LoanFacts) → option_and_then (λ (r : LoanFacts). least (is_open K r.branch) (d + r.terms.period)) (option_map (renamed_loan f) o)
            ≡ option_and_then (λ (r : LoanFacts). least (is_open H r.branch) (d + r.terms.period)) o
        go (Some r) = λ i. least (λ e. opens-same r.branch e i) (d + r.terms.period)
        go None = refl

    pub left-same : (l : ℕ) → renewals_left K l ≡ renewals_left H l
    left-same l =
        let most : unwrap_or (option_map (λ r. r.terms.renewals) (loan_of K l)) 0 ≡ unwrap_or (option_map (λ r. r.terms.renewals) (loan_of H l)) 0 =
        ap (λ o. unwrap_or (option_map (λ r. r.terms.renewals) o) 0) (same.loan_facts l)
        ∙ loan-field f (λ r. r.terms.renewals) 0 (λ r. refl) (loan_of H l) in
        λ i. most i - same.renewed l i

    pub title-of-loan : (l : ℕ) → title_of_loan K l ≡ title_of_loan H l
    title-of-loan l = ap (λ o. unwrap_or (option_map (λ r. title_of_copy K r.copy) o) 0) (same.loan_facts l) ∙ go (loan_of H l)
      where
        go : (o : Option LoanFacts) → unwrap_or (option_map (λ r. title_of_copy K r.copy) (option_map (renamed_loan f) o)) 0
            ≡ unwrap_or (option_map (λ r. title_of_copy H r.copy) o) 0
        go (Some r) = title-of-copy r.copy
        go None = refl

    pub open-same : (l : ℕ) → is_open_loan K l ≡ is_open_loan H l
    open-same l i = loan-there l i && is_none (same.ends l i)

    pub owns-loan : (p l : ℕ) → is_loan_of_patron K (f p) l ≡ is_loan_of_patron H p l
    owns-loan p l = ap (λ o. unwrap_or (option_map (λ r. r.patron == f p) o) false) (same.loan_facts l) ∙ go (loan_of H l)
      where
        go : (o : Option LoanFacts)
            → unwrap_or (option_map (λ r. r.patron == f p) (option_map (renamed_loan f) o)) false ≡ unwrap_or (option_map (λ r. r.patron == p) o) false
        go (Some r) = same-eqb r.patron p
        go None = refl

    pub open-loans : (p : ℕ) → open_loans K (f p) ≡ open_loans H p
    open-loans p i = filter (λ l. owns-loan p l i && open-same l i) (numbers_to (same.loan_count i))

    pub on-loan : (p t : ℕ) → has_on_loan K (f p) t ≡ has_on_loan H p t
    on-loan p t i = list_any (λ l. title-of-loan l i == t) (open-loans p i)

    -- ---- accounts

    pub owed-same : (p : ℕ) → owed K (f p) ≡ owed H p
    owed-same p =
        let own : account_in (lines K) (f p) ≡ map (renamed_line f) (account_in (lines H) p) =
        ap (λ xs. account_in xs (f p)) same.line_list ∙ own-lines (lines H) p in
        let up : charges (account_in (lines K) (f p)) ≡ charges (account_in (lines H) p) =
        ap charges own ∙ fold-lines (λ x. charge x.sort x.amount) (λ x. refl) (account_in (lines H) p) 0 in
        let down : credits (account_in (lines K) (f p)) ≡ credits (account_in (lines H) p) =
        ap credits own ∙ fold-lines (λ x. credit x.sort x.amount) (λ x. refl) (account_in (lines H) p) 0 in
        λ i. up i - down i

    pub line-count : length (lines K) ≡ length (lines H)
    line-count = ap length same.line_list ∙ length-map (lines H) (renamed_line f)

    fine-same : (l : ℕ) → fine_now K (grace_of K) l ≡ fine_now H (grace_of H) l
    fine-same l = ap (λ o. unwrap_or (option_map (λ (r : LoanFacts).
        fine_for (late (is_open K r.branch) (due K l) (today K)) r.terms.rate r.terms.cap (grace_of K l)) o) 0) (same.loan_facts l) ∙ go (loan_of H l)
      where
        go : (o : Option LoanFacts)
            → unwrap_or (option_map (λ (r : LoanFacts). fine_for (late (is_open K r.branch) (due K l) (today K)) r.terms.rate r.terms.cap (grace_of K l))
            (option_map (renamed_loan f) o)) 0
            ≡ unwrap_or (option_map (λ (r : LoanFacts). fine_for (late (is_open H r.branch) (due H l) (today H)) r.terms.rate r.terms.cap (grace_of H l)) o) 0
        go (Some r) = λ i. fine_for (late (λ d. opens-same r.branch d i) (same.dues l i) (same.days i)) r.terms.rate r.terms.cap (grace-same l i)
        go None = refl

    price-same : (c : ℕ) → price_of K c ≡ price_of H c
    price-same c i = unwrap_or (option_map (λ r. r.price) (same.copy_facts c i)) 0

    line-of : (p : ℕ) (s : Sort) (loan : Option ℕ) (remark : Option Note) (n : ℕ)
        → noted_line K (f p) s loan remark n ≡ map (renamed_line f) (noted_line H p s loan remark n)
    line-of p s loan remark zero = refl
    line-of p s loan remark (suc n) = λ i. record { patron = f p; day = same.days i; sort = s; amount = suc n; loan = loan; note = remark } ∷ []

    lent-line : (l : ℕ) (s : Sort) (n m : ℕ) → n ≡ m
        → line_of K (borrower K l) s (Some l) n ≡ map (renamed_line f) (line_of H (borrower H l) s (Some l) m)
    lent-line l s n m e = (λ i. line_of K (borrower-same l i) s (Some l) (e i)) ∙ line-of (borrower H l) s (Some l) None m

    fine-line : (p : Place) → fine_line K (grace_of K) p ≡ map (renamed_line f) (fine_line H (grace_of H) p)
    fine-line (Loan l) = lent-line l Fine (fine_now K (grace_of K) l) (fine_now H (grace_of H) l) (fine-same l)
    fine-line _ = refl

    price-line : (c : ℕ) (p : Place) → price_line K c p ≡ map (renamed_line f) (price_line H c p)
    price-line c (Loan l) = lent-line l Price (price_of K c) (price_of H c) (price-same c)
    price-line c _ = refl

    pub fined : (c : ℕ) → fine_line K (grace_of K) (place K c) ≡ map (renamed_line f) (fine_line H (grace_of H) (place H c))
    fined c = ap (fine_line K (grace_of K)) (same.places c) ∙ fine-line (place H c)

    pub priced : (c : ℕ) → price_line K c (place K c) ≡ map (renamed_line f) (price_line H c (place H c))
    priced c = ap (price_line K c) (same.places c) ∙ price-line c (place H c)

    lost : (c : ℕ) → fine_line K (grace_of K) (place K c) ++ price_line K c (place K c)
        ≡ map (renamed_line f) (fine_line H (grace_of H) (place H c) ++ price_line H c (place H c))
    lost c = (λ i. fined c i ++ priced c i) ∙ sym (map-append (renamed_line f) (fine_line H (grace_of H) (place H c)) (price_line H c (place H c)))

    added : (new' old : List Line) → new' ≡ map (renamed_line f) old → lines K ++ new' ≡ map (renamed_line f) (lines H ++ old)
    added new' old e = (λ i. same.line_list i ++ e i) ∙ sym (map-append (renamed_line f) (lines H) old)

    pub lines-after : (x : Command) → lines_after K (posting (renamed f x)) (lines K) ≡ map (renamed_line f) (lines_after H (posting x) (lines H))
    lines-after (CheckIn c b) = added _ (fine_line H (grace_of H) (place H c)) (fined c)
    lines-after (Missing c) = added _ (fine_line H (grace_of H) (place H c) ++ price_line H c (place H c)) (lost c)
    lines-after (Pay p n) = added _ (noted_line H p Payment None None n) (line-of p Payment None None n)
    lines-after (Waive p n) = added _ (noted_line H p Waiver None None n) (line-of p Waiver None None n)
    lines-after (PayAt p n b) =
        let remark : Option Note = Some (record { branch = b; text = None }) in
        added _ (noted_line H p Payment None remark n) (line-of p Payment None remark n)
    lines-after (Charge p n b text) =
        let remark : Option Note = Some (record { branch = b; text = Some text }) in
        added _ (noted_line H p ChargeSort None remark n) (line-of p ChargeSort None remark n)
    lines-after _ = same.line_list

    -- How many lines a command adds is the same.
    pub fined-count : (c : ℕ) → length (fine_line K (grace_of K) (place K c)) ≡ length (fine_line H (grace_of H) (place H c))
    fined-count c = ap length (fined c) ∙ length-map (fine_line H (grace_of H) (place H c)) (renamed_line f)

    pub lost-count : (c : ℕ) → length (fine_line K (grace_of K) (place K c) ++ price_line K c (place K c))
        ≡ length (fine_line H (grace_of H) (place H c) ++ price_line H c (place H c))
    lost-count c = ap length (lost c) ∙ length-map (fine_line H (grace_of H) (place H c) ++ price_line H c (place H c)) (renamed_line f)
