-- The last entry of each worker.
use Rattle.std.proofs.Common.{◌≡◌, ◌≢◌, ℕ, ◌+◌, ◌-◌, ◌<◌, ◌≤◌, Bool, true, false, cond, List, [], ◌∷◌, ◌++◌, length, set, get_or, Option}
use Rattle.std.proofs.Common.{Some, None, sym, refl, ap, ◌∙◌, subst, eqb, arith, get_or-set_same}
use Rattle.std.specs.Option.{option_or}
use Rattle.std.proofs.lemmas.List.Sums.{sum_by-append, sum_by-cons}
use Rattle.std.proofs.lemmas.List.{get_or-set_other}
use Rattle.std.proofs.lemmas.Bool.{eqb-false, eqb-true}
use Rattle.std.proofs.lemmas.Bool.Decides.{nat_tests}
use Rattle.chronicle.specs.Growing.{Known}
use Rattle.board.specs.declared.entry.Entry.{Entry}
use Rattle.board.specs.declared.entry.Frame.{Frame}
use Rattle.board.specs.Workers.{is_worker}
use Rattle.board.specs.Showing.{Showing, last_of, last_on, count_own, with_entry}

pub last_of-snoc : (w : ℕ) (es : List Entry) (e : Entry) → last_of w (es ++ e ∷ []) ≡ cond (eqb e.worker w) (Some e) (last_of w es)
last_of-snoc w [] e = refl
last_of-snoc w (x ∷ es) e =
    let own : Option Entry = cond (eqb x.worker w) (Some x) None in
    ap (λ o. option_or o own) (last_of-snoc w es e)
    ∙ (elim (eqb e.worker w) as (λ b. option_or (cond b (Some e) (last_of w es)) own ≡ cond b (Some e) (option_or (last_of w es) own))
    [ true ↦ refl | false ↦ refl ])

pub worker_tells : (w : ℕ) → is_worker w ≡ true → (1 ≤ w) × (w ≤ 8)
worker_tells w h = grind (arith, nat_tests)

on_next : (x : Showing) (e : Entry) (w : ℕ) (mine : Bool) → eqb e.worker w ≡ mine → is_worker w ≡ true → is_worker e.worker ≡ true → length x.last ≡ 8
    → get_or (set x.last (e.worker - 1) (Some e)) (w - 1) None ≡ cond mine (Some e) (get_or x.last (w - 1) None)
on_next x e w true same isw ise long =
    let t = worker_tells e.worker ise in
    let within : e.worker - 1 < length x.last = omega (arith, t, long) in
    let is : e.worker ≡ w = eqb-true e.worker w same in
    subst (λ k. get_or (set x.last (e.worker - 1) (Some e)) (k - 1) None ≡ Some e) is (get_or-set_same x.last (e.worker - 1) (Some e) None within)
on_next x e w false other isw ise long =
    let t = worker_tells w isw in let u = worker_tells e.worker ise in
    let apart : e.worker ≢ w = eqb-false e.worker w other in
    let ne : w - 1 ≢ e.worker - 1 = λ h. apart (omega (arith, t, u, h)) in
    get_or-set_other x.last (e.worker - 1) (w - 1) (Some e) None ne

-- What shows each worker's last entry, once an entry is put.
pub last_next : (x : Showing) (e : Entry) (frames : Known Frame) (entries : List Entry) (w : ℕ) → is_worker e.worker ≡ true → length x.last ≡ 8
    → last_on w x ≡ cond (is_worker w) (last_of w entries) None → last_on w (with_entry x e frames) ≡ cond (is_worker w) (last_of w (entries ++ e ∷ [])) None
last_next x e frames entries w ise long old = by (is_worker w) refl
  where
    list : List (Option Entry)
    list = cond (is_worker e.worker) (set x.last (e.worker - 1) (Some e)) x.last

    by : (b : Bool) → is_worker w ≡ b → cond b (get_or list (w - 1) None) None ≡ cond b (last_of w (entries ++ e ∷ [])) None
    by false h = refl
    by true h =
        let was : get_or x.last (w - 1) None ≡ last_of w entries =
        subst (λ b. cond b (get_or x.last (w - 1) None) None ≡ cond b (last_of w entries) None) h old in
        ap (λ b. get_or (cond b (set x.last (e.worker - 1) (Some e)) x.last) (w - 1) None) ise
        ∙ (on_next x e w (eqb e.worker w) refl h ise long ∙ (ap (λ o. cond (eqb e.worker w) (Some e) o) was ∙ sym (last_of-snoc w entries e)))

pub count-cons : (w : ℕ) (e : Entry) (es : List Entry) → count_own w (e ∷ es) ≡ cond (eqb e.worker w) 1 0 + count_own w es
count-cons w e es = sum_by-cons (λ (d : Entry). cond (eqb d.worker w) 1 0) e es

pub eqb-self : (k w : ℕ) → k ≡ w → eqb k w ≡ true
eqb-self k w h = grind (arith, nat_tests)

pub count-append : (w : ℕ) (xs ys : List Entry) → count_own w (xs ++ ys) ≡ count_own w xs + count_own w ys
count-append w xs ys = sum_by-append (λ (d : Entry). cond (eqb d.worker w) 1 0) xs ys

pub none_in : (w : ℕ) (es : List Entry) → last_of w es ≡ None → count_own w es ≡ 0
none_in w [] h = refl
none_in w (x ∷ es) h = by (none_in w es) (last_of w es) (eqb x.worker w) refl refl h
  where
    by : (last_of w es ≡ None → count_own w es ≡ 0) → (o : Option Entry) (b : Bool) → last_of w es ≡ o → eqb x.worker w ≡ b
        → option_or o (cond b (Some x) None) ≡ None → count_own w (x ∷ es) ≡ 0
    by rest (Some f) b p q k = absurd (cc)
    by rest None true p q k = absurd (cc)
    by rest None false p q k =
        let none = rest p in
        let zero' : ◌≡◌ {A = ℕ} (cond (eqb x.worker w) 1 0) 0 = ap (λ b. cond b 1 0) q in
        count-cons w x es ∙ omega (arith, none, zero')

-- of a worker of whom nothing is counted there is no last entry
pub none_counted : (w : ℕ) (es : List Entry) → count_own w es ≡ 0 → last_of w es ≡ None
none_counted w [] h = refl
none_counted w (x ∷ es) h = by (none_counted w es) (eqb x.worker w) refl
  where
    by : (count_own w es ≡ 0 → last_of w es ≡ None) → (b : Bool) → eqb x.worker w ≡ b → last_of w (x ∷ es) ≡ None
    by rest true q =
        let one : ◌≡◌ {A = ℕ} (cond (eqb x.worker w) 1 0) 1 = ap (λ b. cond b 1 0) q in
        absurd (omega (arith, one, h, count-cons w x es))
    by rest false q =
        let none : ◌≡◌ {A = ℕ} (cond (eqb x.worker w) 1 0) 0 = ap (λ b. cond b 1 0) q in
        ap (λ o. option_or o (cond (eqb x.worker w) (Some x) None)) (rest (omega (arith, none, h, count-cons w x es)))
        ∙ ap (λ b. option_or None (cond b (Some x) None)) q

-- an entry of a worker after which nothing of that worker is counted is the last
pub last_here : (w : ℕ) (front : List Entry) (e : Entry) (rest : List Entry) → e.worker ≡ w → count_own w rest ≡ 0 → last_of w (front ++ e ∷ rest) ≡ Some e
last_here w [] e rest mine none =
    ap (λ o. option_or o (cond (eqb e.worker w) (Some e) None)) (none_counted w rest none)
    ∙ ap (λ b. option_or None (cond b (Some e) None)) (eqb-self e.worker w mine)
last_here w (x ∷ front) e rest mine none = ap (λ o. option_or o (cond (eqb x.worker w) (Some x) None)) (last_here w front e rest mine none)

-- Where the last entry of a worker stands: nothing of that worker is after it.
pub record StandsLast (w : ℕ) (es : List Entry) (e : Entry) : Type 0 where
  pub front : List Entry
  pub rest : List Entry
  pub is : es ≡ front ++ e ∷ rest
  pub mine : e.worker ≡ w
  pub none : count_own w rest ≡ 0

some-is : (f e : Entry) → Some f ≡ Some e → f ≡ e
some-is f e h = cc

pub found_in : (w : ℕ) (es : List Entry) (e : Entry) → last_of w es ≡ Some e → StandsLast w es e
found_in w [] e h = absurd (cc)
found_in w (x ∷ es) e h = by (found_in w es e) (last_of w es) (eqb x.worker w) refl refl h
  where
    by : (last_of w es ≡ Some e → StandsLast w es e) → (o : Option Entry) (b : Bool) → last_of w es ≡ o → eqb x.worker w ≡ b
        → option_or o (cond b (Some x) None) ≡ Some e → StandsLast w (x ∷ es) e
    by rest (Some f) b p q k =
        let later = rest (p ∙ k) in
        record { front = x ∷ later.front; rest = later.rest; is = ap (λ l. x ∷ l) later.is; mine = later.mine; none = later.none }
    by rest None true p q k =
        let same : x ≡ e = some-is x e k in
        record {
          front = [];
          rest = es;
          is = ap (λ y. y ∷ es) same;
          mine = ap (λ (y : Entry). y.worker) (sym same) ∙ eqb-true x.worker w q;
          none = none_in w es p;
        }
    by rest None false p q k = absurd (cc)

pub count_found : (w : ℕ) (es : List Entry) (e : Entry) (s : StandsLast w es e) → count_own w es ≡ count_own w s.front + 1
count_found w es e s =
    let one : ◌≡◌ {A = ℕ} (cond (eqb e.worker w) 1 0) 1 = ap (λ b. cond b 1 0) (subst (λ k. eqb k w ≡ true) (sym s.mine) (self w)) in
    ap (count_own w) s.is ∙ (count-append w s.front (e ∷ s.rest) ∙ (ap (λ n. count_own w s.front + n) (count-cons w e s.rest)
    ∙ omega (arith, one, s.none)))
  where
    self : (k : ℕ) → eqb k k ≡ true
    self k = grind (arith, nat_tests)
