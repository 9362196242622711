-- Each act keeps the laws.
use Rattle.std.proofs.Common.{◌≡◌, ◌≢◌, ℕ, ◌+◌, ◌-◌, ◌<◌, ◌≤◌, Bool, true, false, cond, ◌&&◌, List, [], ◌∷◌, ◌++◌, length, map, take, drop}
use Rattle.std.proofs.Common.{set, get_or, filter, count_by, fold, sym, refl, ap, ◌∙◌, subst, append_assoc, arith, eqb, ltb, length-append}
use Rattle.std.proofs.Common.{zero, suc, true≢false, if◌then◌else◌, get_or-set_same}
use Rattle.std.proofs.lemmas.Bool.Decides.{nat_tests}
use Rattle.std.proofs.lemmas.List.{map-append, take-append-drop, take-append-le, get_or-set_other, append-nil}
use Rattle.std.proofs.lemmas.List.Elements.{filter-append}
use Rattle.std.proofs.lemmas.List.Sums.{length-filter}
use Rattle.std.proofs.lemmas.Bool.{eqb-false}
use Rattle.std.proofs.Math.Seq.{take-add}
use Rattle.std.specs.List.{list_all}
use Rattle.std.proofs.lemmas.List.Folds.{list_all-append}
use Rattle.std.specs.Cmp.Derive.{both_true}
use Rattle.std.proofs.Math.ListN.{length-set, length-map}
use Rattle.hall_schedule.specs.declared.schedule.Item.{Item}
use Rattle.hall_schedule.specs.declared.schedule.Act.{Act}
use Rattle.hall_schedule.specs.declared.schedule.Act.TheVariants.{Submit, Handle, Publish, Look}
use Rattle.hall_schedule.specs.Schedules.{State, start, step, run, handle, ticked, submitted_by, may_submit, is_worker, is_of, own, list_at}
use Rattle.hall_schedule.specs.Schedules.{seen_at, StandsAfter, HasSeenMost, IsLawful}

pub own-append : (w : ℕ) (xs ys : List Item) → own w (xs ++ ys) ≡ own w xs ++ own w ys
own-append w xs ys = ap (map (λ (i : Item). i.request)) (filter-append (is_of w) xs ys)
    ∙ map-append (λ (i : Item). i.request) (filter (is_of w) xs) (filter (is_of w) ys)

pub length-own : (w : ℕ) (xs : List Item) → length (own w xs) ≡ count_by (is_of w) xs
length-own w xs = length-map (filter (is_of w) xs) (λ (i : Item). i.request) ∙ length-filter (is_of w) xs

pub own-one : (w : ℕ) (i : Item) → own w (i ∷ []) ≡ cond (is_of w i) (i.request ∷ []) []
own-one w i = elim (is_of w i) as (λ b. map (λ (j : Item). j.request) (cond b (i ∷ []) []) ≡ cond b (i.request ∷ []) []) [ true ↦ refl | false ↦ refl ]

pub and_parts : (a b : Bool) → (a && b) ≡ true → (a ≡ true) × (b ≡ true)
and_parts true b h = (refl, h)
and_parts false b h = absurd (true≢false (sym h))

pub is_worker_tells : (w : ℕ) → is_worker w ≡ true → (1 ≤ w) × (w ≤ 8)
is_worker_tells w h = grind (arith, nat_tests)

pub after-append : (n : ℕ) (xs : List Item) (i : Item) → StandsAfter n xs → i.seen ≤ n + length xs → StandsAfter n (xs ++ i ∷ [])
after-append n [] i h le = (omega arith, tt)
after-append n (x ∷ xs) i h le = (h.0, after-append (n + 1) xs i h.1 (omega arith))

-- where seen grows from n to m, what is left of the list shrinks
pub more_seen : (w n m : ℕ) (h q : List Item) (list rest : List ℕ) → own w (h ++ q) ≡ list → n ≤ m → m ≤ length h → list ≡ own w (take n h)
    ++ rest → length rest ≤ 1 → (rest' : List ℕ) × (list ≡ own w (take m h) ++ rest') × (length rest' ≤ 1)
more_seen w n m h q list rest is le within was short =
    let e : h ++ q ≡ take m h ++ (drop m h ++ q) = ap (λ x. x ++ q) (sym (take-append-drop m h)) ∙ append_assoc (take m h) (drop m h) q in
    let is' : list ≡ own w (take m h) ++ own w (drop m h ++ q) = sym is ∙ (ap (own w) e ∙ own-append w (take m h) (drop m h ++ q)) in
    let d : ℕ = m - n in
    let sum : n + d ≡ m = omega arith in
    let split : take m h ≡ take n h ++ take d (drop n h) = ap (λ k. take k h) (sym sum) ∙ take-add n d h in
    let own_split : own w (take m h) ≡ own w (take n h) ++ own w (take d (drop n h)) = ap (own w) split ∙ own-append w (take n h) (take d (drop n h)) in
    let a : length list ≡ length (own w (take m h)) + length (own w (drop m h ++ q)) =
    ap length is' ∙ length-append (own w (take m h)) (own w (drop m h ++ q)) in
    let b : length list ≡ length (own w (take n h)) + length rest = ap length was ∙ length-append (own w (take n h)) rest in
    let c : length (own w (take m h)) ≡ length (own w (take n h)) + length (own w (take d (drop n h))) =
    ap length own_split ∙ length-append (own w (take n h)) (own w (take d (drop n h))) in
    (own w (drop m h ++ q), is', omega arith)

-- the list of v after r was added to that of w
pub put_at : (sub : List (List ℕ)) (w v r : ℕ) (b : Bool) → eqb w v ≡ b → 1 ≤ w → w ≤ 8 → 1 ≤ v → length sub ≡ 8 → get_or sub (v - 1) []
    ++ cond b (r ∷ []) [] ≡ get_or (set sub (w - 1) (get_or sub (w - 1) [] ++ r ∷ [])) (v - 1) []
put_at sub w v r true e low high low' long =
    let same : w ≡ v = grind (arith, nat_tests) in
    let within : w - 1 < length sub = omega arith in
    subst (λ u. get_or sub (u - 1) [] ++ r ∷ [] ≡ get_or (set sub (w - 1) (get_or sub (w - 1) [] ++ r ∷ [])) (u - 1) []) same
    (sym (get_or-set_same sub (w - 1) (get_or sub (w - 1) [] ++ r ∷ []) [] within))
put_at sub w v r false e low high low' long =
    let apart : w ≢ v = eqb-false w v e in
    let ne : v - 1 ≢ w - 1 = λ h. apart (omega arith) in
    append-nil (get_or sub (v - 1) []) ∙ sym (get_or-set_other sub (w - 1) (v - 1) (get_or sub (w - 1) [] ++ r ∷ []) [] ne)

pub seen_put : (seen : List ℕ) (w v p : ℕ) (b : Bool) → eqb w v ≡ b → 1 ≤ w → w ≤ 8 → 1 ≤ v → length seen ≡ 8
    → get_or (set seen (w - 1) p) (v - 1) 0 ≡ cond b p (get_or seen (v - 1) 0)
seen_put seen w v p true e low high low' long =
    let same : w ≡ v = grind (arith, nat_tests) in
    let within : w - 1 < length seen = omega arith in
    subst (λ u. get_or (set seen (w - 1) p) (u - 1) 0 ≡ p) same (get_or-set_same seen (w - 1) p 0 within)
seen_put seen w v p false e low high low' long =
    let apart : w ≢ v = eqb-false w v e in
    let ne : v - 1 ≢ w - 1 = λ h. apart (omega arith) in
    get_or-set_other seen (w - 1) (v - 1) p 0 ne

pub ticked_keeps : (s : State) → IsLawful s → IsLawful (ticked s)
ticked_keeps s l = record { eight = l.eight; each = l.each; none_else = l.none_else; published = l.published; seen = l.seen; after = l.after; most = l.most }

most_more : (s : State) (w r v : ℕ) (b : Bool) → eqb w v ≡ b → IsLawful s → is_worker w ≡ true → is_worker v ≡ true
    → eqb (count_by (is_of w) (take (seen_at s w) s.handled)) (length (list_at s w)) ≡ true → HasSeenMost (submitted_by s w r) v
most_more s w r v true e l isw isv all =
    let iw = is_worker_tells w isw in let iv = is_worker_tells v isv in
    let t = l.most w isw in
    let same : w ≡ v = grind (arith, nat_tests) in
    let count : count_by (is_of w) (take (seen_at s w) s.handled) ≡ length (list_at s w) = grind (arith, nat_tests) in
    let o = length-own w (take (seen_at s w) s.handled) in
    let n : length (list_at s w) ≡ length (own w (take (seen_at s w) s.handled)) + length t.0 =
    ap length t.1 ∙ length-append (own w (take (seen_at s w) s.handled)) t.0 in
    let put : get_or s.submitted (w - 1) []
    ++ (r ∷ []) ≡ get_or (set s.submitted (w - 1) (get_or s.submitted (w - 1) [] ++ r ∷ [])) (w - 1) [] =
    put_at s.submitted w w r true (subst (λ u. eqb w u ≡ true) (sym same) e) iw.0 iw.1 iw.0 l.eight.0 in
    subst (HasSeenMost (submitted_by s w r)) same (
      t.0 ++ r ∷ [],
      sym put ∙ (ap (λ x. x ++ r ∷ []) t.1 ∙ append_assoc (own w (take (seen_at s w) s.handled)) t.0 (r ∷ [])),
      omega (arith, length-append t.0 (r ∷ [])),
    )
most_more s w r v false e l isw isv all =
    let iw = is_worker_tells w isw in let iv = is_worker_tells v isv in
    let t = l.most v isv in
    let put : get_or s.submitted (v - 1) [] ++ [] ≡ get_or (set s.submitted (w - 1) (get_or s.submitted (w - 1) [] ++ r ∷ [])) (v - 1) [] =
    put_at s.submitted w v r false e iw.0 iw.1 iv.0 l.eight.0 in
    (t.0, sym put ∙ (append-nil (get_or s.submitted (v - 1) []) ∙ t.1), t.2)

pub submit_keeps : (s : State) (w r : ℕ) (b : Bool) → may_submit s w ≡ b → IsLawful s → IsLawful (if b then submitted_by s w r else ticked s)
submit_keeps s w r false may l = ticked_keeps s l
submit_keeps s w r true may l =
    let a = and_parts (is_worker w) (ltb (length s.queue) 8 && eqb (count_by (is_of w) (take (seen_at s w) s.handled)) (length (list_at s w))) may in
    let b = and_parts (ltb (length s.queue) 8) (eqb (count_by (is_of w) (take (seen_at s w) s.handled)) (length (list_at s w))) a.1 in
    let iw = is_worker_tells w a.0 in
    let it : Item = record { worker = w; request = r; seen = seen_at s w } in
    let e : s.handled ++ (s.queue ++ it ∷ []) ≡ (s.handled ++ s.queue) ++ it ∷ [] = sym (append_assoc s.handled s.queue (it ∷ [])) in
    let low = l.seen w a.0 in
    let pub_ = l.published in
    record {
      eight = (length-set s.submitted (w - 1) (list_at s w ++ r ∷ []) ∙ l.eight.0, l.eight.1);
      each = λ v h.
          ap (own v) e ∙ (own-append v (s.handled ++ s.queue) (it ∷ [])
          ∙ (ap (λ x. x ++ own v (it ∷ [])) (l.each v h)
          ∙ (ap (λ x. list_at s v ++ x) (own-one v it)
          ∙ put_at s.submitted w v r (eqb w v) refl iw.0 iw.1 (is_worker_tells v h).0 l.eight.0)));
      none_else = ap (list_all (λ (i : Item). is_worker i.worker)) e
          ∙ (list_all-append (λ (i : Item). is_worker i.worker) (s.handled ++ s.queue) (it ∷ [])
          ∙ both_true l.none_else (both_true a.0 refl));
      published = l.published;
      seen = l.seen;
      after = subst (StandsAfter 0) (sym e) (after-append 0 (s.handled ++ s.queue) it l.after (omega (arith, length-append s.handled s.queue)));
      most = λ v h. most_more s w r v (eqb w v) refl l a.0 h b.1;
    }

pub handle_keeps : (s : State) (q : List Item) → s.queue ≡ q → IsLawful s → IsLawful (handle s q)
handle_keeps s [] e l = ticked_keeps s l
handle_keeps s (i ∷ q) e l =
    let same : (s.handled ++ i ∷ []) ++ q ≡ s.handled ++ s.queue = append_assoc s.handled (i ∷ []) q ∙ ap (λ x. s.handled ++ x) (sym e) in
    let longer = length-append s.handled (i ∷ []) in
    let p = l.published in
    record {
      eight = l.eight;
      each = λ v h. ap (own v) same ∙ l.each v h;
      none_else = ap (list_all (λ (i : Item). is_worker i.worker)) same ∙ l.none_else;
      published = omega arith;
      seen = l.seen;
      after = subst (StandsAfter 0) (sym same) l.after;
      most = λ v h. let t = l.most v h in let n = l.seen v h in
          (t.0, t.1 ∙ ap (λ x. own v x ++ t.0) (sym (take-append-le (seen_at s v) s.handled (i ∷ []) (omega arith))), t.2);
    }

look_between : (seen : List ℕ) (w v p : ℕ) (b : Bool) → eqb w v ≡ b → 1 ≤ w → w ≤ 8 → 1 ≤ v → length seen ≡ 8 → get_or seen (v - 1) 0 ≤ p
    → (get_or seen (v - 1) 0 ≤ get_or (set seen (w - 1) p) (v - 1) 0) × (get_or (set seen (w - 1) p) (v - 1) 0 ≤ p)
look_between seen w v p true e low high low' long le = let q = seen_put seen w v p true e low high low' long in (omega arith, omega arith)
look_between seen w v p false e low high low' long le = let q = seen_put seen w v p false e low high low' long in (omega arith, omega arith)

pub look_keeps : (s : State) (w : ℕ) (b : Bool) → is_worker w ≡ b → IsLawful s
    → IsLawful (if b then record s { taken = s.taken + 1; seen = set s.seen (w - 1) s.published } else ticked s)
look_keeps s w false is l = ticked_keeps s l
look_keeps s w true is l =
    let iw = is_worker_tells w is in
    let S : State = record s { taken = s.taken + 1; seen = set s.seen (w - 1) s.published } in
    let p = l.published in
    let between : (v : ℕ) → is_worker v ≡ true → (seen_at s v ≤ seen_at S v) × (seen_at S v ≤ s.published) =
    λ v h. look_between s.seen w v s.published (eqb w v) refl iw.0 iw.1 (is_worker_tells v h).0 l.eight.1 (l.seen v h) in
    record {
      eight = (l.eight.0, length-set s.seen (w - 1) s.published ∙ l.eight.1);
      each = l.each;
      none_else = l.none_else;
      published = l.published;
      seen = λ v h. (between v h).1;
      after = l.after;
      most = λ v h. let t = l.most v h in let n = between v h in
          more_seen v (seen_at s v) (seen_at S v) s.handled s.queue (list_at s v) t.0 (l.each v h) n.0 (omega arith) t.1 t.2;
    }

pub step_keeps : (s : State) (e : Act) → IsLawful s → IsLawful (step s e)
step_keeps s (Submit w r) l = submit_keeps s w r (may_submit s w) refl l
step_keeps s Handle l = handle_keeps s s.queue refl l
step_keeps s Publish l = record {
  eight = l.eight;
  each = l.each;
  none_else = l.none_else;
  published = omega arith;
  seen = λ v h. let a = l.seen v h in let b = l.published in omega arith;
  after = l.after;
  most = l.most;
}
step_keeps s (Look w) l = look_keeps s w (is_worker w) refl l

Nils : List (List ℕ) → Type 0
Nils [] = Unit {0}
Nils (x ∷ xs) = (x ≡ []) × Nils xs

nil_at : (xs : List (List ℕ)) → Nils xs → (k : ℕ) → get_or xs k [] ≡ []
unfolding Nils
nil_at [] h k = refl
nil_at (x ∷ xs) h zero = h.0
nil_at (x ∷ xs) h (suc k) = nil_at xs h.1 k

Zeros : List ℕ → Type 0
Zeros [] = Unit {0}
Zeros (x ∷ xs) = (x ≡ 0) × Zeros xs

zero_at : (xs : List ℕ) → Zeros xs → (k : ℕ) → get_or xs k 0 ≡ 0
unfolding Zeros
zero_at [] h k = refl
zero_at (x ∷ xs) h zero = h.0
zero_at (x ∷ xs) h (suc k) = zero_at xs h.1 k

take_none : (n : ℕ) → take {A = Item} n [] ≡ []
take_none zero = refl
take_none (suc n) = refl

pub start_lawful : IsLawful start
unfolding Nils Zeros
start_lawful =
    let nils : (k : ℕ) → get_or start.submitted k [] ≡ [] = nil_at start.submitted (refl, (refl, (refl, (refl, (refl, (refl, (refl, (refl, tt)))))))) in
    let zeros : (k : ℕ) → get_or start.seen k 0 ≡ 0 = zero_at start.seen (refl, (refl, (refl, (refl, (refl, (refl, (refl, (refl, tt)))))))) in
    record {
      eight = (refl, refl);
      each = λ w h. sym (nils (w - 1));
      none_else = refl;
      published = omega arith;
      seen = λ w h. omega (arith, zeros (w - 1));
      after = tt;
      most = λ w h. ([], nils (w - 1) ∙ ap (λ x. own w x ++ []) (sym (take_none (get_or start.seen (w - 1) 0))), omega arith);
    }

pub fold_keeps : (s : State) (es : List Act) → IsLawful s → IsLawful (fold step s es)
fold_keeps s [] l = l
fold_keeps s (e ∷ es) l = fold_keeps (step s e) es (step_keeps s e l)

pub run_lawful : (es : List Act) → IsLawful (run es)
run_lawful es = fold_keeps start es start_lawful

handle-taken : (s : State) (q : List Item) → (handle s q).taken ≡ s.taken + 1
handle-taken s [] = refl
handle-taken s (i ∷ q) = refl

pub step-taken : (s : State) (e : Act) → (step s e).taken ≡ s.taken + 1
step-taken s (Submit w r) = elim (may_submit s w) as (λ b. (if b then submitted_by s w r else ticked s).taken ≡ s.taken + 1) [ true ↦ refl | false ↦ refl ]
step-taken s Handle = handle-taken s s.queue
step-taken s Publish = refl
step-taken s (Look w) = elim (is_worker w) as (λ b.
    (if b then record s { taken = s.taken + 1; seen = set s.seen (w - 1) s.published } else ticked s).taken ≡ s.taken + 1)
    [ true ↦ refl | false ↦ refl ]
