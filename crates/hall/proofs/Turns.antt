-- Each move keeps the rule of the queue.
use Rattle.std.proofs.Common.{◌≡◌, ◌≢◌, ℕ, zero, suc, ◌+◌, ◌<◌, ◌≤◌, Bool, true, false, true≢false, cond, List, [], ◌∷◌, ◌++◌, length, set}
use Rattle.std.proofs.Common.{sym, refl, ap, ◌∙◌, subst, ⊎_elim, ◌⊎◌, inl, inr, append_assoc, eqb, arith}
use mathlib.Core.Option.{some, some-ne-none}
use lib.ListN.{get_elem?}
use Rattle.std.proofs.lemmas.Bool.Decides.{nat_tests, leb_tells}
use Rattle.crossbeam_channel.specs.Fifo.{Pushes, Pops, Forks, Merges, Learns}
use Rattle.atomic_table.proofs.Lists.{at_set, at_snoc}
use Rattle.hall.specs.declared.messages.Message.{Message}
use Rattle.hall.specs.declared.messages.Message.TheVariants.{Submit, Leave}
use Rattle.hall.specs.declared.messages.Sent.{Sent}
use Rattle.hall.specs.declared.messages.View.{View}
use Rattle.hall.specs.Queue.{from, of, is_open, HasNumber, Numbered, IsNext, AreHeard, desk_view, worker_view, spent, joined, taken_in}
use Rattle.hall.specs.Queue.{sent_more, got_more, FitsSender, HaveLeft, FitsReceiver, Carries}

at_end : (l : List View) (a b : View) (j : ℕ) → get_elem? l j ≢ some b → get_elem? (l ++ a ∷ []) j ≡ some b → j ≡ length l
at_end [] a b zero n e = refl
at_end [] a b (suc j) n e = absurd (some-ne-none b (sym e))
at_end (x ∷ xs) a b zero n e = absurd (n e)
at_end (x ∷ xs) a b (suc j) n e = ap suc (at_end xs a b j n e)

abbrev All : (ℕ → View → Type 0) → List View → Type 0
All F views = (pass : ℕ) (v : View) → get_elem? views pass ≡ some v → F pass v

all_set : (F : ℕ → View → Type 0) (views : List View) (pass : ℕ) (w : View) → F pass w
    → ((j : ℕ) (u : View) → j ≢ pass → get_elem? views j ≡ some u → F j u) → All F (set views pass w)
all_set F views pass w mine others j u e = ⊎_elim (λ (x : (j ≡ pass) × (w ≡ u)). subst (λ (y : ℕ × View). F y.0 y.1) (λ i. (sym x.0 i, x.1 i)) mine)
    (λ (x : (j ≢ pass) × (get_elem? views j ≡ some u)). others j u x.0 x.1) (at_set views pass j w u e)

pub of-append : (w : ℕ) (xs ys : List Message) → of w (xs ++ ys) ≡ of w xs ++ of w ys
of-append w [] ys = refl
of-append w (m ∷ xs) ys = elim (eqb (from m) w) as (λ b. cond b (m ∷ of w (xs ++ ys)) (of w (xs ++ ys)) ≡ cond b (m ∷ of w xs) (of w xs)
    ++ of w ys) [ true ↦ ap (λ r. m ∷ r) (of-append w xs ys) | false ↦ of-append w xs ys ]

pub numbered-append : (n : ℕ) (ms : List Message) (x : Message) → Numbered n ms → is_open ms ≡ true → HasNumber (n + length ms + 1) x
    → Numbered n (ms ++ x ∷ [])
numbered-append n [] (Submit s) h o x = (omega arith, tt)
numbered-append n [] (Leave w) h o x = refl
numbered-append n (Submit s ∷ ms) x h o is = (h.0, numbered-append (n + 1) ms x h.1 o (subst (λ k. HasNumber k x) (omega arith) is))
numbered-append n (Leave w ∷ ms) x h o is = absurd (true≢false (sym o))

not_nil : (ms : List Message) (x : Message) (rest : List Message) → ms ++ x ∷ rest ≡ [] → ⊥
not_nil [] x rest h = absurd (omega (arith, ap length h))
not_nil (m ∷ ms) x rest h = absurd (omega (arith, ap length h))

-- what stands before a message in a numbered list has no Leave, and gives the message its number
pub numbered_next : (n : ℕ) (ms : List Message) (x : Message) (rest : List Message) → Numbered n (ms ++ x ∷ rest) → (is_open ms ≡ true)
    × HasNumber (n + length ms + 1) x
numbered_next n [] (Submit s) rest h = (refl, omega (arith, h.0))
numbered_next n [] (Leave w) rest h = (refl, tt)
numbered_next n (Submit s ∷ ms) x rest h = let r = numbered_next (n + 1) ms x rest h.1 in (r.0, subst (λ k. HasNumber k x) (omega arith) r.1)
numbered_next n (Leave w ∷ ms) x rest h = absurd (not_nil ms x rest h)

of_one : (w : ℕ) (x : Message) → of w (x ∷ []) ≡ cond (eqb (from x) w) (x ∷ []) []
of_one w x = refl

-- the sent lists, after x was sent for w
abbrev sent_now : (ℕ → List Message) → ℕ → Message → ℕ → List Message
sent_now sent w x p = sent p ++ cond (eqb w p) (x ∷ []) []

append_nil : (xs : List Message) → xs ++ [] ≡ xs
append_nil [] = refl
append_nil (x ∷ xs) = ap (λ r. x ∷ r) (append_nil xs)

at_other : (w p : ℕ) (x : Message) (xs : List Message) → w ≢ p → xs ++ cond (eqb w p) (x ∷ []) [] ≡ xs
at_other w p x xs ne = let e : eqb w p ≡ false = grind (arith, nat_tests) in ap (λ b. xs ++ cond b (x ∷ []) []) e ∙ append_nil xs

at_same : (w : ℕ) (x : Message) (xs : List Message) → xs ++ cond (eqb w w) (x ∷ []) [] ≡ xs ++ x ∷ []
at_same w x xs = let e : eqb w w ≡ true = grind (arith, nat_tests) in ap (λ b. xs ++ cond b (x ∷ []) []) e

numbered_now : (sent : ℕ → List Message) (w : ℕ) (x : Message) (p : ℕ) (b : Bool) → eqb w p ≡ b → Numbered 0 (sent p)
    → is_open (sent w) ≡ true → HasNumber (length (sent w) + 1) x → Numbered 0 (sent p ++ cond b (x ∷ []) [])
numbered_now sent w x p false e h o is = subst (Numbered 0) (sym (append_nil (sent p))) h
numbered_now sent w x p true e h o is =
    let same : w ≡ p = grind (arith, nat_tests) in
    numbered-append 0 (sent p) x h (ap (λ q. is_open (sent q)) (sym same) ∙ o) (subst (λ k. HasNumber k x) (omega (arith, ap (λ q. length (sent q)) same)) is)

gone_still : (made : ℕ) (seat : ℕ → ℕ) (sent : ℕ → List Message) (w : ℕ) (x : Message) (hs : List Sent) → seat w ≢ 0
    → HaveLeft made seat sent hs → HaveLeft made seat (sent_now sent w x) hs
gone_still made seat sent w x [] ne h = tt
gone_still made seat sent w x (k ∷ hs) ne h =
    let apart : w ≢ k.worker = λ e. ne (ap seat e ∙ h.0.1) in
    ((h.0.0, h.0.1, h.0.2 ∙ sym (at_other w k.worker x (sent k.worker) apart)), gone_still made seat sent w x hs ne h.1)

pub begins : Carries [] (desk_view ∷ [])
begins = record {
  reader = 0;
  seat = λ w. 0;
  sent = λ w. [];
  got = [];
  whole = λ w. refl;
  numbered = λ w. tt;
  each = all_set (λ pass v. FitsSender (λ w. 0) (λ w. []) pass v × FitsReceiver 0 (λ w. 0) (λ w. []) [] pass v) (desk_view ∷ []) 0 desk_view
      ((λ e. absurd (true≢false (sym e))), λ e. (refl, refl, (λ w lt. (refl, refl)), tt))
      (λ j u other e. absurd (other (at_end [] desk_view u j (λ x. some-ne-none u (sym x)) e)));
}

pub sends : (n pass : ℕ) (v : View) (x : Message) → v.sends ≡ true → from x ≡ v.worker → is_open v.sent ≡ true
    → HasNumber (length v.sent + 1) x → Pushes Carries n pass v x (λ w. w ≡ sent_more v x)
sends n pass v x may mine opened next items views room h at =
    let me = (h.each pass v at).0 may in
    let w = v.worker in
    let some_seat : h.seat w ≢ 0 = λ e. absurd (omega (arith, me.0, e)) in
    let now = sent_now h.sent w x in
    let New : ℕ → View → Type 0 = λ j u. FitsSender h.seat now j u × FitsReceiver h.reader h.seat now h.got j u in
    let open' : is_open (h.sent w) ≡ true = ap is_open (sym me.1) ∙ opened in
    let next' : HasNumber (length (h.sent w) + 1) x = subst (λ (l : List Message). HasNumber (length l + 1) x) me.1 next in
    let whole : (p : ℕ) → of p (h.got ++ (items ++ x ∷ [])) ≡ now p = λ p.
    ap (of p) (sym (append_assoc h.got items (x ∷ [])))
    ∙ (of-append p (h.got ++ items) (x ∷ [])
    ∙ (ap (λ l. l ++ of p (x ∷ [])) (h.whole p) ∙ ap (λ k. h.sent p ++ cond (eqb k p) (x ∷ []) []) mine)) in
    let others : (u : View) (j : ℕ) → FitsReceiver h.reader h.seat h.sent h.got j u → FitsReceiver h.reader h.seat now h.got j u =
    λ u j old gets. let o = old gets in (
      o.0,
      o.1,
      (λ p lt. let q = o.2 p lt in (q.0, at_other w p x (h.sent p) (λ e. some_seat (ap h.seat e ∙ q.0)) ∙ q.1)),
      gone_still u.made h.seat h.sent w x u.heard some_seat o.3,
    ) in (
      sent_more v x,
      record {
        reader = h.reader;
        seat = h.seat;
        sent = now;
        got = h.got;
        whole = whole;
        numbered = λ p. numbered_now h.sent w x p (eqb w p) refl (h.numbered p) open' next';
        each = all_set New views pass (sent_more v x)
            ((λ _. (me.0, ap (λ l. l ++ x ∷ []) me.1 ∙ sym (at_same w x (h.sent w)))), others (sent_more v x) pass ((h.each pass v at).1))
            (λ j u other e. let old = h.each j u e in (
              (λ s. let q = old.0 s in (
                q.0,
                q.1
                    ∙ sym (at_other w u.worker x (h.sent u.worker) (λ same. other (omega (arith, q.0, me.0, ap h.seat same)))),
              )),
              others u j old.1,
            ));
      },
      refl,
    )

le_or_gt : (a b : ℕ) → (a ≤ b) ⊎ (b < a)
le_or_gt a b = elim (leb_tells a b) [ inl x ↦ inl x.1 | inr x ↦ inr x.1 ]

pub gets : (pass : ℕ) (v : View) → v.gets ≡ true → Pops Carries pass v (λ x w. (w ≡ got_more v x) × IsNext v.got x × (from x ≤ v.made))
gets pass v may x items views h at =
    let me = (h.each pass v at).1 may in
    let got = h.got ++ x ∷ [] in
    let New : ℕ → View → Type 0 = λ j u. FitsSender h.seat h.sent j u × FitsReceiver h.reader h.seat h.sent got j u in
    let p = from x in
    let here : of p (x ∷ items) ≡ x ∷ of p items = let e : eqb p p ≡ true = grind (arith, nat_tests) in ap (λ b. cond b (x ∷ of p items) (of p items)) e in
    let split : of p h.got ++ x ∷ of p items ≡ h.sent p = ap (λ l. of p h.got ++ l) (sym here) ∙ (sym (of-append p h.got (x ∷ items)) ∙ h.whole p) in
    let next = numbered_next 0 (of p h.got) x (of p items) (subst (Numbered 0) (sym split) (h.numbered p)) in
    let next' : IsNext h.got x = (next.0, subst (λ k. HasNumber k x) (omega arith) next.1) in
    let known : p ≤ v.made = elim (le_or_gt p v.made) [ inl le ↦ le | inr gt ↦ absurd (not_nil (of p h.got) x (of p items) (split ∙ (me.2 p gt).1)) ] in (
      got_more v x,
      record {
        reader = h.reader;
        seat = h.seat;
        sent = h.sent;
        got = got;
        whole = λ w. ap (of w) (append_assoc h.got (x ∷ []) items) ∙ h.whole w;
        numbered = h.numbered;
        each = all_set New views pass (got_more v x) ((h.each pass v at).0, λ _. (me.0, ap (λ l. l ++ x ∷ []) me.1, me.2, me.3))
            (λ j u other e. ((h.each j u e).0, λ g. absurd (other (((h.each j u e).1 g).0 ∙ sym me.0))));
      },
      (refl, subst (λ l. IsNext l x) (sym me.1) next', known),
    )

-- one more worker
abbrev seat_more : (ℕ → ℕ) → ℕ → ℕ → ℕ → ℕ
seat_more seat w n p = cond (eqb w p) n (seat p)

seat_other : (seat : ℕ → ℕ) (w n p : ℕ) → w ≢ p → seat_more seat w n p ≡ seat p
seat_other seat w n p ne = let e : eqb w p ≡ false = grind (arith, nat_tests) in ap (λ b. cond b n (seat p)) e

seat_same : (seat : ℕ → ℕ) (w n : ℕ) → seat_more seat w n w ≡ n
seat_same seat w n = let e : eqb w w ≡ true = grind (arith, nat_tests) in ap (λ b. cond b n (seat w)) e

gone_grown : (made : ℕ) (seat : ℕ → ℕ) (sent : ℕ → List Message) (n : ℕ) (hs : List Sent) → HaveLeft made seat sent hs
    → HaveLeft (made + 1) (seat_more seat (made + 1) n) sent hs
gone_grown made seat sent n [] h = tt
gone_grown made seat sent n (k ∷ hs) h = let le = h.0.0 in (
  (omega arith, seat_other seat (made + 1) n k.worker (λ e. absurd (omega (arith, e))) ∙ h.0.1, h.0.2),
  gone_grown made seat sent n hs h.1,
)

pub forks : (pass : ℕ) (v : View) → v.gets ≡ true → v.sends ≡ false → Forks Carries pass v (joined v) (worker_view (v.made + 1))
forks pass v may idle items views h at =
    let me = (h.each pass v at).1 may in
    let w = v.made + 1 in
    let vs : List View = set views pass (joined v) in
    let seat' = seat_more h.seat w (suc (length vs)) in
    let fresh : (h.seat w ≡ 0) × (h.sent w ≡ []) = me.2 w (omega arith) in
    let Old : ℕ → View → Type 0 = λ j u. (FitsSender h.seat h.sent j u) × FitsReceiver h.reader seat' h.sent h.got j u in
    let old : All Old vs = all_set Old views pass (joined v) (
      (h.each pass v at).0,
      λ _. (
        me.0,
        me.1,
        (λ p lt. let q = me.2 p (omega arith) in (seat_other h.seat w (suc (length vs)) p (λ e. absurd (omega (arith, e))) ∙ q.0, q.1)),
        gone_grown v.made h.seat h.sent (suc (length vs)) v.heard me.3,
      ),
    )
    (λ j u other e. ((h.each j u e).0, λ g. absurd (other (((h.each j u e).1 g).0 ∙ sym me.0)))) in
    let New : ℕ → View → Type 0 = λ j u. FitsSender seat' h.sent j u × FitsReceiver h.reader seat' h.sent h.got j u in
    record {
      reader = h.reader;
      seat = seat';
      sent = h.sent;
      got = h.got;
      whole = h.whole;
      numbered = h.numbered;
      each = λ j u e.
          ⊎_elim
          (λ (x : get_elem? vs j ≡ some u). let o = old j u x in (
            (λ s. let q = o.0 s in (
              seat_other h.seat w (suc (length vs)) u.worker
                  (λ same. absurd (omega (arith, q.0, fresh.0, ap h.seat same))) ∙ q.0,
              q.1,
            )),
            o.1,
          ))
          (λ (is : worker_view w ≡ u).
          let ends : j ≡ length vs = at_end vs (worker_view w) u j
          (λ x. absurd (omega (
            arith,
            ((old j u x).0 (ap (λ (y : View). y.sends) (sym is))).0,
            ap (λ (y : View). h.seat y.worker) is,
            fresh.0,
          ))) e in
          subst (New j) is ((λ _. (seat_same h.seat w (suc (length vs)) ∙ ap suc (sym ends), sym fresh.1)), λ g. absurd (true≢false (sym g))))
          (at_snoc vs (worker_view w) u j e);
    }

zero_or : (seat : ℕ → ℕ) (w p : ℕ) (b : Bool) → seat p ≡ 0 → cond b 0 (seat p) ≡ 0
zero_or seat w p true h = refl
zero_or seat w p false h = h

gone_shrunk : (made : ℕ) (seat : ℕ → ℕ) (sent : ℕ → List Message) (w : ℕ) (hs : List Sent) → HaveLeft made seat sent hs
    → HaveLeft made (seat_more seat w 0) sent hs
gone_shrunk made seat sent w [] h = tt
gone_shrunk made seat sent w (k ∷ hs) h = ((h.0.0, zero_or seat w k.worker (eqb w k.worker) h.0.1, h.0.2), gone_shrunk made seat sent w hs h.1)

pub merges : (pass : ℕ) (v : View) (other : ℕ) (u : View) → v.gets ≡ true → v.sends ≡ false → u.sends ≡ true → u.gets ≡ false
    → Merges Carries pass v other u (taken_in v u) spent
merges pass v other u may idle sends_ deaf items views h at two at' =
    let me = (h.each pass v at).1 may in
    let both : View = taken_in v u in
    let vs : List View = set views pass both in
    let was : get_elem? views other ≡ some u =
    ⊎_elim (λ (x : (other ≡ pass) × (both ≡ u)). absurd (two x.0)) (λ (x : (other ≢ pass) × (get_elem? views other ≡ some u)). x.1)
    (at_set views pass other both u at') in
    let theirs = (h.each other u was).0 sends_ in
    let w = u.worker in
    let seat' = seat_more h.seat w 0 in
    let known : w ≤ v.made = elim (le_or_gt w v.made) [ inl le ↦ le | inr gt ↦ absurd (omega (arith, (me.2 w gt).0, theirs.0)) ] in
    let Now : ℕ → View → Type 0 = λ j y. j ≢ other → FitsSender seat' h.sent j y × FitsReceiver h.reader seat' h.sent h.got j y in
    let now : All Now vs = all_set Now views pass both
    (λ _. (
      (λ s. absurd (true≢false (sym s ∙ idle))),
      λ _. (
        me.0,
        me.1,
        (λ p lt. let q = me.2 p lt in (zero_or h.seat w p (eqb w p) q.0, q.1)),
        ((known, seat_same h.seat w 0, theirs.1), gone_shrunk v.made h.seat h.sent w v.heard me.3),
      ),
    ))
    (λ j y apart e elsewhere. let o = h.each j y e in (
      (λ s. let q = o.0 s in (
        seat_other h.seat w 0 y.worker (λ same. elsewhere (omega (arith, q.0, theirs.0, ap h.seat same))) ∙ q.0,
        q.1,
      )),
      λ g. absurd (apart ((o.1 g).0 ∙ sym me.0)),
    )) in
    record {
      reader = h.reader;
      seat = seat';
      sent = h.sent;
      got = h.got;
      whole = h.whole;
      numbered = h.numbered;
      each = all_set (λ j y. FitsSender seat' h.sent j y × FitsReceiver h.reader seat' h.sent h.got j y) vs other spent
          ((λ s. absurd (true≢false (sym s))), λ g. absurd (true≢false (sym g))) (λ j y apart e. now j y e apart);
    }

heard_all : (made : ℕ) (seat : ℕ → ℕ) (sent : ℕ → List Message) (all : List Message) (hs : List Sent) → ((w : ℕ) → of w all ≡ sent w)
    → ((w : ℕ) → Numbered 0 (sent w)) → HaveLeft made seat sent hs → AreHeard all hs
heard_all made seat sent all [] whole numbered h = tt
heard_all made seat sent all (k ∷ hs) whole numbered h =
    ((whole k.worker ∙ sym h.0.2, subst (Numbered 0) (sym h.0.2) (numbered k.worker)), heard_all made seat sent all hs whole numbered h.1)

pub learns : (pass : ℕ) (v : View) → v.gets ≡ true → Learns Carries pass v (λ items. AreHeard (v.got ++ items) v.heard)
learns pass v may items views h at =
    let me = (h.each pass v at).1 may in
    heard_all v.made h.seat h.sent (v.got ++ items) v.heard (λ w. ap (λ l. of w (l ++ items)) me.1 ∙ h.whole w) h.numbered me.3

-- after a Leave there is nothing
pub nothing_after : (n : ℕ) (xs ys : List Message) → Numbered n (xs ++ ys) → is_open xs ≡ false → ys ≡ []
nothing_after n [] ys h o = absurd (true≢false o)
nothing_after n (Submit s ∷ xs) ys h o = nothing_after (n + 1) xs ys h.1 o
nothing_after n (Leave w ∷ []) ys h o = h
nothing_after n (Leave w ∷ (x ∷ xs)) ys h o = absurd (omega (arith, ap length h))

-- what was got of a worker that left is all that it sent
pub all_got : (w : ℕ) (got items sent : List Message) → of w (got ++ items) ≡ sent → Numbered 0 sent → is_open (of w got) ≡ false → of w got ≡ sent
all_got w got items sent is numbered closed =
    let split : of w got ++ of w items ≡ sent = sym (of-append w got items) ∙ is in
    let none : of w items ≡ [] = nothing_after 0 (of w got) (of w items) (subst (Numbered 0) (sym split) numbered) closed in
    sym (append_nil (of w got)) ∙ (ap (λ l. of w got ++ l) (sym none) ∙ split)

-- what the desk's pass learns where it takes in the pass of a worker that has left
pub taken_whole : (s u v : View) → v ≡ taken_in s u → (items : List Message) × AreHeard (v.got ++ items) v.heard
    → is_open (of u.worker s.got) ≡ false → of u.worker s.got ≡ u.sent
taken_whole s u v e f closed =
    let all : AreHeard (s.got ++ f.0) (taken_in s u).heard = subst (λ (x : View). AreHeard (x.got ++ f.0) x.heard) e f.1 in
    all_got u.worker s.got f.0 u.sent all.0.0 all.0.1 closed
