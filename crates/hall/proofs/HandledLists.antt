-- What was handled, and what a worker submitted.
use Rattle.std.proofs.Common.{◌≡◌, ℕ, ◌+◌, ◌≤◌, true, false, true≢false, cond, List, [], ◌∷◌, ◌++◌, length, take, drop, sym, refl, ap, ◌∙◌}
use Rattle.std.proofs.Common.{eqb, arith, length-append}
use Rattle.std.proofs.lemmas.Bool.Decides.{nat_tests}
use Rattle.std.proofs.lemmas.List.{append-nil, take-append-drop, take-append-le, drop-append-le, map-append}
use Rattle.std.proofs.Math.Seq.{take-append-add}
use Rattle.hall.specs.declared.messages.Submission.{Submission}
use Rattle.hall.specs.declared.messages.View.{View}
use Rattle.hall.specs.declared.messages.Message.{Message}
use Rattle.hall.specs.declared.messages.Message.TheVariants.{Submit, Leave}
use Rattle.hall.specs.Queue.{from, AreFrom, of, is_open, submissions, own, handled, unhandled, requests, sent_more, AreFirst}
use Rattle.hall.proofs.Turns.{of-append}

pub submissions-append : (xs ys : List Message) → submissions (xs ++ ys) ≡ submissions xs ++ submissions ys
submissions-append [] ys = refl
submissions-append (Submit s ∷ xs) ys = ap (λ r. s ∷ r) (submissions-append xs ys)
submissions-append (Leave w ∷ xs) ys = submissions-append xs ys

own-append : (w : ℕ) (xs ys : List Submission) → own w (xs ++ ys) ≡ own w xs ++ own w ys
own-append w [] ys = refl
own-append w (s ∷ xs) ys = elim (eqb s.worker w) as (λ b. cond b (s ∷ own w (xs ++ ys)) (own w (xs ++ ys)) ≡ cond b (s ∷ own w xs)
    (own w xs) ++ own w ys) [ true ↦ ap (λ r. s ∷ r) (own-append w xs ys) | false ↦ own-append w xs ys ]

pub submissions_of : (w : ℕ) (ms : List Message) → submissions (of w ms) ≡ own w (submissions ms)
submissions_of w [] = refl
submissions_of w (Submit s ∷ ms) =
    elim (eqb s.worker w) as (λ b. submissions (cond b (Submit s ∷ of w ms) (of w ms)) ≡ cond b (s ∷ own w (submissions ms))
    (own w (submissions ms))) [ true ↦ ap (λ r. s ∷ r) (submissions_of w ms) | false ↦ submissions_of w ms ]
submissions_of w (Leave v ∷ ms) =
    elim (eqb v w) as (λ b. submissions (cond b (Leave v ∷ of w ms) (of w ms)) ≡ own w (submissions ms))
    [ true ↦ submissions_of w ms | false ↦ submissions_of w ms ]

drop_all : (xs : List Submission) → drop (length xs) xs ≡ []
drop_all [] = refl
drop_all (x ∷ xs) = drop_all xs

pub all_of : (xs : List Submission) → take (length xs) xs ≡ xs
all_of [] = refl
all_of (x ∷ xs) = ap (λ r. x ∷ r) (all_of xs)

pub first_of : (w n : ℕ) (got sent : List Message) → of w got ≡ sent → AreFirst w n got sent
first_of w n got sent is =
    let ss = submissions got in
    record {
      rest = own w (drop n ss);
      begins = sym (ap submissions is) ∙ (submissions_of w got ∙ (ap (own w) (sym (take-append-drop n ss)) ∙ own-append w (take n ss) (drop n ss)));
      all = λ e. ap (own w) (ap (λ k. drop k ss) e ∙ drop_all ss);
    }

open_front : (xs ys : List Message) → is_open xs ≡ false → is_open (xs ++ ys) ≡ false
open_front [] ys h = absurd (true≢false h)
open_front (Submit s ∷ xs) ys h = open_front xs ys h
open_front (Leave w ∷ xs) ys h = refl

open_back : (xs ys : List Message) → is_open ys ≡ false → is_open (xs ++ ys) ≡ false
open_back [] ys h = h
open_back (Submit s ∷ xs) ys h = open_back xs ys h
open_back (Leave w ∷ xs) ys h = refl

-- who has left stays so
pub gone_on : (w : ℕ) (got : List Message) (x : Message) → is_open (of w got) ≡ false → is_open (of w (got ++ x ∷ [])) ≡ false
gone_on w got x h = ap is_open (of-append w got (x ∷ [])) ∙ open_front (of w got) (of w (x ∷ [])) h

pub gone_now : (w : ℕ) (got : List Message) → is_open (of w (got ++ Leave w ∷ [])) ≡ false
gone_now w got =
    let e : eqb w w ≡ true = grind (arith, nat_tests) in
    let one : is_open (of w (Leave w ∷ [])) ≡ false = ap (λ b. is_open (cond b (Leave w ∷ []) [])) e in
    ap is_open (of-append w got (Leave w ∷ [])) ∙ open_back (of w got) (of w (Leave w ∷ [])) one

-- what was handled is the same after one more message
pub handled_same : (n : ℕ) (got : List Message) (x : Message) → n ≤ length (submissions got) → handled n (got ++ x ∷ []) ≡ handled n got
handled_same n got x le = ap (take n) (submissions-append got (x ∷ [])) ∙ take-append-le n (submissions got) (submissions (x ∷ [])) le

pub handled_more : (n : ℕ) (got : List Message) (s : Submission) → n ≡ length (submissions got)
    → handled (n + 1) (got ++ Submit s ∷ []) ≡ handled n got ++ s ∷ []
handled_more n got s e =
    ap (take (n + 1)) (submissions-append got (Submit s ∷ []))
    ∙ (ap (λ k. take (k + 1) (submissions got ++ s ∷ [])) e
    ∙ (take-append-add (submissions got) (s ∷ []) 1
    ∙ ap (λ l. l ++ s ∷ []) (sym (ap (λ k. take k (submissions got)) e ∙ all_of (submissions got)))))

pub count_submit : (got : List Message) (s : Submission) → length (submissions (got ++ Submit s ∷ [])) ≡ length (submissions got) + 1
count_submit got s = ap length (submissions-append got (Submit s ∷ [])) ∙ length-append (submissions got) (s ∷ [])

pub count_leave : (got : List Message) (w : ℕ) → length (submissions (got ++ Leave w ∷ [])) ≡ length (submissions got)
count_leave got w = ap length (submissions-append got (Leave w ∷ [])) ∙ (length-append (submissions got) [] ∙ omega arith)

-- one more submission was received, and not handled: it is the last of the rest
pub unhandled_more : (n m : ℕ) (got got' : List Message) (s : Submission) → got' ≡ got ++ Submit s ∷ [] → m ≡ n → n ≤ length (submissions got)
    → unhandled m got' ≡ unhandled n got ++ s ∷ []
unhandled_more n m got got' s e same le =
    ap (λ k. unhandled k got') same
    ∙ (ap (unhandled n) e ∙ (ap (drop n) (submissions-append got (Submit s ∷ [])) ∙ drop-append-le n (submissions got) (s ∷ []) le))

pub rest_more : (n m : ℕ) (got got' : List Message) (s : Submission) → got' ≡ got ++ Submit s ∷ [] → m ≡ n → n ≤ length (submissions got)
    → requests (unhandled m got') ≡ requests (unhandled n got) ++ s.request ∷ []
rest_more n m got got' s e same le =
    ap requests (unhandled_more n m got got' s e same le) ∙ map-append (λ (x : Submission). x.request) (unhandled n got) (s ∷ [])

-- where all were handled there is no rest
pub none_left : (n : ℕ) (got : List Message) → n ≡ length (submissions got) → unhandled n got ≡ []
none_left n got e = ap (λ k. drop k (submissions got)) e ∙ drop_all (submissions got)

pub no_rest : (n : ℕ) (got : List Message) → n ≡ length (submissions got) → requests (unhandled n got) ≡ []
no_rest n got e = ap requests (none_left n got e)

pub unhandled_kept : (n : ℕ) (got got' : List Message) (w : ℕ) → got' ≡ got ++ Leave w ∷ [] → unhandled n got' ≡ unhandled n got
unhandled_kept n got got' w e = ap (unhandled n) e ∙ ap (drop n) (submissions-append got (Leave w ∷ []) ∙ append-nil (submissions got))

pub rest_kept : (n : ℕ) (got got' : List Message) (w : ℕ) → got' ≡ got ++ Leave w ∷ [] → requests (unhandled n got') ≡ requests (unhandled n got)
rest_kept n got got' w e = ap requests (unhandled_kept n got got' w e)

-- one more submission was received, and not handled
pub submit_same : (n m : ℕ) (got got' : List Message) (s : Submission) → got' ≡ got ++ Submit s ∷ [] → m ≡ n → n ≤ length (submissions got)
    → (m ≤ length (submissions got')) × (requests (handled m got') ≡ requests (handled n got))
submit_same n m got got' s e same le =
    let long : length (submissions got') ≡ length (submissions got) + 1 = ap (λ x. length (submissions x)) e ∙ count_submit got s in
    (omega (arith, same), ap requests (ap (λ k. handled k got') same ∙ (ap (handled n) e ∙ handled_same n got (Submit s) le)))

-- one more submission was received, and handled
pub submit_more : (n m : ℕ) (got got' : List Message) (s : Submission) → got' ≡ got ++ Submit s ∷ [] → m ≡ n + 1 → n ≡ length (submissions got)
    → (m ≡ length (submissions got')) × (requests (handled m got') ≡ requests (handled n got) ++ s.request ∷ [])
submit_more n m got got' s e one whole =
    let long : length (submissions got') ≡ length (submissions got) + 1 = ap (λ x. length (submissions x)) e ∙ count_submit got s in
    let more : handled m got' ≡ handled n got ++ s ∷ [] = ap (λ k. handled k got') one ∙ (ap (handled (n + 1)) e ∙ handled_more n got s whole) in
    (omega (arith, one, whole), ap requests more ∙ map-append (λ (x : Submission). x.request) (handled n got) (s ∷ []))

pub leave_kept : (n : ℕ) (got got' : List Message) (w : ℕ) → got' ≡ got ++ Leave w ∷ [] → n ≤ length (submissions got)
    → (length (submissions got') ≡ length (submissions got)) × (handled n got' ≡ handled n got)
leave_kept n got got' w e le = (ap (λ x. length (submissions x)) e ∙ count_leave got w, ap (handled n) e ∙ handled_same n got (Leave w) le)

pub stays_gone : (got got' : List Message) (x : Message) → got' ≡ got ++ x ∷ [] → (w : ℕ) → is_open (of w got) ≡ false → is_open (of w got') ≡ false
stays_gone got got' x e w h = ap (λ l. is_open (of w l)) e ∙ gone_on w got x h

pub goes_now : (got got' : List Message) (w v : ℕ) → got' ≡ got ++ Leave v ∷ [] → w ≡ v → is_open (of w got') ≡ false
goes_now got got' w v e same = ap (λ l. is_open (of w l)) e ∙ (ap (λ k. is_open (of k (got ++ Leave v ∷ []))) same ∙ gone_now v got)

pub open_more : (xs : List Message) (s : Submission) → is_open xs ≡ true → is_open (xs ++ Submit s ∷ []) ≡ true
open_more [] s h = refl
open_more (Submit t ∷ xs) s h = open_more xs s h
open_more (Leave w ∷ xs) s h = absurd (true≢false (sym h))

-- the end of a worker after one more submission
pub posted : (v w : View) (s : Submission) (n : ℕ) → w ≡ sent_more v (Submit s) → is_open v.sent ≡ true → length v.sent ≡ n
    → (is_open w.sent ≡ true) × (length w.sent ≡ n + 1)
posted v w s n e opened long =
    let is : w.sent ≡ v.sent ++ Submit s ∷ [] = ap (λ (u : View). u.sent) e in
    (ap is_open is ∙ open_more v.sent s opened, ap length is ∙ (length-append v.sent (Submit s ∷ []) ∙ ap (λ k. k + 1) long))

-- one more message of a worker
pub from-more : (n : ℕ) (xs : List Message) (x : Message) → AreFrom n xs → 1 ≤ from x → from x ≤ n → AreFrom n (xs ++ x ∷ [])
from-more n [] x h a b = (a, b, tt)
from-more n (y ∷ ys) x h a b = (h.0, h.1, from-more n ys x h.2 a b)
