-- Pages ordered by patron.
use Rattle.std.proofs.Common.{◌≡◌, ℕ, ◌<◌, ◌==◌, Bool, true, false, cond, List, [], ◌∷◌, ◌++◌, map, fold, Ordering, Less, Equal, Greater}
use Rattle.std.proofs.Common.{Some, None, sym, refl, ap, ◌∙◌, subst, arith}
use Rattle.std.specs.BTreeMap.{insert_entry}
use Rattle.std.specs.Ordering.{is_eq, nat_cmp, match_ordering, MatchOrdering}
use Rattle.std.specs.Cmp.{ranks, unsigned_tied, nat_eq_equiv}
use Rattle.std.proofs.lemmas.Bool.{eqb-true}
use Rattle.std.specs.Arc.{arc_value}
use Rattle.std.specs.declared.sync.Arc.{Arc}
use Rattle.std.proofs.Common.{Global}
use Rattle.board.specs.declared.board.Update.{Update}
use Rattle.board.specs.declared.board.Update.TheVariants as update
use Rattle.desk.specs.declared.showing.OwnPage.{OwnPage}
use Rattle.board.specs.Showing.{Showing, page_at, put_page, overlaid, updated}
use Rattle.board.specs.Rule.{pages_of, are_pages}

-- The pages of the entries of the map.
pub map-put : {X Y : Type 0} (g : X → Y) (es : List (ℕ × X)) (p : ℕ) (x : X)
    → map (λ (e : ℕ × X). (e.0, g e.1)) (insert_entry nat_cmp es p x) ≡ insert_entry nat_cmp (map (λ (e : ℕ × X). (e.0, g e.1)) es) p (g x)
map-put g [] p x = refl
map-put {X} {Y} g (e ∷ es) p x = by (map-put g es p x) (nat_cmp p e.0)
  where
    f : ℕ × X → ℕ × Y
    f d = (d.0, g d.1)

    by : map f (insert_entry nat_cmp es p x) ≡ insert_entry nat_cmp (map f es) p (g x) → (r : Ordering)
        → map f (match_ordering r ((p, x) ∷ e ∷ es) ((e.0, x) ∷ es) (e ∷ insert_entry nat_cmp es p x))
        ≡ match_ordering r ((p, g x) ∷ f e ∷ map f es) ((e.0, g x) ∷ map f es) (f e ∷ insert_entry nat_cmp (map f es) p (g x))
    by rest Less = refl
    by rest Equal = refl
    by rest Greater = ap (λ l. f e ∷ l) rest

tied : (q p : ℕ) → is_eq (nat_cmp q p) ≡ (p == q)
tied q p = unsigned_tied q p ∙ nat_eq_equiv.symm q p

-- What is found at a patron once a page is put.
pub page-put : (es : List (ℕ × OwnPage)) (p : ℕ) (x : OwnPage) (q : ℕ) → page_at (put_page es p x) q ≡ cond (p == q) (Some x) (page_at es q)
page-put [] p x q = ap (λ b. cond b (Some x) None) (tied q p)
page-put (e ∷ es) p x q = by (page-put es p x q) (nat_cmp p e.0) refl
  where
    by : page_at (put_page es p x) q ≡ cond (p == q) (Some x) (page_at es q) → (r : Ordering) → nat_cmp p e.0 ≡ r
        → page_at (match_ordering r ((p, x) ∷ e ∷ es) ((e.0, x) ∷ es) (e ∷ insert_entry nat_cmp es p x)) q ≡ cond (p == q) (Some x)
        (page_at (e ∷ es) q)
    by rest Less h = ap (λ b. cond b (Some x) (page_at (e ∷ es) q)) (tied q p)
    by rest Equal h =
        let same : p ≡ e.0 = subst (λ (r : Ordering). MatchOrdering r (p < e.0) (p ≡ e.0) (e.0 < p)) h (ranks p e.0) in
        let t : is_eq (nat_cmp q e.0) ≡ (p == q) = ap (λ k. is_eq (nat_cmp q k)) (sym same) ∙ tied q p in
        ap (λ b. cond b (Some x) (page_at es q)) t
        ∙ (elim (p == q) as (λ b. cond b (Some x) (page_at es q) ≡ cond b (Some x) (cond b (Some e.1) (page_at es q))) [ true ↦ refl | false ↦ refl ]
        ∙ ap (λ c. cond (p == q) (Some x) (cond c (Some e.1) (page_at es q))) (sym t))
    by rest Greater h =
        let above : e.0 < p = subst (λ (r : Ordering). MatchOrdering r (p < e.0) (p ≡ e.0) (e.0 < p)) h (ranks p e.0) in
        ap (λ o. cond (is_eq (nat_cmp q e.0)) (Some e.1) o) rest ∙ (ap (λ b. cond b (Some e.1) (cond (p == q) (Some x) (page_at es q))) (tied q e.0)
        ∙ (apart (e.0 == q) (p == q) refl refl above ∙ ap (λ b. cond (p == q) (Some x) (cond b (Some e.1) (page_at es q))) (sym (tied q e.0))))
      where
        apart : (a b : Bool) → (e.0 == q) ≡ a → (p == q) ≡ b → e.0 < p
            → cond a (Some e.1) (cond b (Some x) (page_at es q)) ≡ cond b (Some x) (cond a (Some e.1) (page_at es q))
        apart true true s t lt = let u = eqb-true e.0 q s in let v = eqb-true p q t in absurd (omega (arith, u, v, lt))
        apart true false s t lt = refl
        apart false b s t lt = refl

-- Updates that are pages change the pages alone.
pub put-all : (x : Showing) (us : List Update) → are_pages us ≡ true
    → (fold updated x us ≡ record x { pages = (fold updated x us).pages })
    × ((q : ℕ) → page_at (fold updated x us).pages q ≡ overlaid (pages_of us) q (page_at x.pages q))
put-all x [] h = (refl, λ q. refl)
put-all x (update.Page patron page ∷ us) h =
    let next : Showing = record x { pages = put_page x.pages patron (arc_value page) } in
    let rest = put-all next us h in
    (rest.0, λ q. rest.1 q ∙ ap (overlaid (pages_of us) q) (page-put x.pages patron (arc_value page) q))
put-all x (update.Entry entry frames ∷ us) h = absurd (cc)

pub pages-more : (us us' : List Update) (p : ℕ) (a : Arc OwnPage Global) → us' ≡ us ++ update.Page p a ∷ [] → are_pages us ≡ true
    → (are_pages us' ≡ true) × (pages_of us' ≡ pages_of us ++ (p, arc_value a) ∷ [])
pages-more us us' p a e h = let m = more us h in (ap are_pages e ∙ m.0, ap pages_of e ∙ m.1)
  where
    more : (vs : List Update) → are_pages vs ≡ true → (are_pages (vs ++ update.Page p a ∷ []) ≡ true)
        × (pages_of (vs ++ update.Page p a ∷ []) ≡ pages_of vs ++ (p, arc_value a) ∷ [])
    more [] k = (refl, refl)
    more (update.Page q b ∷ vs) k = let m = more vs k in (m.0, ap (λ l. (q, arc_value b) ∷ l) m.1)
    more (update.Entry b frames ∷ vs) k = absurd (cc)
