-- The ends of workers, in order.
use Rattle.std.proofs.Common.{◌≡◌, ℕ, suc, ◌+◌, List, [], ◌∷◌, ◌++◌, refl, sym, ap, ◌∙◌, subst, arith}
use Rattle.hall.specs.declared.messages.View.{View}
use Rattle.std.proofs.Common.{map}
use Rattle.std.proofs.lemmas.List.{map-append}
use Rattle.hall.specs.Serving.{Working, AreWorkers}
use Rattle.hall.specs.Queue.{IsHearing, worker_view, worker_views, joined}

pub views-more : (k : ℕ) → worker_views (k + 1) ≡ worker_views k ++ worker_view (k + 1) ∷ []
views-more k = let e : k + 1 ≡ suc k = omega arith in subst (λ n. worker_views n ≡ worker_views k ++ worker_view n ∷ []) (sym e) refl

pub hired : (k : ℕ) (all more : List Working) (w : Working) → AreWorkers k all → w.post ≡ worker_view (k + 1) → more ≡ all ++ w ∷ [] → AreWorkers (k + 1) more
hired k all more w a is e =
    ap (map (λ (x : Working). x.post)) e
    ∙ (map-append (λ (x : Working). x.post) all (w ∷ [])
    ∙ (ap (λ l. l ++ w.post ∷ []) a ∙ (ap (λ v. worker_views k ++ v ∷ []) is ∙ sym (views-more k))))

pub still-hearing : (v w : View) → w ≡ joined v → IsHearing v → v.got ≡ [] → (k : ℕ) → v.made ≡ k → IsHearing w × (w.got ≡ []) × (w.made ≡ k + 1)
still-hearing v w e h fresh k made = (
  (ap (λ (u : View). u.gets) e ∙ h.0, ap (λ (u : View). u.sends) e ∙ h.1),
  ap (λ (u : View). u.got) e ∙ fresh,
  ap (λ (u : View). u.made) e ∙ ap (λ n. n + 1) made,
)
