-- Going over clerks from the first on, for the first with a key.
use Rattle.std.proofs.Common.{◌≡◌, ◌∙◌, ◌+◌, ◌<◌, ◌≤◌, ℕ, List, ◌∷◌, length, drop, Bool, true, false, bytes_eq, get_or, ap, sym, Bor}
use Rattle.std.specs.Prelude.{Option, Some, None, is_some, MatchOption, if◌then◌else◌}
use Rattle.std.proofs.lemmas.Bool.{true≢false, false≢true}
use Rattle.std.proofs.lemmas.List.{drop_more, drop_all}
use Rattle.clerks.specs.Clerks.{clerk_of}
use Rattle.clerks.specs.declared.clerk.Clerk.{Clerk}

-- What was found is the first clerk with the key, or else that one is among those from the place on.
abbrev pub IsFoundBefore : List ℕ → List Clerk → ℕ → Option (Bor Clerk) → Type 0
IsFoundBefore shown all i found =
    MatchOption found (clerk_of shown all ≡ clerk_of shown (drop i all)) (λ clerk. clerk_of shown all ≡ Some clerk.now)

module _ (shown : List ℕ) (all : List Clerk) (i : ℕ) (c : Clerk) (is-next : c ≡ get_or all i c) (within : i < length all) where
  next : drop i all ≡ c ∷ drop (i + 1) all
  next = drop_more all i c within ∙ ap (λ (x : Clerk). x ∷ drop (i + 1) all) (sym is-next)

  pub found-here : (found : Option (Bor Clerk)) → is_some found ≡ false → bytes_eq shown c.key ≡ true → IsFoundBefore shown all i found
      → clerk_of shown all ≡ Some c
  unfolding clerk_of
  found-here None none is left = left ∙ (ap (clerk_of shown) next ∙ ap (λ (b : Bool). if b then Some c else clerk_of shown (drop (i + 1) all)) is)
  found-here (Some x) none is left = absurd (true≢false none)

  pub found-before : (found : Option (Bor Clerk)) → is_some found ≡ true → IsFoundBefore shown all i found → IsFoundBefore shown all (i + 1) found
  found-before None some left = absurd (false≢true some)
  found-before (Some x) some is = is

  pub not-found : (found : Option (Bor Clerk)) → bytes_eq shown c.key ≡ false → IsFoundBefore shown all i found → IsFoundBefore shown all (i + 1) found
  unfolding clerk_of
  not-found None isnt left = left ∙ (ap (clerk_of shown) next ∙ ap (λ (b : Bool). if b then Some c else clerk_of shown (drop (i + 1) all)) isnt)
  not-found (Some x) isnt is = is

pub found-of-all : (shown : List ℕ) (all : List Clerk) (i : ℕ) (found : Option (Bor Clerk)) → length all ≤ i → IsFoundBefore shown all i found
    → MatchOption found (clerk_of shown all ≡ None) (λ clerk. clerk_of shown all ≡ Some clerk.now)
unfolding clerk_of
found-of-all shown all i None past left = left ∙ ap (clerk_of shown) (drop_all i all past)
found-of-all shown all i (Some x) past is = is
