-- Exactly the patrons who owe something are shown.
use Rattle.std.proofs.Common.{◌≡◌, ℕ, ◌<◌, ◌==◌, Bool, true, false, cond, ◌||◌, List, [], ◌∷◌, refl, sym, ◌∙◌, ap, subst, arith, nat_lt}
use Rattle.std.specs.Prelude.{Option, Some, None, is_none}
use Rattle.std.specs.Option.{option_or}
use Rattle.std.proofs.lemmas.Bool.{eqb-true, ltb-true, lt-ltb}
use Rattle.terms.specs.declared.command.Command.{Command}
use Rattle.terms.specs.declared.command.Command.TheVariants.{Patron, SetCardKey, AmendPatron}
use Rattle.model.proofs.Amending.{amended-is_none}
use Rattle.model.specs.History.{with_card_key, with_kind}
use Rattle.model.specs.History.{History, PatronFacts, patron_of, patron_after, patrons, patrons_after}
use Rattle.model.specs.Accounts.{account, charges, credits, owed}
use Rattle.model.specs.Requests.{IsLegal}
use Rattle.model.specs.Asking.{put_in, rising, debts_list}
use Rattle.model.specs.AskingLaws.{DebtsAreShown, has_number}
use Rattle.model.proofs.AccountLaws.{legal-AccountLaws}
use Rattle.model.proofs.Balance.{balance}
use Rattle.model.proofs.Members.{has, filter-passes, filter-has, or-right}

-- ---- members of a list that is made to rise

or-first : (x y : Bool) → x ≡ true → (x || y) ≡ true
or-first true y e = refl
or-first false y e = let never : ⊥ = cc in absurd never

or-once : (x y : Bool) → (x || y) ≡ (x || (x || y))
or-once true y = refl
or-once false y = refl

or-swap : (x y z : Bool) → (x || (y || z)) ≡ (y || (x || z))
or-swap true true z = refl
or-swap true false z = refl
or-swap false true z = refl
or-swap false false z = refl

put-has : (n p : ℕ) (xs : List ℕ) → has (put_in n xs) p ≡ ((n == p) || has xs p)
put-has n p [] = refl
put-has n p (m ∷ ms) = go (put-has n p ms) (nat_lt n m) (n == m) refl
  where
    go : has (put_in n ms) p ≡ ((n == p) || has ms p) → (x y : Bool) → (n == m) ≡ y
        → has (cond x (n ∷ m ∷ ms) (cond y (m ∷ ms) (m ∷ put_in n ms))) p ≡ ((n == p) || ((m == p) || has ms p))
    go ih true y e = refl
    go ih false true e =
        let same : n ≡ m = eqb-true n m e in
        subst (λ k. ((m == p) || has ms p) ≡ ((k == p) || ((m == p) || has ms p))) (sym same) (or-once (m == p) (has ms p))
    go ih false false e = ap (λ b. (m == p) || b) ih ∙ or-swap (m == p) (n == p) (has ms p)

pub rising-has : (xs : List ℕ) (p : ℕ) → has (rising xs) p ≡ has xs p
rising-has [] p = refl
rising-has (n ∷ ns) p = put-has n p (rising ns) ∙ ap (λ b. (n == p) || b) (rising-has ns p)

-- ---- patrons

-- Who is enrolled is among the patrons.
enrolled-step : (H : History) (x : Command) (p : ℕ) → (is_none (patron_of H p) ≡ false → has (patrons H) p ≡ true)
    → is_none (patron_after x p (patron_of H p)) ≡ false → has (patrons_after H x (patrons H)) p ≡ true
enrolled-step H (Patron n kind card_key name) p ih e = go (n == p) refl (is_none (patron_of H n)) refl (patron_of H p) refl e
  where
    go : (x : Bool) → (n == p) ≡ x → (y : Bool) → is_none (patron_of H n) ≡ y → (z : Option PatronFacts) → patron_of H p ≡ z
        → is_none (option_or z (cond x (Some (record { kind = kind; card_key = card_key; name = name })) None)) ≡ false
        → has (cond y (n ∷ patrons H) (patrons H)) p ≡ true
    go true f true g z i e = or-first (n == p) (has (patrons H) p) f
    go true f false g z i e = ih (subst (λ m. is_none (patron_of H m) ≡ false) (eqb-true n p f) g)
    go false f true g (Some r) i e = or-right (n == p) (has (patrons H) p) (ih (ap is_none i))
    go false f false g (Some r) i e = ih (ap is_none i)
    go false f y g None i e = let never : ⊥ = cc in absurd never
enrolled-step H (SetCardKey n card_key) p ih e = ih (sym (amended-is_none (n == p) (with_card_key card_key) (patron_of H p)) ∙ e)
enrolled-step H (AmendPatron n kind name) p ih e = ih (sym (amended-is_none (n == p) (with_kind kind name) (patron_of H p)) ∙ e)
enrolled-step H _ p ih e = ih e

pub enrolled-has : (H : History) (p : ℕ) → is_none (patron_of H p) ≡ false → has (patrons H) p ≡ true
enrolled-has [] p e = let never : ⊥ = cc in absurd never
enrolled-has (e ∷ H) p f = enrolled-step H e.command p (enrolled-has H p) f

-- A patron who owes something is enrolled.
owing-enrolled : (H : History) (p : ℕ) → IsLegal H → credits (account H p) < charges (account H p) → is_none (patron_of H p) ≡ false
owing-enrolled H p legal lt = go (patron_of H p) refl
  where
    go : (z : Option PatronFacts) → patron_of H p ≡ z → is_none z ≡ false
    go (Some r) e = refl
    go None e =
        let empty : account H p ≡ [] = (legal-AccountLaws H legal).strangers p e in
        let none : credits [] < charges [] = subst (λ xs. credits xs < charges xs) empty lt in
        let never : ⊥ = omega (arith, none) in absurd never

pub debts-are-shown : DebtsAreShown
debts-are-shown H legal p = (there, back)
  where
    there : has_number (debts_list H).numbers p → credits (account H p) < charges (account H p)
    there e =
        let some : 0 < owed H p = ltb-true 0 (owed H p) (filter-passes (λ q. nat_lt 0 (owed H q)) p (rising (patrons H)) e) in
        omega (arith, some, balance H p legal)

    back : credits (account H p) < charges (account H p) → has_number (debts_list H).numbers p
    back lt =
        let some : 0 < owed H p = omega (arith, lt, balance H p legal) in
        filter-has (λ q. nat_lt 0 (owed H q)) p (rising (patrons H)) (lt-ltb 0 (owed H p) some)
        (rising-has (patrons H) p ∙ enrolled-has H p (owing-enrolled H p legal lt))
