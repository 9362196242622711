-- The lowest number for which a law fails.
use Rattle.std.proofs.Common.{◌≡◌, ◌≢◌, ◌⊎◌, ℕ, ◌+◌, ◌<◌, ◌≤◌, Bool, true, false, cond, Option, Some, None, List, length, take, get_or}
use Rattle.std.proofs.Common.{refl, sym, ◌∙◌, ap, subst, inl, inr, arith, true≢false}
use Rattle.std.specs.Prelude.{All}
use Rattle.std.proofs.lemmas.List.{length-take, take-take, get_or-take}
use Rattle.std.proofs.lemmas.List.Elements.{All-take, All-more}
use Rattle.std.proofs.lemmas.Bool.{cases_eq, cases_lt, ltb-true, ltb-false}
use Rattle.std.specs.Prelude.{nat_lt, not, ◌||◌}
use Rattle.circ_audit.specs.Sound.{IsLeastBroken, FailsFirst}
use Rattle.circ_audit.specs.declared.spans.SpanLook.{SpanLook}
use Rattle.circ_audit.specs.Spans.{span_of, lesser_of, earlier_of, is_after, is_passed, first_span, HoldsAfter, IsBelow, FailsOn, LooksAt}

-- One more number of which it doesn't hold: `Next` is the law after it.
pub fails-more : (Law Next : ℕ → Type 0) (first : Option ℕ) (n : ℕ) → ((m : ℕ) → Next m → Law m) → ((m : ℕ) → m ≢ n → Law m → Next m) → (Next n → ⊥)
    → FailsFirst Law first → FailsFirst Next (Some (lesser_of first n))
fails-more Law Next None n back on wrong all = record { broken = wrong; below = λ m lt. on m (λ e. omega (arith, lt, e)) (all m) }
fails-more Law Next (Some k) n back on wrong least = go (nat_lt n k) refl
  where
    go : (b : Bool) → nat_lt n k ≡ b → FailsFirst Next (Some (cond b n k))
    go true e = let lt : n < k = ltb-true n k e in
        record { broken = wrong; below = λ m below. on m (λ same. omega (arith, below, same)) (least.below m (omega (arith, below, lt))) }
    go false e = let le : k ≤ n = ltb-false n k e in
        record {
          broken = λ next. least.broken (back k next);
          below = λ m below. on m (λ same. omega (arith, below, same, le)) (least.below m below);
        }

-- The same law in other words.
pub fails-same : (Law Next : ℕ → Type 0) (first : Option ℕ) → ((m : ℕ) → Next m → Law m) → ((m : ℕ) → Law m → Next m) → FailsFirst Law first
    → FailsFirst Next first
fails-same Law Next None back on all = λ n. on n (all n)
fails-same Law Next (Some k) back on least = record { broken = λ next. least.broken (back k next); below = λ m lt. on m (least.below m lt) }

-- Of two laws together.
pub fails-both : (P Q : ℕ → Type 0) (a b : Option ℕ) → FailsFirst P a → FailsFirst Q b → FailsFirst (λ n. P n × Q n) (earlier_of a b)
fails-both P Q None None p q = λ n. (p n, q n)
fails-both P Q (Some k) None p q = record { broken = λ both. p.broken both.0; below = λ m lt. (p.below m lt, q m) }
fails-both P Q None (Some n) p q = record { broken = λ both. q.broken both.1; below = λ m lt. (p m, q.below m lt) }
fails-both P Q (Some k) (Some n) p q = go (nat_lt n k) refl
  where
    go : (b : Bool) → nat_lt n k ≡ b → FailsFirst (λ m. P m × Q m) (Some (cond b n k))
    go true e = let lt : n < k = ltb-true n k e in
        record { broken = λ both. q.broken both.1; below = λ m below. (p.below m (omega (arith, below, lt)), q.below m below) }
    go false e = let le : k ≤ n = ltb-false n k e in
        record { broken = λ both. p.broken both.0; below = λ m below. (p.below m below, q.below m (omega (arith, below, le))) }

-- ---- numbers after another one

-- What passes is right, where the number is after.
pub passed-right : (after : Option ℕ) (n : ℕ) (right : Bool) → is_after after n ≡ true → is_passed after n right ≡ true → right ≡ true
passed-right after n true is e = refl
passed-right after n false is e = let told : not (is_after after n) ≡ false = ap not is in absurd (true≢false (sym e ∙ told))

-- What is right there passes.
pub passed-if : (after : Option ℕ) (n : ℕ) (right : Bool) → (is_after after n ≡ true → right ≡ true) → is_passed after n right ≡ true
passed-if after n right law = go (is_after after n) refl
  where
    go : (b : Bool) → is_after after n ≡ b → is_passed after n right ≡ true
    go true is = ap (λ r. r || not (is_after after n)) (law is)
    go false is = past right
      where
        past : (right : Bool) → is_passed after n right ≡ true
        past true = refl
        past false = ap not is

-- What doesn't pass is after, and wrong.
pub passed-not : (after : Option ℕ) (n : ℕ) (right : Bool) → is_passed after n right ≡ false → (right ≡ false) × (is_after after n ≡ true)
passed-not after n true e = absurd (true≢false e)
passed-not after n false e = (refl, go (is_after after n) refl)
  where
    go : (b : Bool) → is_after after n ≡ b → is_after after n ≡ true
    go true is = is
    go false is = let told : not (is_after after n) ≡ true = ap not is in absurd (true≢false (sym told ∙ e))

-- No number of an earlier span than the first is after.
pub before-first : (Law : ℕ → Type 0) (after : Option ℕ) (m : ℕ) → span_of m < first_span after → HoldsAfter after Law m
before-first Law None m lt is = absurd (omega (arith, lt))
before-first Law (Some n) m lt is = let above : n < m = ltb-true n m is in absurd (omega (arith, lt, above))

-- ---- span by span

-- The same law in other words.
pub looks-same : (Law Next : ℕ → Type 0) (span : ℕ) (look : SpanLook) → ((m : ℕ) → Next m → Law m) → ((m : ℕ) → Law m → Next m) → LooksAt Law span look
    → LooksAt Next span look
looks-same Law Next span look back on looks = record {
  broken = fails-same (λ n. span_of n ≡ span → Law n) (λ n. span_of n ≡ span → Next n) look.broken (λ m law same. back m (law same))
      (λ m law same. on m (law same)) looks.broken;
  ahead = looks.ahead;
  between = λ n later below. on n (looks.between n later below);
}

module _ (Law : ℕ → Type 0) (span : ℕ) (before : (m : ℕ) → span_of m < span → Law m) where
  -- What is found on a span is the least of all, where the law holds of the spans before.
  pub found-on : (n : ℕ) → FailsOn Law span (Some n) → IsLeastBroken Law n
  found-on n least = go (cases_eq (span_of n) span)
    where
      go : (span_of n ≡ span) ⊎ (span_of n ≢ span) → IsLeastBroken Law n
      go (inr other) = absurd (least.broken (λ same. absurd (other same)))
      go (inl same) = record { broken = λ law. least.broken (λ _. law); below = below }
        where
          below : (m : ℕ) → m < n → Law m
          below m lt = at (cases_lt (span_of m) span)
            where
              at : (span_of m < span) ⊎ (span ≤ span_of m) → Law m
              at (inl earlier) = before m earlier
              at (inr le) = least.below m lt (omega (arith, le, same, lt))

  -- Where nothing is found on the span, the law holds of all spans before that of the next number.
  pub none-on : (next : Option ℕ) → ((n : ℕ) → span_of n ≡ span → Law n) → ((n : ℕ) → span < span_of n → IsBelow n next → Law n) → (n : ℕ)
      → IsBelow n next → Law n
  none-on next here between n below = go (cases_lt (span_of n) span) (cases_lt span (span_of n))
    where
      go : (span_of n < span) ⊎ (span ≤ span_of n) → (span < span_of n) ⊎ (span_of n ≤ span) → Law n
      go (inl earlier) c = before n earlier
      go (inr le) (inl later) = between n later below
      go (inr le) (inr ge) = here n (omega (arith, le, ge))

-- ---- row by row

module _ {R : Type 0} (rows : List R) (i : ℕ) (x : R) (lt : i < length rows) (is : x ≡ get_or rows i x) where
  -- What holds of the rows up to one more holds of those before it and of that one.
  pub all-before : (Q : R → Type 0) → All Q (take (i + 1) rows) → All Q (take i rows)
  all-before Q all = subst (All Q) (take-take i (i + 1) rows (omega arith)) (All-take Q i (take (i + 1) rows) all)

  pub all-last : (Q : R → Type 0) → All Q (take (i + 1) rows) → Q x
  all-last Q all = subst Q (get_or-take (i + 1) rows i x (omega arith) ∙ sym is) (all i x (simp length-take (omega (arith, lt))))

  pub all-with : (Q : R → Type 0) → All Q (take i rows) → Q x → All Q (take (i + 1) rows)
  all-with Q all here = All-more Q rows i x lt all (subst Q is here)

  -- The row breaks the law of its number, and of no other.
  pub row-breaks : (Q : ℕ → R → Type 0) (first : Option ℕ) (n : ℕ) → ((m : ℕ) → m ≢ n → Q m x) → (Q n x → ⊥)
      → FailsFirst (λ m. All (Q m) (take i rows)) first → FailsFirst (λ m. All (Q m) (take (i + 1) rows)) (Some (lesser_of first n))
  row-breaks Q first n others wrong before =
      fails-more (λ m. All (Q m) (take i rows)) (λ m. All (Q m) (take (i + 1) rows)) first n (λ m. all-before (Q m))
      (λ m other all. all-with (Q m) all (others m other))
      (λ all. wrong (all-last (Q n) all)) before

  -- The row breaks no law.
  pub row-keeps : (Q : ℕ → R → Type 0) (first : Option ℕ) → ((m : ℕ) → Q m x)
      → FailsFirst (λ m. All (Q m) (take i rows)) first → FailsFirst (λ m. All (Q m) (take (i + 1) rows)) first
  row-keeps Q first keeps before =
      fails-same (λ m. All (Q m) (take i rows)) (λ m. All (Q m) (take (i + 1) rows)) first (λ m. all-before (Q m))
      (λ m all. all-with (Q m) all (keeps m)) before

-- ---- what is found of a law

-- The law holds of every number where none is found.
pub none-found : (Law : ℕ → Type 0) (found : Option ℕ) → ((n : ℕ) → found ≡ Some n → ⊥) → FailsFirst Law found → (n : ℕ) → Law n
none-found Law None none all = all
none-found Law (Some k) none least = absurd (none k refl)

-- There is one least number of which it doesn't hold.
pub least-unique : (Law : ℕ → Type 0) (m n : ℕ) → IsLeastBroken Law m → IsLeastBroken Law n → m ≡ n
least-unique Law m n a b = go (cases_lt m n) (cases_lt n m)
  where
    go : (m < n) ⊎ (n ≤ m) → (n < m) ⊎ (m ≤ n) → m ≡ n
    go (inl lt) c = absurd (a.broken (b.below m lt))
    go (inr le) (inl lt) = absurd (b.broken (a.below n lt))
    go (inr le) (inr ge) = omega (arith, le, ge)
