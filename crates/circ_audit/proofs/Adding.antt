-- Totals of a span's numbers, and the rows checked against them.
use Rattle.std.proofs.Common.{◌≡◌, ◌≢◌, ◌⊎◌, ℕ, ◌+◌, ◌*◌, ◌^◌, ◌<◌, ◌≤◌, Bool, true, false, cond, List, length, get_or, take, replicate}
use Rattle.std.proofs.Common.{Option, Some, None, refl, sym, ◌∙◌, ap, subst, inl, inr, eqb, arith}
use Rattle.std.specs.Prelude.{nat_lt, All, sum_by, IfSome}
use Rattle.std.proofs.lemmas.Bool.{cases_lt, eqb-true, eq-eqb, ltb-true, ltb-false}
use Rattle.std.proofs.lemmas.List.{length-replicate, get_or-replicate, get_or_past}
use Rattle.std.proofs.lemmas.List.Sums.{sum_by_more}
use Rattle.terms.specs.declared.row.LineRow.{LineRow}
use Rattle.terms.specs.declared.row.PatronRow.{PatronRow}
use Rattle.circ_audit.specs.declared.balance.Totals.{Totals}
use Rattle.circ_audit.specs.declared.spans.SpanLook.{SpanLook}
use Rattle.circ_audit.specs.Spans.{span_of, place_of, lesser_of, IsBelow, FailsOn, LooksAt, Sums, AreWithin, Adds, AddsRows, broken_after}
use Rattle.circ_audit.specs.Spans.{next_after, is_after, is_passed, is_right, LooksAtRows}
use Rattle.circ_audit.proofs.Firsts.{fails-more, fails-same, passed-right, passed-not, all-before, all-last, all-with}

-- A list of nothing but zeros.
pub zero-at : (size k : ℕ) → ◌≡◌ {A = ℕ} (get_or (replicate size 0) k 0) 0
zero-at size k = go (cases_lt k size)
  where
    go : (k < size) ⊎ (size ≤ k) → ◌≡◌ {A = ℕ} (get_or (replicate size 0) k 0) 0
    go (inl lt) = get_or-replicate size k 0 0 lt
    go (inr le) = get_or_past (replicate size 0) k 0 (simp length-replicate le)

-- The same amounts in other words.
pub adds-same : (f g : ℕ → ℕ) (old new : Totals) → ((n : ℕ) → f n ≡ g n) → Adds f old new → Adds g old new
adds-same f g old new same adds = record {
  span = adds.span;
  sums = λ sum sums n on. adds.sums sum sums n on ∙ ap (λ m. sum n + m) (same n);
  within = adds.within;
}

-- Nothing was added.
pub adds-nothing : (f : ℕ → ℕ) (w : Totals) → ((n : ℕ) → f n ≡ 0) → Adds f w w
adds-nothing f w none = record {
  span = refl;
  sums = λ sum sums n on. sums n on ∙ (let z : f n ≡ 0 = none n in omega (arith, z));
  within = λ most within k. let le = within k in omega (arith, le);
}

-- One row more.
pub adds-more : (amount : LineRow → ℕ → ℕ) (rows : List LineRow) (i : ℕ) (r : LineRow) (old mid new : Totals) → i < length rows → r ≡ get_or rows i r
    → AddsRows amount (take i rows) old mid → Adds (amount r) mid new → AddsRows amount (take (i + 1) rows) old new
adds-more amount rows i r old mid new lt is before one = record {
  span = one.span ∙ before.span;
  sums = λ sum sums n on.
      one.sums (λ m. sum m + sum_by (λ q. amount q m) (take i rows)) (before.sums sum sums) n on
      ∙ (let more : sum_by (λ q. amount q n) (take (i + 1) rows) ≡ sum_by (λ q. amount q n) (take i rows) + amount
      (get_or rows i r) n = sum_by_more (λ q. amount q n) rows i r lt in
      let same : amount r n ≡ amount (get_or rows i r) n = ap (λ (q : LineRow). amount q n) is in
      omega (arith, more, same));
}

-- No total passes what so many rows can add.
pub within-more : (amount : ℕ → ℕ) (i : ℕ) (mid new : Totals) → AreWithin (i * 2 ^ 64) mid → Adds amount mid new → AreWithin ((i + 1) * 2 ^ 64) new
within-more amount i mid new within adds k = let le = adds.within (i * 2 ^ 64) within k in omega (arith, le)

-- ---- patrons

module _ (after : Option ℕ) (charges credits : Totals) (charged credited : ℕ → ℕ) (charges_are : Sums charges charged) (credits_are : Sums credits credited)
    (one_span : credits.span ≡ charges.span) where
  -- The row owes the difference, if it is of this patron, who comes after.
  abbrev Owes : ℕ → PatronRow → Type 0
  Owes n r = r.patron ≡ n → is_after after r.patron ≡ true → r.owed + credited n ≡ charged n

  -- It is right by the totals, or doesn't come after.
  abbrev passes : PatronRow → Bool
  passes r = is_passed after r.patron (is_right r charges credits)

  owes-other : (r : PatronRow) (m : ℕ) → m ≢ r.patron → Owes m r
  owes-other r m other same = absurd (other (sym same))

  -- On the span, the row is right by the totals exactly if it owes the difference.
  right-owes : (r : PatronRow) → span_of r.patron ≡ charges.span → passes r ≡ true → (m : ℕ) → Owes m r
  right-owes r on pass m same is =
      let right : is_right r charges credits ≡ true = passed-right after r.patron (is_right r charges credits) is pass in
      let equal : r.owed + get_or credits.sums (place_of r.patron) 0 ≡ get_or charges.sums (place_of r.patron) 0 = eqb-true _ _ right in
      let c : get_or credits.sums (place_of r.patron) 0 ≡ credited r.patron = credits_are r.patron (on ∙ sym one_span) in
      let d : get_or charges.sums (place_of r.patron) 0 ≡ charged r.patron = charges_are r.patron on in
      let here : r.owed + credited r.patron ≡ charged r.patron = omega (arith, equal, c, d) in
      subst (λ (n : ℕ). r.owed + credited n ≡ charged n) same here

  wrong-owes : (r : PatronRow) → span_of r.patron ≡ charges.span → passes r ≡ false → Owes r.patron r → ⊥
  wrong-owes r on fails owes =
      let both : (is_right r charges credits ≡ false) × (is_after after r.patron ≡ true) = passed-not after r.patron (is_right r charges credits) fails in
      let wrong : is_right r charges credits ≡ false = both.0 in
      let c : get_or credits.sums (place_of r.patron) 0 ≡ credited r.patron = credits_are r.patron (on ∙ sym one_span) in
      let d : get_or charges.sums (place_of r.patron) 0 ≡ charged r.patron = charges_are r.patron on in
      let here : r.owed + credited r.patron ≡ charged r.patron = owes refl both.1 in
      let equal : r.owed + get_or credits.sums (place_of r.patron) 0 ≡ get_or charges.sums (place_of r.patron) 0 = omega (arith, here, c, d) in
      let right : is_right r charges credits ≡ true = eq-eqb _ _ equal in
      let never : ⊥ = cc in never

  module _ (rows : List PatronRow) (i : ℕ) (r : PatronRow) (lt : i < length rows) (is : r ≡ get_or rows i r) (old new : SpanLook)
      (broken : new.broken ≡ broken_after charges.span (passes r) r.patron old.broken)
      (next : new.next ≡ next_after charges.span r.patron old.next)
      (before : LooksAt (λ n. All (Owes n) (take i rows)) charges.span old) where
    -- The law of the rows up to this one.
    abbrev Next : ℕ → Type 0
    Next n = All (Owes n) (take (i + 1) rows)

    back : (m : ℕ) → Next m → All (Owes m) (take i rows)
    back m = all-before rows i r lt is (Owes m)

    on-other : (m : ℕ) → m ≢ r.patron → All (Owes m) (take i rows) → Next m
    on-other m other all = all-with rows i r lt is (Owes m) all (owes-other r m other)

    broken-more : FailsOn Next charges.span new.broken
    broken-more = subst (λ (o : Option ℕ). FailsOn Next charges.span o) (sym broken)
        (go (eqb (span_of r.patron) charges.span) refl (passes r) refl)
      where
        kept : ((m : ℕ) → span_of m ≡ charges.span → Owes m r) → FailsOn Next charges.span old.broken
        kept keeps = fails-same (λ n. span_of n ≡ charges.span → All (Owes n) (take i rows))
            (λ n. span_of n ≡ charges.span → Next n) old.broken (λ m law on. back m (law on))
            (λ m law on. all-with rows i r lt is (Owes m) (law on) (keeps m on)) before.broken

        go : (b : Bool) → eqb (span_of r.patron) charges.span ≡ b → (right : Bool) → passes r ≡ right
            → FailsOn Next charges.span (cond b (cond right old.broken (Some (lesser_of old.broken r.patron))) old.broken)
        go false e right f = kept (λ m on same is. let yes' : eqb (span_of r.patron) charges.span ≡ true = eq-eqb _ _
            (ap span_of same ∙ on) in let never : ⊥ = cc in absurd never)
        go true e true f = kept (λ m on. right-owes r (eqb-true _ _ e) f m)
        go true e false f =
            fails-more (λ n. span_of n ≡ charges.span → All (Owes n) (take i rows))
            (λ n. span_of n ≡ charges.span → Next n) old.broken r.patron (λ m law on. back m (law on))
            (λ m other law on. on-other m other (law on))
            (λ law. wrong-owes r (eqb-true _ _ e) f (all-last rows i r lt is (Owes r.patron) (law (eqb-true _ _ e)))) before.broken

    -- The next number, with this one.
    next-more : (o : Option ℕ) → ((n : ℕ) → charges.span < span_of n → IsBelow n o → All (Owes n) (take i rows)) → IfSome o (λ n. charges.span < span_of n)
        → IfSome (next_after charges.span r.patron o) (λ n. charges.span < span_of n)
        × ((n : ℕ) → charges.span < span_of n → IsBelow n (next_after charges.span r.patron o) → Next n)
    next-more o between ahead = go (nat_lt charges.span (span_of r.patron)) refl
      where
        go : (b : Bool) → nat_lt charges.span (span_of r.patron) ≡ b
            → IfSome (cond b (Some (lesser_of o r.patron)) o) (λ n. charges.span < span_of n)
            × ((n : ℕ) → charges.span < span_of n → IsBelow n (cond b (Some (lesser_of o r.patron)) o) → Next n)
        go false e = (
          ahead,
          λ n later below. on-other n
              (λ same. let le : span_of r.patron ≤ charges.span = ltb-false _ _ e in let at : span_of n ≡ span_of r.patron = ap span_of
              same in omega (arith, later, le, at)) (between n later below),
        )
        go true e = sooner o between ahead (ltb-true _ _ e)
          where
            sooner : (o : Option ℕ) → ((n : ℕ) → charges.span < span_of n → IsBelow n o → All (Owes n) (take i rows))
                → IfSome o (λ n. charges.span < span_of n) → charges.span < span_of r.patron
                → (charges.span < span_of (lesser_of o r.patron)) × ((n : ℕ) → charges.span < span_of n → n < lesser_of o r.patron → Next n)
            sooner None between ahead later = (later, λ n on below. on-other n (λ same. omega (arith, below, same)) (between n on tt))
            sooner (Some k) between ahead later = at (nat_lt r.patron k) refl
              where
                at : (b : Bool) → nat_lt r.patron k ≡ b → (charges.span < span_of (cond b r.patron k))
                    × ((n : ℕ) → charges.span < span_of n → n < cond b r.patron k → Next n)
                at true f = let less : r.patron < k = ltb-true _ _ f in
                    (later, λ n on below. on-other n (λ same. omega (arith, below, same)) (between n on (omega (arith, below, less))))
                at false f = let le : k ≤ r.patron = ltb-false _ _ f in
                    (ahead, λ n on below. on-other n (λ same. omega (arith, below, same, le)) (between n on below))

    -- One row of a patron more was looked at.
    pub looked-more : LooksAt Next charges.span new
    looked-more = record {
      broken = broken-more;
      ahead = subst (λ (o : Option ℕ). IfSome o (λ n. charges.span < span_of n)) (sym next)
          (n.0);
      between = subst (λ (o : Option ℕ). (n : ℕ) → charges.span < span_of n → IsBelow n o → Next n) (sym next) (n.1);
    }
      where
        n : IfSome (next_after charges.span r.patron old.next) (λ n. charges.span < span_of n)
            × ((n : ℕ) → charges.span < span_of n → IsBelow n (next_after charges.span r.patron old.next) → Next n)
        n = next-more old.next before.between before.ahead

-- One row of a patron more was looked at.
pub rows-more : (after : Option ℕ) (rows : List PatronRow) (i : ℕ) (r : PatronRow) (charges credits : Totals) (old new : SpanLook) → i < length rows
    → r ≡ get_or rows i r
    → new.broken ≡ broken_after charges.span (is_passed after r.patron (is_right r charges credits)) r.patron old.broken
    → new.next ≡ next_after charges.span r.patron old.next
    → LooksAtRows after (take i rows) charges credits old → LooksAtRows after (take (i + 1) rows) charges credits new
rows-more after rows i r charges credits old new lt is broken next before charged credited charges_are credits_are one_span =
    looked-more after charges credits charged credited charges_are credits_are one_span rows i r lt is old new broken next
    (before charged credited charges_are credits_are one_span)
