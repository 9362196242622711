-- SQL's equality of whole numbers and texts is equality.
use Rattle.std.proofs.Common.{◌≡◌, ℕ, ℤ, Bool, true, false, ◌||◌, cond, List, [], ◌∷◌, map, Ordering, Less, Equal, Greater, refl, sym, ap}
use Rattle.std.proofs.Common.{subst, ◌∙◌, true≢false, Some}
use Rattle.std.specs.List.{list_all}
use Rattle.std.specs.Ordering.{is_eq, is_ne, int_cmp, MatchOrdering}
use Rattle.std.proofs.lemmas.Bool.{and_parts, and_from}
use Rattle.std.proofs.lemmas.Cmp.{tied_itself, int_ranked}
use Rattle.std.specs.Prelude.{◌<ℤ◌}
use Rattle.std.proofs.lemmas.Slice.Eq.{bytes_eq-Decides}
use Rattle.std.proofs.lemmas.Map.Text.{is_eq-slice_cmp}
use Rattle.sqlite.specs.declared.types.Value.TheVariants.{Null, Int, Text, Real, Blob}
use Rattle.sqlite_value.specs.declared.value.Value.{Value}
use Rattle.sqlite_value.specs.Order.{value_cmp}
use Rattle.sqlite_value.specs.Keys.{plain, first_key}
use Rattle.sqlite_value.specs.declared.keys.Collation.TheVariants.{Binary}
use Rattle.sqlite_value.proofs.OrderLemmas.{value_cmp-Int, value_cmp-Text, value_cmp-apart, value_cmp_total}
use Rattle.sqlite.specs.Order.{Row, column}
use Rattle.sqlite_sql.specs.Ops.{binary, is_null, is_true, from_truth}
use Rattle.sqlite_schema.specs.Rules.{equal, differ, agree}
use Rattle.sql_maps.specs.Maps.{is_plain}

tied : (o : Ordering) → is_eq o ≡ true → o ≡ Equal
tied Less h = absurd (true≢false (sym h))
tied Equal h = refl
tied Greater h = absurd (true≢false (sym h))

same_int : (m n : ℤ) → is_eq (int_cmp m n) ≡ true → m ≡ n
same_int m n h = subst (λ o. MatchOrdering o (m <ℤ n) (m ≡ n) (n <ℤ m)) (tied _ h) (int_ranked m n (int_cmp m n) refl)

pub same_cmp : (a b : Value) → is_plain a ≡ true → is_plain b ≡ true → is_eq (value_cmp a b) ≡ true → a ≡ b
same_cmp (Int m) (Int n) p q h = ap Int (same_int m n (ap is_eq (sym (value_cmp-Int m n)) ∙ h))
same_cmp (Int m) (Text t) p q h = absurd (true≢false (sym h ∙ ap is_eq (value_cmp-apart (Int m) (Text t) (λ e. cc))))
same_cmp (Text t) (Int m) p q h = absurd (true≢false (sym h ∙ ap is_eq (value_cmp-apart (Text t) (Int m) (λ e. cc))))
same_cmp (Text s) (Text t) p q h = ap Text ((bytes_eq-Decides s t).0 (sym (is_eq-slice_cmp s t) ∙ ap is_eq (sym (value_cmp-Text s t)) ∙ h))
same_cmp Null b p q h = absurd (true≢false (sym p))
same_cmp (Real x) b p q h = absurd (true≢false (sym p))
same_cmp (Blob x) b p q h = absurd (true≢false (sym p))
same_cmp (Int m) Null p q h = absurd (true≢false (sym q))
same_cmp (Int m) (Real x) p q h = absurd (true≢false (sym q))
same_cmp (Int m) (Blob x) p q h = absurd (true≢false (sym q))
same_cmp (Text m) Null p q h = absurd (true≢false (sym q))
same_cmp (Text m) (Real x) p q h = absurd (true≢false (sym q))
same_cmp (Text m) (Blob x) p q h = absurd (true≢false (sym q))

plain_whole : (a : Value) → is_plain a ≡ true → is_null a ≡ false
plain_whole Null p = absurd (true≢false (sym p))
plain_whole (Int n) p = refl
plain_whole (Text t) p = refl
plain_whole (Real x) p = absurd (true≢false (sym p))
plain_whole (Blob x) p = absurd (true≢false (sym p))

pub equal_same : (a b : Value) → is_plain a ≡ true → is_plain b ≡ true → equal Binary a b ≡ true → a ≡ b
unfolding binary
equal_same a b p q h = same_cmp a b p q (went (is_eq (value_cmp a b)) (rw (plain_whole a p, plain_whole b q) at h))
  where
    went : (t : Bool) → is_true (from_truth (Some t)) ≡ true → t ≡ true
    went true h = refl
    went false h = h

pub same_equal : (a : Value) → is_plain a ≡ true → equal Binary a a ≡ true
unfolding binary
same_equal a p = rw (plain_whole a p, tied_itself value_cmp_total a)

pub same_differ : (a : Value) → differ a a ≡ false
unfolding binary
same_differ a = elim (is_null a || is_null a) as (λ b. is_true (cond b Null (from_truth (Some (is_ne (value_cmp a a))))) ≡ false)
    [ true ↦ refl | false ↦ rw (tied_itself value_cmp_total a) ]

pub not_differ : (a b : Value) → is_plain a ≡ true → is_plain b ≡ true → differ a b ≡ false → a ≡ b
unfolding binary
not_differ a b p q h = same_cmp a b p q (went (value_cmp a b) (rw (plain_whole a p, plain_whole b q) at h))
  where
    went : (o : Ordering) → is_true (from_truth (Some (is_ne o))) ≡ false → is_eq o ≡ true
    went Less h = sym h
    went Equal h = refl
    went Greater h = sym h

-- rows agree on plain keys exactly where the keys are the same
pub agree_same : (ps : List ℕ) (a b : Row) → list_all is_plain (map (column a) ps) ≡ true → list_all is_plain (map (column b) ps) ≡ true
    → agree plain ps a ps b ≡ true
    → map (column a) ps ≡ map (column b) ps
unfolding first_key
agree_same [] a b pa pb h = refl
agree_same (p ∷ ps) a b pa pb h =
    let parts = and_parts _ _ h in
    let one = and_parts _ _ pa in
    let two = and_parts _ _ pb in
    let first = equal_same (column a p) (column b p) one.0 two.0 parts.0 in
    let more = agree_same ps a b one.1 two.1 parts.1 in
    rw (first, more)

pub same_agree : (ps : List ℕ) (a b : Row) → list_all is_plain (map (column a) ps) ≡ true → map (column a) ps ≡ map (column b) ps → agree plain ps a ps b ≡ true
unfolding first_key
same_agree [] a b pa e = refl
same_agree (p ∷ ps) a b pa e =
    let one = and_parts _ _ pa in
    let first : column a p ≡ column b p = cc in
    let more : map (column a) ps ≡ map (column b) ps = cc in
    and_from _ _ (ap (equal Binary (column a p)) (sym first) ∙ same_equal (column a p) one.0) (same_agree ps a b one.1 more)
