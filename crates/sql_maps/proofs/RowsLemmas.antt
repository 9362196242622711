-- What an edit of a table does to its rows.
use Rattle.std.proofs.Common.{◌≡◌, inl, inr, ℤ, Bool, true, false, not, List, [], ◌∷◌, refl, sym, ap, ◌∙◌, true≢false, Less}
use Rattle.std.proofs.lemmas.Bool.{and_parts}
use Rattle.sqlite.specs.Order.{Row}
use Rattle.sqlite_trees.specs.Tree.{rowid, has_rowid, put_row, without_rowid, IsTable}
use Rattle.sqlite_rules.specs.Lists.{Has}
use Rattle.sqlite_rules.specs.Edit.{without_all, put_all, numbered, have_rowids}
use Rattle.sqlite_rules.specs.declared.error.Rowids.TheVariants.{Given}
use Rattle.sqlite_trees.specs.declared.store.Shape as shape
use Rattle.sqlite_trees.specs.View.{IsShaped, is_int}
use Rattle.sqlite_trees.proofs.TreeLemmas.{IsShaped-put_row, IsShaped-filter}
use Rattle.sqlite_value.specs.Order.{value_cmp}
use Rattle.sqlite_value.proofs.OrderLemmas.{value_cmp_total}
use Rattle.sqlite_value.specs.declared.value.Value.{Value}
use Rattle.sqlite.specs.declared.types.Value.TheVariants.{Int}
use Rattle.std.specs.Ordering.{is_eq}
use Rattle.std.proofs.lemmas.Cmp.{tied_itself}
use Rattle.sql_maps.specs.Maps.{is_plain}
use Rattle.sql_maps.proofs.KeyLemmas.{same_cmp}
use Rattle.sqlite_rules.proofs.ListLemmas.{has_filtered, has_kept, all_has}
use Rattle.sqlite_rules.proofs.TableLemmas.{without_all_has, int_is}

pub not_false : (b : Bool) → b ≡ false → not b ≡ true
not_false b h = rw h

pub not_true : (b : Bool) → not b ≡ true → b ≡ false
not_true true h = absurd (true≢false (sym h))
not_true false h = refl

-- what is left has none of the rowids
pub left_apart : (ids : List ℤ) (rows : List Row) (x : Row) → Has (without_all rows ids) x → (id : ℤ) → Has ids id → has_rowid id x ≡ false
left_apart [] rows x h id in_ids = absurd in_ids
left_apart (i ∷ ids) rows x h id (inl same) =
    rw same (not_true _ (has_filtered (λ r. not (has_rowid i r)) rows x (without_all_has ids (without_rowid i rows) x h)).1)
left_apart (i ∷ ids) rows x h id (inr later) = left_apart ids (without_rowid i rows) x h id later

pub left_has : (ids : List ℤ) (rows : List Row) (x : Row) → Has rows x → ((id : ℤ) → Has ids id → has_rowid id x ≡ false) → Has (without_all rows ids) x
left_has [] rows x h apart = h
left_has (i ∷ ids) rows x h apart =
    left_has ids (without_rowid i rows) x (has_kept (λ r. not (has_rowid i r)) rows x h (not_false _ (apart i (inl refl)))) (λ id there. apart id (inr there))

pub numbered_given : (rows news : List Row) → numbered Given rows news ≡ news
numbered_given rows [] = refl
numbered_given rows (r ∷ news) = ap (λ l. r ∷ l) (numbered_given (put_row r rows) news)

pub shaped_left : (ids : List ℤ) (rows : List Row) → IsShaped shape.TheVariants.Table rows → IsShaped shape.TheVariants.Table (without_all rows ids)
shaped_left [] rows s = s
shaped_left (i ∷ ids) rows s = shaped_left ids (without_rowid i rows) (IsShaped-filter shape.TheVariants.Table (λ r. not (has_rowid i r)) rows s)

pub shaped_put : (news rows : List Row) → have_rowids news ≡ true → IsShaped shape.TheVariants.Table rows → IsShaped shape.TheVariants.Table (put_all rows news)
shaped_put [] rows keyed s = s
shaped_put (n ∷ news) rows keyed s = let parts = and_parts _ _ keyed in shaped_put news (put_row n rows) parts.1 (IsShaped-put_row n rows parts.0 s)

pub int_plain : (v : Value) → is_int v ≡ true → is_plain v ≡ true
int_plain v h = ap is_plain (int_is v h)

pub rowid_is : (id : ℤ) (x : Row) → is_int (rowid x) ≡ true → has_rowid id x ≡ true → rowid x ≡ Int id
rowid_is id x int h = same_cmp (rowid x) (Int id) (int_plain (rowid x) int) refl h

pub is_rowid : (id : ℤ) (x : Row) → rowid x ≡ Int id → has_rowid id x ≡ true
is_rowid id x e = ap (λ v. is_eq (value_cmp v (Int id))) e ∙ ap is_eq (tied_itself value_cmp_total (Int id))

pub int_at : (rows : List Row) (x : Row) → IsShaped shape.TheVariants.Table rows → Has rows x → is_int (rowid x) ≡ true
int_at rows x s h = all_has (λ r. is_int (rowid r) ≡ true) rows x s.1 h

-- a rowid names one row
pub one_row : (rows : List Row) (x y : Row) → IsTable rows → Has rows x → Has rows y → rowid x ≡ rowid y → x ≡ y
one_row [] x y s hx hy e = absurd hx
one_row (r ∷ rows) x y s (inl px) (inl py) e = px ∙ sym py
one_row (r ∷ rows) x y s (inl px) (inr hy) e = absurd (low (all_has (λ z. value_cmp (rowid r) (rowid z) ≡ Less) rows y s.0 hy))
  where
    low : value_cmp (rowid r) (rowid y) ≡ Less → ⊥
    low h = let same : rowid r ≡ rowid y = ap rowid (sym px) ∙ e in let tie = tied_itself value_cmp_total (rowid y) in let less = rw same at h in cc
one_row (r ∷ rows) x y s (inr hx) (inl py) e = absurd (low (all_has (λ z. value_cmp (rowid r) (rowid z) ≡ Less) rows x s.0 hx))
  where
    low : value_cmp (rowid r) (rowid x) ≡ Less → ⊥
    low h = let same : rowid r ≡ rowid x = ap rowid (sym py) ∙ sym e in let tie = tied_itself value_cmp_total (rowid x) in let less = rw same at h in cc
one_row (r ∷ rows) x y s (inr hx) (inr hy) e = one_row rows x y s.1 hx hy e
