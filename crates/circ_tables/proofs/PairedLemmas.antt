-- What holds of any table keyed by two columns.
use Rattle.std.proofs.Common.{◌≡◌, ◌+◌, ℕ, ℤ, true, length, List, [], ◌∷◌, map, Option, Some, Ok, refl, sym, ap, subst, ◌∙◌}
use Rattle.std.specs.List.{list_all}
use Rattle.sqlite.specs.declared.types.Value.TheVariants.{Int, Text}
use Rattle.sqlite.specs.Effect.{Database}
use Rattle.sqlite.specs.Given.{IsPlain}
use Rattle.sqlite.specs.Listing.{understood}
use Rattle.sqlite.specs.Order.{Row, column}
use Rattle.sqlite.specs.Schema.{Schema}
use Rattle.sqlite.specs.State.{State, ExecutesInside, Shown, IsUnchanged}
use Rattle.sqlite.specs.Table.{Table}
use Rattle.sqlite_value.specs.declared.value.Value.{Value}
use Rattle.sqlite_tied.specs.Listing.{each_column}
use Rattle.sql_maps.specs.Calls.{FindsRow}
use Rattle.sql_maps.specs.Maps.{is_plain, Maps, Holds, Steps, ListedBy, PairBelow, key_at, put_at, take_at}
use Rattle.sql_maps.proofs.CallLemmas.{put_steps, take_steps}
use Rattle.sql_maps.proofs.FillLemmas.{double_fills}
use Rattle.sql_maps.proofs.FindLemmas.{finds_two}
use Rattle.sql_maps.proofs.MapLemmas.{are_apart}
use Rattle.sql_maps.proofs.OrderLemmas.{sorted_found}
use Rattle.sql_maps.proofs.ReadLemmas.{get_row}
use Rattle.sql_maps.proofs.WriteLemmas.{Fills}
use Rattle.circ_tables.specs.Paired.{IsPaired, by_key, by_pair, put_terms, put_shows}
use Rattle.circ_tables.specs.Selections.{is_any}
use Rattle.circ_tables.specs.Shape.{closed_days, rules, kept, barcodes}
use Rattle.circ_tables.specs.Texts.{names_of, put_text, take_text, get_text, all_text}
use Rattle.circ_tables.proofs.ListLemmas.{pair_tells, pair_below}

module _ {s : Schema} {at : ℕ} {t : Table} (is : IsPaired s at t) where
  pub get_plain : (w : Schema) → w ≡ s → IsPlain (understood w (get_text t))
  get_plain w e = subst (λ z. IsPlain (understood z (get_text t))) (sym e) is.get.bare

  pub all_plain : (w : Schema) → w ≡ s → IsPlain (understood w (all_text t))
  all_plain w e = subst (λ z. IsPlain (understood z (all_text t))) (sym e) is.all.bare

  -- the columns of the key, as they are stored
  key_is : (r : Row) → key_at t r ≡ column r 1 ∷ column r 2 ∷ []
  key_is r = ap (map (column r)) is.primary

  -- the row of a key
  pub pair_gets : (a b : Value) → is_plain a ≡ true → is_plain b ≡ true → (old new : State) (o : Option Row)
      → FindsRow (get_text t) (a ∷ b ∷ []) old new o → (maps : Maps) → Holds s old.now maps → (maps at (a ∷ b ∷ []) ≡ o)
      × IsUnchanged old new
  pair_gets a b p q =
      get_row s at t is.fixed.listed by_key (each_column 1 t) (a ∷ b ∷ []) (a ∷ b ∷ []) (finds_two t a b is.primary p q)
      (is.shows (a ∷ b ∷ [])) (names_of t) (get_text t)
      is.get.command_is is.get.bare is.get.unlisted

  -- a row is put, and one is taken
  pub pair_puts : are_apart s.tables ≡ true → (a b : Value) (cells : Row)
      → Fills t cells (put_terms t) (put_shows t) (length t.columns + 1) (length t.columns) (a ∷ b ∷ []) cells
      → (old new : State) → (count : ℕ) × ExecutesInside 0 (put_text t) cells old new (Ok count) → Steps s old new (λ maps. put_at maps at (a ∷ b ∷ []) cells)
  pair_puts apart a b cells fills old new done =
      put_steps s apart at t is.fixed cells (put_terms t) (put_shows t) (length t.columns + 1) (length t.columns) (a ∷ b ∷ []) cells fills
      (put_text t) is.put.command_is is.put.bare old new done.0 done.1

  pub pair_takes : are_apart s.tables ≡ true → (a b : Value) → is_plain a ≡ true → is_plain b ≡ true → (old new : State) → (count : ℕ)
      × ExecutesInside 0 (take_text t) (a ∷ b ∷ []) old new (Ok count) → Steps s old new (λ maps. take_at maps at (a ∷ b ∷ []))
  pair_takes apart a b p q old new done =
      take_steps s at t is.fixed by_key (a ∷ b ∷ []) (a ∷ b ∷ []) (finds_two t a b is.primary p q) apart
      (take_text t) is.take.command_is is.take.bare old new done.0 done.1

  -- all rows
  pub pair_listed : (old new : State) (rows : List Row) → Shown (all_text t) [] old new rows → (maps : Maps) → Holds s old.now maps
      → ListedBy PairBelow (maps at) is_any rows × IsUnchanged old new
  pair_listed =
      sorted_found t [] by_pair [] is_any (λ r. refl) (is.shows []) PairBelow
      (λ x y p q _ _ tie.
      key_is x ∙ pair_tells (column x 1) (column x 2) (column y 1) (column y 2) (sym (ap (list_all is_plain) (key_is x)) ∙ p)
      (sym (ap (list_all is_plain) (key_is y)) ∙ q) tie ∙ sym (key_is y))
      (λ x y less. rw (is.first_cell x, is.first_cell y, is.second_cell x, is.second_cell y)
      (pair_below (column x 1) (column x 2) (column y 1) (column y 2) less))
      s at (names_of t) (all_text t) is.fixed.listed is.all.command_is is.all.bare is.all.unlisted

  -- a row is found under the columns of its key
  pub pair_keyed : (maps : Maps) (db : Database) → Holds s db maps → (k v : Row) → maps at k ≡ Some v → column v 0 ∷ column v 1 ∷ [] ≡ k
  pair_keyed maps db holds k v e =
      let r = (holds.tables at t is.fixed.listed).whole k v e in
      ap (λ w. column w 0 ∷ column w 1 ∷ []) (sym r.3) ∙ rw (is.first_cell r.0, is.second_cell r.0) (sym (key_is r.0)) ∙ r.2

-- ---- what a put fills

pub closed_day_fills : (a b : ℤ)
    → Fills closed_days (Int a ∷ Int b ∷ []) (put_terms closed_days) (put_shows closed_days) 3 2 (Int a ∷ Int b ∷ []) (Int a ∷ Int b ∷ [])
closed_day_fills a b = double_fills closed_days (Int a) (Int b) [] (put_terms closed_days)
    (put_shows closed_days) 3 2 refl refl refl refl refl refl (λ there rest. refl) (λ there r new p q. rw p refl) (λ there r new. refl)
    (λ id. refl)

pub rule_fills : (a b c d e f h : ℤ)
    → Fills rules (Int a ∷ Int b ∷ Int c ∷ Int d ∷ Int e ∷ Int f ∷ Int h ∷ []) (put_terms rules) (put_shows rules) 8 7 (Int a ∷ Int b ∷ [])
    (Int a ∷ Int b ∷ Int c ∷ Int d ∷ Int e ∷ Int f ∷ Int h ∷ [])
rule_fills a b c d e f h =
    double_fills rules (Int a) (Int b) (Int c ∷ Int d ∷ Int e ∷ Int f ∷ Int h ∷ []) (put_terms rules)
    (put_shows rules) 8 7 refl refl refl refl refl refl (λ there rest. refl) (λ there r new p q. rw (p, q) refl) (λ there r new. refl)
    (λ id. refl)

pub kept_fills : (a : ℤ) (b c d : List ℕ)
    → Fills kept (Int a ∷ Text b ∷ Text c ∷ Text d ∷ []) (put_terms kept) (put_shows kept) 5 4 (Int a ∷ Text b ∷ [])
    (Int a ∷ Text b ∷ Text c ∷ Text d ∷ [])
kept_fills a b c d = double_fills kept (Int a) (Text b) (Text c ∷ Text d ∷ []) (put_terms kept)
    (put_shows kept) 5 4 refl refl refl refl refl refl (λ there rest. refl) (λ there r new p q. rw (p, q) refl) (λ there r new. refl)
    (λ id. refl)

pub barcode_fills : (a b : ℤ) (c : List ℕ)
    → Fills barcodes (Int a ∷ Int b ∷ Text c ∷ []) (put_terms barcodes) (put_shows barcodes) 4 3 (Int a ∷ Int b ∷ []) (Int a ∷ Int b ∷ Text c ∷ [])
barcode_fills a b c = double_fills barcodes (Int a) (Int b) (Text c ∷ []) (put_terms barcodes)
    (put_shows barcodes) 4 3 refl refl refl refl refl refl (λ there rest. refl) (λ there r new p q. rw (p, q) refl) (λ there r new. refl)
    (λ id. refl)
