-- What is kept, met batch by batch, whether the tables show a picture or not.
use Rattle.std.proofs.Common.{◌≡◌, ℕ, ◌-◌, ◌<◌, ◌≤◌, ◌⊎◌, inl, inr, true, List, [], ◌∷◌, length, map, Less, is_eq, refl, sym, ◌∙◌, ap, subst, arith}
use Rattle.std.specs.Prelude.{Some, None, option_map, slice_get}
use Rattle.std.specs.List.{All}
use Rattle.std.specs.Ordering.{ordering_then}
use Rattle.std.proofs.lemmas.Bool.{and_parts, and_from}
use Rattle.std.proofs.lemmas.List.{length-map}
use Rattle.std.proofs.lemmas.List.Elements.{All-contains}
use Rattle.sqlite.specs.Effect.{Database}
use Rattle.sqlite.specs.Order.{Row, column}
use Rattle.sqlite.specs.declared.types.Value.TheVariants.{Text}
use Rattle.sqlite_value.specs.declared.keys.Collation.TheVariants.{Binary}
use Rattle.sqlite_value.specs.Order.{value_cmp}
use Rattle.sqlite_rules.specs.Lists.{Has}
use Rattle.sqlite_rules.proofs.ListLemmas.{contains_had, has_contained, has_got, all_has, all_from}
use Rattle.sqlite_rules.proofs.ProbeLemmas.{has_mapped, mapped_has}
use Rattle.sqlite_schema.specs.Rules.{equal}
use Rattle.sqlite_trees.specs.Tree.{IsAscending}
use Rattle.sql_maps.specs.Maps.{Maps, Holds, PairBelow, is_plain}
use Rattle.sql_maps.specs.Batches.{FirstRowsBy}
use Rattle.sql_maps.proofs.KeyLemmas.{same_cmp, same_equal}
use Rattle.terms.specs.Limits.{InLimits}
use Rattle.terms.specs.Orders.{Rise}
use Rattle.terms.specs.Pictures.{Picture}
use Rattle.terms.specs.declared.row.KeptRow.{KeptRow}
use Rattle.circ_tables.specs.Cells.{number, owner_number, kept_cells}
use Rattle.circ_tables.specs.Encoding.{Encodes}
use Rattle.circ_tables.specs.Kept.{kept, kept_are}
use Rattle.circ_tables.specs.Selections.{is_any, is_after, is_kept_after}
use Rattle.circ_tables.specs.Shape.{schema}
use Rattle.circ_tables.specs.TableSchemas.{has_first}
use Rattle.terms.specs.declared.limits.TheConstants.{SCHEMA}
use Rattle.circ_tables.specs.declared.by_number.TheConstants.{BATCH_ROWS}
use Rattle.circ_tables.proofs.CellLemmas.{same_if, from_alone, alone, above_from, above_if}
use Rattle.store.specs.Batches.{with_callers}
use Rattle.store.specs.Legal.{HasLegal, IsKeptBatch}
use Rattle.store.specs.Lists.{AreKeptByCaller}
use Rattle.store.proofs.CallerLemmas.{number_of, Climb, greatest, AreTakenFrom, all_taken}
use Rattle.store.proofs.ListLemmas.{then_less, first_or_second, owner_told, kept_told, kept_found, kept_stored}
use Rattle.store.proofs.BatchedRows.{empty_if}

-- The key of a stored row is of whole numbers and texts.
keys_plain : (db : Database) (maps : Maps) → Holds schema db maps → (k v : Row) → maps kept.place k ≡ Some v
    → (is_plain (column v 0) ≡ true) × (is_plain (column v 1) ≡ true)
keys_plain db maps holds k v e =
    let is = holds.tables kept.place kept.shape (kept_are SCHEMA has_first).fixed.listed in
    let row = is.whole k v e in
    let plain = is.plain row.0 row.1 in
    let both = and_parts _ _ plain in (
      subst (λ w. is_plain w ≡ true) (sym ((kept_are SCHEMA has_first).first_cell row.0) ∙ ap (λ r. column r 0) row.3) both.0,
      subst (λ w. is_plain w ≡ true) (sym ((kept_are SCHEMA has_first).second_cell row.0) ∙ ap (λ r. column r 1) row.3) (alone _ both.1),
    )

-- A row after another is of a later key of the same caller, or of a later caller.
after_split : (r : KeptRow) (v : Row) → is_plain (column v 0) ≡ true → is_plain (column v 1) ≡ true → PairBelow (kept_cells r) v
    → (is_kept_after (owner_number r.caller) r.key v ≡ true)
    ⊎ ((is_after (owner_number r.caller) v ≡ true) × (value_cmp (number (owner_number r.caller)) (column v 0) ≡ Less))
after_split r v p q below = elim (then_less (value_cmp (number (owner_number r.caller)) (column v 0)) (value_cmp (Text r.key) (column v 1)) below) [
  | inl less ↦ inr (from_alone _ (above_from (column v 0) (number (owner_number r.caller)) p refl less), less)
  | inr tied ↦
      let same : number (owner_number r.caller) ≡ column v 0 = same_cmp (number (owner_number r.caller)) (column v 0) refl p (ap is_eq tied.0) in
      inl (and_from _ _ (ap (λ w. equal Binary w (number (owner_number r.caller))) (sym same)
      ∙ same_equal (number (owner_number r.caller)) refl) (from_alone _ (above_from (column v 1) (Text r.key) q refl tied.1)))
]

-- ---- batch by batch

-- The row is one of the map's, within its limits.
abbrev pub IsStored : Maps → KeptRow → Type 0
IsStored maps r = kept.IsLegal r × (k : Row) × (maps kept.place k ≡ Some (kept_cells r))

-- The row is within its limits, and one of its caller was taken.
abbrev pub IsOfTaken : List KeptRow → Row → Type 0
IsOfTaken taken v = (r : KeptRow) × kept.IsLegal r × (v ≡ kept_cells r) × (s : KeptRow) × Has taken s × (s.caller ≡ r.caller)

-- The row comes after each row of the batch, of which there is one at least.
abbrev pub IsAfterAll : List KeptRow → Row → Type 0
IsAfterAll batch v = (0 < length batch) × ((w : Row) → Has (map kept_cells batch) w → PairBelow w v)

-- Rows were taken, each of another caller, up to those of a batch: one of each row's caller, or the row comes after the batch.
pub record AreKeptMet (taken batch : List KeptRow) (maps : Maps) : Type 0 where
  pub there : (r : KeptRow) → Has taken r → IsStored maps r
  pub rise : Rise number_of taken
  pub low : (r s : KeptRow) → Has taken r → slice_get batch (length batch - 1) ≡ Some s → number_of r ≤ number_of s
  pub met : (k v : Row) → maps kept.place k ≡ Some v → IsOfTaken taken v ⊎ IsAfterAll batch v

-- The callers of rows in order never fall.
climbs : (rows : List KeptRow) → IsAscending PairBelow (map kept_cells rows) → Climb rows
climbs [] up = tt
climbs (r ∷ rows) up = (
  all_from (λ s. number_of r ≤ number_of s) rows
      (λ s there. first s (all_has (PairBelow (kept_cells r)) (map kept_cells rows) (kept_cells s) up.0 (mapped_has kept_cells rows s there))),
  climbs rows up.1,
)
  where
    first : (s : KeptRow) → PairBelow (kept_cells r) (kept_cells s) → number_of r ≤ number_of s
    first s less = elim (first_or_second (number_of r) (number_of s) (Text r.key) (Text s.key) less) [
      | inl under ↦ omega (arith, under)
      | inr tied ↦ let same = tied.0 in omega (arith, same)
    ]

-- One batch more.
module _ (maps : Maps) (taken next : List KeptRow) (there : (r : KeptRow) → Has taken r → IsStored maps r) (rise : Rise number_of taken)
    (low : (r s : KeptRow) → Has taken r → Has next s → number_of r ≤ number_of s) (limits : All kept.IsLegal next)
    (sound : (v : Row) → Has (map kept_cells next) v → (k : Row) × (maps kept.place k ≡ Some v)) (rises : IsAscending PairBelow (map kept_cells next))
    (met : (k v : Row) → maps kept.place k ≡ Some v → IsOfTaken taken v ⊎ (Has (map kept_cells next) v ⊎ IsAfterAll next v)) where
  taken_on : AreTakenFrom taken next (with_callers taken next)
  taken_on = all_taken taken next rise (climbs next rises) low

  stored : (r : KeptRow) → Has next r → IsStored maps r
  stored r has =
      let row = sound (kept_cells r) (mapped_has kept_cells next r has) in
      (All-contains kept.IsLegal next r limits (contains_had next r has), row.0, row.1)

  out_stored : (r : KeptRow) → Has (with_callers taken next) r → IsStored maps r
  out_stored r has = elim (taken_on.from r has) [
    | inl before ↦ there r before
    | inr new ↦ stored r new
  ]

  batch_met : AreKeptMet (with_callers taken next) next maps
  batch_met = record {
    there = out_stored;
    rise = taken_on.rise;
    low = λ r s has end. elim (taken_on.from r has) [
      | inl before ↦ low r s before (has_got next (length next - 1) s end)
      | inr new ↦ greatest next s (climbs next rises) end r new
    ];
    met = λ k v e. elim (met k v e) [
      | inl old ↦ inl (old.0, old.1, old.2, old.3, taken_on.stays old.3 old.4, old.5)
      | inr (inl has) ↦
          let it = has_mapped kept_cells next v has in
          let own = stored it.0 it.1 in
          let s = taken_on.each it.0 it.1 in
          inl (it.0, own.0, it.2, s.0, s.1, owner_told s.0.caller it.0.caller (out_stored s.0 s.1).0.0 own.0.0 s.2)
      | inr (inr rest) ↦ inr rest
    ];
  }

-- The first batch.
pub first_met : (maps : Maps) (batch : List KeptRow) → All kept.IsLegal batch
    → FirstRowsBy PairBelow BATCH_ROWS (maps kept.place) is_any (map kept_cells batch) → AreKeptMet (with_callers [] batch) batch maps
first_met maps batch limits first = batch_met maps [] batch (λ r none. absurd none) tt (λ r s none. absurd none) limits
    (λ v has. let it = first.sound v has in (it.0, it.1)) first.rises (λ k v e. inr (elim (first.whole k v e refl) [
      | inl has ↦ inl has
      | inr rest ↦ inr (
        let full : length (map kept_cells batch) ≡ BATCH_ROWS = rest.0 in let same = length-map batch kept_cells in
            omega (arith, full, same),
        rest.1,
      )
    ]))

-- One batch after another.
pub more_kept_met : (maps : Maps) (taken batch next : List KeptRow) (last : KeptRow) → slice_get batch (length batch - 1) ≡ Some last
    → AreKeptMet taken batch maps → IsKeptBatch last next maps → AreKeptMet (with_callers taken next) next maps
more_kept_met maps taken batch next last end so_far is =
    batch_met maps taken next so_far.there so_far.rise
    (λ r s before new.
    let to : number_of r ≤ number_of last = so_far.low r last before end in
    let on : number_of last ≤ number_of s = is.later s (contains_had next s new) in
    omega (arith, to, on))
    is.limits is.sound is.rises (λ k v e. elim (so_far.met k v e) [
      | inl old ↦ inl old
      | inr later ↦ inr (is.whole k v e (later.1 (kept_cells last) (mapped_has kept_cells batch last (has_got batch (length batch - 1) last end))))
    ])

-- After a batch that is empty all rows were met.
pub all_kept_met : (maps : Maps) (taken batch : List KeptRow) → length batch ≡ 0 → AreKeptMet taken batch maps
    → (k v : Row) → maps kept.place k ≡ Some v → IsOfTaken taken v
all_kept_met maps taken batch none so_far k v e = elim (so_far.met k v e) [
  | inl taken ↦ taken
  | inr later ↦ (let some : 0 < length batch = later.0 in absurd (omega (arith, none, some)))
]

-- None is damaged.
pub kept_legal : (maps : Maps) (taken batch : List KeptRow) → length batch ≡ 0 → AreKeptMet taken batch maps → HasLegal kept maps
kept_legal maps taken batch none so_far k v e = let it = all_kept_met maps taken batch none so_far k v e in (it.0, it.1, it.2)

-- One of each caller was taken.
pub kept_taken : (maps : Maps) (P : Picture) → Encodes maps P → InLimits P → (taken batch : List KeptRow) → length batch ≡ 0
    → AreKeptMet taken batch maps → AreKeptByCaller P taken
kept_taken maps P is legal taken batch none so_far = record {
  sound = λ r has. let it = so_far.there r (has_contained taken r has) in kept_found maps P is legal r it.0 it.1 it.2;
  whole = λ o key r e.
      let own = kept_stored maps P is legal o key r e in
      let it = all_kept_met maps taken batch none so_far (kept.key (o, key)) (kept_cells r) own.1 in
      let same : r ≡ it.0 = kept_told r it.0 own.0 it.1 it.2 in
      (it.3, contains_had taken it.3 it.4, it.5 ∙ ap (λ (s : KeptRow). s.caller) (sym same));
  rise = so_far.rise;
}

-- A batch that has no last row is empty.
pub none_last : (batch : List KeptRow) → slice_get batch (length batch - 1) ≡ None → length batch ≡ 0
none_last batch none = empty_if (λ r. owner_number r.caller) batch (ap (option_map (λ r. owner_number r.caller)) none)

module _ (db : Database) (maps : Maps) (holds : Holds schema db maps) (last : KeptRow) (more : List KeptRow) (limits : All kept.IsLegal more)
    (first : FirstRowsBy PairBelow BATCH_ROWS (maps kept.place) (is_kept_after (owner_number last.caller) last.key) (map kept_cells more)) where
  split : (k v : Row) → maps kept.place k ≡ Some v → PairBelow (kept_cells last) v
      → (is_kept_after (owner_number last.caller) last.key v ≡ true)
      ⊎ ((is_after (owner_number last.caller) v ≡ true) × (value_cmp (number (owner_number last.caller)) (column v 0) ≡ Less))
  split k v e below = let plain = keys_plain db maps holds k v e in after_split last v plain.0 plain.1 below

  -- The caller has more that is kept: all of later callers comes after it.
  pub batch_of_caller : 0 < length more → IsKeptBatch last more maps
  batch_of_caller some = record {
    limits = limits;
    sound = λ v has. let it = first.sound v has in (it.0, it.1);
    rises = first.rises;
    later = λ r there. let same = of_caller (kept_cells r) r (mapped_has kept_cells more r (has_contained more r there)) refl in omega (arith, same);
    whole = λ k v e below. elim (split k v e below) [
      | inl mine ↦ elim (first.whole k v e mine) [
        | inl has ↦ inl has
        | inr rest ↦ inr (some, rest.1)
      ]
      | inr other ↦ inr (some, λ w has. before w v has other.1)
    ];
  }
    where
      of_caller : (w : Row) (r : KeptRow) → Has (map kept_cells more) w → w ≡ kept_cells r → owner_number r.caller ≡ owner_number last.caller
      of_caller w r has is = same_if (owner_number r.caller) (owner_number last.caller)
          (and_parts _ _ (subst (λ u. is_kept_after (owner_number last.caller) last.key u ≡ true) is (first.sound w has).2)).0

      before : (w v : Row) → Has (map kept_cells more) w → value_cmp (number (owner_number last.caller)) (column v 0) ≡ Less → PairBelow w v
      before w v has less =
          let it = has_mapped kept_cells more w has in
          let own = of_caller w it.0 has it.2 in
          subst (λ u. PairBelow u v) (sym it.2)
          (ap (λ o. ordering_then o (value_cmp (Text it.0.key) (column v 1)))
          (subst (λ (n : ℕ). value_cmp (number n) (column v 0) ≡ Less) (sym own) less))

  -- The caller has no more: what is kept of later callers comes next.
  pub batch_past_caller : length more ≡ 0 → (past : List KeptRow) → All kept.IsLegal past
      → FirstRowsBy PairBelow BATCH_ROWS (maps kept.place) (is_after (owner_number last.caller)) (map kept_cells past)
      → IsKeptBatch last past maps
  batch_past_caller none past fine next = record {
    limits = fine;
    sound = λ v has. let it = next.sound v has in (it.0, it.1);
    rises = next.rises;
    later = λ r there.
        let good = (next.sound (kept_cells r) (mapped_has kept_cells past r (has_contained past r there))).2 in
        let less : owner_number last.caller < owner_number r.caller = above_if (owner_number r.caller) (owner_number last.caller) (alone _ good) in
        omega (arith, less);
    whole = λ k v e below. elim (split k v e below) [
      | inl mine ↦ elim (first.whole k v e mine) [
        | inl has ↦ (let it = has_mapped kept_cells more v has in let at = contains_had more it.0 it.1 in let lt : at.0 < length
            more = at.1 in absurd (omega (arith, lt, none)))
        | inr rest ↦ (let full : length (map kept_cells more) ≡ BATCH_ROWS = rest.0 in let same = length-map more kept_cells in
            absurd (omega (arith, full, none, same)))
      ]
      | inr other ↦ elim (next.whole k v e other.0) [
        | inl has ↦ inl has
        | inr rest ↦ inr (
          let full : length (map kept_cells past) ≡ BATCH_ROWS = rest.0 in let same = length-map past kept_cells in
              omega (arith, full, same),
          rest.1,
        )
      ]
    ];
  }
