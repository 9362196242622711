-- The first in line is one of two rows: the hold that begins first, and the lowest-numbered of those whose
-- first day has come.
use Rattle.std.proofs.Common.{arith, ◌≡◌, ◌⊎◌, ◌&&◌, ◌≤◌, ◌<◌, inl, inr, ℕ, pos, Bool, true, false, [], ◌∷◌, map, Option, Some, None, refl}
use Rattle.std.proofs.Common.{sym, ap, subst, ◌∙◌, true≢false, Ordering, Less, Equal, Greater}
use Rattle.std.specs.Prelude.{MatchBool, MatchOption, IfSome}
use Rattle.std.specs.Option.{option_to_list}
use Rattle.std.specs.Ordering.{ordering_then}
use Rattle.std.proofs.lemmas.Bool.{and_parts, cases_lt}
use Rattle.sqlite.specs.declared.types.Value.TheVariants.{Null, Int, Real, Text, Blob}
use Rattle.sqlite_sql.specs.Ops.{binary, is_true}
use Rattle.sqlite_sql.specs.declared.ops.BinaryOp.TheVariants.{Is}
use Rattle.sqlite_value.specs.declared.keys.Collation.TheVariants.{Binary}
use Rattle.sqlite_value.specs.declared.value.Value.{Value}
use Rattle.sqlite_value.specs.Order.{value_cmp}
use Rattle.sqlite_value.proofs.OrderLemmas.{value_cmp_total}
use Rattle.sqlite.specs.Effect.{Database}
use Rattle.sqlite.specs.Order.{Row, column}
use Rattle.sql_maps.specs.Maps.{Map, Maps, Holds, FirstOf, FirstOfBy, FirstBelow, null_at, most_at}
use Rattle.sql_maps.specs.Batches.{least_at}
use Rattle.terms.specs.declared.row.HoldRow.{HoldRow}
use Rattle.terms.specs.Limits.{IsHold}
use Rattle.circ_tables.specs.Cells.{number, optional, hold_cells}
use Rattle.circ_tables.specs.Selections.{BeginsBefore, StandsInLine, Waits, WaitsSince, has_come}
use Rattle.circ_tables.specs.Shape as shape
use Rattle.circ_tables.proofs.CellLemmas.{is_up_to, if_none, if_come, up_to_if, later_still, number_less}
use Rattle.circ_tables.proofs.ColumnLemmas.{same_row}

-- ---- the order of first days

-- what is no value is absent
absent_is : (v : Value) → is_true (binary (Is Binary) v Null) ≡ true → v ≡ Null
unfolding binary value_cmp lib.Ieee.is_nan lib.Ieee.lt
absent_is Null h = refl
absent_is (Int n) h = absurd (true≢false (sym h))
absent_is (Real x) h = absurd (true≢false (sym h))
absent_is (Text t) h = absurd (true≢false (sym h))
absent_is (Blob b) h = absurd (true≢false (sym h))

nothing_tied : value_cmp Null Null ≡ Equal
unfolding value_cmp lib.Ieee.is_nan lib.Ieee.lt
nothing_tied = refl

-- a day doesn't come before none
never_before : (day : ℕ) (o : Ordering) → ordering_then (value_cmp (number day) Null) o ≡ Less → ⊥
unfolding value_cmp lib.Ieee.is_nan lib.Ieee.lt
never_before day o less = let never : ⊥ = cc in never

then_less : (o p : Ordering) → ordering_then o p ≡ Less → (o ≡ Less) ⊎ (o ≡ Equal)
then_less Less p less = inl refl
then_less Equal p less = inr refl
then_less Greater p less = let never : ⊥ = cc in absurd never

-- ---- what begins, by its first day

-- the hold has no first day, or one that has come
abbrev pub Begun : ℕ → HoldRow → Type 0
Begun today hold = (hold.first_day ≡ None) ⊎ ((day : ℕ) × (hold.first_day ≡ Some day) × (day ≤ today))

-- its first day is still to come
abbrev pub Later : ℕ → HoldRow → Type 0
Later today hold = (day : ℕ) × (hold.first_day ≡ Some day) × (today < day)

begun_by : (today : ℕ) (hold : HoldRow) (o : Option ℕ) → hold.first_day ≡ o → MatchOption o (true ≡ true) (λ day. day ≤ today) → Begun today hold
begun_by today hold None e is = inl e
begun_by today hold (Some day) e is = inr (day, e, is)

later_by : (today : ℕ) (hold : HoldRow) (o : Option ℕ) → hold.first_day ≡ o → MatchOption o (false ≡ true) (λ day. today < day) → Later today hold
later_by today hold None e never = absurd (true≢false (sym never))
later_by today hold (Some day) e late = (day, e, late)

-- what is answered of a hold
abbrev Tells : ℕ → HoldRow → Bool → Type 0
Tells today hold result = MatchOption hold.first_day (result ≡ true) (λ day. MatchBool result (day ≤ today) (today < day))

pub begun_if : (today : ℕ) (hold : HoldRow) (result : Bool) → Tells today hold result → result ≡ true → Begun today hold
begun_if today hold true tells is = begun_by today hold hold.first_day refl tells
begun_if today hold false tells is = absurd (true≢false (sym is))

pub later_if : (today : ℕ) (hold : HoldRow) (result : Bool) → Tells today hold result → result ≡ false → Later today hold
later_if today hold true tells is = absurd (true≢false is)
later_if today hold false tells is = later_by today hold hold.first_day refl tells

-- ---- the two rows

module _ (db : Database) (maps : Maps) (held : Holds shape.schema db maps) (title today : ℕ) where
  abbrev m : Map
  m = maps shape.holds_place

  abbrev IsWaiting : Row → Type 0
  IsWaiting = Waits (maps shape.transits_place) title

  abbrev HasCome : Row → Type 0
  HasCome = WaitsSince (maps shape.transits_place) title today

  abbrev IsInLine : Row → Type 0
  IsInLine = StandsInLine (maps shape.transits_place) title today

  -- two rows of one number are the same
  keyed : (k v : Row) → m k ≡ Some v → column v 0 ∷ [] ≡ k
  keyed k v e = let r = (held.tables shape.holds_place shape.holds refl).whole k v e in ap (λ w. column w 0 ∷ []) (sym r.3) ∙ r.2

  same_number : (j v k w : Row) → m j ≡ Some v → m k ≡ Some w → column v 0 ≡ column w 0 → v ≡ w
  same_number j v k w e f same = same_row (m k) v w (ap m (sym (keyed k w f) ∙ ap (λ x. x ∷ []) (sym same) ∙ keyed j v e) ∙ e) f

  pub nobody : FirstOfBy BeginsBefore m IsWaiting [] → FirstOf m IsInLine []
  nobody none = λ k v e line. none k v e line.0

  module _ (hold : HoldRow) (first : FirstOfBy BeginsBefore m IsWaiting (hold_cells hold ∷ [])) where
    -- where it has a first day, each hold that waits has one, and none an earlier one
    has_day : (day : ℕ) → hold.first_day ≡ Some day → (k w : Row) → m k ≡ Some w → IsWaiting w → null_at 7 w ≡ true → ⊥
    has_day day is k w e waits free = go (first.2 k w e waits)
      where
        none : column w 7 ≡ Null
        none = absent_is (column w 7) free

        own : optional hold.first_day ≡ number day
        own = ap optional is

        go : (w ≡ hold_cells hold) ⊎ BeginsBefore (hold_cells hold) w → ⊥
        go (inl same) = let clash : Null ≡ number day = sym none ∙ ap (λ v. column v 7) same ∙ own in cc
        go (inr less) = never_before day (value_cmp (number hold.hold) (column w 0))
            (ap (λ v. ordering_then v (value_cmp (number hold.hold) (column w 0)))
            (ap (λ x. value_cmp x Null) (sym own) ∙ ap (value_cmp (optional hold.first_day)) (sym none)) ∙ less)

    no_earlier : (day : ℕ) → hold.first_day ≡ Some day → today < day → (k w : Row) → m k ≡ Some w → IsWaiting w → has_come today w ≡ true → ⊥
    no_earlier day is late k w e waits come = go (first.2 k w e waits)
      where
        own : optional hold.first_day ≡ number day
        own = ap optional is

        up_to : most_at 7 (pos today) w ≡ true
        up_to = (and_parts (most_at 7 (pos today) w) true (and_parts (least_at 7 (pos 0) w) (most_at 7 (pos today) w && true) come).1).0

        go : (w ≡ hold_cells hold) ⊎ BeginsBefore (hold_cells hold) w → ⊥
        go (inl same) =
            let le : day ≤ today = up_to_if day today (subst (λ (v : Value). is_up_to v today ≡ true) (ap (λ v. column v 7) same ∙ own) up_to) in
            omega (arith, le, late)
        go (inr less) =
            let before : ordering_then (value_cmp (number day) (column w 7)) (value_cmp (number hold.hold) (column w 0)) ≡ Less =
            ap (λ x. ordering_then (value_cmp x (column w 7)) (value_cmp (number hold.hold) (column w 0))) (sym own) ∙ less in
            later_still day today (column w 7) late (then_less (value_cmp (number day) (column w 7)) (value_cmp (number hold.hold) (column w 0)) before) up_to

    -- where its first day is to come, nobody stands in line
    pub nobody_yet : Later today hold → FirstOf m IsInLine []
    nobody_yet late = λ k w e line. elim line.1
        [ inl free ↦ has_day late.0 late.1 k w e line.0 free | inr come ↦ no_earlier late.0 late.1 late.2 k w e line.0 come ]

    module _ (begun : Begun today hold) where
      stands : IsInLine (hold_cells hold)
      stands = (first.1, elim begun [ inl none ↦ inl (if_none hold.first_day none) | inr day ↦ inr (if_come hold.first_day today day.0 day.1 day.2) ])

      -- no hold without a first day has a lesser number
      free_after : (k w : Row) → m k ≡ Some w → IsWaiting w → null_at 7 w ≡ true → (w ≡ hold_cells hold) ⊎ FirstBelow (hold_cells hold) w
      free_after k w e waits free = go begun
        where
          by_number : (w ≡ hold_cells hold) ⊎ BeginsBefore (hold_cells hold) w → hold.first_day ≡ None → (w ≡ hold_cells hold) ⊎ FirstBelow (hold_cells hold) w
          by_number (inl same) none = inl same
          by_number (inr less) none =
              let tied : value_cmp (optional hold.first_day) (column w 7) ≡ Equal =
              ap (λ o. value_cmp (optional o) (column w 7)) none ∙ ap (value_cmp Null) (absent_is (column w 7) free) ∙ nothing_tied in
              inr (ap (λ o. ordering_then o (value_cmp (number hold.hold) (column w 0))) (sym tied) ∙ less)

          go : Begun today hold → (w ≡ hold_cells hold) ⊎ FirstBelow (hold_cells hold) w
          go (inl none) = by_number (first.2 k w e waits) none
          go (inr day) = absurd (has_day day.0 day.1 k w e waits free)

      alone : FirstOf m HasCome [] → FirstOf m IsInLine (hold_cells hold ∷ [])
      alone none = (
        first.0,
        stands,
        λ k w e line. elim line.1 [ inl free ↦ free_after k w e line.0 free | inr come ↦ absurd (none k w e (line.0, come)) ],
        refl,
      )

      before : (row : HoldRow) → FirstOf m HasCome (hold_cells row ∷ []) → hold.hold < row.hold → FirstOf m IsInLine (hold_cells hold ∷ [])
      before row come less = (
        first.0,
        stands,
        λ k w e line. elim line.1 [ inl free ↦ free_after k w e line.0 free | inr now ↦ inr (after w (come.2 k w e (line.0, now))) ],
        refl,
      )
        where
          lower : value_cmp (number hold.hold) (number row.hold) ≡ Less
          lower = number_less hold.hold row.hold less

          after : (w : Row) → (w ≡ hold_cells row) ⊎ FirstBelow (hold_cells row) w → FirstBelow (hold_cells hold) w
          after w (inl same) = subst (λ v. FirstBelow (hold_cells hold) v) (sym same) lower
          after w (inr more) = value_cmp_total.trans (number hold.hold) (number row.hold) (column w 0) lower more

      instead : (row : HoldRow) → FirstOf m HasCome (hold_cells row ∷ []) → row.hold ≤ hold.hold → FirstOf m IsInLine (hold_cells row ∷ [])
      instead row come le = (
        come.0,
        (come.1.0, inr come.1.1),
        λ k w e line. elim line.1 [
          | inl free ↦ after k w e (cases_lt row.hold hold.hold)
              (free_after k w e line.0 free)
          | inr now ↦ come.2 k w e (line.0, now)
        ],
        refl,
      )
        where
          after : (k w : Row) → m k ≡ Some w → (row.hold < hold.hold) ⊎ (hold.hold ≤ row.hold) → (w ≡ hold_cells hold)
              ⊎ FirstBelow (hold_cells hold) w → (w ≡ hold_cells row) ⊎ FirstBelow (hold_cells row) w
          after k w e (inl less) (inl same) = inr (subst (λ v. FirstBelow (hold_cells row) v) (sym same) (number_less row.hold hold.hold less))
          after k w e (inl less) (inr more) =
              inr (value_cmp_total.trans (number row.hold) (number hold.hold) (column w 0) (number_less row.hold hold.hold less) more)
          after k w e (inr other) (inl same) =
              let one : row.hold ≡ hold.hold = omega (arith, le, other) in
              inl (same_number k w come.0.0 (hold_cells row) e come.0.1 (ap (λ v. column v 0) same ∙ ap number (sym one)))
          after k w e (inr other) (inr more) =
              let one : hold.hold ≡ row.hold = omega (arith, le, other) in
              inr (subst (λ n. value_cmp (number n) (column w 0) ≡ Less) one more)

      pub in_turn : (other : Option HoldRow) (result : HoldRow) → FirstOf m HasCome (map hold_cells (option_to_list other))
          → MatchOption other (result ≡ hold)
          (λ row. ((result ≡ hold) × (hold.hold < row.hold)) ⊎ ((result ≡ row) × (row.hold ≤ hold.hold)))
          → FirstOf m IsInLine (hold_cells result ∷ [])
      in_turn None result come is = subst (λ r. FirstOf m IsInLine (hold_cells r ∷ [])) (sym is) (alone come)
      in_turn (Some row) result come (inl is) = subst (λ r. FirstOf m IsInLine (hold_cells r ∷ [])) (sym is.0) (before row come is.1)
      in_turn (Some row) result come (inr is) = subst (λ r. FirstOf m IsInLine (hold_cells r ∷ [])) (sym is.0) (instead row come is.1)

-- the lesser of two rows within their limits is within them
pub lesser_legal : (hold : HoldRow) (other : Option HoldRow) (result : HoldRow) → IsHold hold → IfSome other IsHold
    → MatchOption other (result ≡ hold) (λ row. ((result ≡ hold) × (hold.hold < row.hold)) ⊎ ((result ≡ row) × (row.hold ≤ hold.hold)))
    → IsHold result
lesser_legal hold None result good legal is = subst IsHold (sym is) good
lesser_legal hold (Some row) result good legal (inl is) = subst IsHold (sym is.0) good
lesser_legal hold (Some row) result good legal (inr is) = subst IsHold (sym is.0) legal
