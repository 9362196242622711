-- Rightly bound holds, row by row.
use Rattle.std.proofs.Common.{◌≡◌, ℕ, ◌+◌, ◌<◌, Bool, true, false, List, length, take, get_or, Option, Some, None, refl, sym, ◌∙◌, subst, true≢false}
use Rattle.std.specs.Prelude.{All}
use Rattle.terms.specs.declared.row.HoldRow.{HoldRow}
use Rattle.terms.specs.declared.row.TransitRow.{TransitRow}
use Rattle.terms.specs.declared.tables.Tables.{Tables}
use Rattle.circ_audit.specs.Rows.{hold_row, is_fit, serves}
use Rattle.circ_audit.specs.Sound.{IsFit, IsServed, IsServedOnce, IsRightlyBound, FailsFirst}
use Rattle.circ_audit.specs.Spans.{first_after, first_named, earlier_of, is_passed, HoldsAfter, FailsAfter}
use Rattle.circ_audit.proofs.Firsts.{fails-same, fails-both, passed-if, passed-right, row-breaks, row-keeps}
use Rattle.circ_audit.proofs.Referring.{passed-more}

-- The law of the rows of holds, and of those of transits, for holds after another one.
abbrev pub AreFit : Tables → Option ℕ → List HoldRow → ℕ → Type 0
AreFit t after rows h = All (λ r. r.hold ≡ h → is_passed after r.hold (is_fit t.copies r) ≡ true) rows

abbrev pub AreServed : Tables → Option ℕ → List TransitRow → ℕ → Type 0
AreServed t after rows h = All (λ r. r.hold ≡ Some h → is_passed after h (serves t.copies r (hold_row t.holds h)) ≡ true) rows

module _ (t : Tables) (after : Option ℕ) (i : ℕ) (first : Option ℕ) where
  -- One hold's row more.
  pub fit-more : (rows : List HoldRow) (r : HoldRow) → i < length rows → r ≡ get_or rows i r → FailsFirst (AreFit t after (take i rows)) first
      → FailsFirst (AreFit t after (take (i + 1) rows)) (first_after (is_passed after r.hold (is_fit t.copies r)) r.hold first)
  fit-more rows r lt is before = passed-more (λ q. q.hold) (λ q. is_passed after q.hold (is_fit t.copies q)) i first rows r lt is before

  -- A transit's row is right for the hold, or that doesn't come after.
  abbrev right : TransitRow → ℕ → Bool
  right r h = is_passed after h (serves t.copies r (hold_row t.holds h))

  -- One transit more.
  pub served-more : (rows : List TransitRow) (r : TransitRow) → i < length rows → r ≡ get_or rows i r → FailsFirst (AreServed t after (take i rows)) first
      → FailsFirst (AreServed t after (take (i + 1) rows)) (first_named (right r) r.hold first)
  served-more rows r lt is before = named r.hold refl
    where
      named : (o : Option ℕ) → r.hold ≡ o → FailsFirst (AreServed t after (take (i + 1) rows)) (first_named (right r) o first)
      named None none = row-keeps rows i r lt is (λ h q. q.hold ≡ Some h → right q h ≡ true) first
          (λ m same. let never : ⊥ = cc in absurd never) before
      named (Some n) some = go (right r n) refl
        where
          go : (b : Bool) → right r n ≡ b → FailsFirst (AreServed t after (take (i + 1) rows)) (first_after b n first)
          go true e =
              row-keeps rows i r lt is (λ h q. q.hold ≡ Some h → right q h ≡ true) first
              (λ m same. let at : n ≡ m = cc in subst (λ (h : ℕ). right r h ≡ true) at e) before
          go false e =
              row-breaks rows i r lt is (λ h q. q.hold ≡ Some h → right q h ≡ true) first n
              (λ m other same. let at : m ≡ n = cc in absurd (other at))
              (λ served. let yes' : right r n ≡ true = served some in true≢false (sym yes' ∙ e)) before

-- Where holds that don't come after a number are served as they are.
pub served-after : (t : Tables) (after first : Option ℕ) → FailsFirst (AreServed t after t.transits) first → FailsAfter after (IsServed t) first
served-after t after first = fails-same (AreServed t after t.transits) (HoldsAfter after (IsServed t)) first
    (λ h law k d lt names. passed-if after h (serves t.copies (get_or t.transits k d) (hold_row t.holds h)) (λ is. law is k d lt names))
    (λ h all is k d lt names. passed-right after h (serves t.copies (get_or t.transits k d) (hold_row t.holds h)) is (all k d lt names))

-- The three parts of a binding together.
pub bound-first : (t : Tables) (after a b c : Option ℕ) → FailsAfter after (IsFit t) a → FailsAfter after (IsServed t) b → FailsAfter after (IsServedOnce t) c
    → FailsAfter after (IsRightlyBound t) (earlier_of (earlier_of a b) c)
bound-first t after a b c fit served once =
    fails-same (λ h. (HoldsAfter after (IsFit t) h × HoldsAfter after (IsServed t) h) × HoldsAfter after (IsServedOnce t) h) (HoldsAfter after (IsRightlyBound t))
    (earlier_of (earlier_of a b) c)
    (λ h bound. ((λ is. (bound is).fit, λ is. (bound is).served), λ is. (bound is).once))
    (λ h parts is. record { fit = parts.0.0 is; served = parts.0.1 is; once = parts.1 is })
    (fails-both (λ h. HoldsAfter after (IsFit t) h × HoldsAfter after (IsServed t) h) (HoldsAfter after (IsServedOnce t)) (earlier_of a b) c
    (fails-both (HoldsAfter after (IsFit t)) (HoldsAfter after (IsServed t)) a b fit served) once)
