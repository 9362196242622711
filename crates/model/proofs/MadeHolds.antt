-- A command that makes a hold: what it passed, and that it does nothing else.
use Rattle.std.proofs.Common.{◌≡◌, ℕ, false, not, refl, subst}
use Rattle.std.specs.Prelude.{Option, Some, None, is_none, nat_le}
use Rattle.terms.specs.declared.limits.TheConstants.{LAST_NUMBER}
use Rattle.terms.specs.declared.command.Owner.{Owner}
use Rattle.terms.specs.declared.command.Command.{Command}
use Rattle.terms.specs.declared.command.Command.TheVariants.{AmendCopy, Rehome}
use Rattle.terms.specs.declared.command.Command.TheVariants.{Acquire, CheckOut, CheckIn, PlaceHold, CancelHold, Unshelve, UnshelveCancelled, Missing, Withdraw}
use Rattle.terms.specs.declared.refusal.Refusal.TheVariants as check
use Rattle.model.specs.History.{History, title_of, copy_of, copy_after, copies, copies_after, HoldFacts, hold_made, holds}
use Rattle.model.specs.Places.{place, state, place_after, limit_after, is_begun}
use Rattle.model.specs.DueDays.{comes_to_shelf}
use Rattle.model.specs.Refusals.{refusal, checks, has_patron, has_branch, is_bad_first_day}
use Rattle.model.proofs.Passing.{passed}

-- The checks that a command passed which makes this hold, whichever command it is.
pub record IsPlaceable (H : History) (made : HoldFacts) : Type 0 where
  pub patron : not (has_patron H made.patron) ≡ false
  pub title : is_none (title_of H made.title) ≡ false
  pub branch : not (has_branch H made.branch) ≡ false
  pub later : is_bad_first_day H made.first_day ≡ false
  pub room : nat_le LAST_NUMBER (holds H) ≡ false

pub placeable : (H : History) (o : Owner) (c : Command) (made : HoldFacts) → refusal H o c ≡ None → hold_made c ≡ Some made → IsPlaceable H made
placeable H o (PlaceHold p t b d) made ok e =
    let pass = passed (checks H o (PlaceHold p t b d)) ok in
    let same : ◌≡◌ {A = HoldFacts} (record { patron = p; title = t; branch = b; first_day = d }) made = cc in
    subst (IsPlaceable H) same (record { patron = (pass check.UnknownPatron); title = (pass check.UnknownTitle); branch = (pass check.UnknownBranch); later = (pass check.BadDay); room = (pass check.NumbersUsedUp) })
placeable H o _ made ok e = let never : ⊥ = cc in absurd never

-- The command moves no copy, and sets no shelf limit.
pub record MovesNothing (H : History) (c : Command) : Type 0 where
  pub places : (x : ℕ) → place_after H (place H) (state H) (is_begun H) c x ≡ place H x
  pub copies : copies_after H c (copies H) ≡ copies H
  pub facts : (x : ℕ) → copy_after c x (copy_of H x) ≡ copy_of H x
  pub comes : (h : ℕ) → comes_to_shelf H c h ≡ false
  pub limits : (h : ℕ) (before : Option ℕ) → limit_after H c h before ≡ before

pub moves-nothing : (H : History) (c : Command) (made : HoldFacts) → hold_made c ≡ Some made → MovesNothing H c
moves-nothing H (Acquire n t kind home price text) made e = let never : ⊥ = cc in absurd never
moves-nothing H (AmendCopy n kind price) made e = let never : ⊥ = cc in absurd never
moves-nothing H (Rehome n b) made e = let never : ⊥ = cc in absurd never
moves-nothing H (CheckOut p n b) made e = let never : ⊥ = cc in absurd never
moves-nothing H (CheckIn n b) made e = let never : ⊥ = cc in absurd never
moves-nothing H (CancelHold g) made e = let never : ⊥ = cc in absurd never
moves-nothing H (Unshelve g) made e = let never : ⊥ = cc in absurd never
moves-nothing H (UnshelveCancelled g) made e = let never : ⊥ = cc in absurd never
moves-nothing H (Missing n) made e = let never : ⊥ = cc in absurd never
moves-nothing H (Withdraw n) made e = let never : ⊥ = cc in absurd never
moves-nothing H _ made e = record { places = λ x. refl; copies = refl; facts = λ x. refl; comes = λ h. refl; limits = λ h before. refl }
