-- The commands on single closed days meet the history.
use Rattle.calendar.specs.declared.limits.TheConstants.{MOST_CLOSED_DAYS}
use Rattle.std.proofs.Common.{◌≡◌, ℕ, ◌==◌, Bool, true, false, cond, not, ◌&&◌, ◌||◌, List, [], ◌∷◌, length, refl, sym, ◌∙◌, ap}
use Rattle.std.specs.Prelude.{Option, Some, None, filter, nat_le, IfSome}
use Rattle.std.proofs.lemmas.Bool.{eqb-true}
use Rattle.calendar.specs.Openings.{Closings, has_repeat}
use Rattle.terms.specs.declared.command.Command.TheVariants.{CloseDay, OpenDay}
use Rattle.terms.specs.declared.reply.Reply.TheVariants.{Done}
use Rattle.terms.specs.Pictures.{put_pair}
use Rattle.model.specs.Invariant.{Invariant}
use Rattle.model.specs.Calendar.{is_single}
use Rattle.model.specs.History.{History, singles_of}
use Rattle.model.specs.Refusals.{has_branch}
use Rattle.model.specs.Picture.{picture}
use Rattle.model.proofs.ClosedDays.{as-many, eq-sym}
use Rattle.circ_core.specs.Decides.{event}
use Rattle.circ_core.specs.declared.views.View.{View}
use Rattle.circ_core.specs.CloseDay.{is_closed_day, has_all_days, close_day_checks, close_day_rows, open_day_checks, open_day_rows}
use Rattle.circ_core.specs.Views.{IsCalendarOf, IsClosedDayView}
use Rattle.circ_core.proofs.Meets.{Meets}
use Rattle.circ_core.proofs.Calendars.{calendar_there}

-- ---- lists of days

-- The day that is taken out isn't there any more, and every other one is as it was.
taken : (d n : ℕ) (xs : List ℕ) → is_single (filter (λ e. not (d == e)) xs) n ≡ cond (d == n) false (is_single xs n)
taken d n [] = go (d == n)
  where
    go : (b : Bool) → false ≡ cond b false false
    go true = refl
    go false = refl
taken d n (x ∷ xs) = go (d == x) refl (d == n) refl (taken d n xs)
  where
    go : (a : Bool) → (d == x) ≡ a → (b : Bool) → (d == n) ≡ b → is_single (filter (λ e. not (d == e)) xs) n ≡ cond (d == n) false (is_single xs n)
        → is_single (cond (not a) (x ∷ filter (λ e. not (d == e)) xs) (filter (λ e. not (d == e)) xs)) n ≡ cond b false ((x == n) || is_single xs n)
    go true p true q ih = ih ∙ ap (λ b. cond b false (is_single xs n)) q
    go true p false q ih =
        let same : d ≡ x = eqb-true d x p in
        let other : (x == n) ≡ false = rw same at q in
        ih ∙ ap (λ b. cond b false (is_single xs n)) q ∙ sym (ap (λ b. b || is_single xs n) other)
    go false p true q ih =
        let same : d ≡ n = eqb-true d n q in
        let other : (x == n) ≡ false = eq-sym x n ∙ ap (λ k. k == x) (sym same) ∙ p in
        ap (λ b. b || is_single (filter (λ e. not (d == e)) xs) n) other ∙ ih ∙ ap (λ b. cond b false (is_single xs n)) q
    go false p false q ih = ap (λ b. (x == n) || b) (ih ∙ ap (λ b. cond b false (is_single xs n)) q)

-- ---- the checks

module _ (H : History) (inv : Invariant H) (b d : ℕ) (rows : View) (w : IsClosedDayView (picture H) b rows) where
  closed_same : (o : Option Closings) → IsCalendarOf (picture H) b o → not (has_branch H b) ≡ false → is_closed_day o d ≡ is_single (singles_of H b) d
  closed_same (Some closings) x there = x.single d
  closed_same None x there = let no_branch : not (has_branch H b) ≡ true = sym (calendar_there H b None x) in let never : ⊥ = cc in absurd never

  full_same : (o : Option Closings) → IsCalendarOf (picture H) b o → IfSome o (λ closings. has_repeat closings.single ≡ false) → not (has_branch H b) ≡ false
      → has_all_days o ≡ nat_le MOST_CLOSED_DAYS (length (singles_of H b))
  full_same (Some closings) x once there = ap (nat_le MOST_CLOSED_DAYS) (as-many H inv b closings.single once x.single)
  full_same None x once there = let no_branch : not (has_branch H b) ≡ true = sym (calendar_there H b None x) in let never : ⊥ = cc in absurd never

  -- ---- the rows

  close_lead : (m n : ℕ) → put_pair (λ x y. is_single (singles_of H x) y) b d true m n ≡ is_single (cond (b == m) (d ∷ singles_of H m) (singles_of H m)) n
  close_lead m n = go (b == m)
    where
      both : (y : Bool) → (elim y as (λ _. Bool) [ true ↦ true | false ↦ is_single (singles_of H m) n ]) ≡ (y || is_single (singles_of H m) n)
      both true = refl
      both false = refl

      go : (x : Bool) → (elim (x && (d == n)) as (λ _. Bool) [ true ↦ true | false ↦ is_single (singles_of H m) n ]) ≡ is_single
          (cond x (d ∷ singles_of H m) (singles_of H m)) n
      go true = both (d == n)
      go false = refl

  pub close_day_meets : Meets H (CloseDay b d) (close_day_checks rows d) Done (close_day_rows b d)
  close_day_meets = record {
    same = (
      refl,
      calendar_there H b rows.calendar w.calendar,
      λ p10. (
        refl,
        (ap (λ m. nat_le d m.today) w.meta),
        λ _. (
          refl,
          closed_same rows.calendar w.calendar p10,
          λ _.
              (refl, full_same rows.calendar w.calendar w.once p10, λ _. tt),
        ),
      ),
    );
    due = λ _. refl;
    leads = λ _ owner key. λ i. record (picture (event owner key (CloseDay b d) ∷ H)) {
      closed_days = λ m n. close_lead m n i;
    };
  }

  open_lead : (m n : ℕ) → put_pair (λ x y. is_single (singles_of H x) y) b d false m n ≡ is_single
      (cond (b == m) (filter (λ e. not (d == e)) (singles_of H m)) (singles_of H m)) n
  open_lead m n = go (b == m)
    where
      both : (y : Bool) → (elim y as (λ _. Bool) [ true ↦ false | false ↦ is_single (singles_of H m) n ]) ≡ cond y false (is_single (singles_of H m) n)
      both true = refl
      both false = refl

      go : (x : Bool) → (elim (x && (d == n)) as (λ _. Bool) [ true ↦ false | false ↦ is_single (singles_of H m) n ]) ≡ is_single
          (cond x (filter (λ e. not (d == e)) (singles_of H m)) (singles_of H m)) n
      go true = both (d == n) ∙ sym (taken d n (singles_of H m))
      go false = refl

  pub open_day_meets : Meets H (OpenDay b d) (open_day_checks rows d) Done (open_day_rows b d)
  open_day_meets = record {
    same = (
      refl,
      calendar_there H b rows.calendar w.calendar,
      λ p10. (
        refl,
        (ap (λ m. nat_le d m.today) w.meta),
        λ _.
            (refl, (ap not (closed_same rows.calendar w.calendar p10)), λ _. tt),
      ),
    );
    due = λ _. refl;
    leads = λ _ owner key. λ i. record (picture (event owner key (OpenDay b d) ∷ H)) {
      closed_days = λ m n. open_lead m n i;
    };
  }
