use Rattle.std.proofs.Common.{◌≡◌, ℕ, Bool, true, false, not, sym, ◌∙◌, ap}
use Rattle.calendar.specs.Days.{IsDayNumber}
use Rattle.calendar.specs.Openings.{Closings, is_open, is_single}
use Rattle.calendar.specs.Weeks.{is_closed_weekday}
use Rattle.calendar.proofs.OpeningLemmas.{is_open-inside, is_open-weekly}
use Rattle.calendar.proofs.opening.Calendar.is_open.Goals as goal

inside : (c s : Closings) (d n : ℕ) (w r : Bool) → s ≡ c → n ≡ d → IsDayNumber n → w ≡ is_closed_weekday s.weekly n → w ≡ false
    → r ≡ is_single c d → not r ≡ is_open c d
inside c s d n w r same e h is v l = ap not l ∙ sym (is_open-inside c d (rw e at h) (rw (← same, ← e) (sym is ∙ v)))

weekly : (c s : Closings) (d n : ℕ) (w : Bool) → s ≡ c → n ≡ d → IsDayNumber n → w ≡ is_closed_weekday s.weekly n → w ≡ true → not w ≡ is_open c d
weekly c s d n w same e h is v = ap not v ∙ sym (is_open-weekly c d (rw e at h) (rw (← same, ← e) (sym is ∙ v)))

pub returns-then-not-is_closed_on : goal.returns-then-not-is_closed_on
returns-then-not-is_closed_on c =
    inside _ _ _ _ _ _ c.self.view_is c.number.ensures.value c.number.ensures.bound c.is_closed_on.ensures c.if-not-is_closed_on.true
    c.is_closed_singly.ensures

pub returns-else-not-is_closed_on : goal.returns-else-not-is_closed_on
returns-else-not-is_closed_on c =
    weekly _ _ _ _ _ c.self.view_is c.number.ensures.value c.number.ensures.bound c.is_closed_on.ensures c.if-not-is_closed_on.false
