use Rattle.std.proofs.Common.{arith}
use Rattle.calendar.proofs.WeekLemmas.{IsCounted-weeks}
use Rattle.calendar.proofs.opening.Calendar.counted_open_days_after.Goals as goal

pub overflow_mul-result : goal.overflow_mul-result
overflow_mul-result g c = record {
  fits = let small = (IsCounted-weeks (record { weekly = c.self.inside.weekly; single = c.self.inside.single }) c.number-first.result
      c.number.result _ _ _ _ c.number-first.ensures.bound c.number.ensures.bound
      c.saturating_sub-days.ensures c.open_among-week.ensures c.open_among-rest.ensures
      (rw (
        c.counted.ensures,
        ← c.number-first.ensures.value,
        ← c.number.ensures.value,
      ) at c.count_between-closed.ensures.count)).small in omega arith;
}

pub overflow_add-result : goal.overflow_add-result
overflow_add-result g c = record {
  fits = let small = (IsCounted-weeks (record { weekly = c.self.inside.weekly; single = c.self.inside.single }) c.number-first.result
      c.number.result _ _ _ _ c.number-first.ensures.bound c.number.ensures.bound
      c.saturating_sub-days.ensures c.open_among-week.ensures c.open_among-rest.ensures
      (rw (
        c.counted.ensures,
        ← c.number-first.ensures.value,
        ← c.number.ensures.value,
      ) at c.count_between-closed.ensures.count)).small in omega arith;
}

pub overflow_sub-result : goal.overflow_sub-result
overflow_sub-result g c = (IsCounted-weeks (record { weekly = c.self.inside.weekly; single = c.self.inside.single }) c.number-first.result
    c.number.result _ _ _ _ c.number-first.ensures.bound c.number.ensures.bound
    c.saturating_sub-days.ensures c.open_among-week.ensures c.open_among-rest.ensures
    (rw (c.counted.ensures, ← c.number-first.ensures.value, ← c.number.ensures.value) at c.count_between-closed.ensures.count)).enough

pub returns-clause-count : goal.returns-clause-count
returns-clause-count g c = rw (
  c.self.view_is,
  c.number-first.ensures.value,
  c.number.ensures.value,
) at (IsCounted-weeks (record { weekly = c.self.inside.weekly; single = c.self.inside.single })
    c.number-first.result c.number.result _ _ _ _ c.number-first.ensures.bound c.number.ensures.bound
    c.saturating_sub-days.ensures c.open_among-week.ensures c.open_among-rest.ensures
    (rw (c.counted.ensures, ← c.number-first.ensures.value, ← c.number.ensures.value) at c.count_between-closed.ensures.count)).counted
