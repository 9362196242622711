use Rattle.std.proofs.Common.{◌≡◌, ◌+◌, ◌<◌, ℕ, List, length, take, get_or, sym, ap, ◌∙◌, subst}
use Rattle.std.proofs.lemmas.List.Sums.{fold_more}
use Rattle.hall_schedule.specs.declared.schedule.Act.{Act}
use Rattle.hall_schedule.specs.declared.schedule.Act.TheVariants.{Submit}
use Rattle.hall_schedule.specs.Schedules.{State, state_of, step, run, start, IsLawful}
use Rattle.hall_schedule.proofs.Laws.{run_lawful, step-taken}
use Rattle.hall_schedule.proofs.schedule.replay.Goals as goal

-- one more act
run_more : (es : List Act) (i : ℕ) (d : Act) (before after : State) → i < length es → before ≡ run (take i es)
    → after ≡ step before (get_or es i d) → after ≡ run (take (i + 1) es)
run_more es i d before after within was is = is ∙ (ap (λ s. step s (get_or es i d)) was ∙ sym (fold_more step start es i d within))

taken_more : (e : Act) (before after : State) (i : ℕ) → before.taken ≡ i → after ≡ step before e → after.taken ≡ i + 1
taken_more e before after i was is = ap (λ (s : State). s.taken) is ∙ (step-taken before e ∙ ap (λ n. n + 1) was)

pub returns-in-Err-clause-lawful : goal.returns-in-Err-clause-lawful
returns-in-Err-clause-lawful c =
    subst IsLawful (sym (c.in-Err.ensures.err ∙ c.loop-act.invariant.0)) (run_lawful (take c.loop-act.act-index c.args.acts.now))

pub loop-act-preserved : goal.loop-act-preserved
loop-act-preserved c =
    let es = c.args.acts.now in
    let i = c.loop-act.act-index in
    let before = state_of c.loop-act.world in
    let after = state_of c.take.new.self in (
      run_more es i (Submit 0 0) before after c.loop-act-test.true c.loop-act.invariant.0 c.in-Ok.ensures.ok,
      taken_more (get_or es i (Submit 0 0)) before after i c.loop-act.invariant.1 c.in-Ok.ensures.ok,
    )

pub returns-clause-lawful : goal.returns-clause-lawful
returns-clause-lawful c = subst IsLawful (sym c.loop-act.invariant.0) (run_lawful (take c.loop-act.act-index c.args.acts.now))
