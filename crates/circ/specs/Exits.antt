-- The programs' exit statuses.
use Rattle.std.specs.Prelude.{ℕ, ◌==◌, ◌||◌, if◌then◌else◌}
use Rattle.terms.specs.declared.reply.Reply.{Reply}
use Rattle.terms.specs.declared.reply.Reply.TheVariants.{Refused as Denied}
use Rattle.circ.specs.declared.lines.Exit.{Exit}
use Rattle.circ.specs.declared.lines.Exit.TheVariants.{Done, Refused, Faulted, NotUnderstood}

-- 0 done, 2 refused, 3 a fault, 4 words not understood.
abbrev pub status_of : Exit → ℕ
status_of Done = 0
status_of Refused = 2
status_of Faulted = 3
status_of NotUnderstood = 4

-- A refusal ends as refused, every other reply as done.
abbrev pub exit_of : Reply → Exit
exit_of (Denied refusal) = Refused
exit_of _ = Done

-- How a sent request ends the program, by its answer's status.
abbrev pub exit_for : ℕ → Exit
exit_for status =
    if status == 200 then Done
    else (if status == 403 || status == 409 then Refused
    else (if status == 400 || (status == 404 || (status == 405 || status == 413))
    then NotUnderstood else Faulted))
