-- Begin-day meets the history.
use Rattle.std.proofs.Common.{◌≡◌, ℕ, refl}
use Rattle.terms.specs.declared.row.MetaRow.{MetaRow}
use Rattle.terms.specs.declared.command.Command.TheVariants.{BeginDay}
use Rattle.terms.specs.declared.reply.Reply.TheVariants.{Done}
use Rattle.model.specs.History.{History}
use Rattle.model.specs.Picture.{meta_row}
use Rattle.circ_core.specs.BeginDay.{begin_day_checks, begin_day_rows}
use Rattle.circ_core.proofs.Meets.{Meets}

begin_day_at : (H : History) (day : ℕ) → Meets H (BeginDay day) (begin_day_checks (meta_row H) day) Done (begin_day_rows (meta_row H) day)
begin_day_at H day = record {
  same = (refl, refl, λ _. tt);
  due = λ _. refl;
  leads = λ _ owner key. refl;
}

pub begin_day_meets : (H : History) (day : ℕ) (meta : MetaRow) → meta ≡ meta_row H
    → Meets H (BeginDay day) (begin_day_checks meta day) Done (begin_day_rows meta day)
begin_day_meets H day meta e = rw e (begin_day_at H day)
