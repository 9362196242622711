-- Kind meets the history.
use Rattle.std.proofs.Common.{ℕ, ◌∷◌, refl}
use Rattle.terms.specs.declared.command.Command.TheVariants.{Kind}
use Rattle.terms.specs.declared.reply.Reply.TheVariants.{Done}
use Rattle.model.specs.History.{History, kind_of}
use Rattle.model.specs.Picture.{picture, kind_columns}
use Rattle.circ_core.specs.Decides.{event}
use Rattle.circ_core.specs.Kind.{kind_checks, kind_rows}
use Rattle.circ_core.proofs.Meets.{Meets}
use Rattle.circ_core.proofs.Rows.{put_set}

pub kind_meets : (H : History) (k loans holds debt : ℕ)
    → Meets H (Kind k loans holds debt) (kind_checks k loans holds debt) Done (kind_rows k loans holds debt)
kind_meets H k loans holds debt = record {
  same = (refl, refl, λ _. tt);
  due = λ _. refl;
  leads = λ _ owner key. λ i. record (picture (event owner key (Kind k loans holds debt) ∷ H)) {
    kinds = λ n. put_set (kind_columns H) (kind_of H) k (record { loans = loans; holds = holds; debt = debt }) n i;
  };
}
