-- Rule meets the history.
use Rattle.std.proofs.Common.{◌≡◌, ℕ, refl, ◌∙◌, ap}
use Rattle.std.specs.Prelude.{◌∷◌, Option, is_none}
use Rattle.terms.specs.declared.row.KindRow.{KindRow}
use Rattle.terms.specs.declared.command.Command.TheVariants.{Rule}
use Rattle.terms.specs.declared.reply.Reply.TheVariants.{Done}
use Rattle.model.specs.History.{History, kind_of, rule_of}
use Rattle.model.specs.Picture.{picture, kind_row, kind_columns, rule_columns}
use Rattle.circ_core.specs.Decides.{event}
use Rattle.circ_core.specs.Rule.{rule_checks, rule_rows}
use Rattle.circ_core.proofs.Meets.{Meets}
use Rattle.circ_core.proofs.Rows.{is_none-map, put_pair_set}

pub rule_meets : (H : History) (k c period renewals rate cap : ℕ) (row : Option KindRow) → row ≡ kind_row H k
    → Meets H (Rule k c period renewals rate cap) (rule_checks row k c period renewals rate cap) Done (rule_rows k c period renewals rate cap)
rule_meets H k c period renewals rate cap row w = record {
  same = (refl, refl, λ _. (refl, (ap is_none w ∙ is_none-map (kind_columns H k) (kind_of H k)), λ _. tt));
  due = λ _. refl;
  leads = λ _ owner key. λ i. record (picture (event owner key (Rule k c period renewals rate cap) ∷ H)) {
    rules = λ m n. put_pair_set (rule_columns H) (rule_of H) k c (record { period = period; renewals = renewals; rate = rate; cap = cap; grace = 0 }) m n i;
  };
}
