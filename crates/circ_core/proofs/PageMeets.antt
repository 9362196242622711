-- Page meets the history.
use Rattle.std.proofs.Common.{◌≡◌, ℕ, [], refl, ◌∙◌, ap}
use Rattle.std.specs.Prelude.{Option, is_none}
use Rattle.terms.specs.declared.row.PatronRow.{PatronRow}
use Rattle.terms.specs.declared.command.Command.TheVariants.{Page}
use Rattle.terms.specs.declared.reply.Reply.TheVariants.{Done}
use Rattle.model.specs.History.{History, patron_of}
use Rattle.model.specs.Picture.{patron_row, patron_columns}
use Rattle.circ_core.specs.Page.{page_checks}
use Rattle.circ_core.proofs.Meets.{Meets}
use Rattle.circ_core.proofs.Rows.{none-map}

pub page_meets : (H : History) (p : ℕ) (row : Option PatronRow) → row ≡ patron_row H p → Meets H (Page p) (page_checks row) Done []
page_meets H p row w = record {
  same = (refl, (ap is_none w ∙ none-map (patron_columns H p) (patron_of H p)), λ _. tt);
  due = λ _. refl;
  leads = λ _ owner key. refl;
}
