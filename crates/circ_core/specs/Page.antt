-- The check of `page`, on the rows of a view.
use Rattle.std.specs.Prelude.{List, [], ◌∷◌, Option, is_none}
use Rattle.terms.specs.declared.refusal.Refusal.TheVariants.{UnknownPatron}
use Rattle.terms.specs.declared.row.PatronRow.{PatronRow}
use Rattle.model.specs.Checks.{Check}

abbrev pub page_checks : Option PatronRow → List Check
page_checks row = (UnknownPatron, is_none row) ∷ []
