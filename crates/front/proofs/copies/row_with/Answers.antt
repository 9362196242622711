use Rattle.std.proofs.Common.{sym, subst}
use Rattle.std.specs.Prelude.{Option, IfNone}
use Rattle.csv.specs.Records.{fields_of}
use Rattle.front.specs.Copies.{IsNoRow}
use Rattle.front.specs.declared.copies.FileRow.{FileRow}
use Rattle.front.proofs.CopyRows.{numbers_of}
use Rattle.front.proofs.copies.row_with.Goals as goal

pub returns-in_err-number_at-clause-none : goal.returns-in_err-number_at-clause-none
returns-in_err-number_at-clause-none c =
    subst (λ (o : Option FileRow). IfNone o (IsNoRow (fields_of c.args.fields.now))) (sym c.from_residual.ensures)
    (record { none = λ row h. c.in_err-number_at.ensures.none row.copy (numbers_of _ row h).copy })

pub returns-in_err-number_at-2-clause-none : goal.returns-in_err-number_at-2-clause-none
returns-in_err-number_at-2-clause-none c =
    subst (λ (o : Option FileRow). IfNone o (IsNoRow (fields_of c.args.fields.now))) (sym c.from_residual-in_err-number_at-2.ensures)
    (record { none = λ row h. c.in_err-number_at-2.ensures.none row.title (numbers_of _ row h).title })

pub returns-in_err-number_at-3-clause-none : goal.returns-in_err-number_at-3-clause-none
returns-in_err-number_at-3-clause-none c =
    subst (λ (o : Option FileRow). IfNone o (IsNoRow (fields_of c.args.fields.now))) (sym c.from_residual-in_err-number_at-3.ensures)
    (record { none = λ row h. c.in_err-number_at-3.ensures.none row.kind (numbers_of _ row h).kind })

pub returns-in_err-number_at-4-clause-none : goal.returns-in_err-number_at-4-clause-none
returns-in_err-number_at-4-clause-none c =
    subst (λ (o : Option FileRow). IfNone o (IsNoRow (fields_of c.args.fields.now))) (sym c.from_residual-in_err-number_at-4.ensures)
    (record { none = λ row h. c.in_err-number_at-4.ensures.none row.home (numbers_of _ row h).home })

pub returns-in_err-number_at-5-clause-none : goal.returns-in_err-number_at-5-clause-none
returns-in_err-number_at-5-clause-none c =
    subst (λ (o : Option FileRow). IfNone o (IsNoRow (fields_of c.args.fields.now))) (sym c.from_residual-in_err-number_at-5.ensures)
    (record { none = λ row h. c.in_err-number_at-5.ensures.none row.price (numbers_of _ row h).price })
