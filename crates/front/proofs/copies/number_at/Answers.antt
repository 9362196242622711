use Rattle.std.proofs.Common.{ℕ, sym, subst}
use Rattle.std.specs.Prelude.{Option, IfNone}
use Rattle.std.specs.Fmt.{decimal}
use Rattle.csv.specs.Records.{fields_of}
use Rattle.front.specs.CopyReading.{HasNumber}
use Rattle.front.proofs.CopyRows.{decimal-IsUtf8}
use Rattle.front.proofs.copies.number_at.Goals as goal

pub returns-in_err-text_at-clause-none : goal.returns-in_err-text_at-clause-none
returns-in_err-text_at-clause-none c =
    subst (λ (o : Option ℕ). IfNone o ((n : ℕ) → HasNumber (fields_of c.args.fields.now) c.args.place n → ⊥)) (sym c.from_residual.ensures)
    (λ n h. c.in_err-text_at.ensures.none (decimal n) (decimal-IsUtf8 n h.0) h.1)
