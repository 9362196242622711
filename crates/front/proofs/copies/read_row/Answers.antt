use Rattle.std.proofs.Common.{◌≡◌, ℕ, List, true, rules, subst}
use Rattle.std.specs.Prelude.{IfSome, IsUtf8}
use Rattle.csv.specs.Records.{fields_of}
use Rattle.front.proofs.CopyRows.{closing_of, no_name, row_made, text_of}
use Rattle.front.proofs.copies.read_row.Goals as goal

pub returns-then-not-is_word_at-clause-bad : goal.returns-then-not-is_word_at-clause-bad
returns-then-not-is_word_at-clause-bad c =
    record { none = λ row h. let closed : c.is_word_at.result ≡ true = c.is_word_at.ensures.1 (closing_of (fields_of c.args.fields.now) row h) in absurd (cc) }

pub returns-in_default-clause-bad : goal.returns-in_default-clause-bad
returns-in_default-clause-bad c =
    record { none = λ row h. c.in_default.ensures.none row.text h.0.0.1.1.1.1.1.0.1 (text_of (fields_of c.args.fields.now) row h) }

pub returns-in-Some-2-clause-good : goal.returns-in-Some-2-clause-good
returns-in-Some-2-clause-good c =
    let text = rw c.in-Some-2.is at c.in_ok-text.ensures in
    let closed : c.is_word_at.result ≡ true = search rules in
    let utf8 : IsUtf8 c.in-Some.text.now = search rules in
    row_made (fields_of c.args.fields.now) c.row_with.result c.in-Some.text.now (search rules)
    (c.is_word_at.ensures.0 closed) c.in-Some.ensures.some (text.0, utf8)
    (subst (λ (t : List ℕ). IfSome c.row_with.result (λ row. row.text ≡ t)) text.1 c.row_with.ensures.text) c.row_with.ensures.numbers

pub returns-in-None-clause-bad : goal.returns-in-None-clause-bad
returns-in-None-clause-bad c = no_name (fields_of c.args.fields.now) c.in-Some.text.now c.in-Some.ensures.some (rw c.in-None.is at c.in_ok-text.ensures)
