use Rattle.std.proofs.Common.{◌≡◌, ◌∙◌, ◌+◌, ℕ, arith, ap, map, sym, subst, length, List}
use Rattle.std.specs.Prelude.{Option, IfNone, string_bytes}
use Rattle.std.specs.Borrow.{Bor}
use Rattle.std.proofs.lemmas.List.{length-map}
use Rattle.terms.specs.Commands.{column, commands, parts_in}
use Rattle.terms.specs.declared.command.Command.{Command}
use Rattle.terms.specs.declared.form.PartForm.{PartForm}
use Rattle.front.specs.Line.{HasShape}
use Rattle.front.specs.Understood.{IsUnderstoodAs, texts_of}
use Rattle.front.proofs.Shapes.{no_words, no_parts, other_count, shape-made}
use Rattle.front.proofs.words.form_of_words.Goals as goal

pub returns-in_default-clause-none : goal.returns-in_default-clause-none
returns-in_default-clause-none c = λ said h. no_words c.commands_are_listed.ensures c.args.words.now said (omega arith) h

pub returns-in_err-parts-clause-none : goal.returns-in_err-parts-clause-none
returns-in_err-parts-clause-none c =
    let name = c.as_str-name.ensures.value ∙ ap string_bytes c.first-item.is in
    let none = ap (parts_in commands) (sym name) ∙ sym c.in_err-parts.ensures in
    subst (λ (o : Option (Bor (List ℕ) × Bor (List PartForm))). IfNone o ((said : Command) → IsUnderstoodAs (texts_of c.args.words.now) said → ⊥))
    (sym c.from_residual.ensures)
    (λ said h. no_parts c.commands_are_listed.ensures c.args.words.now c.first-item.result said (omega arith) none h)

pub returns-then-parts-others-clause-none : goal.returns-then-parts-others-clause-none
returns-then-parts-others-clause-none c =
    let name = c.as_str-name.ensures.value ∙ ap string_bytes c.first-item.is in
    let parts = c.in_ok-parts.parts.now in
    let known = ap (parts_in commands) (sym name) ∙ sym c.in_ok-parts.ensures in
    λ said h. other_count c.commands_are_listed.ensures c.args.words.now c.first-item.result (map column parts) said (omega arith) known
    (λ (q : length (map column parts) + 1 ≡ length c.args.words.now). omega (arith, q, length-map parts column)) h

pub returns-clause-some : goal.returns-clause-some
returns-clause-some c =
    let name = c.as_str-name.ensures.value ∙ ap string_bytes c.first-item.is in
    let parts = c.in_ok-parts.parts.now in
    let known = ap (parts_in commands) (sym name) ∙ sym c.in_ok-parts.ensures in
    subst (λ (text : List ℕ). HasShape (texts_of c.args.words.now) (text, map column parts)) (sym name)
    (shape-made c.args.words.now c.first-item.result (map column parts) (omega arith) known
    (omega (arith, length-map parts column))
    (sym c.any_has_hyphen.ensures ∙ c.if-any_has_hyphen.false))
