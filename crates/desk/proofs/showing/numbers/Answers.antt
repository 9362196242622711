use Rattle.std.proofs.Common.{◌≡◌, ℕ, ◌+◌, ◌<◌, List, [], ◌∷◌, ◌++◌, length, map, take, sym, ◌∙◌, ap, arith}
use Rattle.std.proofs.lemmas.List.{take_all, take_more, map-append}
use Rattle.terms.specs.declared.row.PatronRow.{PatronRow}
use Rattle.desk.proofs.showing.numbers.Goals as goal

pub rows-preserved : goal.rows-preserved
rows-preserved c =
    let xs : List PatronRow = c.args.rows.now in
    let i : ℕ = c.rows.row-index in
    let r : PatronRow = c.row-item.result in
    let within : i < length xs = omega (arith, c.rows-test.true) in
    let more : take (i + 1) xs ≡ take i xs ++ r ∷ [] = take_more xs i r within ∙ ap (λ x. take i xs ++ x ∷ []) (sym c.row-item.is) in
    c.in_ok-push.ensures.items ∙ ap (λ (ns : List ℕ). ns ++ r.patron ∷ []) c.rows.invariant
    ∙ sym (map-append (λ (y : PatronRow). y.patron) (take i xs) (r ∷ [])) ∙ ap (map (λ (y : PatronRow). y.patron)) (sym more)

pub returns : goal.returns
returns c = c.rows.invariant ∙ ap (map (λ (y : PatronRow). y.patron)) (take_all c.rows.row-index c.args.rows.now c.rows-test.false)
