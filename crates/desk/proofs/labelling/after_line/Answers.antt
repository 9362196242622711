use Rattle.std.proofs.Common.{ℕ, List, ◌∷◌, ◌++◌, append-nil, ◌∙◌, sym, ap}
use Rattle.std.specs.Prelude.{codes, decimal}
use Rattle.desk.proofs.Looking.{if-ok}
use Rattle.desk.proofs.labelling.after_line.Goals as goal

pub returns-in-Some : goal.returns-in-Some
returns-in-Some c = rw c.in-Some.is (if-ok _ _ c.format.result (λ text e. e
    ∙ ap (λ (end : List ℕ). 32 ∷ codes "at" ++ (32 ∷ (decimal c.args.row.now.branch ++ (32 ∷ codes "for" ++ (32 ∷ end))))) (sym (append-nil c.in-Some.text)))
    c.format.ensures.ok)

pub returns-in-None : goal.returns-in-None
returns-in-None c = rw c.in-None.is (if-ok _ _ c.format-in-None.result (λ text e. e
    ∙ ap (λ (end : List ℕ). 32 ∷ codes "at" ++ 32 ∷ end) (sym (append-nil (decimal c.args.row.now.branch))))
    c.format-in-None.ensures.ok)
