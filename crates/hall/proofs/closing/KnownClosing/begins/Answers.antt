use Rattle.std.proofs.Common.{◌++◌, ◌∙◌, sym, ap}
use Rattle.hall.proofs.closing.KnownClosing.begins.Goals as goal

pub returns-clause-yes : goal.returns-clause-yes
returns-clause-yes g c = λ less.
    let p = c.begins.ensures.yes less in
    (p.0, sym c.other.view_is ∙ (sym p.1 ∙ ap (λ l. l ++ p.0) c.self.view_is))

pub returns-clause-no : goal.returns-clause-no
returns-clause-no g c = λ more. rw (← c.self.view_is, ← c.other.view_is) (c.begins.ensures.no more)
