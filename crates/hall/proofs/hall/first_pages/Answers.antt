use Rattle.std.proofs.Common.{subst}
use Rattle.desk.proofs.Looking.{learns-on, ◌⨾◌}
use Rattle.hall.specs.Openings.{AreFirstPages}
use Rattle.hall.proofs.Pages.{first-whole}
use Rattle.hall.proofs.hall.first_pages.Goals as goal

pub returns : goal.returns
returns g c = learns-on (c.in_ok-patrons.ensures ⨾ c.pages_of.ensures) (λ _ _ _. (tt, λ _. tt))
    (λ H legal _ first met. first-whole H c.in_ok-patrons.patrons.items first met.0
    (subst (λ l. AreFirstPages l H first) c.as_slice.ensures.value met.1))
