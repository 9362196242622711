-- What patrons are shown.
use Rattle.std.specs.Prelude.{◌≡◌, ◌==◌, ℕ, List, Option, is_some, option_map}
use Rattle.std.specs.List.{list_any}
use Rattle.terms.specs.Orders.{Rise}
use Rattle.terms.specs.declared.command.Owner.TheVariants.{Desk}
use Rattle.terms.specs.declared.command.Command.TheVariants.{Page}
use Rattle.model.specs.Answers.{answer}
use Rattle.model.specs.History.{History, patron_of}
use Rattle.desk.specs.declared.showing.OwnPage.{OwnPage}

-- An enrolled patron's page, as the desk would get it, and the card key that opens it.
abbrev pub own_page : History → ℕ → Option OwnPage
own_page H p = option_map (λ r. record { card_key = r.card_key; reply = answer H Desk (Page p) }) (patron_of H p)

-- These are the enrolled patrons, each once and by number.
pub record AreEnrolled (H : History) (patrons : List ℕ) : Type 0 where
  pub each : (p : ℕ) → list_any (λ q. q == p) patrons ≡ is_some (patron_of H p)
  pub rise : Rise (λ p. p) patrons
