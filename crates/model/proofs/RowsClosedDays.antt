-- A worked example of a branch with as many single closed days as allowed.
use Rattle.std.specs.Prelude.{ℕ, zero, suc, ◌+◌, List, [], ◌∷◌, codes, refl}
use Rattle.std.specs.Fmt.{digits}
use Rattle.terms.specs.declared.command.Command.TheVariants.{Branch, Week, CloseDay, Acquire, CheckOut}
use Rattle.terms.specs.declared.command.Request.{Request}
use Rattle.terms.specs.Texts.{reply_text, reply_words, routed_words}
use Rattle.model.specs.History.{History}
use Rattle.model.specs.Requests.{after}
use Rattle.model.proofs.Rows.{by_desk, desk, closed_in, Gives, gives, ground}

-- A branch that is open on Mondays alone, with a copy.
abbrev hill : History
hill = after ground (desk (Branch 3 5 (codes "Hill") ∷ Week 3 (closed_in "occcccc") ∷ Acquire 40 400 1 3 900 (codes "High Pastures") ∷ []))

-- The requests to close n Mondays of that branch from the day d on, each under a key of its own.
abbrev mondays : ℕ → ℕ → List Request
mondays zero d = []
mondays (suc n) d = by_desk (d ∷ []) (CloseDay 3 d) ∷ mondays n (d + 7)

-- With 400 Mondays closed a day that is closed is told as such, the next single day is refused, and a due day lies behind them all.
four_hundred_single_closed_days : Gives (after hill (mondays 400 20521))
    (by_desk (codes "x") (CloseDay 3 20521) ∷ by_desk (codes "y") (CloseDay 3 23321) ∷ by_desk (codes "z") (CheckOut 1 40 3) ∷ [])
    ("refused 24" ∷ "refused 21" ∷ "loan 1 due 2033-11-07" ∷ [])
unfolding digits reply_text reply_words routed_words
four_hundred_single_closed_days = gives refl
