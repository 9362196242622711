use Rattle.std.proofs.Common.{List, ℕ, ◌++◌, ◌∙◌, ap}
use Rattle.desk.proofs.Listings.{listed-is}
use Rattle.desk.proofs.Looking.{gives, stops}
use Rattle.desk.proofs.Parts.{learnt-of, fault-of}
use Rattle.desk.proofs.listing.list_text.Goals as goal

pub returns-in-Err : goal.returns-in-Err
returns-in-Err g c = rw c.of_text.ensures (fault-of c.in-Err.why c.in-Err.ensures (λ H list needs. needs.0))

pub returns-in_err-with_end-in-Ok : goal.returns-in_err-with_end-in-Ok
returns-in_err-with_end-in-Ok g c = stops _ c.from_residual.ensures (learnt-of c.in-Ok.ensures)

pub returns-in_ok-with_end-in-Ok : goal.returns-in_ok-with_end-in-Ok
returns-in_ok-with_end-in-Ok g c = gives (learnt-of c.in-Ok.ensures) (λ H list needs. needs.0) (λ H legal needs is.
    c.in_ok-with_end-in-Ok.ensures
    ∙ listed-is (g.L.Listed.list c.args.list.now H) c.args.after c.in-Ok.told is.0 _ is.2 (is.1 ∙ ap (λ (t : List ℕ). t ++ is.0) needs.1))
