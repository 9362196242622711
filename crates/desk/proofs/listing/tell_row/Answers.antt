use Rattle.std.proofs.Common.{inl, inr, refl}
use Rattle.desk.proofs.Parts.{fault-part, learnt-part, gives-part}
use Rattle.desk.proofs.RowsTold.{row-put}
use Rattle.desk.proofs.listing.tell_row.Goals as goal

pub returns-in_err-text : goal.returns-in_err-text
returns-in_err-text g c = fault-part _ _ c.from_residual.ensures c.in_err-text.ensures (λ H list given. given) (λ H given. inl refl)

pub returns-in-Some : goal.returns-in-Some
returns-in-Some g c = row-put (g.L.Listed.list c.args.list.now) (g.L.Listed.number_of c.args.row.now) c.in_ok-text.ensures c.in-Some.is
    c.number.ensures c.deref.ensures c.put_row.ensures

pub returns-in-None : goal.returns-in-None
returns-in-None g c = gives-part (learnt-part {Cut = λ _ _. ⊥} _ c.in_ok-text.ensures) (λ H list given. given)
    (λ H list given s is. inr (rw c.in-None.is at is.0, refl, is.1))
