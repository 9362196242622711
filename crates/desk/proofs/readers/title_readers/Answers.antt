use Rattle.model.proofs.RowRanges.{legal-rows}
use Rattle.desk.proofs.Looking.{looked, ◌⨾◌, gives, stops, fails}
use Rattle.desk.proofs.TitleReaders.{readers-are}
use Rattle.desk.proofs.readers.title_readers.Goals as goal

pub returns-in_err-copies : goal.returns-in_err-copies
returns-in_err-copies g c = fails _ c.from_residual.ensures (looked c.in_err-copies.ensures legal-rows legal-rows) (λ _ _ _. tt)

pub returns-in_err-add_borrowers : goal.returns-in_err-add_borrowers
returns-in_err-add_borrowers g c =
    let copies = looked c.in_ok-copies.ensures legal-rows legal-rows in
    fails _ c.from_residual-in_err-add_borrowers.ensures (copies ⨾ c.in_err-add_borrowers.ensures) (λ _ _ _. (tt, λ _. tt))

pub returns-in_err-holds : goal.returns-in_err-holds
returns-in_err-holds g c =
    let copies = looked c.in_ok-copies.ensures legal-rows legal-rows in
    let holds = looked c.in_err-holds.ensures legal-rows legal-rows in
    fails _ c.from_residual-in_err-holds.ensures (copies ⨾ c.in_ok-add_borrowers.ensures ⨾ holds) (λ _ _ _. (tt, λ _. (tt, λ _. tt)))

pub returns-in_err-add_holders : goal.returns-in_err-add_holders
returns-in_err-add_holders g c =
    let copies = looked c.in_ok-copies.ensures legal-rows legal-rows in
    let holds = looked c.in_ok-holds.ensures legal-rows legal-rows in
    stops _ c.from_residual-in_err-add_holders.ensures (copies ⨾ c.in_ok-add_borrowers.ensures ⨾ holds)

pub returns : goal.returns
returns g c =
    let copies = looked c.in_ok-copies.ensures legal-rows legal-rows in
    let holds = looked c.in_ok-holds.ensures legal-rows legal-rows in
    gives (copies ⨾ c.in_ok-add_borrowers.ensures ⨾ holds) (λ _ _ _. (tt, λ _. (tt, λ _. tt)))
    (λ H legal _ is.
    readers-are H c.args.title c.in_ok-copies.copies.items c.in_ok-holds.holds.items c.add_borrowers.new.readers c.add_holders.new.readers is.0
    (rw (c.deref.ensures.value, c.none-readers.ensures) at is.1.0) is.1.1 (rw c.deref-2.ensures.value at c.in_ok-add_holders.ensures))
