use Rattle.std.proofs.Common.{sym, ◌∙◌}
use Rattle.model.proofs.Invariants.{legal-Invariant}
use Rattle.model.proofs.RowRanges.{legal-rows}
use Rattle.desk.proofs.Looking.{looked, idle, gives, stops, fails}
use Rattle.desk.proofs.ListRows.{queue-text}
use Rattle.desk.proofs.Queues.{not-begun, coming, in-line}
use Rattle.desk.proofs.lists.QueueForListed.row_text.Goals as goal

pub returns-then-not-has_begun : goal.returns-then-not-has_begun
returns-then-not-has_begun g c = gives idle (λ _ _ _. tt) (λ H legal given none.
    not-begun H (legal-Invariant H legal) c.args.self.now.title c.args.self.now.today c.args.row.now given.0 given.1.0
    (sym c.has_begun.ensures ∙ c.if-not-has_begun.true))

pub returns-in_err-_transit : goal.returns-in_err-_transit
returns-in_err-_transit g c = fails _ c.from_residual.ensures (looked c.in_err-_transit.ensures legal-rows legal-rows) (λ _ _ _. tt)

pub returns-in-Some : goal.returns-in-Some
returns-in-Some g c = gives (looked c.in_ok-_transit.ensures legal-rows legal-rows) (λ _ _ _. tt) (λ H legal given found.
    coming H (legal-Invariant H legal) c.args.self.now.title c.args.row.now c.in-Some._transit given.1.0 (rw c.in-Some.is at found))

pub returns-in_err-queue_row-in-None : goal.returns-in_err-queue_row-in-None
returns-in_err-queue_row-in-None g c = stops _ c.from_residual-in_err-queue_row-in-None.ensures (looked c.in_ok-_transit.ensures legal-rows legal-rows)

pub returns-in_ok-queue_row-in-None : goal.returns-in_ok-queue_row-in-None
returns-in_ok-queue_row-in-None g c = gives (looked c.in_ok-_transit.ensures legal-rows legal-rows) (λ _ _ _. tt) (λ H legal given found. (
  in-line H (legal-Invariant H legal) c.args.self.now.title c.args.self.now.today c.args.row.now given.0 given.1
      (sym c.has_begun.ensures ∙ c.if-not-has_begun.false) (rw c.in-None.is at found),
  c.in_ok-queue_row-in-None.ensures ∙ queue-text H c.args.self.now.title c.args.row.now given.1.0,
))
