-- A batch of rows is a batch of the requested list.
use Rattle.std.proofs.Common.{◌≡◌, ℕ, ◌<◌, List, sym, ap}
use Rattle.std.specs.Prelude.{Option, Some, None, option_map}
use Rattle.store.specs.Batches.{AreAccountLinesAfter, AreCopiesAfter, AreDebtorsAfter, AreReadyAfter, AreOverdueAfter, AreTransitsAfter}
use Rattle.store.specs.Batches.{AreWaitingAfter, AreWaitingForAfter, AreMissingAfter, AreLoansOfAfter}
use Rattle.terms.specs.declared.row.Condition.TheVariants.{Missing}
use Rattle.terms.specs.declared.row.CopyRow.{CopyRow}
use Rattle.terms.specs.declared.row.HoldRow.{HoldRow}
use Rattle.terms.specs.declared.row.HoldState.TheVariants.{Waiting, Ready}
use Rattle.terms.specs.declared.row.LineRow.{LineRow}
use Rattle.terms.specs.declared.row.LoanRow.{LoanRow}
use Rattle.terms.specs.declared.row.PatronRow.{PatronRow}
use Rattle.terms.specs.declared.row.TransitRow.{TransitRow}
use Rattle.model.specs.Accounts.{Line, lines, nth_line}
use Rattle.model.specs.Asking.{copies_list, transits_list, queue_list, account_list, debts_list, pulls_list, overdue_list, shelf_list}
use Rattle.model.specs.Asking.{missing_copies_list, loans_list}
use Rattle.model.specs.History.{History, today, CopyFacts, copy_of, PatronFacts, patron_of}
use Rattle.model.specs.Invariant.{Invariant}
use Rattle.model.specs.Picture.{picture, copy_columns, patron_columns, line_columns}
use Rattle.model.specs.Requests.{IsLegal}
use Rattle.model.proofs.Asking.{lists-rise}
use Rattle.model.proofs.ShownRows.{rows-are-shown}
use Rattle.desk.specs.Listing.{HasBatch}
use Rattle.desk.proofs.ListNumbers.{batch-of, copies-from, transits-from, transit-copy, queue-from, account-from, debts-from, pulls-from}
use Rattle.desk.proofs.OverdueLists.{overdue-listed}
use Rattle.desk.proofs.PageLists.{hold-number, loan-number}
use Rattle.desk.proofs.ShelfLists.{ready-listed}

module _ (H : History) where
  pub copy-number : (k : ℕ) (r : CopyRow) → (picture H).copies k ≡ Some r → r.copy ≡ k
  copy-number k r there = go (copy_of H k) there
    where
      go : (o : Option CopyFacts) → option_map (copy_columns H k) o ≡ Some r → r.copy ≡ k
      go (Some f) e = let same : copy_columns H k f ≡ r = cc in sym (ap (λ (x : CopyRow). x.copy) same)
      go None e = let never : ⊥ = cc in absurd never

  pub patron-number : (k : ℕ) (r : PatronRow) → (picture H).patrons k ≡ Some r → r.patron ≡ k
  patron-number k r there = go (patron_of H k) there
    where
      go : (o : Option PatronFacts) → option_map (patron_columns H k) o ≡ Some r → r.patron ≡ k
      go (Some f) e = let same : patron_columns H k f ≡ r = cc in sym (ap (λ (x : PatronRow). x.patron) same)
      go None e = let never : ⊥ = cc in absurd never

  line-number : (k : ℕ) (r : LineRow) → (picture H).lines k ≡ Some r → r.line ≡ k
  line-number k r there = go (nth_line (lines H) k) there
    where
      go : (o : Option Line) → option_map (line_columns H k) o ≡ Some r → r.line ≡ k
      go (Some f) e = let same : line_columns H k f ≡ r = cc in sym (ap (λ (x : LineRow). x.line) same)
      go None e = let never : ⊥ = cc in absurd never

  pub copies-batch : (t at : ℕ) (rows : List CopyRow) → AreCopiesAfter (picture H) t at rows
      → HasBatch (λ r. r.copy) (λ r. ((picture H).copies r.copy ≡ Some r) × (r.title ≡ t)) (copies_list H t) at rows
  copies-batch t at rows batch =
      batch-of (picture H).copies (λ r. r.copy) (λ r. r.title ≡ t) (copies_list H t) copy-number (copies-from H t) ((lists-rise H).copies t)
      (λ r. (r.title ≡ t) × (at < r.copy)) at rows (λ r passes. passes) (λ r passes less. (passes, less)) batch

  pub transits-batch : (b at : ℕ) (rows : List TransitRow) → AreTransitsAfter (picture H) b at rows
      → HasBatch (λ r. r.copy) (λ r. ((picture H).transits r.copy ≡ Some r) × (r.goal ≡ b)) (transits_list H b) at rows
  transits-batch b at rows batch =
      batch-of (picture H).transits (λ r. r.copy) (λ r. r.goal ≡ b) (transits_list H b) (transit-copy H) (transits-from H b) ((lists-rise H).transits b)
      (λ r. (r.goal ≡ b) × (at < r.copy)) at rows (λ r passes. passes) (λ r passes less. (passes, less)) batch

  pub account-batch : (p at : ℕ) (rows : List LineRow) → AreAccountLinesAfter (picture H) p at rows
      → HasBatch (λ r. r.line) (λ r. ((picture H).lines r.line ≡ Some r) × (r.patron ≡ p)) (account_list H p) at rows
  account-batch p at rows batch =
      batch-of (picture H).lines (λ r. r.line) (λ r. r.patron ≡ p) (account_list H p) line-number (account-from H p) ((lists-rise H).account p)
      (λ r. (r.patron ≡ p) × (at < r.line)) at rows (λ r passes. passes) (λ r passes less. (passes, less)) batch

  pub debts-batch : (at : ℕ) (rows : List PatronRow) → AreDebtorsAfter (picture H) at rows
      → HasBatch (λ r. r.patron) (λ r. ((picture H).patrons r.patron ≡ Some r) × (0 < r.owed)) (debts_list H) at rows
  debts-batch at rows batch =
      batch-of (picture H).patrons (λ r. r.patron) (λ r. 0 < r.owed) (debts_list H) patron-number (debts-from H) ((lists-rise H).debts)
      (λ r. (0 < r.owed) × (at < r.patron)) at rows (λ r passes. passes) (λ r passes less. (passes, less)) batch

  module _ (inv : Invariant H) where
    pub queue-batch : (t at : ℕ) (rows : List HoldRow) → AreWaitingForAfter (picture H) t at rows
        → HasBatch (λ r. r.hold) (λ r. ((picture H).holds r.hold ≡ Some r) × ((r.title ≡ t) × (r.state ≡ Waiting))) (queue_list H t) at rows
    queue-batch t at rows batch =
        batch-of (picture H).holds (λ r. r.hold) (λ r. (r.title ≡ t) × (r.state ≡ Waiting)) (queue_list H t) (hold-number H) (queue-from H inv t)
        ((lists-rise H).queue t)
        (λ r. (r.title ≡ t) × (r.state ≡ Waiting) × (at < r.hold)) at rows (λ r passes. ((passes.0, passes.1), passes.2))
        (λ r passes less. (passes.0, passes.1, less)) batch

    pub pulls-batch : (b at : ℕ) (rows : List HoldRow) → AreWaitingAfter (picture H) at rows
        → HasBatch (λ r. r.hold) (λ r. ((picture H).holds r.hold ≡ Some r) × (r.state ≡ Waiting)) (pulls_list H b) at rows
    pulls-batch b at rows batch =
        batch-of (picture H).holds (λ r. r.hold) (λ r. r.state ≡ Waiting) (pulls_list H b) (hold-number H) (pulls-from H inv b) ((lists-rise H).pulls b)
        (λ r. (r.state ≡ Waiting) × (at < r.hold)) at rows (λ r passes. passes) (λ r passes less. (passes, less)) batch

    pub shelf-batch : (b at : ℕ) (rows : List HoldRow) → AreReadyAfter (picture H) b at rows
        → HasBatch (λ r. r.hold) (λ r. ((picture H).holds r.hold ≡ Some r) × ((r.branch ≡ b) × (r.state ≡ Ready))) (shelf_list H b) at rows
    shelf-batch b at rows batch =
        batch-of (picture H).holds (λ r. r.hold) (λ r. (r.branch ≡ b) × (r.state ≡ Ready)) (shelf_list H b) (hold-number H) (ready-listed H inv b)
        ((lists-rise H).shelf b)
        (λ r. (r.branch ≡ b) × (r.state ≡ Ready) × (at < r.hold)) at rows (λ r passes. ((passes.0, passes.1), passes.2))
        (λ r passes less. (passes.0, passes.1, less)) batch

    pub overdue-batch : (b day at : ℕ) → day ≡ today H → (rows : List LoanRow) → AreOverdueAfter (picture H) b day at rows
        → HasBatch (λ r. r.loan) (λ r. ((picture H).loans r.loan ≡ Some r) × ((r.branch ≡ b) × (r.ended ≡ None) × (r.due < day))) (overdue_list H b) at rows
    overdue-batch b day at now rows batch =
        batch-of (picture H).loans (λ r. r.loan) (λ r. (r.branch ≡ b) × (r.ended ≡ None) × (r.due < day)) (overdue_list H b) (loan-number H)
        (overdue-listed H inv b day now) ((lists-rise H).overdue b)
        (λ r. (r.branch ≡ b) × (r.ended ≡ None) × (r.due < day) × (at < r.loan)) at rows (λ r passes. ((passes.0, passes.1, passes.2), passes.3))
        (λ r passes less. (passes.0, passes.1, passes.2, less)) batch

  module _ (legal : IsLegal H) where
    pub missing-batch : (at : ℕ) (rows : List CopyRow) → AreMissingAfter (picture H) at rows
        → HasBatch (λ r. r.copy) (λ r. ((picture H).copies r.copy ≡ Some r) × (r.condition ≡ Missing)) (missing_copies_list H) at rows
    missing-batch at rows batch =
        batch-of (picture H).copies (λ r. r.copy) (λ r. r.condition ≡ Missing) (missing_copies_list H) copy-number
        (λ k is. ((rows-are-shown H legal).missing_copies k).0 is) (lists-rise H).missing_copies
        (λ r. (r.condition ≡ Missing) × (at < r.copy)) at rows (λ r passes. passes) (λ r passes less. (passes, less)) batch

    pub loans-batch : (c at : ℕ) (rows : List LoanRow) → AreLoansOfAfter (picture H) c at rows
        → HasBatch (λ r. r.loan) (λ r. ((picture H).loans r.loan ≡ Some r) × (r.copy ≡ c)) (loans_list H c) at rows
    loans-batch c at rows batch =
        batch-of (picture H).loans (λ r. r.loan) (λ r. r.copy ≡ c) (loans_list H c) (loan-number H)
        (λ k is. ((rows-are-shown H legal).loans c k).0 is) ((lists-rise H).loans c)
        (λ r. (r.copy ≡ c) × (at < r.loan)) at rows (λ r passes. passes) (λ r passes less. (passes, less)) batch
