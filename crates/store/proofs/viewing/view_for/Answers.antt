use Rattle.std.proofs.Common.{[]}
use Rattle.store.proofs.viewing.view_for.Goals as goal

pub returns-in-BeginDay-clause-view : goal.returns-in-BeginDay-clause-view
returns-in-BeginDay-clause-view g c = rw c.in-BeginDay.is c.meta_view.ensures.view

pub returns-in-BeginDay-clause-only : goal.returns-in-BeginDay-clause-only
returns-in-BeginDay-clause-only g c = rw c.in-BeginDay.is (c.meta_view.ensures.only 0)

pub returns-in-Branch-clause-only : goal.returns-in-Branch-clause-only
returns-in-Branch-clause-only g c = rw c.in-Branch.is (c.branch_row_view.ensures.only [])

pub returns-in-Week-clause-only : goal.returns-in-Week-clause-only
returns-in-Week-clause-only g c = rw c.in-Week.is (c.branch_row_view-in-Week.ensures.only [])

pub returns-in-CloseDay-clause-view : goal.returns-in-CloseDay-clause-view
returns-in-CloseDay-clause-view g c = rw c.in-CloseDay.is c.closed_day_view.ensures.view

pub returns-in-CloseDay-clause-only : goal.returns-in-CloseDay-clause-only
returns-in-CloseDay-clause-only g c = rw c.in-CloseDay.is (c.closed_day_view.ensures.only 0)

pub returns-in-OpenDay-clause-view : goal.returns-in-OpenDay-clause-view
returns-in-OpenDay-clause-view g c = rw c.in-OpenDay.is c.closed_day_view-in-OpenDay.ensures.view

pub returns-in-OpenDay-clause-only : goal.returns-in-OpenDay-clause-only
returns-in-OpenDay-clause-only g c = rw c.in-OpenDay.is (c.closed_day_view-in-OpenDay.ensures.only 0)

pub returns-in-Rule-clause-only : goal.returns-in-Rule-clause-only
returns-in-Rule-clause-only g c = rw c.in-Rule.is (c.kind_view.ensures.only 0 0 0 0 0)

pub returns-in-Grace-clause-only : goal.returns-in-Grace-clause-only
returns-in-Grace-clause-only g c = rw c.in-Grace.is (c.rule_view.ensures.only 0)

pub returns-in-Patron-clause-only : goal.returns-in-Patron-clause-only
returns-in-Patron-clause-only g c = rw c.in-Patron.is (c.patron_view.ensures.only [] [])

pub returns-in-Acquire-clause-only : goal.returns-in-Acquire-clause-only
returns-in-Acquire-clause-only g c = rw c.in-Acquire.is (c.acquire_view.ensures.only 0 0 [])

pub returns-in-AmendPatron-clause-only : goal.returns-in-AmendPatron-clause-only
returns-in-AmendPatron-clause-only g c = rw c.in-AmendPatron.is (c.patron_view-in-AmendPatron.ensures.only [] [])

pub returns-in-AmendBranch-clause-only : goal.returns-in-AmendBranch-clause-only
returns-in-AmendBranch-clause-only g c = rw c.in-AmendBranch.is (c.branch_row_view-in-AmendBranch.ensures.only [])

pub returns-in-AmendTitle-clause-only : goal.returns-in-AmendTitle-clause-only
returns-in-AmendTitle-clause-only g c = rw c.in-AmendTitle.is (c.title_view.ensures.only [])

pub returns-in-AmendCopy-clause-only : goal.returns-in-AmendCopy-clause-only
returns-in-AmendCopy-clause-only g c = rw c.in-AmendCopy.is (c.copy_row_view.ensures.only 0 0)

pub returns-in-Pay-clause-only : goal.returns-in-Pay-clause-only
returns-in-Pay-clause-only g c = rw c.in-Pay.is (c.account_view.ensures.only 0)

pub returns-in-Waive-clause-only : goal.returns-in-Waive-clause-only
returns-in-Waive-clause-only g c = rw c.in-Waive.is (c.account_view-in-Waive.ensures.only 0)

pub returns-in-DropBarcode-clause-view : goal.returns-in-DropBarcode-clause-view
returns-in-DropBarcode-clause-view g c = rw c.in-DropBarcode.is c.labelled_view.ensures.view

pub returns-in-Charge-clause-only : goal.returns-in-Charge-clause-only
returns-in-Charge-clause-only g c = rw c.in-Charge.is (c.counter_view.ensures.only 0)

pub returns-in-PayAt-clause-only : goal.returns-in-PayAt-clause-only
returns-in-PayAt-clause-only g c = rw c.in-PayAt.is (c.counter_view-in-PayAt.ensures.only 0)
