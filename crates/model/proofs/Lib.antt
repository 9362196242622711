mod DayTexts
mod Rows
mod RowsLending
mod RowsGrace
mod RowsHolds
mod RowsReports
mod RowsAsking
mod RowsSearching
mod RowsSettings
mod RowsCopies
mod RowsCorrections
mod RowsLabels
mod RowsCharges
mod RowsClosedDays
mod RowsChecks
mod RowsOrder
mod RowsMoves
mod RowsApart
mod RowsTold
mod RowsLists
mod RowsPatrons
mod RowsTables
pub mod Amending
pub mod Rehoming
pub mod Passing
mod CheckOrder
pub mod MadeHolds
pub mod Least
pub mod Runs
pub mod Balance
pub mod Moves
pub mod Bindings
pub mod Legal
pub mod LoanLaws
pub mod ClaimsLaw
pub mod Repeats
pub mod Members
pub mod Final
pub mod Line
pub mod AccountLaws
pub mod PlaceLaws
pub mod Invariants
pub mod OpenDays
pub mod SettingLaws
pub mod DueDayLaws
pub mod LimitLaws
pub mod OwnRows
pub mod MoneyLaws
pub mod HoldRows
pub mod CalendarsMeet
pub mod SettingRanges
pub mod PlaceSteps
pub mod Postings
pub mod Staying
pub mod Unnoted
pub mod Labels
pub mod Notes
pub mod Counters
pub mod LendingRanges
pub mod KeptRanges
pub mod LabelRanges
pub mod RowRanges
pub mod References
pub mod ClosedDays
pub mod RepeatedLists
pub mod UntouchedPatrons
pub mod Corrections
pub mod Schemas
pub mod Asking
pub mod Debts
pub mod Searching
pub mod Found
pub mod AskedRows
pub mod Turns
pub mod Limits
pub mod OneEachLaw
pub mod Settings
pub mod ShownRows
pub mod StandingLimits
pub mod ChargedLoans
pub mod ChargedRows
pub mod KeptPlaces
pub mod SameFacts
pub mod SameSteps
pub mod SameChecks
pub mod Anonymous
