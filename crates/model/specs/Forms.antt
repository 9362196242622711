-- The form of every command that can be sent, and the limits that this gives the rows of a legal history.
use Rattle.std.specs.Prelude.{List, [], ◌∷◌}
use Rattle.terms.specs.declared.command.Request.{Request}
use Rattle.terms.specs.Forms.{IsKey}
use Rattle.terms.specs.Laws.{IsCommand}
use Rattle.terms.specs.Limits.{InLimits, ClosesFewDays}
use Rattle.model.specs.History.{History}
use Rattle.model.specs.DueDays.{HasWholeWeeks}
use Rattle.model.specs.Picture.{picture}
use Rattle.model.specs.Requests.{IsLegal, after}

-- Each command and key of the history has the form of those that can be sent.
abbrev pub HasForms : History → Type 0
HasForms [] = Unit {0}
HasForms (e ∷ H) = IsCommand e.command × IsKey e.key × HasForms H

-- Each command and key of the requests has its form.
abbrev pub AskForms : List Request → Type 0
AskForms [] = Unit {0}
AskForms (r ∷ rs) = IsCommand r.command × IsKey r.key × AskForms rs

-- Requests in form keep the history in form.
abbrev pub FormsStay : Type 0
FormsStay = (H : History) (rs : List Request) → HasForms H → AskForms rs → HasForms (after H rs)

-- If the commands have their forms, each week command covers all seven weekdays.
abbrev pub FormsAreWhole : Type 0
FormsAreWhole = (H : History) → HasForms H → HasWholeWeeks H

-- After a legal history no branch has more single closed days than allowed.
abbrev pub FewClosedDays : Type 0
FewClosedDays = (H : History) → IsLegal H → ClosesFewDays (picture H)

-- In every row of a legal history, each column is within its limits.
abbrev pub RowsInLimits : Type 0
RowsInLimits = (H : History) → IsLegal H → HasForms H → InLimits (picture H)
