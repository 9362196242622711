-- What the overdue report reads about its branch before its rows.
use Rattle.std.specs.Prelude.{◌≡◌, ℕ, Option, Some, None}
use Rattle.model.specs.History.{History}
use Rattle.model.specs.Picture.{picture}
use Rattle.desk.specs.Reporting.{CountsFor}
use Rattle.desk.specs.Written.{HasBranch}
use Rattle.desk.specs.declared.overdue.Lender.{Lender}

-- The calendar is the branch's, and the day is today.
abbrev pub CountsForLender : Lender → History → Type 0
CountsForLender lender H = CountsFor H lender.branch lender.calendar lender.today

-- It was read from the branch, if that exists.
abbrev pub IsLender : ℕ → History → Option Lender → Type 0
IsLender branch H (Some lender) = HasBranch H branch × (lender.branch ≡ branch) × CountsForLender lender H
IsLender branch H None = (picture H).branches branch ≡ None
