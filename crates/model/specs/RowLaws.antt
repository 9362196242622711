-- Which rows of the tables each list of the desk's questions shows.
use Rattle.std.specs.Prelude.{◌≡◌, ℕ, zero, suc, ◌<◌, ◌≤◌, ◌==◌, ◌↔◌, Bool, true, false, ◌&&◌, List, [], ◌∷◌, ◌++◌, filter, sum_by, Option, Some, None, codes, decimal}
use Rattle.calendar.specs.Days.{day_text}
use Rattle.terms.specs.Texts.{mask_text}
use Rattle.terms.specs.declared.row.BranchRow.{BranchRow}
use Rattle.terms.specs.declared.row.KindRow.{KindRow}
use Rattle.terms.specs.declared.row.RuleRow.{RuleRow}
use Rattle.terms.specs.declared.row.Condition.TheVariants.{Missing}
use Rattle.terms.specs.declared.row.CopyRow.{CopyRow}
use Rattle.terms.specs.declared.row.HoldRow.{HoldRow}
use Rattle.terms.specs.declared.row.HoldState.TheVariants.{Waiting, Ready}
use Rattle.terms.specs.declared.row.LineRow.{LineRow}
use Rattle.terms.specs.declared.row.LoanRow.{LoanRow}
use Rattle.terms.specs.declared.row.NoteRow.{NoteRow}
use Rattle.terms.specs.declared.row.PatronRow.{PatronRow}
use Rattle.terms.specs.declared.row.Sort.{Sort}
use Rattle.terms.specs.declared.row.TitleRow.{TitleRow}
use Rattle.terms.specs.declared.row.TransitRow.{TransitRow}
use Rattle.model.specs.History.{History, has_begun}
use Rattle.model.specs.Places.{Place}
use Rattle.model.specs.Asking.{pulled_for, copies_list, queue_list, account_list, debts_list, overdue_list, shelf_list, pulls_list, transits_list}
use Rattle.model.specs.Asking.{branches_list, closed_days_list, kinds_list, rules_list, missing_copies_list, loans_list, ended_words}
use Rattle.model.specs.AskingLaws.{has_number}
use Rattle.model.specs.Pages.{spaced}
use Rattle.model.specs.Reports.{is_sort, till_sum, till_sum_at}
use Rattle.model.specs.Loans.{open_loans}
use Rattle.model.specs.Refusals.{active_holds}
use Rattle.model.specs.Laws.{is_active_state}
use Rattle.model.specs.Picture.{Picture, picture}
use Rattle.model.specs.Claims.{Claims}
use Rattle.model.specs.Requests.{IsLegal}

-- ---- what is told of a row of settings

abbrev pub branch_row_words : BranchRow → List ℕ
branch_row_words r = spaced (codes "branch" ∷ decimal r.branch ∷ codes "pickup" ∷ decimal r.pickup ∷ codes "week" ∷ mask_text r.week
    ∷ codes "name" ∷ r.name ∷ [])

abbrev pub kind_row_words : KindRow → List ℕ
kind_row_words r = spaced (codes "kind" ∷ decimal r.kind ∷ codes "loans" ∷ decimal r.loans ∷ codes "holds" ∷ decimal r.holds
    ∷ codes "debt" ∷ decimal r.debt ∷ [])

abbrev pub rule_row_words : RuleRow → List ℕ
rule_row_words r = spaced (codes "rule" ∷ decimal r.kind ∷ decimal r.copy_kind ∷ codes "period" ∷ decimal r.period ∷ codes "renewals" ∷ decimal r.renewals
    ∷ codes "rate" ∷ decimal r.rate ∷ codes "cap" ∷ decimal r.cap ∷ codes "grace" ∷ decimal r.grace ∷ [])

-- ---- what is told of a missing copy and its title, and of a loan

abbrev pub missing_copy_words : CopyRow → TitleRow → List ℕ
missing_copy_words r x = spaced (codes "copy" ∷ decimal r.copy ∷ codes "home" ∷ decimal r.home ∷ codes "title" ∷ decimal x.title ∷ x.text ∷ [])

abbrev pub loan_row_words : LoanRow → List ℕ
loan_row_words r = spaced (codes "loan" ∷ decimal r.loan ∷ codes "patron" ∷ decimal r.patron ∷ codes "made" ∷ day_text r.made ∷ codes "due" ∷ day_text r.due
    ∷ ended_words r.ended)

-- ---- where a line was made

-- The note says that the line was made at this branch.
abbrev pub is_noted_at : ℕ → Option NoteRow → Bool
is_noted_at b (Some x) = x.branch == b
is_noted_at b None = false

module _ (T : Picture) where
  -- ---- single rows

  -- The copy has a row of this title.
  abbrev pub IsCopyOf : ℕ → ℕ → Type 0
  IsCopyOf t c = (r : CopyRow) × (T.copies c ≡ Some r) × (r.title ≡ t)

  -- The row of the hold waits, its first day has come if it has one, and no transit row is for it.
  pub record IsInLine (h : ℕ) (r : HoldRow) : Type 0 where
    pub row : T.holds h ≡ Some r
    pub waits : r.state ≡ Waiting
    pub begun : has_begun T.meta.today r.first_day ≡ true
    pub uncoming : (c : ℕ) (x : TransitRow) → T.transits c ≡ Some x → x.hold ≡ Some h → ⊥

  abbrev pub IsInLineOf : ℕ → ℕ → Type 0
  IsInLineOf t h = (r : HoldRow) × IsInLine h r × (r.title ≡ t)

  -- The line has a row of the patron.
  abbrev pub IsLineOf : ℕ → ℕ → Type 0
  IsLineOf p n = (r : LineRow) × (T.lines n ≡ Some r) × (r.patron ≡ p)

  -- The patron's row shows a debt.
  abbrev pub IsOwing : ℕ → Type 0
  IsOwing p = (r : PatronRow) × (T.patrons p ≡ Some r) × (0 < r.owed)

  -- The loan has an open row of the lending branch that was due before today.
  abbrev pub IsOverdueAt : ℕ → ℕ → Type 0
  IsOverdueAt b l = (r : LoanRow) × (T.loans l ≡ Some r) × (r.ended ≡ None) × (r.branch ≡ b) × (r.due < T.meta.today)

  -- The hold has a ready row of the pick-up branch.
  abbrev pub IsReadyAt : ℕ → ℕ → Type 0
  IsReadyAt b h = (r : HoldRow) × (T.holds h ≡ Some r) × (r.state ≡ Ready) × (r.branch ≡ b)

  -- The loan has an open row of the patron.
  abbrev pub IsOpenLoanOf : ℕ → ℕ → Type 0
  IsOpenLoanOf p l = (r : LoanRow) × (T.loans l ≡ Some r) × (r.patron ≡ p) × (r.ended ≡ None)

  -- The hold has a row of the patron that waits or is ready.
  abbrev pub IsActiveHoldOf : ℕ → ℕ → Type 0
  IsActiveHoldOf p h = (r : HoldRow) × (T.holds h ≡ Some r) × (r.patron ≡ p) × (is_active_state r.state ≡ true)

  -- The copy has a transit row to the branch.
  abbrev pub IsBoundTo : ℕ → ℕ → Type 0
  IsBoundTo b c = (x : TransitRow) × (T.transits c ≡ Some x) × (x.goal ≡ b)

  -- The copy has a row that says that it is missing.
  abbrev pub IsMissing : ℕ → Type 0
  IsMissing c = (r : CopyRow) × (T.copies c ≡ Some r) × (r.condition ≡ Missing)

  -- The loan has a row of the copy, open or ended.
  abbrev pub IsLoanOfCopy : ℕ → ℕ → Type 0
  IsLoanOfCopy c l = (r : LoanRow) × (T.loans l ≡ Some r) × (r.copy ≡ c)

  -- ---- copies to pull

  -- The hold is the first in line of those of its title.
  pub record IsFirstInLine (h : ℕ) (r : HoldRow) : Type 0 where
    pub in_line : IsInLine h r
    pub first : (g : ℕ) (s : HoldRow) → IsInLine g s → s.title ≡ r.title → h ≤ g

  -- The copy's row is of the title, the branch is its home, and no claim is made on it.
  pub record IsOnShelf (b t c : ℕ) : Type 0 where
    pub row : CopyRow
    pub there : T.copies c ≡ Some row
    pub title : row.title ≡ t
    pub home : row.home ≡ b
    pub unclaimed : (at : Place) → Claims T c at → ⊥

  -- The copy is the one to pull from the branch's shelves for the hold: the hold is first in its line, and the
  -- copy is the one of lowest number of its title there.
  pub record IsToPull (b h c : ℕ) : Type 0 where
    pub row : HoldRow
    pub first : IsFirstInLine h row
    pub shelved : IsOnShelf b row.title c
    pub least : (d : ℕ) → IsOnShelf b row.title d → c ≤ d

  -- ---- sums

  -- The row, if any.
  abbrev pub if_row : Option LineRow → List LineRow
  if_row (Some r) = r ∷ []
  if_row None = []

  -- The rows of lines with numbers below n, by number.
  abbrev pub line_rows_below : ℕ → List LineRow
  line_rows_below zero = []
  line_rows_below (suc n) = line_rows_below n ++ if_row (T.lines n)

  -- The sum of a day's rows of one sort.
  abbrev pub sum_of_rows : ℕ → Sort → ℕ
  sum_of_rows d s = sum_by (λ r. r.amount) (filter (λ r. (r.day == d) && is_sort r.sort s) (line_rows_below T.meta.next_line))

  -- The sum of a day's rows of one sort whose notes name the branch.
  abbrev pub sum_of_rows_at : ℕ → ℕ → Sort → ℕ
  sum_of_rows_at b d s =
      sum_by (λ r. r.amount) (filter (λ r. (r.day == d) && (is_sort r.sort s && is_noted_at b (T.notes r.line))) (line_rows_below T.meta.next_line))

-- Each list has exactly the numbers of the rows that pass its test, a page those of the patron's open loans
-- and active holds, the copy shown with a hold to pull for is the one to pull, and the till's sums are those
-- of the day's rows, at a branch those of the rows whose notes name it. Of a row of settings, a missing copy or a loan its columns are told, as they are today.
pub record ShowsRows (H : History) (T : Picture) : Type 0 where
  pub copies : (t c : ℕ) → has_number (copies_list H t).numbers c ↔ IsCopyOf T t c
  pub queue : (t h : ℕ) → has_number (queue_list H t).numbers h ↔ IsInLineOf T t h
  pub account : (p n : ℕ) → has_number (account_list H p).numbers n ↔ IsLineOf T p n
  pub debts : (p : ℕ) → has_number (debts_list H).numbers p ↔ IsOwing T p
  pub overdue : (b l : ℕ) → has_number (overdue_list H b).numbers l ↔ IsOverdueAt T b l
  pub shelf : (b h : ℕ) → has_number (shelf_list H b).numbers h ↔ IsReadyAt T b h
  pub pulls : (b h : ℕ) → has_number (pulls_list H b).numbers h ↔ ((c : ℕ) × IsToPull T b h c)
  pub pulled : (b h c : ℕ) → (pulled_for H b h ≡ Some c) ↔ IsToPull T b h c
  pub transits : (b c : ℕ) → has_number (transits_list H b).numbers c ↔ IsBoundTo T b c
  pub page_loans : (p l : ℕ) → has_number (open_loans H p) l ↔ IsOpenLoanOf T p l
  pub page_holds : (p h : ℕ) → has_number (active_holds H p) h ↔ IsActiveHoldOf T p h
  pub till : (d : ℕ) (s : Sort) → till_sum H d s ≡ sum_of_rows T d s
  pub till_at : (b d : ℕ) (s : Sort) → till_sum_at H b d s ≡ sum_of_rows_at T b d s
  pub branches : (b : ℕ) → has_number (branches_list H).numbers b ↔ ((r : BranchRow) × (T.branches b ≡ Some r))
  pub branch_rows : (b : ℕ) (r : BranchRow) → T.branches b ≡ Some r → (branches_list H).row b ≡ branch_row_words r
  pub closed_days : (b d : ℕ) → has_number (closed_days_list H b).numbers d ↔ ((T.closed_days b d ≡ true) × (T.meta.today < d))
  pub kinds : (k : ℕ) → has_number (kinds_list H).numbers k ↔ ((r : KindRow) × (T.kinds k ≡ Some r))
  pub kind_rows : (k : ℕ) (r : KindRow) → T.kinds k ≡ Some r → (kinds_list H).row k ≡ kind_row_words r
  pub rules : (k c : ℕ) → has_number (rules_list H k).numbers c ↔ ((r : RuleRow) × (T.rules k c ≡ Some r))
  pub rule_rows : (k c : ℕ) (r : RuleRow) → T.rules k c ≡ Some r → (rules_list H k).row c ≡ rule_row_words r
  pub missing_copies : (c : ℕ) → has_number (missing_copies_list H).numbers c ↔ IsMissing T c
  pub missing_copy_rows : (c : ℕ) (r : CopyRow) (x : TitleRow) → T.copies c ≡ Some r → T.titles r.title ≡ Some x
      → (missing_copies_list H).row c ≡ missing_copy_words r x
  pub loans : (c l : ℕ) → has_number (loans_list H c).numbers l ↔ IsLoanOfCopy T c l
  pub loan_rows : (c l : ℕ) (r : LoanRow) → T.loans l ≡ Some r → (loans_list H c).row l ≡ loan_row_words r

-- After every legal history they show its rows.
abbrev pub RowsAreShown : Type 0
RowsAreShown = (H : History) → IsLegal H → ShowsRows H (picture H)
