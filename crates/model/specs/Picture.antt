-- The rows in the tables of the newest schema after a history.
use Rattle.std.specs.Prelude.{ℕ, Bool, true, false, List, Option, Some, None, option_map, option_and_then}
use Rattle.terms.specs.declared.limits.TheConstants.{SCHEMA}
use Rattle.terms.specs.declared.command.Owner.{Owner}
use Rattle.terms.specs.declared.row.MetaRow.{MetaRow}
use Rattle.terms.specs.declared.row.BranchRow.{BranchRow}
use Rattle.terms.specs.declared.row.KindRow.{KindRow}
use Rattle.terms.specs.declared.row.RuleRow.{RuleRow}
use Rattle.terms.specs.declared.row.PatronRow.{PatronRow}
use Rattle.terms.specs.declared.row.TitleRow.{TitleRow}
use Rattle.terms.specs.declared.row.CopyRow.{CopyRow}
use Rattle.terms.specs.declared.row.Condition.{Condition}
use Rattle.terms.specs.declared.row.Condition.TheVariants.{Present, Missing, Withdrawn}
use Rattle.terms.specs.declared.row.LoanRow.{LoanRow}
use Rattle.terms.specs.declared.row.HoldRow.{HoldRow}
use Rattle.terms.specs.declared.row.HoldState.{HoldState}
use Rattle.terms.specs.declared.row.TransitRow.{TransitRow}
use Rattle.terms.specs.declared.row.LineRow.{LineRow}
use Rattle.terms.specs.declared.row.KeptRow.{KeptRow}
use Rattle.terms.specs.declared.row.Thing.{Thing}
use Rattle.terms.specs.declared.row.BarcodeRow.{BarcodeRow}
use Rattle.terms.specs.declared.row.NoteRow.{NoteRow}
use Rattle.terms.specs.Texts.{reply_text}
pub use Rattle.terms.specs.Pictures.{Picture}
use Rattle.model.specs.Calendar.{is_single}
use Rattle.model.specs.History.{History, today, week_of, singles_of, BranchFacts, branch_of, KindFacts, kind_of, Terms, rule_of}
use Rattle.model.specs.History.{PatronFacts, patron_of, title_of, CopyFacts, copy_of, next_loan, next_hold, HoldFacts, hold_of, barcode_of}
use Rattle.model.specs.Places.{Place, Transit, MissingCopy, WithdrawnCopy, place, state, is_ready, kept_for, limit}
use Rattle.model.specs.Loans.{LoanFacts, loan_of, due, ended, renewals_left}
use Rattle.model.specs.Accounts.{Note, Line, lines, next_line, owed}
pub use Rattle.model.specs.Accounts.{nth_line}
use Rattle.model.specs.Requests.{Kept, kept_of}

-- The condition of a copy in this place.
abbrev pub condition_at : Place → Condition
condition_at MissingCopy = Missing
condition_at WithdrawnCopy = Withdrawn
condition_at _ = Present

-- The transit row of a copy in this place.
abbrev pub transit_at : ℕ → Place → Option TransitRow
transit_at c (Transit g h) = Some (record { copy = c; goal = g; hold = h })
transit_at c _ = None

-- Only a ready hold's row has a copy and a limit day.
abbrev pub if_ready : {A : Type 0} → Option HoldState → Option A → Option A
if_ready s x = elim (is_ready s) [ true ↦ x | false ↦ None ]

-- The columns of a loan, from its facts, its due day, the renewals left, and its end.
abbrev pub loan_with : ℕ → ℕ → ℕ → Option ℕ → LoanFacts → LoanRow
loan_with l until left end r =
    record {
      loan = l;
      copy = r.copy;
      patron = r.patron;
      branch = r.branch;
      made = r.made;
      due = until;
      period = r.terms.period;
      renewals_left = left;
      rate = r.terms.rate;
      cap = r.terms.cap;
      ended = end;
      grace = r.terms.grace;
    }

-- The columns of a hold, from its facts and state, and its copy and limit while it is ready.
abbrev pub hold_with : ℕ → HoldState → Option ℕ → Option ℕ → HoldFacts → HoldRow
hold_with h s kept until r =
    record {
      hold = h;
      patron = r.patron;
      title = r.title;
      branch = r.branch;
      state = s;
      copy = if_ready (Some s) kept;
      limit_day = if_ready (Some s) until;
      first_day = r.first_day;
    }

-- The row of a hold, which exists if the hold has a state.
abbrev pub hold_by : ℕ → Option HoldFacts → Option HoldState → Option ℕ → Option ℕ → Option HoldRow
hold_by h facts state kept until = option_and_then (λ s. option_map (hold_with h s kept until) facts) state

module _ (H : History) where
  -- The one row of `meta`: the newest schema, today and the next numbers.
  abbrev pub meta_row : MetaRow
  meta_row = record { schema = SCHEMA; today = today H; next_loan = next_loan H; next_hold = next_hold H; next_line = next_line H }

  -- The columns of a branch.
  abbrev pub branch_columns : ℕ → BranchFacts → BranchRow
  branch_columns b r = record { branch = b; pickup = r.pickup; week = week_of H b; name = r.name }

  -- The row of a branch.
  abbrev pub branch_row : ℕ → Option BranchRow
  branch_row b = option_map (branch_columns b) (branch_of H b)

  -- Whether a branch has a day closed singly.
  abbrev pub closed_day : ℕ → ℕ → Bool
  closed_day b d = is_single (singles_of H b) d

  -- The columns of a patron kind.
  abbrev pub kind_columns : ℕ → KindFacts → KindRow
  kind_columns k r = record { kind = k; loans = r.loans; holds = r.holds; debt = r.debt }

  -- The row of a patron kind.
  abbrev pub kind_row : ℕ → Option KindRow
  kind_row k = option_map (kind_columns k) (kind_of H k)

  -- The columns of a rule.
  abbrev pub rule_columns : ℕ → ℕ → Terms → RuleRow
  rule_columns k c r = record { kind = k; copy_kind = c; period = r.period; renewals = r.renewals; rate = r.rate; cap = r.cap; grace = r.grace }

  -- The row of a rule.
  abbrev pub rule_row : ℕ → ℕ → Option RuleRow
  rule_row k c = option_map (rule_columns k c) (rule_of H k c)

  -- The columns of a patron, with what is owed.
  abbrev pub patron_columns : ℕ → PatronFacts → PatronRow
  patron_columns p r = record { patron = p; kind = r.kind; card_key = r.card_key; name = r.name; owed = owed H p }

  -- The row of a patron.
  abbrev pub patron_row : ℕ → Option PatronRow
  patron_row p = option_map (patron_columns p) (patron_of H p)

  -- The row of a title.
  abbrev pub title_row : ℕ → Option TitleRow
  title_row t = option_map (λ x. record { title = t; text = x }) (title_of H t)

  -- The columns of a copy.
  abbrev pub copy_columns : ℕ → CopyFacts → CopyRow
  copy_columns c r = record { copy = c; title = r.title; kind = r.kind; home = r.home; price = r.price; condition = condition_at (place H c) }

  -- The row of a copy.
  abbrev pub copy_row : ℕ → Option CopyRow
  copy_row c = option_map (copy_columns c) (copy_of H c)

  -- The columns of a loan.
  abbrev pub loan_columns : ℕ → LoanFacts → LoanRow
  loan_columns l r = loan_with l (due H l) (renewals_left H l) (ended H l) r

  -- The row of a loan.
  abbrev pub loan_row : ℕ → Option LoanRow
  loan_row l = option_map (loan_columns l) (loan_of H l)

  -- The columns of a hold.
  abbrev pub hold_columns : ℕ → HoldState → HoldFacts → HoldRow
  hold_columns h s r = hold_with h s (kept_for H h) (limit H h) r

  -- The row of a hold.
  abbrev pub hold_row : ℕ → Option HoldRow
  hold_row h = hold_by h (hold_of H h) (state H h) (kept_for H h) (limit H h)

  -- The transit row of a copy.
  abbrev pub transit_row : ℕ → Option TransitRow
  transit_row c = transit_at c (place H c)

  -- The columns of a line.
  abbrev pub line_columns : ℕ → Line → LineRow
  line_columns n x = record { line = n; patron = x.patron; day = x.day; sort = x.sort; amount = x.amount; loan = x.loan }

  -- The row of a line.
  abbrev pub line_row : ℕ → Option LineRow
  line_row n = option_map (line_columns n) (nth_line (lines H) n)

  -- The columns of a note.
  abbrev pub note_columns : ℕ → Note → NoteRow
  note_columns n x = record { line = n; branch = x.branch; text = x.text }

  -- The note of a line, if it has one.
  abbrev pub note_row : ℕ → Option NoteRow
  note_row n = option_and_then (λ x. option_map (note_columns n) x.note) (nth_line (lines H) n)

  -- The row of the barcode of a copy or a patron, if it has one.
  abbrev pub barcode_row : Thing → Option BarcodeRow
  barcode_row t = option_map (λ x. record { thing = t; barcode = x }) (barcode_of H t)

  -- The columns of a kept request.
  abbrev pub kept_columns : Owner → List ℕ → Kept → KeptRow
  kept_columns o k x = record { caller = o; key = k; text = x.text; reply = reply_text x.reply }

  -- The row of a kept request.
  abbrev pub kept_row : Owner → List ℕ → Option KeptRow
  kept_row o k = option_map (kept_columns o k) (kept_of H o k)

  -- The contents of the tables. Rules, loans and holds are in their newest tables; those of older schemas are
  -- empty.
  abbrev pub picture : Picture
  picture = record {
    meta = meta_row;
    branches = branch_row;
    closed_days = closed_day;
    kinds = kind_row;
    rules = rule_row;
    rules1 = λ _ _. None;
    patrons = patron_row;
    titles = title_row;
    copies = copy_row;
    loans = loan_row;
    loans1 = λ _. None;
    holds = hold_row;
    holds1 = λ _. None;
    transits = transit_row;
    lines = line_row;
    kept = kept_row;
    barcodes = barcode_row;
    notes = note_row;
  }
