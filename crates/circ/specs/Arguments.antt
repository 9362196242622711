-- Which words are a run of the program, and which run they are.
use Rattle.std.specs.Prelude.{◌≡◌, ◌≢◌, ◌≤◌, ◌<◌, ◌^◌, ℕ, true, List, [], ◌∷◌, length, codes}
use Rattle.std.specs.Fmt.{decimal}
use Rattle.calendar.specs.Days.{IsDayNumber, day_text}
use Rattle.terms.specs.Forms.{is_card_key, is_outside_key}
use Rattle.front.specs.Understood.{texts_of}
use Rattle.desk.specs.declared.reports.Report.{Report}
use Rattle.desk.specs.declared.reports.Report.TheVariants.{Overdue, Till, Shelf}
use Rattle.hall_schedule.specs.declared.schedule.TheConstants.{WORKERS}
use Rattle.circ.specs.declared.arguments.TheConstants.{MOST_CONNECTIONS}
use Rattle.circ.specs.declared.arguments.DeskKeys.{DeskKeys}
use Rattle.circ.specs.declared.arguments.DeskKeys.TheVariants.{One, File}
use Rattle.circ.specs.declared.arguments.Run.{Run}
use Rattle.circ.specs.declared.arguments.Run.TheVariants as run

-- A report's name and its argument.
abbrev pub report_words : Report → List (List ℕ)
report_words (Overdue branch) = codes "overdue" ∷ decimal branch ∷ []
report_words (Till day) = codes "till" ∷ day_text day ∷ []
report_words (Shelf branch) = codes "shelf" ∷ decimal branch ∷ []

-- What opens the desk, in a word: a key, or a file's path behind an at sign.
abbrev pub keys_word : DeskKeys → List ℕ
keys_word (One key) = key
keys_word (File path) = 64 ∷ path.now

-- A key has its form, and a path is not empty.
abbrev pub HaveForm : DeskKeys → Type 0
HaveForm (One key) = is_card_key key ≡ true
HaveForm (File path) = 0 < length path.now

-- The word opens the desk so.
pub record AreKeys (word : List ℕ) (keys : DeskKeys) : Type 0 where
  pub form : HaveForm keys
  pub written : word ≡ keys_word keys

-- The word opens no desk.
pub record AreNoKeys (word : List ℕ) : Type 0 where
  pub none : (keys : DeskKeys) → AreKeys word keys → ⊥

-- The words of a run, after the program's name.
abbrev pub run_words : Run → List (List ℕ)
run_words (run.File path key words) = codes "file" ∷ path.now ∷ key ∷ texts_of words.now
run_words (run.Import path copies) = codes "import" ∷ path.now ∷ copies.now ∷ []
run_words (run.Check copies) = codes "import" ∷ codes "--check" ∷ copies.now ∷ []
run_words (run.Report path report) = codes "report" ∷ path.now ∷ report_words report
run_words (run.Audit path) = codes "audit" ∷ path.now ∷ []
run_words (run.AuditAll path) = codes "audit" ∷ path.now ∷ codes "all" ∷ []
run_words (run.Migrate path) = codes "migrate" ∷ path.now ∷ []
run_words (run.Serve path port workers each keys) =
    codes "serve" ∷ path.now ∷ decimal port ∷ decimal workers ∷ decimal each ∷ keys_word keys ∷ []
run_words (run.Send port keys key words) =
    codes "send" ∷ decimal port ∷ keys_word keys ∷ key ∷ texts_of words.now

-- A report's argument is in its range.
abbrev pub HasArgument : Report → Type 0
HasArgument (Overdue branch) = branch < 2 ^ 32
HasArgument (Till day) = IsDayNumber day
HasArgument (Shelf branch) = branch < 2 ^ 32

-- A port of the network.
abbrev pub IsPort : ℕ → Type 0
IsPort port = (0 < port) × (port < 2 ^ 16)

-- So many workers.
abbrev pub IsWorkers : ℕ → Type 0
IsWorkers workers = (0 < workers) × (workers ≤ WORKERS)

-- So many connections of a worker.
abbrev pub IsEach : ℕ → Type 0
IsEach each = (0 < each) × (each ≤ MOST_CONNECTIONS)

-- Keys have their form, numbers are in their ranges, a request has a word at least, and no library's path is the
-- word for a check.
abbrev pub HasForms : Run → Type 0
HasForms (run.File path key words) = (is_outside_key key ≡ true) × (0 < length words.now)
HasForms (run.Import path copies) = path.now ≢ codes "--check"
HasForms (run.Check copies) = Unit {0}
HasForms (run.Report path report) = HasArgument report
HasForms (run.Audit path) = Unit {0}
HasForms (run.AuditAll path) = Unit {0}
HasForms (run.Migrate path) = Unit {0}
HasForms (run.Serve path port workers each keys) =
    IsPort port × IsWorkers workers × IsEach each × HaveForm keys
HasForms (run.Send port keys key words) =
    IsPort port × HaveForm keys × (is_outside_key key ≡ true) × (0 < length words.now)

-- The words are this run's.
pub record IsRun (words : List (List ℕ)) (asked : Run) : Type 0 where
  pub forms : HasForms asked
  pub written : words ≡ run_words asked

-- The words are no run's.
pub record IsNoRun (words : List (List ℕ)) : Type 0 where
  pub none : (asked : Run) → IsRun words asked → ⊥
