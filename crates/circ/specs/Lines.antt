-- The lines that the programs write, each with its newline.
use Rattle.std.specs.Prelude.{◌≡◌, ◌==◌, ◌&&◌, ℕ, Bool, if◌then◌else◌, List, [], ◌∷◌, ◌++◌, length, flat_map, Option, Some, None, is_none, Result, IfOk, codes, decimal}
use Rattle.std.specs.Io.KnownBytes.{Appends}
use Rattle.terms.specs.Writing.{Writes}
use Rattle.terms.specs.declared.reply.Reply.{Reply}
use Rattle.terms.specs.Texts.{reply_text}
use Rattle.terms.specs.declared.limits.TheConstants.{SCHEMA}
use Rattle.circ_audit.specs.declared.auditing.Finding.{Finding}
use Rattle.circ_audit.specs.declared.auditing.Finding.TheVariants.{Claims, Binding, Balance, Reference, Numbers}
use Rattle.circ_audit.specs.Findings.{number_of}
use Rattle.circ_audit.specs.declared.numbers.Series.{Series}
use Rattle.circ_audit.specs.declared.numbers.Series.TheVariants as series
use Rattle.circ_audit.specs.declared.references.Table.{Table}
use Rattle.circ_audit.specs.declared.references.Table.TheVariants as table
use Rattle.store.specs.declared.older.OldRow.{OldRow}
use Rattle.store.specs.declared.older.OldRow.TheVariants.{Rule, Loan, Hold}
use Rattle.circ.specs.declared.lines.Exit.{Exit}
use Rattle.circ.specs.declared.lines.Exit.TheVariants.{Done, Refused}

-- A reply is its text.
abbrev pub reply_line : Reply → List ℕ
reply_line reply = reply_text reply ++ 10 ∷ []

-- A fault is its number.
abbrev pub fault_line : ℕ → List ℕ
fault_line number = codes "fault " ++ decimal number ++ 10 ∷ []

-- The words are no command.
abbrev pub not_understood_line : List ℕ
not_understood_line = codes "words not understood" ++ 10 ∷ []

-- A port can't be opened, or no answer came.
abbrev pub no_network_line : List ℕ
no_network_line = codes "fault network" ++ 10 ∷ []

-- A file of keys can't be read, or is none.
abbrev pub no_keys_line : List ℕ
no_keys_line = codes "fault keys" ++ 10 ∷ []

-- The port of the web service.
abbrev pub port_line : ℕ → List ℕ
port_line port = codes "listening on " ++ decimal port ++ 10 ∷ []

-- A thread could not be made.
abbrev pub threads_line : List ℕ
threads_line = codes "fault threads" ++ 10 ∷ []

-- The tables keep the five laws of sound tables, and those of older schemas are empty.
abbrev pub sound_line : List ℕ
sound_line = codes "sound" ++ 10 ∷ []

-- The schema of a library after its migration.
abbrev pub schema_line : List ℕ
schema_line = codes "schema " ++ decimal SCHEMA ++ 10 ∷ []

-- A law is broken, for this number.
abbrev pub unsound_line : List ℕ → ℕ → List ℕ
unsound_line law number = codes "unsound " ++ (law ++ (decimal number ++ 10 ∷ []))

-- A row of a table names a missing one: the table, as SQL names it.
abbrev pub reference_words : Table → List ℕ
reference_words table.ClosedDays = codes "reference closed_days "
reference_words table.Rules = codes "reference rules3 "
reference_words table.Patrons = codes "reference patrons "
reference_words table.Copies = codes "reference copies "
reference_words table.Loans = codes "reference loans3 "
reference_words table.Holds = codes "reference holds2 "
reference_words table.Transits = codes "reference transits "
reference_words table.Lines = codes "reference lines "
reference_words table.Kept = codes "reference kept "
reference_words table.Barcodes = codes "reference barcodes "
reference_words table.Notes = codes "reference notes "

-- A number of a table is wrong.
abbrev pub number_words : Series → List ℕ
number_words series.Loans = codes "numbers loans3 "
number_words series.Holds = codes "numbers holds2 "
number_words series.Lines = codes "numbers lines "

-- The law of a finding.
abbrev pub law_words : Finding → List ℕ
law_words (Claims copy) = codes "claims "
law_words (Binding hold) = codes "binding "
law_words (Balance patron) = codes "balance "
law_words (Reference table n) = reference_words table
law_words (Numbers series n) = number_words series

-- An audit's finding: the law and the number.
abbrev pub finding_line : Finding → List ℕ
finding_line finding = unsound_line (law_words finding) (number_of finding)

-- The law of a row in a table of older schemas: the table, as SQL names it.
abbrev pub old_words : OldRow → List ℕ
old_words (Rule kind) = codes "numbers rules "
old_words (Loan loan) = codes "numbers loans "
old_words (Hold hold) = codes "numbers holds "

-- The last number of the row's key.
abbrev pub old_number : OldRow → ℕ
old_number (Rule kind) = kind
old_number (Loan loan) = loan
old_number (Hold hold) = hold

abbrev pub old_row_line : OldRow → List ℕ
old_row_line row = unsound_line (old_words row) (old_number row)

-- The same of findings, one after another; of the things with the barcode of another one before; and of a row in a
-- table of older schemas, if there is one.
abbrev pub finding_lines : List Finding → List ℕ
finding_lines broken = flat_map finding_line broken

abbrev pub doubled_lines : List ℕ → List ℕ
doubled_lines doubled = flat_map (λ n. finding_line (Reference table.Barcodes n)) doubled

abbrev pub old_lines : Option OldRow → List ℕ
old_lines None = []
old_lines (Some row) = old_row_line row

-- Nothing was found.
abbrev pub is_nothing : List Finding → List ℕ → Option OldRow → Bool
is_nothing broken doubled old = (length broken == 0) && ((length doubled == 0) && is_none old)

-- The lines of an audit that goes on to its end, by what it found, and how the program ends after them.
abbrev pub all_lines : List Finding → List ℕ → Option OldRow → List ℕ
all_lines broken doubled old =
    if is_nothing broken doubled old
    then sound_line
    else (finding_lines broken ++ doubled_lines doubled) ++ old_lines old

abbrev pub all_exit : List Finding → List ℕ → Option OldRow → Exit
all_exit broken doubled old = if is_nothing broken doubled old then Done else Refused

-- The first bytes went out, then the others.
abbrev pub AppendsBoth : Option (List ℕ) → Option (List ℕ) → List ℕ → List ℕ → Type 0
AppendsBoth before after first others = Appends before after (first ++ others)

-- The first bytes went out, then a beginning of the others, possibly empty or whole.
pub record AppendsAndFront (before after : Option (List ℕ)) (first others : List ℕ) : Type 0 where
  pub sent : List ℕ
  pub rest : List ℕ
  pub whole : others ≡ sent ++ rest
  pub wrote : Appends before after (first ++ sent)

-- The line, or a beginning of it, went out; after the whole line the program ends so.
pub record EndsWith {E : Type 0} (end : Exit) (line : List ℕ) (before after : Option (List ℕ))
    (result : Result Exit E) : Type 0 where
  pub exit_is : IfOk result (λ exit. exit ≡ end)
  pub writes : Writes line before after result
