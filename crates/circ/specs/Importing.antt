-- What importing a copies file writes: a line for each row, how the reading ended, and how many rows were
-- accepted and refused.
use Rattle.std.specs.Prelude.{◌≡◌, ◌⊎◌, ◌<◌, ◌+◌, ◌==◌, ℕ, Bool, true, false, not, if◌then◌else◌, List, [], ◌∷◌, ◌++◌, length, filter}
use Rattle.std.specs.Prelude.{map, take, Option, Some, None, Result, Ok, IfOk, OnErr, codes, decimal}
use Rattle.std.specs.Io.KnownBytes.{Appends, Keeps}
use Rattle.store.specs.Library.{Ghosts, Held, state, IsClean, IsOpen, HasTables, IsAsItWas}
use Rattle.terms.specs.Texts.{refusal_number, fault_number}
use Rattle.terms.specs.Writing.{AppendsFront}
use Rattle.terms.specs.declared.command.Request.{Request}
use Rattle.terms.specs.declared.fault.Fault.{Fault}
use Rattle.terms.specs.declared.fault.Fault.TheVariants as fault
use Rattle.terms.specs.declared.fault.Fault.TheVariants.{Stored}
use Rattle.terms.specs.declared.reply.Reply.{Reply}
use Rattle.terms.specs.declared.reply.Reply.TheVariants.{Refused as Denied}
use Rattle.model.specs.History.{History}
use Rattle.model.specs.Repeats.{row_request}
use Rattle.model.specs.Requests.{after_one, after, replies as replies_to}
use Rattle.desk.specs.Answering.{Shows, Stays, LeavesOneOf, Handled}
use Rattle.front.specs.Copies.{IsReading}
use Rattle.front.specs.declared.copies.FileRow.{FileRow}
use Rattle.front.specs.declared.copies.CopyEnd.{CopyEnd}
use Rattle.front.specs.declared.copies.CopyEnd.TheVariants.{Whole, Bad, Read, Memory}
use Rattle.circ.specs.declared.importing.Tally.{Tally}
use Rattle.desk.specs.Running.{HandledAll, ShowsHeadline}
use Rattle.circ.specs.declared.lines.Exit.{Exit}
use Rattle.circ.specs.declared.lines.Exit.TheVariants.{Done, Refused, Faulted, NotUnderstood}
use Rattle.circ.specs.Lines.{fault_line, AppendsBoth, AppendsAndFront}

-- ---- rows and their requests

-- The request of a row: the desk acquires its copy, with the request's own text as key.
abbrev pub request_of : FileRow → Request
request_of row = row_request (record { copy = row.copy; title = row.title; text = row.text; kind = row.kind; home = row.home; price = row.price })

-- The requests of rows, in order.
abbrev pub requests_of : List FileRow → List Request
requests_of rows = map request_of rows

-- ---- lines

-- The words for a reply: the row is refused, and why, or accepted.
abbrev pub row_words : Reply → List ℕ
row_words (Denied refusal) = codes " refused " ++ decimal (refusal_number refusal)
row_words _ = codes " ok"

-- The line of a row, by its number.
abbrev pub row_line : ℕ → Reply → List ℕ
row_line n reply = codes "row " ++ decimal n ++ row_words reply ++ 10 ∷ []

-- The lines of the rows, from this number on.
abbrev pub row_lines : ℕ → List Reply → List ℕ
row_lines n [] = []
row_lines n (reply ∷ replies) = row_line n reply ++ row_lines (n + 1) replies

-- The line of a bad row.
abbrev pub bad_row_line : ℕ → List ℕ
bad_row_line n = codes "row " ++ decimal n ++ codes " bad" ++ 10 ∷ []

-- The line of a reading that didn't end with the last row.
abbrev pub end_line : CopyEnd → List ℕ
end_line Whole = []
end_line (Bad n) = bad_row_line n
end_line Read = codes "fault reading" ++ 10 ∷ []
end_line Memory = fault_line (fault_number fault.Memory)

-- The reply is a refusal.
abbrev pub is_refusal : Reply → Bool
is_refusal (Denied refusal) = true
is_refusal _ = false

-- The number of accepted rows.
abbrev pub accepted_in : List Reply → ℕ
accepted_in replies = length (filter (λ reply. not (is_refusal reply)) replies)

-- The number of refused rows.
abbrev pub refused_in : List Reply → ℕ
refused_in replies = length (filter is_refusal replies)

-- The counts including the row with this reply.
abbrev pub with_row : Tally → Reply → Tally
with_row counts (Denied refusal) = record { accepted = counts.accepted; refused = counts.refused + 1 }
with_row counts _ = record { accepted = counts.accepted + 1; refused = counts.refused }

-- The last line: the numbers of accepted and refused rows.
abbrev pub counts_line : ℕ → ℕ → List ℕ
counts_line accepted refused =
    codes "accepted " ++ decimal accepted ++ codes " refused " ++ decimal refused ++ 10 ∷ []

-- The lines after those of the rows: that of the end, if any, and the last.
abbrev pub closing_lines : List Reply → List ℕ → List ℕ
closing_lines replies end = end ++ counts_line (accepted_in replies) (refused_in replies)

-- All lines: the rows', and the others.
abbrev pub import_lines : List Reply → List ℕ → List ℕ
import_lines replies end = row_lines 1 replies ++ closing_lines replies end

-- How the program ends after all rows, given how many were refused.
abbrev pub end_exit : CopyEnd → ℕ → Exit
end_exit Whole refused = if refused == 0 then Done else Refused
end_exit (Bad n) refused = NotUnderstood
end_exit Read refused = Faulted
end_exit Memory refused = Faulted

-- ---- what is written

-- The desk handled the request of a row, with this reply.
abbrev pub HandlesOne : {S : Type 0} → FileRow → Ghosts S → Held S → Held S → Reply → Type 0
HandlesOne row g old new reply = Handled (request_of row) g old new (Ok reply)

-- The rows were handled in order. If the tables showed a list of accepted requests, the replies are those of
-- this list to the rows' requests, and the tables show the list after these requests, with its headline.
pub record HandlesRows {S : Type 0} (rows : List FileRow)
    (g : Ghosts S) (old new : Held S) (replies : List Reply) : Type 0 where
  pub many : length replies ≡ length rows
  pub each : HandledAll g (requests_of rows) replies old new
  pub clean : IsClean g new → IsClean g old
  pub replied : IsClean g new → (H : History) → Shows (state g old) H
      → (replies ≡ replies_to H (requests_of rows))
      × Shows (state g new) (after H (requests_of rows))
  pub headline : IsClean g new → (H : History) → Shows (state g old) H
      → ShowsHeadline g new (after H (requests_of rows))

-- The lines of all rows went out, then those of the end and the counts.
pub record ImportsAll {S : Type 0} (rows : List FileRow) (end : CopyEnd)
    (g : Ghosts S) (old new : Held S) (WentOut : List ℕ → List ℕ → Type 0) (exit : Exit)
    : Type 0 where
  pub replies : List Reply
  pub handled : HandlesRows rows g old new replies
  pub lines : WentOut (row_lines 1 replies) (closing_lines replies (end_line end))
  pub exit_is : exit ≡ end_exit end (refused_in replies)

-- A fault came at a row, which isn't 93 if the tables showed a list of accepted requests: the lines of the
-- rows before it went out, then those of the fault and the counts. The row changed nothing, whatever rows the
-- tables have; they show the list after the rows before it, with its headline, if the database is still open;
-- a stop leaves that, or also what they would show after that row.
pub record ImportsSome {S : Type 0} (rows : List FileRow)
    (g : Ghosts S) (old new : Held S) (WentOut : List ℕ → List ℕ → Type 0) (exit : Exit)
    : Type 0 where
  pub replies : List Reply
  pub fault : Fault
  pub few : length replies < length rows
  pub lines : WentOut (row_lines 1 replies) (closing_lines replies (fault_line (fault_number fault)))
  pub exit_is : exit ≡ Faulted
  -- the tables before the row
  pub mid : Held S
  pub handled : HandlesRows (take (length replies) rows) g old mid replies
  pub clean : IsClean g new → IsClean g mid
  pub nothing : IsClean g new → IsOpen g new → HasTables (state g mid).now
      → IsAsItWas (state g mid) (state g new)
  pub sound : IsClean g new → fault ≡ Stored → (H : History) → Shows (state g old) H → ⊥
  pub undone : IsClean g new → IsOpen g new → (H : History) → Shows (state g old) H
      → Shows (state g new) (after H (requests_of (take (length replies) rows)))
  pub headline : IsClean g new → IsOpen g new → (H : History) → Shows (state g old) H
      → ShowsHeadline g new (after H (requests_of (take (length replies) rows)))
  pub left : IsClean g new → (H : History) → Shows (state g old) H
      → LeavesOneOf (state g new) (after H (requests_of (take (length replies) rows)))
      (after H (requests_of (take (length replies + 1) rows)))

-- All rows are reported, or those before a fault.
abbrev pub ImportsOf : {S : Type 0} → List FileRow → CopyEnd → Ghosts S → Held S → Held S
    → (List ℕ → List ℕ → Type 0) → Exit → Type 0
ImportsOf rows end g old new WentOut exit = ImportsAll rows end g old new WentOut exit
    ⊎ ImportsSome rows g old new WentOut exit

-- A row's line could not be written. It is the last row handled; the lines of all rows before it went out.
pub record ImportsCut {S : Type 0} (rows : List FileRow)
    (g : Ghosts S) (old new : Held S) (WentOut : List ℕ → List ℕ → Type 0) : Type 0 where
  -- the replies to the rows before it, and its own
  pub replies : List Reply
  pub last : Reply
  pub few : length replies < length rows
  pub handled : HandlesRows (take (length replies + 1) rows) g old new (replies ++ last ∷ [])
  pub lines : WentOut (row_lines 1 replies) (row_line (length replies + 1) last)

-- ---- what is promised

-- A row was handled, counted and reported: `had` and `has` are the counts before and after. Or the desk met a
-- fault.
pub record ImportsRow {S E : Type 0} (row : FileRow) (had has : Tally)
    (g : Ghosts S) (old new : Held S) (before after : Option (List ℕ))
    (result : Result (Option Fault) E) : Type 0 where
  pub clean : IsClean g new → IsClean g old
  -- without a fault the row has a reply, which is counted, and its line went out
  pub done : result ≡ Ok None
      → (reply : Reply) × HandlesOne row g old new reply × (has ≡ with_row had reply)
      × Appends before after (row_line (had.accepted + had.refused + 1) reply)
  -- at a fault of the desk nothing went out or was counted
  pub silent : (fault : Fault) → result ≡ Ok (Some fault) → Keeps before after × (has ≡ had)
  -- it isn't 93 if the tables show a list of accepted requests
  pub sound : (fault : Fault) → result ≡ Ok (Some fault) → IsClean g new → fault ≡ Stored
      → (H : History) → Shows (state g old) H → ⊥
  -- and the tables show what they showed, if the database is still open
  pub undone : (fault : Fault) → result ≡ Ok (Some fault) → IsClean g new → IsOpen g new
      → Stays (state g old) (state g new)
  -- nor did the row change any tables, whatever they are
  pub nothing : (fault : Fault) → result ≡ Ok (Some fault) → IsClean g new → IsOpen g new
      → HasTables (state g old).now → IsAsItWas (state g old) (state g new)
  -- a stop leaves what was there before or what is there after the row
  pub left : IsClean g new → (H : History) → Shows (state g old) H
      → LeavesOneOf (state g new) H (after_one H (request_of row))
  -- if a write failed, the row has a reply, and a beginning of its line went out
  pub cut : OnErr result
      ((reply : Reply) × HandlesOne row g old new reply
      × AppendsFront before after (row_line (had.accepted + had.refused + 1) reply))

-- The rows were handled and reported in order, with the end and the counts.
pub record ImportsRows {S E : Type 0} (rows : List FileRow) (end : CopyEnd)
    (g : Ghosts S) (old new : Held S) (before after : Option (List ℕ))
    (result : Result Exit E) : Type 0 where
  pub clean : IsClean g new → IsClean g old
  -- everything due went out
  pub written : IfOk result (ImportsOf rows end g old new (AppendsBoth before after))
  -- if a write failed, the lines before that one went out, and a beginning of it or of the lines after the
  -- rows'; no later row was handled
  pub cut : OnErr result
      (((exit : Exit) × ImportsOf rows end g old new (AppendsAndFront before after) exit)
      ⊎ ImportsCut rows g old new (AppendsAndFront before after))

-- A copies file was imported: it was read as these rows, up to this end, and they were handled and reported.
pub record Imports {S E : Type 0} (bytes : Option (List ℕ))
    (g : Ghosts S) (old new : Held S) (before after : Option (List ℕ))
    (result : Result Exit E) : Type 0 where
  pub rows : List FileRow
  pub end : CopyEnd
  pub reading : IsReading bytes rows end
  pub imports : ImportsRows rows end g old new before after result
