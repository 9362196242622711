-- Rows of a copies file, handled and reported in order.
use Rattle.front.specs.declared.copies.TheConstants.{MOST_ROWS}
use Rattle.std.proofs.Common.{◌≡◌, ℕ, suc, ◌+◌, ◌≤◌, ◌<◌, Bool, true, false, not, cond, List, [], ◌∷◌, ◌++◌, length, take, Option}
use Rattle.std.proofs.Common.{append_assoc, append-nil, refl, sym, ◌∙◌, ap, subst, arith}
use Rattle.std.specs.Prelude.{filter, IsTrue}
use Rattle.std.proofs.KnownBytes.{Appends-trans}
use Rattle.std.proofs.Math.Seq.{take-append_seam}
use Rattle.std.proofs.lemmas.List.{map-append, length-append, take_at}
use Rattle.std.proofs.lemmas.List.Elements.{filter-append}
use Rattle.std.specs.Io.KnownBytes.{Appends}
use Rattle.store.specs.Library.{Ghosts, Held, state, HasCleanDisk, HasTables, IsAsItWas}
use Rattle.terms.specs.Writing.{AppendsFront}
use Rattle.terms.specs.Texts.{fault_number}
use Rattle.terms.specs.declared.command.Request.{Request}
use Rattle.terms.specs.declared.fault.Fault.{Fault}
use Rattle.terms.specs.declared.fault.Fault.TheVariants.{Stored}
use Rattle.terms.specs.declared.reply.Reply.{Reply}
use Rattle.terms.specs.declared.reply.Reply.TheVariants.{Done, Lent, CheckedIn, Held as Waits, Moved, Lost, Owed, Shown, Refused}
use Rattle.model.specs.History.{History}
use Rattle.model.specs.Requests.{after, after_one, replies as replies_to}
use Rattle.desk.specs.Answering.{Shows, Stays, LeavesOneOf}
use Rattle.desk.proofs.Afterwards.{after-last, replies-last}
use Rattle.desk.proofs.Chains.{handled-last}
use Rattle.desk.proofs.Shown.{shows-headline}
use Rattle.desk.specs.Running.{HandledAll}
use Rattle.front.specs.declared.copies.CopyEnd.{CopyEnd}
use Rattle.front.specs.declared.copies.FileRow.{FileRow}
use Rattle.circ.specs.Importing.{request_of, requests_of, row_line, row_lines, end_line, counts_line, closing_lines, end_exit, is_refusal}
use Rattle.circ.specs.Importing.{accepted_in, refused_in, with_row, HandlesOne, HandlesRows, ImportsAll, ImportsSome, ImportsCut}
use Rattle.circ.specs.Lines.{fault_line, AppendsBoth, AppendsAndFront}
use Rattle.terms.proofs.Fronts.{appends-nothing}
use Rattle.circ.specs.declared.importing.Tally.{Tally}
use Rattle.circ.specs.declared.lines.Exit.TheVariants.{Faulted}

-- ---- histories

requests-more : (rows : List FileRow) (row : FileRow) → requests_of (rows ++ row ∷ []) ≡ requests_of rows ++ request_of row ∷ []
requests-more rows row = map-append request_of rows (row ∷ [])

pub after-more : (H : History) (rows : List FileRow) (row : FileRow)
    → after H (requests_of (rows ++ row ∷ [])) ≡ after_one (after H (requests_of rows)) (request_of row)
after-more H rows row = ap (after H) (requests-more rows row) ∙ after-last (requests_of rows) H (request_of row)

length-more : {A : Type 0} (xs : List A) (x : A) → length (xs ++ x ∷ []) ≡ length xs + 1
length-more xs x = length-append xs (x ∷ [])

pub handles-more : {S : Type 0} (g : Ghosts S) (old mid new : Held S) (rows : List FileRow) (replies : List Reply) (row : FileRow) (reply : Reply)
    → HandlesRows rows g old mid replies → HandlesOne row g mid new reply → HandlesRows (rows ++ row ∷ []) g old new (replies ++ reply ∷ [])
handles-more g old mid new rows replies row reply all one = record {
  many = length-more replies reply ∙ ap (λ n. n + 1) all.many ∙ sym (length-more rows row);
  each = subst (λ (requests : List Request). HandledAll g requests (replies ++ reply ∷ []) old new) (sym (requests-more rows row))
      (handled-last g (requests_of rows) replies (request_of row) reply old mid new all.each one);
  clean = λ disk. all.clean (one.clean disk);
  replied = replied;
  headline = λ disk H shows. shows-headline (state g new) (after H (requests_of (rows ++ row ∷ []))) (replied disk H shows).1;
}
  where
    replied : HasCleanDisk (state g new) → (H : History) → Shows (state g old) H
        → (replies ++ reply ∷ [] ≡ replies_to H (requests_of (rows ++ row ∷ []))) × Shows (state g new) (after H (requests_of (rows ++ row ∷ [])))
    replied disk H shows =
        let before = all.replied (one.clean disk) H shows in
        let last = one.replied disk (after H (requests_of rows)) before.1 in (
          ap (λ (t : List Reply). t ++ reply ∷ []) before.0 ∙ ap (λ (y : Reply). replies_to H (requests_of rows) ++ y ∷ []) last.0
              ∙ sym (replies-last (requests_of rows) H (request_of row)) ∙ ap (replies_to H) (sym (requests-more rows row)),
          subst (λ (K : History). Shows (state g new) K) (sym (after-more H rows row)) last.1,
        )

-- ---- lines and counts

lines-from : (n : ℕ) (replies : List Reply) (reply : Reply) → row_lines n (replies ++ reply ∷ []) ≡ row_lines n replies ++ row_line (n + length replies) reply
lines-from n [] reply = append-nil (row_line n reply) ∙ ap (λ (m : ℕ). row_line m reply) (omega arith)
lines-from n (x ∷ replies) reply =
    ap (λ (t : List ℕ). row_line n x ++ t) (lines-from (n + 1) replies reply ∙ ap (λ (m : ℕ). row_lines (n + 1) replies ++ row_line m reply) (omega arith))
    ∙ sym (append_assoc (row_line n x) (row_lines (n + 1) replies) (row_line (n + suc (length replies)) reply))

pub lines-more : (replies : List Reply) (reply : Reply) → row_lines 1 (replies ++ reply ∷ []) ≡ row_lines 1 replies ++ row_line (length replies + 1) reply
lines-more replies reply = lines-from 1 replies reply ∙ ap (λ (m : ℕ). row_lines 1 replies ++ row_line m reply) (omega arith)

accepted-more : (replies : List Reply) (reply : Reply) → accepted_in (replies ++ reply ∷ []) ≡ accepted_in replies + accepted_in (reply ∷ [])
accepted-more replies reply = ap length (filter-append (λ r. not (is_refusal r)) replies (reply ∷ []))
    ∙ length-append (filter (λ r. not (is_refusal r)) replies) (filter (λ r. not (is_refusal r)) (reply ∷ []))

refused-more : (replies : List Reply) (reply : Reply) → refused_in (replies ++ reply ∷ []) ≡ refused_in replies + refused_in (reply ∷ [])
refused-more replies reply = ap length (filter-append is_refusal replies (reply ∷ []))
    ∙ length-append (filter is_refusal replies) (filter is_refusal (reply ∷ []))

-- Each reply is accepted or refused.
pub both-kinds : (replies : List Reply) → accepted_in replies + refused_in replies ≡ length replies
both-kinds [] = refl
both-kinds (x ∷ replies) = go (is_refusal x) (both-kinds replies)
  where
    go : (b : Bool) → accepted_in replies + refused_in replies ≡ length replies
        → length (cond (not b) (x ∷ filter (λ r. not (is_refusal r)) replies) (filter (λ r. not (is_refusal r)) replies)) + length
        (cond b (x ∷ filter is_refusal replies) (filter is_refusal replies)) ≡ suc (length replies)
    go true ih = omega (arith, ih)
    go false ih = omega (arith, ih)

-- The counts are those of these replies.
pub record IsTally (counts : Tally) (replies : List Reply) : Type 0 where
  pub accepted : counts.accepted ≡ accepted_in replies
  pub refused : counts.refused ≡ refused_in replies

with-one : (counts : Tally) (reply : Reply) → ((with_row counts reply).accepted ≡ counts.accepted + accepted_in (reply ∷ []))
    × ((with_row counts reply).refused ≡ counts.refused + refused_in (reply ∷ []))
with-one counts Done = (refl, omega arith)
with-one counts (Lent loan due) = (refl, omega arith)
with-one counts (CheckedIn fine routed) = (refl, omega arith)
with-one counts (Waits hold) = (refl, omega arith)
with-one counts (Moved routed) = (refl, omega arith)
with-one counts (Lost fine price) = (refl, omega arith)
with-one counts (Owed owed) = (refl, omega arith)
with-one counts (Shown page) = (refl, omega arith)
with-one counts (Refused refusal) = (omega arith, refl)

pub counted-more : (counts : Tally) (replies : List Reply) (reply : Reply) → IsTally counts replies → IsTally (with_row counts reply) (replies ++ reply ∷ [])
counted-more counts replies reply counted = record {
  accepted = (with-one counts reply).0 ∙ ap (λ n. n + accepted_in (reply ∷ [])) counted.accepted ∙ sym (accepted-more replies reply);
  refused = (with-one counts reply).1 ∙ ap (λ n. n + refused_in (reply ∷ [])) counted.refused ∙ sym (refused-more replies reply);
}

pub counted-all : (counts : Tally) (replies : List Reply) → IsTally counts replies → counts.accepted + counts.refused ≡ length replies
counted-all counts replies counted = (λ i. counted.accepted i + counted.refused i) ∙ both-kinds replies

-- ---- the rows so far

-- The rows were handled, told and counted.
pub record SoFar {S : Type 0} (g : Ghosts S) (old new : Held S) (rows : List FileRow) (counts : Tally) (a b : Option (List ℕ)) : Type 0 where
  pub replies : List Reply
  pub handled : HandlesRows rows g old new replies
  pub lines : Appends a b (row_lines 1 replies)
  pub counted : IsTally counts replies

pub far-more : {S : Type 0} (g : Ghosts S) (old mid new : Held S) (rows : List FileRow) (counts : Tally) (a b c : Option (List ℕ))
    (row : FileRow) (reply : Reply)
    → SoFar g old mid rows counts a b → HandlesOne row g mid new reply → Appends b c (row_line (counts.accepted + counts.refused + 1) reply)
    → SoFar g old new (rows ++ row ∷ []) (with_row counts reply) a c
far-more g old mid new rows counts a b c row reply far one wrote = record {
  replies = far.replies ++ reply ∷ [];
  handled = handles-more g old mid new rows far.replies row reply far.handled one;
  lines = subst (Appends a c) (ap (λ (n : ℕ). row_lines 1 far.replies ++ row_line (n + 1) reply)
      (counted-all counts far.replies far.counted) ∙ sym (lines-more far.replies reply))
      (Appends-trans a b c (row_lines 1 far.replies) (row_line (counts.accepted + counts.refused + 1) reply) far.lines wrote);
  counted = counted-more counts far.replies reply far.counted;
}

pub far-none : {S : Type 0} (g : Ghosts S) (held : Held S) (a : Option (List ℕ)) → SoFar g held held [] (record { accepted = 0; refused = 0 }) a a
far-none g held a = record {
  replies = [];
  handled = record {
    many = refl;
    each = refl;
    clean = λ disk. disk;
    replied = λ disk H shows. (refl, shows);
    headline = λ disk H shows. shows-headline (state g held) H shows;
  };
  lines = appends-nothing a;
  counted = record { accepted = refl; refused = refl };
}

-- ---- bytes that go out

-- A beginning of what follows went out, after all that came before.
front-and-after : (a b c : Option (List ℕ)) (first others : List ℕ) → Appends a b first → AppendsFront b c others → AppendsAndFront a c first others
front-and-after a b c first others out front = record {
  sent = front.sent;
  rest = front.rest;
  whole = front.whole;
  wrote = Appends-trans a b c first front.sent out front.wrote;
}

-- ---- one row of all

-- The rows before a row, with it, and how many they are.
pub record Within (all before : List FileRow) (row : FileRow) : Type 0 where
  pub before_are : take (length before) all ≡ before
  pub with_are : take (length before + 1) all ≡ before ++ row ∷ []
  pub few : length before < length all

pub within : (all before left rest : List FileRow) (row : FileRow) → before ++ left ≡ all → left ≡ row ∷ rest → Within all before row
within all before left rest row parted first =
    let whole : before ++ row ∷ rest ≡ all = ap (λ xs. before ++ xs) (sym first) ∙ parted in
    let again : (before ++ row ∷ []) ++ rest ≡ all = append_assoc before (row ∷ []) rest ∙ whole in
    let many : length before + length (row ∷ rest) ≡ length all = sym (length-append before (row ∷ rest)) ∙ ap length whole in
    record {
      before_are = ap (λ xs. take (length before) xs) (sym whole) ∙ take-append_seam before (row ∷ rest);
      with_are = ap (λ xs. take (length before + 1) xs) (sym again) ∙ take_at (before ++ row ∷ []) rest (length before + 1) (length-more before row);
      few = omega (arith, many);
    }

-- There is room for a row more.
pub room-for : {S : Type 0} (g : Ghosts S) (old new : Held S) (before : List FileRow) (counts : Tally) (a b : Option (List ℕ))
    (all : List FileRow) (row : FileRow)
    → SoFar g old new before counts a b → Within all before row → length all ≤ MOST_ROWS → counts.accepted + counts.refused < MOST_ROWS
room-for g old new before counts a b all row far at most = omega (arith, counted-all counts far.replies far.counted, far.handled.many, at.few, most)

module _ {S : Type 0} (g : Ghosts S) (old mid new : Held S) (all before : List FileRow) (counts : Tally) (a b : Option (List ℕ))
    (row : FileRow) (far : SoFar g old mid before counts a b) (at : Within all before row) where
  told : length far.replies ≡ length before
  told = far.handled.many

  rows-before : take (length far.replies) all ≡ before
  rows-before = ap (λ n. take n all) told ∙ at.before_are

  rows-with : take (length far.replies + 1) all ≡ before ++ row ∷ []
  rows-with = ap (λ n. take (n + 1) all) told ∙ at.with_are

  -- A fault came at the row.
  pub imports-some : (fault : Fault) (WentOut : List ℕ → List ℕ → Type 0) → (HasCleanDisk (state g new) → HasCleanDisk (state g mid))
      → (HasCleanDisk (state g new) → fault ≡ Stored → (H : History) → Shows (state g mid) H → ⊥)
      → (HasCleanDisk (state g new) → IsTrue (state g new).is_open → Stays (state g mid) (state g new))
      → (HasCleanDisk (state g new) → IsTrue (state g new).is_open → HasTables (state g mid).now → IsAsItWas (state g mid) (state g new))
      → (HasCleanDisk (state g new) → (H : History) → Shows (state g mid) H → LeavesOneOf (state g new) H (after_one H (request_of row)))
      → WentOut (row_lines 1 far.replies) (closing_lines far.replies (fault_line (fault_number fault))) → ImportsSome all g old new WentOut Faulted
  imports-some fault WentOut clean sound undone nothing left lines = record {
    replies = far.replies;
    fault = fault;
    few = let few : length before < length all = at.few in omega (arith, few, told);
    lines = lines;
    exit_is = refl;
    sound = λ disk stored H shows. sound disk stored (after H (requests_of before)) (far.handled.replied (clean disk) H shows).1;
    mid = mid;
    handled = subst (λ (rows : List FileRow). HandlesRows rows g old mid far.replies) (sym rows-before) far.handled;
    clean = clean;
    nothing = nothing;
    undone = is_undone;
    headline = λ disk is_open H shows. shows-headline (state g new) (after H (requests_of (take (length far.replies) all))) (is_undone disk is_open H shows);
    left = λ disk H shows.
        let now : History = after H (requests_of before) in
        let leaves : LeavesOneOf (state g new) now (after_one now (request_of row)) = left disk now (far.handled.replied (clean disk) H shows).1 in
        let next : after_one now (request_of row) ≡ after H (requests_of (take (length far.replies + 1) all)) =
        sym (after-more H before row) ∙ ap (λ (rows : List FileRow). after H (requests_of rows)) (sym rows-with) in
        subst (λ (K : History). LeavesOneOf (state g new) (after H (requests_of (take (length far.replies) all))) K) next
        (subst (λ (rows : List FileRow). LeavesOneOf (state g new) (after H (requests_of rows)) (after_one now (request_of row))) (sym rows-before) leaves);
  }
    where
      is_undone : HasCleanDisk (state g new) → IsTrue (state g new).is_open → (H : History) → Shows (state g old) H
          → Shows (state g new) (after H (requests_of (take (length far.replies) all)))
      is_undone disk is_open H shows = subst (λ (rows : List FileRow). Shows (state g new) (after H (requests_of rows))) (sym rows-before)
          (undone disk is_open (after H (requests_of before)) (far.handled.replied (clean disk) H shows).1)

  -- The line of the row could not be written.
  pub imports-cut : (c : Option (List ℕ)) (reply : Reply) → HandlesOne row g mid new reply
      → AppendsFront b c (row_line (counts.accepted + counts.refused + 1) reply) → ImportsCut all g old new (AppendsAndFront a c)
  imports-cut c reply one front = record {
    replies = far.replies;
    last = reply;
    few = let few : length before < length all = at.few in omega (arith, few, told);
    handled = subst (λ (rows : List FileRow). HandlesRows rows g old new (far.replies ++ reply ∷ [])) (sym rows-with)
        (handles-more g old mid new before far.replies row reply far.handled one);
    lines = subst (λ (n : ℕ). AppendsAndFront a c (row_lines 1 far.replies) (row_line (n + 1) reply)) (counted-all counts far.replies far.counted)
        (front-and-after a b c (row_lines 1 far.replies) (row_line (counts.accepted + counts.refused + 1) reply) far.lines front);
  }

-- ---- the lines after those of the rows

module _ {S : Type 0} (g : Ghosts S) (old new : Held S) (rows : List FileRow) (counts : Tally) (a b : Option (List ℕ))
    (far : SoFar g old new rows counts a b) (end : List ℕ) where
  last-lines : end ++ counts_line counts.accepted counts.refused ≡ closing_lines far.replies end
  last-lines = λ i. end ++ counts_line (far.counted.accepted i) (far.counted.refused i)

  pub lines-whole : (c : Option (List ℕ)) → Appends b c (end ++ counts_line counts.accepted counts.refused)
      → AppendsBoth a c (row_lines 1 far.replies) (closing_lines far.replies end)
  lines-whole c wrote = subst (AppendsBoth a c (row_lines 1 far.replies)) last-lines
      (Appends-trans a b c (row_lines 1 far.replies) (end ++ counts_line counts.accepted counts.refused) far.lines wrote)

  pub lines-front : (c : Option (List ℕ)) → AppendsFront b c (end ++ counts_line counts.accepted counts.refused)
      → AppendsAndFront a c (row_lines 1 far.replies) (closing_lines far.replies end)
  lines-front c front = subst (AppendsAndFront a c (row_lines 1 far.replies)) last-lines
      (front-and-after a b c (row_lines 1 far.replies) (end ++ counts_line counts.accepted counts.refused) far.lines front)

  -- All rows were handled.
  pub imports-all : (all : List FileRow) → rows ≡ all → (end_of : CopyEnd) (WentOut : List ℕ → List ℕ → Type 0)
      → WentOut (row_lines 1 far.replies) (closing_lines far.replies (end_line end_of))
      → ImportsAll all end_of g old new WentOut (end_exit end_of counts.refused)
  imports-all all is end_of WentOut lines = record {
    replies = far.replies;
    handled = subst (λ (xs : List FileRow). HandlesRows xs g old new far.replies) is far.handled;
    lines = lines;
    exit_is = ap (end_exit end_of) far.counted.refused;
  }
