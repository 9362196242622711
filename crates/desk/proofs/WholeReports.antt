-- A report that is written: its header, its rows, and their number.
use Rattle.std.proofs.Common.{◌≡◌, ℕ, ◌≤◌, ◌-◌, ◌^◌, List, [], ◌∷◌, ◌++◌, length, map, take, append_assoc, append-nil, refl, sym, ◌∙◌, ap}
use Rattle.std.specs.Prelude.{Option, Result, Ok, Err}
use Rattle.std.specs.Result.{IsErr, IsErrAnd}
use Rattle.std.specs.Io.KnownBytes.{Appends}
use Rattle.std.proofs.KnownBytes.{Appends-nil}
use Rattle.std.proofs.lemmas.List.{take_all}
use Rattle.store.specs.Library.{Ghosts, Held}
use Rattle.terms.specs.Writing.{AppendsFront}
use Rattle.terms.specs.declared.fault.Fault.TheVariants.{Memory}
use Rattle.model.specs.Asking.{Listing, above}
use Rattle.model.specs.History.{History}
use Rattle.model.specs.Reports.{report_lines}
use Rattle.desk.specs.Listing.{HasTold, IsCounted, lines_of, report_of}
use Rattle.desk.specs.Parts.{IsFront, WritesPart, WritesText}
use Rattle.desk.specs.declared.listing.Told.{Told}
use Rattle.desk.specs.declared.report_fault.ReportFault.{ReportFault}
use Rattle.desk.specs.declared.report_fault.ReportFault.TheVariants.{Faulted, NotWritten}
use Rattle.desk.proofs.Parts.{front-then, then-part, answered-part, handed-part, wrote-part, cut-part, memory-part}
use Rattle.desk.proofs.ReportLines.{report-more, report-last}

abbrev rows_of : Listing → List ℕ
rows_of x = report_lines (map x.row x.numbers)

module _ (x : Listing) (most : ℕ) (counted : (above 0 x.numbers ≡ x.numbers) × (length x.numbers ≤ most)) where
  all-numbers : take most (above 0 x.numbers) ≡ x.numbers
  all-numbers = ap (λ (ns : List ℕ). take most ns) counted.0 ∙ take_all most x.numbers counted.1

  all-lines : lines_of x most 0 ≡ rows_of x
  all-lines = ap (λ (ns : List ℕ). report_lines (map x.row ns)) all-numbers

  all-told : (told : Told) (sent : List ℕ) → HasTold x most (above 0 x.numbers) told sent → (told.rows ≡ length x.numbers) × (sent ≡ rows_of x)
  all-told told sent is = (is.rows ∙ ap (λ (ns : List ℕ). length ns) all-numbers, is.lines ∙ all-lines)

-- The report by its parts.
report-is : (x : Listing) (words : ℕ → List ℕ) (header : List ℕ) → header ≡ report_lines x.head
    → report_of x words ≡ header ++ (rows_of x ++ (words (length x.numbers) ++ 10 ∷ []))
report-is x words header is =
    report-last (x.head ++ map x.row x.numbers) (words (length x.numbers))
    ∙ ap (λ (t : List ℕ). t ++ (words (length x.numbers) ++ 10 ∷ [])) (report-more x.head (map x.row x.numbers))
    ∙ append_assoc (report_lines x.head) (rows_of x) (words (length x.numbers) ++ 10 ∷ [])
    ∙ ap (λ (t : List ℕ). t ++ (rows_of x ++ (words (length x.numbers) ++ 10 ∷ []))) (sym is)

module _ (Needs : History → Type 0) (list : History → Listing) (words : ℕ → List ℕ) (header : List ℕ) where
  abbrev If : History → Type 0
  If H = Needs H × IsCounted (list H) × (header ≡ report_lines (list H).head)

  abbrev text : History → List ℕ
  text H = report_of (list H) words

  abbrev end_of : History → List ℕ
  end_of H = words (length (list H).numbers) ++ 10 ∷ []

  is : (H : History) → If H → text H ≡ header ++ (rows_of (list H) ++ end_of H)
  is H given = report-is (list H) words header given.2

  so-far : (H : History) → If H → (sent tail : List ℕ) → sent ≡ header ++ rows_of (list H) → tail ≡ end_of H → text H ≡ sent ++ tail
  so-far H given sent tail out last = is H given ∙ sym (append_assoc header (rows_of (list H)) (end_of H)) ∙ (λ i. sym out i ++ sym last i)

  ended : (rows : ℕ) (last : List ℕ) → last ≡ words rows ++ 10 ∷ [] → (H : History) → rows ≡ length (list H).numbers → last ≡ end_of H
  ended rows last made H same = made ∙ ap (λ (m : ℕ). words m ++ 10 ∷ []) same

  abbrev Rows : {S : Type 0} → Ghosts S → Held S → Held S → Option (List ℕ) → Option (List ℕ) → Result Told ReportFault → Type 0
  Rows = WritesPart {T = Told} Needs (λ H told sent. HasTold (list H) (2 ^ 32 - 1) (above 0 (list H).numbers) told sent)
      (λ H sent. IsFront sent (lines_of (list H) (2 ^ 32 - 1) 0))

module _ {S : Type 0} {g : Ghosts S} {o : Held S} {a b : Option (List ℕ)} (Needs : History → Type 0) (list : History → Listing) (words : ℕ → List ℕ)
    (header : List ℕ) where
  -- The header went out in part, or not at all.
  pub header-cut : {T : Type 0} (r : Result T ReportFault) → IsErr r × IsErrAnd r (λ e. e ≡ NotWritten) → AppendsFront a b header
      → WritesText (If Needs list words header) (text Needs list words header) g o o a b r
  header-cut r failed front =
      then-part (wrote-part {Cut = λ _ _. ⊥} {x = tt {0}} [] (Appends-nil a)) (cut-part {If = If Needs list words header} {Is = λ _ _ _. ⊥} header r failed front)
      (λ H list given. given) (λ H list given none. given)
      (λ H any given none s out. front-then _ s header (rows_of (list H) ++ end_of Needs list words header H) (text Needs list words header H) (is Needs list words header H given ∙ ap (λ (t : List ℕ). t ++ (header ++ (rows_of (list H) ++ end_of Needs list words header H))) (sym none)) out)
      (λ H list given none y s never. absurd never)

  module _ (wrote : Appends a b header) {n : Held S} {c : Option (List ℕ)} where
    -- The rows went out in part.
    pub rows-failed : {T : Type 0} {why : ReportFault} (r : Result T ReportFault) → IsErr r × IsErrAnd r (λ e. e ≡ why) → Rows Needs list words header g o n b c (Err why)
        → WritesText (If Needs list words header) (text Needs list words header) g o n a c r
    rows-failed r failed rows =
        handed-part r failed
        (then-part {Given = If Needs list words header} {Wanted = λ _ _ _. Unit {0}} {Cut = λ H sent. IsFront sent (text Needs list words header H)} (wrote-part {If = If Needs list words header} {Cut = λ _ _. ⊥} {x = tt {0}} header wrote) rows
        (λ H list given. given) (λ H list given out. given.0)
        (λ H any given out s cut. front-then _ s (lines_of (list H) (2 ^ 32 - 1) 0) (end_of Needs list words header H) (text Needs list words header H)
        (is Needs list words header H given ∙ (λ i. sym out i ++ (sym (all-lines (list H) (2 ^ 32 - 1) given.1) i ++ end_of Needs list words header H))) cut) (λ _ _ _ _ _ _ _. tt))

    module _ (told : Told) (rows : Rows Needs list words header g o n b c (Ok told)) where
      rows-out : WritesPart {T = Told} (If Needs list words header) (λ H t sent. (t.rows ≡ length (list H).numbers) × (sent ≡ header ++ rows_of (list H))) (λ _ _. ⊥) g o n a c (Ok told)
      rows-out = answered-part (wrote-part {If = If Needs list words header} {Cut = λ _ _. ⊥} {x = tt {0}} header wrote) rows (λ H list given. given)
          (λ H list given out. given.0)
          (λ H any given out s is. let all = all-told (list H) (2 ^ 32 - 1) given.1 told s is in (all.0, (λ i. out i ++ all.1 i)))

      -- No memory was left for the last line.
      pub end-failed : {T : Type 0} (r : Result T ReportFault) → IsErr r × IsErrAnd r (λ e. e ≡ Faulted Memory) → WritesText (If Needs list words header) (text Needs list words header) g o n a c r
      end-failed r failed =
          then-part rows-out (memory-part {If = If Needs list words header} {Is = λ _ _ _. ⊥} {Cut = λ H sent. sent ≡ []} c r failed (λ _ _. refl)) (λ H list given. given)
          (λ H list given out. given)
          (λ H any given out s none. front-then _ s [] (end_of Needs list words header H) (text Needs list words header H) (so-far Needs list words header H given _ (end_of Needs list words header H) out.1 refl) ([], sym none ∙ sym (append-nil s)))
          (λ H list given out y s never. absurd never)

      module _ (last : List ℕ) (made : last ≡ words told.rows ++ 10 ∷ []) {d : Option (List ℕ)} where
        -- The last line went out in part, or not at all.
        pub end-cut : {T : Type 0} (r : Result T ReportFault) → IsErr r × IsErrAnd r (λ e. e ≡ NotWritten) → AppendsFront c d last
            → WritesText (If Needs list words header) (text Needs list words header) g o n a d r
        end-cut r failed front =
            then-part rows-out (cut-part {If = If Needs list words header} {Is = λ _ _ _. ⊥} last r failed front) (λ H list given. given) (λ H list given out. given)
            (λ H any given out s part. front-then _ s last [] (text Needs list words header H) (so-far Needs list words header H given _ (last ++ []) out.1 (append-nil last ∙ ended Needs list words header told.rows last made H out.0)) part)
            (λ H list given out y s never. absurd never)

        -- All of it went out.
        pub report-out : {T : Type 0} (x : T) → Appends c d last → WritesText (If Needs list words header) (text Needs list words header) g o n a d (Ok x)
        report-out x wrote_last =
            answered-part rows-out (wrote-part {If = If Needs list words header} {Cut = λ _ _. ⊥} {x = tt {0}} last wrote_last) (λ H list given. given) (λ H list given out. given)
            (λ H any given out s sent. sym (so-far Needs list words header H given _ s out.1 (sent ∙ ended Needs list words header told.rows last made H out.0)))
