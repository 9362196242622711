-- Each charge has its note, and each note is of a charge or a payment, made at a branch that is there.
use Rattle.std.proofs.Common.{◌≡◌, ℕ, zero, suc, true, List, [], ◌∷◌, ◌++◌, refl, sym, ◌∙◌, ap, subst, arith}
use Rattle.std.specs.Prelude.{Option, Some, None, is_some, option_map, option_and_then, IfSome}
use Rattle.std.specs.List.{AllByRecursion}
use Rattle.terms.specs.declared.command.Owner.{Owner}
use Rattle.terms.specs.declared.command.Command.{Command}
use Rattle.terms.specs.declared.row.LineRow.{LineRow}
use Rattle.terms.specs.declared.row.NoteRow.{NoteRow}
use Rattle.terms.specs.declared.row.Sort.{Sort}
use Rattle.terms.specs.declared.row.Sort.TheVariants.{Fine, Price, Payment, Charge}
use Rattle.model.specs.History.{Event, History, branch_of}
use Rattle.model.specs.Places.{Place, Loan, place}
use Rattle.model.specs.Loans.{grace_of}
use Rattle.model.specs.Accounts.{Note, Line, Posting, Returned, Lost, Settled, Charged, NoPosting, posting, noted_line, lines, lines_after, nth_line}
use Rattle.model.specs.Accounts.{fine_line, price_line, fine_now, price_of, borrower}
use Rattle.model.specs.CounterLaws.{IsNoteFor, Notes}
use Rattle.model.specs.Picture.{picture, line_columns, note_columns}
use Rattle.model.specs.Refusals.{refusal}
use Rattle.model.specs.Requests.{IsLegal}
use Rattle.model.proofs.Bindings.{not-false}
use Rattle.model.proofs.ClaimsLaw.{map-some}
use Rattle.model.proofs.Postings.{IsSettlement, settlement, IsCounter, at-counter, charging}
use Rattle.model.proofs.SettingRanges.{some-same, none-some}
use Rattle.model.proofs.Staying.{IsThere, some-there, branch-stays}

-- A line of this sort with this note: a charge has one; it fits the sort, and its branch is there.
pub record IsNoted (H : History) (s : Sort) (remark : Option Note) : Type 0 where
  pub charge : s ≡ Charge → is_some remark ≡ true
  pub branch : (k : Note) → remark ≡ Some k → IsThere (branch_of H k.branch)
  pub fits : (k : Note) → remark ≡ Some k → IsNoteFor s k.text

abbrev pub AreNoted : History → List Line → Type 0
AreNoted H = AllByRecursion (λ x. IsNoted H x.sort x.note)

-- ---- lines

without : (H : History) (s : Sort) → (s ≡ Charge → ⊥) → IsNoted H s None
without H s other = record { charge = λ e. absurd (other e); branch = λ k e. absurd (none-some k e); fits = λ k e. absurd (none-some k e) }

not-charge : (s : Sort) → IsSettlement s → s ≡ Charge → ⊥
not-charge s is e = let same : IsSettlement Charge = subst IsSettlement e is in let none : 0 ≡ 1 = same.credits 1 in let never : ⊥ = omega (arith, none) in never

at-branch : (H : History) (k : Note) → IsThere (branch_of H k.branch) → (j : Note) → ◌≡◌ {A = Option Note} (Some k) (Some j) → IsThere (branch_of H j.branch)
at-branch H k there j e = subst (λ (n : Note). IsThere (branch_of H n.branch)) (some-same k j e) there

settled-noted : (H : History) (s : Sort) (remark : Option Note) → (s ≡ Charge → ⊥) → IfSome remark (IsCounter H s) → IsNoted H s remark
settled-noted H s None other counter = without H s other
settled-noted H s (Some k) other counter = record {
  charge = λ e. absurd (other e);
  branch = at-branch H k (not-false _ counter.branch);
  fits = λ j e. subst (λ (n : Note). IsNoteFor s n.text) (some-same k j e)
      (subst (λ t. IsNoteFor t k.text) (sym counter.payment) (subst (IsNoteFor Payment) (sym counter.untold) tt));
}

told-fits : (text : Option (List ℕ)) → is_some text ≡ true → IsNoteFor Charge text
told-fits (Some text) e = tt
told-fits None e = let never : ⊥ = cc in absurd never

noted-one : (H : History) (p : ℕ) (s : Sort) (loan : Option ℕ) (remark : Option Note) (n : ℕ) → IsNoted H s remark → AreNoted H (noted_line H p s loan remark n)
noted-one H p s loan remark zero is = tt
noted-one H p s loan remark (suc n) is = (is, tt)

noted-append : (H : History) (xs ys : List Line) → AreNoted H xs → AreNoted H ys → AreNoted H (xs ++ ys)
noted-append H [] ys a b = b
noted-append H (x ∷ xs) ys a b = (a.0, noted-append H xs ys a.1 b)

noted-fine : (H : History) (p : Place) → AreNoted H (fine_line H (grace_of H) p)
noted-fine H (Loan l) =
    noted-one H (borrower H l) Fine (Some l) None (fine_now H (grace_of H) l) (without H Fine (λ e. let never : ⊥ = cc in never))
noted-fine H _ = tt

noted-price : (H : History) (c : ℕ) (p : Place) → AreNoted H (price_line H c p)
noted-price H c (Loan l) = noted-one H (borrower H l) Price (Some l) None (price_of H c) (without H Price (λ e. let never : ⊥ = cc in never))
noted-price H c _ = tt

lines-step : (H : History) (o : Owner) (x : Command) (made : Posting) → posting x ≡ made → refusal H o x ≡ None → AreNoted H (lines H)
    → AreNoted H (lines_after H made (lines H))
lines-step H o x (Returned c) e ok was = noted-append H (lines H) (fine_line H (grace_of H) (place H c)) was (noted-fine H (place H c))
lines-step H o x (Lost c) e ok was =
    noted-append H (lines H) (fine_line H (grace_of H) (place H c) ++ price_line H c (place H c)) was
    (noted-append H (fine_line H (grace_of H) (place H c)) (price_line H c (place H c)) (noted-fine H (place H c)) (noted-price H c (place H c)))
lines-step H o x (Settled p sort remark n) e ok was =
    noted-append H (lines H) (noted_line H p sort None remark n) was
    (noted-one H p sort None remark n
    (settled-noted H sort remark (not-charge sort (settlement x p n sort remark e)) (at-counter H o x p n sort remark ok e)))
lines-step H o x (Charged p remark n) e ok was =
    let pass = charging H o x p n remark ok e in
    noted-append H (lines H) (noted_line H p Charge None (Some remark) n) was
    (noted-one H p Charge None (Some remark) n (record {
      charge = λ same. refl;
      branch = at-branch H remark (not-false _ pass.branch);
      fits = λ j same. subst (λ (k : Note). IsNoteFor Charge k.text) (some-same remark j same) (told-fits remark.text pass.told);
    }))
lines-step H o x NoPosting e ok was = was

-- A branch that is there stays there.
noted-stays : (e : Event) (H : History) (s : Sort) (remark : Option Note) → IsNoted H s remark → IsNoted (e ∷ H) s remark
noted-stays e H s remark is =
    record { charge = is.charge; branch = λ k at. branch-stays e.command k.branch (branch_of H k.branch) (is.branch k at); fits = is.fits }

all-stay : (e : Event) (H : History) (xs : List Line) → AreNoted H xs → AreNoted (e ∷ H) xs
all-stay e H [] was = tt
all-stay e H (x ∷ xs) was = (noted-stays e H x.sort x.note was.0, all-stay e H xs was.1)

pub legal-noted : (H : History) → IsLegal H → AreNoted H (lines H)
legal-noted [] legal = tt
legal-noted (e ∷ H) legal =
    all-stay e H (lines_after H (posting e.command) (lines H))
    (lines-step H e.owner e.command (posting e.command) refl legal.0.unrefused (legal-noted H legal.1))

-- ---- rows

nth-noted : (H : History) (xs : List Line) (n : ℕ) (x : Line) → AreNoted H xs → nth_line xs n ≡ Some x → IsNoted H x.sort x.note
nth-noted H [] n x a e = absurd (none-some x e)
nth-noted H (y ∷ xs) zero x a e = absurd (none-some x e)
nth-noted H (y ∷ xs) (suc zero) x a e = subst (λ (z : Line). IsNoted H z.sort z.note) (some-same y x e) a.0
nth-noted H (y ∷ xs) (suc (suc n)) x a e = nth-noted H xs (suc n) x a.1 e

-- The line and the note of a row of notes.
pub record IsNoteOf (H : History) (n : ℕ) (r : NoteRow) : Type 0 where
  pub at : Line
  pub note : Note
  pub numbered : nth_line (lines H) n ≡ Some at
  pub noted : at.note ≡ Some note
  pub is : note_columns H n note ≡ r

pub note-of : (H : History) (n : ℕ) (r : NoteRow) → (picture H).notes n ≡ Some r → IsNoteOf H n r
note-of H n r e = go (nth_line (lines H) n) refl e
  where
    go : (o : Option Line) → nth_line (lines H) n ≡ o → option_and_then (λ x. option_map (note_columns H n) x.note) o ≡ Some r → IsNoteOf H n r
    go None at f = absurd (none-some r f)
    go (Some x) at f = let k = map-some (note_columns H n) x.note r f in record { at = x; note = k.0; numbered = at; noted = k.1; is = k.2 }

pub record IsNoteThere (H : History) (r : NoteRow) : Type 0 where
  pub line : IsThere ((picture H).lines r.line)
  pub branch : IsThere (branch_of H r.branch)

pub note-there : (H : History) → IsLegal H → (n : ℕ) (r : NoteRow) → (picture H).notes n ≡ Some r → IsNoteThere H r
note-there H legal n r e =
    let w = note-of H n r e in
    let is = nth-noted H (lines H) n w.at (legal-noted H legal) w.numbered in
    subst (IsNoteThere H) w.is (record { line = some-there _ (line_columns H n w.at) (ap (option_map (line_columns H n)) w.numbered); branch = is.branch w.note w.noted })

pub notes : Notes
notes H legal = record {
  charges = λ n r row same.
      let x = map-some (line_columns H n) (nth_line (lines H) n) r row in
      let is = nth-noted H (lines H) n x.0 (legal-noted H legal) x.1 in
      has-row n x.0 x.1 x.0.note refl (is.charge (ap (λ (q : LineRow). q.sort) x.2 ∙ same));
  fits = λ n r row.
      let w = note-of H n r row in
      let is = nth-noted H (lines H) n w.at (legal-noted H legal) w.numbered in (
        line_columns H n w.at,
        ap (option_map (line_columns H n)) w.numbered,
        subst (λ (q : NoteRow). IsNoteFor w.at.sort q.text) w.is (is.fits w.note w.noted),
      );
}
  where
    has-row : (n : ℕ) (x : Line) → nth_line (lines H) n ≡ Some x → (remark : Option Note) → x.note ≡ remark → is_some remark ≡ true
        → (k : NoteRow) × ((picture H).notes n ≡ Some k)
    has-row n x at (Some k) noted e =
        (note_columns H n k, ap (option_and_then (λ y. option_map (note_columns H n) y.note)) at ∙ ap (option_map (note_columns H n)) noted)
    has-row n x at None noted e = let never : ⊥ = cc in absurd never
