-- A row that is told, and the rows of a batch.
use Rattle.std.proofs.Common.{◌≡◌, ℕ, inl, inr, List, [], ◌∷◌, ◌++◌, map, ◌∙◌, sym, ap, subst}
use Rattle.std.specs.Prelude.{Option, Some, Result, Ok, Err, String, string_bytes}
use Rattle.store.specs.Library.{Ghosts, Held, state}
use Rattle.std.specs.List.{Contains}
use Rattle.model.specs.Asking.{Listing, last_of}
use Rattle.model.specs.History.{History}
use Rattle.desk.specs.Answering.{LearnsIf}
use Rattle.desk.specs.Listing.{HasBatch, IsRowText, IsAdded, PutsRow, IsTold, IsRowCut, GoesOn, IsCut}
use Rattle.desk.specs.Parts.{WritesPart}
use Rattle.desk.specs.declared.listing.Told.{Told}
use Rattle.desk.specs.declared.report_fault.ReportFault.{ReportFault}
use Rattle.desk.specs.declared.report_fault.ReportFault.TheVariants.{NotWritten}
use Rattle.desk.proofs.Parts.{looks-so, learnt-part, then-part}

module _ {S Z : Type 0} {g : Ghosts S} {o n : Held S} {If : History → Type 0} (list : History → Listing) {most : ℕ} (number : ℕ) {k : ℕ} {found : Option (String Z)}
    {line : String Z} {row : List ℕ} {old : Told} {a b : Option (List ℕ)} where
  -- The row of a list was put, or a beginning of it.
  pub row-put : {r : Result Told ReportFault} → LearnsIf If (λ H text. IsRowText (list H) number text) g o n (Ok found) → found ≡ Some line
      → k ≡ number → row ≡ string_bytes line → PutsRow most k row old a b r
      → WritesPart If (λ H next sent. IsTold (list H) most number old next sent) (λ H sent. IsRowCut (list H) most number old sent) g o n a b r
  row-put {r = Ok new} learnt is same bytes put = record {
    sent = put.added.0;
    wrote = put.added.1;
    told = λ disk H shows given.
        let text = subst (IsRowText (list H) number) is (learnt.shown disk H shows given) in
        inl (
          text.0,
          subst (λ (t : List ℕ). IsAdded most number t old new put.added.0) (bytes ∙ text.1)
              (subst (λ (m : ℕ). IsAdded most m row old new put.added.0) same put.added.2),
        );
    front = λ disk. tt;
    refused = λ refusal e. let never : ⊥ = cc in never;
    sound = λ disk e. let never : ⊥ = cc in absurd never;
    stays = λ disk e. let never : ⊥ = cc in absurd never;
    looks = looks-so (state g o) (state g n) found (Ok new) learnt.looks;
  }
  row-put {r = Err why} learnt is same bytes put =
      let unwritten : why ≡ NotWritten = put.cut.1 in
      record {
        sent = put.cut.2.sent;
        wrote = put.cut.2.wrote;
        told = λ disk. tt;
        front = λ disk H shows given.
            let text = subst (IsRowText (list H) number) is (learnt.shown disk H shows given) in
            inr (text.0, put.cut.0, (put.cut.2.rest, ap (λ (t : List ℕ). t ++ 10 ∷ []) (sym (bytes ∙ text.1)) ∙ put.cut.2.whole));
        refused = λ refusal e. let never : ⊥ = cc in never;
        sound = λ disk e. let never : ⊥ = cc in absurd never;
        stays = λ disk e. learnt.looks.stays disk;
        looks = looks-so (state g o) (state g n) found (Err why) learnt.looks;
      }

-- A batch was read, and its rows were told.
pub batch-part : {S R V : Type 0} {g : Ghosts S} {o m n : Held S} {a b : Option (List ℕ)} {Needs : History → Type 0} {Has : History → V → Type 0} {x : V}
    (list : History → Listing) (most at : ℕ) (number_of : R → ℕ) (Is : History → R → Type 0) (rows : List R) (old : Told) {r : Result Told ReportFault}
    → LearnsIf Needs Has g o m (Ok x) → ((H : History) → Has H x → HasBatch number_of (Is H) (list H) at rows)
    → WritesPart (λ H. Needs H × ((r : R) → Contains rows r → Is H r))
    (λ H next sent. (at : ℕ) → HasBatch number_of (Is H) (list H) at rows → GoesOn (list H) most at (last_of at (map number_of rows)) old next sent)
    (λ H sent. (at : ℕ) → HasBatch number_of (Is H) (list H) at rows → IsCut (list H) most at old sent) g m n a b r
    → WritesPart Needs
    (λ H next sent. HasBatch number_of (Is H) (list H) at rows × GoesOn (list H) most at (last_of at (map number_of rows)) old next sent)
    (λ H sent. IsCut (list H) most at old sent) g o n a b r
batch-part {a = a} list most at number_of Is rows old learnt has part =
    then-part (learnt-part {Cut = λ _ _. ⊥} a learnt) part (λ H _ needs. needs) (λ H _ needs is. (needs, λ r there. ((has H is.0).sound r there).0))
    (λ H _ needs is s cut. subst (IsCut (list H) most at old) (ap (λ (t : List ℕ). t ++ s) (sym is.1)) (cut at (has H is.0)))
    (λ H _ needs is next s goes. (
      has H is.0,
      subst (GoesOn (list H) most at (last_of at (map number_of rows)) old next) (ap (λ (t : List ℕ). t ++ s) (sym is.1)) (goes at (has H is.0)),
    ))
