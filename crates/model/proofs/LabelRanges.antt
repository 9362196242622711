-- In every legal history whose commands have their forms, barcodes and the texts of charges have theirs.
use Rattle.std.proofs.Common.{◌≡◌, ℕ, zero, suc, Bool, true, false, cond, List, [], ◌∷◌, ◌++◌, refl, ◌∙◌, ap, subst}
use Rattle.std.specs.Prelude.{Option, Some, None, IfSome}
use Rattle.std.specs.List.{AllByRecursion}
use Rattle.terms.specs.Forms.{IsName, is_barcode}
use Rattle.terms.specs.Laws.{IsCommand}
use Rattle.terms.specs.Limits.{IsThing, IsSmall}
use Rattle.terms.specs.Pictures.{same_thing}
use Rattle.terms.specs.declared.command.Command.{Command}
use Rattle.terms.specs.declared.command.Command.TheVariants.{CopyBarcode, PatronBarcode, DropBarcode, CheckIn, Missing, Pay, Waive, Charge, PayAt}
use Rattle.terms.specs.declared.row.Sort.{Sort}
use Rattle.terms.specs.declared.row.Sort.TheVariants.{Fine, Price, Payment, Waiver, Charge as ChargeSort}
use Rattle.terms.specs.declared.row.Thing.{Thing}
use Rattle.terms.specs.declared.row.Thing.TheVariants as thing
use Rattle.model.specs.History.{History, patron_of, copy_of, branch_of, Labelling, Gives, Takes, NoLabelling, labelling, is_barcode_of, barcode_after, barcode_of}
use Rattle.model.specs.Places.{Place, Loan, place}
use Rattle.model.specs.Loans.{grace_of}
use Rattle.model.specs.Accounts.{Note, Line, posting, noted_line, lines, lines_after, nth_line, fine_line, price_line, fine_now, price_of, borrower}
use Rattle.model.specs.Forms.{HasForms}
use Rattle.model.proofs.Labels.{ThingThere}
use Rattle.model.proofs.SettingRanges.{SettingRanges, some-same, none-some}
use Rattle.model.proofs.Staying.{IsThere}

-- ---- barcodes

-- A command that gives a barcode gives one of its form.
given-form : (x : Command) (t : Thing) (y : List ℕ) → IsCommand x → labelling x ≡ Gives t y → is_barcode y ≡ true
given-form (CopyBarcode c barcode) t y form e = let same : barcode ≡ y = cc in subst (λ w. is_barcode w ≡ true) same form.1.0
given-form (PatronBarcode p barcode) t y form e = let same : barcode ≡ y = cc in subst (λ w. is_barcode w ≡ true) same form.1.0
given-form (DropBarcode barcode) t y form e = let never : ⊥ = cc in absurd never
given-form _ t y form e = let never : ⊥ = cc in absurd never

form-step : (H : History) (x : Command) (t : Thing) (z : List ℕ) → IsCommand x → (barcode_of H t ≡ Some z → is_barcode z ≡ true)
    → (l : Labelling) → labelling x ≡ l → barcode_after l t (barcode_of H t) ≡ Some z → is_barcode z ≡ true
form-step H x t z form was (Gives u y) is f = go (same_thing u t) f
  where
    go : (b : Bool) → cond b (Some y) (barcode_of H t) ≡ Some z → is_barcode z ≡ true
    go true g = subst (λ w. is_barcode w ≡ true) (some-same y z g) (given-form x u y form is)
    go false g = was g
form-step H x t z form was (Takes y) is f = go (is_barcode_of y (barcode_of H t)) f
  where
    go : (b : Bool) → cond b None (barcode_of H t) ≡ Some z → is_barcode z ≡ true
    go true g = absurd (none-some z g)
    go false g = was g
form-step H x t z form was NoLabelling is f = was f

pub barcode-form : (H : History) → HasForms H → (t : Thing) (z : List ℕ) → barcode_of H t ≡ Some z → is_barcode z ≡ true
barcode-form [] forms t z e = absurd (none-some z e)
barcode-form (e ∷ H) forms t z f = form-step H e.command t z forms.0 (barcode-form H forms.2 t z) (labelling e.command) refl f

some-of : {A : Type 0} (o : Option A) → IsThere o → (x : A) × (o ≡ Some x)
some-of (Some x) e = (x, refl)
some-of None e = let never : ⊥ = cc in absurd never

pub thing-in : (H : History) → SettingRanges H → (t : Thing) → ThingThere H t → IsThing t
thing-in H settings (thing.Patron p) there = let r = some-of (patron_of H p) there in (settings.patrons p r.0 r.1).0
thing-in H settings (thing.Copy c) there = let r = some-of (copy_of H c) there in (settings.copies c r.0 r.1).0

pub branch-small : (H : History) → SettingRanges H → (b : ℕ) → IsThere (branch_of H b) → IsSmall b
branch-small H settings b there = let r = some-of (branch_of H b) there in (settings.branches b r.0 r.1).0

-- ---- texts of charges

abbrev IsTold : Option Note → Type 0
IsTold None = Unit {0}
IsTold (Some k) = IfSome k.text IsName

abbrev AreTold : List Line → Type 0
AreTold = AllByRecursion (λ x. IsTold x.note)

told-append : (xs ys : List Line) → AreTold xs → AreTold ys → AreTold (xs ++ ys)
told-append [] ys a b = b
told-append (x ∷ xs) ys a b = (a.0, told-append xs ys a.1 b)

told-one : (H : History) (p : ℕ) (s : Sort) (loan : Option ℕ) (remark : Option Note) (n : ℕ) → IsTold remark → AreTold (noted_line H p s loan remark n)
told-one H p s loan remark zero is = tt
told-one H p s loan remark (suc n) is = (is, tt)

told-fine : (H : History) (p : Place) → AreTold (fine_line H (grace_of H) p)
told-fine H (Loan l) = told-one H (borrower H l) Fine (Some l) None (fine_now H (grace_of H) l) tt
told-fine H _ = tt

told-price : (H : History) (c : ℕ) (p : Place) → AreTold (price_line H c p)
told-price H c (Loan l) = told-one H (borrower H l) Price (Some l) None (price_of H c) tt
told-price H c _ = tt

told-step : (H : History) (x : Command) → IsCommand x → AreTold (lines H) → AreTold (lines_after H (posting x) (lines H))
told-step H (CheckIn c b) form was = told-append (lines H) (fine_line H (grace_of H) (place H c)) was (told-fine H (place H c))
told-step H (Missing c) form was =
    told-append (lines H) (fine_line H (grace_of H) (place H c) ++ price_line H c (place H c)) was
    (told-append (fine_line H (grace_of H) (place H c)) (price_line H c (place H c)) (told-fine H (place H c)) (told-price H c (place H c)))
told-step H (Pay p n) form was = told-append (lines H) (noted_line H p Payment None None n) was (told-one H p Payment None None n tt)
told-step H (Waive p n) form was = told-append (lines H) (noted_line H p Waiver None None n) was (told-one H p Waiver None None n tt)
told-step H (PayAt p n b) form was =
    let remark : Option Note = Some (record { branch = b; text = None }) in
    told-append (lines H) (noted_line H p Payment None remark n) was (told-one H p Payment None remark n tt)
told-step H (Charge p n b text) form was =
    let remark : Option Note = Some (record { branch = b; text = Some text }) in
    told-append (lines H) (noted_line H p ChargeSort None remark n) was (told-one H p ChargeSort None remark n form.1.1.1.0)
told-step H _ form was = was

pub legal-told : (H : History) → HasForms H → AreTold (lines H)
legal-told [] forms = tt
legal-told (e ∷ H) forms = told-step H e.command forms.0 (legal-told H forms.2)

-- The text of the note of a line, if it has one, has the form of a name.
pub nth-told : (xs : List Line) (n : ℕ) (x : Line) (k : Note) → AreTold xs → nth_line xs n ≡ Some x → x.note ≡ Some k → IfSome k.text IsName
nth-told [] n x k a e noted = absurd (none-some x e)
nth-told (y ∷ xs) zero x k a e noted = absurd (none-some x e)
nth-told (y ∷ xs) (suc zero) x k a e noted =
    let same : y.note ≡ Some k = ap (λ (z : Line). z.note) (some-same y x e) ∙ noted in subst IsTold same a.0
nth-told (y ∷ xs) (suc (suc n)) x k a e noted = nth-told xs (suc n) x k a.1 e noted
