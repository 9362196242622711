-- The fields of a row, each in its place.
use Rattle.std.proofs.Common.{◌⊎◌, inl, inr, ◌≤◌, ◌≡◌, ◌∙◌, ◌<◌, ◌+◌, ◌^◌, ℕ, Bool, true, false, refl, sym, ap, subst, List, [], ◌∷◌, length}
use Rattle.std.proofs.Common.{Option, Some, None, arith, zero, suc, get_or}
use Rattle.std.specs.Prelude.{codes, IfSome, IsUtf8}
use Rattle.std.specs.Borrow.{Bor}
use Rattle.std.specs.Fmt.{decimal}
use Rattle.std.proofs.lemmas.Fmt.{IsAscii-decimal, decimal_injective}
use Rattle.std.proofs.lemmas.Str.{IsUtf8-from_ascii}
use Rattle.std.proofs.lemmas.Bool.{cases_lt}
use Rattle.csv.specs.Records.{field_at}
use Rattle.terms.specs.Forms.{IsName, is_name}
use Rattle.terms.specs.Commands.{texts}
use Rattle.terms.specs.Laws.{IsAmount}
use Rattle.front.specs.Copies.{Fields, IsRow, IsNoRow, row_fields}
use Rattle.front.specs.CopyReading.{HasNumbers}
use Rattle.front.specs.Checking.{HaveNumbers}
use Rattle.front.specs.declared.copies.FileRow.{FileRow}

pub decimal-IsUtf8 : (n : ℕ) → n < 2 ^ 32 → IsUtf8 (decimal n)
decimal-IsUtf8 n h = IsUtf8-from_ascii (decimal n) (IsAscii-decimal n (omega (arith, h)))

at_place : (fields : Fields) (row : FileRow) (k : ℕ) → IsRow fields row → field_at fields k ≡ field_at (row_fields row) k
at_place fields row k h = ap (λ (xs : Fields). field_at xs k) h.1

pub numbers_of : (fields : Fields) (row : FileRow) → IsRow fields row → HasNumbers fields row
unfolding field_at
numbers_of fields row h =
    record {
      copy = (h.0.0.0, at_place fields row 0 h);
      title = (h.0.0.1.0, at_place fields row 1 h);
      kind = (h.0.0.1.1.0, at_place fields row 3 h);
      home = (h.0.0.1.1.1.0, at_place fields row 4 h);
      price = (h.0.1.1.1.1.1.0, at_place fields row 5 h);
    }

pub text_of : (fields : Fields) (row : FileRow) → IsRow fields row → field_at fields 2 ≡ Some row.text
unfolding field_at
text_of fields row h = at_place fields row 2 h

pub closing_of : (fields : Fields) (row : FileRow) → IsRow fields row → field_at fields 6 ≡ Some (codes "end")
unfolding field_at
closing_of fields row h = at_place fields row 6 h

-- a text that is no name
pub no_name : (fields : Fields) (text : List ℕ) → field_at fields 2 ≡ Some text → is_name text ≡ false → IsNoRow fields
no_name fields text there bad =
    record {
      none = λ row h.
          let same : text ≡ row.text = cc (sym there ∙ text_of fields row h) in
          let good : is_name text ≡ true = ap is_name same ∙ h.0.0.1.1.1.1.1.0.0 in
          absurd (cc);
    }

-- lists that agree at each place
pub same_fields : (a b : Fields) → length a ≡ length b → ((k : ℕ) → k < length a → field_at a k ≡ field_at b k) → a ≡ b
unfolding field_at
same_fields [] [] long at = refl
same_fields [] (y ∷ b) long at = absurd (cc)
same_fields (x ∷ a) [] long at = absurd (cc)
same_fields (x ∷ a) (y ∷ b) long at =
    let first : Some x ≡ Some y = at 0 (omega arith) in
    let here : x ≡ y = cc in
    let rest : a ≡ b = same_fields a b (cc) (λ k h. at (suc k) (omega (arith, h))) in
    rw (here, rest) refl

pub word_at : (words : List (Bor (List ℕ))) (k : ℕ) (d : Bor (List ℕ)) → k < length words → field_at (texts words) k ≡ Some (get_or words k d).now
unfolding field_at
word_at [] k d h = absurd (omega arith)
word_at (word ∷ words) zero d h = refl
word_at (word ∷ words) (suc k) d h = word_at words k d (omega (arith, h))

-- one place more
pub one_more : (P : ℕ → Type 0) (n : ℕ) → ((k : ℕ) → k < n → P k) → P n → (k : ℕ) → k < n + 1 → P k
one_more P n before here k h = go (cases_lt k n)
  where
    go : (k < n) ⊎ (n ≤ k) → P k
    go (inl less) = before k less
    go (inr more) = let same : n ≡ k = omega (arith, h, more) in subst P same here

-- seven fields, each known
seven : (fields : Fields) (a b c d e f g : List ℕ) → length fields ≡ 7 → field_at fields 0 ≡ Some a → field_at fields 1 ≡ Some b → field_at fields 2 ≡ Some c
    → field_at fields 3 ≡ Some d → field_at fields 4 ≡ Some e → field_at fields 5 ≡ Some f → field_at fields 6 ≡ Some g
    → fields ≡ a ∷ b ∷ c ∷ d ∷ e ∷ f ∷ g ∷ []
unfolding field_at
seven [] a b c d e f g long = absurd (cc)
seven (_ ∷ []) a b c d e f g long = absurd (cc)
seven (_ ∷ _ ∷ []) a b c d e f g long = absurd (cc)
seven (_ ∷ _ ∷ _ ∷ []) a b c d e f g long = absurd (cc)
seven (_ ∷ _ ∷ _ ∷ _ ∷ []) a b c d e f g long = absurd (cc)
seven (_ ∷ _ ∷ _ ∷ _ ∷ _ ∷ []) a b c d e f g long = absurd (cc)
seven (_ ∷ _ ∷ _ ∷ _ ∷ _ ∷ _ ∷ []) a b c d e f g long = absurd (cc)
seven (p ∷ q ∷ r ∷ s ∷ t ∷ u ∷ v ∷ []) a b c d e f g long = λ h0 h1 h2 h3 h4 h5 h6. cc
seven (_ ∷ _ ∷ _ ∷ _ ∷ _ ∷ _ ∷ _ ∷ _ ∷ _) a b c d e f g long = absurd (omega (arith, long))

row_is : (fields : Fields) (row : FileRow) (text : List ℕ) → length fields ≡ 7 → field_at fields 6 ≡ Some (codes "end")
    → field_at fields 2 ≡ Some text → IsName text
    → row.text ≡ text → HasNumbers fields row → IsRow fields row
row_is fields row text long closed there good same numbers =
    let name : IsName row.text = subst IsName (sym same) good in
    let found : field_at fields 2 ≡ Some row.text = there ∙ ap Some (sym same) in
    let price : IsAmount row.price = let p = numbers.price.0 in omega (arith, p) in (
      ((numbers.copy.0, (numbers.title.0, (numbers.kind.0, (numbers.home.0, (price, (name, tt)))))), (tt, (tt, (tt, (tt, (numbers.price.0, (tt, tt))))))),
      seven fields _ _ _ _ _ _ _ long numbers.copy.1 numbers.title.1 found numbers.kind.1 numbers.home.1 numbers.price.1 closed,
    )

pub row_made : (fields : Fields) (found : Option FileRow) (text : List ℕ) → length fields ≡ 7 → field_at fields 6 ≡ Some (codes "end")
    → field_at fields 2 ≡ Some text → IsName text
    → IfSome found (λ row. row.text ≡ text) → IfSome found (λ row. HasNumbers fields row) → IfSome found (λ row. IsRow fields row)
row_made fields None text long closed there good same numbers = tt
row_made fields (Some row) text long closed there good same numbers = row_is fields row text long closed there good same numbers

-- if all else is right, a text that makes no row is no name
pub no_text : (fields : Fields) (text : List ℕ) → IsNoRow fields → length fields ≡ 7 → field_at fields 6 ≡ Some (codes "end")
    → HaveNumbers fields → field_at fields 2 ≡ Some text → IsUtf8 text → is_name text ≡ false
no_text fields text none long closed numbers there utf8 = go (is_name text) refl
  where
    row : FileRow
    row = record {
      copy = numbers.copy.0;
      title = numbers.title.0;
      text = text;
      kind = numbers.kind.0;
      home = numbers.home.0;
      price = numbers.price.0;
    }

    has : HasNumbers fields row
    has = record {
      copy = numbers.copy.1;
      title = numbers.title.1;
      kind = numbers.kind.1;
      home = numbers.home.1;
      price = numbers.price.1;
    }

    go : (b : Bool) → is_name text ≡ b → is_name text ≡ false
    go true e = absurd (none.none row (row_is fields row text long closed there (e, utf8) refl has))
    go false e = e

-- a row is told by its fields
abbrev make : ℕ → ℕ → List ℕ → ℕ → ℕ → ℕ → FileRow
make copy title text kind home price = record { copy = copy; title = title; text = text; kind = kind; home = home; price = price }

pub same_row : (fields : Fields) (a b : FileRow) → IsRow fields a → IsRow fields b → a ≡ b
same_row fields a b ha hb =
    let all : row_fields a ≡ row_fields b = sym ha.1 ∙ hb.1 in
    let c : decimal a.copy ≡ decimal b.copy = cc in
    let t : decimal a.title ≡ decimal b.title = cc in
    let x : a.text ≡ b.text = cc in
    let k : decimal a.kind ≡ decimal b.kind = cc in
    let o : decimal a.home ≡ decimal b.home = cc in
    let p : decimal a.price ≡ decimal b.price = cc in
    let copy = decimal_injective a.copy b.copy (omega (arith, ha, hb)) (omega (arith, ha, hb)) c in
    let title = decimal_injective a.title b.title (omega (arith, ha, hb)) (omega (arith, ha, hb)) t in
    let kind = decimal_injective a.kind b.kind (omega (arith, ha, hb)) (omega (arith, ha, hb)) k in
    let home = decimal_injective a.home b.home (omega (arith, ha, hb)) (omega (arith, ha, hb)) o in
    let price = decimal_injective a.price b.price (omega (arith, ha, hb)) (omega (arith, ha, hb)) p in
    let made : make a.copy a.title a.text a.kind a.home a.price ≡ make b.copy b.title b.text b.kind b.home b.price =
    rw (copy, title, x, kind, home, price) refl in
    made
