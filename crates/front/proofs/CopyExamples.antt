-- Copies files, computed over the definitions: a whole one, a truncated one, and an empty one.
use Rattle.std.proofs.Common.{◌≡◌, ℕ, refl, sym, subst, ap, inl, inr, List, [], ◌∷◌, arith, length, true}
use Rattle.std.specs.Prelude.{codes, nat_lt, IsUtf8}
use Rattle.std.specs.Fmt.{digits}
use Rattle.std.specs.List.{list_all}
use Rattle.std.specs.Str.{IsAscii}
use Rattle.std.proofs.lemmas.Bool.{ltb-true}
use Rattle.std.proofs.lemmas.Str.{IsUtf8-from_ascii}
use Rattle.std.proofs.lemmas.Str.Ascii.{IsAscii-cons, IsAscii-nil}
use Rattle.csv.proofs.OnLiterals.{csv_on_literals}
use Rattle.terms.specs.Forms.{IsName, is_name}
use Rattle.front.specs.Copies.{Fields, IsFileOf, IsNoRow, IsRow, header_fields, records_in}
use Rattle.front.specs.declared.copies.FileRow.{FileRow}
use Rattle.front.proofs.Walks.{and_true}
use Rattle.front.specs.declared.copies.CopyEnd.TheVariants.{Bad, Whole}

abbrev whole : List ℕ
whole = codes "copy,title,text,kind,home,price,end\n50,500,\"Maps, Old and New\",1,1,1500,end\n52,501,Winter Bees,2,1,700,end\n"

abbrev cut : List ℕ
cut = codes "copy,title,text,kind,home,price,end\n50,500,\"Maps, Old and New\",1,1,1500,end\n52,501,Win"

abbrev maps_fields : Fields
maps_fields = codes "50" ∷ codes "500" ∷ codes "Maps, Old and New" ∷ codes "1" ∷ codes "1" ∷ codes "1500" ∷ codes "end" ∷ []

abbrev bees_fields : Fields
bees_fields = codes "52" ∷ codes "501" ∷ codes "Winter Bees" ∷ codes "2" ∷ codes "1" ∷ codes "700" ∷ codes "end" ∷ []

abbrev cut_fields : Fields
cut_fields = codes "52" ∷ codes "501" ∷ codes "Win" ∷ []

abbrev maps : FileRow
maps = record { copy = 50; title = 500; text = codes "Maps, Old and New"; kind = 1; home = 1; price = 1500 }

abbrev bees : FileRow
bees = record { copy = 52; title = 501; text = codes "Winter Bees"; kind = 2; home = 1; price = 700 }

whole_records : records_in whole ≡ header_fields ∷ maps_fields ∷ bees_fields ∷ []
unfolding csv_on_literals
whole_records = refl

cut_records : records_in cut ≡ header_fields ∷ maps_fields ∷ cut_fields ∷ []
unfolding csv_on_literals
cut_records = refl

-- each byte is ASCII, and so the text is UTF-8
ascii : (bytes : List ℕ) → list_all (λ b. nat_lt b 128) bytes ≡ true → IsAscii bytes
ascii [] h = IsAscii-nil
ascii (b ∷ bytes) h =
    let both = and_true (nat_lt b 128) (list_all (λ x. nat_lt x 128) bytes) h in
    IsAscii-cons b bytes (ltb-true b 128 both.0) (ascii bytes both.1)

low_text : (bytes : List ℕ) → list_all (λ b. nat_lt b 128) bytes ≡ true → IsUtf8 bytes
low_text bytes h = IsUtf8-from_ascii bytes (ascii bytes h)

maps_text : IsName (codes "Maps, Old and New")
unfolding is_name
maps_text = (refl, low_text (codes "Maps, Old and New") refl)

bees_text : IsName (codes "Winter Bees")
unfolding is_name
bees_text = (refl, low_text (codes "Winter Bees") refl)

maps_row : IsRow maps_fields maps
unfolding digits
maps_row = (((omega arith, (omega arith, (omega arith, (omega arith, (omega arith, (maps_text, tt)))))), (tt, (tt, (tt, (tt, (omega arith, (tt, tt))))))), refl)

bees_row : IsRow bees_fields bees
unfolding digits
bees_row = (((omega arith, (omega arith, (omega arith, (omega arith, (omega arith, (bees_text, tt)))))), (tt, (tt, (tt, (tt, (omega arith, (tt, tt))))))), refl)

cut_row : IsNoRow cut_fields
cut_row = record { none = λ row h. let size = ap (λ (fields : Fields). length fields) h.1 in absurd (omega (arith, size)) }

whole_file : IsFileOf (records_in whole) (maps ∷ bees ∷ []) Whole
whole_file = subst (λ all. IsFileOf all (maps ∷ bees ∷ []) Whole) (sym whole_records) (inr (refl, (maps_row, omega arith, (bees_row, omega arith, refl))))

cut_file : IsFileOf (records_in cut) (maps ∷ []) (Bad 2)
cut_file = subst (λ all. IsFileOf all (maps ∷ []) (Bad 2)) (sym cut_records) (inr (refl, (maps_row, omega arith, (inl cut_row, refl))))

empty_file : IsFileOf (records_in []) [] (Bad 0)
unfolding csv_on_literals
empty_file = (refl, refl)
