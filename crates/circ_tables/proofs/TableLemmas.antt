-- Each table's map holds encodings of rows within their limits if the picture's rows are within theirs.
use Rattle.std.proofs.Common.{◌≡◌, ◌∙◌, Option, None, Some, refl, sym, ap, subst}
use Rattle.std.specs.Prelude.{option_map, IfSome, IsUtf8}
use Rattle.sqlite.specs.Order.{Row}
use Rattle.sql_maps.specs.Maps.{Maps}
use Rattle.terms.specs.Limits.{InLimits, IsKeptRow}
use Rattle.terms.specs.Pictures.{Picture}
use Rattle.terms.specs.declared.row.KeptRow.{KeptRow}
use Rattle.circ_tables.specs.Cells.{kept_cells}
use Rattle.terms.proofs.Utf8Lemmas.{reply_text-IsUtf8}
use Rattle.circ_tables.specs.Encoding.{Encodes, AreEncoded, HasTexts}
use Rattle.circ_tables.specs.Reading.{Table}
use Rattle.circ_tables.specs.ClosedDays.{closed_days}
use Rattle.circ_tables.specs.Rules.{rules}
use Rattle.circ_tables.specs.RulesOfSchema1.{rules1}
use Rattle.circ_tables.specs.Kept.{kept}
use Rattle.circ_tables.specs.Barcodes.{barcodes}
use Rattle.circ_tables.proofs.ShownLemmas.{days_encoded}

-- Of a table it is so under each picture within its limits.
abbrev IsWithin : {K R : Type 0} → Table K R → Type 0
IsWithin t = (maps : Maps) (P : Picture) → Encodes maps P → InLimits P → AreEncoded t.cells t.IsLegal (maps t.place)

pub closed_days_within : IsWithin closed_days
closed_days_within maps P is legal = days_encoded (maps closed_days.place) P is.closed_days legal

-- a row that stands under its key
within : {R : Type 0} (cells : R → Row) (Good : R → Type 0) (o : Option R) → ((r : R) → o ≡ Some r → Good r) → (v : Row)
    → Some v ≡ option_map cells o → (r : R) × Good r × (v ≡ cells r)
within cells Good None own v is = absurd (let e : Some v ≡ None = is in cc)
within cells Good (Some r) own v is = (r, own r refl, (let e : Some v ≡ Some (cells r) = is in let same : v ≡ cells r = cc in same))

pub rules_within : IsWithin rules
rules_within maps P is legal k v e =
    let key = is.rules.only k v e in
    within rules.cells rules.IsLegal (P.rules key.0.0 key.0.1) (λ r there. (legal.rules key.0.0 key.0.1 r there).2) v
    (sym e ∙ ap (maps rules.place) key.2 ∙ is.rules.there key.0 key.1)

pub rules1_within : IsWithin rules1
rules1_within maps P is legal k v e =
    let key = is.rules1.only k v e in
    within rules1.cells rules1.IsLegal (P.rules1 key.0.0 key.0.1) (λ r there. (legal.rules1 key.0.0 key.0.1 r there).2) v
    (sym e ∙ ap (maps rules1.place) key.2 ∙ is.rules1.there key.0 key.1)

-- what is kept within the limits is text
pub texts_of : (r : KeptRow) → IsKeptRow r → HasTexts r
texts_of r is = (is.2, subst IsUtf8 (sym is.3.2) (reply_text-IsUtf8 is.3.0 is.3.1))

pub has_texts : (o : Option KeptRow) → ((r : KeptRow) → o ≡ Some r → IsKeptRow r) → IfSome o HasTexts
has_texts None own = tt
has_texts (Some r) own = texts_of r (own r refl)

pub kept_within : IsWithin kept
kept_within maps P is legal k v e =
    let key = is.kept.only k v e in
    let it = within kept_cells IsKeptRow (P.kept key.0.0 key.0.1) (λ r there. (legal.kept key.0.0 key.0.1 r there).2) v
    (sym e ∙ ap (maps kept.place) key.2 ∙ is.kept.there key.0 key.1) in
    (it.0, (it.1.0, it.1.1, texts_of it.0 it.1), it.2)

pub barcodes_within : IsWithin barcodes
barcodes_within maps P is legal k v e =
    let key = is.barcodes.only k v e in
    within barcodes.cells barcodes.IsLegal (P.barcodes key.0) (λ r there. (legal.barcodes key.0 r there).1) v
    (sym e ∙ ap (maps barcodes.place) key.2 ∙ is.barcodes.there key.0 key.1)
