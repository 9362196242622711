-- Lists of values that are texts.
use Rattle.std.proofs.Common.{◌≡◌, ℕ, zero, suc, ◌+◌, ◌<◌, ◌≤◌, List, [], ◌∷◌, ◌++◌, length, get_or, take, map, ap, sym, ◌∙◌, refl, arith}
use Rattle.std.proofs.Common.{Option, Some, None, take_all}
use Rattle.std.proofs.lemmas.List.{take_more, map-append}
use Rattle.std.specs.declared.alloc.Global.{Global}
use Rattle.serde_json.specs.Data.{Data, null, boolean, number, string, array, object, Items, item}
use Rattle.serde_json.specs.View.{view, items_of, items_view}
use Rattle.serde_json.specs.declared.value.Value.{Value}
use Rattle.std.specs.Prelude.{Result, Ok, Err, IfOk, IfSome, IfNone, String, string_bytes, false}
use Rattle.serde_json.specs.Written.{has_float, items_have_float, compact_text}
use Rattle.front.specs.Understood.{texts_of}
use Rattle.serde_json.specs.Find.{as_array}
use Rattle.web.specs.declared.limits.TheConstants.{MOST_WORDS}
use Rattle.web.specs.Json.{IsJson, IsTextList, texts_data, data_text}

-- a value that is no text
pub no_texts : (values : List Value) (i : ℕ) (d : Value) (texts : List (List ℕ)) → i < length values
    → data_text (view (get_or values i d)) ≡ None → items_view values ≡ texts_data texts → ⊥
no_texts [] i d texts h none e = omega (arith, h)
no_texts (v ∷ vs) i d [] h none e = cc
no_texts (v ∷ vs) zero d (t ∷ ts) h none e =
    let first : view v ≡ string t = cc in
    let some = ap data_text first in
    cc
no_texts (v ∷ vs) (suc i) d (t ∷ ts) h none e =
    let rest : items_view vs ≡ texts_data ts = cc in
    no_texts vs i d ts (omega (arith, h)) none rest

is_string : (d : Data) (t : List ℕ) → data_text d ≡ Some t → d ≡ string t
is_string (string s) t e = cc
is_string null t e = cc
is_string (boolean b) t e = cc
is_string (number n) t e = cc
is_string (array ds) t e = cc
is_string (object ms) t e = cc

are_texts : (ds : List Data) (ts : List (List ℕ)) → map data_text ds ≡ map Some ts → items_of ds ≡ texts_data ts
are_texts [] [] e = refl
are_texts [] (t ∷ ts) e = cc
are_texts (d ∷ ds) [] e = cc
are_texts (d ∷ ds) (t ∷ ts) e =
    let first : data_text d ≡ Some t = cc in
    let rest : map data_text ds ≡ map Some ts = cc in
    let one = is_string d t first in
    let more = are_texts ds ts rest in
    cc

-- the texts of the first values
abbrev pub AreFirst : List Value → ℕ → List (List ℕ) → Type 0
AreFirst values n texts = map data_text (map view (take n values)) ≡ map Some texts

pub first-more : (values : List Value) (i : ℕ) (d : Value) (texts : List (List ℕ)) (text : List ℕ) → i < length values → AreFirst values i texts
    → data_text (view (get_or values i d)) ≡ Some text → AreFirst values (i + 1) (texts ++ (text ∷ []))
first-more values i d texts text h before one =
    let front = ap (λ (vs : List Value). map data_text (map view vs)) (take_more values i d h) in
    let a = map-append view (take i values) (get_or values i d ∷ []) in
    let b = map-append data_text (map view (take i values)) (view (get_or values i d) ∷ []) in
    let c = map-append Some texts (text ∷ []) in
    front ∙ (ap (map data_text) a ∙ (b ∙ (ap (λ (os : List (Option (List ℕ))). os ++ (data_text (view (get_or values i d)) ∷ [])) before
    ∙ (ap (λ (o : Option (List ℕ)). map Some texts ++ (o ∷ [])) one ∙ sym c))))

pub all_texts : (values : List Value) (n : ℕ) (texts : List (List ℕ)) → length values ≤ n → AreFirst values n texts → items_view values ≡ texts_data texts
all_texts values n texts h e =
    are_texts (map view values) texts (ap (λ (vs : List Value). map data_text (map view vs)) (sym (take_all n values h)) ∙ e)

-- the values of words
pub words_listed : (words : List (String Global)) (values : List Value) (n : ℕ) → length words ≤ n
    → map view values ≡ map (λ (w : String Global). string (string_bytes w)) (take n words) → items_view values ≡ texts_data (texts_of words)
words_listed words values n h e =
    ap items_of (e ∙ ap (map (λ (w : String Global). string (string_bytes w))) (take_all n words h)) ∙ listed words
  where
    listed : (ws : List (String Global)) → items_of (map (λ (w : String Global). string (string_bytes w)) ws) ≡ texts_data (texts_of ws)
    listed [] = refl
    listed (w ∷ ws) = ap (item (string (string_bytes w))) (listed ws)

-- texts are no floats
texts_without_float : (texts : List (List ℕ)) → items_have_float (texts_data texts) ≡ false
texts_without_float [] = refl
texts_without_float (text ∷ texts) = texts_without_float texts

pub listed_text : (text : List ℕ) (d : Data) (ds : Items) (texts : List (List ℕ)) → d ≡ array ds → ds ≡ texts_data texts
    → (has_float d ≡ false → text ≡ compact_text d) → text ≡ compact_text (array (texts_data texts))
listed_text text d ds texts built e is =
    let whole : d ≡ array (texts_data texts) = built ∙ ap array e in
    is (ap has_float whole ∙ texts_without_float texts) ∙ ap compact_text whole

-- a body is one value
pub json_same : (body : List ℕ) (d e : Data) → IsJson body d → IsJson body e → d ≡ e
json_same body d e a b = let x = a.reads in let y = b.reads in cc

pub is_array : (d : Data) (ds : Items) → Some ds ≡ as_array d → d ≡ array ds
is_array (array es) ds e = cc
is_array null ds e = cc
is_array (boolean b) ds e = cc
is_array (number n) ds e = cc
is_array (string s) ds e = cc
is_array (object ms) ds e = cc

texts_length : (values : List Value) (texts : List (List ℕ)) → items_view values ≡ texts_data texts → length values ≡ length texts
texts_length [] [] e = refl
texts_length [] (t ∷ ts) e = cc
texts_length (v ∷ vs) [] e = cc
texts_length (v ∷ vs) (t ∷ ts) e =
    let rest : items_view vs ≡ texts_data ts = cc in
    ap suc (texts_length vs ts rest)

-- a list of texts is as long as the value is
pub list_length : (body : List ℕ) (d : Data) (values : List Value) (texts : List (List ℕ)) → IsJson body d
    → Some (items_view values) ≡ as_array d → IsTextList body texts → length values ≡ length texts
list_length body d values texts json is list =
    let a = is_array d (items_view values) is in
    let b = json_same body d (array (texts_data texts)) json list.json in
    let e : items_view values ≡ texts_data texts = cc in
    texts_length values texts e

some_texts : {V : Type 0} (f : V → List (List ℕ)) (o : Option V) (body : List ℕ) (d : Data) (values : List Value) → IsJson body d
    → Some (items_view values) ≡ as_array d
    → 1 ≤ length values → length values ≤ MOST_WORDS → IfSome o (λ v. items_view values ≡ texts_data (f v)) → IfSome o (λ v. IsTextList body (f v))
some_texts f None body d values json is some few e = tt
some_texts f (Some v) body d values json is some few e =
    let a = is_array d (items_view values) is ∙ ap array e in
    let n = texts_length values (f v) e in
    record { json = record { text = json.text; reads = json.reads ∙ ap Some a }; some = omega (arith, n); few = omega (arith, n) }

pub read_list : {V E : Type 0} (f : V → List (List ℕ)) (r : Result (Option V) E) (body : List ℕ) (d : Data) (values : List Value)
    → IsJson body d → Some (items_view values) ≡ as_array d
    → 1 ≤ length values → length values ≤ MOST_WORDS → IfOk r (λ o. IfSome o (λ v. items_view values ≡ texts_data (f v)))
    → IfOk r (λ o. IfSome o (λ v. IsTextList body (f v)))
read_list f (Err e) body d values json is some few h = tt
read_list f (Ok o) body d values json is some few h = some_texts f o body d values json is some few h

none_texts : {V : Type 0} (o : Option V) (body : List ℕ) (d : Data) (values : List Value) → IsJson body d → Some (items_view values) ≡ as_array d
    → IfNone o ((texts : List (List ℕ)) → items_view values ≡ texts_data texts → ⊥) → IfNone o ((texts : List (List ℕ)) → IsTextList body texts → ⊥)
none_texts (Some v) body d values json is h = tt
none_texts None body d values json is h = λ texts list.
    let a = is_array d (items_view values) is in
    let b = json_same body d (array (texts_data texts)) json list.json in
    h texts (cc)

pub no_list : {V E : Type 0} (r : Result (Option V) E) (body : List ℕ) (d : Data) (values : List Value) → IsJson body d → Some (items_view values) ≡ as_array d
    → IfOk r (λ o. IfNone o ((texts : List (List ℕ)) → items_view values ≡ texts_data texts → ⊥))
    → IfOk r (λ o. IfNone o ((texts : List (List ℕ)) → IsTextList body texts → ⊥))
no_list (Err e) body d values json is h = tt
no_list (Ok o) body d values json is h = none_texts o body d values json is h

texts_injective : (a b : List (List ℕ)) → texts_data a ≡ texts_data b → a ≡ b
texts_injective [] [] e = refl
texts_injective [] (t ∷ ts) e = cc
texts_injective (s ∷ ss) [] e = cc
texts_injective (s ∷ ss) (t ∷ ts) e =
    let first : s ≡ t = cc in
    let rest : texts_data ss ≡ texts_data ts = cc in
    let more = texts_injective ss ts rest in
    cc

pub list_same : (body : List ℕ) (a b : List (List ℕ)) → IsTextList body a → IsTextList body b → a ≡ b
list_same body a b p q =
    let e = json_same body (array (texts_data a)) (array (texts_data b)) p.json q.json in
    let f : texts_data a ≡ texts_data b = cc in
    texts_injective a b f
