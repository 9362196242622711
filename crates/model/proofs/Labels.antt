-- Whose each barcode is.
use Rattle.std.proofs.Common.{◌≡◌, ℕ, Bool, true, false, cond, not, List, [], ◌∷◌, ◌++◌, refl, sym, ◌∙◌, ap, subst}
use Rattle.std.specs.Prelude.{Option, Some, None, option_map, unwrap_or, bytes_eq}
use Rattle.std.specs.List.{AllByRecursion}
use Rattle.std.proofs.lemmas.Bool.{eqb-true, eq-eqb}
use Rattle.std.proofs.lemmas.Slice.Eq.{bytes_eq-Decides}
use Rattle.terms.specs.Pictures.{same_thing}
use Rattle.terms.specs.declared.command.Owner.{Owner}
use Rattle.terms.specs.declared.command.Command.{Command}
use Rattle.terms.specs.declared.command.Command.TheVariants.{CopyBarcode, PatronBarcode, DropBarcode}
use Rattle.terms.specs.declared.refusal.Refusal.TheVariants as check
use Rattle.terms.specs.declared.row.Thing.{Thing}
use Rattle.terms.specs.declared.row.Thing.TheVariants as thing
use Rattle.terms.specs.declared.row.BarcodeRow.{BarcodeRow}
use Rattle.model.specs.History.{Event, History, patron_of, copy_of, Labelling, Gives, Takes, NoLabelling, labelling, is_barcode_of, barcode_after, barcode_of}
use Rattle.model.specs.History.{is_thing, thing_after, thing_of}
use Rattle.model.specs.LabelLaws.{LeavesBarcode, WasGiven, HasBarcode, Labels}
use Rattle.model.specs.Picture.{picture}
use Rattle.model.specs.References.{HasThing}
use Rattle.model.specs.Refusals.{refusal, checks, is_taken}
use Rattle.model.specs.Requests.{IsLegal}
use Rattle.model.proofs.Bindings.{clash, not-false}
use Rattle.model.proofs.Passing.{passed}
use Rattle.model.proofs.SettingRanges.{some-same, none-some}
use Rattle.model.proofs.Staying.{IsThere, map-there, patron-stays, copy-stays}

-- ---- things and barcodes

pub same_thing-is : (t u : Thing) → same_thing t u ≡ true → t ≡ u
same_thing-is (thing.Patron p) (thing.Patron q) e = ap thing.Patron (eqb-true p q e)
same_thing-is (thing.Copy c) (thing.Copy d) e = ap thing.Copy (eqb-true c d e)
same_thing-is (thing.Patron p) (thing.Copy d) e = let never : ⊥ = cc in absurd never
same_thing-is (thing.Copy c) (thing.Patron q) e = let never : ⊥ = cc in absurd never

pub same_thing-self : (t : Thing) → same_thing t t ≡ true
same_thing-self (thing.Patron p) = eq-eqb p p refl
same_thing-self (thing.Copy c) = eq-eqb c c refl

same-text : (a b : List ℕ) → bytes_eq a b ≡ true → a ≡ b
same-text a b e = (bytes_eq-Decides a b).0 e

text-self : (a : List ℕ) → bytes_eq a a ≡ true
text-self a = (bytes_eq-Decides a a).1 refl

-- ---- the thing that has a barcode, and the barcode of a thing

-- A thing is found by a barcode exactly if it has that barcode.
record Agrees (thing_by : List ℕ → Option Thing) (barcode_by : Thing → Option (List ℕ)) : Type 0 where
  has : (t : Thing) (x : List ℕ) → thing_by x ≡ Some t → barcode_by t ≡ Some x
  found : (t : Thing) (x : List ℕ) → barcode_by t ≡ Some x → thing_by x ≡ Some t

-- The barcode that is given is nobody's, or the thing's already.
abbrev IsFree : (List ℕ → Option Thing) → Labelling → Type 0
IsFree thing_by (Gives u x) = (t : Thing) → thing_by x ≡ Some t → t ≡ u
IsFree thing_by _ = Unit {0}

module _ (by : List ℕ → Option Thing) (of : Thing → Option (List ℕ)) (was : Agrees by of) where
  -- What is given to one thing.
  given-has : (u t : Thing) (y x : List ℕ) → thing_after (Gives u y) x (by x) ≡ Some t → barcode_after (Gives u y) t (of t) ≡ Some x
  given-has u t y x e = go (bytes_eq y x) refl e
    where
      other : (o : Option Thing) → by x ≡ o → (b : Bool) → is_thing u o ≡ b → cond b None o ≡ Some t → (same_thing u t ≡ false) × (of t ≡ Some x)
      other o at true d f = absurd (none-some t f)
      other None at false d f = absurd (none-some t f)
      other (Some v) at false d f =
          let same : v ≡ t = some-same v t f in
          (subst (λ w. same_thing u w ≡ false) same d, was.has t x (at ∙ f))

      go : (b : Bool) → bytes_eq y x ≡ b → cond b (Some u) (cond (is_thing u (by x)) None (by x)) ≡ Some t → barcode_after (Gives u y) t (of t) ≡ Some x
      go true d f =
          let same : u ≡ t = some-same u t f in
          let here : same_thing u t ≡ true = subst (λ w. same_thing u w ≡ true) same (same_thing-self u) in
          ap (λ b. cond b (Some y) (of t)) here ∙ ap Some (same-text y x d)
      go false d f =
          let w = other (by x) refl (is_thing u (by x)) refl f in
          ap (λ b. cond b (Some y) (of t)) w.0 ∙ w.1

  given-found : (u t : Thing) (y x : List ℕ) → IsFree by (Gives u y) → barcode_after (Gives u y) t (of t) ≡ Some x → thing_after (Gives u y) x (by x) ≡ Some t
  given-found u t y x free e = go (same_thing u t) refl e
    where
      old : same_thing u t ≡ false → by x ≡ Some t → (b : Bool) → bytes_eq y x ≡ b → cond b (Some u) (cond (is_thing u (by x)) None (by x)) ≡ Some t
      old d at true f =
          let mine : t ≡ u = free t (ap by (same-text y x f) ∙ at) in
          absurd (clash _ (subst (λ w. same_thing u w ≡ true) (sym mine) (same_thing-self u)) d)
      old d at false f = ap (λ o. cond (is_thing u o) None o) at ∙ ap (λ b. cond b None (Some t)) d

      go : (b : Bool) → same_thing u t ≡ b → cond b (Some y) (of t) ≡ Some x → thing_after (Gives u y) x (by x) ≡ Some t
      go true d f =
          let text : y ≡ x = some-same y x f in
          let here : bytes_eq y x ≡ true = subst (λ w. bytes_eq y w ≡ true) text (text-self y) in
          ap (λ b. cond b (Some u) (cond (is_thing u (by x)) None (by x))) here ∙ ap Some (same_thing-is u t d)
      go false d f = old d (was.found t x f) (bytes_eq y x) refl

  taken-has : (t : Thing) (y x : List ℕ) → thing_after (Takes y) x (by x) ≡ Some t → barcode_after (Takes y) t (of t) ≡ Some x
  taken-has t y x e = go (bytes_eq y x) refl e
    where
      off : (b : Bool) → bytes_eq y x ≡ false → bytes_eq x y ≡ b → b ≡ false
      off true d f = absurd (clash _ (subst (λ w. bytes_eq w x ≡ true) (same-text x y f) (text-self x)) d)
      off false d f = refl

      go : (b : Bool) → bytes_eq y x ≡ b → cond b None (by x) ≡ Some t → barcode_after (Takes y) t (of t) ≡ Some x
      go true d f = absurd (none-some t f)
      go false d f =
          let at : of t ≡ Some x = was.has t x f in
          ap (λ o. cond (is_barcode_of y o) None o) at ∙ ap (λ b. cond b None (Some x)) (off (bytes_eq x y) d refl)

  taken-found : (t : Thing) (y x : List ℕ) → barcode_after (Takes y) t (of t) ≡ Some x → thing_after (Takes y) x (by x) ≡ Some t
  taken-found t y x e = go (of t) refl (is_barcode_of y (of t)) refl e
    where
      off : (b : Bool) → bytes_eq x y ≡ false → bytes_eq y x ≡ b → b ≡ false
      off true d f = absurd (clash _ (subst (λ w. bytes_eq w y ≡ true) (same-text y x f) (text-self y)) d)
      off false d f = refl

      go : (o : Option (List ℕ)) → of t ≡ o → (b : Bool) → is_barcode_of y o ≡ b → cond b None o ≡ Some x → thing_after (Takes y) x (by x) ≡ Some t
      go o at true d f = absurd (none-some x f)
      go None at false d f = absurd (none-some x f)
      go (Some z) at false d f =
          let same : z ≡ x = some-same z x f in
          let other : bytes_eq x y ≡ false = subst (λ w. bytes_eq w y ≡ false) same d in
          ap (λ b. cond b None (by x)) (off (bytes_eq y x) other refl) ∙ was.found t x (at ∙ f)

  agrees-step : (l : Labelling) → IsFree by l → Agrees (λ x. thing_after l x (by x)) (λ t. barcode_after l t (of t))
  agrees-step (Gives u y) free = record { has = λ t x. given-has u t y x; found = λ t x. given-found u t y x free }
  agrees-step (Takes y) free = record { has = λ t x. taken-has t y x; found = λ t x. taken-found t y x }
  agrees-step NoLabelling free = was

-- A barcode that isn't another's is nobody's, or the thing's own.
own : (H : History) (u : Thing) (y : List ℕ) → is_taken H u y ≡ false → (t : Thing) → thing_of H y ≡ Some t → t ≡ u
own H u y free t at = same_thing-is t u (not-false _ (sym (ap (λ o. unwrap_or (option_map (λ v. not (same_thing v u)) o) false) at) ∙ free))

free-by : (H : History) (o : Owner) (x : Command) → refusal H o x ≡ None → IsFree (thing_of H) (labelling x)
free-by H o (CopyBarcode c barcode) ok = own H (thing.Copy c) barcode (passed (checks H o (CopyBarcode c barcode)) ok check.BarcodeTaken)
free-by H o (PatronBarcode p barcode) ok = own H (thing.Patron p) barcode (passed (checks H o (PatronBarcode p barcode)) ok check.BarcodeTaken)
free-by H o (DropBarcode barcode) ok = tt
free-by H o _ ok = tt

agrees : (H : History) → IsLegal H → Agrees (thing_of H) (barcode_of H)
agrees [] legal = record { has = λ t x e. absurd (none-some t e); found = λ t x e. absurd (none-some x e) }
agrees (e ∷ H) legal = agrees-step (thing_of H) (barcode_of H) (agrees H legal.1) (labelling e.command) (free-by H e.owner e.command legal.0.unrefused)

pub thing-has : (H : History) → IsLegal H → (t : Thing) (x : List ℕ) → thing_of H x ≡ Some t → barcode_of H t ≡ Some x
thing-has H legal = (agrees H legal).has

pub barcode-finds : (H : History) → IsLegal H → (t : Thing) (x : List ℕ) → barcode_of H t ≡ Some x → thing_of H x ≡ Some t
barcode-finds H legal = (agrees H legal).found

-- ---- what was given last

-- One event more leaves the thing its barcode.
still-given : (e : Event) (H : History) (t : Thing) (x : List ℕ) → LeavesBarcode t x e → WasGiven H t x → WasGiven (e ∷ H) t x
still-given e H t x leaves was = record {
  later = e ∷ was.later;
  event = was.event;
  earlier = was.earlier;
  split = ap (λ (K : History). e ∷ K) was.split;
  gives = was.gives;
  left = (leaves, was.left);
}

given-step : (e : Event) (H : History) (t : Thing) (x : List ℕ) → (barcode_of H t ≡ Some x → WasGiven H t x)
    → (l : Labelling) → labelling e.command ≡ l → barcode_after l t (barcode_of H t) ≡ Some x → WasGiven (e ∷ H) t x
given-step e H t x was (Gives u y) is f = go (same_thing u t) refl f
  where
    go : (b : Bool) → same_thing u t ≡ b → cond b (Some y) (barcode_of H t) ≡ Some x → WasGiven (e ∷ H) t x
    go true d g =
        let same : u ≡ t = same_thing-is u t d in
        let text : y ≡ x = some-same y x g in
        record { later = []; event = e; earlier = H; split = refl; gives = is ∙ (λ i. Gives (same i) (text i)); left = tt }
    go false d g = still-given e H t x (record {
      no_other = λ z other. let both : Gives u y ≡ Gives t z = sym is ∙ other in let same : u ≡ t = cc in
          clash _ (subst (λ w. same_thing u w ≡ true) same (same_thing-self u)) d;
      not_taken = λ other. let both : Gives u y ≡ Takes x = sym is ∙ other in let never : ⊥ = cc in never;
    }) (was g)
given-step e H t x was (Takes y) is f = go (barcode_of H t) refl (is_barcode_of y (barcode_of H t)) refl f
  where
    go : (o : Option (List ℕ)) → barcode_of H t ≡ o → (b : Bool) → is_barcode_of y o ≡ b → cond b None o ≡ Some x → WasGiven (e ∷ H) t x
    go o at true d g = absurd (none-some x g)
    go None at false d g = absurd (none-some x g)
    go (Some z) at false d g =
        let same : z ≡ x = some-same z x g in
        still-given e H t x (record {
          no_other = λ w other. let both : Takes y ≡ Gives t w = sym is ∙ other in let never : ⊥ = cc in never;
          not_taken = λ other. let both : Takes y ≡ Takes x = sym is ∙ other in let text : y ≡ x = cc in
              clash _ (subst (λ w. bytes_eq z w ≡ true) (same ∙ sym text) (text-self z)) d;
        }) (was (at ∙ g))
given-step e H t x was NoLabelling is f = still-given e H t x (record {
  no_other = λ w other. let both : NoLabelling ≡ Gives t w = sym is ∙ other in let never : ⊥ = cc in never;
  not_taken = λ other. let both : NoLabelling ≡ Takes x = sym is ∙ other in let never : ⊥ = cc in never;
}) (was f)

was-given : (H : History) (t : Thing) (x : List ℕ) → barcode_of H t ≡ Some x → WasGiven H t x
was-given [] t x e = absurd (none-some x e)
was-given (e ∷ H) t x f = given-step e H t x (was-given H t x) (labelling e.command) refl f

-- What an event leaves it has after the event.
leaves-it : (e : Event) (t : Thing) (x : List ℕ) → LeavesBarcode t x e → (l : Labelling) → labelling e.command ≡ l → (o : Option (List ℕ)) → o ≡ Some x
    → barcode_after l t o ≡ Some x
leaves-it e t x leaves (Gives u y) is o at = go (same_thing u t) refl
  where
    go : (b : Bool) → same_thing u t ≡ b → cond b (Some y) o ≡ Some x
    go true d = absurd (leaves.no_other y (is ∙ ap (λ w. Gives w y) (same_thing-is u t d)))
    go false d = at
leaves-it e t x leaves (Takes y) is o at = ap (λ p. cond (is_barcode_of y p) None p) at ∙ go (bytes_eq x y) refl
  where
    go : (b : Bool) → bytes_eq x y ≡ b → cond b None (Some x) ≡ Some x
    go true d = absurd (leaves.not_taken (is ∙ ap Takes (sym (same-text x y d))))
    go false d = refl
leaves-it e t x leaves NoLabelling is o at = at

given-now : (later : History) (event : Event) (earlier : History) (t : Thing) (x : List ℕ) → labelling event.command ≡ Gives t x
    → AllByRecursion (LeavesBarcode t x) later → barcode_of (later ++ event ∷ earlier) t ≡ Some x
given-now [] event earlier t x gives left =
    ap (λ l. barcode_after l t (barcode_of earlier t)) gives ∙ ap (λ b. cond b (Some x) (barcode_of earlier t)) (same_thing-self t)
given-now (e ∷ later) event earlier t x gives left =
    leaves-it e t x left.0 (labelling e.command) refl (barcode_of (later ++ event ∷ earlier) t) (given-now later event earlier t x gives left.1)

has-given : (H : History) (t : Thing) (x : List ℕ) → WasGiven H t x → barcode_of H t ≡ Some x
has-given H t x was = ap (λ (K : History). barcode_of K t) was.split ∙ given-now was.later was.event was.earlier t x was.gives was.left

-- ---- rows

row-of : (t : Thing) (o : Option (List ℕ)) (r : BarcodeRow) → option_map (λ x. record { thing = t; barcode = x }) o ≡ Some r → o ≡ Some r.barcode
row-of t (Some x) r e = let same : ◌≡◌ {A = BarcodeRow} (record { thing = t; barcode = x }) r = some-same _ r e in ap (λ (q : BarcodeRow). Some q.barcode) same
row-of t None r e = absurd (none-some r e)

has-row : (H : History) (t : Thing) (x : List ℕ) → barcode_of H t ≡ Some x → HasBarcode (picture H) t x
has-row H t x e = ap (option_map (λ y. record { thing = t; barcode = y })) e

pub labels : Labels
labels H legal = record {
  one_thing = λ t u r s row there same.
      let x = row-of t (barcode_of H t) r row in
      let y = row-of u (barcode_of H u) s there in
      some-same t u (sym (barcode-finds H legal t r.barcode x) ∙ ap (thing_of H) same ∙ barcode-finds H legal u s.barcode y);
  given = λ t x. (
    λ row. was-given H t x (row-of t (barcode_of H t) _ row),
    λ was. has-row H t x (has-given H t x was),
  );
  found = λ t x. (
    λ at. has-row H t x (thing-has H legal t x at),
    λ row. barcode-finds H legal t x (row-of t (barcode_of H t) _ row),
  );
}

-- ---- what has a barcode is there

-- A patron who is enrolled, or a copy that was acquired.
abbrev pub ThingThere : History → Thing → Type 0
ThingThere H (thing.Patron p) = IsThere (patron_of H p)
ThingThere H (thing.Copy c) = IsThere (copy_of H c)

thing-stays : (e : Event) (H : History) (t : Thing) → ThingThere H t → ThingThere (e ∷ H) t
thing-stays e H (thing.Patron p) was = patron-stays e.command p (patron_of H p) was
thing-stays e H (thing.Copy c) was = copy-stays e.command c (copy_of H c) was

-- What is given a barcode is there.
given-there : (H : History) (o : Owner) (x : Command) (t : Thing) (y : List ℕ) → refusal H o x ≡ None → labelling x ≡ Gives t y → ThingThere H t
given-there H o (CopyBarcode c barcode) t y ok e =
    let same : thing.Copy c ≡ t = cc in
    subst (ThingThere H) same (not-false _ (passed (checks H o (CopyBarcode c barcode)) ok check.UnknownCopy))
given-there H o (PatronBarcode p barcode) t y ok e =
    let same : thing.Patron p ≡ t = cc in
    subst (ThingThere H) same (not-false _ (passed (checks H o (PatronBarcode p barcode)) ok check.UnknownPatron))
given-there H o (DropBarcode barcode) t y ok e = let never : ⊥ = cc in absurd never
given-there H o _ t y ok e = let never : ⊥ = cc in absurd never

there-step : (e : Event) (H : History) (t : Thing) (x : List ℕ) → refusal H e.owner e.command ≡ None
    → (barcode_of H t ≡ Some x → ThingThere H t) → (l : Labelling) → labelling e.command ≡ l → barcode_after l t (barcode_of H t) ≡ Some x → ThingThere H t
there-step e H t x ok was (Gives u y) is f = go (same_thing u t) refl f
  where
    go : (b : Bool) → same_thing u t ≡ b → cond b (Some y) (barcode_of H t) ≡ Some x → ThingThere H t
    go true d g = subst (ThingThere H) (same_thing-is u t d) (given-there H e.owner e.command u y ok is)
    go false d g = was g
there-step e H t x ok was (Takes y) is f = go (is_barcode_of y (barcode_of H t)) f
  where
    go : (b : Bool) → cond b None (barcode_of H t) ≡ Some x → ThingThere H t
    go true g = absurd (none-some x g)
    go false g = was g
there-step e H t x ok was NoLabelling is f = was f

pub named-there : (H : History) → IsLegal H → (t : Thing) (x : List ℕ) → barcode_of H t ≡ Some x → ThingThere H t
named-there [] legal t x e = absurd (none-some x e)
named-there (e ∷ H) legal t x f =
    thing-stays e H t (there-step e H t x legal.0.unrefused (named-there H legal.1 t x) (labelling e.command) refl f)

pub label-there : (H : History) → IsLegal H → (t : Thing) (x : List ℕ) → barcode_of H t ≡ Some x → HasThing (picture H) t
label-there H legal (thing.Patron p) x e = map-there _ (patron_of H p) (named-there H legal (thing.Patron p) x e)
label-there H legal (thing.Copy c) x e = map-there _ (copy_of H c) (named-there H legal (thing.Copy c) x e)
