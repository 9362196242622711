-- Copy-barcode, patron-barcode and drop-barcode meet the history.
use Rattle.std.proofs.Common.{◌≡◌, ℕ, Bool, true, false, cond, not, List, ◌∷◌, refl, sym, ◌∙◌, ap, subst}
use Rattle.std.specs.Prelude.{Option, Some, None, option_map, unwrap_or, is_none}
use Rattle.std.proofs.lemmas.Slice.Eq.{bytes_eq-Decides}
use Rattle.terms.specs.Pictures.{put_thing, same_thing}
use Rattle.terms.specs.declared.row.BarcodeRow.{BarcodeRow}
use Rattle.terms.specs.declared.row.Thing.{Thing}
use Rattle.terms.specs.declared.row.Thing.TheVariants as thing
use Rattle.terms.specs.declared.command.Owner.TheVariants.{Desk}
use Rattle.terms.specs.declared.command.Command.TheVariants.{CopyBarcode, PatronBarcode, DropBarcode}
use Rattle.terms.specs.declared.reply.Reply.TheVariants.{Done}
use Rattle.terms.specs.declared.refusal.Refusal.TheVariants as check
use Rattle.model.specs.History.{History, patron_of, copy_of, is_barcode_of, barcode_of, thing_of}
use Rattle.model.specs.Refusals.{checks, is_taken}
use Rattle.model.specs.Requests.{IsLegal}
use Rattle.model.specs.Picture.{picture, patron_columns, copy_columns, barcode_row}
use Rattle.model.proofs.Bindings.{clash}
use Rattle.model.proofs.Labels.{labels, same_thing-is, same_thing-self, thing-has, barcode-finds}
use Rattle.model.proofs.Passing.{passed}
use Rattle.model.proofs.SettingRanges.{some-same}
use Rattle.circ_core.specs.Decides.{event}
use Rattle.circ_core.specs.declared.views.View.{View}
use Rattle.circ_core.specs.Barcode.{is_others, copy_barcode_checks, patron_barcode_checks, drop_barcode_checks, barcode_rows, drop_barcode_rows}
use Rattle.circ_core.specs.Views.{IsThingOf, IsCopyBarcodeView, IsPatronBarcodeView}
use Rattle.circ_core.proofs.Meets.{Meets, Leads}
use Rattle.circ_core.proofs.Rows.{none-map}

-- The columns of a barcode.
abbrev columns : Thing → List ℕ → BarcodeRow
columns t x = record { thing = t; barcode = x }

-- A row that is put is that of the barcode that is given.
put_given : (of : Thing → Option (List ℕ)) (t : Thing) (x : List ℕ) (u : Thing)
    → put_thing (λ v. option_map (columns v) (of v)) t (Some (columns t x)) u ≡ option_map (columns u) (cond (same_thing t u) (Some x) (of u))
put_given of t x u = go (same_thing t u) refl
  where
    go : (b : Bool) → same_thing t u ≡ b
        → (elim b as (λ _. Option BarcodeRow) [ true ↦ Some (columns t x) | false ↦ option_map (columns u) (of u) ]) ≡ option_map (columns u) (cond b (Some x) (of u))
    go true e = ap (λ v. Some (columns v x)) (same_thing-is t u e)
    go false e = refl

module _ (H : History) (legal : IsLegal H) (x : List ℕ) where
  -- What the view found is the thing that has the barcode.
  labelled_is : (o : Option Thing) → IsThingOf (picture H) x o → o ≡ thing_of H x
  labelled_is (Some t) w = sym (((labels H legal).found t x).1 w)
  labelled_is None w = go (thing_of H x) refl
    where
      go : (o : Option Thing) → thing_of H x ≡ o → None ≡ o
      go (Some t) e = absurd (w t (columns t x) (((labels H legal).found t x).0 e) refl)
      go None e = refl

  others_is : (t : Thing) (o : Option Thing) → is_others t o ≡ unwrap_or (option_map (λ u. not (same_thing u t)) o) false
  others_is t (Some u) = refl
  others_is t None = refl

  taken_same : (t : Thing) (o : Option Thing) → IsThingOf (picture H) x o → is_others t o ≡ is_taken H t x
  taken_same t o w = others_is t o ∙ ap (λ q. unwrap_or (option_map (λ u. not (same_thing u t)) q) false) (labelled_is o w)

  pub copy_barcode_meets : (c : ℕ) (rows : View) → IsCopyBarcodeView (picture H) c x rows
      → Meets H (CopyBarcode c x) (copy_barcode_checks rows c) Done (barcode_rows (thing.Copy c) x)
  copy_barcode_meets c rows w = record {
    same = (
      refl,
      (ap is_none w.copy ∙ none-map (copy_columns H c) (copy_of H c)),
      λ _. (refl, taken_same (thing.Copy c) rows.labelled w.labelled, λ _. tt),
    );
    due = λ _. refl;
    leads = λ _ owner key. λ i. record (picture (event owner key (CopyBarcode c x) ∷ H)) {
      barcodes = λ u. put_given (barcode_of H) (thing.Copy c) x u i;
    };
  }

  pub patron_barcode_meets : (p : ℕ) (rows : View) → IsPatronBarcodeView (picture H) p x rows
      → Meets H (PatronBarcode p x) (patron_barcode_checks rows p) Done (barcode_rows (thing.Patron p) x)
  patron_barcode_meets p rows w = record {
    same = (
      refl,
      (ap is_none w.patron ∙ none-map (patron_columns H p) (patron_of H p)),
      λ _. (refl, taken_same (thing.Patron p) rows.labelled w.labelled, λ _. tt),
    );
    due = λ _. refl;
    leads = λ _ owner key. λ i. record (picture (event owner key (PatronBarcode p x) ∷ H)) {
      barcodes = λ u. put_given (barcode_of H) (thing.Patron p) x u i;
    };
  }

  -- The row that is taken is that of the thing that has the barcode, and no other.
  put_taken : (t : Thing) → thing_of H x ≡ Some t → (u : Thing)
      → put_thing (barcode_row H) t None u ≡ option_map (columns u) (cond (is_barcode_of x (barcode_of H u)) None (barcode_of H u))
  put_taken t at u = go (same_thing t u) refl
    where
      mine : (b : Bool) → is_barcode_of x (barcode_of H u) ≡ b → t ≡ u → None ≡ option_map (columns u) (cond b None (barcode_of H u))
      mine true e same = refl
      mine false e same =
          let has : barcode_of H u ≡ Some x = subst (λ v. barcode_of H v ≡ Some x) same (thing-has H legal t x at) in
          absurd (clash _ (ap (is_barcode_of x) has ∙ (bytes_eq-Decides x x).1 refl) e)

      others : (o : Option (List ℕ)) → barcode_of H u ≡ o → (b : Bool) → is_barcode_of x o ≡ b → same_thing t u ≡ false
          → option_map (columns u) o ≡ option_map (columns u) (cond b None o)
      others o e false f off = refl
      others None e true f off = refl
      others (Some y) e true f off =
          let text : y ≡ x = (bytes_eq-Decides y x).0 f in
          let same : t ≡ u = some-same t u (sym at ∙ barcode-finds H legal u x (e ∙ ap Some text)) in
          absurd (clash _ (subst (λ v. same_thing t v ≡ true) same (same_thing-self t)) off)

      go : (b : Bool) → same_thing t u ≡ b
          → (elim b as (λ _. Option BarcodeRow) [ true ↦ None | false ↦ barcode_row H u ])
          ≡ option_map (columns u) (cond (is_barcode_of x (barcode_of H u)) None (barcode_of H u))
      go true e = mine (is_barcode_of x (barcode_of H u)) refl (same_thing-is t u e)
      go false e = others (barcode_of H u) refl (is_barcode_of x (barcode_of H u)) refl e

  drop_leads : (o : Option Thing) → thing_of H x ≡ o → is_none o ≡ false → Leads H (DropBarcode x) (drop_barcode_rows o)
  drop_leads (Some t) e known owner key = λ i. record (picture (event owner key (DropBarcode x) ∷ H)) { barcodes = λ u. put_taken t e u i }
  drop_leads None e known owner key = let never : ⊥ = cc in absurd never

  pub drop_barcode_meets : (rows : View) → IsThingOf (picture H) x rows.labelled
      → Meets H (DropBarcode x) (drop_barcode_checks rows) Done (drop_barcode_rows rows.labelled)
  drop_barcode_meets rows w =
      let is : rows.labelled ≡ thing_of H x = labelled_is rows.labelled w in
      record {
        same = (refl, ap is_none is, λ _. tt);
        due = λ _. refl;
        leads = λ ok. subst (λ o. Leads H (DropBarcode x) (drop_barcode_rows o)) (sym is)
            (drop_leads (thing_of H x) refl (passed (checks H Desk (DropBarcode x)) ok check.UnknownBarcode));
      }
