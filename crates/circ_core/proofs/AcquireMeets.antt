-- Acquire meets the history.
use Rattle.std.proofs.Common.{◌≡◌, ℕ, ◌==◌, Bool, true, false, cond, not, ◌&&◌, ◌||◌, List, [], ◌∷◌, ◌++◌, refl, sym, ◌∙◌, ap}
use Rattle.std.specs.Prelude.{Option, Some, None, option_map, unwrap_or, is_none, bytes_eq, find}
use Rattle.std.specs.Option.{option_or}
use Rattle.std.proofs.lemmas.Bool.{eqb-true}
use Rattle.terms.specs.declared.row.TitleRow.{TitleRow}
use Rattle.terms.specs.declared.row.CopyRow.{CopyRow}
use Rattle.terms.specs.declared.row.Condition.TheVariants.{Present}
use Rattle.terms.specs.declared.command.Command.TheVariants.{Acquire}
use Rattle.terms.specs.declared.reply.Reply.TheVariants.{Done}
use Rattle.model.specs.Invariant.{Invariant}
use Rattle.model.specs.History.{History, branch_of, title_of, CopyFacts, copy_of, copies, hold_of}
use Rattle.model.specs.Places.{Place, Nowhere, Shelf, place, state, place_after, is_kept_for, kept_for, limit, is_begun}
use Rattle.model.specs.Picture.{picture, branch_columns, title_row, copy_columns, copy_row, hold_row, condition_at, transit_at, hold_by}
use Rattle.circ_core.specs.Decides.{event}
use Rattle.circ_core.specs.declared.changes.RowChange.{RowChange}
use Rattle.circ_core.specs.declared.changes.RowChange.TheVariants.{PutTitle, PutCopy}
use Rattle.circ_core.specs.declared.views.View.{View}
use Rattle.circ_core.specs.Tables.{rows_unless}
use Rattle.circ_core.specs.Acquire.{title_differs, copy_differs, acquire_checks, acquire_rows}
use Rattle.terms.specs.Pictures.{put}
use Rattle.circ_core.specs.Views.{IsAcquireView}
use Rattle.circ_core.proofs.Meets.{Meets, Leads}
use Rattle.circ_core.proofs.Rows.{is_none-None, none-map, put_new, keep_old}
use Rattle.circ_core.proofs.Rising.{find-same}

abbrev pub title_columns : ℕ → List ℕ → TitleRow
title_columns t text = record { title = t; text = text }

module _ (H : History) (inv : Invariant H) (c t k home price : ℕ) (text : List ℕ) where
  -- ---- the checks

  differs_title-same : (o : Option (List ℕ)) → title_differs (option_map (title_columns t) o) text ≡ unwrap_or (option_map (λ x. not (bytes_eq x text)) o) false
  differs_title-same (Some x) = refl
  differs_title-same None = refl

  differs_copy-same : (o : Option CopyFacts)
      → copy_differs (option_map (copy_columns H c) o) t k home price
      ≡ unwrap_or (option_map (λ r. not ((r.title == t) && ((r.kind == k) && ((r.home == home) && (r.price == price))))) o) false
  differs_copy-same (Some r) = refl
  differs_copy-same None = refl

  -- ---- the places

  abbrev place_now : ℕ → Place
  place_now n = place_after H (place H) (state H) (is_begun H) (Acquire c t k home price text) n

  -- What is the same on a shelf as nowhere stays the same for every copy.
  place_same : {A : Type 0} (f : ℕ → Place → A) → ((n : ℕ) → f n Nowhere ≡ f n (Shelf home)) → (n : ℕ) → f n (place H n) ≡ f n (place_now n)
  place_same {A} f same n = go (is_none (copy_of H c)) refl (c == n) refl
    where
      go : (x : Bool) → is_none (copy_of H c) ≡ x → (y : Bool) → (c == n) ≡ y
          → f n (place H n) ≡ f n (elim x as (λ _. Place) [ true ↦ elim y as (λ _. Place) [ true ↦ Shelf home | false ↦ place H n ] | false ↦ place H n ])
      go true e true d =
          let none : copy_of H c ≡ None = is_none-None (copy_of H c) e in
          let nowhere : place H n ≡ Nowhere = rw (eqb-true c n d) at (inv.unknown c none) in
          ap (f n) nowhere ∙ same n
      go true e false d = refl
      go false e y d = refl

  kept_same : (h : ℕ) → kept_for H h ≡ find (λ x. is_kept_for (place_now x) h) (cond (is_none (copy_of H c)) (c ∷ copies H) (copies H))
  kept_same h = find-same _ _ (λ x. place_same (λ _ p. is_kept_for p h) (λ _. refl) x) (copies H) ∙ go (is_none (copy_of H c)) refl
    where
      go : (x : Bool) → is_none (copy_of H c) ≡ x
          → find (λ y. is_kept_for (place_now y) h) (copies H) ≡ find (λ y. is_kept_for (place_now y) h) (cond x (c ∷ copies H) (copies H))
      go true e =
          let nowhere : place H c ≡ Nowhere = inv.unknown c (is_none-None (copy_of H c) e) in
          let off : is_kept_for (place_now c) h ≡ false = sym (place_same (λ _ p. is_kept_for p h) (λ _. refl) c) ∙ ap (λ p. is_kept_for p h) nowhere in
          sym (ap (λ b. cond b (Some c) (find (λ y. is_kept_for (place_now y) h) (copies H))) off)
      go false e = refl

  -- ---- the rows

  abbrev facts_now : CopyFacts
  facts_now = record { title = t; kind = k; home = home; price = price }

  new_title : List RowChange
  new_title = PutTitle (record { title = t; text = text }) ∷ []

  new_copy : List RowChange
  new_copy = PutCopy (record { copy = c; title = t; kind = k; home = home; price = price; condition = Present }) ∷ []

  titles_keep : (s : List ℕ) → title_of H t ≡ Some s → (n : ℕ)
      → title_row H n ≡ option_map (title_columns n) (option_or (title_of H n) (cond (t == n) (Some text) None))
  titles_keep s e n = keep_old title_columns (title_of H) t text s n e

  titles_put : title_of H t ≡ None → (n : ℕ)
      → put (title_row H) t (Some (record { title = t; text = text })) n ≡ option_map (title_columns n)
      (option_or (title_of H n) (cond (t == n) (Some text) None))
  titles_put e n = put_new title_columns (title_of H) t text _ n e refl

  -- The columns of a copy are those of its place now.
  columns_now : (n : ℕ) (o : Option CopyFacts) → option_map (copy_columns H n) o
      ≡ option_map (λ r. record { copy = n; title = r.title; kind = r.kind; home = r.home; price = r.price; condition = condition_at (place_now n) }) o
  columns_now n o = ap (λ x. option_map
      (λ r. record { copy = n; title = r.title; kind = r.kind; home = r.home; price = r.price; condition = x }) o)
      (place_same (λ _ p. condition_at p) (λ _. refl) n)

  abbrev copy_now : ℕ → Option CopyRow
  copy_now n = option_map (λ r. record { copy = n; title = r.title; kind = r.kind; home = r.home; price = r.price; condition = condition_at (place_now n) })
      (option_or (copy_of H n) (cond (c == n) (Some facts_now) None))

  copies_keep : (r : CopyFacts) → copy_of H c ≡ Some r → (n : ℕ) → copy_row H n ≡ copy_now n
  copies_keep r e n = keep_old (copy_columns H) (copy_of H) c facts_now r n e ∙ columns_now n (option_or (copy_of H n) (cond (c == n) (Some facts_now) None))

  copies_put : copy_of H c ≡ None → (n : ℕ)
      → put (copy_row H) c (Some (record { copy = c; title = t; kind = k; home = home; price = price; condition = Present })) n ≡ copy_now n
  copies_put e n =
      put_new (copy_columns H) (copy_of H) c facts_now _ n e
      (ap (λ x. record { copy = c; title = t; kind = k; home = home; price = price; condition = x }) (sym (ap condition_at (inv.unknown c e))))
      ∙ columns_now n (option_or (copy_of H n) (cond (c == n) (Some facts_now) None))

  holds_keep : (n : ℕ) → hold_row H n ≡ hold_by n (hold_of H n) (state H n)
      (find (λ x. is_kept_for (place_now x) n) (cond (is_none (copy_of H c)) (c ∷ copies H) (copies H))) (limit H n)
  holds_keep n = ap (λ z. hold_by n (hold_of H n) (state H n) z (limit H n)) (kept_same n)

  transits_keep : (n : ℕ) → transit_at n (place H n) ≡ transit_at n (place_now n)
  transits_keep n = place_same transit_at (λ _. refl) n

  acquire_leads : (x : Option (List ℕ)) → title_of H t ≡ x → (y : Option CopyFacts) → copy_of H c ≡ y
      → Leads H (Acquire c t k home price text)
      (rows_unless (option_map (title_columns t) x) new_title ++ rows_unless (option_map (copy_columns H c) y) new_copy)
  unfolding new_title new_copy
  acquire_leads (Some s) e (Some r) f owner key = λ i. record (picture (event owner key (Acquire c t k home price text) ∷ H)) {
    titles = λ n. titles_keep s e n i;
    copies = λ n. copies_keep r f n i;
    holds = λ h. holds_keep h i;
    transits = λ n. transits_keep n i;
  }
  acquire_leads (Some s) e None f owner key = λ i. record (picture (event owner key (Acquire c t k home price text) ∷ H)) {
    titles = λ n. titles_keep s e n i;
    copies = λ n. copies_put f n i;
    holds = λ h. holds_keep h i;
    transits = λ n. transits_keep n i;
  }
  acquire_leads None e (Some r) f owner key = λ i. record (picture (event owner key (Acquire c t k home price text) ∷ H)) {
    titles = λ n. titles_put e n i;
    copies = λ n. copies_keep r f n i;
    holds = λ h. holds_keep h i;
    transits = λ n. transits_keep n i;
  }
  acquire_leads None e None f owner key = λ i. record (picture (event owner key (Acquire c t k home price text) ∷ H)) {
    titles = λ n. titles_put e n i;
    copies = λ n. copies_put f n i;
    holds = λ h. holds_keep h i;
    transits = λ n. transits_keep n i;
  }

  pub acquire_meets : (rows : View) → IsAcquireView (picture H) c t home rows
      → Meets H (Acquire c t k home price text) (acquire_checks rows c t k home price text) Done (acquire_rows rows c t k home price text)
  unfolding new_title new_copy
  acquire_meets rows w = record {
    same = (
      refl,
      refl,
      λ _. (
        refl,
        (ap is_none w.home ∙ none-map (branch_columns H home) (branch_of H home)),
        λ _. (
          refl,
          (rw (w.title, w.copy) (ap (λ x. x || copy_differs (copy_row H c) t k home price) (differs_title-same (title_of H t))
              ∙ ap (λ x. unwrap_or (option_map (λ s. not (bytes_eq s text)) (title_of H t)) false || x) (differs_copy-same (copy_of H c)))),
          λ _. tt,
        ),
      ),
    );
    due = λ _. refl;
    leads = λ _ owner key. rw (w.title, w.copy) (acquire_leads (title_of H t) refl (copy_of H c) refl owner key);
  }
