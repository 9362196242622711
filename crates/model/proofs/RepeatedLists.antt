-- Leaving out a list's repeats leaves the same history, and rows read before change nothing.
use Rattle.std.proofs.Common.{◌≡◌, ℕ, ◌==◌, Bool, true, false, not, ◌&&◌, ◌||◌, List, [], ◌∷◌, ◌++◌, refl, sym, ap, ◌∙◌}
use Rattle.std.specs.Prelude.{Option, Some, None, is_none, option_map, unwrap_or, bytes_eq}
use Rattle.std.specs.Option.{option_or}
use Rattle.std.proofs.lemmas.Bool.{and_parts}
use Rattle.std.proofs.lemmas.Slice.Eq.{bytes_eq-Decides}
use Rattle.terms.specs.declared.command.Owner.TheVariants.{Desk}
use Rattle.terms.specs.declared.command.Request.{Request}
use Rattle.terms.specs.declared.refusal.Refusal.TheVariants.{OutOfLimits, UnknownBranch, OtherContent}
use Rattle.terms.specs.Texts.{request_text}
use Rattle.terms.specs.Callers.{owner_of}
use Rattle.model.specs.Checks.{first_failing, is_within_limits}
use Rattle.model.specs.History.{History, title_of, copy_of}
use Rattle.model.specs.Refusals.{refusal, has_branch, differs_title, differs_copy}
use Rattle.model.specs.Requests.{is_allowed, only_asks, Kept, kept_of, reply_to, adds, event_of, after_one, after}
use Rattle.model.specs.Repeats.{is_kept_text, repeats, first_ones, CopiesRow, row_command, row_request, after_rows}
use Rattle.model.proofs.Bindings.{not-true}
use Rattle.model.proofs.Repeats.{repeat-reply, repeat-adds_not, kept-one, kept-first}

-- ---- repeats

-- The text that is kept for a repeat.
kept-of_repeat : (o : Option Kept) (text : List ℕ) → is_kept_text o text ≡ true → (x : Kept) × (o ≡ Some x) × (x.text ≡ text)
kept-of_repeat (Some x) text e = (x, refl, (bytes_eq-Decides x.text text).0 e)
kept-of_repeat None text e = let never : ⊥ = cc in absurd never

-- A request that adds nothing leaves the history.
stays : (H : History) (r : Request) → adds H r ≡ false → after_one H r ≡ H
stays H r e = ap (λ b. elim b as (λ _. History) [ true ↦ event_of r ∷ H | false ↦ H ]) e

repeat-stays : (H : History) (r : Request) → repeats H r ≡ true → after_one H r ≡ H
repeat-stays H r e =
    let x = kept-of_repeat (kept_of H (owner_of r.caller) r.key) (request_text r.command) (and_parts (not (only_asks r.command)) _ e).1 in
    stays H r (repeat-adds_not H r x.0 x.1 (adds H r) refl)

pub repeats-kept_reply : (H : History) (r : Request) → repeats H r ≡ true → is_allowed H r.caller r.command ≡ true
    → (x : Kept) × (kept_of H (owner_of r.caller) r.key ≡ Some x) × (reply_to H r ≡ x.reply) × (after_one H r ≡ H)
repeats-kept_reply H r e allowed =
    let parts = and_parts (not (only_asks r.command)) (is_kept_text (kept_of H (owner_of r.caller) r.key) (request_text r.command)) e in
    let x = kept-of_repeat (kept_of H (owner_of r.caller) r.key) (request_text r.command) parts.1 in
    (x.0, x.1, repeat-reply H r x.0 allowed (not-true _ parts.0) x.1 x.2, repeat-stays H r e)

pub first_ones-leave : (rs : List Request) (H : History) → after H (first_ones H rs) ≡ after H rs
first_ones-leave [] H = refl
first_ones-leave (r ∷ rs) H = go (repeats H r) refl (first_ones-leave rs (after_one H r))
  where
    go : (b : Bool) → repeats H r ≡ b → after (after_one H r) (first_ones (after_one H r) rs) ≡ after (after_one H r) rs
        → after H (elim b as (λ _. List Request) [ true ↦ first_ones (after_one H r) rs | false ↦ r ∷ first_ones (after_one H r) rs ])
        ≡ after (after_one H r) rs
    go true e rest = ap (λ K. after K (first_ones (after_one H r) rs)) (sym (repeat-stays H r e)) ∙ rest
    go false e rest = rest

-- ---- rows of a copies file

-- A row adds nothing exactly if its key is kept or it is refused.
adds-row : (H : History) (x : CopiesRow)
    → adds H (row_request x) ≡ (is_none (kept_of H Desk (request_text (row_command x))) && is_none (refusal H Desk (row_command x)))
adds-row H x = go (is_none (kept_of H Desk (request_text (row_command x))))
  where
    go : (b : Bool) → (elim b as (λ _. Bool) [ true ↦ is_none (refusal H Desk (row_command x)) | false ↦ false ]) ≡ (b
        && is_none (refusal H Desk (row_command x)))
    go true = refl
    go false = refl

-- Which of three checks fails first doesn't matter for whether one does.
abbrev passes : Bool → Bool → Bool → Bool
passes a b c = not a && (not b && not c)

none-failing : (a b c : Bool) → is_none (first_failing ((OutOfLimits, a) ∷ (UnknownBranch, b) ∷ (OtherContent, c) ∷ [])) ≡ passes a b c
none-failing true b c = refl
none-failing false true c = refl
none-failing false false true = refl
none-failing false false false = refl

refused-later : (a b c d : Bool) → (c ≡ true → d ≡ true) → passes a b c ≡ false → passes a b d ≡ false
refused-later true b c d more e = refl
refused-later false true c d more e = refl
refused-later false false true true more e = refl
refused-later false false true false more e = let never : false ≡ true = more refl in absurd (let no : ⊥ = cc in no)
refused-later false false false d more e = let never : ⊥ = cc in absurd never

-- What differs from a row that is there differs from it later.
differs-later : {A : Type 0} (f : A → Bool) (o n : Option A) → unwrap_or (option_map f o) false ≡ true → unwrap_or (option_map f (option_or o n)) false ≡ true
differs-later f (Some x) n e = e
differs-later f None n e = let never : ⊥ = cc in absurd never

either-later : (a b c d : Bool) → (a ≡ true → c ≡ true) → (b ≡ true → d ≡ true) → (a || b) ≡ true → (c || d) ≡ true
either-later true b c d f g e = ap (λ x. x || d) (f refl)
either-later false true true d f g e = refl
either-later false true false d f g e = g refl
either-later false false c d f g e = let never : ⊥ = cc in absurd never

-- A row that is refused is refused after another row.
still_refused : (H : History) (x y : CopiesRow) → is_none (refusal H Desk (row_command x)) ≡ false
    → is_none (refusal (event_of (row_request y) ∷ H) Desk (row_command x)) ≡ false
still_refused H x y e =
    let before : passes (not (is_within_limits (row_command x))) (not (has_branch H x.home))
    (differs_title H x.title x.text || differs_copy H x.copy x.title x.kind x.home x.price) ≡ false =
    sym (none-failing (not (is_within_limits (row_command x))) (not (has_branch H x.home))
    (differs_title H x.title x.text || differs_copy H x.copy x.title x.kind x.home x.price)) ∙ e in
    none-failing (not (is_within_limits (row_command x))) (not (has_branch H x.home))
    (differs_title (event_of (row_request y) ∷ H) x.title x.text
    || differs_copy (event_of (row_request y) ∷ H) x.copy x.title x.kind x.home x.price)
    ∙ refused-later (not (is_within_limits (row_command x))) (not (has_branch H x.home)) _ _
    (either-later (differs_title H x.title x.text) (differs_copy H x.copy x.title x.kind x.home x.price) _ _
    (differs-later (λ t. not (bytes_eq t x.text)) (title_of H x.title) _)
    (differs-later (λ r. not ((r.title == x.title) && ((r.kind == x.kind) && ((r.home == x.home) && (r.price == x.price))))) (copy_of H x.copy) _)) before

-- A row that adds nothing adds nothing after another row.
settled-later : (H : History) (x y : CopiesRow) → adds H (row_request x) ≡ false → adds (after_one H (row_request y)) (row_request x) ≡ false
settled-later H x y e = adds-row (after_one H (row_request y)) x ∙ go (kept_of H Desk (request_text (row_command x))) refl (sym (adds-row H x) ∙ e)
  where
    refused : is_none (refusal H Desk (row_command x)) ≡ false → (b : Bool) → adds H (row_request y) ≡ b
        → is_none (refusal (elim b as (λ _. History) [ true ↦ event_of (row_request y) ∷ H | false ↦ H ]) Desk (row_command x)) ≡ false
    refused f true d = still_refused H x y f
    refused f false d = f

    both-false : (a b : Bool) → b ≡ false → (a && b) ≡ false
    both-false true b f = f
    both-false false b f = refl

    go : (o : Option Kept) → kept_of H Desk (request_text (row_command x)) ≡ o → (is_none o && is_none (refusal H Desk (row_command x))) ≡ false
        → (is_none (kept_of (after_one H (row_request y)) Desk (request_text (row_command x)))
        && is_none (refusal (after_one H (row_request y)) Desk (row_command x))) ≡ false
    go (Some k) d f = ap (λ o. is_none o && is_none (refusal (after_one H (row_request y)) Desk (row_command x)))
        (kept-one H (row_request y) Desk (request_text (row_command x)) k d)
    go None d f = both-false _ _ (refused f (adds H (row_request y)) refl)

-- A row adds nothing right after itself.
settled-now : (H : History) (x : CopiesRow) → adds (after_one H (row_request x)) (row_request x) ≡ false
settled-now H x = go (adds H (row_request x)) refl
  where
    go : (b : Bool) → adds H (row_request x) ≡ b → adds (after_one H (row_request x)) (row_request x) ≡ false
    go true e =
        adds-row (after_one H (row_request x)) x
        ∙ ap (λ o. is_none o && is_none (refusal (after_one H (row_request x)) Desk (row_command x))) (kept-first H (row_request x) e)
    go false e = ap (λ K. adds K (row_request x)) (stays H (row_request x) e) ∙ e

settled-after : (ys : List CopiesRow) (H : History) (x : CopiesRow) → adds H (row_request x) ≡ false → adds (after_rows H ys) (row_request x) ≡ false
settled-after [] H x e = e
settled-after (y ∷ ys) H x e = settled-after ys (after_one H (row_request y)) x (settled-later H x y e)

-- Each of the rows adds nothing.
abbrev AreSettled : History → List CopiesRow → Type 0
AreSettled H [] = Unit {0}
AreSettled H (x ∷ xs) = (adds H (row_request x) ≡ false) × AreSettled H xs

-- After rows, each of them adds nothing.
settled-rows : (xs : List CopiesRow) (H : History) → AreSettled (after_rows H xs) xs
settled-rows [] H = tt
settled-rows (x ∷ xs) H = (settled-after xs (after_one H (row_request x)) x (settled-now H x), settled-rows xs (after_one H (row_request x)))

settled-stay : (xs : List CopiesRow) (H : History) → AreSettled H xs → after_rows H xs ≡ H
settled-stay [] H s = refl
settled-stay (x ∷ xs) H s = ap (λ K. after_rows K xs) (stays H (row_request x) s.0) ∙ settled-stay xs H s.1

after-append : (xs ys : List CopiesRow) (H : History) → after_rows H (xs ++ ys) ≡ after_rows (after_rows H xs) ys
after-append [] ys H = refl
after-append (x ∷ xs) ys H = after-append xs ys (after_one H (row_request x))

-- The beginning of a copies file, followed by all of it, leaves the same history as all of it once.
pub rows-once : (H : History) (beginning rest : List CopiesRow) → after_rows H (beginning ++ (beginning ++ rest)) ≡ after_rows H (beginning ++ rest)
rows-once H beginning rest =
    after-append beginning (beginning ++ rest) H ∙ after-append beginning rest (after_rows H beginning)
    ∙ ap (λ K. after_rows K rest) (settled-stay beginning (after_rows H beginning) (settled-rows beginning H)) ∙ sym (after-append beginning rest H)
