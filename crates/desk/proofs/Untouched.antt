-- What a command leaves of the rows of a patron it doesn't touch.
use Rattle.std.proofs.Common.{◌≡◌, ℕ, ◌==◌, Bool, true, false, cond, ◌||◌, not, ◌+◌, inl, inr, List, [], ◌∷◌, ◌++◌, take, refl, sym, ◌∙◌, ap, subst}
use Rattle.std.specs.Prelude.{Option, Some, None, option_map, is_some}
use Rattle.std.specs.List.{list_any, cons_option, slice_get}
use Rattle.std.proofs.lemmas.List.{take_more}
use Rattle.std.proofs.lemmas.List.Elements.{filter_map-append}
use Rattle.std.proofs.lemmas.Option.{slice_get_within, get_or_from_slice_get}
use Rattle.terms.specs.Pictures.{Picture, put}
use Rattle.terms.specs.declared.command.Owner.{Owner}
use Rattle.terms.specs.declared.command.Owner.TheVariants.{Desk}
use Rattle.terms.specs.declared.command.Command.{Command}
use Rattle.terms.specs.declared.command.Command.TheVariants.{Acquire, AmendTitle}
use Rattle.terms.specs.declared.row.TitleRow.{TitleRow}
use Rattle.std.specs.Option.{option_or}
use Rattle.std.proofs.lemmas.Bool.{eqb-true}
use Rattle.std.proofs.lemmas.List.Folds.{list_any-append}
use Rattle.terms.specs.declared.command.Request.{Request}
use Rattle.terms.specs.declared.refusal.Refusal.TheVariants.{UnknownPatron}
use Rattle.terms.specs.declared.reply.Reply.{Reply}
use Rattle.terms.specs.declared.reply.Reply.TheVariants.{Shown, Refused}
use Rattle.circ_core.specs.declared.changes.Decision.{Decision}
use Rattle.circ_core.specs.declared.changes.RowChange.{RowChange}
use Rattle.circ_core.specs.declared.changes.RowChange.TheVariants.{PutPatron, PutLoan, PutHold}
use Rattle.circ_core.specs.Tables.{change, changed, SameRows}
use Rattle.circ_core.specs.Decides.{IsDecision, event}
use Rattle.model.specs.Checks.{first_failing}
use Rattle.model.specs.History.{History, PatronFacts, patron_of, title_of}
use Rattle.model.specs.Laws.{AgreesOn, KeepsOwnRows, KeepsOwnTitles}
use Rattle.model.specs.Pages.{page}
use Rattle.model.specs.Picture.{picture}
use Rattle.model.specs.Refusals.{refusal}
use Rattle.model.specs.Requests.{IsLegal, adds, event_of, after_one}
use Rattle.model.proofs.UntouchedPatrons.{kept-agree}
use Rattle.model.proofs.Moves.{false-ne}
use Rattle.model.proofs.OwnRows.{page-same}
use Rattle.model.proofs.Runs.{after_one-legal}
use Rattle.model.proofs.SettingRanges.{some-same, none-some}
use Rattle.desk.specs.Answering.{added}
use Rattle.desk.specs.Showing.{own_page}
use Rattle.desk.specs.Touching.{patron_put, patrons_put, KeepsOthers, IsAmong, AreExactly, IsReaderFor}
use Rattle.desk.specs.declared.showing.OwnPage.{OwnPage}
use Rattle.desk.proofs.Leads.{added-none}

-- ---- one change more

-- The patrons of the changes up to the next one.
pub patrons-next : (xs : List RowChange) (i : ℕ) (x : RowChange) → slice_get xs i ≡ Some x
    → patrons_put (take (i + 1) xs) ≡ patrons_put (take i xs) ++ cons_option (patron_put x) []
patrons-next xs i x at =
    ap patrons_put (take_more xs i x (slice_get_within xs i x at) ∙ ap (λ y. take i xs ++ y ∷ []) (get_or_from_slice_get xs i x x at))
    ∙ filter_map-append patron_put (take i xs) (x ∷ [])

-- ---- one change

keeps-same : (P : Picture) (p : ℕ) → KeepsOwnRows P P p
keeps-same P p = record { patron = refl; loans = λ l r at own. at; holds = λ h r at own. at }

keeps-then : (P Q R : Picture) (p : ℕ) → KeepsOwnRows P Q p → KeepsOwnRows Q R p → KeepsOwnRows P R p
keeps-then P Q R p first next = record {
  patron = first.patron ∙ next.patron;
  loans = λ l r at own. first.loans l r (next.loans l r at own) own;
  holds = λ h r at own. first.holds h r (next.holds h r at own) own;
}

put-other : {A : Type 0} (t : ℕ → Option A) (k : ℕ) (x : A) (n : ℕ) (r : A) → (x ≡ r → ⊥) → put t k (Some x) n ≡ Some r → t n ≡ Some r
put-other {A} t k x n r other at = go (k == n) at
  where
    go : (b : Bool) → (elim b as (λ _. Option A) [ true ↦ Some x | false ↦ t n ]) ≡ Some r → t n ≡ Some r
    go true e = absurd (other (some-same x r e))
    go false e = e

put-else : {A : Type 0} (t : ℕ → Option A) (k : ℕ) (x : A) (n : ℕ) → (k == n) ≡ false → t n ≡ put t k (Some x) n
put-else {A} t k x n e = sym (ap (λ b. elim b as (λ _. Option A) [ true ↦ Some x | false ↦ t n ]) e)

change-keeps : (x : RowChange) (P : Picture) (p : ℕ) → ((q : ℕ) → patron_put x ≡ Some q → (q == p) ≡ false) → KeepsOwnRows P (change x P) p
change-keeps (PutPatron row) P p other = record {
  patron = put-else P.patrons row.patron row p (other row.patron refl);
  loans = λ l r at own. at;
  holds = λ h r at own. at;
}
change-keeps (PutLoan row) P p other = record {
  patron = refl;
  loans = λ l r at own. put-other P.loans row.loan row l r (λ same. false-ne row.patron p (other row.patron refl) (ap (λ y. y.patron) same ∙ own)) at;
  holds = λ h r at own. at;
}
change-keeps (PutHold row) P p other = record {
  patron = refl;
  loans = λ l r at own. at;
  holds = λ h r at own. put-other P.holds row.hold row h r (λ same. false-ne row.patron p (other row.patron refl) (ap (λ y. y.patron) same ∙ own)) at;
}
change-keeps _ P p other = record { patron = refl; loans = λ l r at own. at; holds = λ h r at own. at }

-- ---- all changes of a decision

neither : (x y : Bool) → (x || y) ≡ false → (x ≡ false) × (y ≡ false)
neither true y e = let never : ⊥ = cc in absurd never
neither false y e = (refl, e)

none-of : (p : ℕ) (o : Option ℕ) (qs : List ℕ) → list_any (λ q. q == p) (cons_option o qs) ≡ false
    → ((q : ℕ) → o ≡ Some q → (q == p) ≡ false) × (list_any (λ q. q == p) qs ≡ false)
none-of p (Some x) qs out = let parts = neither (x == p) (list_any (λ q. q == p) qs) out in
    (λ q same. ap (λ y. y == p) (sym (some-same x q same)) ∙ parts.0, parts.1)
none-of p None qs out = (λ q same. absurd (none-some q same), out)

changes-keep : (xs : List RowChange) (P : Picture) (p : ℕ) → list_any (λ q. q == p) (patrons_put xs) ≡ false → KeepsOwnRows P (changed xs P) p
changes-keep [] P p out = keeps-same P p
changes-keep (x ∷ xs) P p out =
    let parts = none-of p (patron_put x) (patrons_put xs) out in
    keeps-then P (change x P) (changed xs (change x P)) p (change-keeps x P p parts.0) (changes-keep xs (change x P) p parts.1)

rows-keep : (P Q R : Picture) (p : ℕ) → KeepsOwnRows P Q p → SameRows Q R → KeepsOwnRows P R p
rows-keep P Q R p keeps same = record {
  patron = keeps.patron ∙ ap (λ (T : Picture). T.patrons p) same;
  loans = λ l r at own. keeps.loans l r (ap (λ (T : Picture). T.loans l) same ∙ at) own;
  holds = λ h r at own. keeps.holds h r (ap (λ (T : Picture). T.holds h) same ∙ at) own;
}

titles-same : (P : Picture) (p : ℕ) → KeepsOwnTitles P P p
titles-same P p = record { lent = λ l r c x at own unended copy row. row; held = λ h r x at own active row. row }

-- Where nothing was accepted nobody's rows are others.
pub others-same : (touched : List ℕ) (H K : History) → K ≡ H → KeepsOthers touched H K
others-same touched H K same = subst (λ (L : History). KeepsOthers touched H L) (sym same) (λ p out. (keeps-same (picture H) p, titles-same (picture H) p))

-- The same of one list of accepted requests by two names.
pub others-as : (touched : List ℕ) (H K L : History) → K ≡ L → KeepsOthers touched H L → KeepsOthers touched H K
others-as touched H K L same = subst (λ (M : History). KeepsOthers touched H M) (sym same)

-- ---- titles

apart : (readers : List ℕ) (p q : ℕ) → list_any (λ x. x == p) readers ≡ false → IsAmong readers q → q ≡ p → ⊥
apart readers p q out among same =
    let here : list_any (λ x. x == p) readers ≡ true = subst (IsAmong readers) same among in
    let never : ⊥ = cc in never

text-of : (t : ℕ) → List ℕ → TitleRow
text-of t x = record { title = t; text = x }

-- The row of a title that no amend-title names stays.
title-amended : (t n : ℕ) (text : List ℕ) (o : Option (List ℕ)) (x : TitleRow) → (t ≡ n → ⊥) → option_map (text-of n) o ≡ Some x
    → option_map (text-of n) (cond (t == n) (option_map (λ old. text) o) o) ≡ Some x
title-amended t n text o x other row = go (t == n) refl
  where
    go : (b : Bool) → (t == n) ≡ b → option_map (text-of n) (cond b (option_map (λ old. text) o) o) ≡ Some x
    go true e = absurd (other (eqb-true t n e))
    go false e = row

title-made : (n : ℕ) (o made : Option (List ℕ)) (x : TitleRow) → option_map (text-of n) o ≡ Some x → option_map (text-of n) (option_or o made) ≡ Some x
title-made n (Some y) made x row = row
title-made n None made x row = absurd (none-some x row)

titles-keep : (H : History) (o : Owner) (k : List ℕ) (c : Command) (readers : List ℕ) (p : ℕ) → AreExactly (IsReaderFor H c) readers
    → list_any (λ q. q == p) readers ≡ false → KeepsOwnTitles (picture H) (picture (event o k c ∷ H)) p
unfolding text-of
titles-keep H o k (AmendTitle t text) readers p are out = record {
  lent = λ l r c x at own unended copy row.
      title-amended t c.title text (title_of H c.title) x (λ same. apart readers p r.patron out (are.all r.patron (inl (l, r, c, at, unended, copy, sym same, refl))) own) row;
  held = λ h r x at own active row.
      title-amended t r.title text (title_of H r.title) x (λ same. apart readers p r.patron out (are.all r.patron (inr (h, r, at, active, sym same, refl))) own) row;
}
titles-keep H o k (Acquire copy t kind home price text) readers p are out = record {
  lent = λ l r c x at own unended copy row. title-made c.title (title_of H c.title) _ x row;
  held = λ h r x at own active row. title-made r.title (title_of H r.title) _ x row;
}
titles-keep H o k _ readers p are out = record { lent = λ l r c x at own unended copy row. row; held = λ h r x at own active row. row }

out-of-both : (xs ys : List ℕ) (p : ℕ) → list_any (λ q. q == p) (xs ++ ys) ≡ false
    → (list_any (λ q. q == p) xs ≡ false) × (list_any (λ q. q == p) ys ≡ false)
out-of-both xs ys p out = neither (list_any (λ q. q == p) xs) (list_any (λ q. q == p) ys) (sym (list_any-append (λ q. q == p) xs ys) ∙ out)

-- What a decision changes is the rows of the patrons whose rows it puts, and what its readers see.
pub decided-others : (H : History) (o : Owner) (k : List ℕ) (c : Command) (d : Decision) → IsDecision H c d → refusal H o c ≡ refusal H Desk c
    → (readers : List ℕ) → AreExactly (IsReaderFor H c) readers → (touched : List ℕ) → touched ≡ readers ++ patrons_put d.changes
    → KeepsOthers touched H (added H (event o k c))
decided-others H o k c d is same readers are touched put_by =
    subst (λ (qs : List ℕ). KeepsOthers qs H (added H (event o k c))) (sym put_by)
    (others-as (readers ++ patrons_put d.changes) H (added H (event o k c)) (event o k c ∷ H) (added-none H o k c (same ∙ is.unrefused))
    (λ p out. let parts = out-of-both readers (patrons_put d.changes) p out in (
      rows-keep (picture H) (changed d.changes (picture H)) (picture (event o k c ∷ H)) p (changes-keep d.changes (picture H) p parts.1) (is.rows o k),
      titles-keep H o k c readers p are parts.0,
    )))

-- ---- pages

module _ (patron : ℕ) where
  shown_by : Option PatronFacts → List ℕ → Option OwnPage
  shown_by row text =
      option_map
      (λ r. record {
        card_key = r.card_key;
        reply = elim (first_failing ((UnknownPatron, not (is_some row)) ∷ [])) as (λ _. Reply) [ Some refused ↦ Refused refused | None ↦ Shown text ];
      })
      row

  own_page-same : (H K : History) → AgreesOn H K patron → own_page H patron ≡ own_page K patron
  unfolding shown_by
  own_page-same H K agrees = ap (λ (o : Option PatronFacts). shown_by o (page H patron)) agrees.patron
      ∙ ap (shown_by (patron_of K patron)) (page-same H K patron agrees)

-- The page of a patron whom a request doesn't touch is what it was.
pub page-kept : (H : History) (r : Request) (touched : List ℕ) → IsLegal H → KeepsOthers touched H (after_one H r)
    → (p : ℕ) → list_any (λ q. q == p) touched ≡ false → own_page (after_one H r) p ≡ own_page H p
page-kept H r touched legal others p out = go (adds H r) (after_one-legal H r legal) (others p out)
  where
    go : (b : Bool) → IsLegal (elim b as (λ _. History) [ true ↦ event_of r ∷ H | false ↦ H ])
        → KeepsOwnRows (picture H) (picture (elim b as (λ _. History) [ true ↦ event_of r ∷ H | false ↦ H ])) p
        × KeepsOwnTitles (picture H) (picture (elim b as (λ _. History) [ true ↦ event_of r ∷ H | false ↦ H ])) p
        → own_page (elim b as (λ _. History) [ true ↦ event_of r ∷ H | false ↦ H ]) p ≡ own_page H p
    go true later keeps = sym (own_page-same p H (event_of r ∷ H) (kept-agree (event_of r) H p later keeps.0 keeps.1))
    go false later keeps = refl
