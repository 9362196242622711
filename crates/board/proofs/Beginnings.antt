-- Lists that begin with others.
use Rattle.std.proofs.Common.{◌≡◌, ◌≤◌, ◌⊎◌, inl, inr, ℕ, List, [], ◌∷◌, ◌++◌, length, map, fold, Option, None, Some, sym, refl, ap, ◌∙◌}
use Rattle.std.proofs.Common.{append_assoc, arith, length-append}
use Rattle.std.proofs.lemmas.List.{append-nil, map-append}
use mathlib.Core.List.{IsPrefix}
use Rattle.desk.specs.declared.showing.OwnPage.{OwnPage}
use Rattle.board.specs.declared.entry.Entry.{Entry}
use Rattle.board.specs.declared.entry.Frame.{Frame}
use Rattle.board.specs.declared.entry.Seen.{Seen}
use Rattle.board.specs.Showing.{StartsWith, GoesOn, entry_before, entries_of, seen_of}

pub fold-append : {A B : Type 0} (f : B → A → B) (b : B) (xs ys : List A) → fold f b (xs ++ ys) ≡ fold f (fold f b xs) ys
fold-append f b [] ys = refl
fold-append f b (x ∷ xs) ys = fold-append f (f b x) xs ys

pub starts_more : {A : Type 0} (all seen more : List A) → StartsWith all seen → StartsWith (all ++ more) seen
starts_more all seen more s = (s.0 ++ more, ap (λ l. l ++ more) s.1 ∙ append_assoc seen s.0 more)

pub starts_self : {A : Type 0} (all : List A) → StartsWith all all
starts_self all = ([], sym (append-nil all))

pub starts_on : {A : Type 0} (a b c : List A) → StartsWith a b → StartsWith b c → StartsWith a c
starts_on a b c p q = (q.0 ++ p.0, p.1 ∙ (ap (λ l. l ++ p.0) q.1 ∙ append_assoc c q.0 p.0))

nil_of_length : {A : Type 0} (xs : List A) → length xs ≡ 0 → xs ≡ []
nil_of_length [] h = refl
nil_of_length (x ∷ xs) h = absurd (omega arith)

-- A beginning as long as the list is the list.
pub whole : {A : Type 0} (all seen : List A) → StartsWith all seen → length seen ≡ length all → all ≡ seen
whole all seen s e =
    let none : s.0 ≡ [] = nil_of_length s.0 (omega (arith, ap length s.1, length-append seen s.0)) in
    s.1 ∙ (ap (λ r. seen ++ r) none ∙ append-nil seen)

-- A beginning is no longer than the list.
pub starts_short : {A : Type 0} (all seen : List A) → StartsWith all seen → length seen ≤ length all
starts_short all seen s = omega (arith, ap length s.1, length-append seen s.0)

-- A beginning of a list and one more is that whole, or a beginning of the list.
pub starts_less : {A : Type 0} (all seen : List A) (x : A) → StartsWith (all ++ x ∷ []) seen → (seen ≡ all ++ x ∷ []) ⊎ StartsWith all seen
starts_less [] [] x s = inr ([], refl)
starts_less [] (y ∷ seen) x s = inl (one s.1)
  where
    one : x ∷ [] ≡ y ∷ (seen ++ s.0) → y ∷ seen ≡ x ∷ []
    one e =
        let none : seen ++ s.0 ≡ [] = cc in
        let same : y ≡ x = cc in
        let empty : seen ≡ [] = nil_of_length seen (omega (arith, ap length none, length-append seen s.0)) in
        ap (λ l. y ∷ l) empty ∙ ap (λ z. z ∷ []) same
starts_less (z ∷ all) [] x s = inr (z ∷ all, refl)
starts_less (z ∷ all) (y ∷ seen) x s = by (starts_less all seen x (s.0, tail s.1))
  where
    tail : z ∷ (all ++ x ∷ []) ≡ y ∷ (seen ++ s.0) → all ++ x ∷ [] ≡ seen ++ s.0
    tail e = cc

    head : z ∷ (all ++ x ∷ []) ≡ y ∷ (seen ++ s.0) → z ≡ y
    head e = cc

    by : (seen ≡ all ++ x ∷ []) ⊎ StartsWith all seen → (y ∷ seen ≡ z ∷ (all ++ x ∷ [])) ⊎ StartsWith (z ∷ all) (y ∷ seen)
    by (inl e) = inl (ap (λ l. y ∷ l) e ∙ ap (λ h. h ∷ (all ++ x ∷ [])) (sym (head s.1)))
    by (inr t) = inr (t.0, ap (λ h. h ∷ all) (head s.1) ∙ ap (λ l. y ∷ l) t.1)

-- ---- what is seen

pub goes_self : (v : Seen) → GoesOn v v
goes_self v = (starts_self v.entries, starts_self v.pages)

pub goes_on : (a b c : Seen) → GoesOn a b → GoesOn b c → GoesOn a c
goes_on a b c p q = (starts_on a.entries b.entries c.entries p.0 q.0, starts_on a.pages b.pages c.pages p.1 q.1)

-- ---- frames

pub entries-append : (fs gs : List Frame) → entries_of (fs ++ gs) ≡ entries_of fs ++ entries_of gs
entries-append [] gs = refl
entries-append (f ∷ fs) gs = by f.entry (entries-append fs gs)
  where
    by : (o : Option Entry) → entries_of (fs ++ gs) ≡ entries_of fs ++ entries_of gs
        → entry_before o (entries_of (fs ++ gs)) ≡ entry_before o (entries_of fs) ++ entries_of gs
    by None is = is
    by (Some e) is = ap (λ l. e ∷ l) is

-- What more frames have shown goes on from what they begin with.
pub frames_on : (fs gs : List Frame) → IsPrefix fs gs → GoesOn (seen_of gs) (seen_of fs)
frames_on fs gs p =
    let table : Frame → List (ℕ × OwnPage) = λ f. f.pages in (
      (entries_of p.0, ap entries_of (sym p.1) ∙ entries-append fs p.0),
      (map table p.0, ap (map table) (sym p.1) ∙ map-append table fs p.0),
    )
