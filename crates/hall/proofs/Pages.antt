-- Pages looked up for patrons, in order.
use Rattle.std.proofs.Common.{◌≡◌, ℕ, ◌+◌, ◌<◌, ◌≤◌, ◌==◌, Bool, true, false, ◌||◌, cond, List, [], ◌∷◌, ◌++◌, length, take, get_or, inl}
use Rattle.std.proofs.Common.{inr, refl, sym, ◌∙◌, ap, subst, option_map}
use Rattle.std.specs.Prelude.{Option, Some, None, is_some, Result, Ok, Err, IsErr, IsErrAnd, MatchResult}
use Rattle.store.specs.Library.{Ghosts, Held, state}
use Rattle.std.specs.Option.{option_or}
use Rattle.std.specs.List.{list_any}
use Rattle.std.proofs.lemmas.Bool.{eqb-true}
use Rattle.std.proofs.lemmas.List.{take_more, take_all}
use Rattle.std.proofs.lemmas.List.Folds.{list_any-append}
use Rattle.terms.specs.declared.command.Command.{Command}
use Rattle.terms.specs.declared.command.Command.TheVariants.{Patron, SetCardKey, AmendPatron}
use Rattle.terms.specs.declared.command.Request.{Request}
use Rattle.terms.specs.declared.fault.Fault.{Fault}
use Rattle.terms.specs.declared.fault.Fault.TheVariants.{Memory}
use Rattle.model.specs.History.{History, PatronFacts, patron_of, patron_after}
use Rattle.model.specs.Requests.{adds, after_one, event_of}
use Rattle.model.proofs.Amending.{amended-none}
use Rattle.desk.specs.Answering.{Learns, Shows}
use Rattle.desk.specs.Showing.{own_page, AreEnrolled}
use Rattle.desk.specs.declared.showing.OwnPage.{OwnPage}
use Rattle.desk.proofs.Looking.{◌⨾◌, gives, fails}
use Rattle.logbook.specs.Pages.{Book}
use Rattle.board.specs.Rule.{Publishing, opening}
use Rattle.board.specs.Showing.{Showing, page_at, overlaid, first_seen, IsTold}
use Rattle.board.proofs.Telling.{told-first}
use Rattle.hall.specs.Handling.{PutsPages}
use Rattle.hall.specs.Openings.{AreFirstPages, LooksOnly, MeetsFaultOf, OpensBoard, OpensWith}

-- ---- patrons among others

among-last : (p q : ℕ) (ps : List ℕ) (b : Bool) → (q == p) ≡ b → list_any (λ r. r == p) (ps ++ q ∷ []) ≡ (list_any (λ r. r == p) ps || b)
among-last p q ps true e = list_any-append (λ r. r == p) ps (q ∷ []) ∙ ap (λ c. list_any (λ r. r == p) ps || (c || false)) e
among-last p q ps false e = list_any-append (λ r. r == p) ps (q ∷ []) ∙ ap (λ c. list_any (λ r. r == p) ps || (c || false)) e

or-true : (b : Bool) → (b || true) ≡ true
or-true true = refl
or-true false = refl

or-false : (b : Bool) → (b || false) ≡ b
or-false true = refl
or-false false = refl

-- The elements up to the next one.
pub taken-more : (xs : List ℕ) (i x : ℕ) → i < length xs → x ≡ get_or xs i x → take (i + 1) xs ≡ take i xs ++ x ∷ []
taken-more xs i x within is = take_more xs i x within ∙ ap (λ y. take i xs ++ y ∷ []) (sym is)

-- ---- the pages that are to be shown next

overlaid-more : (ps : List (ℕ × OwnPage)) (q p : ℕ) (page : OwnPage) (before : Option OwnPage)
    → overlaid (ps ++ (q, page) ∷ []) p before ≡ cond (q == p) (Some page) (overlaid ps p before)
overlaid-more [] q p page before = refl
overlaid-more (x ∷ ps) q p page before = overlaid-more ps q p page (cond (x.0 == p) (Some x.1) before)

pub puts-nothing : (H : History) (before : List (ℕ × OwnPage)) → PutsPages [] before before H
puts-nothing H before p page none other = other refl

pub puts-page : (H : History) (ps : List ℕ) (q : ℕ) (before now : List (ℕ × OwnPage)) (page : OwnPage) → PutsPages ps before now H → Some page ≡ own_page H q
    → PutsPages (ps ++ q ∷ []) before (now ++ (q, page) ∷ []) H
puts-page H ps q before now page h is p last none other = overlaid-more now q p page last ∙ by (q == p) refl
  where
    by : (b : Bool) → (q == p) ≡ b → cond b (Some page) (overlaid now p last) ≡ own_page H p
    by true e = is ∙ ap (own_page H) (eqb-true q p e)
    by false e = h p last none (λ out. other (among-last p q ps false e ∙ ap (λ c. c || false) out))

pub puts-none : (H : History) (ps : List ℕ) (q : ℕ) (before now : List (ℕ × OwnPage)) → PutsPages ps before now H → None ≡ own_page H q
    → PutsPages (ps ++ q ∷ []) before now H
puts-none H ps q before now h is p last none other = by (q == p) refl
  where
    by : (b : Bool) → (q == p) ≡ b → overlaid now p last ≡ own_page H p
    by true e =
        let here : own_page H p ≡ None = ap (own_page H) (sym (eqb-true q p e)) ∙ sym is in
        h p last none (λ out. none here ∙ sym here)
    by false e = h p last none (λ out. other (among-last p q ps false e ∙ ap (λ c. c || false) out))

-- ---- the pages that are shown first

pub first-none : (H : History) → AreFirstPages [] H []
first-none H p = refl

pub first-page : (H : History) (ps : List ℕ) (q : ℕ) (now next : List (ℕ × OwnPage)) (page : OwnPage) → AreFirstPages ps H now → Some page ≡ own_page H q
    → ((p : ℕ) → page_at next p ≡ cond (q == p) (Some page) (page_at now p)) → AreFirstPages (ps ++ q ∷ []) H next
first-page H ps q now next page h is put p = put p ∙ by (q == p) refl
  where
    by : (b : Bool) → (q == p) ≡ b → cond b (Some page) (page_at now p) ≡ cond (list_any (λ r. r == p) (ps ++ q ∷ [])) (own_page H p) None
    by true e = is ∙ (ap (own_page H) (eqb-true q p e)
        ∙ sym (ap (λ c. cond c (own_page H p) None) (among-last p q ps true e ∙ or-true (list_any (λ r. r == p) ps))))
    by false e = h p ∙ sym (ap (λ c. cond c (own_page H p) None) (among-last p q ps false e ∙ or-false (list_any (λ r. r == p) ps)))

none-both : {A : Type 0} (c : Bool) (o : Option A) → o ≡ None → cond c o None ≡ None
none-both true o e = e
none-both false o e = refl

pub first-nowhere : (H : History) (ps : List ℕ) (q : ℕ) (now : List (ℕ × OwnPage)) → AreFirstPages ps H now → None ≡ own_page H q
    → AreFirstPages (ps ++ q ∷ []) H now
first-nowhere H ps q now h is p = by (q == p) refl
  where
    by : (b : Bool) → (q == p) ≡ b → page_at now p ≡ cond (list_any (λ r. r == p) (ps ++ q ∷ [])) (own_page H p) None
    by true e =
        let here : own_page H p ≡ None = ap (own_page H) (sym (eqb-true q p e)) ∙ sym is in
        h p ∙ (none-both (list_any (λ r. r == p) ps) (own_page H p) here ∙ sym (none-both (list_any (λ r. r == p) (ps ++ q ∷ [])) (own_page H p) here))
    by false e = h p ∙ sym (ap (λ c. cond c (own_page H p) None) (among-last p q ps false e ∙ or-false (list_any (λ r. r == p) ps)))

no-map : {A B : Type 0} (f : A → B) (o : Option A) → is_some o ≡ false → None ≡ option_map f o
no-map f None e = refl
no-map f (Some x) e = let never : ⊥ = cc in absurd never

pub first-whole : (H : History) (ps : List ℕ) (now : List (ℕ × OwnPage)) → AreEnrolled H ps → AreFirstPages ps H now → (p : ℕ) → page_at now p ≡ own_page H p
first-whole H ps now are h p = h p ∙ by (list_any (λ r. r == p) ps) refl
  where
    by : (b : Bool) → list_any (λ r. r == p) ps ≡ b → cond b (own_page H p) None ≡ own_page H p
    by true e = refl
    by false e = no-map _ (patron_of H p) (sym (are.each p) ∙ e)

-- ---- who is enrolled stays so

none-or : {A : Type 0} (a b : Option A) → option_or a b ≡ None → a ≡ None
none-or (Some x) b e = let never : ⊥ = cc in absurd never
none-or None b e = refl

stays-enrolled : (x : Command) (p : ℕ) (o : Option PatronFacts) → patron_after x p o ≡ None → o ≡ None
stays-enrolled (Patron n k card_key name) p o e = none-or o _ e
stays-enrolled (SetCardKey n card_key) p o e = amended-none (n == p) _ o e
stays-enrolled (AmendPatron n k name) p o e = amended-none (n == p) _ o e
stays-enrolled _ p o e = e

map-none : {A B : Type 0} (f : A → B) (o : Option A) → option_map f o ≡ None → o ≡ None
map-none f None e = refl
map-none f (Some x) e = let never : ⊥ = cc in absurd never

-- Who has no page after a request had none before it.
pub no-page-before : (K : History) (r : Request) (p : ℕ) → own_page (after_one K r) p ≡ None → own_page K p ≡ None
no-page-before K r p e = ap (option_map _) (by (adds K r) (map-none _ (patron_of (after_one K r) p) e))
  where
    by : (b : Bool) → patron_of (elim b as (λ _. History) [ true ↦ event_of r ∷ K | false ↦ K ]) p ≡ None → patron_of K p ≡ None
    by true h = stays-enrolled r.command p (patron_of K p) h
    by false h = h

-- ---- one look after another

module _ {S : Type 0} (g : Ghosts S) (a b c : Held S) (xs : List ℕ) (i q : ℕ) (more : take (i + 1) xs ≡ take i xs ++ q ∷ [])
    (o : Option OwnPage) (look : Learns (λ H found. found ≡ own_page H q) g b c (Ok o)) where
  module _ (before now next : List (ℕ × OwnPage)) (first : Learns {A = Unit {0}} (λ H _. PutsPages (take i xs) before now H) g a b (Ok tt)) where
    pub put-page : (page : OwnPage) → o ≡ Some page → next ≡ now ++ (q, page) ∷ []
        → Learns {A = Unit {0}} (λ H _. PutsPages (take (i + 1) xs) before next H) g a c (Ok tt)
    put-page page is e = gives (first ⨾ look) (λ _ _ _. (tt, λ _. tt)) (λ H legal _ met.
        subst (λ (l : List ℕ). PutsPages l before next H) (sym more)
        (subst (λ (n : List (ℕ × OwnPage)). PutsPages (take i xs ++ q ∷ []) before n H) (sym e)
        (puts-page H (take i xs) q before now page met.0 (sym is ∙ met.1))))

    pub put-none : o ≡ None → next ≡ now → Learns {A = Unit {0}} (λ H _. PutsPages (take (i + 1) xs) before next H) g a c (Ok tt)
    put-none is e = gives (first ⨾ look) (λ _ _ _. (tt, λ _. tt)) (λ H legal _ met.
        subst (λ (l : List ℕ). PutsPages l before next H) (sym more)
        (subst (λ (n : List (ℕ × OwnPage)). PutsPages (take i xs ++ q ∷ []) before n H) (sym e) (puts-none H (take i xs) q before now met.0 (sym is ∙ met.1))))

  module _ (now next : List (ℕ × OwnPage)) (first : Learns {A = Unit {0}} (λ H _. AreFirstPages (take i xs) H now) g a b (Ok tt)) where
    pub first-put : (page : OwnPage) → o ≡ Some page → ((p : ℕ) → page_at next p ≡ cond (q == p) (Some page) (page_at now p))
        → Learns {A = Unit {0}} (λ H _. AreFirstPages (take (i + 1) xs) H next) g a c (Ok tt)
    first-put page is put = gives (first ⨾ look) (λ _ _ _. (tt, λ _. tt)) (λ H legal _ met.
        subst (λ (l : List ℕ). AreFirstPages l H next) (sym more) (first-page H (take i xs) q now next page met.0 (sym is ∙ met.1) put))

    pub first-passed : o ≡ None → next ≡ now → Learns {A = Unit {0}} (λ H _. AreFirstPages (take (i + 1) xs) H next) g a c (Ok tt)
    first-passed is e = gives (first ⨾ look) (λ _ _ _. (tt, λ _. tt)) (λ H legal _ met.
        subst (λ (l : List ℕ). AreFirstPages l H next) (sym more)
        (subst (λ (n : List (ℕ × OwnPage)). AreFirstPages (take i xs ++ q ∷ []) H n) (sym e)
        (first-nowhere H (take i xs) q now met.0 (sym is ∙ met.1))))

-- the pages once all are put
pub first-all : {S : Type 0} (g : Ghosts S) (a b : Held S) (xs : List ℕ) (i : ℕ) (now : List (ℕ × OwnPage)) → length xs ≤ i
    → Learns {A = Unit {0}} (λ H _. AreFirstPages (take i xs) H now) g a b (Ok tt)
    → Learns (AreFirstPages xs) g a b (Ok now)
first-all g a b xs i now long first = gives first (λ _ _ _. tt) (λ H legal _ met. subst (λ (l : List ℕ). AreFirstPages l H now) (take_all i xs long) met)

-- the board that shows them
pub opens-board : {S : Type 0} (g : Ghosts S) (a b : Held S) (book : Book) (first : List (ℕ × OwnPage)) (p : Publishing)
    → p.shown ≡ first_seen first → p.pages ≡ [] → p.board ≡ opening book first
    → Learns (λ H pages. (q : ℕ) → page_at pages q ≡ own_page H q) g a b (Ok first) → OpensBoard g a b p
opens-board g a b book first p shown none is learnt =
    let same : p.board.pages ≡ first = ap (λ (x : Showing). x.pages) is in
    record {
      none = (shown ∙ ap first_seen (sym same), none);
      alone = is ∙ ap (λ (x : Showing). opening x.frames.book x.pages) (sym is);
      pages = subst (λ (l : List (ℕ × OwnPage)). Learns (λ H pages. (q : ℕ) → page_at pages q ≡ own_page H q) g a b (Ok l)) (sym same) learnt;
    }

-- what it shows is what each list makes it that the tables show
pub opens-with : {S : Type 0} (lists : History → Type 0) (g : Ghosts S) (a b : Held S) (p : Publishing)
    → ((H : History) → lists H → Shows (state g a) H) → LooksOnly g a b (Ok tt) → OpensBoard g a b p
    → OpensWith lists g b p.shown
opens-with lists g a b p tables looks opens = record {
  tables = λ disk H first. looks.looks.stays disk H (tables H first);
  told = λ disk H first. subst (IsTold H) (sym opens.none.0) (told-first H p.board.pages (opens.pages.shown disk H (tables H first) tt));
}

-- ---- looks that end in a fault

module _ {S A : Type 0} {Is : History → A → Type 0} (g : Ghosts S) (a b : Held S) where
  -- the fault is that of the look
  pub meets-fault : {T : Type 0} (P : T → Type 0) (fault : Fault) (r : Result T Fault) → IsErr r × IsErrAnd r (λ e. e ≡ fault)
      → Learns Is g a b (Err fault) → MatchResult r P (MeetsFaultOf g a b)
  meets-fault P fault (Ok x) is look = let never : ⊥ = cc (is.0) in absurd never
  meets-fault P fault (Err e) is look = record { looked = Err e; looks = fails {B = Unit {0}} (Err e) is look (λ _ _ _. tt); cause = inl refl }

  -- no memory was left after it
  pub meets-want : {T : Type 0} (P : T → Type 0) (x : A) (r : Result T Fault) → IsErr r × IsErrAnd r (λ e. e ≡ Memory)
      → Learns Is g a b (Ok x) → MatchResult r P (MeetsFaultOf g a b)
  meets-want P x (Ok y) is look = let never : ⊥ = cc (is.0) in absurd never
  meets-want P x (Err e) is look = record { looked = Ok tt; looks = gives look (λ _ _ _. tt) (λ _ _ _ _. tt); cause = inr is.1 }
