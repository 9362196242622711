-- What a list of accepted requests makes of the board's content.
use Rattle.std.proofs.Common.{◌≡◌, ◌⊎◌, inl, inr, ℕ, ◌+◌, List, [], ◌∷◌, ◌++◌, length, sym, ap, ◌∙◌, subst, arith, length-append}
use Rattle.std.specs.Prelude.{Ok}
use Rattle.model.specs.History.{History}
use Rattle.model.specs.Requests.{after, reply_to}
use Rattle.desk.specs.Showing.{own_page}
use Rattle.desk.specs.declared.showing.OwnPage.{OwnPage}
use Rattle.board.specs.declared.entry.Entry.{Entry}
use Rattle.board.specs.declared.entry.Seen.{Seen}
use Rattle.board.specs.Showing.{StartsWith, EachIs, HasLooked, ShowsMore, IsGivenAfter, IsTold, page_at, page_of, last_pages, first_seen, overlaid, requests}
use Rattle.board.proofs.Beginnings.{starts_less, starts_short, goes_self}
use Rattle.board.proofs.Keeping.{each-append, each_at, last-more}

-- pages alone
pub told-first : (H : History) (pages : List (ℕ × OwnPage)) → ((patron : ℕ) → page_at pages patron ≡ own_page H patron) → IsTold H (first_seen pages)
told-first H pages is = record { replies = tt; pages = λ seen more looked patron. by seen.entries seen.pages more.0 more.1 looked patron }
  where
    by : (entries : List Entry) (all : List (List (ℕ × OwnPage))) → StartsWith [] entries → StartsWith (pages ∷ []) all → length all ≡ length entries + 1
        → (patron : ℕ) → page_at (last_pages all) patron ≡ own_page (after H (requests entries)) patron
    by (e ∷ es) all a b looked patron = let short = starts_short [] (e ∷ es) a in absurd (omega (arith, short))
    by [] [] a b looked patron = absurd (omega (arith, looked))
    by [] (q ∷ r ∷ rs) a b looked patron = absurd (omega (arith, looked))
    by [] (q ∷ []) a b looked patron = let same : pages ≡ q = head b.1 in ap (λ l. page_at l patron) (sym same) ∙ is patron
      where
        head : {xs : List (List (ℕ × OwnPage))} → pages ∷ [] ≡ q ∷ xs → pages ≡ q
        head e = cc

-- one entry more
pub told-more : (H : History) (old new : Seen) (put : List (ℕ × OwnPage)) (e : Entry) → IsTold H old → ShowsMore old put e new → IsGivenAfter H old.entries e
    → ((patron : ℕ) → overlaid put patron (own_page (after H (requests old.entries)) patron) ≡ own_page
    (after H (requests (old.entries ++ e ∷ []))) patron) → IsTold H new
told-more H old new put e told more reply pages = record {
  replies = subst (λ l. EachIs (IsGivenAfter H) [] l) (sym more.entries) (each-append (IsGivenAfter H) [] old.entries e told.replies reply);
  pages = λ seen on looked patron. by seen
      (starts_less old.entries seen.entries e (subst (λ l. StartsWith l seen.entries) more.entries on.0))
      (starts_less old.pages seen.pages more.now (subst (λ l. StartsWith l seen.pages) more.pages on.1)) looked patron;
}
  where
    by : (seen : Seen) → (seen.entries ≡ old.entries ++ e ∷ []) ⊎ StartsWith old.entries seen.entries
        → (seen.pages ≡ old.pages ++ more.now ∷ []) ⊎ StartsWith old.pages seen.pages → HasLooked seen
        → (patron : ℕ) → page_of seen patron ≡ own_page (after H (requests seen.entries)) patron
    by seen (inl a) (inl b) looked patron =
        ap (λ l. page_at (last_pages l) patron) b ∙ (ap (λ l. page_at l patron) (last-more old.pages more.now)
        ∙ (more.each patron ∙ (ap (overlaid put patron) (told.pages old (goes_self old) more.looked patron)
        ∙ (pages patron ∙ ap (λ l. own_page (after H (requests l)) patron) (sym a)))))
    by seen (inr a) (inr b) looked patron = told.pages seen (a, b) looked patron
    by seen (inl a) (inr b) looked patron =
        let short = starts_short old.pages seen.pages b in
        let long = ap length a ∙ length-append old.entries (e ∷ []) in
        absurd (omega (arith, short, long, looked, more.looked))
    by seen (inr a) (inl b) looked patron =
        let short = starts_short old.entries seen.entries a in
        let long = ap length b ∙ length-append old.pages (more.now ∷ []) in
        absurd (omega (arith, short, long, looked, more.looked))

-- an entry that was seen
pub told-answer : (H : History) (all : Seen) (front : List Entry) (e : Entry) (rest : List Entry) → IsTold H all → all.entries ≡ front ++ e
    ∷ rest → e.answer ≡ Ok (reply_to (after H (requests front)) e.request)
told-answer H all front e rest told is = each_at (IsGivenAfter H) [] front e rest (subst (λ l. EachIs (IsGivenAfter H) [] l) is told.replies)
