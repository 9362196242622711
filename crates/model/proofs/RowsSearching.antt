-- Worked examples of searches.
use Prim.Native.String.{String}
use lib.Utf8.{encode}
use Rattle.std.specs.Prelude.{◌≡◌, ◌==◌, ◌||◌, ℕ, zero, suc, not, List, [], ◌∷◌, ◌++◌, map, codes, decimal, refl}
use Rattle.std.specs.Fmt.{digits}
use Rattle.std.specs.List.{join_with_byte}
use Rattle.std.specs.Str.{chars, encode_utf8_all}
use Rattle.calendar.specs.Days.{day_text, civil_of}
use Rattle.finding.specs.Finding.{fold, folded, begins_with, occurs_in, words, finds}
use Rattle.terms.specs.declared.command.Command.TheVariants.{Ask}
use Rattle.terms.specs.declared.question.Question.TheVariants.{Today, Borrower, FindPatrons, FindTitles}
use Rattle.terms.specs.Texts.{reply_text, reply_words, routed_words}
use Rattle.model.specs.Asking.{asked, Search, searched}
use Rattle.model.proofs.Rows.{by_patron, desk, Gives, gives, ground}

-- Lines, parted by newlines.
abbrev shown_lines : List String → List ℕ
shown_lines texts = join_with_byte 10 (map codes texts)

patrons_found : map (asked ground) (FindPatrons 0 (codes "bell an") ∷ FindPatrons 0 (encode_utf8_all (codes "ÁNN")) ∷ FindPatrons 1 (codes "ann") ∷ FindPatrons 0 (codes "ann-bell") ∷ [])
    ≡ map shown_lines (("patron 1 owed 0 name Ann Bell" ∷ "end" ∷ []) ∷ ("patron 1 owed 0 name Ann Bell" ∷ "end" ∷ []) ∷ ("end" ∷ []) ∷ ("end" ∷ []) ∷ [])
unfolding digits fold folded begins_with occurs_in words finds chars encode
patrons_found = refl

titles_found : map (asked ground) (FindTitles 0 (codes "th r") ∷ FindTitles 100 (codes "s") ∷ [])
    ≡ map shown_lines (("title 100 Rivers of the North" ∷ "end" ∷ []) ∷ ("title 200 Salt Roads" ∷ "title 300 Night Ferries" ∷ "end" ∷ []) ∷ [])
unfolding digits fold folded begins_with occurs_in words finds chars encode
titles_found = refl

today_and_borrower : Gives ground (desk (Ask Today ∷ Ask (Borrower 9) ∷ [])) ("today 2026-03-02" ∷ "refused 11" ∷ [])
unfolding digits day_text civil_of reply_text reply_words routed_words
today_and_borrower = gives refl

borrower_shown : asked ground (Borrower 1) ≡ shown_lines ("patron 1 owed 0 name Ann Bell" ∷ "kind 1" ∷ [])
unfolding digits
borrower_shown = refl

-- A patron is answered none.
searches_are_the_desks : Gives ground (by_patron 1 (codes "k1") (Ask (FindPatrons 0 (codes "ann"))) ∷ []) ("refused 81" ∷ [])
unfolding digits reply_text reply_words routed_words
searches_are_the_desks = gives refl

-- ---- long searches

-- So many numbers from one on.
abbrev counted : ℕ → ℕ → List ℕ
counted zero n = []
counted (suc k) n = n ∷ counted k (suc n)

-- A search over 102 rows that finds all but the first.
abbrev many : Search
many = record { all = record { head = codes "head" ∷ []; numbers = counted 102 1; row = decimal }; finds = λ n. not (n == 1) }

-- It stops at the hundredth row that it found, and goes on from there.
search_stops_at_a_hundred : map (searched many) (0 ∷ 1 ∷ 2 ∷ 101 ∷ 102 ∷ [])
    ≡ join_with_byte 10 (codes "head" ∷ map decimal (counted 100 2) ++ codes "after 101" ∷ [])
    ∷ join_with_byte 10 (codes "head" ∷ map decimal (counted 100 2) ++ codes "after 101" ∷ [])
    ∷ join_with_byte 10 (codes "head" ∷ map decimal (counted 100 3) ++ codes "end" ∷ [])
    ∷ shown_lines ("head" ∷ "102" ∷ "end" ∷ []) ∷ shown_lines ("head" ∷ "end" ∷ []) ∷ []
unfolding digits
search_stops_at_a_hundred = refl

-- A search over 5,002 rows that finds two of them.
abbrev far : Search
far = record { all = record { head = []; numbers = counted 5002 1; row = decimal }; finds = λ n. (n == 7) || (n == 5001) }

-- It stops at the 5,000th row that it looked at, and says so if one is left, found or not.
search_stops_at_the_5000th : map (searched far) (0 ∷ 1 ∷ 2 ∷ 5000 ∷ [])
    ≡ map shown_lines (("7" ∷ "after 5000" ∷ []) ∷ ("7" ∷ "5001" ∷ "after 5001" ∷ []) ∷ ("7" ∷ "5001" ∷ "end" ∷ []) ∷ ("5001" ∷ "end" ∷ []) ∷ [])
unfolding digits
search_stops_at_the_5000th = refl
