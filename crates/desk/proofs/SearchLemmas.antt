-- A search reported row by row is what is shown of it.
use Rattle.std.proofs.Common.{◌≡◌, ℕ, ◌≤◌, ◌<◌, ◌+◌, ◌-◌, ◌==◌, nat_le, Bool, true, false, cond, ◌||◌, ◌⊎◌, inl, inr, List, [], ◌∷◌, ◌++◌}
use Rattle.std.proofs.Common.{length, map, take, slice_get, append_assoc, append-nil, refl, sym, ◌∙◌, ap, ap₂, subst, arith, string_bytes}
use Rattle.std.specs.Prelude.{Some, option_map, filter, codes, decimal}
use Rattle.std.specs.List.{join_with_byte}
use Rattle.std.proofs.lemmas.Bool.{eqb-true, or_cases}
use Rattle.std.proofs.lemmas.Bool.Decides.{nat_tests}
use Rattle.std.proofs.lemmas.List.{map-append, length-append, take_all, take-append-le}
use Rattle.std.proofs.lemmas.List.Elements.{filter-append}
use Rattle.std.proofs.Math.Seq.{take-append-add}
use Rattle.circ_tables.specs.declared.by_number.TheConstants.{BATCH_ROWS}
use Rattle.terms.specs.declared.limits.TheConstants.{MOST_ROWS, MOST_LOOKED_AT}
use Rattle.model.specs.Asking.{Search, above, last_of, looked_at, found_from, reached_from, unseen_from, stop_line, searched}
use Rattle.model.specs.AskingLaws.{Rises, AreRising, has_number}
use Rattle.model.specs.Pages.{spaced}
use Rattle.model.specs.Reports.{report_lines}
use Rattle.model.proofs.Asking.{rises-above, last-above}
use Rattle.model.proofs.Searching.{above-last, above-above, rises-front}
use Rattle.desk.specs.Listing.{HasBatch}
use Rattle.desk.specs.Searching.{is_full, IsLookedAt, IsNoted, IsTaken, HasSeen, HasSearched, IsSearchedTo, stop_words}
use Rattle.desk.specs.declared.searching.Findings.{Findings}
use Rattle.desk.proofs.Listings.{above-next, join-last, batch-ends, batch-last, batch-reaches}
use Rattle.desk.proofs.Contained.{in-head}
use Rattle.desk.proofs.ReportLines.{report-last}

keep : (b : Bool) (x : ℕ) (xs : List ℕ) → b ≡ true → cond b (x ∷ xs) xs ≡ x ∷ xs
keep true x xs e = refl
keep false x xs e = let never : ⊥ = cc in absurd never

skip : (b : Bool) (x : ℕ) (xs : List ℕ) → b ≡ false → cond b (x ∷ xs) xs ≡ xs
skip false x xs e = refl
skip true x xs e = let never : ⊥ = cc in absurd never

-- ---- one row more

module _ (x : Search) (start front : List ℕ) (after n : ℕ) (old new : Findings) (so_far : HasSeen x start after front old) where
  last-more : (a : ℕ) (xs : List ℕ) → last_of a (xs ++ n ∷ []) ≡ n
  last-more a [] = refl
  last-more a (y ∷ xs) = last-more y xs

  -- there was room
  room : is_full old ≡ false → (length (filter x.finds front) < MOST_ROWS) × (length front < MOST_LOOKED_AT)
  room going =
      let rows = so_far.rows in
      let seen = so_far.looked_at in
      (grind (arith, nat_tests), grind (arith, nat_tests))

  more-found : filter x.finds (front ++ n ∷ []) ≡ filter x.finds front ++ cond (x.finds n) (n ∷ []) []
  more-found = filter-append x.finds front (n ∷ [])

  -- the row is found
  seen-found : is_full old ≡ false → x.finds n ≡ true → IsLookedAt n (x.all.row n) true old new → HasSeen x start after (front ++ n ∷ []) new
  seen-found going found add =
      let fits = room going in
      let now : filter x.finds (front ++ n ∷ []) ≡ filter x.finds front ++ n ∷ [] =
      more-found ∙ ap (λ (zs : List ℕ). filter x.finds front ++ zs) (keep (x.finds n) n [] found) in
      let more : length (filter x.finds front ++ n ∷ []) ≡ length (filter x.finds front) + 1 = length-append (filter x.finds front) (n ∷ []) in
      let longer : length (front ++ n ∷ []) ≡ length front + 1 = length-append front (n ∷ []) in
      let count = ap (λ (zs : List ℕ). length zs) now in
      record {
        text = add.text
            ∙ ap (λ (t : List ℕ). t ++ (x.all.row n ++ 10 ∷ [])) so_far.text
            ∙ append_assoc start (report_lines (map x.all.row (filter x.finds front))) (x.all.row n ++ 10 ∷ [])
            ∙ ap (λ (t : List ℕ). start ++ t) (sym (report-last (map x.all.row (filter x.finds front)) (x.all.row n)))
            ∙ ap (λ (ls : List (List ℕ)). start ++ report_lines ls) (sym (map-append x.all.row (filter x.finds front) (n ∷ [])))
            ∙ ap (λ (ys : List ℕ). start ++ report_lines (map x.all.row ys)) (sym now);
        rows = add.rows ∙ ap (λ (k : ℕ). k + 1) so_far.rows ∙ sym more ∙ sym count;
        looked_at = add.looked_at ∙ ap (λ (k : ℕ). k + 1) so_far.looked_at ∙ sym longer;
        last = add.last ∙ sym (last-more after front);
        few_shown = let room_left : length (filter x.finds front) < MOST_ROWS = fits.0 in omega (arith, count, more, room_left);
        few_seen = let room_left : length front < MOST_LOOKED_AT = fits.1 in omega (arith, longer, room_left);
        end = λ _. ap (last_of after) now ∙ last-more after (filter x.finds front) ∙ sym (last-more after front);
      }

  -- it isn't
  seen-other : is_full old ≡ false → x.finds n ≡ false → IsLookedAt n (x.all.row n) false old new → HasSeen x start after (front ++ n ∷ []) new
  seen-other going other add =
      let fits = room going in
      let now : filter x.finds (front ++ n ∷ []) ≡ filter x.finds front =
      more-found ∙ ap (λ (zs : List ℕ). filter x.finds front ++ zs) (skip (x.finds n) n [] other) ∙ append-nil (filter x.finds front) in
      let longer : length (front ++ n ∷ []) ≡ length front + 1 = length-append front (n ∷ []) in
      let count = ap (λ (zs : List ℕ). length zs) now in
      let room_left : length (filter x.finds front) < MOST_ROWS = fits.0 in
      let room_seen : length front < MOST_LOOKED_AT = fits.1 in
      let same_rows = add.rows in
      let had_rows = so_far.rows in
      record {
        text = add.text ∙ so_far.text ∙ ap (λ (ys : List ℕ). start ++ report_lines (map x.all.row ys)) (sym now);
        rows = omega (arith, same_rows, had_rows, count);
        looked_at = add.looked_at ∙ ap (λ (k : ℕ). k + 1) so_far.looked_at ∙ sym longer;
        last = add.last ∙ sym (last-more after front);
        few_shown = omega (arith, count, room_left);
        few_seen = omega (arith, longer, room_seen);
        end = λ all. let never : ⊥ = omega (arith, all, count, room_left) in absurd never;
      }

  seen-more : is_full old ≡ false → IsLookedAt n (x.all.row n) (x.finds n) old new → HasSeen x start after (front ++ n ∷ []) new
  seen-more going add = go (x.finds n) refl add
    where
      go : (b : Bool) → x.finds n ≡ b → IsLookedAt n (x.all.row n) b old new → HasSeen x start after (front ++ n ∷ []) new
      go true e add = seen-found going e add
      go false e add = seen-other going e add

  -- it is only noted that there are more
  seen-same : IsNoted old new → HasSeen x start after front new
  seen-same add = record {
    text = add.text ∙ so_far.text;
    rows = add.rows ∙ so_far.rows;
    looked_at = add.looked_at ∙ so_far.looked_at;
    last = add.last ∙ so_far.last;
    few_shown = so_far.few_shown;
    few_seen = so_far.few_seen;
    end = so_far.end;
  }

full-still : (old new : Findings) → IsNoted old new → is_full new ≡ is_full old
full-still old new add = ap₂ (λ (rows seen : ℕ). nat_le MOST_ROWS rows || nat_le MOST_LOOKED_AT seen) add.rows add.looked_at

-- The next row was taken.
searched-more : (x : Search) (start front : List ℕ) (after n : ℕ) (old new : Findings) → HasSearched x start after front old
    → IsTaken x n old new → HasSearched x start after (front ++ n ∷ []) new
searched-more x start front after n old new (inl going) (inl noted) = inr (record {
  front = front;
  next = n;
  rest = [];
  split = refl;
  is = seen-same x start front after n old new going.is noted.1;
  full = full-still old new noted.1 ∙ noted.0;
  more = noted.1.more;
})
searched-more x start front after n old new (inl going) (inr looked) =
    inl (record { is = seen-more x start front after n old new going.is looked.0 looked.1; more = looked.1.more ∙ going.more })
searched-more x start front after n old new (inr stopped) (inl noted) = inr (record {
  front = stopped.front;
  next = stopped.next;
  rest = stopped.rest ++ n ∷ [];
  split = ap (λ (zs : List ℕ). zs ++ n ∷ []) stopped.split ∙ append_assoc stopped.front (stopped.next ∷ stopped.rest) (n ∷ []);
  is = seen-same x start stopped.front after n old new stopped.is noted.1;
  full = full-still old new noted.1 ∙ noted.0;
  more = noted.1.more;
})
searched-more x start front after n old new (inr stopped) (inr looked) = let never : ⊥ = cc (stopped.full, looked.0) in absurd never

pub row-searched : (x : Search) (after at n : ℕ) (start : List ℕ) (old new : Findings) → AreRising x.all.numbers → at < n
    → ((k : ℕ) → has_number x.all.numbers k → at < k → n ≤ k) → IsTaken x n old new → has_number x.all.numbers n
    → IsSearchedTo x after at start old → IsSearchedTo x after n start new
row-searched x after at n start old new rising less between taken there so_far = record {
  front = so_far.front ++ n ∷ [];
  split = so_far.split ∙ ap (λ (t : List ℕ). so_far.front ++ t) (above-next at n less x.all.numbers rising between true there)
      ∙ sym (append_assoc so_far.front (n ∷ []) (above n x.all.numbers));
  told = searched-more x start so_far.front after n old new so_far.told taken;
}

-- ---- the answer

-- Nothing was looked at yet.
pub none-searched : (x : Search) (after : ℕ) (start : List ℕ) (seen : Findings) → string_bytes seen.text ≡ start → seen.rows ≡ 0 → seen.looked_at ≡ 0
    → seen.last ≡ after → seen.more ≡ false → IsSearchedTo x after after start seen
none-searched x after start seen text rows looked last more = record {
  front = [];
  split = refl;
  told = inl (record {
    is = record {
      text = text ∙ sym (append-nil start);
      rows = rows;
      looked_at = looked;
      last = last;
      few_shown = omega arith;
      few_seen = omega arith;
      end = λ _. refl;
    };
    more = more;
  });
}

-- All was searched once nothing is left, or once the search has stopped.
stopped-on : (x : Search) (start : List ℕ) (after : ℕ) (front rest : List ℕ) (seen : Findings) → seen.more ≡ true → HasSearched x start after front seen
    → HasSearched x start after (front ++ rest) seen
stopped-on x start after front rest seen more (inl going) = let none = going.more in let never : ⊥ = cc in absurd never
stopped-on x start after front rest seen more (inr stopped) = inr (record {
  front = stopped.front;
  next = stopped.next;
  rest = stopped.rest ++ rest;
  split = ap (λ (zs : List ℕ). zs ++ rest) stopped.split ∙ append_assoc stopped.front (stopped.next ∷ stopped.rest) rest;
  is = stopped.is;
  full = stopped.full;
  more = stopped.more;
})

searched-all : (x : Search) (after at : ℕ) (start : List ℕ) (seen : Findings) → (above at x.all.numbers ≡ []) ⊎ (seen.more ≡ true)
    → IsSearchedTo x after at start seen → HasSearched x start after (above after x.all.numbers) seen
searched-all x after at start seen (inl none) so_far =
    let all : above after x.all.numbers ≡ so_far.front = so_far.split ∙ ap (λ (t : List ℕ). so_far.front ++ t) none ∙ append-nil so_far.front in
    subst (λ (ns : List ℕ). HasSearched x start after ns seen) (sym all) so_far.told
searched-all x after at start seen (inr more) so_far =
    subst (λ (ns : List ℕ). HasSearched x start after ns seen) (sym so_far.split) (stopped-on x start after so_far.front (above at x.all.numbers) seen more so_far.told)

pub searched-end : {R : Type 0} (number_of : R → ℕ) (Is : R → Type 0) (x : Search) (after at : ℕ) (start : List ℕ) (seen : Findings) (rows : List R)
    → HasBatch number_of Is x.all at rows → (length rows < BATCH_ROWS) ⊎ (seen.more ≡ true)
    → IsSearchedTo x after (last_of at (map number_of rows)) start seen → HasSearched x start after (above after x.all.numbers) seen
searched-end number_of Is x after at start seen rows batch (inl short) so_far =
    searched-all x after (last_of at (map number_of rows)) start seen (inl (batch-ends number_of Is x.all at rows batch short)) so_far
searched-end number_of Is x after at start seen rows batch (inr more) so_far =
    searched-all x after (last_of at (map number_of rows)) start seen (inr more) so_far

-- After a full batch the next begins at its last number, which is above the one before it.
pub searched-next : {R : Type 0} (number_of : R → ℕ) (Is : R → Type 0) (x : Search) (after at last : ℕ) (start : List ℕ) (seen : Findings) (rows : List R)
    → HasBatch number_of Is x.all at rows → option_map number_of (slice_get rows (length rows - 1)) ≡ Some last
    → IsSearchedTo x after (last_of at (map number_of rows)) start seen → IsSearchedTo x after last start seen × (at < last)
searched-next number_of Is x after at last start seen [] batch end so_far = let never : ⊥ = cc in absurd never
searched-next number_of Is x after at last start seen (r ∷ rows) batch end so_far =
    let same : last_of at (map number_of (r ∷ rows)) ≡ last = batch-last number_of Is x.all at last (r ∷ rows) end in
    let more : at < number_of r = (batch.sound r (in-head r rows)).1 in
    let le : number_of r ≤ last_of at (map number_of (r ∷ rows)) = batch-reaches number_of Is x.all at r rows batch in
    (subst (λ (n : ℕ). IsSearchedTo x after n start seen) same so_far, omega (arith, same, more, le))

-- ---- what is shown

module _ (x : Search) (after : ℕ) (rise : AreRising x.all.numbers) (start front rest : List ℕ) (seen : Findings)
    (whole : above after x.all.numbers ≡ front ++ rest) (is : HasSeen x start after front seen) where
  -- What is looked at are the rows of the front, and others if it isn't the last that may be.
  abbrev others : List ℕ
  others = take (MOST_LOOKED_AT - length front) rest

  looked-is : looked_at x after ≡ front ++ others
  looked-is =
      let few = is.few_seen in
      let bound : MOST_LOOKED_AT ≡ length front + (MOST_LOOKED_AT - length front) = omega (arith, few) in
      ap (take MOST_LOOKED_AT) whole ∙ ap (λ (k : ℕ). take k (front ++ rest)) bound ∙ take-append-add front rest (MOST_LOOKED_AT - length front)

  among : filter x.finds (looked_at x after) ≡ filter x.finds front ++ filter x.finds others
  among = ap (filter x.finds) looked-is ∙ filter-append x.finds front others

  found-is : (others ≡ []) ⊎ (length (filter x.finds front) ≡ MOST_ROWS) → found_from x after ≡ filter x.finds front
  found-is (inl none) =
      let few = is.few_shown in
      ap (take MOST_ROWS) (among ∙ ap (λ (zs : List ℕ). filter x.finds front ++ filter x.finds zs) none ∙ append-nil (filter x.finds front))
      ∙ take_all MOST_ROWS (filter x.finds front) few
  found-is (inr full) =
      ap (take MOST_ROWS) among ∙ take-append-le MOST_ROWS (filter x.finds front) (filter x.finds others) (omega (arith, full))
      ∙ take_all MOST_ROWS (filter x.finds front) (omega (arith, full))

  reached-is : (others ≡ []) ⊎ (length (filter x.finds front) ≡ MOST_ROWS) → reached_from x after ≡ last_of after front
  reached-is ends = go (length (found_from x after) == MOST_ROWS) refl ends
    where
      go : (b : Bool) → (length (found_from x after) == MOST_ROWS) ≡ b → (others ≡ []) ⊎ (length (filter x.finds front) ≡ MOST_ROWS)
          → last_of after (cond b (found_from x after) (looked_at x after)) ≡ last_of after front
      go true e ends =
          let found = found-is ends in
          let all : length (filter x.finds front) ≡ MOST_ROWS = ap (λ (zs : List ℕ). length zs) (sym found) ∙ eqb-true _ _ e in
          ap (last_of after) found ∙ is.end all
      go false e (inl none) = ap (last_of after) (looked-is ∙ ap (λ (zs : List ℕ). front ++ zs) none ∙ append-nil front)
      go false e (inr full) =
          let count : length (found_from x after) ≡ MOST_ROWS = ap (λ (zs : List ℕ). length zs) (found-is (inr full)) ∙ full in
          let never : ⊥ = grind (arith, nat_tests) in absurd never

  unseen-is : (others ≡ []) ⊎ (length (filter x.finds front) ≡ MOST_ROWS) → unseen_from x after ≡ rest
  unseen-is ends =
      let ahead : Rises after (front ++ rest) = subst (Rises after) whole (rises-above after x.all.numbers rise) in
      let le : after ≤ last_of after front = last-above after front (rises-front after front rest ahead) in
      ap (λ (m : ℕ). above m x.all.numbers) (reached-is ends)
      ∙ sym (above-above after (last_of after front) x.all.numbers le)
      ∙ ap (above (last_of after front)) whole
      ∙ above-last after front rest ahead

  shown-is : (others ≡ []) ⊎ (length (filter x.finds front) ≡ MOST_ROWS) → x.all.head ≡ [] → start ≡ []
      → searched x after ≡ string_bytes seen.text ++ stop_line (last_of after front) rest
  shown-is ends bare none =
      ap (λ (ls : List (List ℕ)). join_with_byte 10 (ls ++ map x.all.row (found_from x after) ++ stop_line (reached_from x after) (unseen_from x after) ∷ [])) bare
      ∙ join-last (map x.all.row (found_from x after)) (stop_line (reached_from x after) (unseen_from x after))
      ∙ ap (λ (ys : List ℕ). report_lines (map x.all.row ys) ++ stop_line (reached_from x after) (unseen_from x after)) (found-is ends)
      ∙ ap₂ (λ (m : ℕ) (ys : List ℕ). report_lines (map x.all.row (filter x.finds front)) ++ stop_line m ys) (reached-is ends) (unseen-is ends)
      ∙ ap (λ (t : List ℕ). t ++ stop_line (last_of after front) rest)
      (sym (is.text ∙ ap (λ (t : List ℕ). t ++ report_lines (map x.all.row (filter x.finds front))) none))

full-cases : (x : Search) (start : List ℕ) (after : ℕ) (front rest : List ℕ) (seen : Findings) → HasSeen x start after front seen → is_full seen ≡ true
    → (take (MOST_LOOKED_AT - length front) rest ≡ []) ⊎ (length (filter x.finds front) ≡ MOST_ROWS)
full-cases x start after front rest seen is full = go (or_cases (nat_le MOST_ROWS seen.rows) (nat_le MOST_LOOKED_AT seen.looked_at) full)
  where
    go : (nat_le MOST_ROWS seen.rows ≡ true) ⊎ (nat_le MOST_LOOKED_AT seen.looked_at ≡ true)
        → (take (MOST_LOOKED_AT - length front) rest ≡ []) ⊎ (length (filter x.finds front) ≡ MOST_ROWS)
    go (inl e) =
        let rows = is.rows in
        let few = is.few_shown in
        inr (grind (arith, nat_tests))
    go (inr e) =
        let seen_all = is.looked_at in
        let few = is.few_seen in
        let none : MOST_LOOKED_AT - length front ≡ 0 = grind (arith, nat_tests) in
        inl (ap (λ (k : ℕ). take k rest) none)

take-nil : (k : ℕ) (xs : List ℕ) → xs ≡ [] → take k xs ≡ []
take-nil k xs none = take_all k xs (omega (arith, ap (λ (zs : List ℕ). length zs) none)) ∙ none

-- The rows with their end are what is shown of the search.
pub searched-is : (x : Search) (after : ℕ) (seen : Findings) → AreRising x.all.numbers → HasSearched x [] after (above after x.all.numbers) seen
    → x.all.head ≡ [] → string_bytes seen.text ++ stop_words seen ≡ searched x after
searched-is x after seen rise (inl going) bare =
    let numbers = above after x.all.numbers in
    ap (λ (b : Bool). string_bytes seen.text ++ (elim b [ true ↦ spaced (codes "after" ∷ decimal seen.last ∷ []) | false ↦ codes "end" ])) going.more
    ∙ sym (shown-is x after rise [] numbers [] seen (sym (append-nil numbers)) going.is (inl (take-nil (MOST_LOOKED_AT - length numbers) [] refl)) bare refl)
searched-is x after seen rise (inr stopped) bare =
    let ends = full-cases x [] after stopped.front (stopped.next ∷ stopped.rest) seen stopped.is stopped.full in
    ap (λ (b : Bool). string_bytes seen.text ++ (elim b [ true ↦ spaced (codes "after" ∷ decimal seen.last ∷ []) | false ↦ codes "end" ])) stopped.more
    ∙ ap (λ (m : ℕ). string_bytes seen.text ++ spaced (codes "after" ∷ decimal m ∷ [])) stopped.is.last
    ∙ sym (shown-is x after rise [] stopped.front (stopped.next ∷ stopped.rest) seen stopped.split stopped.is ends bare refl)
