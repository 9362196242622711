-- Counters of a span's numbers.
use Rattle.std.proofs.Common.{◌≡◌, ℕ, ◌+◌, ◌<◌, ◌≤◌, Bool, true, false, cond, List, length, get_or, take, replicate, Option, None, refl, sym, ◌∙◌, ap, arith}
use Rattle.std.proofs.lemmas.Bool.{ltb-false}
use Rattle.std.specs.Prelude.{nat_lt, count_by}
use Rattle.std.proofs.lemmas.List.Sums.{sum_by_more}
use Rattle.circ_audit.specs.declared.counters.SpanCounters.{SpanCounters}
use Rattle.circ_audit.proofs.Adding.{zero-at}
use Rattle.circ_audit.specs.Rows.{names}
use Rattle.circ_audit.specs.Spans.{place_of, capped, ShowsCounts, CountsMore}

-- The same counts in other words.
pub shows-same : (w : SpanCounters) (f g : ℕ → ℕ) → ((n : ℕ) → f n ≡ g n) → ShowsCounts w f → ShowsCounts w g
shows-same w f g same shows = record {
  here = λ n on. shows.here n on ∙ ap capped (same n);
  ahead = shows.ahead;
  between = λ n later below. sym (same n) ∙ shows.between n later below;
}

-- A count is at most one exactly if its counter is.
pub capped-low : (n : ℕ) → capped n ≤ 1 → n ≤ 1
capped-low n low = go (nat_lt n 2) refl low
  where
    go : (b : Bool) → nat_lt n 2 ≡ b → cond b n 2 ≤ 1 → n ≤ 1
    go true e h = h
    go false e h = absurd (omega (arith, h))

pub capped-high : (n : ℕ) → 1 < capped n → 1 < n
capped-high n high = go (nat_lt n 2) refl high
  where
    go : (b : Bool) → nat_lt n 2 ≡ b → 1 < cond b n 2 → 1 < n
    go true e h = h
    go false e h = let le : 2 ≤ n = ltb-false n 2 e in omega (arith, le)

-- Counted, and then counted on.
pub counts-both : (f g : ℕ → ℕ) (old mid new : SpanCounters) → CountsMore f old mid → CountsMore g mid new → CountsMore (λ n. f n + g n) old new
counts-both f g old mid new first then = record {
  span = then.span ∙ first.span;
  shows = λ times shows. shows-same new (λ n. (times n + f n) + g n) (λ n. times n + (f n + g n)) (λ n. omega arith)
      (then.shows (λ n. times n + f n) (first.shows times shows));
}

pub counts-same : (f g : ℕ → ℕ) (old new : SpanCounters) → ((n : ℕ) → f n ≡ g n) → CountsMore f old new → CountsMore g old new
counts-same f g old new same counts = record {
  span = counts.span;
  shows = λ times shows. shows-same new (λ n. times n + f n) (λ n. times n + g n) (λ n. ap (λ m. times n + m) (same n)) (counts.shows times shows);
}

-- One row more.
pub tally-more : {R : Type 0} (named : R → Option ℕ) (rows : List R) (i : ℕ) (r : R) (old mid new : SpanCounters) → i < length rows → r ≡ get_or rows i r
    → CountsMore (λ n. count_by (λ q. names (named q) n) (take i rows)) old mid
    → CountsMore (λ n. cond (names (named r) n) 1 0) mid new
    → CountsMore (λ n. count_by (λ q. names (named q) n) (take (i + 1) rows)) old new
tally-more named rows i r old mid new lt is before one =
    counts-same (λ n. count_by (λ q. names (named q) n) (take i rows) + cond (names (named r) n) 1 0)
    (λ n. count_by (λ q. names (named q) n) (take (i + 1) rows)) old new
    (λ n. sym (sum_by_more (λ q. cond (names (named q) n) 1 0) rows i r lt
    ∙ ap (λ (q : _). count_by (λ q. names (named q) n) (take i rows) + cond (names (named q) n) 1 0) (sym is)))
    (counts-both _ _ old mid new before one)

-- Nothing was counted. The size is any, so that no list of that length is made.
pub nothing-counted : (size span : ℕ) → ShowsCounts (record { span = span; counters = replicate size 0; next = None }) (λ n. 0)
nothing-counted size span = record {
  here = λ n on. zero-at size (place_of n);
  ahead = tt;
  between = λ n later below. refl;
}
