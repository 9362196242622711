-- What a history shows at its end of everything that depends on whose turn it is.
use Rattle.std.specs.Prelude.{ℕ, Bool, List, Option}
use Rattle.terms.specs.declared.row.HoldState.{HoldState}
use Rattle.model.specs.History.{History}
use Rattle.model.specs.Places.{Place, place, state, is_begun, limit, line_by, route_by, kept_for_by, fills_by}
use Rattle.model.specs.Loans.{grace_of}
use Rattle.model.specs.Accounts.{Line, lines, owed_in}

-- The place of each copy; the state, begun first day and shelf limit of each hold; the grace days of each
-- loan; and the lines of all accounts.
pub record Sight : Type 0 where
  pub place : ℕ → Place
  pub state : ℕ → Option HoldState
  pub begun : ℕ → Bool
  pub limit : ℕ → Option ℕ
  pub grace : ℕ → ℕ
  pub lines : List Line

-- What the history shows.
abbrev pub sight : History → Sight
sight H = record { place = place H; state = state H; begun = is_begun H; limit = limit H; grace = grace_of H; lines = lines H }

module _ (H : History) (s : Sight) where
  -- The line of a title.
  abbrev pub line_seen : ℕ → List ℕ
  line_seen t = line_by H s.place s.state s.begun t

  -- The place that routing gives a copy handed in at the branch.
  abbrev pub route_seen : ℕ → ℕ → Place
  route_seen c b = route_by H s.place s.state s.begun c b

  -- The copy on the hold shelf for h.
  abbrev pub kept_for_seen : ℕ → Option ℕ
  kept_for_seen h = kept_for_by H s.place s.state s.begun h

  -- Whether a check-out of the copy by the patron fills the hold h.
  abbrev pub fills_seen : ℕ → ℕ → ℕ → Bool
  fills_seen p c h = fills_by H s.place s.state s.begun p c h

  -- What a patron owes.
  abbrev pub owed_seen : ℕ → ℕ
  owed_seen p = owed_in s.lines p
