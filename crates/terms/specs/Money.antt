-- Amounts of money.
use Rattle.std.specs.Prelude.{ℕ, ◌*◌, min, nat_le, true, false}

-- the fine for this many open days late: none within the grace days, otherwise the rate for each day, up to
-- the cap
abbrev pub fine_for : ℕ → ℕ → ℕ → ℕ → ℕ
fine_for days rate cap grace = elim (nat_le days grace) [ true ↦ 0 | false ↦ min (days * rate) cap ]
