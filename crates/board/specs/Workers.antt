-- The numbers of workers.
use Rattle.std.specs.Prelude.{ℕ, Bool, ◌&&◌, nat_le}
use Rattle.hall_schedule.specs.declared.schedule.TheConstants.{WORKERS}

-- The number is a worker's.
abbrev pub is_worker : ℕ → Bool
is_worker w = nat_le 1 w && nat_le w WORKERS
