-- How a program ends.
use Rattle.std.proofs.Common.{◌≡◌, sym, subst}
use Rattle.std.specs.Prelude.{Result, Ok, Err, OnOk, IfOk}

-- what follows from what went out, where it is known how the program ends
pub ends-as : {E X Q : Type 0} (P : X → Type 0) (r : Result X E) (exit : X) → IfOk r (λ e. e ≡ exit) → OnOk r Q → (Q → P exit) → IfOk r P
ends-as P (Ok e) exit is q f = subst P (sym is) (f q)
ends-as P (Err e) exit is q f = tt
