-- The error that a `?` passes on.
use Rattle.std.proofs.Common.{◌≡◌, Result, Ok, Err}
use Rattle.std.specs.Result.{IsErrAnd}

-- where the error handed on is this one, so is the one that came
pub same_error : {A B E : Type 0} (r : Result A E) (came said : E) → IsErrAnd r (λ e. e ≡ came) → r ≡ Err said → ◌≡◌ {A = Result B E} (Err came) (Err said)
same_error (Ok x) came said h e = absurd h
same_error (Err x) came said h e = cc
