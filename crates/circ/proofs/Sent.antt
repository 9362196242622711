-- The line of a sent request, given what is known of its answer.
use Rattle.std.proofs.Common.{ℕ, List, [], ◌∷◌, ◌++◌, Option, inl, refl, sym, subst}
use Rattle.std.specs.Prelude.{Result, Ok, Err, IfSome}
use Rattle.web.specs.Receiving.{IsAnswer}
use Rattle.circ.specs.declared.lines.Exit.{Exit}
use Rattle.circ.specs.Exits.{exit_for}
use Rattle.circ.specs.Lines.{EndsWith}
use Rattle.circ.specs.Sending.{TellsReceived, WritesLine}

-- a line of which this holds was written
pub line-written : {E : Type 0} (Tells : List ℕ → Exit → Type 0) (exit : Exit) (line : List ℕ) (before after : Option (List ℕ)) (r : Result Exit E)
    → Tells line exit → EndsWith exit line before after r → WritesLine Tells before after r
line-written Tells exit line before after (Ok e) tells ends = record {
  written = (line, subst (λ (x : Exit). Tells line x) (sym ends.exit_is) tells, ends.writes.all);
  cut = tt;
}
line-written Tells exit line before after (Err e) tells ends = record {
  written = tt;
  cut = (line, exit, tells, ends.writes.front);
}

-- an answer was read
pub an-answer : (came : Option (List ℕ)) (status : ℕ) (body : List ℕ) → IfSome came (λ bytes. IsAnswer bytes status body)
    → TellsReceived came (body ++ 10 ∷ []) (exit_for status)
an-answer came status body answer = inl (record { status = status; body = body; answer = answer; line_is = refl; exit_is = refl })
