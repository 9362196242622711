-- What the writer of an answer holds.
use Rattle.std.specs.Prelude.{ℕ, List, Option}
use Rattle.std.specs.Io.Buffered.{writer_contents}
use Rattle.circ.specs.declared.listening.Buffering.{Buffering}
use Rattle.circ.specs.declared.listening.Buffering.TheVariants.{Buffered, InPieces}

-- The bytes that the writer below holds, with those that are still buffered, if known.
abbrev pub buffering_contents : {T : Type 0} → (T → Option (List ℕ)) → Buffering T → Option (List ℕ)
buffering_contents contents (Buffered writer) = writer_contents contents writer
buffering_contents contents (InPieces writer) = contents writer
