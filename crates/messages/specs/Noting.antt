-- What a writer holds that keeps a line.
use Rattle.messages.specs.declared.noting.Noting.{Noting}

-- The writer to which it passes on what it is given.
abbrev pub writer_of : {W : Type 0} → Noting W → W
writer_of noting = noting.writer
