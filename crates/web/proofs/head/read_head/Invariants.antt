use Rattle.std.proofs.Common.{◌≡◌, ◌⊎◌, ℕ, ◌-◌, ◌≤◌, List, [], take}
use Rattle.std.specs.Io.KnownBytes.{Consumes}
use Rattle.httparse.specs.Grammar.{HasNoRequest, MayBecomeRequest}
use Rattle.web.specs.Taking.{Wants, Came, joined}
use Rattle.web.specs.declared.limits.TheConstants.{HEAD_BYTES}
use Rattle.web.proofs.head.read_head.Given as goal

abbrev pub invariant-loop-filled : goal.invariant-loop-filled
invariant-loop-filled g l = record {
  within : l.filled ≤ HEAD_BYTES;
  taken : Consumes (g.R.Read.remaining l.initial.reader) (g.R.Read.remaining l.reader) (take l.filled l.buf);
  none : HasNoRequest (take l.filled l.buf);
  may_come : (take l.filled l.buf ≡ []) ⊎ MayBecomeRequest (take l.filled l.buf);
  pieces : List (List ℕ);
  came : Came g.R.Source.reads g.R.Read.remaining Wants pieces l.initial.reader l.reader;
  joined_is : joined pieces ≡ take l.filled l.buf;
}

abbrev pub decreases-loop-filled : goal.decreases-loop-filled
decreases-loop-filled g l = HEAD_BYTES - l.filled
