use Rattle.std.proofs.Common.{rules}
use Rattle.terms.proofs.Fronts.{failed-at}
use Rattle.terms.proofs.writing.write_pieces.Goals as goal

pub returns-in_err-write_bytes : goal.returns-in_err-write_bytes
returns-in_err-write_bytes g c = record {
  all = search rules;
  front = failed-at c.from_residual.result _ _ _ c.args.pieces.now c.loop-piece.piece-index _ c.loop-piece-test.true c.loop-piece.invariant
      c.in_err-write_bytes.ensures.front;
}
