use Rattle.front.specs.declared.copies.TheConstants.{MOST_ROWS}
use Rattle.std.proofs.Common.{◌<◌, ◌≤◌, length}
use Rattle.csv.specs.Reading.{source_of}
use Rattle.front.specs.CopyReading.{HasRead, IsPlain}
use Rattle.front.proofs.copies.read_rows.Given as goal

abbrev pub invariant-loop-record : goal.invariant-loop-record
invariant-loop-record g l = record {
  plain : IsPlain l.record-iterator.rdr;
  left : 0 < l.record-iterator.left;
  few : length l.rows.items ≤ MOST_ROWS;
  read : HasRead l.fn.file.state (source_of g.R.Read.remaining l.fn.file) l.record-iterator.rdr.state
      (source_of g.R.Read.remaining l.record-iterator.rdr) l.rows.items;
}
