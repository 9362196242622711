use Rattle.front.specs.declared.copies.TheConstants.{MOST_ROWS}
use Rattle.std.proofs.Common.{◌<◌, ◌≤◌}
use Rattle.csv.specs.Reading.{source_of}
use Rattle.front.specs.CopyReading.{IsPlain}
use Rattle.front.specs.Checking.{HasChecked}
use Rattle.front.proofs.checking.check_rows.Given as goal

abbrev pub invariant-loop-record : goal.invariant-loop-record
invariant-loop-record g l = record {
  plain : IsPlain l.record-iterator.rdr;
  left : 0 < l.record-iterator.left;
  few : l.good ≤ MOST_ROWS;
  read : HasChecked l.fn.file.state (source_of g.R.Read.remaining l.fn.file) l.record-iterator.rdr.state
      (source_of g.R.Read.remaining l.record-iterator.rdr) l.bad.items l.good;
}
