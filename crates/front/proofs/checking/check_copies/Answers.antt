use Rattle.csv.specs.Reading.{source_of}
use Rattle.csv.specs.Records.{fields_of}
use Rattle.front.proofs.CopyFiles.{header_read}
use Rattle.front.proofs.CheckFiles.{with_first, without_first}
use Rattle.front.proofs.checking.check_copies.Goals as goal

pub returns-in-Ok-true-clause-told : goal.returns-in-Ok-true-clause-told
returns-in-Ok-true-clause-told g c =
    let file = c.record_reader-file.ensures in
    let read = rw c.in-Ok-true.field-0-test at (c.in-Ok-true.ensures.reads file.plain.untrimmed file.plain.ready) in
    let after = c.read_byte_record.new.self in
    let first = fields_of c.read_byte_record.new.row in
    with_first (g.R.Read.remaining c.args.reader) after.state (source_of g.R.Read.remaining after) first _
    (header_read g.R.Read.remaining (g.R.Read.remaining c.args.reader) c.record_reader-file.result after first file.plain file.start file.source read)
    c.flaw_of_header-header.ensures c.check_rows-bad.ensures.told

pub returns-in-Ok-false-clause-told : goal.returns-in-Ok-false-clause-told
returns-in-Ok-false-clause-told g c =
    let file = c.record_reader-file.ensures in
    let read = rw c.in-Ok-false.field-0-test at (c.in-Ok-false.ensures.reads file.plain.untrimmed file.plain.ready) in
    let none = c.without_records.ensures in
    without_first g.R.Read.remaining (g.R.Read.remaining c.args.reader) c.record_reader-file.result c.read_byte_record.new.self
    (fields_of c.read_byte_record.new.row) c.without_records.result file.plain file.start file.source read none.header none.bad none.good none.end
