use Rattle.std.proofs.Common.{◌≡◌, true, sym, subst}
use Rattle.csv.specs.Reading.{source_of}
use Rattle.csv.specs.Records.{fields_of}
use Rattle.front.specs.Copies.{IsReading}
use Rattle.front.specs.declared.copies.CopyEnd.TheVariants.{Bad}
use Rattle.front.proofs.CopyFiles.{header_read, no_header, other_header, with_header}
use Rattle.front.proofs.copies.read_copies.Goals as goal

pub returns-then-are_words-clause-told : goal.returns-then-are_words-clause-told
returns-then-are_words-clause-told g c =
    let file = c.record_reader-file.ensures in
    let read = rw c.in-Ok-true.field-0-test at (c.in-Ok-true.ensures.reads file.plain.untrimmed file.plain.ready) in
    let after = c.read_byte_record.new.self in
    let header = fields_of c.read_byte_record.new.row in
    with_header (g.R.Read.remaining c.args.reader) after.state (source_of g.R.Read.remaining after) header c.read_rows.result.0.items c.read_rows.result.1
    (header_read g.R.Read.remaining (g.R.Read.remaining c.args.reader) c.record_reader-file.result after header file.plain file.start file.source read)
    (c.are_words.ensures.0 c.if-are_words.true) c.read_rows.ensures.told

pub returns-else-are_words-clause-told : goal.returns-else-are_words-clause-told
returns-else-are_words-clause-told g c =
    let file = c.record_reader-file.ensures in
    let read = rw c.in-Ok-true.field-0-test at (c.in-Ok-true.ensures.reads file.plain.untrimmed file.plain.ready) in
    let after = c.read_byte_record.new.self in
    let header = fields_of c.read_byte_record.new.row in
    subst (λ rows. IsReading (g.R.Read.remaining c.args.reader) rows (Bad 0)) (sym c.new.ensures.items)
    (other_header (g.R.Read.remaining c.args.reader) after.state (source_of g.R.Read.remaining after) header
    (header_read g.R.Read.remaining (g.R.Read.remaining c.args.reader) c.record_reader-file.result after header file.plain file.start file.source read)
    (λ same. let found : c.are_words.result ≡ true = c.are_words.ensures.1 same in absurd (cc)))

pub returns-in-Ok-false-clause-told : goal.returns-in-Ok-false-clause-told
returns-in-Ok-false-clause-told g c =
    let file = c.record_reader-file.ensures in
    let read = rw c.in-Ok-false.field-0-test at (c.in-Ok-false.ensures.reads file.plain.untrimmed file.plain.ready) in
    subst (λ rows. IsReading (g.R.Read.remaining c.args.reader) rows (Bad 0)) (sym c.new-in-Ok-false.ensures.items)
    (no_header g.R.Read.remaining (g.R.Read.remaining c.args.reader) c.record_reader-file.result c.read_byte_record.new.self
    (fields_of c.read_byte_record.new.row) file.plain file.start file.source read)
