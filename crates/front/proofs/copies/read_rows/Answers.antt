use Rattle.std.proofs.Common.{◌∙◌, arith, inl, refl}
use Rattle.csv.specs.Reading.{error_kind, is_io, source_of}
use Rattle.csv.specs.Records.{fields_of}
use Rattle.front.proofs.CopyFiles.{few_more, read_all, read_broken, read_ended, read_more, read_none, which_end}
use Rattle.front.proofs.copies.read_rows.Goals as goal

pub loop-record-init : goal.loop-record-init
loop-record-init g c =
    let start = c.into_iter-record-iterator.ensures.into_iter_gives ∙ refl in
    let rdr = c.into_byte_records-record-items.ensures.rdr in
    let left = c.into_byte_records-record-items.ensures.left in
    rw (start, rdr, c.new-rows.ensures.items) (record {
      plain = c.requires.plain;
      left = left;
      few = omega arith;
      read = read_none g.R.Read.remaining c.args.file;
    })

pub returns-in-Err-clause-told : goal.returns-in-Err-clause-told
returns-in-Err-clause-told g c =
    read_broken g.R.Read.remaining c.args.file.state (source_of g.R.Read.remaining c.args.file) c.loop-record.record-iterator.rdr
    c.loop-record.rows.items c.end_at.result
    c.loop-record.invariant.read (which_end c.end_at.result (is_io (error_kind c.in-Err.error)) c.end_at.ensures.failed c.end_at.ensures.memory)

pub returns-in-Some-take_row-clause-told : goal.returns-in-Some-take_row-clause-told
returns-in-Some-take_row-clause-told g c =
    let inv = c.loop-record.invariant in
    let s = rw (c.in-Some.is, c.in-Ok.is) at ((c.next.ensures.steps inv.left inv.plain.untrimmed).0 inv.plain.ready) in
    let t = rw c.in-Some-take_row.is at c.take_row.ensures in
    read_ended g.R.Read.remaining c.args.file.state (source_of g.R.Read.remaining c.args.file) c.loop-record.record-iterator.rdr c.next.new.self.rdr
    c.loop-record.rows.items c.take_row.new.rows.items (fields_of c.in-Ok.record) c.in-Some-take_row.end inv.plain.config inv.read s.0 t

pub loop-record-preserved : goal.loop-record-preserved
loop-record-preserved g c =
    let inv = c.loop-record.invariant in
    let s = rw (c.in-Some.is, c.in-Ok.is) at ((c.next.ensures.steps inv.left inv.plain.untrimmed).0 inv.plain.ready) in
    let t = rw c.in_default.is at c.take_row.ensures in
    record {
      plain = record { untrimmed = s.0.3 ∙ inv.plain.untrimmed; ready = inl s.1; config = s.0.2 ∙ inv.plain.config };
      left = s.2;
      few = few_more (fields_of c.in-Ok.record) c.loop-record.rows.items c.take_row.new.rows.items t;
      read = read_more g.R.Read.remaining c.args.file.state (source_of g.R.Read.remaining c.args.file) c.loop-record.record-iterator.rdr c.next.new.self.rdr
          c.loop-record.rows.items c.take_row.new.rows.items (fields_of c.in-Ok.record) inv.plain.config inv.read s.0 t;
    }

pub returns-clause-told : goal.returns-clause-told
returns-clause-told g c =
    let inv = c.loop-record.invariant in
    let s = rw c.in-None.is at ((c.next.ensures.steps inv.left inv.plain.untrimmed).0 inv.plain.ready) in
    read_all g.R.Read.remaining c.args.file.state (source_of g.R.Read.remaining c.args.file) c.loop-record.record-iterator.rdr c.next.new.self.rdr
    c.loop-record.rows.items inv.plain.config inv.read s
