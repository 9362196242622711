use Rattle.std.proofs.Common.{◌∙◌, arith, inl, refl, subst, sym}
use Rattle.csv.specs.Reading.{error_kind, is_io, source_of}
use Rattle.csv.specs.Records.{fields_of}
use Rattle.front.specs.Checking.{IsRestChecking}
use Rattle.front.specs.declared.checking.CheckEnd.TheVariants.{Memory}
use Rattle.front.proofs.CheckFiles.{check_all, check_broken, check_more, check_none, not_whole}
use Rattle.front.proofs.checking.check_rows.Goals as goal

pub loop-record-init : goal.loop-record-init
loop-record-init g c =
    let start = c.into_iter-record-iterator.ensures.into_iter_gives ∙ refl in
    let rdr = c.into_byte_records-record-items.ensures.rdr in
    let left = c.into_byte_records-record-items.ensures.left in
    rw (start, rdr, c.new-bad.ensures.items) (record {
      plain = c.requires.plain;
      left = left;
      few = omega arith;
      read = check_none g.R.Read.remaining c.args.file;
    })

pub returns-in-Err-clause-told : goal.returns-in-Err-clause-told
returns-in-Err-clause-told g c =
    check_broken g.R.Read.remaining c.args.file.state (source_of g.R.Read.remaining c.args.file) c.loop-record.record-iterator.rdr
    c.loop-record.bad.items c.loop-record.good c.end_at.result c.loop-record.invariant.read
    (not_whole c.end_at.result (is_io (error_kind c.in-Err.error)) c.end_at.ensures.failed c.end_at.ensures.memory)

pub returns-in-Err-check_record-clause-told : goal.returns-in-Err-check_record-clause-told
returns-in-Err-check_record-clause-told g c =
    subst (λ bad. IsRestChecking c.args.file.state (source_of g.R.Read.remaining c.args.file) bad c.loop-record.good Memory)
    (sym c.in-Err-check_record.ensures.same)
    (check_broken g.R.Read.remaining c.args.file.state (source_of g.R.Read.remaining c.args.file) c.loop-record.record-iterator.rdr
    c.loop-record.bad.items c.loop-record.good Memory c.loop-record.invariant.read (λ e. absurd (cc)))

pub loop-record-preserved : goal.loop-record-preserved
loop-record-preserved g c =
    let inv = c.loop-record.invariant in
    let s = rw (c.in-Some.is, c.in-Ok.is) at ((c.next.ensures.steps inv.left inv.plain.untrimmed).0 inv.plain.ready) in
    record {
      plain = record { untrimmed = s.0.3 ∙ inv.plain.untrimmed; ready = inl s.1; config = s.0.2 ∙ inv.plain.config };
      left = s.2;
      few = c.in-Ok-check_record.ensures.few;
      read = check_more g.R.Read.remaining c.args.file.state (source_of g.R.Read.remaining c.args.file) c.loop-record.record-iterator.rdr c.next.new.self.rdr
          c.loop-record.bad.items c.check_record.new.bad.items c.loop-record.good c.in-Ok-check_record.now (fields_of c.in-Ok.record) inv.plain.config inv.read s.0
          c.in-Ok-check_record.ensures.counted;
    }

pub returns-clause-told : goal.returns-clause-told
returns-clause-told g c =
    let inv = c.loop-record.invariant in
    let s = rw c.in-None.is at ((c.next.ensures.steps inv.left inv.plain.untrimmed).0 inv.plain.ready) in
    check_all g.R.Read.remaining c.args.file.state (source_of g.R.Read.remaining c.args.file) c.loop-record.record-iterator.rdr c.next.new.self.rdr
    c.loop-record.bad.items c.loop-record.good inv.plain.config inv.read s
