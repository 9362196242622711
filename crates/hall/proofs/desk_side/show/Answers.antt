use Rattle.std.proofs.Common.{subst, rules}
use Rattle.std.specs.Prelude.{Ok}
use Rattle.desk.specs.Answering.{Learns}
use Rattle.desk.proofs.Looking.{gives}
use Rattle.board.specs.declared.entry.Entry.{Entry}
use Rattle.board.specs.declared.entry.Seen.{Seen}
use Rattle.board.specs.Showing.{ShowsMore}
use Rattle.hall.specs.Handling.{PutsPages}
use Rattle.hall.proofs.Shown.{may-follow, told-next}
use Rattle.hall.proofs.desk_side.show.Goals as goal

pub publish-requires : goal.publish-requires
publish-requires g c =
    may-follow g.S.Store g.J.Opening.shows c.args.desk.now c.args.publisher.shown c.put_pages.new.publisher.shown c.args.submission
    c.args.answer c.args.touched.now (search rules) c.requires.due c.in_default.ensures.same

pub returns-in-Ok : goal.returns-in-Ok
returns-in-Ok g c =
    let desk = c.args.desk.now in
    let now = c.put_pages.new.desk in
    let put = c.put_pages.new.publisher.pages in
    let next : Seen = c.in-Ok.publisher.shown in
    let e : Entry = record {
      worker = c.args.submission.worker;
      number = c.args.submission.number;
      request = c.args.submission.request;
      answer = c.args.answer;
    } in
    let more : ShowsMore c.args.publisher.shown put e next = subst (λ (s : Seen). ShowsMore s put e next) c.in_default.ensures.same c.in-Ok.ensures.0 in
    let learnt : Learns {A = Unit {0}} (λ H _. PutsPages c.args.touched.now c.args.publisher.pages put H) g.S.Store desk now (Ok tt) = search rules in (
      more.entries,
      c.in-Ok.ensures.1,
      gives learnt (λ _ _ _. tt) (λ _ _ _ _. tt),
      told-next g.S.Store g.J.Opening.shows desk now c.args.publisher.shown next c.args.submission c.args.answer c.args.touched.now
          c.args.publisher.pages put c.requires.due c.requires.blank learnt more,
    )
