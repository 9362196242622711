use Rattle.std.proofs.Common.{rules, ap, Err, [], ◌∙◌}
use Rattle.std.proofs.KnownBytes.{Appends-kept, Appends-nil}
use Rattle.desk.specs.declared.report_fault.ReportFault.TheVariants.{Faulted as Met}
use Rattle.desk.proofs.Shown.{shows-headline}
use Rattle.circ.specs.Reporting.{TellsOf}
use Rattle.circ.specs.declared.lines.Exit.TheVariants.{Done, Refused, Faulted}
use Rattle.circ.proofs.Told.{tells-report, tells-unknown, tells-fault, told-whole, told-cut}
use Rattle.circ.proofs.reports.report.Goals as goal

pub returns-in-Ok : goal.returns-in-Ok
returns-in-Ok g c = record {
  clean = search rules;
  headline = λ disk is_open H shows. shows-headline _ H (c.in-Ok.ensures.looks.stays disk H shows);
  nothing = λ disk is_open there. c.in-Ok.ensures.looks.nothing.answered disk there;
  written = tells-report g.S.Store c.args.desk.now c.report.new.self c.args.report.now _
      (λ disk H shows. let out = c.in-Ok.ensures.written disk H shows in (out.0, out.1, c.in-Ok.ensures.looks.stays disk H shows));
  left = search rules;
  cut = search rules;
}

pub returns-in-Err-Refused : goal.returns-in-Err-Refused
returns-in-Err-Refused g c = record {
  clean = search rules;
  headline = λ disk is_open H shows. shows-headline _ H (c.in-Err-Refused.ensures.looks.undone disk is_open H shows);
  nothing = c.in-Err-Refused.ensures.looks.nothing.failed;
  written = let is = ap Err c.in-Err-Refused.field-0-is in
      let refused = c.in-Err-Refused.ensures.refused c.in-Err-Refused.refusal is in
      told-whole (TellsOf c.args.report.now g.S.Store c.args.desk.now c.report.new.self) c.tell_reply.result _ _ _ [] _ Refused
      (λ WentOut line. tells-unknown g.S.Store c.args.desk.now c.report.new.self c.args.report.now WentOut c.in-Err-Refused.refusal refused.0
      (λ disk H shows. c.in-Err-Refused.ensures.unknown disk c.in-Err-Refused.refusal is H shows) line)
      (Appends-kept _ _ _ [] (Appends-nil _) refused.1) c.tell_reply.ensures.exit_is c.tell_reply.ensures.writes.all;
  left = search rules;
  cut = let is = ap Err c.in-Err-Refused.field-0-is in
      let refused = c.in-Err-Refused.ensures.refused c.in-Err-Refused.refusal is in
      told-cut (TellsOf c.args.report.now g.S.Store c.args.desk.now c.report.new.self) c.tell_reply.result _ _ _ [] _ Refused
      (λ WentOut line. tells-unknown g.S.Store c.args.desk.now c.report.new.self c.args.report.now WentOut c.in-Err-Refused.refusal refused.0
      (λ disk H shows. c.in-Err-Refused.ensures.unknown disk c.in-Err-Refused.refusal is H shows) line)
      (Appends-kept _ _ _ [] (Appends-nil _) refused.1) c.tell_reply.ensures.writes.front;
}

pub returns-in-Err-Faulted : goal.returns-in-Err-Faulted
returns-in-Err-Faulted g c = record {
  clean = search rules;
  headline = λ disk is_open H shows. shows-headline _ H (c.in-Err-Faulted.ensures.looks.undone disk is_open H shows);
  nothing = c.in-Err-Faulted.ensures.looks.nothing.failed;
  written =
      told-whole (TellsOf c.args.report.now g.S.Store c.args.desk.now c.report.new.self) c.tell_fault.result _ _ _ c.in-Err-Faulted.ensures.cut.sent _ Faulted
      (λ WentOut line. tells-fault g.S.Store c.args.desk.now c.report.new.self c.args.report.now WentOut c.in-Err-Faulted.ensures.cut.sent
      c.in-Err-Faulted.ensures.cut.front c.in-Err-Faulted.fault
      (λ disk stored H shows. c.in-Err-Faulted.ensures.sound disk (ap Err (c.in-Err-Faulted.field-0-is ∙ ap Met stored)) H shows)
      c.in-Err-Faulted.ensures.looks.undone line)
      c.in-Err-Faulted.ensures.cut.wrote c.tell_fault.ensures.exit_is c.tell_fault.ensures.writes.all;
  left = search rules;
  cut =
      told-cut (TellsOf c.args.report.now g.S.Store c.args.desk.now c.report.new.self) c.tell_fault.result _ _ _ c.in-Err-Faulted.ensures.cut.sent _ Faulted
      (λ WentOut line. tells-fault g.S.Store c.args.desk.now c.report.new.self c.args.report.now WentOut c.in-Err-Faulted.ensures.cut.sent
      c.in-Err-Faulted.ensures.cut.front c.in-Err-Faulted.fault
      (λ disk stored H shows. c.in-Err-Faulted.ensures.sound disk (ap Err (c.in-Err-Faulted.field-0-is ∙ ap Met stored)) H shows)
      c.in-Err-Faulted.ensures.looks.undone line)
      c.in-Err-Faulted.ensures.cut.wrote c.tell_fault.ensures.writes.front;
}

pub returns-in-Err-NotWritten : goal.returns-in-Err-NotWritten
returns-in-Err-NotWritten g c = record {
  clean = search rules;
  headline = λ disk is_open H shows. shows-headline _ H (c.in-Err-NotWritten.ensures.looks.undone disk is_open H shows);
  nothing = c.in-Err-NotWritten.ensures.looks.nothing.failed;
  written = search rules;
  left = search rules;
  cut = (
    Done,
    tells-report g.S.Store c.args.desk.now c.report.new.self c.args.report.now _
        (λ disk H shows.
        let is = c.in-Err-NotWritten.ensures.stays disk (ap Err c.in-Err-NotWritten.field-0-is) H shows in
        let front = c.in-Err-NotWritten.ensures.cut.front disk H shows in
        (is.0, record { sent = c.in-Err-NotWritten.ensures.cut.sent; rest = front.0; whole = front.1; wrote = c.in-Err-NotWritten.ensures.cut.wrote }, is.1)),
  );
}
