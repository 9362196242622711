-- A report of a branch or a day, as the requested report.
use Rattle.std.proofs.Common.{◌≡◌, ℕ, List, Option, None, subst}
use Rattle.std.specs.Prelude.{Result, Ok, Err, OnOk, OnErr}
use Rattle.std.specs.Io.KnownBytes.{Appends}
use Rattle.store.specs.Library.{Ghosts, Held, state}
use Rattle.model.specs.History.{History}
use Rattle.model.specs.Picture.{picture}
use Rattle.model.specs.Reports.{till}
use Rattle.desk.specs.Answering.{Shows}
use Rattle.desk.specs.Parts.{IsFront}
use Rattle.desk.specs.Written.{HasBranch, SendsFront, WritesReport, WritesTill}
use Rattle.desk.specs.Reports.{report_text, IsThere, IsUnknown, WritesAnyReport}
use Rattle.desk.specs.declared.report_fault.ReportFault.{ReportFault}
use Rattle.desk.specs.declared.reports.Report.{Report}
use Rattle.desk.specs.declared.reports.Report.TheVariants.{Till}

pub of-branch : {S T : Type 0} {g : Ghosts S} {old new : Held S} {a b : Option (List ℕ)} {r : Result T ReportFault} (report : Report)
    (text : History → List ℕ) (branch : ℕ)
    → ((H : History) → HasBranch H branch → IsThere H report) → ((H : History) → text H ≡ report_text H report)
    → ((H : History) → (picture H).branches branch ≡ None → IsUnknown H report) → ((day : ℕ) → report ≡ Till day → ⊥)
    → WritesReport text branch g old new a b r → WritesAnyReport report g old new a b r
of-branch {T = T} {g = g} {old = old} {new = new} {a = a} {b = b} {r = r} report text branch there same unknown apart wrote = record {
  written = λ disk. go r (wrote.known disk) (wrote.written disk);
  refused = wrote.refused;
  unknown = λ disk refusal e H shows. let none = wrote.unknown disk refusal e H shows in (unknown H none.0, none.1);
  cut = front r wrote.cut;
  sound = wrote.sound;
  stored = λ day is. absurd (apart day is);
  stays = λ disk e H shows. let was = wrote.stays disk e H shows in (there H was.0, was.1);
  looks = wrote.looks;
}
  where
    go : (q : Result T ReportFault) → OnOk q ((H : History) → Shows (state g old) H → HasBranch H branch)
        → OnOk q ((H : History) → Shows (state g old) H → Appends a b (text H))
        → OnOk q ((H : History) → Shows (state g old) H → IsThere H report × Appends a b (report_text H report))
    go (Ok x) known written = λ H shows. (there H (known H shows), subst (Appends a b) (same H) (written H shows))
    go (Err e) known written = tt

    front : (q : Result T ReportFault) → OnErr q (SendsFront text g old new a b) → OnErr q (SendsFront (λ H. report_text H report) g old new a b)
    front (Ok x) sends = tt
    front (Err e) sends = record {
      sent = sends.sent;
      wrote = sends.wrote;
      front = λ disk H shows. subst (IsFront sends.sent) (same H)
          (sends.front disk H shows);
    }

pub of-day : {S T : Type 0} {g : Ghosts S} {old new : Held S} {a b : Option (List ℕ)} {r : Result T ReportFault} (day : ℕ)
    → WritesTill day g old new a b r → WritesAnyReport (Till day) g old new a b r
of-day {T = T} {g = g} {old = old} {a = a} {b = b} {r = r} day wrote = record {
  written = λ disk. go r (wrote.written disk);
  refused = λ refusal e. absurd (wrote.refused refusal e);
  unknown = λ disk refusal e. absurd (wrote.refused refusal e);
  cut = wrote.cut;
  sound = wrote.sound;
  stored = λ _ _. wrote.stored;
  stays = λ disk e H shows. (tt, wrote.stays disk e H shows);
  looks = wrote.looks;
}
  where
    go : (q : Result T ReportFault) → OnOk q ((H : History) → Shows (state g old) H → Appends a b (till H day))
        → OnOk q ((H : History) → Shows (state g old) H → IsThere H (Till day) × Appends a b (till H day))
    go (Ok x) written = λ H shows. (tt, written H shows)
    go (Err e) written = tt
