-- A report that went out, whole or in part, or was refused.
use Rattle.std.proofs.Common.{◌≡◌, ℕ, List, [], ◌++◌, append-nil, sym, ◌∙◌, ap, subst}
use Rattle.std.specs.Prelude.{Option, None, Result, Ok, Err, OnOk, OnErr, IfOk}
use Rattle.std.specs.Result.{IsErr, IsErrAnd}
use Rattle.std.specs.Io.KnownBytes.{Appends}
use Rattle.std.proofs.KnownBytes.{Appends-nil, Keeps-refl}
use Rattle.store.specs.Library.{Ghosts, Held, state, HasCleanDisk}
use Rattle.terms.specs.Limits.{InLimits}
use Rattle.terms.specs.Pictures.{Picture}
use Rattle.circ_tables.specs.Encoding.{HasPicture}
use Rattle.terms.specs.declared.fault.Fault.{Fault}
use Rattle.terms.specs.declared.fault.Fault.TheVariants.{Stored}
use Rattle.terms.specs.declared.refusal.Refusal.TheVariants.{UnknownBranch}
use Rattle.model.specs.History.{History}
use Rattle.model.specs.Picture.{picture}
use Rattle.model.specs.Reports.{till}
use Rattle.desk.specs.Answering.{Shows, Learns}
use Rattle.desk.specs.Parts.{IsAny, IsFront, WritesText}
use Rattle.desk.specs.Written.{HasBranch, SendsFront, WritesReport, WritesTill}
use Rattle.desk.specs.declared.report_fault.ReportFault.{ReportFault}
use Rattle.desk.specs.declared.report_fault.ReportFault.TheVariants.{Refused, Faulted, NotWritten}
use Rattle.desk.proofs.Founds.{Found}
use Rattle.desk.proofs.Looking.{IsAnyList}
use Rattle.desk.proofs.Parts.{nothing-front, front-then, fault-part, learnt-part, then-part, looks-so}

module _ {S T : Type 0} {g : Ghosts S} {o n : Held S} {a b : Option (List ℕ)} {text : History → List ℕ} (r : Result T ReportFault)
    (part : WritesText IsAny text g o n a b r) where
  -- What went out, where all of it did.
  out : HasCleanDisk (state g n) → OnOk r ((H : History) → Shows (state g o) H → Appends a b (text H))
  out disk = go r (part.told disk)
    where
      go : (q : Result T ReportFault) → IfOk q (λ _. (H : History) → Shows (state g o) H → IsAny H → part.sent ≡ text H)
          → OnOk q ((H : History) → Shows (state g o) H → Appends a b (text H))
      go (Ok x) told = λ H shows. subst (Appends a b) (told H shows tt) part.wrote
      go (Err e) told = tt

  -- And where it did not.
  front : OnErr r (SendsFront text g o n a b)
  front = go r part.front
    where
      go : (q : Result T ReportFault)
          → (HasCleanDisk (state g n) → OnErr q ((H : History) → Shows (state g o) H → IsAny H → IsFront part.sent (text H)))
          → OnErr q (SendsFront text g o n a b)
      go (Ok x) f = tt
      go (Err e) f = record { sent = part.sent; wrote = part.wrote; front = λ disk H shows. f disk H shows tt }

  on_ok : {P : Type 0} → P → OnOk r P
  on_ok {P} p = go r
    where
      go : (q : Result T ReportFault) → OnOk q P
      go (Ok x) = p
      go (Err e) = tt

  -- The report of a branch that is there.
  pub report-there : {branch : ℕ} → (HasCleanDisk (state g n) → (H : History) → Shows (state g o) H → HasBranch H branch) → WritesReport text branch g o n a b r
  report-there known = record {
    written = out;
    known = λ disk. on_ok (known disk);
    refused = λ refusal e. absurd (part.refused refusal e);
    unknown = λ disk refusal e. absurd (part.refused refusal e);
    cut = front;
    sound = λ disk e H shows. part.sound disk e H shows tt;
    stays = λ disk e H shows. (known disk H shows, part.stays disk e H shows);
    looks = part.looks;
  }

  -- The till report.
  pub till-of : {day : ℕ} → ((H : History) → text H ≡ till H day)
      → (HasCleanDisk (state g n) → r ≡ Err (Faulted Stored) → (P : Picture) → HasPicture (state g o).now P → InLimits P → ⊥)
      → WritesTill day g o n a b r
  till-of {day} same stored = record {
    written = λ disk. same_out (out disk);
    refused = part.refused;
    cut = same_front front;
    sound = λ disk e H shows. part.sound disk e H shows tt;
    stored = stored;
    stays = λ disk e H shows. part.stays disk e H shows;
    looks = part.looks;
  }
    where
      same_out : OnOk r ((H : History) → Shows (state g o) H → Appends a b (text H)) → OnOk r ((H : History) → Shows (state g o) H → Appends a b (till H day))
      same_out = go r
        where
          go : (q : Result T ReportFault) → OnOk q ((H : History) → Shows (state g o) H → Appends a b (text H))
              → OnOk q ((H : History) → Shows (state g o) H → Appends a b (till H day))
          go (Ok x) f = λ H shows. subst (Appends a b) (same H) (f H shows)
          go (Err e) f = tt

      same_front : OnErr r (SendsFront text g o n a b) → OnErr r (SendsFront (λ H. till H day) g o n a b)
      same_front = go r
        where
          go : (q : Result T ReportFault) → OnErr q (SendsFront text g o n a b) → OnErr q (SendsFront (λ H. till H day) g o n a b)
          go (Ok x) f = tt
          go (Err e) f = record { sent = f.sent; wrote = f.wrote; front = λ disk H shows. subst (IsFront f.sent) (same H) (f.front disk H shows) }

module _ {S A : Type 0} {g : Ghosts S} {o m : Held S} {Is : History → A → Type 0} {text : History → List ℕ} {branch : ℕ} where
  -- The branch was looked up, and the report written.
  pub report-after : {T : Type 0} {n : Held S} {a b : Option (List ℕ)} {x : A} {r : Result T ReportFault} {If : History → Type 0}
      {named : History → List ℕ} → Learns Is g o m (Ok x) → WritesText If named g m n a b r
      → ((H : History) → IsAnyList H → Is H x → HasBranch H branch × If H × (named H ≡ text H)) → WritesReport text branch g o n a b r
  report-after {a = a} {r = r} {named = named} first second all =
      report-there r
      (then-part (learnt-part {Cut = λ _ _. ⊥} a first) second (λ _ _ any. any) (λ H list _ is. (all H list is.0).1)
      (λ H list _ is s cut. front-then _ s (named H) [] (text H) (sym (all H list is.0).2 ∙ sym (append-nil (named H)) ∙ ap (λ (t : List ℕ). t ++ (named H ++ [])) (sym is.1)) cut)
      (λ H list _ is y s sent. ap (λ (t : List ℕ). t ++ s) is.1 ∙ sent ∙ (all H list is.0).2))
      (λ disk H shows. (all H (shows.legal, shows.forms) (first.shown (second.looks.clean disk) H shows tt)).0)

  -- There is no such branch.
  pub report-unknown : {T : Type 0} {x : A} (a : Option (List ℕ)) → Learns Is g o m (Ok x)
      → ((H : History) → Is H x → (picture H).branches branch ≡ None)
      → WritesReport {T = T} text branch g o m a a (Err (Refused UnknownBranch))
  report-unknown {T} {x} a first none = record {
    written = λ disk. tt;
    known = λ disk. tt;
    refused = λ refusal e. ((let same : refusal ≡ UnknownBranch = cc in same), Keeps-refl a);
    unknown = λ disk refusal e H shows. (none H (first.shown disk H shows tt), first.looks.stays disk H shows);
    cut = record { sent = []; wrote = Appends-nil a; front = λ disk H shows. nothing-front (text H) };
    sound = λ disk e. let never : ⊥ = cc in absurd never;
    stays = λ disk e. let never : ⊥ = cc in absurd never;
    looks = looks-so (state g o) (state g m) x (Err (Refused UnknownBranch)) first.looks;
  }

  -- A fault came before anything was written.
  pub report-fault : {T : Type 0} {fault : Fault} (a : Option (List ℕ)) (r : Result T ReportFault) → IsErr r
      × IsErrAnd r (λ e. e ≡ Faulted fault) → Learns Is g o m (Err fault) → WritesReport text branch g o m a a r
  report-fault a (Ok x) is first = let never : ⊥ = cc (is.0) in absurd never
  report-fault {T = T} {fault = fault} a (Err e) is first =
      let same : e ≡ Faulted fault = is.1 in
      let part : WritesText {T = T} IsAny text g o m a a (Err e) = fault-part a (Err e) is first (λ _ _ any. any) (λ H _. nothing-front (text H)) in
      record {
        written = λ disk. tt;
        known = λ disk. tt;
        refused = λ refusal q. absurd (part.refused refusal q);
        unknown = λ disk refusal q. absurd (part.refused refusal q);
        cut = record { sent = part.sent; wrote = part.wrote; front = λ disk H shows. part.front disk H shows tt };
        sound = λ disk q H shows. part.sound disk q H shows tt;
        stays = λ disk q. let never : ⊥ = cc in absurd never;
        looks = part.looks;
      }

-- ---- when a till report is told as damaged

-- The fault of a read is the read's.
pub stored-read : {S A T : Type 0} {g : Ghosts S} {o n : Held S} {Is : Picture → A → Type 0} {fault : Fault} (r : Result T ReportFault)
    → IsErr r × IsErrAnd r (λ e. e ≡ Faulted fault) → Found Is g o n (Err fault)
    → HasCleanDisk (state g n) → r ≡ Err (Faulted Stored) → (P : Picture) → HasPicture (state g o).now P → InLimits P → ⊥
stored-read (Ok x) is read = λ disk told. let never : ⊥ = cc (is.0) in absurd never
stored-read {fault = fault} (Err e) is read = λ disk told.
    let same : e ≡ Faulted fault = is.1 in
    let stored : Err fault ≡ Err Stored = cc in
    read.sound disk stored

-- A write that failed is no damage.
pub stored-unwritten : {T : Type 0} (r : Result T ReportFault) → IsErr r × IsErrAnd r (λ e. e ≡ NotWritten) → r ≡ Err (Faulted Stored) → ⊥
stored-unwritten (Ok x) is told = let never : ⊥ = cc (is.0) in never
stored-unwritten (Err e) is told = let same : e ≡ NotWritten = is.1 in let never : ⊥ = cc in never
