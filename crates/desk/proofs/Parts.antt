-- Parts of a report, in order.
use Rattle.std.proofs.Common.{◌≡◌, ℕ, List, [], ◌++◌, append_assoc, append-nil, refl, sym, ◌∙◌, ap}
use Rattle.std.specs.Prelude.{Option, Some, Result, Ok, Err, String, string_bytes}
use Rattle.std.specs.Result.{IsErr, IsErrAnd}
use Rattle.std.specs.Io.KnownBytes.{Appends}
use Rattle.std.proofs.KnownBytes.{Appends-trans, Appends-nil}
use Rattle.store.specs.Library.{Ghosts, Held, State, state, HasCleanDisk}
use Rattle.terms.specs.Writing.{AppendsFront}
use Rattle.terms.specs.declared.fault.Fault.{Fault}
use Rattle.terms.specs.declared.fault.Fault.TheVariants.{Memory, Stored}
use Rattle.model.specs.History.{History}
use Rattle.desk.specs.Answering.{Shows, DeskLooks, LearnsIf}
use Rattle.desk.specs.Parts.{IsFront, WritesPart, WritesText, fault_of_text}
use Rattle.desk.specs.declared.report_fault.ReportFault.{ReportFault}
use Rattle.desk.specs.declared.report_fault.ReportFault.TheVariants.{Refused, Faulted, NotWritten}
use Rattle.desk.proofs.Unchanged.{nothing-then, nothing-as, nothing-failed, nothing-asked}
use Rattle.desk.proofs.Looking.{IsAnyList, if-ok, on-ok, on-err, on-ok-any, on-err-any, err-is}

-- ---- what is a beginning of what

pub nothing-front : (xs : List ℕ) → IsFront [] xs
nothing-front xs = (xs, refl)

-- A beginning of what comes next, after what went out before it.
pub front-then : (xs ys zs rest all : List ℕ) → all ≡ xs ++ (zs ++ rest) → IsFront ys zs → IsFront (xs ++ ys) all
front-then xs ys zs rest all is front = (
  front.0 ++ rest,
  is ∙ ap (λ (t : List ℕ). xs ++ (t ++ rest)) front.1 ∙ ap (λ (t : List ℕ). xs ++ t) (append_assoc ys front.0 rest)
      ∙ sym (append_assoc xs ys (front.0 ++ rest)),
)

-- ---- calls that only look, whatever their errors are

looks-on : {T U E F : Type 0} (old mid new : State) (x : T) (r : Result U F) → DeskLooks {T = T} {E = E} old mid (Ok x)
    → DeskLooks {T = U} {E = F} mid new r → DeskLooks {T = U} {E = F} old new r
looks-on old mid new x r first next = record {
  clean = λ disk. first.clean (next.clean disk);
  stays = λ disk. on-ok r (λ stays H shows. stays H (first.stays (next.clean disk) H shows)) (next.stays disk);
  undone = λ disk is_open. on-err r (λ stays H shows. stays H (first.stays (next.clean disk) H shows)) (next.undone disk is_open);
  left = λ disk H shows. next.left disk H (first.stays (next.clean disk) H shows);
  nothing = nothing-then old mid new x r next.clean first.nothing next.nothing;
}

pub looks-so : {T U E F : Type 0} (old new : State) (x : T) (r : Result U F) → DeskLooks {T = T} {E = E} old new (Ok x) → DeskLooks {T = U} {E = F} old new r
looks-so old new x r looks = record {
  clean = looks.clean;
  stays = λ disk. on-ok-any r (looks.stays disk);
  undone = λ disk is_open. on-err-any r (looks.stays disk);
  left = looks.left;
  nothing = nothing-as old new x r looks.nothing;
}

looks-failed : {T U E F : Type 0} (old new : State) (e : E) (f : F) → DeskLooks {T = T} {E = E} old new (Err e) → DeskLooks {T = U} {E = F} old new (Err f)
looks-failed old new e f looks =
    record {
      clean = looks.clean;
      stays = λ disk. tt;
      undone = looks.undone;
      left = looks.left;
      nothing = nothing-failed old new e f looks.nothing;
    }

looks-still : {T E : Type 0} (s : State) (r : Result T E) → DeskLooks {T = T} {E = E} s s r
looks-still s r = record {
  clean = λ disk. disk;
  stays = λ disk. on-ok-any r (λ H shows. shows);
  undone = λ disk is_open. on-err-any r (λ H shows. shows);
  left = λ disk H shows. shows.tables.left;
  nothing = nothing-asked s r;
}

-- ---- one part after another

module _ {S : Type 0} {g : Ghosts S} {o n : Held S} {a b : Option (List ℕ)} where
  -- What is made of an answer.
  pub gives-part : {T U : Type 0} {If Given : History → Type 0} {Is : History → T → List ℕ → Type 0}
      {Wanted : History → U → List ℕ → Type 0} {Cut Given-cut : History → List ℕ → Type 0} {x : T} {y : U}
      → WritesPart If Is Cut g o n a b (Ok x) → ((H : History) → IsAnyList H → Given H → If H)
      → ((H : History) → IsAnyList H → Given H → (s : List ℕ) → Is H x s → Wanted H y s)
      → WritesPart Given Wanted Given-cut g o n a b (Ok y)
  gives-part {x = x} {y = y} part needs f = record {
    sent = part.sent;
    wrote = part.wrote;
    told = λ disk H shows given. f H (shows.legal, shows.forms) given part.sent (part.told disk H shows (needs H (shows.legal, shows.forms) given));
    front = λ disk. tt;
    refused = λ refusal e. let never : ⊥ = cc in never;
    sound = λ disk e. let never : ⊥ = cc in absurd never;
    stays = λ disk e. let never : ⊥ = cc in absurd never;
    looks = looks-so (state g o) (state g n) x (Ok y) part.looks;
  }

  -- An error is that of whatever was asked.
  pub handed-part : {T U : Type 0} {If : History → Type 0} {Is : History → T → List ℕ → Type 0} {Wanted : History → U → List ℕ → Type 0}
      {Cut : History → List ℕ → Type 0} {why : ReportFault} (r : Result U ReportFault)
      → IsErr r × IsErrAnd r (λ e. e ≡ why) → WritesPart If Is Cut g o n a b (Err why) → WritesPart If Wanted Cut g o n a b r
  handed-part (Ok y) is part = let never : ⊥ = cc (is.0) in absurd never
  handed-part {T} {U} {why = why} (Err e) is part =
      record {
        sent = part.sent;
        wrote = part.wrote;
        told = λ disk. tt;
        front = part.front;
        refused = λ refusal q. part.refused refusal (ap Err (err-is (Err e) why (Refused refusal) is.1 q));
        sound = λ disk q. part.sound disk (ap Err (err-is (Err e) why (Faulted Stored) is.1 q));
        stays = λ disk q. part.stays disk (ap Err (err-is (Err e) why NotWritten is.1 q));
        looks = looks-failed (state g o) (state g n) why e part.looks;
      }

-- Of what the first part learnt follows what the second needs, and what both may leave.
pub then-part : {S T U : Type 0} {g : Ghosts S} {o m n : Held S} {a b c : Option (List ℕ)} {If Need Given : History → Type 0}
    {Is : History → T → List ℕ → Type 0} {Then Wanted : History → U → List ℕ → Type 0}
    {First Second Cut : History → List ℕ → Type 0} {x : T} {r : Result U ReportFault}
    → (first : WritesPart If Is First g o m a b (Ok x)) → WritesPart Need Then Second g m n b c r
    → ((H : History) → IsAnyList H → Given H → If H) → ((H : History) → IsAnyList H → Given H → Is H x first.sent → Need H)
    → ((H : History) → IsAnyList H → Given H → Is H x first.sent → (s : List ℕ) → Second H s → Cut H (first.sent ++ s))
    → ((H : History) → IsAnyList H → Given H → Is H x first.sent → (y : U) (s : List ℕ) → Then H y s → Wanted H y (first.sent ++ s))
    → WritesPart Given Wanted Cut g o n a c r
then-part {g = g} {o = o} {m = m} {n = n} {a = a} {b = b} {c = c} {Given = Given} {Is = Is} {x = x} {r = r} first second needs step cut gives =
    let was : HasCleanDisk (state g n) → (H : History) → Shows (state g o) H → Given H → Is H x first.sent = λ disk H shows given.
    first.told (second.looks.clean disk) H shows (needs H (shows.legal, shows.forms) given) in
    let still : HasCleanDisk (state g n) → (H : History) → Shows (state g o) H → Shows (state g m) H = λ disk. first.looks.stays (second.looks.clean disk) in
    record {
      sent = first.sent ++ second.sent;
      wrote = Appends-trans a b c first.sent second.sent first.wrote second.wrote;
      told = λ disk. if-ok _ _ r (λ y is H shows given.
          let list : IsAnyList H = (shows.legal, shows.forms) in
          let learnt = was disk H shows given in
          gives H list given learnt y second.sent (is H (still disk H shows) (step H list given learnt))) (second.told disk);
      front = λ disk. on-err r (λ front H shows given.
          let list : IsAnyList H = (shows.legal, shows.forms) in
          let learnt = was disk H shows given in
          cut H list given learnt second.sent (front H (still disk H shows) (step H list given learnt))) (second.front disk);
      refused = second.refused;
      sound = λ disk e H shows given. second.sound disk e H (still disk H shows) (step H (shows.legal, shows.forms) given (was disk H shows given));
      stays = λ disk e H shows. second.stays disk e H (still disk H shows);
      looks = looks-on (state g o) (state g m) (state g n) x r first.looks second.looks;
    }

-- The same of whatever is made of an answer: no more than what went out is said of it.
pub answered-part : {S T U V : Type 0} {g : Ghosts S} {o m n : Held S} {a b c : Option (List ℕ)} {If Need Given : History → Type 0}
    {Is : History → T → List ℕ → Type 0} {Then : History → U → List ℕ → Type 0} {Wanted : History → V → List ℕ → Type 0}
    {First Second Cut : History → List ℕ → Type 0} {x : T} {y : U} {z : V}
    → (first : WritesPart If Is First g o m a b (Ok x)) → WritesPart Need Then Second g m n b c (Ok y)
    → ((H : History) → IsAnyList H → Given H → If H) → ((H : History) → IsAnyList H → Given H → Is H x first.sent → Need H)
    → ((H : History) → IsAnyList H → Given H → Is H x first.sent → (s : List ℕ) → Then H y s → Wanted H z (first.sent ++ s))
    → WritesPart Given Wanted Cut g o n a c (Ok z)
answered-part {g = g} {o = o} {m = m} {n = n} {a = a} {b = b} {c = c} {x = x} {y = y} {z = z} first second needs step gives = record {
  sent = first.sent ++ second.sent;
  wrote = Appends-trans a b c first.sent second.sent first.wrote second.wrote;
  told = λ disk H shows given.
      let before = second.looks.clean disk in
      let list : IsAnyList H = (shows.legal, shows.forms) in
      let learnt = first.told before H shows (needs H list given) in
      gives H list given learnt second.sent (second.told disk H (first.looks.stays before H shows) (step H list given learnt));
  front = λ disk. tt;
  refused = λ refusal e. let never : ⊥ = cc in never;
  sound = λ disk e. let never : ⊥ = cc in absurd never;
  stays = λ disk e. let never : ⊥ = cc in absurd never;
  looks = looks-on (state g o) (state g m) (state g n) x (Ok z) first.looks (looks-so (state g m) (state g n) y (Ok z) second.looks);
}

-- ---- looks, and writes by themselves

module _ {S : Type 0} {g : Ghosts S} {o n : Held S} where
  -- A look writes nothing.
  pub learnt-part : {T : Type 0} {If : History → Type 0} {Is : History → T → Type 0} {Cut : History → List ℕ → Type 0} {x : T} (a : Option (List ℕ))
      → LearnsIf If Is g o n (Ok x) → WritesPart If (λ H y sent. Is H y × (sent ≡ [])) Cut g o n a a (Ok x)
  learnt-part {x = x} a learnt = record {
    sent = [];
    wrote = Appends-nil a;
    told = λ disk H shows given. (learnt.shown disk H shows given, refl);
    front = λ disk. tt;
    refused = λ refusal e. let never : ⊥ = cc in never;
    sound = λ disk e. let never : ⊥ = cc in absurd never;
    stays = λ disk e. let never : ⊥ = cc in absurd never;
    looks = looks-so (state g o) (state g n) x (Ok x) learnt.looks;
  }

  -- Nor does one that met a fault.
  pub fault-part : {T U : Type 0} {If Given : History → Type 0} {Is : History → T → Type 0} {Wanted : History → U → List ℕ → Type 0}
      {Cut : History → List ℕ → Type 0} {fault : Fault} (a : Option (List ℕ)) (r : Result U ReportFault)
      → IsErr r × IsErrAnd r (λ e. e ≡ Faulted fault) → LearnsIf If Is g o n (Err fault) → ((H : History) → IsAnyList H → Given H → If H)
      → ((H : History) → Given H → Cut H []) → WritesPart Given Wanted Cut g o n a a r
  fault-part a (Ok y) is learnt needs none = let never : ⊥ = cc (is.0) in absurd never
  fault-part {fault = fault} a (Err e) is learnt needs none =
      let same : e ≡ Faulted fault = is.1 in
      record {
        sent = [];
        wrote = Appends-nil a;
        told = λ disk. tt;
        front = λ disk H shows given. none H given;
        refused = λ refusal q. let never : ⊥ = cc in never;
        sound = λ disk q H shows given.
            let stored : Err fault ≡ Err Stored = (let one : Faulted fault ≡ Faulted Stored = cc in let two : fault ≡ Stored = cc in ap Err two) in
            learnt.sound disk stored H shows (needs H (shows.legal, shows.forms) given);
        stays = λ disk q. let never : ⊥ = cc in absurd never;
        looks = looks-failed (state g o) (state g n) fault e learnt.looks;
      }

module _ {S : Type 0} {g : Ghosts S} {s : Held S} {If : History → Type 0} where
  -- Bytes went out.
  pub wrote-part : {T : Type 0} {Cut : History → List ℕ → Type 0} {x : T} {a b : Option (List ℕ)} (bytes : List ℕ) → Appends a b bytes
      → WritesPart If (λ H y sent. sent ≡ bytes) Cut g s s a b (Ok x)
  wrote-part {x = x} bytes wrote = record {
    sent = bytes;
    wrote = wrote;
    told = λ disk H shows given. refl;
    front = λ disk. tt;
    refused = λ refusal e. let never : ⊥ = cc in never;
    sound = λ disk e. let never : ⊥ = cc in absurd never;
    stays = λ disk e. let never : ⊥ = cc in absurd never;
    looks = looks-still (state g s) (Ok x);
  }

  -- A write failed.
  pub cut-part : {T : Type 0} {Is : History → T → List ℕ → Type 0} {a b : Option (List ℕ)} (bytes : List ℕ) (r : Result T ReportFault)
      → IsErr r × IsErrAnd r (λ e. e ≡ NotWritten) → AppendsFront a b bytes
      → WritesPart If Is (λ H sent. IsFront sent bytes) g s s a b r
  cut-part bytes (Ok x) is front = let never : ⊥ = cc (is.0) in absurd never
  cut-part bytes (Err e) is front =
      let same : e ≡ NotWritten = is.1 in
      record {
        sent = front.sent;
        wrote = front.wrote;
        told = λ disk. tt;
        front = λ disk H shows given. (front.rest, front.whole);
        refused = λ refusal q. let never : ⊥ = cc in never;
        sound = λ disk q. let never : ⊥ = cc in absurd never;
        stays = λ disk q H shows. shows;
        looks = looks-still (state g s) (Err e);
      }

  -- No memory was left.
  pub memory-part : {T : Type 0} {Is : History → T → List ℕ → Type 0} {Cut : History → List ℕ → Type 0} (a : Option (List ℕ))
      (r : Result T ReportFault) → IsErr r × IsErrAnd r (λ e. e ≡ Faulted Memory) → ((H : History) → If H → Cut H [])
      → WritesPart If Is Cut g s s a a r
  memory-part a (Ok x) is none = let never : ⊥ = cc (is.0) in absurd never
  memory-part a (Err e) is none =
      let same : e ≡ Faulted Memory = is.1 in
      record {
        sent = [];
        wrote = Appends-nil a;
        told = λ disk. tt;
        front = λ disk H shows given. none H given;
        refused = λ refusal q. let never : ⊥ = cc in never;
        sound = λ disk q. let never : ⊥ = cc in absurd never;
        stays = λ disk q. let never : ⊥ = cc in absurd never;
        looks = looks-still (state g s) (Err e);
      }

-- ---- a text that was made and then written

module _ {S Z : Type 0} {g : Ghosts S} {o n : Held S} {If : History → Type 0} {text : History → List ℕ} {line : String Z}
    {a b : Option (List ℕ)} {bytes : List ℕ}
    (learnt : LearnsIf If (λ H made. string_bytes made ≡ text H) g o n (Ok line)) (same : bytes ≡ string_bytes line) where
  pub text-told : {T : Type 0} (x : T) → Appends a b bytes → WritesText If text g o n a b (Ok x)
  text-told x wrote =
      then-part (learnt-part {Cut = λ _ _. ⊥} a learnt) (wrote-part {If = IsAnyList} {Cut = λ _ _. ⊥} bytes wrote) (λ H list given. given)
      (λ H list given is. list) (λ H list given is s never. absurd never)
      (λ H list given is y s sent. ap (λ (t : List ℕ). t ++ s) is.1 ∙ sent ∙ same ∙ is.0)

  pub text-cut : {T : Type 0} (r : Result T ReportFault) → IsErr r × IsErrAnd r (λ e. e ≡ NotWritten)
      → AppendsFront a b bytes → WritesText If text g o n a b r
  text-cut r is front =
      then-part (learnt-part {Cut = λ _ _. ⊥} a learnt) (cut-part {If = IsAnyList} {Is = λ H y sent. ⊥} bytes r is front)
      (λ H list given. given) (λ H list given is. list)
      (λ H list given is s out. front-then _ s bytes [] (text H)
      (sym is.0 ∙ sym same ∙ sym (append-nil bytes) ∙ ap (λ (t : List ℕ). t ++ (bytes ++ [])) (sym is.1)) out)
      (λ H list given is y s never. absurd never)

-- ---- what a text learns of its parts

stored-why : (why : ReportFault) → fault_of_text why ≡ Stored → why ≡ Faulted Stored
stored-why (Faulted f) e = ap Faulted e
stored-why (Refused r) e = let never : ⊥ = cc in absurd never
stored-why NotWritten e = let never : ⊥ = cc in absurd never

module _ {S T : Type 0} {g : Ghosts S} {o n : Held S} {If : History → Type 0} {Is : History → T → List ℕ → Type 0} {Cut : History → List ℕ → Type 0}
    {before after : List ℕ} where
  -- The text grew by what was told.
  pub learnt-of : {x : T} → WritesPart If Is Cut g o n (Some before) (Some after) (Ok x)
      → LearnsIf If (λ H y. (sent : List ℕ) × (after ≡ before ++ sent) × Is H y sent) g o n (Ok x)
  learnt-of {x = x} part = record {
    shown = λ disk H shows given. (part.sent, part.wrote, part.told disk H shows given);
    sound = λ disk e. let never : ⊥ = cc in absurd never;
    looks = looks-so (state g o) (state g n) x (Ok x) part.looks;
  }

  -- An error is told as a fault.
  pub fault-of : {U : Type 0} {Given : History → Type 0} {Wanted : History → U → Type 0} (why : ReportFault)
      → WritesPart If Is Cut g o n (Some before) (Some after) (Err why) → ((H : History) → IsAnyList H → Given H → If H)
      → LearnsIf Given Wanted g o n (Err (fault_of_text why))
  fault-of why part needs = record {
    shown = λ disk. tt;
    sound = λ disk e H shows given.
        let same : fault_of_text why ≡ Stored = cc in
        part.sound disk (ap Err (stored-why why same)) H shows (needs H (shows.legal, shows.forms) given);
    looks = looks-failed (state g o) (state g n) why (fault_of_text why) part.looks;
  }
