-- What an audit writes, given what was read and found.
use Rattle.std.proofs.Common.{◌≡◌, ℕ, ◌<◌, false, List, length, take, get_or, inl, inr, refl, sym, ◌∙◌, subst, true≢false}
use Rattle.std.proofs.lemmas.Option.{slice_get_within, get_or_from_slice_get}
use Rattle.std.specs.Prelude.{Result, Ok, Err, Option, Some, None, MatchOption}
use Rattle.circ_tables.specs.Encoding.{HasPicture}
use Rattle.store.specs.Library.{Ghosts, Held, State, state, HasCleanDisk, HasTables, IsAsItWas}
use Rattle.store.specs.Legal.{AnswersLegal}
use Rattle.store.specs.Older.{IsFirstOldRow, TellsOldRows, HasNoOldRows, HasOldRows}
use Rattle.store.specs.declared.older.OldRow.{OldRow}
use Rattle.store.specs.declared.older.OldRow.TheVariants.{Rule, Loan, Hold}
use Rattle.store.specs.Lists.{AreAuditTables}
use Rattle.store.specs.Stops.{KeepsPicture, LeavesPicture}
use Rattle.store.specs.Reads.{Reads, Looked, IsReadable}
use Rattle.terms.specs.Limits.{InLimits}
use Rattle.terms.specs.Pictures.{Picture}
use Rattle.terms.specs.Texts.{fault_number}
use Rattle.terms.specs.declared.fault.Fault.{Fault}
use Rattle.terms.specs.declared.fault.Fault.TheVariants.{Memory, Stored}
use Rattle.terms.specs.declared.row.BarcodeRow.{BarcodeRow}
use Rattle.terms.specs.declared.tables.Tables.{Tables}
use Rattle.model.specs.History.{History}
use Rattle.model.specs.Picture.{picture}
use Rattle.model.proofs.RowRanges.{legal-rows}
use Rattle.desk.proofs.Sound.{is-readable}
use Rattle.circ_audit.specs.Barcodes.{has_barcode, AreDistinct, IsFirstDoubled}
use Rattle.circ_audit.specs.Sound.{IsSound, IsFirstBroken, Audits}
use Rattle.circ_audit.specs.declared.references.Table.TheVariants.{Barcodes}
use Rattle.circ_audit.specs.declared.auditing.Finding.{Finding}
use Rattle.circ_audit.specs.declared.auditing.Finding.TheVariants.{Claims, Binding, Balance, Reference, Numbers}
use Rattle.circ.specs.declared.lines.Exit.TheVariants.{Done, Refused, Faulted}
use Rattle.circ.specs.Lines.{sound_line, finding_line, old_row_line, fault_line}
use Rattle.circ.specs.Auditing.{LegalTablesAreSound, AreSound, IsDoubled, SaysOf, SaysFaulted, Reads as ReadsTables}
use Rattle.circ.proofs.WholeTables.{sound_as, doubled_as, broken_as}

-- Sound tables break no law.
not-both : (tables : Tables) (finding : Finding) → IsSound tables → IsFirstBroken tables finding → ⊥
not-both tables (Claims copy) sound first = first.broken (sound.claims copy)
not-both tables (Binding hold) sound first = first.1.broken (sound.bindings hold)
not-both tables (Balance patron) sound first = first.2.broken (sound.balance patron)
not-both tables (Reference table n) sound first = first.3.least.broken (sound.references table n)
not-both tables (Numbers series n) sound first = first.4.least.broken (sound.numbers series n)

-- No first barcode is doubled where none is.
pub not-doubled : (rows : List BarcodeRow) (number : ℕ) → AreDistinct rows → IsFirstDoubled rows number → ⊥
not-doubled rows number distinct first =
    let within : first.place < length rows = slice_get_within rows first.place first.row first.there in
    let is : get_or rows first.place first.row ≡ first.row = get_or_from_slice_get rows first.place first.row first.row first.there in
    let new : has_barcode (take first.place rows) first.row.barcode ≡ false =
    subst (λ (r : BarcodeRow). has_barcode (take first.place rows) r.barcode ≡ false) is (distinct first.place first.row within) in
    true≢false (sym first.doubled ∙ new)

-- What was looked for was not found, or was.
pub none-doubled : (rows : List BarcodeRow) (o : Option ℕ) → o ≡ None → MatchOption o (AreDistinct rows) (IsFirstDoubled rows) → AreDistinct rows
none-doubled rows o is found = subst (λ (o : Option ℕ). MatchOption o (AreDistinct rows) (IsFirstDoubled rows)) is found

pub one-doubled : (rows : List BarcodeRow) (number : ℕ) (o : Option ℕ) → o ≡ Some number → MatchOption o (AreDistinct rows) (IsFirstDoubled rows)
    → IsFirstDoubled rows number
one-doubled rows number o is found = subst (λ (o : Option ℕ). MatchOption o (AreDistinct rows) (IsFirstDoubled rows)) is found

-- A stop leaves what it would have left before a read.
pub read-left : {A : Type 0} {r : Result A Fault} (old new : State) → Reads old new r → HasCleanDisk new → (P : Picture)
    → KeepsPicture old P → LeavesPicture new P
read-left old new reads disk P keeps = λ trees may. keeps.left trees (reads.left disk (keeps.now.maps, keeps.now.holds) trees may)

-- A read after which the database holds what it held leaves it as it was.
pub as-read : {A : Type 0} {r : Result A Fault} (old new : State) → Reads old new r → HasCleanDisk new → HasTables old.now → new.now ≡ old.now
    → IsAsItWas old new
as-read old new reads disk tables same = record { now = same; left = λ trees may. inl (reads.left disk tables trees may) }

module _ {S : Type 0} (g : Ghosts S) (old new : Held S) where
  pub says-unsound : LegalTablesAreSound → (tables : Tables) (finding : Finding)
      → Looked InLimits AreAuditTables IsReadable g old new (Ok tables) → AnswersLegal g old new (Ok tables) → Audits tables (Err finding)
      → SaysOf g old new (finding_line finding) Refused
  says-unsound law tables finding looked legal audits = inr (inl (record {
    tables = tables;
    finding = finding;
    line_is = refl;
    exit_is = refl;
    legal = legal;
    read = λ disk P limits shown.
        let found = looked.shown disk P shown limits in
        let first = (audits.found finding).0 refl in (
          found.0,
          first,
          λ all whole. broken_as P all tables whole found.0 finding first,
        );
    nothing = λ disk had. as-read (state g old) (state g new) looked.reads disk had (looked.reads.answered disk had);
    never = λ disk H shows.
        let found = looked.shown disk (picture H) shows.tables.now (legal-rows H shows.legal shows.forms) in
        not-both tables finding (law H tables shows.legal shows.forms found.0).laws ((audits.found finding).0 refl);
  }))

  pub faulted : (fault : Fault) → Looked InLimits AreAuditTables IsReadable g old new (Err fault)
      → SaysFaulted g old new (fault_line (fault_number fault)) Faulted
  faulted fault looked = record {
    fault = fault;
    line_is = refl;
    exit_is = refl;
    limits = λ disk stored P shown. looked.sound disk (let same : Err fault ≡ Err Stored = cc in same) P shown;
    sound = λ disk stored H shows. looked.sound disk (let same : Err fault ≡ Err Stored = cc in same) (picture H) shows.tables.now
        (is-readable H shows.legal shows.forms);
    nothing = λ disk is_open had. as-read (state g old) (state g new) looked.reads disk had (looked.reads.same disk is_open had);
  }

  pub says-faulted : (fault : Fault) → Looked InLimits AreAuditTables IsReadable g old new (Err fault)
      → SaysOf g old new (fault_line (fault_number fault)) Faulted
  says-faulted fault looked = inr (inr (inr (inr (faulted fault looked))))

  pub no-memory : (tables : Tables) → Looked InLimits AreAuditTables IsReadable g old new (Ok tables)
      → SaysFaulted g old new (fault_line (fault_number Memory)) Faulted
  no-memory tables looked = record {
    fault = Memory;
    line_is = refl;
    exit_is = refl;
    limits = λ disk stored. let never : ⊥ = cc in absurd never;
    sound = λ disk stored. let never : ⊥ = cc in absurd never;
    nothing = λ disk is_open had. as-read (state g old) (state g new) looked.reads disk had (looked.reads.answered disk had);
  }

  module _ (law : LegalTablesAreSound) (tables : Tables) (looked : Looked InLimits AreAuditTables IsReadable g old new (Ok tables))
      (legal : AnswersLegal g old new (Ok tables)) (audits : Audits tables (Ok tt)) where
    pub says-doubled : (number : ℕ) → IsFirstDoubled tables.barcodes number → SaysOf g old new (finding_line (Reference Barcodes number)) Refused
    says-doubled number doubled = inr (inr (inl (record {
      tables = tables;
      number = number;
      line_is = refl;
      exit_is = refl;
      legal = legal;
      read = λ disk P limits shown.
          let found = looked.shown disk P shown limits in
          let is : IsDoubled number tables = record { laws = audits.sound.0 refl; doubled = doubled } in (
            found.0,
            is,
            λ all whole. doubled_as P all tables whole found.0 number is,
          );
      nothing = λ disk had. as-read (state g old) (state g new) looked.reads disk had (looked.reads.answered disk had);
      never = λ disk H shows.
          let found = looked.shown disk (picture H) shows.tables.now (legal-rows H shows.legal shows.forms) in
          not-doubled tables.barcodes number (law H tables shows.legal shows.forms found.0).barcodes doubled;
    })))

    pub says-no-memory : SaysOf g old new (fault_line (fault_number Memory)) Faulted
    says-no-memory = inr (inr (inr (inr (no-memory tables looked))))

-- ---- the tables of older schemas, read after those of the laws

-- After a list of accepted requests they are empty.
pub none-old : (H : History) (row : OldRow) → IsFirstOldRow (picture H) (Some row) → ⊥
none-old H (Rule kind) first = true≢false (sym first.1)
none-old H (Loan loan) first = true≢false (sym first.1.0)
none-old H (Hold hold) first = true≢false (sym first.2.0)

-- A read that answered, and then another.
module _ {A B : Type 0} {x : A} {r : Result B Fault} (a b c : State) (one : Reads a b (Ok x)) (two : Reads b c r) where
  pub still : HasCleanDisk c → HasTables a.now → b.now ≡ a.now
  still disk had = one.answered (two.clean disk) had

  pub tables-still : HasCleanDisk c → HasTables a.now → HasTables b.now
  tables-still disk had = subst HasTables (sym (still disk had)) had

  pub none-still : HasCleanDisk c → HasNoOldRows b.now → HasNoOldRows a.now
  none-still disk none = λ maps holds. subst HasNoOldRows (still disk (maps, holds)) none maps holds

  pub some-still : HasCleanDisk c → HasOldRows b.now → HasOldRows a.now
  some-still disk some = λ maps holds. subst HasOldRows (still disk (maps, holds)) some maps holds

  pub picture-still : HasCleanDisk c → (P : Picture) → HasPicture a.now P → HasPicture b.now P
  picture-still disk P shown = subst (λ db. HasPicture db P) (sym (still disk (shown.maps, shown.holds))) shown

  pub both-clean : HasCleanDisk c → HasCleanDisk a
  both-clean disk = one.clean (two.clean disk)

  pub both-left : HasCleanDisk c → (P : Picture) → KeepsPicture a P → LeavesPicture c P
  both-left disk P keeps = λ trees may.
      let had : HasTables a.now = (keeps.now.maps, keeps.now.holds) in
      keeps.left trees (one.left (two.clean disk) had trees (two.left disk (tables-still disk had) trees may))

  pub as-both : HasCleanDisk c → HasTables a.now → c.now ≡ b.now → IsAsItWas a c
  as-both disk had same = record {
    now = same ∙ still disk had;
    left = λ trees may. inl (one.left (two.clean disk) had trees (two.left disk (tables-still disk had) trees may));
  }

module _ {S : Type 0} (g : Ghosts S) (old mid new : Held S) (tables : Tables)
    (looked : Looked InLimits AreAuditTables IsReadable g old mid (Ok tables)) where
  pub faulted-later : (fault : Fault) → Looked InLimits IsFirstOldRow IsReadable g mid new (Err fault)
      → SaysFaulted g old new (fault_line (fault_number fault)) Faulted
  faulted-later fault found = record {
    fault = fault;
    line_is = refl;
    exit_is = refl;
    limits = λ disk stored P shown. found.sound disk (let same : Err fault ≡ Err Stored = cc in same) P
        (picture-still (state g old) (state g mid) (state g new) looked.reads found.reads disk P shown);
    sound = λ disk stored H shows. found.sound disk (let same : Err fault ≡ Err Stored = cc in same) (picture H)
        (picture-still (state g old) (state g mid) (state g new) looked.reads found.reads disk (picture H) shows.tables.now)
        (is-readable H shows.legal shows.forms);
    nothing = λ disk is_open had. as-both (state g old) (state g mid) (state g new) looked.reads found.reads disk had
        (found.reads.same disk is_open (tables-still (state g old) (state g mid) (state g new) looked.reads found.reads disk had));
  }

module _ {S : Type 0} (g : Ghosts S) (old mid new : Held S) (tables : Tables)
    (looked : Looked InLimits AreAuditTables IsReadable g old mid (Ok tables)) (legal : AnswersLegal g old mid (Ok tables))
    (audits : Audits tables (Ok tt)) (distinct : AreDistinct tables.barcodes) where
  read-first : (HasCleanDisk (state g new) → HasCleanDisk (state g mid)) → ReadsTables g old new AreSound tables
  read-first clean disk P limits shown =
      let found = looked.shown (clean disk) P shown limits in
      let sound : AreSound tables = record { laws = audits.sound.0 refl; barcodes = distinct } in (
        found.0,
        sound,
        λ all whole. sound_as P all tables whole found.0 sound,
      )

  pub says-sound : (o : Option OldRow) → o ≡ None → Looked InLimits IsFirstOldRow IsReadable g mid new (Ok o) → TellsOldRows g mid new (Ok o)
      → SaysOf g old new sound_line Done
  says-sound o is found tells = inl (record {
    tables = tables;
    line_is = refl;
    exit_is = refl;
    legal = λ disk. legal (found.reads.clean disk);
    read = read-first found.reads.clean;
    emptied = λ disk. none-still (state g old) (state g mid) (state g new) looked.reads found.reads disk
        (λ maps holds. (tells disk maps holds).0 is);
    nothing = λ disk had. as-both (state g old) (state g mid) (state g new) looked.reads found.reads disk had
        (found.reads.answered disk (tables-still (state g old) (state g mid) (state g new) looked.reads found.reads disk had));
  })

  pub says-old-row : (row : OldRow) (o : Option OldRow) → o ≡ Some row → Looked InLimits IsFirstOldRow IsReadable g mid new (Ok o)
      → TellsOldRows g mid new (Ok o) → SaysOf g old new (old_row_line row) Refused
  says-old-row row o is found tells = inr (inr (inr (inl (record {
    tables = tables;
    row = row;
    line_is = refl;
    exit_is = refl;
    legal = λ disk. legal (found.reads.clean disk);
    read = read-first found.reads.clean;
    stands = λ disk. some-still (state g old) (state g mid) (state g new) looked.reads found.reads disk
        (λ maps holds none. let never : Some row ≡ None = sym is ∙ (tells disk maps holds).1 none in cc);
    first = first;
    nothing = λ disk had. as-both (state g old) (state g mid) (state g new) looked.reads found.reads disk had
        (found.reads.answered disk (tables-still (state g old) (state g mid) (state g new) looked.reads found.reads disk had));
    never = λ disk H shows. none-old H row (first disk (picture H) (legal-rows H shows.legal shows.forms) shows.tables.now);
  }))))
    where
      first : HasCleanDisk (state g new) → (P : Picture) → InLimits P → HasPicture (state g old).now P → IsFirstOldRow P (Some row)
      first disk P limits shown = subst (IsFirstOldRow P) is
          (found.shown disk P (picture-still (state g old) (state g mid) (state g new) looked.reads found.reads disk P shown) limits).0

  pub says-faulted-later : (fault : Fault) → Looked InLimits IsFirstOldRow IsReadable g mid new (Err fault)
      → SaysOf g old new (fault_line (fault_number fault)) Faulted
  says-faulted-later fault found = inr (inr (inr (inr (faulted-later g old mid new tables looked fault found))))
