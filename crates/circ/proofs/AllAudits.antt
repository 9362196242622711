-- What an audit that goes on to its end finds and writes.
use Rattle.std.proofs.Common.{◌≡◌, ◌⊎◌, ◌+◌, ◌-◌, ◌<◌, ℕ, Bool, true, false, List, [], ◌∷◌, ◌++◌, length, inl, inr, refl, sym, ◌∙◌, ap, subst, arith, true≢false}
use Rattle.std.proofs.lemmas.Bool.{lt-ltb, eqb-true, and_parts}
use Rattle.std.specs.Prelude.{◌==◌, ◌&&◌, Contains, Ok, Option, Some, None, is_none, MatchOption, if◌then◌else◌}
use Rattle.circ_tables.specs.Encoding.{HasPicture}
use Rattle.store.specs.Library.{Ghosts, Held, state, HasCleanDisk, HasTables, IsAsItWas}
use Rattle.store.specs.Legal.{AnswersLegal}
use Rattle.store.specs.Older.{IsFirstOldRow, TellsOldRows, HasNoOldRows, HasOldRows}
use Rattle.store.specs.declared.older.OldRow.{OldRow}
use Rattle.store.specs.Lists.{AreAuditTables}
use Rattle.store.specs.Reads.{Looked, IsReadable}
use Rattle.terms.specs.Limits.{InLimits}
use Rattle.terms.specs.Pictures.{Picture}
use Rattle.terms.specs.declared.row.BarcodeRow.{BarcodeRow}
use Rattle.terms.specs.declared.tables.Tables.{Tables}
use Rattle.model.specs.History.{History}
use Rattle.model.specs.Picture.{picture}
use Rattle.model.proofs.RowRanges.{legal-rows}
use Rattle.desk.specs.Answering.{Shows}
use Rattle.circ_audit.specs.Barcodes.{AreDistinct, AreDoubled}
use Rattle.circ_audit.specs.Findings.{Keeps, AreFindings, IsLeftOut}
use Rattle.circ_audit.specs.Sound.{IsSound}
use Rattle.circ_audit.specs.declared.auditing.Finding.{Finding}
use Rattle.circ_audit.specs.declared.auditing.Finding.TheVariants.{Claims, Binding, Balance, Reference, Numbers}
use Rattle.circ_audit.specs.declared.auditing.TheConstants.{MOST_FINDINGS}
use Rattle.circ.specs.declared.auditing.Findings.{Findings}
use Rattle.circ.specs.declared.lines.Exit.TheVariants.{Done, Refused}
use Rattle.circ.specs.Lines.{sound_line, finding_lines, doubled_lines, old_lines, is_nothing, all_lines, all_exit}
use Rattle.circ.specs.Auditing.{LegalTablesAreSound, AreSound, AreAllFindings, HasRoom, told_row, FindsAll, SaysAllOf, Reads as ReadsTables}
use Rattle.circ.proofs.WholeTables.{findings_as}
use Rattle.circ.proofs.Audits.{not-doubled, none-old, tables-still, none-still, some-still, picture-still, as-both}

-- ---- sound rows, and none found

keeps-sound : (rows : Tables) → IsSound rows → (finding : Finding) → Keeps rows finding
keeps-sound rows sound (Claims copy) = sound.claims copy
keeps-sound rows sound (Binding hold) = sound.bindings hold
keeps-sound rows sound (Balance patron) = sound.balance patron
keeps-sound rows sound (Reference table n) = sound.references table n
keeps-sound rows sound (Numbers series n) = sound.numbers series n

-- Sound rows have no findings.
none-broken : (rows : Tables) (broken : List Finding) → IsSound rows → AreFindings rows broken → broken ≡ []
none-broken rows [] sound are = refl
none-broken rows (finding ∷ others) sound are = absurd (are.broken 0 finding (omega arith) (keeps-sound rows sound finding))

none-doubled : (rows : List BarcodeRow) (most : ℕ) (doubled : List ℕ) → 0 < most → AreDistinct rows → AreDoubled rows most doubled → doubled ≡ []
none-doubled rows most [] some distinct are = refl
none-doubled rows most (n ∷ others) some distinct are = absurd (not-doubled rows n distinct (are.first some))

-- Rows without findings are sound.
all-keep : (rows : Tables) → AreFindings rows [] → (finding : Finding) → Keeps rows finding
all-keep rows are finding = go (are.every finding tt)
  where
    go : Keeps rows finding ⊎ (Contains [] finding ⊎ IsLeftOut [] finding) → Keeps rows finding
    go (inl keeps) = keeps
    go (inr (inl contains)) = let within : contains.0 < 0 = contains.1 in absurd (omega (arith, within))
    go (inr (inr out)) = let full = out.full in absurd (omega (arith, full))

none-sound : (rows : Tables) → AreAllFindings [] [] rows → AreSound rows
none-sound rows are = record {
  laws = record {
    claims = λ copy. all-keep rows are.laws (Claims copy);
    bindings = λ hold. all-keep rows are.laws (Binding hold);
    balance = λ patron. all-keep rows are.laws (Balance patron);
    references = λ table n. all-keep rows are.laws (Reference table n);
    numbers = λ series n. all-keep rows are.laws (Numbers series n);
  };
  barcodes = are.barcodes.first (omega arith);
}

-- Where nothing is found, each part is empty.
nothing-is : (broken : List Finding) (doubled : List ℕ) (old : Option OldRow) → broken ≡ [] → doubled ≡ [] → old ≡ None → is_nothing broken doubled old ≡ true
nothing-is broken doubled old b d o = λ i. is_nothing (b i) (d i) (o i)

nothing-parts : (broken : List Finding) (doubled : List ℕ) (old : Option OldRow) → is_nothing broken doubled old ≡ true
    → (broken ≡ []) × (doubled ≡ []) × (old ≡ None)
nothing-parts [] [] None e = (refl, refl, refl)
nothing-parts [] [] (Some row) e = let never : ⊥ = cc in absurd never
nothing-parts [] (n ∷ doubled) old e =
    let zero : length (n ∷ doubled) ≡ 0 = eqb-true (length (n ∷ doubled)) 0 (and_parts (length (n ∷ doubled) == 0) (is_none old) e).0 in
    absurd (omega (arith, zero))
nothing-parts (finding ∷ broken) doubled old e =
    let zero : length (finding ∷ broken) ≡ 0 = eqb-true (length (finding ∷ broken)) 0
    (and_parts (length (finding ∷ broken) == 0) ((length doubled == 0) && is_none old) e).0 in
    absurd (omega (arith, zero))

-- ---- what is found

module _ {S : Type 0} (g : Ghosts S) (old mid new : Held S) (law : LegalTablesAreSound) (tables : Tables)
    (looked : Looked InLimits AreAuditTables IsReadable g old mid (Ok tables)) (legal : AnswersLegal g old mid (Ok tables)) (found : Findings)
    (are : AreAllFindings found.broken.items found.doubled.items tables) (o : Option OldRow)
    (later : Looked InLimits IsFirstOldRow IsReadable g mid new (Ok o)) (tells : TellsOldRows g mid new (Ok o))
    (told : found.old ≡ told_row (length found.broken.items + length found.doubled.items) o) where
  room-told : HasRoom found → found.old ≡ o
  room-told room = told ∙ ap (λ (b : Bool). if b then o else None) (lt-ltb (length found.broken.items + length found.doubled.items) MOST_FINDINGS room)

  stands : HasCleanDisk (state g new) → (x : Option OldRow) → o ≡ x
      → MatchOption x (HasNoOldRows (state g old).now) (λ row. HasOldRows (state g old).now)
  stands disk None is = none-still (state g old) (state g mid) (state g new) looked.reads later.reads disk (λ maps holds. (tells disk maps holds).0 is)
  stands disk (Some row) is = some-still (state g old) (state g mid) (state g new) looked.reads later.reads disk
      (λ maps holds none. let never : Some row ≡ None = sym is ∙ (tells disk maps holds).1 none in cc)

  first : HasCleanDisk (state g new) → (P : Picture) → InLimits P → HasPicture (state g old).now P → IsFirstOldRow P o
  first disk P limits shown =
      (later.shown disk P (picture-still (state g old) (state g mid) (state g new) looked.reads later.reads disk P shown) limits).0

  never : HasCleanDisk (state g new) → (H : History) → Shows (state g old) H → is_nothing found.broken.items found.doubled.items found.old ≡ true
  never disk H shows =
      let legals = legal-rows H shows.legal shows.forms in
      let sound : AreSound tables = law H tables shows.legal shows.forms (looked.shown (later.reads.clean disk) (picture H) shows.tables.now legals).0 in
      let b : found.broken.items ≡ [] = none-broken tables found.broken.items sound.laws are.laws in
      let few : length found.broken.items ≡ 0 = ap (λ (xs : List Finding). length xs) b in
      let d : found.doubled.items ≡ [] = none-doubled tables.barcodes (MOST_FINDINGS - length found.broken.items) found.doubled.items
      (omega (arith, few)) sound.barcodes are.barcodes in
      let none : length found.doubled.items ≡ 0 = ap (λ (xs : List ℕ). length xs) d in
      nothing-is found.broken.items found.doubled.items found.old b d
      (room-told (omega (arith, few, none)) ∙ empty o (first disk (picture H) legals shows.tables.now))
    where
      empty : (x : Option OldRow) → IsFirstOldRow (picture H) x → x ≡ None
      empty None first = refl
      empty (Some row) first = absurd (none-old H row first)

  pub finds-all : FindsAll g old new found
  finds-all = record {
    tables = tables;
    legal = λ disk. legal (later.reads.clean disk);
    read = λ disk P limits shown.
        let seen = looked.shown (later.reads.clean disk) P shown limits in (
          seen.0,
          are,
          λ all whole. findings_as P all tables whole seen.0 found.broken.items found.doubled.items are,
        );
    stands = λ room disk. subst (λ (x : Option OldRow). MatchOption x (HasNoOldRows (state g old).now) (λ row. HasOldRows (state g old).now))
        (sym (room-told room)) (stands disk o refl);
    first = λ room disk P limits shown. subst (IsFirstOldRow P) (sym (room-told room)) (first disk P limits shown);
    nothing = λ disk had. as-both (state g old) (state g mid) (state g new) looked.reads later.reads disk had
        (later.reads.answered disk (tables-still (state g old) (state g mid) (state g new) looked.reads later.reads disk had));
    never = never;
  }

-- ---- what is written

module _ {S : Type 0} (g : Ghosts S) (old new : Held S) (found : Findings) (finds : FindsAll g old new found) where
  abbrev broken : List Finding
  broken = found.broken.items

  abbrev doubled : List ℕ
  doubled = found.doubled.items

  abbrev lines : Bool → List ℕ
  lines nothing = if nothing then sound_line else ((finding_lines broken ++ doubled_lines doubled) ++ old_lines found.old)

  says-none : (broken ≡ []) × (doubled ≡ []) × (found.old ≡ None) → is_nothing broken doubled found.old ≡ true
      → SaysAllOf g old new (Some found) (all_lines broken doubled found.old) (all_exit broken doubled found.old)
  says-none parts e = inl (record {
    tables = finds.tables;
    line_is = ap lines e;
    exit_is = ap (λ (nothing : Bool). if nothing then Done else Refused) e;
    legal = finds.legal;
    read = λ disk P limits shown. let seen = finds.read disk P limits shown in
        (seen.0, sound finds.tables seen.1, λ all whole. sound all (seen.2 all whole));
    emptied = λ disk. subst (λ (x : Option OldRow). MatchOption x (HasNoOldRows (state g old).now) (λ row. HasOldRows (state g old).now)) parts.2
        (finds.stands room disk);
    nothing = finds.nothing;
  })
    where
      sound : (rows : Tables) → AreAllFindings broken doubled rows → AreSound rows
      sound rows are = none-sound rows (subst (λ (xs : List ℕ). AreAllFindings [] xs rows) parts.1
          (subst (λ (xs : List Finding). AreAllFindings xs doubled rows) parts.0 are))

      room : HasRoom found
      room =
          let b : length broken ≡ 0 = ap (λ (xs : List Finding). length xs) parts.0 in
          let d : length doubled ≡ 0 = ap (λ (xs : List ℕ). length xs) parts.1 in
          omega (arith, b, d)

  pub says-all : SaysAllOf g old new (Some found) (all_lines broken doubled found.old) (all_exit broken doubled found.old)
  says-all = go (is_nothing broken doubled found.old) refl
    where
      go : (b : Bool) → is_nothing broken doubled found.old ≡ b
          → SaysAllOf g old new (Some found) (all_lines broken doubled found.old) (all_exit broken doubled found.old)
      go true e = says-none (nothing-parts broken doubled found.old e) e
      go false e = inr (record {
        finds = finds;
        some = e;
        lines_are = refl;
        exit_is = ap (λ (nothing : Bool). if nothing then Done else Refused) e;
        never = λ disk H shows. true≢false (sym (finds.never disk H shows) ∙ e);
      })
