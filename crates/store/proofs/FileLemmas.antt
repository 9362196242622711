-- What a store over two files finds in them, from what the database finds.
use Rattle.std.proofs.Common.{◌≡◌, ◌<◌, ◌≤◌, IsTrue, ℕ, inl, inr, [], length, sym, ap, subst, ◌∙◌, arith}
use Rattle.std.proofs.Math.Logic.{∥∥₁_map}
use Rattle.sqlite_catalog.proofs.ReadLemmas.{lists_once}
use Rattle.sqlite_disk.specs.Disk.{MoreFaults}
use Rattle.sqlite.proofs.ListingLemmas.{empty_is_sound}
use Rattle.sqlite.specs.Effect.{Database, IsDatabase}
use Rattle.sqlite.specs.Files.{HoldsDatabase, AreFoundIn}
use Rattle.sqlite.specs.Held.{Held, state}
use Rattle.sqlite.specs.Recovery.{Image}
use Rattle.sqlite.specs.State.{State, HasCleanDisk}
use Rattle.sqlite.specs.Store.{Ghosts}
use Rattle.sqlite.specs.Tree.{Trees}
use Rattle.sqlite_trees.specs.Objects.{catalog_tree}
use Rattle.sql_maps.specs.Maps.{Holds, no_maps}
use Rattle.sql_maps.specs.Shapes.{no_schema}
use Rattle.terms.specs.Pictures.{Picture}
use Rattle.circ_tables.specs.Encoding.{HasPictureAt}
use Rattle.circ_tables.specs.Shape.{schema_at}
use Rattle.store.specs.Commit.{CreatesLibrary, OpensLibrary}
use Rattle.store.specs.Schemas.{IsKnown}
use Rattle.store.specs.Files.{HoldsEitherAt, Connects, OpensImage, OpensOver, CreatesOver}
use Rattle.store.specs.Stops.{LeavesEitherAt, StandsFor}
use Rattle.store.proofs.StopLemmas.{finds_same, same_database}

-- a database that lists nothing has no table
pub holds_nothing : (db : Database) → IsDatabase db → db.trees catalog_tree ≡ [] → Holds no_schema db no_maps
holds_nothing db sound none = record {
  sound = sound;
  schema_is = lists_once _ db.schema no_schema sound.lists (empty_is_sound db.trees none).lists;
  tables = λ at table is. absurd (let never = is in cc);
}

-- in a file with no bytes nothing is found
nothing_listed : (image : Image) (db : Trees) → image.db ≡ [] → AreFoundIn image db → db catalog_tree ≡ []
nothing_listed image db none (inl adopted) =
    let some : 0 < length image.db = adopted.3.found.present in
    let never : length image.db ≡ 0 = ap length none in
    absurd (omega (arith, some, never))
nothing_listed image db none (inr empty) = empty.1.1

found_over : {S : Type 0} (g : Ghosts S) (image : Image) (conn it : Held S) → Connects image (state g conn) → OpensLibrary g conn it
    → HasCleanDisk (state g it) → IsTrue (state g it).is_open → OpensImage image (state g it)
found_over g image conn it connects opens clean is =
    let early : HasCleanDisk (state g conn) = omega (arith, opens.survives.clean) in
    let from = connects early in
    let same = opens.same clean is in
    let found = finds_same image (state g conn) (state g it) same.1 from.found in
    let sound : IsDatabase (state g it).committed = subst IsDatabase (sym same.1) (from.live from.opens.is_open).1 in
    let known = λ (n : ℕ) (at : IsKnown n) (P : Picture) (h : HasPictureAt n (state g it).committed P). opens.found clean is n at P
    (subst (λ d. HasPictureAt n d P) same.1 h) in
    let shown = λ (n : ℕ) (at : IsKnown n) (db : Database) (P : Picture) (held : HoldsDatabase image db.trees) (shows : HasPictureAt n db P).
    (known n at P (subst (λ d. HasPictureAt n d P)
    (sym (same_database (state g it).committed db sound shows.holds.sound (found.holds db.trees held))) shows)).0 in
    record {
      found = found;
      sound = sound;
      settled = same.0 ∙ sym same.1;
      known = known;
      shown = shown;
      either = λ n m old new P Q held. ∥∥₁_map held
          (λ one. elim one.1 [ inl h ↦ inl (shown n old one.0 P one.2 h) | inr h ↦ inr (shown m new one.0 Q one.2 h) ]);
    }

-- a fault more is one at least
failed : (old new : ℕ) → MoreFaults old new → 1 ≤ new
failed old new more = omega (arith, more)

pub opened_over : {S : Type 0} (g : Ghosts S) (image : Image) (conn it : Held S) → Connects image (state g conn) → OpensLibrary g conn it
    → OpensOver image (state g it)
opened_over g image conn it connects opens = record {
  found = found_over g image conn it connects opens;
  is_open = λ clean.
      let early : HasCleanDisk (state g conn) = omega (arith, opens.survives.clean, clean) in
      elim (opens.survives.closes clean (connects early).opens.is_open) [
        | inl is ↦ inl is
        | inr more ↦ inr (failed (state g conn).faults (state g it).faults more)
      ];
}

pub created_over : {S : Type 0} (g : Ghosts S) (image : Image) (conn it : Held S) → Connects image (state g conn) → CreatesLibrary g conn it
    → CreatesOver image (state g it)
created_over g image conn it connects creates = record {
  none = λ clean db held n maps holds.
      let from = connects (creates.clean clean) in
      let committed = same_database (state g conn).committed db (from.live from.opens.is_open).1 holds.sound (from.found.holds db.trees held) in
      creates.none clean n maps (subst (λ (d : Database). Holds (schema_at n) d maps) (sym (from.opens.clean ∙ committed)) holds);
  made = λ clean none.
      let from = connects (creates.clean clean) in
      let listed = ap (λ (d : Database). d.trees catalog_tree) from.opens.clean
      ∙ nothing_listed image (state g conn).committed.trees none from.found.reads in
      creates.empty clean (holds_nothing (state g conn).now (from.live from.opens.is_open).0 listed);
}

-- what files stand for after a stop, in pictures
pub stands_either : (was : State) (image : Image) → StandsFor was.may_leave image → (n m : ℕ) (P Q : Picture) → LeavesEitherAt n m was P Q
    → HoldsEitherAt n m image P Q
stands_either was image stands n m P Q leaves =
    ∥∥₁_map stands (λ one. let left = leaves one.0 one.1 in (left.0, left.1, subst (HoldsDatabase image) left.2 one.2))

-- a database whose schema has no table
pub schema_less : (db : Database) → IsDatabase db → db.schema ≡ no_schema → Holds no_schema db no_maps
schema_less db sound none = record { sound = sound; schema_is = none; tables = λ at table is. absurd (let never = is in cc) }
