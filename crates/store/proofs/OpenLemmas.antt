-- What an opening finds of a library, and when it finds none of a known schema.
use Rattle.std.proofs.Common.{◌≡◌, ℕ, List, refl, ap, sym, subst, ◌∙◌}
use Rattle.sqlite.specs.Effect.{Database}
use Rattle.sqlite.specs.Held.{Held, state}
use Rattle.sqlite.specs.Order.{Row, column}
use Rattle.sqlite.specs.Schema.{Schema}
use Rattle.sqlite.specs.State.{HasCleanDisk, Survives}
use Rattle.sqlite.specs.Store.{Ghosts}
use Rattle.sqlite.specs.Table.{Table}
use Rattle.sqlite_schema.specs.declared.schema.Index.{Index}
use Rattle.sql_maps.specs.Maps.{Maps, Holds}
use Rattle.circ_tables.specs.Cells.{number, number_key, meta_cells}
use Rattle.circ_tables.specs.Encoding.{Encodes}
use Rattle.circ_tables.specs.Numbered.{grown, schema_grown}
use Rattle.circ_tables.specs.SchemaNumber.{NamesSchema}
use Rattle.circ_tables.specs.Shape.{schema_at, later_tables, later_indexes}
use Rattle.circ_tables.proofs.InverseLemmas.{meta_alone}
use Rattle.terms.specs.Pictures.{Picture}
use Rattle.store.specs.Commit.{RefusesLibrary}
use Rattle.store.specs.Schemas.{IsKnown}

-- a known schema begins with the tables of the first
grown_at : (n : ℕ) → (more : List Table) × (others : List Index) × (schema_at n ≡ grown more others)
grown_at n = (later_tables n, later_indexes n, schema_grown n)

-- so what is said of all schemas that do is said of it
pub of_known : (Is : Maps → Type 0) (db : Database)
    → ((more : List Table) (others : List Index) (maps : Maps) → Holds (grown more others) db maps → Is maps) → (n : ℕ) → IsKnown n
    → (maps : Maps) → Holds (schema_at n) db maps → Is maps
of_known Is db all n known maps holds = let it = grown_at n in all it.0 it.1 maps (subst (λ (s : Schema). Holds s db maps) it.2 holds)

-- the tables of a picture name its schema
pub picture_names : (maps : Maps) (P : Picture) → Encodes maps P → NamesSchema maps P.meta.schema
picture_names maps P is = record { key = number_key 1; row = meta_cells P.meta; there = is.meta.there 1 tt; alone = meta_alone maps P is; schema = refl }

-- one row names one schema
pub names_once : (maps : Maps) (m n : ℕ) → NamesSchema maps m → NamesSchema maps n → m ≡ n
names_once maps m n one other =
    let same : number m ≡ number n = sym one.schema ∙ ap (λ (v : Row). column v 1) (other.alone one.key one.row one.there) ∙ other.schema in
    cc

pub refuses : {S : Type 0} (g : Ghosts S) (conn last : Held S) → Survives (state g conn) (state g last) (λ _. ⊥)
    → (HasCleanDisk (state g last) → (more : List Table) (others : List Index) (maps : Maps)
    → Holds (grown more others) (state g conn).now maps → (named : ℕ) → IsKnown named → ¬ NamesSchema maps named)
    → RefusesLibrary g conn
refuses g conn last survives unnamed = record {
  last = last;
  survives = survives;
  unnamed = λ clean. of_known (λ maps. (named : ℕ) → IsKnown named → ¬ NamesSchema maps named) (state g conn).now (unnamed clean);
  unknown = λ clean n at P shown known.
      of_known (λ maps. (named : ℕ) → IsKnown named → ¬ NamesSchema maps named) (state g conn).now
      (unnamed clean) n at shown.maps shown.holds P.meta.schema known (picture_names shown.maps P shown.encodes);
}
