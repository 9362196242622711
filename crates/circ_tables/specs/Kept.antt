-- The table of what is kept under callers' keys.
use Rattle.std.proofs.Common.{inl, inr, refl}
use Rattle.std.specs.Prelude.{ℕ, List}
use Rattle.sqlite.specs.Listing.{understood}
use Rattle.sqlite.specs.Table.{Table as SqlTable}
use Rattle.sqlite_schema.specs.declared.schema.Index.{Index}
use Rattle.sqlite_tied.specs.Compute.{everything}
use Rattle.sql_maps.proofs.UniqueLemmas.{or_false, alone_by_index}
use Rattle.terms.specs.Pictures.{put_kept}
use Rattle.terms.specs.declared.command.Owner.{Owner}
use Rattle.terms.specs.declared.row.KeptRow.{KeptRow}
use Rattle.circ_tables.specs.Cells.{kept_key, kept_cells}
use Rattle.circ_tables.specs.Encoding.{IsReadableKept}
use Rattle.circ_tables.specs.Numbered.{grown}
use Rattle.circ_tables.specs.Paired.{IsPaired, IsCalm, IsAimed, in_each}
use Rattle.circ_tables.specs.Reading.{Table}
use Rattle.circ_tables.specs.Shape as shape
use Rattle.circ_tables.specs.TableSchemas.{since_first}

abbrev pub kept : Table (Owner × List ℕ) KeptRow
kept = record {
  shape = shape.kept;
  place = shape.kept_place;
  since = 1;
  key = λ k. kept_key k.0 k.1;
  cells = kept_cells;
  IsLegal = IsReadableKept;
  rows = λ P k. P.kept k.0 k.1;
  set = λ P k row. record P { kept = put_kept P.kept k.0 k.1 row };
}

texts_are : (more : List SqlTable) (others : List Index) → IsCalm (grown more others) → IsAimed (grown more others) shape.kept
    → IsPaired (grown more others) shape.kept_place shape.kept
unfolding understood everything
texts_are more others calm aimed = record {
  fixed = record {
    listed = refl;
    uncounted = refl;
    calm = calm;
    target = aimed;
    alone = alone_by_index (grown more others) shape.kept_place shape.kept _ refl (inr (inr (inr (inl refl)))) refl refl refl;
  };
  primary = refl;
  first_cell = λ r. refl;
  second_cell = λ r. refl;
  shows = λ given r. refl;
  put = record { command_is = refl; bare = (refl, refl) };
  take = record { command_is = refl; bare = (refl, refl) };
  get = record { command_is = refl; bare = (refl, refl); unlisted = refl };
  all = record { command_is = refl; bare = (refl, refl); unlisted = refl };
}

pub kept_are : (n : ℕ) → shape.HasTable 1 n → IsPaired (shape.schema_at n) shape.kept_place shape.kept
kept_are = in_each shape.kept_place shape.kept texts_are
    (since_first (λ n. IsAimed (shape.schema_at n) shape.kept) (λ r new. or_false _) (λ r new. or_false _) (λ r new. or_false _)
    (λ r new. or_false _))
