-- The table of single closed days of branches.
use Rattle.std.proofs.Common.{inl, refl}
use Rattle.std.specs.Prelude.{ℕ, List, Some, None, is_some, if◌then◌else◌}
use Rattle.sqlite.specs.Listing.{understood}
use Rattle.sqlite.specs.Table.{Table as SqlTable}
use Rattle.sqlite_schema.specs.declared.schema.Index.{Index}
use Rattle.sqlite_tied.specs.Compute.{everything}
use Rattle.sql_maps.proofs.UniqueLemmas.{or_false, alone_by_index}
use Rattle.terms.specs.Pictures.{put_pair}
use Rattle.terms.specs.declared.row.ClosedDayRow.{ClosedDayRow}
use Rattle.circ_tables.specs.Cells.{pair_key}
use Rattle.circ_tables.specs.Encoding.{Pair, day_cells, IsClosedDay}
use Rattle.circ_tables.specs.Numbered.{grown}
use Rattle.circ_tables.specs.Paired.{IsPaired, IsCalm, IsAimed, in_each}
use Rattle.circ_tables.specs.Reading.{Table}
use Rattle.circ_tables.specs.Shape as shape
use Rattle.circ_tables.specs.TableSchemas.{since_first}

abbrev pub closed_days : Table Pair ClosedDayRow
closed_days = record {
  shape = shape.closed_days;
  place = shape.closed_days_place;
  since = 1;
  key = λ k. pair_key k.0 k.1;
  cells = day_cells;
  IsLegal = IsClosedDay;
  rows = λ P k. if P.closed_days k.0 k.1 then Some (record { branch = k.0; day = k.1 }) else None;
  set = λ P k row. record P { closed_days = put_pair P.closed_days k.0 k.1 (is_some row) };
}

texts_are : (more : List SqlTable) (others : List Index) → IsCalm (grown more others) → IsAimed (grown more others) shape.closed_days
    → IsPaired (grown more others) shape.closed_days_place shape.closed_days
unfolding understood everything
texts_are more others calm aimed = record {
  fixed = record {
    listed = refl;
    uncounted = refl;
    calm = calm;
    target = aimed;
    alone = alone_by_index (grown more others) shape.closed_days_place shape.closed_days _ refl (inl refl) refl refl refl;
  };
  primary = refl;
  first_cell = λ r. refl;
  second_cell = λ r. refl;
  shows = λ given r. refl;
  put = record { command_is = refl; bare = (refl, refl) };
  take = record { command_is = refl; bare = (refl, refl) };
  get = record { command_is = refl; bare = (refl, refl); unlisted = refl };
  all = record { command_is = refl; bare = (refl, refl); unlisted = refl };
}

pub closed_days_are : (n : ℕ) → shape.HasTable 1 n → IsPaired (shape.schema_at n) shape.closed_days_place shape.closed_days
closed_days_are = in_each shape.closed_days_place shape.closed_days texts_are
    (since_first (λ n. IsAimed (shape.schema_at n) shape.closed_days) (λ r new. or_false _) (λ r new. or_false _) (λ r new. or_false _)
    (λ r new. or_false _))
