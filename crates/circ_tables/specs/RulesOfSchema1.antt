-- The circulation rules table of schemas 1 and 2, which is empty from schema 3 on.
use Rattle.std.proofs.Common.{inl, inr, refl}
use Rattle.std.specs.Prelude.{ℕ, List}
use Rattle.sqlite.specs.Listing.{understood}
use Rattle.sqlite.specs.Table.{Table as SqlTable}
use Rattle.sqlite_schema.specs.declared.schema.Index.{Index}
use Rattle.sqlite_tied.specs.Compute.{everything}
use Rattle.sql_maps.proofs.UniqueLemmas.{or_false, alone_by_index}
use Rattle.terms.specs.Limits.{IsRule1}
use Rattle.terms.specs.Pictures.{put_pair}
use Rattle.terms.specs.declared.row.RuleRow1.{RuleRow1}
use Rattle.circ_tables.specs.Cells.{pair_key, rule1_cells}
use Rattle.circ_tables.specs.Encoding.{Pair}
use Rattle.circ_tables.specs.Numbered.{grown}
use Rattle.circ_tables.specs.Paired.{IsPaired, IsCalm, IsAimed, in_each}
use Rattle.circ_tables.specs.Reading.{Table}
use Rattle.circ_tables.specs.Shape as shape
use Rattle.circ_tables.specs.TableSchemas.{since_first}

abbrev pub rules1 : Table Pair RuleRow1
rules1 = record {
  shape = shape.rules1;
  place = shape.rules1_place;
  since = 1;
  key = λ k. pair_key k.0 k.1;
  cells = rule1_cells;
  IsLegal = IsRule1;
  rows = λ P k. P.rules1 k.0 k.1;
  set = λ P k row. record P { rules1 = put_pair P.rules1 k.0 k.1 row };
}

texts_are : (more : List SqlTable) (others : List Index) → IsCalm (grown more others) → IsAimed (grown more others) shape.rules1
    → IsPaired (grown more others) shape.rules1_place shape.rules1
unfolding understood everything
texts_are more others calm aimed = record {
  fixed = record {
    listed = refl;
    uncounted = refl;
    calm = calm;
    target = aimed;
    alone = alone_by_index (grown more others) shape.rules1_place shape.rules1 _ refl (inr (inl refl)) refl refl refl;
  };
  primary = refl;
  first_cell = λ r. refl;
  second_cell = λ r. refl;
  shows = λ given r. refl;
  put = record { command_is = refl; bare = (refl, refl) };
  take = record { command_is = refl; bare = (refl, refl) };
  get = record { command_is = refl; bare = (refl, refl); unlisted = refl };
  all = record { command_is = refl; bare = (refl, refl); unlisted = refl };
}

pub rules1_are : (n : ℕ) → shape.HasTable 1 n → IsPaired (shape.schema_at n) shape.rules1_place shape.rules1
rules1_are = in_each shape.rules1_place shape.rules1 texts_are
    (since_first (λ n. IsAimed (shape.schema_at n) shape.rules1) (λ r new. or_false _) (λ r new. or_false _) (λ r new. or_false _)
    (λ r new. or_false _))
