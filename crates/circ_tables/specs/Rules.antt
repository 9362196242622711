-- The table of circulation rules, which exists from schema 3 on.
use Rattle.std.proofs.Common.{inl, inr, refl}
use Rattle.std.specs.Prelude.{ℕ, List, []}
use Rattle.sqlite.specs.Listing.{understood}
use Rattle.sqlite.specs.Table.{Table as SqlTable}
use Rattle.sqlite_schema.specs.declared.schema.Index.{Index}
use Rattle.sqlite_tied.specs.Compute.{everything}
use Rattle.sql_maps.proofs.UniqueLemmas.{or_false, alone_by_index}
use Rattle.terms.specs.Limits.{IsRule}
use Rattle.terms.specs.Pictures.{put_pair}
use Rattle.terms.specs.declared.row.RuleRow.{RuleRow}
use Rattle.circ_tables.specs.Cells.{pair_key, rule_cells}
use Rattle.circ_tables.specs.Encoding.{Pair}
use Rattle.circ_tables.specs.Numbered.{grown_from}
use Rattle.circ_tables.specs.Paired.{IsPaired, IsCalm, IsAimed}
use Rattle.circ_tables.specs.Reading.{Table}
use Rattle.circ_tables.specs.Shape as shape
use Rattle.circ_tables.specs.TableSchemas.{since_third}

abbrev pub rules : Table Pair RuleRow
rules = record {
  shape = shape.rules;
  place = shape.rules_place;
  since = 3;
  key = λ k. pair_key k.0 k.1;
  cells = rule_cells;
  IsLegal = IsRule;
  rows = λ P k. P.rules k.0 k.1;
  set = λ P k row. record P { rules = put_pair P.rules k.0 k.1 row };
}

texts_are : (more : List SqlTable) (others : List Index) → IsCalm (grown_from shape.third more others)
    → IsAimed (grown_from shape.third more others) shape.rules
    → IsPaired (grown_from shape.third more others) shape.rules_place shape.rules
unfolding understood everything
texts_are more others calm aimed = record {
  fixed = record {
    listed = refl;
    uncounted = refl;
    calm = calm;
    target = aimed;
    alone = alone_by_index (grown_from shape.third more others) shape.rules_place shape.rules _ refl
        (inr (inr (inr (inr (inr (inr (inr (inr (inr (inr (inr (inr (inr (inr (inr (inr (inl refl))))))))))))))))) refl refl refl;
  };
  primary = refl;
  first_cell = λ r. refl;
  second_cell = λ r. refl;
  shows = λ given r. refl;
  put = record { command_is = refl; bare = (refl, refl) };
  take = record { command_is = refl; bare = (refl, refl) };
  get = record { command_is = refl; bare = (refl, refl); unlisted = refl };
  all = record { command_is = refl; bare = (refl, refl); unlisted = refl };
}

pub rules_are : (n : ℕ) → shape.HasTable 3 n → IsPaired (shape.schema_at n) shape.rules_place shape.rules
rules_are = since_third (λ n. IsPaired (shape.schema_at n) shape.rules_place shape.rules)
    (texts_are [] [] (λ keys depth tree olds news. refl) (λ r new. or_false _))
    (texts_are (shape.tables_after shape.third 4) (shape.indexes_after shape.third 4) (λ keys depth tree olds news. refl) (λ r new. or_false _))
