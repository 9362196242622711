-- The holds table of schema 1, which is empty from schema 2 on.
use Rattle.std.proofs.Common.{ap, ◌∙◌}
use Rattle.std.specs.Prelude.{ℕ, pos, true, List, drop, refl, ◌&&◌}
use Rattle.sqlite.specs.Kind.TheVariants.{Integer}
use Rattle.sqlite.specs.Listing.{understood}
use Rattle.sqlite.specs.Order.{column}
use Rattle.sqlite.specs.Table.{Table as SqlTable}
use Rattle.sqlite_schema.specs.declared.schema.Index.{Index}
use Rattle.sqlite_tied.specs.Compute.{everything}
use Rattle.sql_maps.proofs.FillLemmas.{single_fills, suits_kind}
use Rattle.terms.specs.Limits.{IsHold1}
use Rattle.terms.specs.Pictures.{put}
use Rattle.terms.specs.declared.row.HoldRow1.{HoldRow1}
use Rattle.circ_tables.specs.Cells.{optional, number_key, hold1_cells}
use Rattle.circ_tables.specs.Encoding.{IsEncoded, Any}
use Rattle.circ_tables.specs.TableMaps.{all_held, to_list, from_list, with_held}
use Rattle.circ_tables.specs.Holds.{state_of, state_back}
use Rattle.circ_tables.specs.Numbered.{IsNumbered, IsNumberTable, grown, in_each, put_terms, put_shows, nat_of, option_of, option_back, optional_suits}
use Rattle.circ_tables.specs.Reading.{Table}
use Rattle.circ_tables.specs.Shape as shape
use Rattle.circ_tables.specs.TableSchemas.{has_first}

abbrev pub holds1 : Table ℕ HoldRow1
holds1 = record {
  shape = shape.holds1;
  place = shape.holds1_place;
  since = 1;
  key = number_key;
  cells = hold1_cells;
  IsLegal = IsHold1;
  rows = λ P. P.holds1;
  set = λ P k row. record P { holds1 = put P.holds1 k row };
}

texts_are : (more : List SqlTable) (others : List Index) → IsNumbered (grown more others) shape.holds1_place shape.holds1
unfolding understood everything
texts_are more others = record {
  listed = refl;
  primary = refl;
  uncounted = refl;
  key_cell = λ r. refl;
  shows = λ given r. refl;
  put = record { command_is = refl; bare = (refl, refl) };
  take = record { command_is = refl; bare = (refl, refl) };
  get = record { command_is = refl; bare = (refl, refl); unlisted = refl };
  all = record { command_is = refl; bare = (refl, refl); unlisted = refl };
  first = record { command_is = refl; bare = (refl, refl); unlisted = refl };
  batch = record { command_is = refl; bare = (refl, refl); unlisted = refl };
}

pub holds1_are : IsNumberTable holds1 (λ r. r.hold)
holds1_are = record {
  newest = has_first;
  texts = in_each shape.holds1_place shape.holds1 texts_are;
  keyed = λ k. refl;
  first_cell = λ r. refl;
  from_one = λ r legal. legal.0.0;
  fills = λ r. single_fills shape.holds1 (pos r.hold) (drop 1 (hold1_cells r)) (put_terms shape.holds1)
      (put_shows shape.holds1) 8 7 refl refl
      (ap (λ b. b && (suits_kind Integer (optional r.limit_day) && true)) (optional_suits r.copy)
      ∙ ap (λ b. b && true) (optional_suits r.limit_day)) refl (λ there rest. refl) (λ there r new. refl) (λ id. refl);
  back = λ v. record {
    hold = nat_of (column v 0);
    patron = nat_of (column v 1);
    title = nat_of (column v 2);
    branch = nat_of (column v 3);
    state = state_of (nat_of (column v 4));
    copy = option_of (column v 5);
    limit_day = option_of (column v 6);
  };
  back_is = λ r _ i. record {
    hold = r.hold;
    patron = r.patron;
    title = r.title;
    branch = r.branch;
    state = state_back r.state i;
    copy = option_back r.copy i;
    limit_day = option_back r.limit_day i;
  };
  rows_are = λ maps P is. is.holds1;
  legal = λ P is. is.holds1;
  with_rows = λ P u. record P { holds1 = u };
  set_is = λ P k row. refl;
  framed = λ maps P m u is held. from_list _ _
      (with_held (all_held P) shape.holds1_place (λ w. IsEncoded Any number_key hold1_cells w u) m maps (to_list _ _ is) held);
}
