-- The table of holds, which exists from schema 2 on.
use Rattle.std.proofs.Common.{ap, ◌∙◌}
use Rattle.std.specs.Prelude.{◌≡◌, ℕ, pos, true, List, [], drop, refl, zero, suc, ◌&&◌}
use Rattle.sqlite.specs.Kind.TheVariants.{Integer}
use Rattle.sqlite.specs.Listing.{understood}
use Rattle.sqlite.specs.Order.{column}
use Rattle.sqlite.specs.Table.{Table as SqlTable}
use Rattle.sqlite_schema.specs.declared.schema.Index.{Index}
use Rattle.sqlite_tied.specs.Compute.{everything}
use Rattle.sql_maps.proofs.FillLemmas.{single_fills, suits_kind}
use Rattle.terms.specs.Limits.{IsHold}
use Rattle.terms.specs.Pictures.{put}
use Rattle.terms.specs.declared.row.HoldRow.{HoldRow}
use Rattle.terms.specs.declared.row.HoldState.{HoldState}
use Rattle.terms.specs.declared.row.HoldState.TheVariants.{Waiting, Ready, Filled, Cancelled, Expired}
use Rattle.circ_tables.specs.Cells.{optional, number_key, state_number, hold_cells}
use Rattle.circ_tables.specs.Encoding.{IsEncoded, Any}
use Rattle.circ_tables.specs.TableMaps.{all_held, to_list, from_list, with_held}
use Rattle.circ_tables.specs.Numbered.{IsNumbered, IsNumberTable, grown_from, put_terms, put_shows, nat_of, option_of, option_back, optional_suits}
use Rattle.circ_tables.specs.Reading.{Table}
use Rattle.circ_tables.specs.Shape as shape
use Rattle.circ_tables.specs.TableSchemas.{has_second, since_second}

abbrev pub holds : Table ℕ HoldRow
holds = record {
  shape = shape.holds;
  place = shape.holds_place;
  since = 2;
  key = number_key;
  cells = hold_cells;
  IsLegal = IsHold;
  rows = λ P. P.holds;
  set = λ P k row. record P { holds = put P.holds k row };
}

abbrev pub state_of : ℕ → HoldState
state_of zero = Waiting
state_of (suc zero) = Ready
state_of (suc (suc zero)) = Filled
state_of (suc (suc (suc zero))) = Cancelled
state_of _ = Expired

pub state_back : (s : HoldState) → state_of (state_number s) ≡ s
state_back Waiting = refl
state_back Ready = refl
state_back Filled = refl
state_back Cancelled = refl
state_back Expired = refl

texts_are : (more : List SqlTable) (others : List Index) → IsNumbered (grown_from shape.second more others) shape.holds_place shape.holds
unfolding understood everything
texts_are more others = record {
  listed = refl;
  primary = refl;
  uncounted = refl;
  key_cell = λ r. refl;
  shows = λ given r. refl;
  put = record { command_is = refl; bare = (refl, refl) };
  take = record { command_is = refl; bare = (refl, refl) };
  get = record { command_is = refl; bare = (refl, refl); unlisted = refl };
  all = record { command_is = refl; bare = (refl, refl); unlisted = refl };
  first = record { command_is = refl; bare = (refl, refl); unlisted = refl };
  batch = record { command_is = refl; bare = (refl, refl); unlisted = refl };
}

pub holds_are : IsNumberTable holds (λ r. r.hold)
holds_are = record {
  newest = has_second;
  texts = since_second (λ n. IsNumbered (shape.schema_at n) shape.holds_place shape.holds) (texts_are [] [])
      (texts_are (shape.tables_after shape.second 3) (shape.indexes_after shape.second 3))
      (texts_are (shape.tables_after shape.second 4) (shape.indexes_after shape.second 4));
  keyed = λ k. refl;
  first_cell = λ r. refl;
  from_one = λ r legal. legal.0.0;
  fills = λ r. single_fills shape.holds (pos r.hold) (drop 1 (hold_cells r)) (put_terms shape.holds) (put_shows shape.holds) 9 8 refl refl
      (ap (λ b. b && (suits_kind Integer (optional r.limit_day) && (suits_kind Integer (optional r.first_day) && true)))
      (optional_suits r.copy) ∙ ap (λ b. b && (suits_kind Integer (optional r.first_day) && true)) (optional_suits r.limit_day)
      ∙ ap (λ b. b && true) (optional_suits r.first_day)) refl (λ there rest. refl) (λ there r new. refl) (λ id. refl);
  back = λ v. record {
    hold = nat_of (column v 0);
    patron = nat_of (column v 1);
    title = nat_of (column v 2);
    branch = nat_of (column v 3);
    state = state_of (nat_of (column v 4));
    copy = option_of (column v 5);
    limit_day = option_of (column v 6);
    first_day =
        option_of (column v 7);
  };
  back_is = λ r _ i. record {
    hold = r.hold;
    patron = r.patron;
    title = r.title;
    branch = r.branch;
    state = state_back r.state i;
    copy = option_back r.copy i;
    limit_day = option_back r.limit_day i;
    first_day = option_back r.first_day i;
  };
  rows_are = λ maps P is. is.holds;
  legal = λ P is. is.holds;
  with_rows = λ P u. record P { holds = u };
  set_is = λ P k row. refl;
  framed = λ maps P m u is held. from_list _ _
      (with_held (all_held P) shape.holds_place (λ w. IsEncoded Any number_key hold_cells w u) m maps (to_list _ _ is) held);
}
