-- The table of titles.
use Rattle.std.specs.Prelude.{ℕ, pos, List, drop, refl}
use Rattle.sqlite.specs.Listing.{understood}
use Rattle.sqlite.specs.Order.{column}
use Rattle.sqlite.specs.Table.{Table as SqlTable}
use Rattle.sqlite_schema.specs.declared.schema.Index.{Index}
use Rattle.sqlite_tied.specs.Compute.{everything}
use Rattle.sql_maps.proofs.FillLemmas.{single_fills}
use Rattle.terms.specs.Limits.{IsTitle}
use Rattle.terms.specs.Pictures.{put}
use Rattle.terms.specs.declared.row.TitleRow.{TitleRow}
use Rattle.circ_tables.specs.Cells.{number_key, title_cells}
use Rattle.circ_tables.specs.Encoding.{IsEncoded, Any}
use Rattle.circ_tables.specs.TableMaps.{all_held, to_list, from_list, with_held}
use Rattle.circ_tables.specs.Numbered.{IsNumbered, IsNumberTable, grown, in_each, put_terms, put_shows, nat_of, text_of}
use Rattle.circ_tables.specs.Reading.{Table}
use Rattle.circ_tables.specs.Shape as shape
use Rattle.circ_tables.specs.TableSchemas.{has_first}

abbrev pub titles : Table ℕ TitleRow
titles = record {
  shape = shape.titles;
  place = shape.titles_place;
  since = 1;
  key = number_key;
  cells = title_cells;
  IsLegal = IsTitle;
  rows = λ P. P.titles;
  set = λ P k row. record P { titles = put P.titles k row };
}

texts_are : (more : List SqlTable) (others : List Index) → IsNumbered (grown more others) shape.titles_place shape.titles
unfolding understood everything
texts_are more others = record {
  listed = refl;
  primary = refl;
  uncounted = refl;
  key_cell = λ r. refl;
  shows = λ given r. refl;
  put = record { command_is = refl; bare = (refl, refl) };
  take = record { command_is = refl; bare = (refl, refl) };
  get = record { command_is = refl; bare = (refl, refl); unlisted = refl };
  all = record { command_is = refl; bare = (refl, refl); unlisted = refl };
  first = record { command_is = refl; bare = (refl, refl); unlisted = refl };
  batch = record { command_is = refl; bare = (refl, refl); unlisted = refl };
}

pub titles_are : IsNumberTable titles (λ r. r.title)
titles_are = record {
  newest = has_first;
  texts = in_each shape.titles_place shape.titles texts_are;
  keyed = λ k. refl;
  first_cell = λ r. refl;
  from_one = λ r legal. legal.0.0;
  fills = λ r. single_fills shape.titles (pos r.title) (drop 1 (title_cells r)) (put_terms shape.titles)
      (put_shows shape.titles) 3 2 refl refl refl refl (λ there rest. refl) (λ there r new. refl) (λ id. refl);
  back = λ v. record { title = nat_of (column v 0); text = text_of (column v 1) };
  back_is = λ r _ i. record { title = r.title; text = r.text };
  rows_are = λ maps P is. is.titles;
  legal = λ P is. is.titles;
  with_rows = λ P u. record P { titles = u };
  set_is = λ P k row. refl;
  framed = λ maps P m u is held. from_list _ _
      (with_held (all_held P) shape.titles_place (λ w. IsEncoded Any number_key title_cells w u) m maps (to_list _ _ is) held);
}
