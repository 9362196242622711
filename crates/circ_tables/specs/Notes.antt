-- The table of notes, which exists from schema 4 on.
use Rattle.std.proofs.Common.{ap}
use Rattle.std.specs.Prelude.{ℕ, pos, true, drop, refl, ◌&&◌}
use Rattle.sqlite.specs.Listing.{understood}
use Rattle.sqlite.specs.Order.{column}
use Rattle.sqlite_tied.specs.Compute.{everything}
use Rattle.sql_maps.proofs.FillLemmas.{single_fills}
use Rattle.terms.specs.Limits.{IsNote}
use Rattle.terms.specs.Pictures.{put}
use Rattle.terms.specs.declared.row.NoteRow.{NoteRow}
use Rattle.circ_tables.specs.Cells.{number_key, note_cells}
use Rattle.circ_tables.specs.Encoding.{IsEncoded, Any}
use Rattle.circ_tables.specs.TableMaps.{all_held, to_list, from_list, with_held}
use Rattle.circ_tables.specs.Numbered.{IsNumbered, IsNumberTable, put_terms, put_shows, nat_of, option_text_of, option_text_back, optional_text_suits}
use Rattle.circ_tables.specs.Reading.{Table}
use Rattle.circ_tables.specs.Shape as shape
use Rattle.circ_tables.specs.TableSchemas.{has_fourth, since_fourth}

abbrev pub notes : Table ℕ NoteRow
notes = record {
  shape = shape.notes;
  place = shape.notes_place;
  since = 4;
  key = number_key;
  cells = note_cells;
  IsLegal = IsNote;
  rows = λ P. P.notes;
  set = λ P k row. record P { notes = put P.notes k row };
}

texts_are : IsNumbered shape.schema shape.notes_place shape.notes
unfolding understood everything
texts_are = record {
  listed = refl;
  primary = refl;
  uncounted = refl;
  key_cell = λ r. refl;
  shows = λ given r. refl;
  put = record { command_is = refl; bare = (refl, refl) };
  take = record { command_is = refl; bare = (refl, refl) };
  get = record { command_is = refl; bare = (refl, refl); unlisted = refl };
  all = record { command_is = refl; bare = (refl, refl); unlisted = refl };
  first = record { command_is = refl; bare = (refl, refl); unlisted = refl };
  batch = record { command_is = refl; bare = (refl, refl); unlisted = refl };
}

pub notes_are : IsNumberTable notes (λ r. r.line)
notes_are = record {
  newest = has_fourth;
  texts = since_fourth (λ n. IsNumbered (shape.schema_at n) shape.notes_place shape.notes) texts_are;
  keyed = λ k. refl;
  first_cell = λ r. refl;
  from_one = λ r legal. legal.0.0;
  fills = λ r. single_fills shape.notes (pos r.line) (drop 1 (note_cells r)) (put_terms shape.notes)
      (put_shows shape.notes) 4 3 refl refl (ap (λ b. b && true) (optional_text_suits r.text)) refl (λ there rest. refl) (λ there r new. refl)
      (λ id. refl);
  back = λ v. record { line = nat_of (column v 0); branch = nat_of (column v 1); text = option_text_of (column v 2) };
  back_is = λ r _ i. record { line = r.line; branch = r.branch; text = option_text_back r.text i };
  rows_are = λ maps P is. is.notes;
  legal = λ P is. is.notes;
  with_rows = λ P u. record P { notes = u };
  set_is = λ P k row. refl;
  framed = λ maps P m u is held. from_list _ _
      (with_held (all_held P) shape.notes_place (λ w. IsEncoded Any number_key note_cells w u) m maps (to_list _ _ is) held);
}
