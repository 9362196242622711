use Rattle.std.proofs.Common.{refl, Some, None, ap, rules, ◌∙◌}
use Rattle.sqlite.specs.Held.{state}
use Rattle.circ_tables.specs.Cells.{number, owner_number}
use Rattle.circ_tables.proofs.ColumnLemmas.{row_of_four}
use Rattle.circ_tables.proofs.PairedLemmas.{get_plain, pair_gets, pair_keyed}
use Rattle.circ_tables.specs.Kept.{kept_are}
use Rattle.circ_tables.specs.TableSchemas.{has_first}
use Rattle.terms.specs.declared.limits.TheConstants.{SCHEMA}
use Rattle.sqlite.specs.declared.types.Value.TheVariants.{Text}
use Rattle.circ_tables.proofs.SingleLemmas.{kept_of}
use Rattle.circ_tables.proofs.kept.get_kept.Goals as goal

pub returns-in_err-row : goal.returns-in_err-row
returns-in_err-row g c = kept_of c.args.owner c.args.key.now _
    (get_plain (kept_are SCHEMA has_first)) _ g.S.Store _ _ _ c.first_row.ensures.asks (search rules) (search rules)

pub returns-in_err-kept_reply-in-Some : goal.returns-in_err-kept_reply-in-Some
returns-in_err-kept_reply-in-Some g c =
    kept_of c.args.owner c.args.key.now _ (get_plain (kept_are SCHEMA has_first)) _ g.S.Store _ _ _ c.first_row.ensures.asks (search rules)
    (λ clean is maps holds.
    let found = rw (
      c.in-Some.is,
      c.params-to_sql.ensures,
      c.owner_number.ensures,
      c.params-to_sql-2.ensures,
      c.as_str.ensures.value,
    ) at (c.in_ok-row.ensures.finds clean) in
    let got = pair_gets (kept_are SCHEMA has_first) (number (owner_number c.args.owner)) (Text c.args.key.now) refl refl
    (state g.S.Store c.args.conn.now) (state g.S.Store c.first_row.new.conn) (Some c.in-Some.row) found maps holds in
    (c.in-Some.row, got.0, c.in_err-kept_reply-in-Some.ensures.stored (search rules)))

pub returns-in-Some : goal.returns-in-Some
returns-in-Some g c =
    kept_of c.args.owner c.args.key.now _ (get_plain (kept_are SCHEMA has_first)) _ g.S.Store _ _ _ c.first_row.ensures.asks
    (λ clean maps holds.
    let old = state g.S.Store c.args.conn.now in
    let found = rw (
      c.in-Some.is,
      c.params-to_sql.ensures,
      c.owner_number.ensures,
      c.params-to_sql-2.ensures,
      c.as_str.ensures.value,
    ) at (c.in_ok-row.ensures.finds clean) in
    let got = pair_gets (kept_are SCHEMA has_first) (number (owner_number c.args.owner)) (Text c.args.key.now) refl refl old
    (state g.S.Store c.first_row.new.conn) (Some c.in-Some.row) found maps holds in
    let keyed = pair_keyed (kept_are SCHEMA has_first) maps old.now holds _ _ got.0 in
    let read = c.in_ok-kept_reply-in-Some.ensures.columns in
    (got.0 ∙ ap Some (row_of_four c.in-Some.row _ _ _ _ read.0 keyed read.1 read.2), got.1)) (search rules)

pub returns : goal.returns
returns g c =
    kept_of c.args.owner c.args.key.now _ (get_plain (kept_are SCHEMA has_first)) _ g.S.Store _ _ _ c.first_row.ensures.asks
    (λ clean maps holds.
    let found = rw (
      c.in-None.is,
      c.params-to_sql.ensures,
      c.owner_number.ensures,
      c.params-to_sql-2.ensures,
      c.as_str.ensures.value,
    ) at (c.in_ok-row.ensures.finds clean) in
    pair_gets (kept_are SCHEMA has_first) (number (owner_number c.args.owner)) (Text c.args.key.now) refl refl
    (state g.S.Store c.args.conn.now) (state g.S.Store c.first_row.new.conn) None found maps holds) (search rules)
