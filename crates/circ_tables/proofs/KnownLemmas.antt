-- The text that asks for the rows of `meta` is understood if that table exists.
use Rattle.std.proofs.Common.{◌≡◌, ◌⊎◌, inl, inr, arith, ℕ, List, [], ◌∷◌, length, Option, refl, sym, ap, subst, ◌∙◌, ◌<◌}
use Rattle.sqlite.specs.Clock.{timed}
use Rattle.sqlite.specs.Command.TheVariants.{Select}
use Rattle.sqlite.specs.Effect.{Database, RefusesToRead, RefusesQuery}
use Rattle.sqlite.specs.Given.{IsPlain}
use Rattle.sqlite.specs.Listing.{understood}
use Rattle.sqlite.specs.Order.{Row}
use Rattle.sqlite.specs.State.{State, store_error, Shown, FailsToShow, FailsToQuery, IsNotRun, IsTooLate}
use Rattle.sqlite.specs.declared.error.Error.TheVariants.{SqlInputError}
use Rattle.sqlite.proofs.Callers.{command_of}
use Rattle.sqlite_resolve.specs.declared.error.CompileError.{CompileError}
use Rattle.sqlite_tied.specs.Compute.{everything}
use Rattle.sqlite_trees.specs.declared.error.StoreError.{StoreError}
use Rattle.sqlite_trees.specs.declared.error.StoreError.TheVariants.{OutOfMemory, Io, Corrupt, Full, Broken, Unstorable}
use Rattle.sqlite.specs.Table.{Table}
use Rattle.sqlite_schema.specs.declared.schema.Index.{Index}
use Rattle.sql_maps.specs.Maps.{Maps, Holds}
use Rattle.circ_tables.specs.SchemaNumber.{NamesSchema}
use Rattle.circ_tables.specs.Numbered.{grown}
use Rattle.circ_tables.specs.Shape.{meta, meta_place}
use Rattle.circ_tables.specs.declared.meta.TheConstants.{ALL_META}
use Rattle.circ_tables.proofs.FoundLemmas.{all_meta_plain, only_meta}

abbrev all_meta_text : List ℕ
all_meta_text = ALL_META.now

not_store : (cause : StoreError) (f : CompileError) → SqlInputError f ≡ store_error cause → ⊥
not_store OutOfMemory f e = cc
not_store Io f e = cc
not_store Corrupt f e = cc
not_store Full f e = cc
not_store Broken f e = cc
not_store Unstorable f e = cc

not_refused : (limit : Option ℕ) (db : Database) (q : _) (params : Row) (f : CompileError) → RefusesQuery limit db q params (SqlInputError f) → ⊥
not_refused limit db q params f (inl h) = let e = h.0 in cc
not_refused limit db q params f (inr (inl h)) = let e = h.0 in cc
not_refused limit db q params f (inr (inr h)) = let e = h.0 in cc

module _ (more : List Table) (others : List Index) where
  meta_selects : (q : _) × (names : _) × (command_of (understood (grown more others) all_meta_text) ≡ Select q names)
  unfolding understood everything
  meta_selects = (_, _, refl)

  -- so that it is not refused as a text
  pub meta_understood : (old new : State) (f : CompileError) → old.now.schema ≡ grown more others
      → FailsToQuery all_meta_text [] old new (SqlInputError f) ⊎ IsTooLate all_meta_text [] old new (SqlInputError f) → ⊥
  unfolding FailsToQuery IsNotRun
  meta_understood old new f is (inl (inl (inl h))) = elim h.0 [
    | inl bad ↦ subst IsPlain bad.1 (all_meta_plain more others old.now.schema is)
    | inr other ↦ elim other.2 [
      | inl many ↦ let e = many.1 in cc
      | inr more ↦ elim more
          [ inl given ↦ let e = given.1 in cc | inr clock ↦ let e = clock.1 in cc ]
    ]
  ]
  meta_understood old new f is (inl (inl (inr h))) = not_store h.0 f h.1
  meta_understood old new f is (inl (inr h)) =
      let bare = subst IsPlain h.1.is (all_meta_plain more others old.now.schema is) in
      let params = timed [] h.0.formats h.1.now in
      let shown = subst (FailsToShow old new all_meta_text h.0 params (SqlInputError f)) bare.0 h.2 in
      let command = sym (ap command_of (ap (λ s. understood s all_meta_text) (sym is) ∙ h.1.is)) ∙ meta_selects.2 in
      not_refused old.step_limit shown.0 meta_selects.0 params f (subst (λ k. RefusesToRead old.step_limit k shown.0 params (SqlInputError f)) command shown.2)
  meta_understood old new f is (inr late) = let e = late.4 in cc

  -- where the one row names a schema, it alone is shown
  pub named_alone : (old new : State) (rows : List Row) → Shown all_meta_text [] old new rows → (maps : Maps)
      → Holds (grown more others) old.now maps → (n : ℕ) → (names : NamesSchema maps n) → rows ≡ names.row ∷ []
  named_alone old new rows h maps holds n names = only_meta more others old new rows h maps holds names.key names.row names.there names.alone

  -- and it has the column of the number
  pub named_wide : (db : Database) (maps : Maps) → Holds (grown more others) db maps → (n : ℕ) → (names : NamesSchema maps n) → 1 < length names.row
  named_wide db maps holds n names =
      let r = (holds.tables meta_place meta refl).whole names.key names.row names.there in
      let wide : length names.row ≡ 6 = ap length (sym r.3) in
      omega (arith, wide)
