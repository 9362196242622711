-- What a call of the connection does to the maps.
use Rattle.std.proofs.Common.{◌≡◌, ◌⊎◌, inl, inr, ℕ, true, false, List, Ok, Err, Result, refl, sym, subst, ◌∙◌}
use Rattle.std.specs.Prelude.{if◌then◌else◌, OnOk, OnErr, IsTrue}
use Rattle.std.proofs.lemmas.Bool.{cases_Bool}
use Rattle.sqlite.specs.Order.{Row}
use Rattle.sqlite.specs.Term.{Term}
use Rattle.sqlite.specs.Table.{Table}
use Rattle.sqlite.specs.Schema.{Schema}
use Rattle.sqlite.specs.declared.error.Error.{Error}
use Rattle.sqlite.specs.Clock.{timed}
use Rattle.sqlite.specs.Listing.{understood}
use Rattle.sqlite.specs.State.{ExecutesInside, KeepsCommit, State, Executes, ExecutesIn, IsNotRun, RunsCommand, Shows, IsUnchanged, IsRolledBack, shows_rows}
use Rattle.sqlite.proofs.Callers.{command_of, IsPlain}
use Rattle.sql_maps.specs.Maps.{Maps, Holds, put_at, take_at, Steps}
use Rattle.sql_maps.specs.Calls.{Keeps, IsKeptOrUndone}
use Rattle.sql_maps.proofs.ReadLemmas.{unchanged_keeps}
use Rattle.sql_maps.proofs.WriteLemmas.{Fixed, Fills, put_command, put_done}
use Rattle.sql_maps.proofs.FindLemmas.{Finds, take_command, take_holds}
use Rattle.sql_maps.proofs.MapLemmas.{are_apart, puts_map, holds_after}

-- a statement that gives an error changed nothing, or ended the transaction
pub failed : (sql : List ℕ) (params : Row) (old new : State) (e : Error) → Executes sql params old new (Err e) → IsUnchanged old new ⊎ IsRolledBack old new
unfolding ExecutesIn IsNotRun
failed sql params old new e (inl (inl refused)) = inl refused.1
failed sql params old new e (inl (inr fails)) = inr fails.3
failed sql params old new e (inr (c, it, ran)) = elim (cases_Bool (shows_rows false c)) [
  | inl shows ↦ inl (rw shows at ran).1
  | inr runs ↦ stopped (rw runs at ran)
]
  where
    stopped : RunsCommand old new sql c (timed params c.formats it.now) (Err e) → IsUnchanged old new ⊎ IsRolledBack old new
    stopped (inl refused) = inl refused.1
    stopped (inr fails) = inr fails.3

module _ (schema : Schema) (apart : are_apart schema.tables ≡ true) (at : ℕ) (table : Table) (fixed : Fixed schema at table)
    (params : Row) (terms shows : List Term) (width place : ℕ) (k v : Row) (fills : Fills table params terms shows width place k v) (text : List ℕ)
    (is : command_of (understood schema text) ≡ put_command schema at table fixed params terms shows width place k v fills)
    (bare : IsPlain (understood schema text)) (old new : State) where
  pub put_holds : (count : ℕ) → Executes text params old new (Ok count) → (maps : Maps) → Holds schema old.now maps
      → Holds schema new.now (put_at maps at k v)
      × Shows old new new.now (if old.in_transaction then old.committed else new.now) old.in_transaction × (new.marks ≡ old.marks)
  put_holds count h maps holds =
      let is_map = holds.tables at table fixed.listed in
      let did = put_done schema at table fixed params terms shows width place k v fills text old new count holds.schema_is is bare
      is_map.shaped is_map.plain h in
      let after = puts_map table (old.now.trees table.tree) (new.now.trees table.tree) (maps at) k v is_map fills.plain_key did.1
      (did.2.shaped is_map.shaped) in (
        holds_after schema at table old.now new.now maps _ apart fixed.listed holds did.4 did.0 did.2 after,
        did.3,
        did.5,
      )

  pub put_steps : (count : ℕ) → ExecutesInside 0 text params old new (Ok count) → Steps schema old new (λ maps. put_at maps at k v)
  put_steps count h = record { maps = λ maps holds. (put_holds count h.0 maps holds).0; is_inside = h.1.mode; committed = h.1.committed_is }

  pub puts_or_not : (r : Result ℕ Error) → Executes text params old new r
      → OnOk r ((maps : Maps) → Holds schema old.now maps → Holds schema new.now (put_at maps at k v)) × OnErr r (IsUnchanged old new ⊎ IsRolledBack old new)
  puts_or_not (Ok count) h = (λ maps holds. (put_holds count h maps holds).0, tt)
  puts_or_not (Err e) h = (tt, failed text params old new e h)

-- inside a transaction
pub inside_ok : (sql : List ℕ) (params : Row) (old new : State) (r : Result ℕ Error) (P : Type 0)
    → ((r' : Result ℕ Error) → Executes sql params old new r' → OnOk r' P) → ExecutesInside 0 sql params old new r → OnOk r P
inside_ok sql params old new (Ok count) P each h = each (Ok count) h.0
inside_ok sql params old new (Err e) P each h = tt

pub inside_steps : (s : Schema) (sql : List ℕ) (params : Row) (old new : State) (r : Result ℕ Error) (change : Maps → Maps)
    → ((r' : Result ℕ Error) → Executes sql params old new r'
    → OnOk r' ((maps : Maps) → Holds s old.now maps → Holds s new.now (change maps))) → ExecutesInside 0 sql params old new r
    → OnOk r (Steps s old new change)
inside_steps s sql params old new (Ok count) change each h = record { maps = each (Ok count) h.0; is_inside = h.1.mode; committed = h.1.committed_is }
inside_steps s sql params old new (Err e) change each h = tt

pub inside_keeps : (sql : List ℕ) (params : Row) (old new : State) (r : Result ℕ Error) → ExecutesInside 0 sql params old new r → KeepsCommit old new
inside_keeps sql params old new (Ok count) h = record { was_open = λ _. h.1.was_open; committed = λ _. h.1.committed_is }
inside_keeps sql params old new (Err e) (inl (ran, inl same)) = record { was_open = λ _. same.0.was_open; committed = λ _. same.0.committed_is }
inside_keeps sql params old new (Err e) (inl (ran, inr back)) = record { was_open = back.was_open; committed = λ is_open. (back.undone is_open).1 }
inside_keeps sql params old new (Err e) (inr (ends, is, same)) = record { was_open = λ _. same.0.was_open; committed = λ _. same.0.committed_is }

-- the commit of a transaction whose maps are known
pub commit_holds : (s : Schema) (last end : State) (maps : Maps) → Holds s last.now maps → Shows last end last.now last.now false
    → Holds s end.now maps × (end.now ≡ end.committed)
commit_holds s last end maps holds shown = (subst (λ d. Holds s d maps) (sym shown.now_is) holds, shown.now_is ∙ sym shown.committed_is)

pub same_keeps : (s : State) → KeepsCommit s s
same_keeps s = record { was_open = λ h. h; committed = λ _. refl }

-- a take inside a transaction
pub take_steps : (schema : Schema) (at : ℕ) (table : Table) (fixed : Fixed schema at table) (tests : List Term) (params k : Row)
    (finds : Finds table tests params k) → are_apart schema.tables ≡ true → (text : List ℕ)
    → command_of (understood schema text) ≡ take_command schema at table fixed tests params k finds → IsPlain (understood schema text)
    → (old new : State) (count : ℕ) → ExecutesInside 0 text params old new (Ok count)
    → Steps schema old new (λ maps. take_at maps at k)
take_steps schema at table fixed tests params k finds apart text is bare old new count h =
    record {
      maps = λ maps holds. take_holds schema at table fixed tests params k finds apart text is bare old new count h.0 maps holds;
      is_inside = h.1.mode;
      committed = h.1.committed_is;
    }

pub on_ok : {A E : Type 0} {P Q : Type 0} (r : Result A E) → (P → Q) → OnOk r P → OnOk r Q
on_ok (Ok a) f h = f h
on_ok (Err e) f h = tt

-- what a text that was run kept of the commit, also where the transaction had ended
pub run_keeps : (sql : List ℕ) (params : Row) (old new : State) (r : Result ℕ Error) → (old.in_transaction ≡ false → KeepsCommit old new)
    → (IsTrue old.in_transaction → ExecutesInside 0 sql params old new r) → KeepsCommit old new
run_keeps sql params old new r ended ran =
    elim (cases_Bool old.in_transaction) [ inl begun ↦ inside_keeps sql params old new r (ran begun) | inr over ↦ ended over ]

-- an error inside a transaction leaves all as it was, or the transaction is undone
pub run_left : (sql : List ℕ) (params : Row) (old new : State) (e : Error) → (old.in_transaction ≡ false → Keeps old new)
    → (IsTrue old.in_transaction → ExecutesInside 0 sql params old new (Err e)) → IsKeptOrUndone old new
run_left sql params old new e ended ran = elim (cases_Bool old.in_transaction) [ inl begun ↦ left (ran begun) | inr over ↦ inl (ended over) ]
  where
    left : ExecutesInside 0 sql params old new (Err e) → IsKeptOrUndone old new
    left (inl (did, inl same)) = inl (unchanged_keeps old new same)
    left (inl (did, inr back)) = inr back
    left (inr (ends, is, same)) = inl (unchanged_keeps old new same)

pub same_left : (s : State) → IsKeptOrUndone s s
same_left s = inl (record { now = refl; committed = refl; mode = refl })
