-- A text that writes one row changes the maps and the picture, in each schema that has its table.
use Rattle.std.proofs.Common.{◌≡◌, ℕ, zero, suc, true, List, Ok, Result, refl}
use Rattle.sqlite.specs.Held.{state}
use Rattle.sqlite.specs.Order.{Row}
use Rattle.sqlite.specs.State.{State, ExecutesInside}
use Rattle.sqlite.specs.Store.{Ghosts}
use Rattle.sqlite.specs.declared.transaction.Transaction.{Transaction}
use Rattle.sql_maps.specs.Maps.{Maps, Steps}
use Rattle.sql_maps.proofs.CallLemmas.{on_ok}
use Rattle.sql_maps.proofs.MapLemmas.{are_apart}
use Rattle.terms.specs.Pictures.{Picture}
use Rattle.terms.specs.declared.fault.Fault.{Fault}
use Rattle.circ_tables.specs.Encoding.{Draws}
use Rattle.circ_tables.specs.Puts.{Runs, Puts}
use Rattle.circ_tables.specs.Shape.{schema_at, HasTable}

-- in the schema of a number every table has a tree of its own
pub apart : (n : ℕ) → are_apart (schema_at n).tables ≡ true
apart zero = refl
apart (suc zero) = refl
apart (suc (suc zero)) = refl
apart (suc (suc (suc zero))) = refl
apart (suc (suc (suc (suc n)))) = refl

pub puts_of : {S T : Type 0} {text : List ℕ} {given : Row} {g : Ghosts S} {old new : Transaction S} {result : Result T Fault} (since : ℕ)
    (change : Maps → Maps) (Needs : Type 0) (draw : Picture → Picture)
    → ((n : ℕ) → HasTable since n → (a b : State) → (count : ℕ) × ExecutesInside 0 text given a b (Ok count) → Steps (schema_at n) a b change)
    → ((n : ℕ) → HasTable since n → (a b : State) → Needs → Steps (schema_at n) a b change → Draws n a b draw)
    → Runs text given g old new result → Puts since change Needs draw g old new result
puts_of {g = g} {old = old} {new = new} {result = result} since change Needs draw step drawn is = record {
  changes = record {
    works = is.works;
    steps = λ clean begun. on_ok result (λ one n has. step n has (state g old.conn.now) (state g new.conn.now) one) (is.runs clean begun);
    draws = λ clean begun need. on_ok result
        (λ one n has. drawn n has _ _ need (step n has (state g old.conn.now) (state g new.conn.now) one)) (is.runs clean begun);
    fault = is.fault;
  };
  leaves = is.leaves;
}
