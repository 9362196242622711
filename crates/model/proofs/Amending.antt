-- What a command that sets columns of a row keeps of it: the row is made by no such command, and each other
-- column stays.
use Rattle.std.proofs.Common.{◌≡◌, Bool, true, false, cond, refl, ap, subst}
use Rattle.std.specs.Prelude.{Option, Some, None, is_some, is_none, option_map}

pub amended-none : {A : Type 0} (here : Bool) (f : A → A) (o : Option A) → cond here (option_map f o) o ≡ None → o ≡ None
amended-none true f (Some x) e = let never : ⊥ = cc in absurd never
amended-none true f None e = refl
amended-none false f o e = e

pub amended-is_none : {A : Type 0} (here : Bool) (f : A → A) (o : Option A) → is_none (cond here (option_map f o) o) ≡ is_none o
amended-is_none true f (Some x) = refl
amended-is_none true f None = refl
amended-is_none false f o = refl

pub amended-is_some : {A : Type 0} (here : Bool) (f : A → A) (o : Option A) → is_some (cond here (option_map f o) o) ≡ is_some o
amended-is_some true f (Some x) = refl
amended-is_some true f None = refl
amended-is_some false f o = refl

-- The row keeps to what it has to if the row before did, and the columns that are set keep to it.
pub amended-keeps : {A : Type 0} (P : A → Type 0) (here : Bool) (f : A → A) (o : Option A) → ((z : A) → o ≡ Some z → P z) → ((z : A) → P z → P (f z))
    → (r : A) → cond here (option_map f o) o ≡ Some r → P r
amended-keeps P true f (Some z) old new r e = let same : f z ≡ r = cc in subst P same (new z (old z refl))
amended-keeps P true f None old new r e = let never : ⊥ = cc in absurd never
amended-keeps P false f o old new r e = old r e

-- A column that isn't set stays.
pub amended-column : {A B : Type 0} (column : A → B) (here : Bool) (f : A → A) (o : Option A) → ((x : A) → column (f x) ≡ column x)
    → option_map column (cond here (option_map f o) o) ≡ option_map column o
amended-column column true f (Some x) same = ap Some (same x)
amended-column column true f None same = refl
amended-column column false f o same = refl
