-- What is there stays there, whatever command follows.
use Rattle.std.proofs.Common.{◌≡◌, ℕ, ◌==◌, Bool, true, false, cond, List, refl, ◌∙◌, ap}
use Rattle.std.specs.Prelude.{Option, Some, None, is_some, is_none, option_map}
use Rattle.std.specs.Option.{option_or}
use Rattle.terms.specs.declared.command.Command.{Command}
use Rattle.terms.specs.declared.command.Command.TheVariants.{SetCardKey, AmendPatron, AmendBranch, AmendTitle, AmendCopy, Rehome}
use Rattle.terms.specs.declared.command.Command.TheVariants.{Branch, Kind, Patron, Acquire, CheckOut}
use Rattle.model.specs.History.{History, BranchFacts, branch_after, KindFacts, kind_after, PatronFacts, patron_after, title_after, CopyFacts, copy_after}
use Rattle.model.specs.History.{next_loan}
use Rattle.model.specs.Loans.{LoanFacts, loan_after}
use Rattle.model.proofs.Amending.{amended-is_some}

-- There is one.
abbrev pub IsThere : {A : Type 0} → Option A → Type 0
IsThere o = is_some o ≡ true

pub some-there : {A : Type 0} (o : Option A) (x : A) → o ≡ Some x → IsThere o
some-there o x e = ap is_some e

pub not-none-there : {A : Type 0} (o : Option A) → (o ≡ None → ⊥) → IsThere o
not-none-there (Some x) e = refl
not-none-there None e = absurd (e refl)

pub is_none-there : {A : Type 0} (o : Option A) → is_none o ≡ false → IsThere o
is_none-there (Some x) e = refl
is_none-there None e = let never : ⊥ = cc in absurd never

pub map-there : {A B : Type 0} (f : A → B) (o : Option A) → IsThere o → IsThere (option_map f o)
map-there f (Some x) e = refl
map-there f None e = let never : ⊥ = cc in absurd never

-- ---- what is there stays

pub or-there : {A : Type 0} (o made : Option A) → IsThere o → IsThere (option_or o made)
or-there (Some x) made e = refl
or-there None made e = let never : ⊥ = cc in absurd never

pub cond-there : {A : Type 0} (b : Bool) (x : A) (o : Option A) → IsThere o
    → IsThere (cond b (Some x) o)
cond-there true x o e = refl
cond-there false x o e = e

pub branch-stays : (x : Command) (b : ℕ) (o : Option BranchFacts) → IsThere o
    → IsThere (branch_after x b o)
branch-stays (Branch n pickup name) b o e = or-there o _ e
branch-stays (AmendBranch n pickup name) b o e = amended-is_some (n == b) _ o ∙ e
branch-stays _ b o e = e

pub kind-stays : (x : Command) (k : ℕ) (o : Option KindFacts) → IsThere o → IsThere (kind_after x k o)
kind-stays (Kind n loans holds debt) k o e = cond-there (n == k) _ o e
kind-stays _ k o e = e

pub patron-stays : (x : Command) (p : ℕ) (o : Option PatronFacts) → IsThere o
    → IsThere (patron_after x p o)
patron-stays (Patron n k card_key name) p o e = or-there o _ e
patron-stays (SetCardKey n card_key) p o e = amended-is_some (n == p) _ o ∙ e
patron-stays (AmendPatron n k name) p o e = amended-is_some (n == p) _ o ∙ e
patron-stays _ p o e = e

pub title-stays : (x : Command) (t : ℕ) (o : Option (List ℕ)) → IsThere o → IsThere (title_after x t o)
title-stays (Acquire n m k home price text) t o e = or-there o _ e
title-stays (AmendTitle n text) t o e = amended-is_some (n == t) _ o ∙ e
title-stays _ t o e = e

pub copy-stays : (x : Command) (c : ℕ) (o : Option CopyFacts) → IsThere o → IsThere (copy_after x c o)
copy-stays (Acquire n m k home price text) c o e = or-there o _ e
copy-stays (AmendCopy n k price) c o e = amended-is_some (n == c) _ o ∙ e
copy-stays (Rehome n home) c o e = amended-is_some (n == c) _ o ∙ e
copy-stays _ c o e = e

pub loan-stays : (H : History) (x : Command) (l : ℕ) (o : Option LoanFacts) → IsThere o
    → IsThere (loan_after H x l o)
loan-stays H (CheckOut p c b) l o e = cond-there (next_loan H == l) _ o e
loan-stays H _ l o e = e
