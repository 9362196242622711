-- The lists of settings show exactly the rows of their tables, with the columns that these have.
use Rattle.std.proofs.Common.{◌≡◌, ℕ, ◌<◌, ◌==◌, Bool, true, false, cond, ◌&&◌, ◌||◌, List, [], ◌∷◌, refl, sym, ◌∙◌, ap, nat_lt}
use Rattle.std.specs.Prelude.{◌↔◌, Option, Some, None, is_some, option_map, unwrap_or}
use Rattle.std.specs.Option.{option_or}
use Rattle.std.proofs.lemmas.Bool.{ltb-true, lt-ltb}
use Rattle.terms.specs.declared.command.Command.{Command}
use Rattle.terms.specs.declared.command.Command.TheVariants.{Branch, AmendBranch, Kind, Rule, Grace}
use Rattle.terms.specs.declared.row.BranchRow.{BranchRow}
use Rattle.terms.specs.declared.row.KindRow.{KindRow}
use Rattle.terms.specs.declared.row.RuleRow.{RuleRow}
use Rattle.model.specs.History.{History, today, singles_of, BranchFacts, branch_after, branch_of, with_pickup, branches_after, branches}
use Rattle.model.specs.History.{KindFacts, kind_after, kind_of, kinds_after, kinds, Terms, rule_after, rule_of, with_grace, ruled_after, ruled}
use Rattle.model.specs.Asking.{rising, branches_list, closed_days_list, kinds_list, rules_list}
use Rattle.model.specs.AskingLaws.{has_number}
use Rattle.model.specs.Picture.{picture, branch_columns, kind_columns, rule_columns}
use Rattle.model.specs.RowLaws.{branch_row_words, kind_row_words, rule_row_words}
use Rattle.model.proofs.Amending.{amended-is_some}
use Rattle.model.proofs.Debts.{rising-has}
use Rattle.model.proofs.Members.{has, filter-among, filter-has, filter-passes}

-- ---- which numbers have a row

branch-step : (x : Command) (b : ℕ) (xs : List ℕ) (o : Option BranchFacts) → has xs b ≡ is_some o
    → has (branches_after x xs) b ≡ is_some (branch_after x b o)
branch-step (Branch n pickup name) b xs o ih = go (n == b) (has xs b) o ih
  where
    go : (y z : Bool) (o : Option BranchFacts) → z ≡ is_some o
        → (y || z) ≡ is_some (option_or o (cond y (Some (record { pickup = pickup; name = name })) None))
    go true z (Some r) e = refl
    go true z None e = refl
    go false z (Some r) e = e
    go false z None e = e
branch-step (AmendBranch n pickup name) b xs o ih = ih ∙ sym (amended-is_some (n == b) (with_pickup pickup name) o)
branch-step _ b xs o ih = ih

branches-known : (H : History) (b : ℕ) → has (branches H) b ≡ is_some (branch_of H b)
branches-known [] b = refl
branches-known (e ∷ H) b = branch-step e.command b (branches H) (branch_of H b) (branches-known H b)

kind-step : (x : Command) (k : ℕ) (xs : List ℕ) (o : Option KindFacts) → has xs k ≡ is_some o → has (kinds_after x xs) k ≡ is_some (kind_after x k o)
kind-step (Kind n loans holds debt) k xs o ih = go (n == k)
  where
    go : (y : Bool) → (y || has xs k) ≡ is_some (cond y (Some (record { loans = loans; holds = holds; debt = debt })) o)
    go true = refl
    go false = ih
kind-step _ k xs o ih = ih

kinds-known : (H : History) (k : ℕ) → has (kinds H) k ≡ is_some (kind_of H k)
kinds-known [] k = refl
kinds-known (e ∷ H) k = kind-step e.command k (kinds H) (kind_of H k) (kinds-known H k)

rule-step : (x : Command) (k c : ℕ) (xs : List ℕ) (o : Option Terms) → has xs c ≡ is_some o
    → has (ruled_after x k xs) c ≡ is_some (rule_after x k c o)
rule-step (Rule n m period renewals rate cap) k c xs o ih = go (n == k)
  where
    set : Terms
    set = record { period = period; renewals = renewals; rate = rate; cap = cap; grace = 0 }

    here : (z : Bool) → (z || has xs c) ≡ is_some (cond z (Some set) o)
    here true = refl
    here false = ih

    go : (y : Bool) → has (cond y (m ∷ xs) xs) c ≡ is_some (cond (y && (m == c)) (Some set) o)
    go true = here (m == c)
    go false = ih
rule-step (Grace n m days) k c xs o ih = ih ∙ sym (amended-is_some ((n == k) && (m == c)) (with_grace days) o)
rule-step _ k c xs o ih = ih

rules-known : (H : History) (k c : ℕ) → has (ruled H k) c ≡ is_some (rule_of H k c)
rules-known [] k c = refl
rules-known (e ∷ H) k c = rule-step e.command k c (ruled H k) (rule_of H k c) (rules-known H k c)

-- ---- rows

-- What is there has a row.
rows-of : {F R : Type 0} (columns : F → R) (o : Option F) (b : Bool) → b ≡ is_some o → (b ≡ true) ↔ ((r : R) × (option_map columns o ≡ Some r))
rows-of columns (Some f) b e = (λ _. (columns f, refl), λ _. e)
rows-of columns None b e = (
  λ on. (let clash : true ≡ false = sym on ∙ e in let never : ⊥ = cc in absurd never),
  λ row. (let gone : None ≡ Some row.0 = row.1 in let never : ⊥ = cc in absurd never),
)

-- What is told of what is there is told of its row.
pub told-of : {F R : Type 0} (columns : F → R) (words : R → List ℕ) (o : Option F) (r : R) → option_map columns o ≡ Some r
    → unwrap_or (option_map (λ f. words (columns f)) o) [] ≡ words r
told-of columns words (Some f) r e = let same : columns f ≡ r = cc in ap words same
told-of columns words None r e = let never : ⊥ = cc in absurd never

module _ (H : History) where
  pub branches-shown : (b : ℕ) → has_number (branches_list H).numbers b ↔ ((r : BranchRow) × ((picture H).branches b ≡ Some r))
  branches-shown b = rows-of (branch_columns H b) (branch_of H b) _ (rising-has (branches H) b ∙ branches-known H b)

  pub branch-told : (b : ℕ) (r : BranchRow) → (picture H).branches b ≡ Some r → (branches_list H).row b ≡ branch_row_words r
  branch-told b r there = told-of (branch_columns H b) branch_row_words (branch_of H b) r there

  pub kinds-shown : (k : ℕ) → has_number (kinds_list H).numbers k ↔ ((r : KindRow) × ((picture H).kinds k ≡ Some r))
  kinds-shown k = rows-of (kind_columns H k) (kind_of H k) _ (rising-has (kinds H) k ∙ kinds-known H k)

  pub kind-told : (k : ℕ) (r : KindRow) → (picture H).kinds k ≡ Some r → (kinds_list H).row k ≡ kind_row_words r
  kind-told k r there = told-of (kind_columns H k) kind_row_words (kind_of H k) r there

  pub rules-shown : (k c : ℕ) → has_number (rules_list H k).numbers c ↔ ((r : RuleRow) × ((picture H).rules k c ≡ Some r))
  rules-shown k c = rows-of (rule_columns H k c) (rule_of H k c) _ (rising-has (ruled H k) c ∙ rules-known H k c)

  pub rule-told : (k c : ℕ) (r : RuleRow) → (picture H).rules k c ≡ Some r → (rules_list H k).row c ≡ rule_row_words r
  rule-told k c r there = told-of (rule_columns H k c) rule_row_words (rule_of H k c) r there

  pub closed-days-shown : (b d : ℕ) → has_number (closed_days_list H b).numbers d ↔ (((picture H).closed_days b d ≡ true) × (today H < d))
  closed-days-shown b d = (
    λ shown. (
      sym (rising-has (singles_of H b) d) ∙ filter-among (λ e. nat_lt (today H) e) d (rising (singles_of H b)) shown,
      ltb-true (today H) d (filter-passes (λ e. nat_lt (today H) e) d (rising (singles_of H b)) shown),
    ),
    λ closed. filter-has (λ e. nat_lt (today H) e) d (rising (singles_of H b)) (lt-ltb (today H) d closed.1)
        (rising-has (singles_of H b) d ∙ closed.0),
  )
