-- Grace meets the history.
use Rattle.std.proofs.Common.{◌≡◌, ℕ, ◌==◌, ◌&&◌, Bool, true, false, cond, refl, sym, ◌∙◌, ap}
use Rattle.std.specs.Prelude.{◌∷◌, Option, Some, option_map, is_none}
use Rattle.std.proofs.lemmas.Bool.{eqb-true, and_parts}
use Rattle.terms.specs.declared.row.RuleRow.{RuleRow}
use Rattle.terms.specs.declared.command.Owner.TheVariants.{Desk}
use Rattle.terms.specs.declared.command.Command.TheVariants.{Grace}
use Rattle.terms.specs.declared.reply.Reply.TheVariants.{Done}
use Rattle.terms.specs.declared.refusal.Refusal.TheVariants as check
use Rattle.model.specs.History.{History, Terms, with_grace, rule_of}
use Rattle.model.specs.Refusals.{checks}
use Rattle.model.specs.Picture.{picture, rule_row, rule_columns}
use Rattle.model.proofs.Passing.{passed}
use Rattle.circ_core.specs.Decides.{event}
use Rattle.circ_core.specs.Grace.{grace_checks, grace_rows}
use Rattle.circ_core.proofs.Meets.{Meets, Leads}
use Rattle.circ_core.proofs.Rows.{is_none-map, there-is, put_pair_set}

module _ (H : History) (k c days : ℕ) where
  -- The terms of each rule, by whether it is the one that is there.
  graced : (t : Terms) → rule_of H k c ≡ Some t → (m n : ℕ)
      → cond ((k == m) && (c == n)) (Some (with_grace days t)) (rule_of H m n) ≡ cond ((k == m) && (c == n))
      (option_map (with_grace days) (rule_of H m n)) (rule_of H m n)
  graced t ruled m n = go ((k == m) && (c == n)) refl
    where
      go : (b : Bool) → ((k == m) && (c == n)) ≡ b
          → cond b (Some (with_grace days t)) (rule_of H m n) ≡ cond b (option_map (with_grace days) (rule_of H m n)) (rule_of H m n)
      go true e =
          let both : ((k == m) ≡ true) × ((c == n) ≡ true) = and_parts _ _ e in
          let first : k ≡ m = eqb-true k m both.0 in
          let second : c ≡ n = eqb-true c n both.1 in
          let here : rule_of H m n ≡ Some t = rw (first, second) at ruled in
          sym (ap (option_map (with_grace days)) here)
      go false e = refl

  leads_ruled : (t : Terms) → rule_of H k c ≡ Some t → Leads H (Grace k c days) (grace_rows (Some (rule_columns H k c t)) days)
  leads_ruled t ruled owner key = λ i. record (picture (event owner key (Grace k c days) ∷ H)) {
    rules = λ m n. (put_pair_set (rule_columns H) (rule_of H) k c (with_grace days t) m n ∙ ap (option_map (rule_columns H m n)) (graced t ruled m n)) i;
  }

  pub grace_meets : (row : Option RuleRow) → row ≡ rule_row H k c → Meets H (Grace k c days) (grace_checks row k c days) Done (grace_rows row days)
  grace_meets row w = record {
    same = (refl, refl, λ _. (refl, (ap is_none w ∙ is_none-map (rule_columns H k c) (rule_of H k c)), λ _. tt));
    due = λ _. refl;
    leads = λ ok owner key.
        let t : (x : Terms) × (rule_of H k c ≡ Some x) = there-is (rule_of H k c) (passed (checks H Desk (Grace k c days)) ok check.NoRule) in
        rw (w, t.1) (leads_ruled t.0 t.1 owner key);
  }
