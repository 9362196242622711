use Rattle.std.proofs.Common.{◌≡◌, ℕ, ◌+◌, ◌∙◌, true, List, Option, sym, ap, subst, arith}
use Rattle.std.specs.Prelude.{All, sum_by}
use Rattle.terms.specs.declared.row.LineRow.{LineRow}
use Rattle.terms.specs.declared.row.PatronRow.{PatronRow}
use Rattle.terms.specs.declared.tables.Tables.{Tables}
use Rattle.circ_audit.specs.Rows.{charge, credit}
use Rattle.circ_audit.specs.Sound.{charges_of, credits_of, IsBalanced}
use Rattle.circ_audit.specs.Spans.{is_after, HoldsAfter, LooksAt, Sums}
use Rattle.circ_audit.proofs.Firsts.{looks-same}
use Rattle.circ_audit.proofs.balance.BalancedLaw.look.Goals as goal

abbrev Owes : Tables → Option ℕ → ℕ → PatronRow → Type 0
Owes t after n r = r.patron ≡ n → is_after after r.patron ≡ true → r.owed + credits_of t n ≡ charges_of t n

pub returns : goal.returns
returns c =
    subst (λ (span : ℕ). LooksAt (HoldsAfter c.args.after (IsBalanced c.args.tables.now)) span c.look_at_patrons.result)
    (c.add_lines.ensures.charges.span ∙ c.new-charges.ensures.span)
    (looks-same (λ n. All (Owes c.args.tables.now c.args.after n) c.args.tables.now.patrons) (HoldsAfter c.args.after (IsBalanced c.args.tables.now)) c.add_lines.new.charges.span
    c.look_at_patrons.result
    (λ n law k d lt same is. law (subst (λ (m : ℕ). is_after c.args.after m ≡ true) same is) k d lt same)
    (λ n all is k d lt same. all k d lt same (subst (λ (m : ℕ). is_after c.args.after m ≡ true) (sym same) is))
    (subst (λ (rows : List PatronRow). LooksAt (λ n. All (Owes c.args.tables.now c.args.after n) rows) c.add_lines.new.charges.span c.look_at_patrons.result)
    c.as_slice-2.ensures.rows
    (c.look_at_patrons.ensures (charges_of c.args.tables.now) (credits_of c.args.tables.now) charges credits
    (c.add_lines.ensures.credits.span ∙ c.new-credits.ensures.span ∙ sym (c.add_lines.ensures.charges.span ∙ c.new-charges.ensures.span)))))
  where
    charges : Sums c.add_lines.new.charges (charges_of c.args.tables.now)
    charges n on =
        c.add_lines.ensures.charges.sums (λ m. 0) c.new-charges.ensures.sums n on
        ∙ (let lines = ap (λ (xs : List LineRow). sum_by (λ r. charge r n) xs) c.as_slice.ensures.rows in omega (arith, lines))

    credits : Sums c.add_lines.new.credits (credits_of c.args.tables.now)
    credits n on =
        c.add_lines.ensures.credits.sums (λ m. 0) c.new-credits.ensures.sums n on
        ∙ (let lines = ap (λ (xs : List LineRow). sum_by (λ r. credit r n) xs) c.as_slice.ensures.rows in omega (arith, lines))
