-- All rows of the tables keep or break a law just as the rows that it concerns.
use Rattle.std.proofs.Common.{◌≡◌, ◌⊎◌, ◌-◌, ℕ, true, List, length, get_or, inl, inr, refl, sym, ◌∙◌, ap, subst}
use Rattle.std.proofs.lemmas.List.Elements.{All-contains}
use Rattle.std.specs.Prelude.{Contains}
use Rattle.circ_tables.specs.Barcodes.{barcodes}
use Rattle.circ_tables.specs.Cells.{thing_sort, thing_number}
use Rattle.circ_tables.specs.ClosedDays.{closed_days}
use Rattle.circ_tables.specs.Rules.{rules}
use Rattle.store.specs.Lists.{AllPass, AreTables, AreAuditTables}
use Rattle.store.proofs.OneList.{one_rows, one_all, pair_never}
use Rattle.terms.specs.Callers.{owner_number}
use Rattle.terms.specs.Orders.{IsPairBefore}
use Rattle.terms.specs.Pictures.{Picture}
use Rattle.terms.specs.declared.command.Owner.{Owner}
use Rattle.terms.specs.declared.command.Owner.TheVariants.{Desk, Patron as Reader}
use Rattle.terms.specs.declared.row.KeptRow.{KeptRow}
use Rattle.terms.specs.declared.tables.Tables.{Tables}
use Rattle.circ_audit.specs.declared.auditing.Finding.{Finding}
use Rattle.circ_audit.specs.declared.auditing.Finding.TheVariants.{Claims, Binding, Balance, Reference, Numbers}
use Rattle.circ_audit.specs.Barcodes.{AreDistinct, IsFirstDoubled, AreDoubled}
use Rattle.circ_audit.specs.Findings.{Keeps, AreFindings, IsLeftOut}
use Rattle.circ_audit.specs.declared.auditing.TheConstants.{MOST_FINDINGS}
use Rattle.circ_audit.specs.Sound.{IsSound, IsFirstBroken, IsLeastBroken, IsFirstAmong, IsClaimedOnce, IsRightlyBound, IsBalanced}
use Rattle.circ_audit.specs.Numbers.{IsNumbered, place_of_series}
use Rattle.circ_audit.specs.References.{has_caller, kept_refers, IsReferred, place_of_table}
use Rattle.circ_audit.specs.declared.numbers.Series.{Series}
use Rattle.circ_audit.specs.declared.numbers.Series.TheVariants as series
use Rattle.circ_audit.specs.declared.references.Table.{Table}
use Rattle.circ_audit.specs.declared.references.Table.TheVariants as table
use Rattle.circ.specs.Auditing.{AreSound, IsDoubled, AreAllFindings}
use Rattle.circ.proofs.CountedRows.{all-there}

-- The tables with other rows of `kept`.
abbrev with_kept : Tables → List KeptRow → Tables
with_kept t kept = record t { kept = kept }

-- The law holds for the same numbers.
least_with : {Law Other : ℕ → Type 0} → ((n : ℕ) → Law n → Other n) → ((n : ℕ) → Other n → Law n) → (n : ℕ) → IsLeastBroken Law n → IsLeastBroken Other n
least_with to from n least = record { broken = λ other. least.broken (from n other); below = λ m low. to m (least.below m low) }

among_with : {A : Type 0} (place_of : A → ℕ) {Law Other : A → ℕ → Type 0} → ((a : A) (n : ℕ) → Law a n → Other a n) → ((a : A) (n : ℕ) → Other a n → Law a n)
    → (a : A) (n : ℕ) → IsFirstAmong place_of Law a n → IsFirstAmong place_of Other a n
among_with place_of to from a n first = record { before = λ b low m. to b m (first.before b low m); least = least_with (to a) (from a) n first.least }

-- The same callers exist.
caller_with : (t : Tables) (kept : List KeptRow) (o : Owner) → has_caller t o ≡ has_caller (with_kept t kept) o
caller_with t kept Desk = refl
caller_with t kept (Reader p) = refl

-- No law but that of references speaks of `kept`, and that only of its callers.
module _ (t : Tables) (kept : List KeptRow) (kept_with : (n : ℕ) → IsReferred t table.Kept n → IsReferred (with_kept t kept) table.Kept n)
    (kept_from : (n : ℕ) → IsReferred (with_kept t kept) table.Kept n → IsReferred t table.Kept n) where
  claimed_with : (copy : ℕ) → IsClaimedOnce t copy → IsClaimedOnce (with_kept t kept) copy
  claimed_with copy is = is

  claimed_from : (copy : ℕ) → IsClaimedOnce (with_kept t kept) copy → IsClaimedOnce t copy
  claimed_from copy is = is

  bound_with : (hold : ℕ) → IsRightlyBound t hold → IsRightlyBound (with_kept t kept) hold
  bound_with hold is = record { fit = is.fit; served = is.served; once = is.once }

  bound_from : (hold : ℕ) → IsRightlyBound (with_kept t kept) hold → IsRightlyBound t hold
  bound_from hold is = record { fit = is.fit; served = is.served; once = is.once }

  balanced_with : (patron : ℕ) → IsBalanced t patron → IsBalanced (with_kept t kept) patron
  balanced_with patron is = is

  balanced_from : (patron : ℕ) → IsBalanced (with_kept t kept) patron → IsBalanced t patron
  balanced_from patron is = is

  referred_with : (s : Table) (n : ℕ) → IsReferred t s n → IsReferred (with_kept t kept) s n
  referred_with table.ClosedDays n is = is
  referred_with table.Rules n is = is
  referred_with table.Patrons n is = is
  referred_with table.Copies n is = is
  referred_with table.Loans n is = is
  referred_with table.Holds n is = is
  referred_with table.Transits n is = is
  referred_with table.Lines n is = is
  referred_with table.Kept n is = kept_with n is
  referred_with table.Barcodes n is = is
  referred_with table.Notes n is = is

  referred_from : (s : Table) (n : ℕ) → IsReferred (with_kept t kept) s n → IsReferred t s n
  referred_from table.ClosedDays n is = is
  referred_from table.Rules n is = is
  referred_from table.Patrons n is = is
  referred_from table.Copies n is = is
  referred_from table.Loans n is = is
  referred_from table.Holds n is = is
  referred_from table.Transits n is = is
  referred_from table.Lines n is = is
  referred_from table.Kept n is = kept_from n is
  referred_from table.Barcodes n is = is
  referred_from table.Notes n is = is

  numbered_with : (s : Series) (n : ℕ) → IsNumbered t s n → IsNumbered (with_kept t kept) s n
  numbered_with series.Loans n is = is
  numbered_with series.Holds n is = is
  numbered_with series.Lines n is = is

  numbered_from : (s : Series) (n : ℕ) → IsNumbered (with_kept t kept) s n → IsNumbered t s n
  numbered_from series.Loans n is = is
  numbered_from series.Holds n is = is
  numbered_from series.Lines n is = is

  sound_with : IsSound t → IsSound (with_kept t kept)
  sound_with sound = record {
    claims = sound.claims;
    bindings = λ hold. bound_with hold (sound.bindings hold);
    balance = sound.balance;
    references = λ s n. referred_with s n (sound.references s n);
    numbers = λ s n. numbered_with s n (sound.numbers s n);
  }

  broken_with : (finding : Finding) → IsFirstBroken t finding → IsFirstBroken (with_kept t kept) finding
  broken_with (Claims copy) first = least_with claimed_with claimed_from copy first
  broken_with (Binding hold) first = (first.0, least_with bound_with bound_from hold first.1)
  broken_with (Balance patron) first = (first.0, λ hold. bound_with hold (first.1 hold), least_with balanced_with balanced_from patron first.2)
  broken_with (Reference s n) first = (
    first.0,
    λ hold. bound_with hold (first.1 hold),
    first.2,
    among_with place_of_table referred_with referred_from s n first.3,
  )
  broken_with (Numbers s n) first = (
    first.0,
    λ hold. bound_with hold (first.1 hold),
    first.2,
    λ table m. referred_with table m (first.3 table m),
    among_with place_of_series numbered_with numbered_from s n first.4,
  )

  keeps_with : (finding : Finding) → Keeps t finding → Keeps (with_kept t kept) finding
  keeps_with (Claims copy) is = is
  keeps_with (Binding hold) is = bound_with hold is
  keeps_with (Balance patron) is = is
  keeps_with (Reference s n) is = referred_with s n is
  keeps_with (Numbers s n) is = numbered_with s n is

  keeps_from : (finding : Finding) → Keeps (with_kept t kept) finding → Keeps t finding
  keeps_from (Claims copy) is = is
  keeps_from (Binding hold) is = bound_from hold is
  keeps_from (Balance patron) is = is
  keeps_from (Reference s n) is = referred_from s n is
  keeps_from (Numbers s n) is = numbered_from s n is

  findings_with : (found : List Finding) → AreFindings t found → AreFindings (with_kept t kept) found
  findings_with found are = record {
    broken = λ k d within keeps. are.broken k d within (keeps_from (get_or found k d) keeps);
    ordered = are.ordered;
    few = are.few;
    among = are.among;
    every = λ finding any. other finding (are.every finding any);
  }
    where
      other : (finding : Finding) → Keeps t finding ⊎ (Contains found finding ⊎ IsLeftOut found finding)
          → Keeps (with_kept t kept) finding ⊎ (Contains found finding ⊎ IsLeftOut found finding)
      other finding (inl keeps) = inl (keeps_with finding keeps)
      other finding (inr listed) = inr listed

module _ (P : Picture) (all some : Tables) (whole : AreTables P all) (are : AreAuditTables P some) where
  rows_are : with_kept some all.kept ≡ all
  rows_are = λ i. record {
    meta = (are.meta ∙ sym whole.meta) i;
    branches = one_rows (λ r. r.branch) P.branches AllPass some.branches all.branches are.branches whole.branches i;
    closed_days = one_all (λ r s. IsPairBefore (r.branch, r.day) (s.branch, s.day)) (λ r s. pair_never (r.branch, r.day) (s.branch, s.day)) closed_days
        (λ r. (r.branch, r.day)) P some.closed_days all.closed_days are.closed_days whole.closed_days i;
    kinds = one_rows (λ r. r.kind) P.kinds AllPass some.kinds all.kinds are.kinds whole.kinds i;
    rules = one_all (λ r s. IsPairBefore (r.kind, r.copy_kind) (s.kind, s.copy_kind)) (λ r s. pair_never (r.kind, r.copy_kind) (s.kind, s.copy_kind))
        rules (λ r. (r.kind, r.copy_kind)) P some.rules all.rules are.rules whole.rules i;
    patrons = one_rows (λ r. r.patron) P.patrons AllPass some.patrons all.patrons are.patrons whole.patrons i;
    titles = one_rows (λ r. r.title) P.titles AllPass some.titles all.titles are.titles whole.titles i;
    copies = one_rows (λ r. r.copy) P.copies AllPass some.copies all.copies are.copies whole.copies i;
    loans = one_rows (λ r. r.loan) P.loans AllPass some.loans all.loans are.loans whole.loans i;
    holds = one_rows (λ r. r.hold) P.holds AllPass some.holds all.holds are.holds whole.holds i;
    transits = one_rows (λ r. r.copy) P.transits AllPass some.transits all.transits are.transits whole.transits i;
    lines = one_rows (λ r. r.line) P.lines AllPass some.lines all.lines are.lines whole.lines i;
    kept = all.kept;
    barcodes = one_all (λ r s. IsPairBefore (thing_sort r.thing, thing_number r.thing) (thing_sort s.thing, thing_number s.thing))
        (λ r s. pair_never (thing_sort r.thing, thing_number r.thing) (thing_sort s.thing, thing_number s.thing)) barcodes (λ r. r.thing) P
        some.barcodes all.barcodes are.barcodes whole.barcodes i;
    notes = one_rows (λ r. r.line) P.notes AllPass some.notes all.notes are.notes whole.notes i;
  }

  -- A caller of one of them is a caller of the other.
  kept_with : (n : ℕ) → IsReferred some table.Kept n → IsReferred (with_kept some all.kept) table.Kept n
  kept_with n passed = all-there (λ r. owner_number r.caller ≡ n → kept_refers (with_kept some all.kept) r ≡ true) all.kept (λ r there same.
      let own = are.kept.whole r.caller r.key r (whole.kept.sound r there) in
      let s : KeptRow = own.0 in
      let its = All-contains (λ r. owner_number r.caller ≡ n → kept_refers some r ≡ true) some.kept s passed own.1 (ap owner_number own.2 ∙ same) in
      sym (caller_with some all.kept r.caller) ∙ subst (λ (o : Owner). has_caller some o ≡ true) own.2 its)

  kept_from : (n : ℕ) → IsReferred (with_kept some all.kept) table.Kept n → IsReferred some table.Kept n
  kept_from n passed = all-there (λ r. owner_number r.caller ≡ n → kept_refers some r ≡ true) some.kept (λ r there same.
      let own = whole.kept.whole (r.caller, r.key) r (are.kept.sound r there) in
      caller_with some all.kept r.caller
      ∙ All-contains (λ r. owner_number r.caller ≡ n → kept_refers (with_kept some all.kept) r ≡ true) all.kept r passed own same)

  pub sound_as : AreSound some → AreSound all
  sound_as sound = record {
    laws = subst IsSound rows_are (sound_with some all.kept kept_with kept_from sound.laws);
    barcodes = subst (λ t. AreDistinct t.barcodes) rows_are sound.barcodes;
  }

  pub doubled_as : (number : ℕ) → IsDoubled number some → IsDoubled number all
  doubled_as number is = record {
    laws = subst IsSound rows_are (sound_with some all.kept kept_with kept_from is.laws);
    doubled = subst (λ t. IsFirstDoubled t.barcodes number) rows_are is.doubled;
  }

  pub broken_as : (finding : Finding) → IsFirstBroken some finding → IsFirstBroken all finding
  broken_as finding first = subst (λ t. IsFirstBroken t finding) rows_are (broken_with some all.kept kept_with kept_from finding first)

  pub findings_as : (broken : List Finding) (doubled : List ℕ) → AreAllFindings broken doubled some → AreAllFindings broken doubled all
  findings_as broken doubled are = record {
    laws = subst (λ t. AreFindings t broken) rows_are (findings_with some all.kept kept_with kept_from broken are.laws);
    barcodes = subst (λ t. AreDoubled t.barcodes (MOST_FINDINGS - length broken) doubled) rows_are are.barcodes;
  }
