-- What a patron's kind allows, in the rows and the history.
use Rattle.std.proofs.Common.{◌≡◌, ℕ, refl, sym, ◌∙◌, ap}
use Rattle.std.specs.Prelude.{Option, Some, None, option_map, option_and_then, unwrap_or}
use Rattle.terms.specs.declared.row.PatronRow.{PatronRow}
use Rattle.terms.specs.declared.row.KindRow.{KindRow}
use Rattle.model.specs.History.{History, KindFacts, kind_of, PatronFacts, patron_of}
use Rattle.model.specs.Accounts.{owed}
use Rattle.model.specs.Refusals.{kind_now}
use Rattle.model.specs.Picture.{picture, kind_row, kind_columns, patron_row, patron_columns}
use Rattle.circ_core.specs.CheckOut.{loans_allowed}
use Rattle.circ_core.specs.Debt.{debt_allowed, owed_by}
use Rattle.circ_core.specs.PlaceHold.{holds_allowed}
use Rattle.circ_core.specs.Views.{kind_in}

module _ (H : History) (p : ℕ) (f : PatronFacts) (enrolled : patron_of H p ≡ Some f)
    (patron : Option PatronRow) (is_patron : patron ≡ patron_row H p) (kind : Option KindRow) (is_kind : kind ≡ kind_in (picture H) patron) where
  pub patron_there : patron ≡ Some (patron_columns H p f)
  patron_there = is_patron ∙ ap (option_map (patron_columns H p)) enrolled

  kind_is : kind ≡ kind_row H f.kind
  kind_is = is_kind ∙ ap (λ o. option_and_then (λ x. kind_row H x.kind) o) patron_there

  kind_now-is : kind_now H p ≡ unwrap_or (kind_of H f.kind) (record { loans = 0; holds = 0; debt = 0 })
  kind_now-is = ap (λ o. unwrap_or (kind_of H (unwrap_or (option_map (λ x. x.kind) o) 0)) (record { loans = 0; holds = 0; debt = 0 })) enrolled

  pub loans_same : loans_allowed kind ≡ (kind_now H p).loans
  loans_same = ap loans_allowed kind_is ∙ go (kind_of H f.kind) ∙ ap (λ k. k.loans) (sym kind_now-is)
    where
      go : (o : Option KindFacts) → loans_allowed (option_map (kind_columns H f.kind) o) ≡ (unwrap_or o (record { loans = 0; holds = 0; debt = 0 })).loans
      go (Some k) = refl
      go None = refl

  pub holds_same : holds_allowed kind ≡ (kind_now H p).holds
  holds_same = ap holds_allowed kind_is ∙ go (kind_of H f.kind) ∙ ap (λ k. k.holds) (sym kind_now-is)
    where
      go : (o : Option KindFacts) → holds_allowed (option_map (kind_columns H f.kind) o) ≡ (unwrap_or o (record { loans = 0; holds = 0; debt = 0 })).holds
      go (Some k) = refl
      go None = refl

  pub debt_same : debt_allowed kind ≡ (kind_now H p).debt
  debt_same = ap debt_allowed kind_is ∙ go (kind_of H f.kind) ∙ ap (λ k. k.debt) (sym kind_now-is)
    where
      go : (o : Option KindFacts) → debt_allowed (option_map (kind_columns H f.kind) o) ≡ (unwrap_or o (record { loans = 0; holds = 0; debt = 0 })).debt
      go (Some k) = refl
      go None = refl

  pub owed_same : owed_by patron ≡ owed H p
  owed_same = ap owed_by patron_there
