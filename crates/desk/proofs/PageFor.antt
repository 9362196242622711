-- A patron is shown the same page after all lists that agree on the patron's own rows.
use Rattle.std.proofs.Common.{◌≡◌, ℕ, List, [], ◌∷◌, true, false, not, ◌∙◌, ap}
use Rattle.std.specs.Prelude.{Option, Some, None, option_map, unwrap_or, is_some, bytes_eq, Result}
use Rattle.store.specs.Library.{Ghosts, Held}
use Rattle.terms.specs.declared.fault.Fault.{Fault}
use Rattle.terms.specs.declared.refusal.Refusal.TheVariants.{UnknownPatron, NotAllowed}
use Rattle.terms.specs.declared.reply.Reply.{Reply}
use Rattle.terms.specs.declared.reply.Reply.TheVariants.{Shown, Refused}
use Rattle.model.specs.Checks.{first_failing}
use Rattle.model.specs.History.{History, PatronFacts, patron_of}
use Rattle.model.specs.Laws.{AgreesOn}
use Rattle.model.specs.Pages.{page}
use Rattle.model.proofs.OwnRows.{page-same}
use Rattle.desk.specs.Answering.{Learns, IsPageFor, page_for}
use Rattle.desk.specs.Running.{ShowsPage}
use Rattle.desk.proofs.Looking.{if-ok}

module _ (patron : ℕ) (card_key : List ℕ) where
  shown_by : Option PatronFacts → List ℕ → Reply
  shown_by row text = elim (unwrap_or (option_map (λ r. bytes_eq r.card_key card_key) row) false) [
    | true ↦ elim (first_failing ((UnknownPatron, not (is_some row)) ∷ [])) as (λ _. Reply) [ Some refused ↦ Refused refused | None ↦ Shown text ]
    | false ↦ Refused NotAllowed
  ]

  pub page_for-same : (H K : History) → AgreesOn H K patron → page_for H patron card_key ≡ page_for K patron card_key
  unfolding shown_by
  page_for-same H K agrees = ap (λ (o : Option PatronFacts). shown_by o (page H patron)) agrees.patron
      ∙ ap (shown_by (patron_of K patron)) (page-same H K patron agrees)

  pub shows-page : {S : Type 0} {g : Ghosts S} {old new : Held S} {r : Result Reply Fault} → Learns (IsPageFor patron card_key) g old new r
      → ShowsPage patron card_key g old new r
  shows-page {r = r} learnt = record {
    page = learnt;
    own = λ disk. if-ok _ _ r (λ reply is H shows K agrees. is H shows tt ∙ page_for-same H K agrees) (learnt.shown disk);
  }
