-- Handling requests keeps a history legal.
use Rattle.std.proofs.Common.{◌≡◌, Bool, true, false, List, [], ◌∷◌, refl}
use Rattle.std.specs.Prelude.{Option, Some, None, is_none, is_some, ◌&&◌, not, IsTrue, unwrap_or, option_map, bytes_eq}
use Rattle.std.proofs.lemmas.Bool.{and_parts}
use Rattle.terms.specs.declared.command.Caller.{Caller}
use Rattle.terms.specs.declared.command.Caller.TheVariants.{Desk as FromDesk, Patron as FromPatron}
use Rattle.terms.specs.declared.command.Request.{Request}
use Rattle.model.specs.History.{History, patron_of, PatronFacts}
use Rattle.model.specs.Refusals.{refusal}
use Rattle.model.proofs.Bindings.{both, not-true}
use Rattle.model.specs.DueDays.{IsWholeWeek, HasWholeWeeks, AskWholeWeeks}
use Rattle.model.specs.Forms.{HasForms, AskForms}
use Rattle.terms.specs.Forms.{IsKey}
use Rattle.terms.specs.Laws.{IsCommand}
use Rattle.terms.specs.declared.command.Command.{Command}
use Rattle.terms.specs.declared.command.Command.TheVariants.{Week}
use Rattle.terms.specs.Callers.{owner_of}
use Rattle.model.specs.Requests.{IsLegal, IsAccepted, after, after_one, adds, event_of, is_known, is_enrolled, is_allowed, only_asks, kept_of, may_send}

is_none-none : {A : Type 0} (o : Option A) → is_none o ≡ true → o ≡ None
is_none-none None e = refl
is_none-none (Some x) e = let never : ⊥ = cc in absurd never

-- A caller who is known is the desk or an enrolled patron.
known_enrolled : (H : History) (c : Caller) → IsTrue (is_known H c) → IsTrue (is_enrolled H (owner_of c))
known_enrolled H FromDesk e = refl
known_enrolled H (FromPatron p k) e = has (patron_of H p) e
  where
    has : (o : Option PatronFacts) → unwrap_or (option_map (λ r. bytes_eq r.card_key k) o) false ≡ true → is_some o ≡ true
    has (Some r) q = refl
    has None q = let never : ⊥ = cc in absurd never

-- A request that adds an event is accepted.
pub added : (H : History) (r : Request) → adds H r ≡ true → IsAccepted (event_of r) H
added H r e =
    let allowed = is_allowed H r.caller r.command in
    let changes = not (only_asks r.command) in
    let fresh = is_none (kept_of H (owner_of r.caller) r.key) in
    let parts : ((allowed && (changes && fresh)) ≡ true) × (is_none (refusal H (owner_of r.caller) r.command) ≡ true) = both _ _ e in
    let front : (allowed ≡ true) × ((changes && fresh) ≡ true) = and_parts _ _ parts.0 in
    let more : (changes ≡ true) × (fresh ≡ true) = and_parts _ _ front.1 in
    let caller : (is_known H r.caller ≡ true) × (may_send (owner_of r.caller) r.command ≡ true) = and_parts _ _ front.0 in
    record {
      changes = not-true _ more.0;
      enrolled = known_enrolled H r.caller caller.0;
      allowed = caller.1;
      unrefused = is_none-none _ parts.1;
      fresh = is_none-none _ more.1;
    }

pub after_one-legal : (H : History) (r : Request) → IsLegal H → IsLegal (after_one H r)
after_one-legal H r legal = go (adds H r) refl
  where
    go : (b : Bool) → adds H r ≡ b → IsLegal (elim b as (λ _. History) [ true ↦ event_of r ∷ H | false ↦ H ])
    go true e = (added H r e, legal)
    go false e = legal

-- The history after any requests is legal.
pub after-legal : (rs : List Request) (H : History) → IsLegal H → IsLegal (after H rs)
after-legal [] H legal = legal
after-legal (r ∷ rs) H legal = after-legal rs (after_one H r) (after_one-legal H r legal)

whole-one : (H : History) (r : Request) → HasWholeWeeks H → IsWholeWeek r.command → HasWholeWeeks (after_one H r)
whole-one H r whole asks = go (adds H r)
  where
    go : (b : Bool) → HasWholeWeeks (elim b as (λ _. History) [ true ↦ event_of r ∷ H | false ↦ H ])
    go true = (asks, whole)
    go false = whole

-- Requests whose weeks are whole keep those of the history so.
pub after-whole : (rs : List Request) (H : History) → HasWholeWeeks H → AskWholeWeeks rs → HasWholeWeeks (after H rs)
after-whole [] H whole asks = whole
after-whole (r ∷ rs) H whole asks = after-whole rs (after_one H r) (whole-one H r whole asks.0) asks.1

forms-one : (H : History) (r : Request) → HasForms H → IsCommand r.command → IsKey r.key → HasForms (after_one H r)
forms-one H r forms command key = go (adds H r)
  where
    go : (b : Bool) → HasForms (elim b as (λ _. History) [ true ↦ event_of r ∷ H | false ↦ H ])
    go true = (command, key, forms)
    go false = forms

-- Requests that have their forms keep those of the history.
pub after-forms : (rs : List Request) (H : History) → HasForms H → AskForms rs → HasForms (after H rs)
after-forms [] H forms asks = forms
after-forms (r ∷ rs) H forms asks = after-forms rs (after_one H r) (forms-one H r forms asks.0 asks.1) asks.2

whole-week : (c : Command) → IsCommand c → IsWholeWeek c
whole-week (Week branch closed) form = form.1.0
whole-week _ form = tt

-- Where commands have their forms, weeks are whole.
pub forms-whole : (H : History) → HasForms H → HasWholeWeeks H
forms-whole [] forms = tt
forms-whole (e ∷ H) forms = (whole-week e.command forms.0, forms-whole H forms.2)
