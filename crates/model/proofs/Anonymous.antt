-- A patron's replies and page don't depend on who the other patrons are.
use Rattle.std.proofs.Common.{◌≡◌, ℕ, ◌+◌, ◌==◌, Bool, true, false, not, ◌&&◌, List, [], ◌∷◌, ◌++◌, refl, sym, ◌∙◌, ap, subst, map, cond}
use Rattle.std.specs.Prelude.{Option, Some, None, is_some, is_none, option_map, unwrap_or, bytes_eq, codes, decimal}
use Rattle.std.specs.List.{join_with_byte}
use Rattle.std.proofs.lemmas.Bool.{eqb-true, eq-eqb, and_parts}
use Rattle.calendar.specs.Days.{day_text}
use Rattle.terms.specs.declared.command.Owner.{Owner}
use Rattle.terms.specs.declared.command.Owner.TheVariants.{Desk, Patron as Reader}
use Rattle.terms.specs.declared.command.Caller.{Caller}
use Rattle.terms.specs.declared.command.Caller.TheVariants.{Desk as FromDesk, Patron as FromPatron}
use Rattle.terms.specs.declared.command.Request.{Request}
use Rattle.terms.specs.declared.command.Command.{Command}
use Rattle.terms.specs.declared.command.Command.TheVariants.{Renew, PlaceHold, CancelHold, Page, Ask}
use Rattle.terms.specs.declared.refusal.Refusal.TheVariants.{NotAllowed}
use Rattle.terms.specs.declared.reply.Reply.{Reply}
use Rattle.terms.specs.declared.reply.Reply.TheVariants.{Lent, Held, Shown, Refused}
use Rattle.terms.specs.Callers.{owner_of}
use Rattle.terms.specs.Texts.{request_text}
use Rattle.model.specs.History.{History, patron_of}
use Rattle.model.specs.Places.{is_ready}
use Rattle.model.specs.Loans.{open_loans}
use Rattle.model.specs.Accounts.{owed}
use Rattle.model.specs.Refusals.{refusal, active_holds}
use Rattle.model.specs.Pages.{spaced, title_words, loan_line, hold_line, standing_words, page}
use Rattle.model.specs.Answers.{accepted, answer}
use Rattle.model.specs.Requests.{same_owner, is_known, patron_may, may_send, is_allowed, only_asks, Kept, kept_of, reply_by_key, reply_to, adds, event_of}
use Rattle.model.specs.Requests.{after_one, after, is_enrolled, IsLegal}
use Rattle.model.specs.Renaming.{IsRenaming, renamed, renamed_owner, renamed_caller, renamed_history, renamed_request, is_from, reply_if}
use Rattle.model.specs.Renaming.{replies_to, Anonymity, swapped, SwapsRename}
use Rattle.model.proofs.Bindings.{clash}
use Rattle.model.specs.Checks.{is_large_number}
use Rattle.model.proofs.Runs.{after_one-legal}
use Rattle.model.proofs.SameFacts.{IsSame, same-eqb, title-of-hold, goal-of, first-day-of, left-same, title-of-loan, open-loans, owed-same}
use Rattle.model.proofs.SameSteps.{same-renamed, renew-step}
use Rattle.model.proofs.SameChecks.{active-same, refusal-same}

is_none-none : {A : Type 0} (o : Option A) → is_none o ≡ true → o ≡ None
is_none-none None e = refl
is_none-none (Some x) e = let never : ⊥ = cc in absurd never

module _ (f : ℕ → ℕ) (new : IsRenaming f) where
  -- ---- callers and keys

  same-owners : (a b : Owner) → same_owner (renamed_owner f a) (renamed_owner f b) ≡ same_owner a b
  same-owners Desk Desk = refl
  same-owners Desk (Reader q) = refl
  same-owners (Reader p) Desk = refl
  same-owners (Reader p) (Reader q) = same-eqb f new p q

  owner-same : (c : Caller) → owner_of (renamed_caller f c) ≡ renamed_owner f (owner_of c)
  owner-same FromDesk = refl
  owner-same (FromPatron p card_key) = refl

  asks-same : (x : Command) → only_asks (renamed f x) ≡ only_asks x
  asks-same (Page p) = refl
  asks-same (Ask q) = refl
  asks-same _ = refl

  patron-may : (p : ℕ) (x : Command) → patron_may (f p) (renamed f x) ≡ patron_may p x
  patron-may p (PlaceHold q t b d) = same-eqb f new q p
  patron-may p (Page q) = same-eqb f new q p
  patron-may p (Renew l) = refl
  patron-may p (CancelHold h) = refl
  patron-may p _ = refl

  may-send : (o : Owner) (x : Command) → may_send (renamed_owner f o) (renamed f x) ≡ may_send o x
  may-send Desk x = refl
  may-send (Reader p) x = patron-may p x

  known-same : (K H : History) → IsSame f K H → (c : Caller) → is_known K (renamed_caller f c) ≡ is_known H c
  known-same K H same FromDesk = refl
  known-same K H same (FromPatron p card_key) = λ i. unwrap_or (option_map (λ r. bytes_eq r.card_key card_key) (same.patron_facts p i)) false

  enrolled-same : (K H : History) → IsSame f K H → (o : Owner) → is_enrolled K (renamed_owner f o) ≡ is_enrolled H o
  enrolled-same K H same Desk = refl
  enrolled-same K H same (Reader p) = ap is_some (same.patron_facts p)

  allowed-same : (K H : History) → IsSame f K H → (c : Caller) (x : Command) → is_allowed K (renamed_caller f c) (renamed f x) ≡ is_allowed H c x
  allowed-same K H same c x =
      let may : may_send (owner_of (renamed_caller f c)) (renamed f x) ≡ may_send (owner_of c) x =
      ap (λ o. may_send o (renamed f x)) (owner-same c) ∙ may-send (owner_of c) x in
      λ i. known-same K H same c i && may i

  kept-or : (b c : Bool) (x y : Kept) (u v : Option Kept) → b ≡ c → is_none u ≡ is_none v
      → is_none (elim b as (λ _. Option Kept) [ true ↦ Some x | false ↦ u ]) ≡ is_none (elim c as (λ _. Option Kept) [ true ↦ Some y | false ↦ v ])
  kept-or b c x y u v e before = ap (λ d. is_none (elim d as (λ _. Option Kept) [ true ↦ Some x | false ↦ u ])) e ∙ go c
    where
      go : (d : Bool) → is_none (elim d as (λ _. Option Kept) [ true ↦ Some x | false ↦ u ]) ≡ is_none (elim d as (λ _. Option Kept) [ true ↦ Some y | false ↦ v ])
      go true = refl
      go false = before

  -- Keys are as fresh as they were.
  kept-none : (H : History) (o : Owner) (k : List ℕ) → is_none (kept_of (renamed_history f H) (renamed_owner f o) k) ≡ is_none (kept_of H o k)
  kept-none [] o k = refl
  kept-none (e ∷ H) o k =
      kept-or _ _ _ _ (kept_of (renamed_history f H) (renamed_owner f o) k) (kept_of H o k)
      (ap (λ b. b && bytes_eq e.key k) (same-owners e.owner o)) (kept-none H o k)

  -- ---- the history goes on the same

  adds-same : (H : History) (r : Request) → adds (renamed_history f H) (renamed_request f r) ≡ adds H r
  adds-same H r =
      let same = same-renamed f new H in
      let fresh : is_none (kept_of (renamed_history f H) (owner_of (renamed_caller f r.caller)) r.key) ≡ is_none (kept_of H (owner_of r.caller) r.key) =
      ap (λ o. is_none (kept_of (renamed_history f H) o r.key)) (owner-same r.caller) ∙ kept-none H (owner_of r.caller) r.key in
      let passes : is_none (refusal (renamed_history f H) (owner_of (renamed_caller f r.caller)) (renamed f r.command))
      ≡ is_none (refusal H (owner_of r.caller) r.command) =
      ap (λ o. is_none (refusal (renamed_history f H) o (renamed f r.command))) (owner-same r.caller)
      ∙ ap is_none (refusal-same f new (renamed_history f H) H same (owner_of r.caller) r.command) in
      λ i. elim (allowed-same (renamed_history f H) H same r.caller r.command i && (not (asks-same r.command i) && fresh i)) as (λ _. Bool)
      [ true ↦ passes i | false ↦ false ]

  one-same : (H : History) (r : Request) → after_one (renamed_history f H) (renamed_request f r) ≡ renamed_history f (after_one H r)
  one-same H r = ap (λ b. elim b as (λ _. History) [ true ↦ event_of (renamed_request f r) ∷ renamed_history f H | false ↦ renamed_history f H ]) (adds-same H r)
      ∙ go (adds H r)
    where
      go : (b : Bool) → (elim b as (λ _. History) [ true ↦ event_of (renamed_request f r) ∷ renamed_history f H | false ↦ renamed_history f H ])
          ≡ renamed_history f (elim b as (λ _. History) [ true ↦ event_of r ∷ H | false ↦ H ])
      go true = λ i. record { owner = owner-same r.caller i; key = r.key; command = renamed f r.command } ∷ renamed_history f H
      go false = refl

  after-same : (rs : List Request) (H : History) → after (renamed_history f H) (map (renamed_request f) rs) ≡ renamed_history f (after H rs)
  after-same [] H = refl
  after-same (r ∷ rs) H = ap (λ J. after J (map (renamed_request f) rs)) (one-same H r) ∙ after-same rs (after_one H r)

  -- A legal history is legal under other numbers.
  legal-same : (H : History) → IsLegal H → IsLegal (renamed_history f H)
  legal-same [] legal = tt
  legal-same (e ∷ H) legal =
      let same = same-renamed f new H in (
        record {
          changes = asks-same e.command ∙ legal.0.changes;
          enrolled = enrolled-same (renamed_history f H) H same e.owner ∙ legal.0.enrolled;
          allowed = may-send e.owner e.command ∙ legal.0.allowed;
          unrefused = refusal-same f new (renamed_history f H) H same e.owner e.command ∙ legal.0.unrefused;
          fresh = is_none-none _ (kept-none H e.owner e.key ∙ ap is_none legal.0.fresh);
        },
        legal-same H legal.1,
      )

  -- ---- one patron

  module _ (p : ℕ) (stays : f p ≡ p) where
    module _ (K H : History) (same : IsSame f K H) where
      own-facts : patron_of K p ≡ patron_of H p
      own-facts = ap (patron_of K) (sym stays) ∙ same.patron_facts p

      own-debt : owed K p ≡ owed H p
      own-debt = ap (owed K) (sym stays) ∙ owed-same f new K H same p

      own-loans : open_loans K p ≡ open_loans H p
      own-loans = ap (open_loans K) (sym stays) ∙ open-loans f new K H same p

      own-holds : active_holds K p ≡ active_holds H p
      own-holds = ap (active_holds K) (sym stays) ∙ active-same f new K H same p

      words-same : (t u : ℕ) → t ≡ u → title_words K t ≡ title_words H u
      words-same t u e i = codes "title" ∷ decimal (e i) ∷ unwrap_or (same.title_texts (e i) i) [] ∷ []

      loan-line : (l : ℕ) → loan_line K l ≡ loan_line H l
      loan-line l i = spaced (codes "loan" ∷ decimal l ∷ codes "due" ∷ day_text (same.dues l i) ∷ codes "renewals"
          ∷ decimal (left-same f new K H same l i) ∷ words-same _ _ (title-of-loan f new K H same l) i)

      hold-line : (h : ℕ) → hold_line K h ≡ hold_line H h
      hold-line h i = spaced (codes "hold" ∷ decimal h ∷ codes "at" ∷ decimal (goal-of f new K H same h i)
          ∷ standing_words (is_ready (same.states h i)) (first-day-of f new K H same h i) ++ words-same _ _ (title-of-hold f new K H same h) i)

      page-same : page K p ≡ page H p
      page-same i = join_with_byte 10
          (spaced (codes "patron" ∷ decimal p ∷ codes "owed" ∷ decimal (own-debt i) ∷ codes "name"
          ∷ unwrap_or (option_map (λ r. r.name) (own-facts i)) [] ∷ [])
          ∷ map (λ l. loan-line l i) (own-loans i) ++ map (λ h. hold-line h i) (own-holds i))

      -- The reply to a command that the patron may send, if it isn't refused.
      own-accepted : (x : Command) → patron_may p x ≡ true → accepted K x ≡ accepted H x
      own-accepted (PlaceHold q t b d) may = λ i. Held (same.hold_count i + 1)
      own-accepted (Renew l) may = λ i. Lent l (unwrap_or (renew-step f new K H same l i) 0)
      own-accepted (CancelHold h) may = refl
      own-accepted (Page q) may = subst (λ n. Shown (page K n) ≡ Shown (page H n)) (sym (eqb-true q p may)) (ap Shown page-same)
      own-accepted _ may = let never : ⊥ = cc in absurd never

    -- The patron's own commands keep their numbers.
    own-stays : (x : Command) → patron_may p x ≡ true → renamed f x ≡ x
    own-stays (PlaceHold q t b d) may =
        let own = eqb-true q p may in ap (λ n. PlaceHold n t b d) (ap f own ∙ stays ∙ sym own)
    own-stays (Page q) may = let own = eqb-true q p may in ap Page (ap f own ∙ stays ∙ sym own)
    own-stays (Renew l) may = refl
    own-stays (CancelHold h) may = refl
    own-stays _ may = let never : ⊥ = cc in absurd never

    own-owner : (o : Owner) → same_owner o (Reader p) ≡ true → o ≡ Reader p
    own-owner (Reader q) e = ap Reader (eqb-true q p e)
    own-owner Desk e = let never : ⊥ = cc in absurd never

    own-refusal : (K H : History) → IsSame f K H → (x : Command) → patron_may p x ≡ true → refusal K (Reader p) x ≡ refusal H (Reader p) x
    own-refusal K H same x may =
        let fixed = own-stays x may in
        (λ i. refusal K (Reader (sym stays i)) (sym fixed i)) ∙ refusal-same f new K H same (Reader p) x

    own-answer : (K H : History) → IsSame f K H → (x : Command) → patron_may p x ≡ true → answer K (Reader p) x ≡ answer H (Reader p) x
    own-answer K H same x may =
        let refused = own-refusal K H same x may in
        let taken = own-accepted K H same x may in
        λ i. elim (refused i) as (λ _. Reply) [ Some why ↦ Refused why | None ↦ taken i ]

    -- What is kept for the patron's keys.
    own-kept : (H : History) → IsLegal H → (k : List ℕ) → kept_of (renamed_history f H) (Reader p) k ≡ kept_of H (Reader p) k
    own-kept [] legal k = refl
    own-kept (e ∷ H) legal k =
        ap (λ b. elim (b && bytes_eq e.key k) as (λ _. Option Kept) [
          | true ↦ Some (record { text = request_text (renamed f e.command); reply = accepted (renamed_history f H) (renamed f e.command) })
          | false ↦ kept_of (renamed_history f H) (Reader p) k
        ]) owners ∙ go (own-kept H legal.1 k) (same_owner e.owner (Reader p)) refl
      where
        owners : same_owner (renamed_owner f e.owner) (Reader p) ≡ same_owner e.owner (Reader p)
        owners = ap (λ n. same_owner (renamed_owner f e.owner) (Reader n)) (sym stays) ∙ same-owners e.owner (Reader p)

        go : kept_of (renamed_history f H) (Reader p) k ≡ kept_of H (Reader p) k → (b : Bool) → same_owner e.owner (Reader p) ≡ b
            → (elim (b && bytes_eq e.key k) as (λ _. Option Kept) [
              | true ↦ Some (record { text = request_text (renamed f e.command); reply = accepted (renamed_history f H) (renamed f e.command) })
              | false ↦ kept_of (renamed_history f H) (Reader p) k
            ])
            ≡ (elim (b && bytes_eq e.key k) as (λ _. Option Kept) [
              | true ↦ Some (record { text = request_text e.command; reply = accepted H e.command })
              | false ↦ kept_of H (Reader p) k
            ])
        go ih true own =
            let may : patron_may p e.command ≡ true = subst (λ o. may_send o e.command ≡ true) (own-owner e.owner own) legal.0.allowed in
            let fixed = own-stays e.command may in
            let taken : accepted (renamed_history f H) (renamed f e.command) ≡ accepted H e.command =
            ap (accepted (renamed_history f H)) fixed ∙ own-accepted (renamed_history f H) H (same-renamed f new H) e.command may in
            λ i. elim (bytes_eq e.key k) as (λ _. Option Kept)
            [ true ↦ Some (record { text = request_text (fixed i); reply = taken i }) | false ↦ ih i ]
        go ih false own = ih

    -- ---- replies

    by-key : (K H : History) → IsSame f K H → (r : Request) → r.caller ≡ r.caller → owner_of r.caller ≡ Reader p → patron_may p r.command ≡ true
        → (kept : Option Kept) → reply_by_key K r kept ≡ reply_by_key H r kept
    by-key K H same r _ own may (Some kept) = refl
    by-key K H same r _ own may None =
        subst (λ o. answer K o r.command ≡ answer H o r.command) (sym own) (own-answer K H same r.command may)

    -- The reply to an own request that the patron may send.
    reply-same : (H : History) → IsLegal H → (card_key key : List ℕ) (x : Command) → is_allowed H (FromPatron p card_key) x ≡ true
        → reply_to (renamed_history f H) (record { caller = FromPatron p card_key; key = key; command = x })
        ≡ reply_to H (record { caller = FromPatron p card_key; key = key; command = x })
    reply-same H legal card_key key x allowed =
        let same = same-renamed f new H in
        let K = renamed_history f H in
        let may : patron_may p x ≡ true = (and_parts (is_known H (FromPatron p card_key)) (patron_may p x) allowed).1 in
        let known : is_known (renamed_history f H) (FromPatron p card_key) ≡ is_known H (FromPatron p card_key) =
        ap (λ n. is_known (renamed_history f H) (FromPatron n card_key)) (sym stays) ∙ known-same (renamed_history f H) H same (FromPatron p card_key) in
        let answered = own-answer (renamed_history f H) H same x may in
        let kept = own-kept H legal key in
        let keyed : reply_by_key (renamed_history f H) (record { caller = FromPatron p card_key; key = key; command = x }) (kept_of (renamed_history f H) (Reader p) key)
        ≡ reply_by_key H (record { caller = FromPatron p card_key; key = key; command = x }) (kept_of H (Reader p) key) =
        ap (reply_by_key (renamed_history f H) (record { caller = FromPatron p card_key; key = key; command = x })) kept
        ∙ by-key (renamed_history f H) H same (record { caller = FromPatron p card_key; key = key; command = x }) refl refl may (kept_of H (Reader p) key) in
        λ i. elim (known i && patron_may p x) as (λ _. Reply) [
          | false ↦ Refused NotAllowed
          | true ↦ elim (only_asks x) as (λ _. Reply) [ true ↦ answered i | false ↦ keyed i ]
        ]

    request-same : (card_key key : List ℕ) (x : Command) → renamed f x ≡ x
        → ◌≡◌ {A = Request} (record { caller = FromPatron (f p) card_key; key = key; command = renamed f x })
        (record { caller = FromPatron p card_key; key = key; command = x })
    request-same card_key key x fixed i = record { caller = FromPatron (stays i) card_key; key = key; command = fixed i }

    -- A request that the patron may not send is refused.
    refused-same : (H : History) (r : Request) → is_allowed H r.caller r.command ≡ false → reply_to H r ≡ Refused NotAllowed
    refused-same H r off = ap (λ b. elim b as (λ _. Reply) [
      | false ↦ Refused NotAllowed
      | true ↦ elim (only_asks r.command) as (λ _. Reply)
          [ true ↦ answer H (owner_of r.caller) r.command | false ↦ reply_by_key H r (kept_of H (owner_of r.caller) r.key) ]
    ]) off

    own-reply : (H : History) → IsLegal H → (card_key key : List ℕ) (x : Command)
        → reply_to (renamed_history f H) (record { caller = FromPatron (f p) card_key; key = key; command = renamed f x })
        ≡ reply_to H (record { caller = FromPatron p card_key; key = key; command = x })
    own-reply H legal card_key key x = go (is_allowed H (FromPatron p card_key) x) refl
      where
        go : (b : Bool) → is_allowed H (FromPatron p card_key) x ≡ b
            → reply_to (renamed_history f H) (record { caller = FromPatron (f p) card_key; key = key; command = renamed f x })
            ≡ reply_to H (record { caller = FromPatron p card_key; key = key; command = x })
        go true allowed =
            let may : patron_may p x ≡ true = (and_parts (is_known H (FromPatron p card_key)) (patron_may p x) allowed).1 in
            ap (reply_to (renamed_history f H)) (request-same card_key key x (own-stays x may)) ∙ reply-same H legal card_key key x allowed
        go false off =
            refused-same (renamed_history f H) (record { caller = FromPatron (f p) card_key; key = key; command = renamed f x })
            (allowed-same (renamed_history f H) H (same-renamed f new H) (FromPatron p card_key) x ∙ off)
            ∙ sym (refused-same H (record { caller = FromPatron p card_key; key = key; command = x }) off)

    from-same : (c : Caller) → is_from p (renamed_caller f c) ≡ is_from p c
    from-same FromDesk = refl
    from-same (FromPatron q card_key) = ap (λ n. f q == n) (sym stays) ∙ same-eqb f new q p

    -- One reply, if it goes to the patron.
    one-reply : (H : History) → IsLegal H → (c : Caller) (key : List ℕ) (x : Command) (later more : List Reply) → later ≡ more
        → reply_if (is_from p c) (reply_to (renamed_history f H) (record { caller = renamed_caller f c; key = key; command = renamed f x })) later
        ≡ reply_if (is_from p c) (reply_to H (record { caller = c; key = key; command = x })) more
    one-reply H legal FromDesk key x later more e = e
    one-reply H legal (FromPatron q card_key) key x later more e = go (q == p) refl
      where
        go : (b : Bool) → (q == p) ≡ b
            → reply_if b (reply_to (renamed_history f H) (record { caller = FromPatron (f q) card_key; key = key; command = renamed f x })) later
            ≡ reply_if b (reply_to H (record { caller = FromPatron q card_key; key = key; command = x })) more
        go true own =
            let reply = subst (λ n. reply_to (renamed_history f H) (record { caller = FromPatron (f n) card_key; key = key; command = renamed f x })
            ≡ reply_to H (record { caller = FromPatron n card_key; key = key; command = x })) (sym (eqb-true q p own)) (own-reply H legal card_key key x) in
            λ i. reply i ∷ e i
        go false other = e

    replies-same : (rs : List Request) (H : History) → IsLegal H
        → replies_to p (renamed_history f H) (map (renamed_request f) rs) ≡ replies_to p H rs
    replies-same [] H legal = refl
    replies-same (r ∷ rs) H legal =
        let later : replies_to p (after_one (renamed_history f H) (renamed_request f r)) (map (renamed_request f) rs) ≡ replies_to p (after_one H r) rs =
        ap (λ J. replies_to p J (map (renamed_request f) rs)) (one-same H r) ∙ replies-same rs (after_one H r) (after_one-legal H r legal) in
        ap (λ b. reply_if b (reply_to (renamed_history f H) (renamed_request f r))
        (replies_to p (after_one (renamed_history f H) (renamed_request f r)) (map (renamed_request f) rs))) (from-same r.caller)
        ∙ one-reply H legal r.caller r.key r.command _ _ later

pub anonymity : Anonymity
anonymity f p H new stays legal = record {
  legal = legal-same f new H legal;
  replies = λ rs. replies-same f new p stays rs H legal;
  page = page-same f new p stays (renamed_history f H) H (same-renamed f new H);
  later = λ rs. after-same f new rs H;
}

-- ---- swaps

module _ (q r : ℕ) (low : is_large_number q ≡ true) (high : is_large_number r ≡ true) where
  swap-one : (a b : ℕ) → swapped q r a ≡ swapped q r b → a ≡ b
  swap-one a b same = go (a == q) refl (a == r) refl (b == q) refl (b == r) refl same
    where
      go : (x : Bool) → (a == q) ≡ x → (y : Bool) → (a == r) ≡ y → (z : Bool) → (b == q) ≡ z → (w : Bool) → (b == r) ≡ w
          → cond x r (cond y q a) ≡ cond z r (cond w q b) → a ≡ b
      go true d y e true f w g same = eqb-true a q d ∙ sym (eqb-true b q f)
      go true d y e false f true g same = eqb-true a q d ∙ sym same ∙ sym (eqb-true b r g)
      go true d y e false f false g same = absurd (clash _ (eq-eqb b r (sym same)) g)
      go false d true e true f w g same = eqb-true a r e ∙ sym same ∙ sym (eqb-true b q f)
      go false d true e false f true g same = eqb-true a r e ∙ sym (eqb-true b r g)
      go false d true e false f false g same = absurd (clash _ (eq-eqb b q (sym same)) f)
      go false d false e true f w g same = absurd (clash _ (eq-eqb a r same) e)
      go false d false e false f true g same = absurd (clash _ (eq-eqb a q same) d)
      go false d false e false f false g same = same

  swap-within : (n : ℕ) → is_large_number (swapped q r n) ≡ is_large_number n
  swap-within n = go (n == q) refl (n == r) refl
    where
      go : (x : Bool) → (n == q) ≡ x → (y : Bool) → (n == r) ≡ y → is_large_number (cond x r (cond y q n)) ≡ is_large_number n
      go true d y e = high ∙ sym low ∙ ap is_large_number (sym (eqb-true n q d))
      go false d true e = low ∙ sym high ∙ ap is_large_number (sym (eqb-true n r e))
      go false d false e = refl

  above-zero : (n : ℕ) → is_large_number n ≡ true → (0 == n) ≡ false
  above-zero n is = go (0 == n) refl
    where
      go : (x : Bool) → (0 == n) ≡ x → x ≡ false
      go true d = let off : is_large_number 0 ≡ true = subst (λ m. is_large_number m ≡ true) (sym (eqb-true 0 n d)) is in let never : ⊥ = cc in absurd never
      go false d = refl

  swap-zero : swapped q r 0 ≡ 0
  swap-zero = (λ i. cond (above-zero q low i) r (cond (0 == r) q 0)) ∙ (λ i. cond (above-zero r high i) q 0)

pub swaps-rename : SwapsRename
swaps-rename q r low high =
    record { one_to_one = swap-one q r low high; within = swap-within q r low high; zero_stays = swap-zero q r low high }
