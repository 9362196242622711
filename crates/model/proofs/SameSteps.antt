-- Renaming the patrons of a history keeps all else the same.
use Rattle.std.proofs.Common.{◌≡◌, ℕ, ◌+◌, ◌==◌, Bool, true, false, cond, not, ◌&&◌, List, [], ◌∷◌, refl, ◌∙◌, ap}
use Rattle.std.specs.Prelude.{Option, Some, None, is_none, option_map, unwrap_or, filter, if◌then◌else◌, bytes_eq}
use Rattle.terms.specs.declared.row.Thing.{Thing}
use Rattle.terms.specs.declared.row.Thing.TheVariants as thing
use Rattle.terms.specs.Pictures.{same_thing}
use Rattle.std.specs.Option.{option_or}
use Rattle.terms.specs.declared.command.Command.{Command}
use Rattle.terms.specs.declared.command.Command.TheVariants.{BeginDay, Branch, Week, CloseDay, OpenDay, Kind, Rule, Grace, Patron, Acquire, CheckOut}
use Rattle.terms.specs.declared.command.Command.TheVariants.{SetCardKey, AmendPatron, AmendBranch, AmendTitle, AmendCopy, Rehome, CheckIn, Renew, Missing}
use Rattle.terms.specs.declared.command.Command.TheVariants.{CopyBarcode, PatronBarcode, DropBarcode}
use Rattle.model.specs.History.{Event, History, today, today_after, week_after, singles_after, BranchFacts, with_pickup, branch_after, KindFacts, kind_after}
use Rattle.model.specs.History.{Terms, with_grace, rule_after, PatronFacts, with_card_key, with_kind, patron_after, title_after}
use Rattle.model.specs.History.{CopyFacts, with_price, with_home, copy_after, copies, Labelling, Gives, Takes, NoLabelling, labelling}
use Rattle.model.specs.History.{is_barcode_of, barcode_after, is_thing, thing_after, thing_of}
use Rattle.model.specs.History.{copies_after, loans_after, next_loan, HoldFacts, hold_made, hold_of, hold_after, holds, holds_after, next_hold}
use Rattle.model.specs.Places.{place, state, limit, is_begun, place_after, state_after, limit_after, limit_after_by}
use Rattle.model.specs.Loans.{LoanFacts, loan_of, loan_after, terms_for, no_terms, is_loan_of_copy, ended, ended_after, due, due_after, renewed_due}
use Rattle.model.specs.Loans.{renewals, renewals_after}
use Rattle.model.specs.Renaming.{IsRenaming, renamed, renamed_event, renamed_history}
use Rattle.model.proofs.SameFacts.{IsSame, renamed_hold, renamed_loan, renamed_thing, made-same, same-eqb, terms-same, first-due, loan-of-copy, renewed-due}
use Rattle.model.proofs.SameFacts.{begun-same, place-after, state-after, limit-after, lines-after}

module _ (f : ℕ → ℕ) (new : IsRenaming f) where
  -- ---- settings

  today-step : (x : Command) (u v : ℕ) → u ≡ v → today_after (renamed f x) u ≡ today_after x v
  today-step (BeginDay d) u v e = refl
  today-step _ u v e = e

  week-step : (x : Command) (b : ℕ) (u v : List Bool) → u ≡ v → week_after (renamed f x) b u ≡ week_after x b v
  week-step (Week n closed) b u v e = λ i. if n == b then closed else e i
  week-step _ b u v e = e

  singles-step : (x : Command) (b : ℕ) (u v : List ℕ) → u ≡ v → singles_after (renamed f x) b u ≡ singles_after x b v
  singles-step (CloseDay n d) b u v e = λ i. if n == b then d ∷ e i else e i
  singles-step (OpenDay n d) b u v e = λ i. if n == b then filter (λ q. not (d == q)) (e i) else e i
  singles-step _ b u v e = e

  branch-step : (x : Command) (b : ℕ) (u v : Option BranchFacts) → u ≡ v → branch_after (renamed f x) b u ≡ branch_after x b v
  branch-step (Branch n pickup name) b u v e = λ i. option_or (e i) (if n == b then Some (record { pickup = pickup; name = name }) else None)
  branch-step (AmendBranch n pickup name) b u v e = λ i. if n == b then option_map (with_pickup pickup name) (e i) else e i
  branch-step _ b u v e = e

  kind-step : (x : Command) (k : ℕ) (u v : Option KindFacts) → u ≡ v → kind_after (renamed f x) k u ≡ kind_after x k v
  kind-step (Kind n loans holds debt) k u v e = λ i. if n == k then Some (record { loans = loans; holds = holds; debt = debt }) else e i
  kind-step _ k u v e = e

  rule-step : (x : Command) (k c : ℕ) (u v : Option Terms) → u ≡ v → rule_after (renamed f x) k c u ≡ rule_after x k c v
  rule-step (Rule n m period renewals rate cap) k c u v e = λ i.
      if (n == k) && (m == c) then Some (record { period = period; renewals = renewals; rate = rate; cap = cap; grace = 0 }) else e i
  rule-step (Grace n m days) k c u v e = λ i. if (n == k) && (m == c) then option_map (with_grace days) (e i) else e i
  rule-step _ k c u v e = e

  patron-step : (x : Command) (p : ℕ) (u v : Option PatronFacts) → u ≡ v → patron_after (renamed f x) (f p) u ≡ patron_after x p v
  patron-step (Patron n kind card_key name) p u v e = λ i.
      option_or (e i) (if same-eqb f new n p i then Some (record { kind = kind; card_key = card_key; name = name }) else None)
  patron-step (SetCardKey n card_key) p u v e = λ i. if same-eqb f new n p i then option_map (with_card_key card_key) (e i) else e i
  patron-step (AmendPatron n kind name) p u v e = λ i. if same-eqb f new n p i then option_map (with_kind kind name) (e i) else e i
  patron-step _ p u v e = e

  title-step : (x : Command) (t : ℕ) (u v : Option (List ℕ)) → u ≡ v → title_after (renamed f x) t u ≡ title_after x t v
  title-step (Acquire copy n kind home price text) t u v e = λ i. option_or (e i) (if n == t then Some text else None)
  title-step (AmendTitle n text) t u v e = λ i. if n == t then option_map (λ old. text) (e i) else e i
  title-step _ t u v e = e

  copy-step : (x : Command) (c : ℕ) (u v : Option CopyFacts) → u ≡ v → copy_after (renamed f x) c u ≡ copy_after x c v
  copy-step (Acquire n title kind home price text) c u v e = λ i.
      option_or (e i) (if n == c then Some (record { title = title; kind = kind; home = home; price = price }) else None)
  copy-step (AmendCopy n kind price) c u v e = λ i. if n == c then option_map (with_price kind price) (e i) else e i
  copy-step (Rehome n home) c u v e = λ i. if n == c then option_map (with_home home) (e i) else e i
  copy-step _ c u v e = e

  loans-step : (x : Command) (u v : ℕ) → u ≡ v → loans_after (renamed f x) u ≡ loans_after x v
  loans-step (CheckOut p c b) u v e = ap (λ n. n + 1) e
  loans-step _ u v e = e

  holds-made : (m : Option HoldFacts) (u v : ℕ) → u ≡ v → holds_after (option_map (renamed_hold f) m) u ≡ holds_after m v
  holds-made (Some made) u v e = ap (λ n. n + 1) e
  holds-made None u v e = e

  holds-step : (x : Command) (u v : ℕ) → u ≡ v → holds_after (hold_made (renamed f x)) u ≡ holds_after (hold_made x) v
  holds-step x u v e = ap (λ m. holds_after m u) (made-same f x) ∙ holds-made (hold_made x) u v e

  renewals-step : (x : Command) (l u v : ℕ) → u ≡ v → renewals_after (renamed f x) l u ≡ renewals_after x l v
  renewals-step (Renew n) l u v e = λ i. if n == l then e i + 1 else e i
  renewals-step _ l u v e = e

  -- ---- barcodes

  abbrev renamed_labelling : Labelling → Labelling
  renamed_labelling (Gives t barcode) = Gives (renamed_thing f t) barcode
  renamed_labelling (Takes barcode) = Takes barcode
  renamed_labelling NoLabelling = NoLabelling

  labelled : (x : Command) → labelling (renamed f x) ≡ renamed_labelling (labelling x)
  labelled (CopyBarcode c barcode) = refl
  labelled (PatronBarcode p barcode) = refl
  labelled (DropBarcode barcode) = refl
  labelled _ = refl

  pub same-thing : (t u : Thing) → same_thing (renamed_thing f t) (renamed_thing f u) ≡ same_thing t u
  same-thing (thing.Patron p) (thing.Patron q) = same-eqb f new p q
  same-thing (thing.Patron p) (thing.Copy d) = refl
  same-thing (thing.Copy c) (thing.Patron q) = refl
  same-thing (thing.Copy c) (thing.Copy d) = refl

  label-as : (x : Labelling) (t : Thing) (u v : Option (List ℕ)) → u ≡ v → barcode_after (renamed_labelling x) (renamed_thing f t) u ≡ barcode_after x t v
  label-as (Gives y barcode) t u v e = λ i. if same-thing y t i then Some barcode else e i
  label-as (Takes barcode) t u v e = λ i. if is_barcode_of barcode (e i) then None else e i
  label-as NoLabelling t u v e = e

  label-step : (x : Command) (t : Thing) (u v : Option (List ℕ)) → u ≡ v
      → barcode_after (labelling (renamed f x)) (renamed_thing f t) u ≡ barcode_after (labelling x) t v
  label-step x t u v e = ap (λ y. barcode_after y (renamed_thing f t) u) (labelled x) ∙ label-as (labelling x) t u v e

  is-thing : (t : Thing) (v : Option Thing) → is_thing (renamed_thing f t) (option_map (renamed_thing f) v) ≡ is_thing t v
  is-thing t None = refl
  is-thing t (Some u) = same-thing t u

  cond-map : (b : Bool) (t : Option Thing) (u : Option Thing)
      → cond b (option_map (renamed_thing f) t) (option_map (renamed_thing f) u) ≡ option_map (renamed_thing f) (cond b t u)
  cond-map true t u = refl
  cond-map false t u = refl

  find-as : (x : Labelling) (barcode : List ℕ) (v : Option Thing)
      → thing_after (renamed_labelling x) barcode (option_map (renamed_thing f) v) ≡ option_map (renamed_thing f) (thing_after x barcode v)
  find-as (Gives y given) barcode v =
      (λ i. cond (bytes_eq given barcode) (Some (renamed_thing f y)) (cond (is-thing y v i) None (option_map (renamed_thing f) v)))
      ∙ ap (λ o. cond (bytes_eq given barcode) (Some (renamed_thing f y)) o) (cond-map (is_thing y v) None v)
      ∙ cond-map (bytes_eq given barcode) (Some y) (cond (is_thing y v) None v)
  find-as (Takes taken) barcode v = cond-map (bytes_eq taken barcode) None v
  find-as NoLabelling barcode v = refl

  find-step : (x : Command) (barcode : List ℕ) (u v : Option Thing) → u ≡ option_map (renamed_thing f) v
      → thing_after (labelling (renamed f x)) barcode u ≡ option_map (renamed_thing f) (thing_after (labelling x) barcode v)
  find-step x barcode u v e = (λ i. thing_after (labelled x i) barcode (e i)) ∙ find-as (labelling x) barcode v

  -- ---- what depends on more

  module _ (K H : History) (same : IsSame f K H) where
    copies-step : (x : Command) → copies_after K (renamed f x) (copies K) ≡ copies_after H x (copies H)
    copies-step (Acquire n title kind home price text) = λ i. if is_none (same.copy_facts n i) then n ∷ same.copy_list i else same.copy_list i
    copies-step _ = same.copy_list

    hold-map : (b : Bool) (made : HoldFacts) (o : Option HoldFacts)
        → cond b (Some (renamed_hold f made)) (option_map (renamed_hold f) o) ≡ option_map (renamed_hold f) (cond b (Some made) o)
    hold-map true made o = refl
    hold-map false made o = refl

    hold-made : (m : Option HoldFacts) (h : ℕ)
        → hold_after K (option_map (renamed_hold f) m) h (hold_of K h) ≡ option_map (renamed_hold f) (hold_after H m h (hold_of H h))
    hold-made (Some made) h =
        (λ i. cond ((same.hold_count i + 1) == h) (Some (renamed_hold f made)) (same.hold_facts h i)) ∙ hold-map (next_hold H == h) made (hold_of H h)
    hold-made None h = same.hold_facts h

    hold-step : (x : Command) (h : ℕ)
        → hold_after K (hold_made (renamed f x)) h (hold_of K h) ≡ option_map (renamed_hold f) (hold_after H (hold_made x) h (hold_of H h))
    hold-step x h = ap (λ m. hold_after K m h (hold_of K h)) (made-same f x) ∙ hold-made (hold_made x) h

    loan-map : (b : Bool) (made : LoanFacts) (o : Option LoanFacts)
        → cond b (Some (renamed_loan f made)) (option_map (renamed_loan f) o) ≡ option_map (renamed_loan f) (cond b (Some made) o)
    loan-map true made o = refl
    loan-map false made o = refl

    loan-step : (x : Command) (l : ℕ) → loan_after K (renamed f x) l (loan_of K l) ≡ option_map (renamed_loan f) (loan_after H x l (loan_of H l))
    loan-step (CheckOut p c b) l =
        (λ i. cond ((same.loan_count i + 1) == l)
        (Some (record { copy = c; patron = f p; branch = b; made = same.days i; terms = unwrap_or (terms-same f new K H same p c i) no_terms }))
        (same.loan_facts l i))
        ∙ loan-map (next_loan H == l) (record { copy = c; patron = p; branch = b; made = today H; terms = unwrap_or (terms_for H p c) no_terms }) (loan_of H l)
    loan-step _ l = same.loan_facts l

    end-step : (c l : ℕ) → option_or (ended K l) (if is_loan_of_copy K l c then Some (today K) else None)
        ≡ option_or (ended H l) (if is_loan_of_copy H l c then Some (today H) else None)
    end-step c l i = option_or (same.ends l i) (if loan-of-copy f new K H same l c i then Some (same.days i) else None)

    ended-step : (x : Command) (l : ℕ) → ended_after K (renamed f x) l (ended K l) ≡ ended_after H x l (ended H l)
    ended-step (CheckIn c b) l = end-step c l
    ended-step (Missing c) l = end-step c l
    ended-step _ l = same.ends l

    pub renew-step : (l : ℕ) → renewed_due K l (due K l) ≡ renewed_due H l (due H l)
    renew-step l = ap (renewed_due K l) (same.dues l) ∙ renewed-due f new K H same l (due H l)

    due-step : (x : Command) (l : ℕ) → due_after K (renamed f x) l (due K l) ≡ due_after H x l (due H l)
    due-step (CheckOut p c b) l = λ i. elim ((same.loan_count i + 1) == l) as (λ _. ℕ)
        [ true ↦ unwrap_or (first-due f new K H same p c b i) 0 | false ↦ same.dues l i ]
    due-step (Renew n) l = λ i. elim (n == l) as (λ _. ℕ) [ true ↦ unwrap_or (renew-step l i) (same.dues l i) | false ↦ same.dues l i ]
    due-step _ l = same.dues l

    -- ---- places, states and limits

    pub places : place K ≡ place H
    places i c = same.places c i

    pub states : state K ≡ state H
    states i h = same.states h i

    pub begun : is_begun K ≡ is_begun H
    begun i h = begun-same f new K H same h i

    place-step : (x : Command) (c : ℕ) → place_after K (place K) (state K) (is_begun K) (renamed f x) c ≡ place_after H (place H) (state H) (is_begun H) x c
    place-step x c = (λ i. place_after K (places i) (states i) (begun i) (renamed f x) c) ∙ place-after f new K H same (place H) (state H) (is_begun H) x c

    state-step : (x : Command) (h : ℕ) → state_after K (place K) (state K) (is_begun K) (renamed f x) h ≡ state_after H (place H) (state H) (is_begun H) x h
    state-step x h = (λ i. state_after K (places i) (states i) (begun i) (renamed f x) h) ∙ state-after f new K H same (place H) (state H) (is_begun H) x h

    limit-step : (x : Command) (h : ℕ) → limit_after K (renamed f x) h (limit K h) ≡ limit_after H x h (limit H h)
    limit-step x h = (λ i. limit_after_by K (places i) (states i) (begun i) (renamed f x) h (same.limits h i))
        ∙ limit-after f new K H same (place H) (state H) (is_begun H) x h (limit H h)

    -- The same event, under other numbers, keeps all else the same.
    pub same-step : (e : Event) → IsSame f (renamed_event f e ∷ K) (e ∷ H)
    same-step e = record {
      days = today-step e.command _ _ same.days;
      weeks = λ b. week-step e.command b _ _ (same.weeks b);
      singles = λ b. singles-step e.command b _ _ (same.singles b);
      branch_facts = λ b. branch-step e.command b _ _ (same.branch_facts b);
      kind_facts = λ k. kind-step e.command k _ _ (same.kind_facts k);
      rule_facts = λ k c. rule-step e.command k c _ _ (same.rule_facts k c);
      patron_facts = λ p. patron-step e.command p _ _ (same.patron_facts p);
      title_texts = λ t. title-step e.command t _ _ (same.title_texts t);
      copy_facts = λ c. copy-step e.command c _ _ (same.copy_facts c);
      copy_list = copies-step e.command;
      loan_count = loans-step e.command _ _ same.loan_count;
      hold_count = holds-step e.command _ _ same.hold_count;
      hold_facts = hold-step e.command;
      loan_facts = loan-step e.command;
      ends = ended-step e.command;
      dues = due-step e.command;
      renewed = λ l. renewals-step e.command l _ _ (same.renewed l);
      places = place-step e.command;
      states = state-step e.command;
      limits = limit-step e.command;
      labels = λ t. label-step e.command t _ _ (same.labels t);
      finds = λ barcode. find-step e.command barcode _ (thing_of H barcode) (same.finds barcode);
      line_list = lines-after f new K H same e.command;
    }

  pub same-renamed : (H : History) → IsSame f (renamed_history f H) H
  same-renamed [] = record {
    days = refl;
    weeks = λ b. refl;
    singles = λ b. refl;
    branch_facts = λ b. refl;
    kind_facts = λ k. refl;
    rule_facts = λ k c. refl;
    patron_facts = λ p. refl;
    title_texts = λ t. refl;
    copy_facts = λ c. refl;
    copy_list = refl;
    loan_count = refl;
    hold_count = refl;
    hold_facts = λ h. refl;
    loan_facts = λ l. refl;
    ends = λ l. refl;
    dues = λ l. refl;
    renewed = λ l. refl;
    places = λ c. refl;
    states = λ h. refl;
    limits = λ h. refl;
    labels = λ t. refl;
    finds = λ barcode. refl;
    line_list = refl;
  }
  same-renamed (e ∷ H) = same-step (renamed_history f H) H (same-renamed H) e
