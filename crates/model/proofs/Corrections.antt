-- What corrections leave, and that an old card key is void.
use Rattle.std.proofs.Common.{◌≡◌, ℕ, ◌==◌, Bool, true, false, cond, ◌&&◌, List, [], ◌∷◌, ◌++◌, refl, sym, ◌∙◌, ap, subst}
use Rattle.std.specs.Prelude.{Option, Some, None, option_map, unwrap_or, find, is_some, bytes_eq}
use Rattle.std.proofs.lemmas.Bool.{eqb-true, eq-eqb}
use Rattle.terms.specs.declared.command.Owner.{Owner}
use Rattle.terms.specs.declared.command.Caller.TheVariants.{Patron as FromPatron}
use Rattle.terms.specs.declared.command.Command.{Command}
use Rattle.terms.specs.declared.command.Command.TheVariants.{Patron, SetCardKey, AmendPatron, AmendBranch, AmendTitle, AmendCopy, Rehome}
use Rattle.terms.specs.declared.command.Request.{Request}
use Rattle.terms.specs.declared.refusal.Refusal.TheVariants.{NotAllowed}
use Rattle.terms.specs.declared.reply.Reply.TheVariants.{Refused}
use Rattle.terms.specs.Callers.{owner_of}
use Rattle.terms.specs.declared.refusal.Refusal.TheVariants as check
use Rattle.model.specs.History.{Event, History, PatronFacts, patron_of, patron_after, with_card_key, with_kind, copy_of, copies}
use Rattle.model.specs.History.{with_price, with_home, hold_of}
use Rattle.model.specs.Places.{Place, Shelf, Transit, place, state, limit, is_kept_for, kept_for}
use Rattle.model.specs.Picture.{condition_at, transit_at, hold_by, patron_columns, copy_columns}
use Rattle.model.specs.Refusals.{refusal, checks}
use Rattle.model.specs.Requests.{IsLegal, is_known, is_allowed, may_send, reply_to}
use Rattle.model.specs.Corrections.{is_correction, LeavesTheRest, sets_card_key, KeepsCardKey}
use Rattle.model.proofs.Passing.{passed}
use Rattle.model.proofs.Bindings.{event, not-false}
use Rattle.model.proofs.Rehoming.{rehomed, rehomed-as}

-- ---- columns of rows

-- A column of a row that may have been amended, where neither the amendment nor the event sets it.
shown-same : {A R B : Type 0} (column : R → B) (after before : A → R) (here : Bool) (f : A → A) (o : Option A)
    → ((x : A) → column (after (f x)) ≡ column (before x)) → ((x : A) → column (after x) ≡ column (before x))
    → option_map column (option_map after (cond here (option_map f o) o)) ≡ option_map column (option_map before o)
shown-same column after before true f (Some x) amended same = ap Some (amended x)
shown-same column after before true f None amended same = refl
shown-same column after before false f (Some x) amended same = ap Some (same x)
shown-same column after before false f None amended same = refl

find-same : (f g : ℕ → Bool) (xs : List ℕ) → ((x : ℕ) → f x ≡ g x) → find f xs ≡ find g xs
find-same f g [] same = refl
find-same f g (x ∷ xs) same = ap (λ b. cond b (Some x) (find f xs)) (same x) ∙ ap (λ r. cond (g x) (Some x) r) (find-same f g xs same)

-- ---- a copy with a new home

module _ (H : History) (o : Owner) (k : List ℕ) (n b : ℕ) where
  -- What is the same on a shelf and in transit for no hold stays, of every copy.
  pub column-stays : {B : Type 0} (column : Place → B) → ((g : ℕ) → column (Transit b None) ≡ column (Shelf g)) → (c : ℕ)
      → column (place (event o k (Rehome n b) ∷ H) c) ≡ column (place H c)
  column-stays {B} column same c = go (n == c) refl
    where
      go : (x : Bool) → (n == c) ≡ x → column (elim x as (λ _. Place) [ true ↦ rehomed H b (place H n) | false ↦ place H c ]) ≡ column (place H c)
      go true d = rehomed-as H column b same (place H n) ∙ ap column (ap (place H) (eqb-true n c d))
      go false d = refl

  pub kept-stays : (h : ℕ) → kept_for (event o k (Rehome n b) ∷ H) h ≡ kept_for H h
  kept-stays h = find-same (λ c. is_kept_for (place (event o k (Rehome n b) ∷ H) c) h) (λ c. is_kept_for (place H c) h) (copies H)
      (column-stays (λ p. is_kept_for p h) (λ g. refl))

  place-stays : (c : ℕ) → (n == c) ≡ false → place (event o k (Rehome n b) ∷ H) c ≡ place H c
  place-stays c off = ap (λ x. elim x as (λ _. Place) [ true ↦ rehomed H b (place H n) | false ↦ place H c ]) off

  rehome-leaves : LeavesTheRest H (event o k (Rehome n b))
  rehome-leaves = record {
    loans = λ l. refl;
    holds = λ h. ap (λ kept. hold_by h (hold_of H h) (state H h) kept (limit H h)) (kept-stays h);
    lines = λ m. refl;
    owed = λ p. refl;
    conditions = λ c. shown-same (λ r. r.condition) (copy_columns (event o k (Rehome n b) ∷ H) c) (copy_columns H c) (n == c) (with_home b) (copy_of H c)
        (λ r. column-stays condition_at (λ g. refl) c) (λ r. column-stays condition_at (λ g. refl) c);
    places = place-stays;
    transits = λ c off. ap (transit_at c) (place-stays c off);
  }

-- ---- corrections

by-command : (H : History) (o : Owner) (k : List ℕ) (c : Command) → is_correction c ≡ true → LeavesTheRest H (event o k c)
by-command H o k (SetCardKey n key) is = record {
  loans = λ l. refl;
  holds = λ h. refl;
  lines = λ m. refl;
  owed = λ p. shown-same (λ r. r.owed) (patron_columns (event o k (SetCardKey n key) ∷ H) p) (patron_columns H p) (n == p) (with_card_key key) (patron_of H p)
      (λ r. refl) (λ r. refl);
  conditions = λ c. refl;
  places = λ c off. refl;
  transits = λ c off. refl;
}
by-command H o k (AmendPatron n kind name) is = record {
  loans = λ l. refl;
  holds = λ h. refl;
  lines = λ m. refl;
  owed = λ p. shown-same (λ r. r.owed) (patron_columns (event o k (AmendPatron n kind name) ∷ H) p) (patron_columns H p) (n == p) (with_kind kind name)
      (patron_of H p) (λ r. refl) (λ r. refl);
  conditions = λ c. refl;
  places = λ c off. refl;
  transits = λ c off. refl;
}
by-command H o k (AmendBranch n pickup name) is = record {
  loans = λ l. refl;
  holds = λ h. refl;
  lines = λ m. refl;
  owed = λ p. refl;
  conditions = λ c. refl;
  places = λ c off. refl;
  transits = λ c off. refl;
}
by-command H o k (AmendTitle n text) is = record {
  loans = λ l. refl;
  holds = λ h. refl;
  lines = λ m. refl;
  owed = λ p. refl;
  conditions = λ c. refl;
  places = λ c off. refl;
  transits = λ c off. refl;
}
by-command H o k (AmendCopy n kind price) is = record {
  loans = λ l. refl;
  holds = λ h. refl;
  lines = λ m. refl;
  owed = λ p. refl;
  conditions = λ c. shown-same (λ r. r.condition) (copy_columns (event o k (AmendCopy n kind price) ∷ H) c) (copy_columns H c) (n == c)
      (with_price kind price) (copy_of H c) (λ r. refl) (λ r. refl);
  places = λ c off. refl;
  transits = λ c off. refl;
}
by-command H o k (Rehome n b) is = rehome-leaves H o k n b
by-command H o k _ is = let never : ⊥ = cc in absurd never

-- A correction leaves all else as it was.
pub leaves-the-rest : (e : Event) (H : History) → is_correction e.command ≡ true → LeavesTheRest H e
leaves-the-rest e H is = by-command H e.owner e.key e.command is

-- ---- void card keys

-- The patron is enrolled, with this card key.
abbrev HasKey : List ℕ → Option PatronFacts → Type 0
HasKey key o = (r : PatronFacts) × (o ≡ Some r) × (r.card_key ≡ key)

key-set : (p : ℕ) (key : List ℕ) (b : Bool) → b ≡ true → (o : Option PatronFacts) → is_some o ≡ true → HasKey key (cond b (option_map (with_card_key key) o) o)
key-set p key true is (Some r) known = (with_card_key key r, refl, refl)
key-set p key true is None known = let never : ⊥ = cc in absurd never
key-set p key false is o known = let never : ⊥ = cc in absurd never

key-stays : (key : List ℕ) (c : Command) (p : ℕ) (o : Option PatronFacts) → sets_card_key c p ≡ false → HasKey key o → HasKey key (patron_after c p o)
key-stays key (Patron n kind card_key name) p (Some r) off has = has
key-stays key (Patron n kind card_key name) p None off has = let at : None ≡ Some has.0 = has.1 in let never : ⊥ = cc in absurd never
key-stays key (SetCardKey n card_key) p o off has = subst (HasKey key) (sym (ap (λ b. cond b (option_map (with_card_key card_key) o) o) off)) has
key-stays key (AmendPatron n kind name) p o off has = go (n == p)
  where
    go : (b : Bool) → HasKey key (cond b (option_map (with_kind kind name) o) o)
    go true = (with_kind kind name has.0, ap (option_map (with_kind kind name)) has.1, has.2)
    go false = has
key-stays key _ p o off has = has

module _ (e : Event) (H : History) (p : ℕ) (key : List ℕ) (legal : IsLegal (e ∷ H)) (is : e.command ≡ SetCardKey p key) where
  known : is_some (patron_of H p) ≡ true
  known =
      let unrefused : refusal H e.owner (SetCardKey p key) ≡ None = subst (λ c. refusal H e.owner c ≡ None) is legal.0.unrefused in
      not-false _ (passed (checks H e.owner (SetCardKey p key)) unrefused check.UnknownPatron)

  key-kept : (later : History) → KeepsCardKey p later → HasKey key (patron_of (later ++ e ∷ H) p)
  key-kept [] keeps = subst (λ c. HasKey key (patron_after c p (patron_of H p))) (sym is) (key-set p key (p == p) (eq-eqb p p refl) (patron_of H p) known)
  key-kept (x ∷ later) keeps = key-stays key x.command p (patron_of (later ++ e ∷ H) p) keeps.0 (key-kept later keeps.1)

  unknown : (later : History) (other : List ℕ) → KeepsCardKey p later → bytes_eq key other ≡ false → is_known (later ++ e ∷ H) (FromPatron p other) ≡ false
  unknown later other keeps differs =
      let has = key-kept later keeps in
      ap (λ o. unwrap_or (option_map (λ r. bytes_eq r.card_key other) o) false) has.1 ∙ ap (λ x. bytes_eq x other) has.2 ∙ differs

not-allowed : (H : History) (r : Request) → is_allowed H r.caller r.command ≡ false → reply_to H r ≡ Refused NotAllowed
not-allowed H r e = rw (reply_to, e) refl

-- A request with a card key that isn't the patron's last one is refused.
pub old-key-void : (e : Event) (H later : History) (p : ℕ) (card_key other key : List ℕ) (command : Command) → IsLegal (e ∷ H)
    → e.command ≡ SetCardKey p card_key → KeepsCardKey p later → bytes_eq card_key other ≡ false
    → reply_to (later ++ e ∷ H) (record { caller = FromPatron p other; key = key; command = command }) ≡ Refused NotAllowed
old-key-void e H later p card_key other key command legal is keeps differs =
    not-allowed (later ++ e ∷ H) (record { caller = FromPatron p other; key = key; command = command })
    (ap (λ b. b && may_send (owner_of (FromPatron p other)) command) (unknown e H p card_key legal is later other keeps differs))
