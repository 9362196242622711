-- What is told after a fault has closed the hall, message by message.
use Rattle.std.proofs.Common.{◌≡◌, ℕ, ◌+◌, ◌≤◌, List, [], ◌∷◌, ◌++◌, Option, None, Some, ◌⊎◌, inl, inr, refl, sym, ap, ◌∙◌, subst}
use Rattle.std.specs.Prelude.{◌^◌}
use Rattle.std.proofs.lemmas.List.{append-nil}
use Rattle.std.specs.Prelude.{Result, IfSome, IsSome, MatchOption}
use Rattle.store.specs.Library.{Ghosts, Held}
use Rattle.terms.specs.declared.command.Request.{Request}
use Rattle.terms.specs.declared.fault.ServiceFault.{ServiceFault}
use Rattle.terms.specs.declared.fault.ServiceFault.TheVariants.{Closed}
use Rattle.model.specs.History.{History}
use Rattle.board.specs.declared.entry.Entry.{Entry}
use Rattle.board.specs.Rule.{Publishing, Stopped}
use Rattle.hall.specs.declared.closing.Closing.{Closing}
use Rattle.hall.specs.declared.messages.Submission.{Submission}
use Rattle.hall.specs.declared.messages.Message.{Message}
use Rattle.hall.specs.declared.messages.Message.TheVariants.{Submit, Leave}
use Rattle.hall.specs.Queue.{handled, unhandled}
use Rattle.hall.specs.Handling.{TakesNext, TakesMessage, StandsOpen, AreShown, shown_by}
use Rattle.hall.specs.Closings.{TellsClosing, TellsNext, TellsMessage, ClosedAt, HasTold}
use Rattle.hall.proofs.HandledLists.{handled_same, handled_more, unhandled_more, none_left, unhandled_kept}
use Rattle.hall.proofs.Progress.{none-some}
use Rattle.hall.proofs.Causes.{no-fault, open-shows, closed-shows}

-- ---- one submission

module _ (s : Submission) (n m : ℕ) (before after' : Option ServiceFault) (old new : List Closing) where
  -- where the hall was open
  pub told-open : before ≡ None → old ≡ [] → MatchOption after' (new ≡ []) (λ fault. TellsClosing s n m fault new) → TellsNext s n m before after' old new
  told-open was none h = by after' refl h
    where
      by : (o : Option ServiceFault) → after' ≡ o → MatchOption o (new ≡ []) (λ fault. TellsClosing s n m fault new) → TellsNext s n m before after' old new
      by None is h = record {
        same = λ _. h ∙ sym none;
        closed = λ f. absurd (no-fault before was f);
        closes = λ _. subst (λ (o : Option ServiceFault). IfSome o (λ fault. TellsClosing s n m fault new)) (sym is) tt;
      }
      by (Some fault) is h = record {
        same = λ e. absurd (none-some after' fault e is);
        closed = λ f. absurd (no-fault before was f);
        closes = λ _. subst (λ (o : Option ServiceFault). IfSome o (λ f. TellsClosing s n m f new)) (sym is) h;
      }

  -- where it was closed
  pub told-closed : IsSome before → new ≡ old → TellsNext s n m before after' old new
  told-closed was same = record { same = λ _. same; closed = λ _. same; closes = λ none. absurd (no-fault before none was) }

-- ---- one message

-- once the hall is closed it stays so
passes-over : {S : Type 0} (g : Ghosts S) (request : Request) (b c : Held S) (n m : ℕ) (before after' : Option ServiceFault) (f : ServiceFault)
    → before ≡ Some f → TakesNext request g b c n m before after' → (m ≡ n) × (after' ≡ Some f)
passes-over g request b c n m before after' f is (inl t) = absurd (none-some before f t.was is)
passes-over g request b c n m before after' f is (inr (inl t)) = absurd (none-some before f t.was is)
passes-over g request b c n m before after' f is (inr (inr (inl t))) = absurd (none-some before f t.was is)
passes-over g request b c n m before after' f is (inr (inr (inr t))) = (t.counted, by t.was)
  where
    by : (before ≡ Some t.fault) ⊎ ((before ≡ None) × (t.fault ≡ Closed) × (2 ^ 64 ≤ n + 1)) → after' ≡ Some f
    by (inl was) = t.is ∙ (sym was ∙ is)
    by (inr none) = absurd (none-some before f none.0 is)

-- more was received, and nothing more was handled
closed-on : (n m : ℕ) (got got' : List Message) (more : List Submission) (entries shows : List Entry) (fault : ServiceFault)
    (old new : List Closing) (s : Submission) → unhandled m got' ≡ unhandled n got ++ more → handled m got' ≡ handled n got → shows ≡ entries
    → new ≡ old → ClosedAt n got entries fault old s → ClosedAt m got' shows fault new s
closed-on n m got got' more entries shows fault old new s rest same shown is (inl h) =
    inl (
      subst (λ (l : List Entry). AreShown l (handled m got')) (sym shown) (h.0 ∙ sym same),
      (h.1.0 ++ more, rest ∙ ap (λ (l : List Submission). l ++ more) h.1.1),
      is ∙ h.2,
    )
closed-on n m got got' more entries shows fault old new s rest same shown is (inr h) =
    inr ((h.0.0, same ∙ h.0.1, subst (λ (l : List Entry). AreShown l h.0.0) (sym shown) h.0.2), is ∙ h.1)

module _ {S : Type 0} (g : Ghosts S) (lists : History → Type 0) (a b c : Held S) (n m : ℕ) (before after' : Option ServiceFault)
    (got got' : List Message) (board board' : Result Publishing Stopped) (old new : List Closing) where
  abbrev E : List Entry
  E = (shown_by board).entries

  abbrev E' : List Entry
  E' = (shown_by board').entries

  submission-told : (s : Submission) → got' ≡ got ++ Submit s ∷ [] → TakesMessage lists (Submit s) g b c n m before after' board board'
      → TellsNext s n m before after' old new → StandsOpen lists g a b n before got board
      → (x y : Option ServiceFault) → before ≡ x → after' ≡ y → HasTold n got E x old → HasTold m got' E' y new
  submission-told s e t tells h None None is now told = tells.same now ∙ told
  submission-told s e t tells h None (Some f) is now told =
      by (subst (λ (o : Option ServiceFault). IfSome o (λ fault. TellsClosing s n m fault new)) now (tells.closes is))
    where
      shows : AreShown E' (handled n got)
      shows = subst (λ (l : List Entry). AreShown l (handled n got)) (sym (closed-shows lists g c board board' s after' f now t.1))
          (open-shows board (handled n got) before is h.shown)

      by : TellsClosing s n m f new → HasTold m got' E' (Some f) new
      by (inl k) =
          let same : handled m got' ≡ handled n got =
          ap (λ j. handled j got') k.0 ∙ (ap (handled n) e ∙ handled_same n got (Submit s) h.counted) in
          let rest : unhandled m got' ≡ s ∷ [] =
          unhandled_more n m got got' s e k.0 h.counted ∙ ap (λ (l : List Submission). l ++ s ∷ []) (none_left n got (h.all is)) in
          (s, inl (shows ∙ sym same, ([], rest), k.1))
      by (inr k) =
          let more : handled m got' ≡ handled n got ++ s ∷ [] =
          ap (λ j. handled j got') k.0 ∙ (ap (handled (n + 1)) e ∙ handled_more n got s (h.all is)) in
          (s, inr ((handled n got, more, shows), k.1))
  submission-told s e t tells h (Some f) y is now told =
      let over = passes-over g s.request b c n m before after' f is t.0 in
      let still : HasTold m got' E' (Some f) new = (
        told.0,
        closed-on n m got got' (s ∷ []) E E' f old new told.0 (unhandled_more n m got got' s e over.0 h.counted)
            (ap (λ j. handled j got') over.0 ∙ (ap (handled n) e ∙ handled_same n got (Submit s) h.counted))
            (closed-shows lists g c board board' s after' f over.1 t.1) (tells.closed (subst IsSome (sym is) refl)) told.1,
      ) in
      subst (λ (o : Option ServiceFault). HasTold m got' E' o new) (sym over.1 ∙ now) still

  pub message-told : (message : Message) → got' ≡ got ++ message ∷ [] → TakesMessage lists message g b c n m before after' board board'
      → TellsMessage message n m before after' old new → StandsOpen lists g a b n before got board
      → HasTold n got E before old → HasTold m got' E' after' new
  message-told (Submit s) e t tells h told = submission-told s e t tells h before after' refl refl told
  message-told (Leave w) e t tells h told =
      subst (λ (j : ℕ). HasTold j got' E' after' new) (sym t.1)
      (subst (λ (o : Option ServiceFault). HasTold n got' E' o new) (sym t.2)
      (subst (λ (x : Result Publishing Stopped). HasTold n got' (shown_by x).entries before new) (sym t.3) (by before told)))
    where
      by : (o : Option ServiceFault) → HasTold n got E o old → HasTold n got' E o new
      by None none = tells ∙ none
      by (Some f) k = (
        k.0,
        closed-on n n got got' [] E E f old new k.0 (unhandled_kept n got got' w e ∙ sym (append-nil (unhandled n got)))
            (ap (handled n) e ∙ handled_same n got (Leave w) h.counted) refl tells k.1,
      )
