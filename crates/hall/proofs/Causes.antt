-- What closed a hall, and what its board shows since.
use Rattle.std.proofs.Common.{◌≡◌, ℕ, ◌+◌, ◌≤◌, List, [], ◌∷◌, ◌++◌, length, Option, None, Some, ◌⊎◌, inl, inr, refl, sym, ap, ◌∙◌, subst}
use Rattle.std.proofs.lemmas.List.{append-nil}
use Rattle.std.specs.Prelude.{Result, Ok, Err, IfSome, IsSome, ◌^◌}
use Rattle.store.specs.Library.{Ghosts, Held}
use Rattle.terms.specs.declared.command.Request.{Request}
use Rattle.terms.specs.declared.fault.ServiceFault.{ServiceFault}
use Rattle.terms.specs.declared.fault.ServiceFault.TheVariants.{Met, Closed}
use Rattle.model.specs.History.{History}
use Rattle.board.specs.declared.entry.Entry.{Entry}
use Rattle.board.specs.declared.entry.Seen.{Seen}
use Rattle.board.specs.Rule.{Publishing, Stopped}
use Rattle.hall.specs.declared.messages.Submission.{Submission}
use Rattle.hall.specs.declared.messages.Message.{Message}
use Rattle.hall.specs.declared.messages.Message.TheVariants.{Submit}
use Rattle.hall.specs.Queue.{submissions, handled, unhandled, requests}
use Rattle.hall.specs.Handling.{HandledFirst, TakesNext, ClosedBy, AreShown, BoardShows, ShowsNext, shown_by}
use Rattle.desk.proofs.Looking.{idle}
use Rattle.hall.proofs.HandledLists.{handled_same, handled_more, submit_more, rest_more, no_rest}
use Rattle.hall.proofs.Progress.{none-some, handled-more}

pub no-fault : (o : Option ServiceFault) → o ≡ None → IsSome o → ⊥
no-fault None e h = cc
no-fault (Some f) e h = cc

-- what the board shows while the hall is open
pub open-shows : (board : Result Publishing Stopped) (all : List Submission) (fault : Option ServiceFault) → fault ≡ None
    → BoardShows board all fault → AreShown (shown_by board).entries all
open-shows (Ok p) all fault none h = h.2
open-shows (Err b) all fault none h = absurd (no-fault fault none h)

-- once a fault has come the board shows what it showed
pub closed-shows : {S : Type 0} (lists : History → Type 0) (g : Ghosts S) (desk : Held S) (old new : Result Publishing Stopped)
    (s : Submission) (fault : Option ServiceFault) (f : ServiceFault) → fault ≡ Some f
    → ShowsNext lists g desk old new s fault → (shown_by new).entries ≡ (shown_by old).entries
closed-shows lists g desk (Ok p) (Ok q) s fault f is h = absurd (none-some fault f h.0 is)
closed-shows lists g desk (Err b) (Ok q) s fault f is h = absurd h
closed-shows lists g desk (Ok p) (Err c) s fault f is h = ap (λ (v : Seen). v.entries) h.1
closed-shows lists g desk (Err b) (Err c) s fault f is h = ap (λ (v : Seen). v.entries) h.1

-- `a` is the desk before anything was handled
module _ {S : Type 0} (g : Ghosts S) (a : Held S) where
  -- more was received, and nothing more was handled
  cause-on : (n : ℕ) (got got' : List Message) (more : List Request) (b : Held S) (entries : List Entry) (fault : ServiceFault)
      → requests (unhandled n got') ≡ requests (unhandled n got) ++ more
      → handled n got' ≡ handled n got → ClosedBy n got g a b entries fault → ClosedBy n got' g a b entries fault
  cause-on n got got' more b entries fault rest same (inl d) =
      inl (record {
        before = d.before;
        reached = subst (λ (l : List Submission). HandledFirst (requests l) [] g a d.before None)
            (sym same) d.reached;
        next = d.next;
        later = d.later ++ more;
        rest_is =
            rest ∙ ap (λ (x : List Request). x ++ more) d.rest_is;
        met = d.met;
        is = d.is;
        closes = d.closes;
        handles = d.handles;
        shown =
            d.shown ∙ sym same;
      })
  cause-on n got got' more b entries fault rest same (inr (inl d)) =
      inr (inl (record {
        made = d.made;
        reached = subst (λ (l : List Submission). HandledFirst (requests l) [] g a d.made None)
            (sym same) d.reached;
        met = d.met;
        is = d.is;
        looks = d.looks;
        last = d.last;
        shown = same ∙ d.shown;
      }))
  cause-on n got got' more b entries fault rest same (inr (inr d)) = inr (inr (record { is = d.is; full = d.full; shown = d.shown ∙ sym same }))

  some-on : (P Q : ServiceFault → Type 0) (o : Option ServiceFault) → ((f : ServiceFault) → P f → Q f) → IfSome o P → IfSome o Q
  some-on P Q None f h = tt
  some-on P Q (Some x) f h = f x h

  -- a worker has left
  pub cause-left : (n : ℕ) (got got' : List Message) (b : Held S) (entries : List Entry) (fault : Option ServiceFault)
      → requests (unhandled n got') ≡ requests (unhandled n got)
      → handled n got' ≡ handled n got → IfSome fault (ClosedBy n got g a b entries) → IfSome fault (ClosedBy n got' g a b entries)
  cause-left n got got' b entries fault rest same h =
      some-on (ClosedBy n got g a b entries) (ClosedBy n got' g a b entries) fault
      (λ f. cause-on n got got' [] b entries f (rest ∙ sym (append-nil (requests (unhandled n got)))) same) h

  -- it was closed before, or closes because no more can be counted
  still-closed : (n : ℕ) (got got' : List Message) (s : Submission) (b : Held S) (before : Option ServiceFault) (fault : ServiceFault)
      (entries : List Entry) → got' ≡ got ++ Submit s ∷ [] → n ≤ length (submissions got)
      → (before ≡ None → AreShown entries (handled n got)) → (before ≡ Some fault) ⊎ ((before ≡ None) × (fault ≡ Closed) × (2 ^ 64 ≤ n + 1))
      → IfSome before (ClosedBy n got g a b entries) → ClosedBy n got' g a b entries fault
  still-closed n got got' s b before fault entries e le shown (inl was) h =
      cause-on n got got' (s.request ∷ []) b entries fault (rest_more n n got got' s e refl le)
      (ap (handled n) e ∙ handled_same n got (Submit s) le)
      (subst (λ (o : Option ServiceFault). IfSome o (ClosedBy n got g a b entries)) was h)
  still-closed n got got' s b before fault entries e le shown (inr now) h =
      inr (inr (record { is = now.1; full = now.2; shown = shown now.0 ∙ sym (ap (handled n) e ∙ handled_same n got (Submit s) le) }))

  module _ (b c : Held S) (n m : ℕ) (before after' : Option ServiceFault) (got got' : List Message) (s : Submission)
      (old new : Result Publishing Stopped) (e : got' ≡ got ++ Submit s ∷ []) (le : n ≤ length (submissions got))
      (all : before ≡ None → n ≡ length (submissions got)) (shown : before ≡ None → AreShown (shown_by old).entries (handled n got))
      (next : (f : ServiceFault) → after' ≡ Some f → (shown_by new).entries ≡ (shown_by old).entries)
      (desk : before ≡ None → HandledFirst (requests (handled n got)) [] g a b None) where
    -- it holds of a fault, which is the one that there is
    is-fault : (f : ServiceFault) → after' ≡ Some f → ClosedBy m got' g a c (shown_by old).entries f
        → IfSome after' (ClosedBy m got' g a c (shown_by new).entries)
    is-fault f is h =
        subst (λ (o : Option ServiceFault). IfSome o (ClosedBy m got' g a c (shown_by new).entries)) (sym is)
        (subst (λ (l : List Entry). ClosedBy m got' g a c l f) (sym (next f is)) h)

    -- what closed the hall, after one submission more
    pub cause-kept : TakesNext s.request g b c n m before after' → IfSome before (ClosedBy n got g a b (shown_by old).entries)
        → IfSome after' (ClosedBy m got' g a c (shown_by new).entries)
    cause-kept (inl t) h = subst (λ (o : Option ServiceFault). IfSome o (ClosedBy m got' g a c (shown_by new).entries)) (sym t.is) tt
    cause-kept (inr (inl t)) h =
        let more : handled m got' ≡ handled n got ++ s ∷ [] =
        ap (λ k. handled k got') t.counted ∙ (ap (handled (n + 1)) e ∙ handled_more n got s (all t.was)) in
        let made = subst (λ (l : List Request). HandledFirst l [] g a t.made None) (sym (submit_more n m got got' s e t.counted (all t.was)).1)
        (handled-more g (requests (handled n got)) [] s.request a b t.made t.answer (desk t.was) t.stays t.handles [] t.made idle) in
        is-fault (Met t.met) t.is (inr
        (inl (record {
          made = t.made;
          reached = made;
          met = t.met;
          is = refl;
          looks = t.looks;
          last = s;
          shown = more ∙ ap
              (λ (l : List Submission). l ++ s ∷ []) (sym (shown t.was));
        })))
    cause-kept (inr (inr (inl t))) h =
        let none : requests (unhandled n got) ++ s.request ∷ [] ≡ s.request ∷ [] = ap (λ (x : List Request). x ++ s.request ∷ []) (no_rest n got (all t.was)) in
        let same : handled m got' ≡ handled n got = ap (λ k. handled k got') t.counted ∙ (ap (handled n) e ∙ handled_same n got (Submit s) le) in
        is-fault (Met t.met) t.is (inl
        (record {
          before = b;
          reached = subst (λ (l : List Submission). HandledFirst (requests l) [] g a b None) (sym same)
              (desk t.was);
          next = s.request;
          later = [];
          rest_is = rest_more n m got got' s e t.counted le ∙ none;
          met = t.met;
          is = refl;
          closes = t.closes;
          handles = t.handles;
          shown = shown t.was ∙ sym same;
        }))
    cause-kept (inr (inr (inr t))) h =
        let past : ClosedBy n got' g a b (shown_by old).entries t.fault =
        still-closed n got got' s b before t.fault (shown_by old).entries e le shown t.was h in
        is-fault t.fault t.is (subst (λ (k : ℕ). ClosedBy k got' g a c (shown_by old).entries t.fault) (sym t.counted)
        (subst (λ (x : Held S). ClosedBy n got' g a x (shown_by old).entries t.fault) (sym t.same) past))
