-- Requests handled in order.
use Rattle.std.proofs.Common.{◌≡◌, List, [], ◌∷◌, ◌++◌, refl, subst}
use Rattle.std.specs.Prelude.{Ok}
use Rattle.store.specs.Library.{Ghosts, Held}
use Rattle.terms.specs.declared.command.Request.{Request}
use Rattle.terms.specs.declared.reply.Reply.{Reply}
use Rattle.desk.specs.Answering.{Handled}
use Rattle.desk.specs.Running.{HandledAll}

module _ {S : Type 0} (g : Ghosts S) where
  -- None was handled.
  pub handled-none : (told : List Reply) (old : Held S) → told ≡ [] → HandledAll g [] told old old
  handled-none [] old none = refl
  handled-none (a ∷ more) old none = let never : ⊥ = cc in never

  -- One request more.
  pub handled-last : (rs : List Request) (told : List Reply) (r : Request) (a : Reply) (old mid new : Held S) → HandledAll g rs told old mid
      → Handled r g mid new (Ok a)
      → HandledAll g (rs ++ r ∷ []) (told ++ a ∷ []) old new
  handled-last [] [] r a old mid new done last = (new, subst (λ was. Handled r g was new (Ok a)) done last, refl)
  handled-last [] (b ∷ bs) r a old mid new done last = absurd done
  handled-last (q ∷ qs) [] r a old mid new done last = absurd done
  handled-last (q ∷ qs) (b ∷ bs) r a old mid new done last = (done.0, done.1, handled-last qs bs r a done.0 mid new done.2 last)
