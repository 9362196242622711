use Rattle.std.proofs.Common.{◌≡◌, ℕ, List, ◌∷◌, ◌++◌, Some, None, refl, subst, ap, sym, ◌∙◌}
use Rattle.std.specs.Prelude.{codes}
use Rattle.std.specs.Fmt.{decimal, WritesOnOk}
use Rattle.std.specs.List.{join_with_byte}
use Rattle.terms.specs.Texts.{reply_text, reply_words, routed_words}
use Rattle.terms.specs.declared.reply.Routed.{Routed}
use Rattle.terms.specs.declared.reply.Routed.TheVariants.{Shelf, HoldShelf, Transit}
use Rattle.terms.specs.declared.reply.Reply.TheVariants.{CheckedIn}
use Rattle.terms.proofs.reply.ReplyDisplay.fmt.Goals as goal

-- the fine, and then where the copy goes
checked_in : (fine : ℕ) (routed : Routed) → codes "fine "
    ++ (decimal fine ++ (32 ∷ join_with_byte 32 (routed_words routed))) ≡ reply_text (CheckedIn fine routed)
unfolding reply_text reply_words routed_words
checked_in fine (Shelf branch) = refl
checked_in fine (HoldShelf hold branch until) = refl
checked_in fine (Transit goal (Some hold)) = refl
checked_in fine (Transit goal None) = refl

pub returns-in-CheckedIn-clause-writes : goal.returns-in-CheckedIn-clause-writes
returns-in-CheckedIn-clause-writes g c =
    subst (λ (bs : List ℕ). WritesOnOk g.W.Write.write_str_gives c.args.f.now c.write-in-CheckedIn.result bs c.write-in-CheckedIn.new.self)
    (checked_in c.in-CheckedIn.fine c.in-CheckedIn.routed ∙ ap reply_text (sym c.in-CheckedIn.is))
    c.write-in-CheckedIn.ensures.writes
