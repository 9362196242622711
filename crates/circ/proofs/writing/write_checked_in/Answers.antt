use Rattle.std.proofs.Common.{rules, ◌≡◌, ℕ, List, [], ◌∷◌, ◌++◌, ap, ◌∙◌, append_assoc, subst}
use Rattle.std.specs.Prelude.{codes, decimal, Some, None, OnOk, OnErr}
use Rattle.std.specs.List.{join_with_byte}
use Rattle.std.specs.Io.KnownBytes.{Appends}
use Rattle.terms.specs.Texts.{routed_words, reply_text, reply_words}
use Rattle.terms.specs.Writing.{AppendsFront}
use Rattle.terms.specs.declared.reply.Reply.TheVariants.{CheckedIn}
use Rattle.terms.specs.declared.reply.Routed.{Routed}
use Rattle.terms.specs.declared.reply.Routed.TheVariants.{Shelf, HoldShelf, Transit}
use Rattle.terms.proofs.Fronts.{failed-first, second-out, second-failed}
use Rattle.circ.proofs.writing.write_checked_in.Goals as goal

-- the fine in its words, a space, and where the copy goes
parted : (fine : ℕ) (routed : Routed) → (codes "fine " ++ (decimal fine ++ (32 ∷ [])))
    ++ join_with_byte 32 (routed_words routed) ≡ reply_text (CheckedIn fine routed)
unfolding reply_text reply_words routed_words
parted fine (Shelf branch) = ap (λ (bs : List ℕ). codes "fine " ++ bs) (append_assoc (decimal fine) (32 ∷ []) _)
parted fine (HoldShelf hold branch until) = ap (λ (bs : List ℕ). codes "fine " ++ bs) (append_assoc (decimal fine) (32 ∷ []) _)
parted fine (Transit goal (Some hold)) = ap (λ (bs : List ℕ). codes "fine " ++ bs) (append_assoc (decimal fine) (32 ∷ []) _)
parted fine (Transit goal None) = ap (λ (bs : List ℕ). codes "fine " ++ bs) (append_assoc (decimal fine) (32 ∷ []) _)

checked-in : (digits : List ℕ) (fine : ℕ) (routed : Routed) → digits ≡ decimal fine
    → (codes "fine " ++ (digits ++ (32 ∷ []))) ++ join_with_byte 32 (routed_words routed) ≡ reply_text (CheckedIn fine routed)
checked-in digits fine routed e = ap (λ (bs : List ℕ). (codes "fine " ++ (bs ++ (32 ∷ []))) ++ join_with_byte 32 (routed_words routed)) e ∙ parted fine routed

pub returns-in_err-write_pieces : goal.returns-in_err-write_pieces
returns-in_err-write_pieces g c = record {
  all = search rules;
  front = let text = checked-in c.as_bytes.result.now c.args.fine c.args.routed.now
      (c.as_bytes.ensures.value ∙ c.format.ensures.text ∙ ap decimal c.number.ensures.value) in
      subst (λ (bs : List ℕ). OnErr c.from_residual.result
      (AppendsFront (g.W.Write.contents c.args.writer.now) (g.W.Write.contents c.write_pieces.new.writer) bs)) text
      (failed-first c.from_residual.result _ _ _ _ c.in_err-write_pieces.ensures.front);
}

pub returns : goal.returns
returns g c = record {
  all = let text = checked-in c.as_bytes.result.now c.args.fine c.args.routed.now
      (c.as_bytes.ensures.value ∙ c.format.ensures.text ∙ ap decimal c.number.ensures.value) in
      subst (λ (bs : List ℕ). OnOk c.write_routed.result
      (Appends (g.W.Write.contents c.args.writer.now) (g.W.Write.contents c.write_routed.new.writer) bs)) text
      (second-out c.write_routed.result _ _ _ _ _ c.in_ok-write_pieces.ensures.all c.write_routed.ensures.all);
  front = let text = checked-in c.as_bytes.result.now c.args.fine c.args.routed.now
      (c.as_bytes.ensures.value ∙ c.format.ensures.text ∙ ap decimal c.number.ensures.value) in
      subst (λ (bs : List ℕ). OnErr c.write_routed.result
      (AppendsFront (g.W.Write.contents c.args.writer.now) (g.W.Write.contents c.write_routed.new.writer) bs)) text
      (second-failed c.write_routed.result _ _ _ _ _ c.in_ok-write_pieces.ensures.all c.write_routed.ensures.front);
}
