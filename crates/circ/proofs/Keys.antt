-- Words that open no desk.
use Rattle.std.proofs.Common.{◌≡◌, ◌≢◌, ◌∙◌, ℕ, List, ◌∷◌, length, true, false, ap, sym, refl, arith}
use Rattle.std.proofs.lemmas.Bool.{and_right, true≢false}
use Rattle.terms.specs.Forms.{is_card_key}
use Rattle.circ.specs.Arguments.{AreKeys, AreNoKeys}
use Rattle.circ.specs.declared.arguments.DeskKeys.{DeskKeys}
use Rattle.circ.specs.declared.arguments.DeskKeys.TheVariants.{One, File}

-- no key begins with an at sign
at-key-none : (t : List ℕ) → is_card_key (64 ∷ t) ≡ false
unfolding is_card_key
at-key-none t = and_right _ _ (and_right _ _ refl)

tail : (a b : ℕ) (s t : List ℕ) → a ∷ s ≡ b ∷ t → s ≡ t
tail a b s t e = cc

-- an at sign alone
pub at-none : (word path : List ℕ) → word ≡ 64 ∷ path → length path ≡ 0 → AreNoKeys word
at-none word path is empty = record { none = no }
  where
    no : (keys : DeskKeys) → AreKeys word keys → ⊥
    no (One key) are = true≢false (sym are.form ∙ (ap is_card_key (sym are.written ∙ is) ∙ at-key-none path))
    no (File named) are = omega (arith, are.form, empty, ap length (tail 64 64 path named.now (sym is ∙ are.written)))

-- a word with no at sign at its front that is no key
pub word-none : (word : List ℕ) → is_card_key word ≡ false → ((rest : List ℕ) → word ≢ 64 ∷ rest) → AreNoKeys word
word-none word isnt front = record { none = no }
  where
    no : (keys : DeskKeys) → AreKeys word keys → ⊥
    no (One key) are = true≢false (sym are.form ∙ (ap is_card_key (sym are.written) ∙ isnt))
    no (File named) are = front named.now are.written
