-- Which words are a command.
use Rattle.std.specs.Prelude.{◌≡◌, ◌==◌, ℕ, Bool, false, List, [], ◌∷◌, map, String, string_bytes}
use Rattle.std.specs.List.{list_any}
use Rattle.terms.specs.Commands.{IsSayable}
use Rattle.terms.specs.Texts.{command_words}
use Rattle.terms.specs.declared.command.Command.{Command}

-- The texts that strings hold.
abbrev pub texts_of : {A : Type 0} → List (String A) → List (List ℕ)
texts_of words = map string_bytes words

-- The word begins with a hyphen.
abbrev pub begins_with_hyphen : List ℕ → Bool
begins_with_hyphen [] = false
begins_with_hyphen (byte ∷ bytes) = byte == 45

-- The words are this command's, and none begins with a hyphen.
pub record IsUnderstoodAs (words : List (List ℕ)) (command : Command) : Type 0 where
  pub formed : IsSayable command
  pub written : words ≡ command_words command
  pub plain : list_any begins_with_hyphen words ≡ false
