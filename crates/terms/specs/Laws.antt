-- The laws of request texts and reply texts.
use Rattle.std.specs.Prelude.{◌≡◌, ◌<◌, ◌≤◌, ◌^◌, ℕ, true, false, Some, None, List, [], ◌∷◌, length, IsUtf8}
use Rattle.calendar.specs.Days.{IsDayNumber}
use Rattle.terms.specs.Forms.{IsName, is_card_key, is_barcode, is_clerk_name, is_outside_key, clerk_key}
use Rattle.terms.specs.declared.limits.TheConstants.{LARGEST_SUM}
use Rattle.terms.specs.Texts.{Part, Number, Amount, Day, Mask, CardKey, Barcode, Name, said, request_text, reply_text}
use Rattle.terms.specs.declared.command.Command.{Command}
use Rattle.terms.specs.declared.reply.Routed.{Routed}
use Rattle.terms.specs.declared.reply.Routed.TheVariants.{Shelf, HoldShelf, Transit}
use Rattle.terms.specs.declared.reply.Reply.{Reply}
use Rattle.terms.specs.declared.reply.Reply.TheVariants.{Done, Lent, CheckedIn, Held, Moved, Lost, Owed, Shown, Refused}

-- A number of 32 bits.
abbrev pub IsNumber : ℕ → Type 0
IsNumber n = n < 2 ^ 32

-- An amount of money: cents below 2^52.
abbrev pub IsAmount : ℕ → Type 0
IsAmount n = n ≤ LARGEST_SUM

-- A part has its form.
abbrev pub IsPart : Part → Type 0
IsPart (Number n) = IsNumber n
IsPart (Amount n) = IsAmount n
IsPart (Day n) = IsDayNumber n
IsPart (Mask closed) = length closed ≡ 7
IsPart (CardKey t) = is_card_key t ≡ true
IsPart (Barcode t) = is_barcode t ≡ true
IsPart (Name t) = IsName t

abbrev pub AreParts : List Part → Type 0
AreParts [] = Unit {0}
AreParts (part ∷ parts) = IsPart part × AreParts parts

-- Each part of the command has its form.
abbrev pub IsCommand : Command → Type 0
IsCommand command = AreParts (said command).1

-- Commands with the same request text are the same.
abbrev pub RequestTextsDiffer : Type 0
RequestTextsDiffer = (a b : Command) → IsCommand a → IsCommand b → request_text a ≡ request_text b → a ≡ b

-- The keys of clerks' requests: equal ones are of the same clerk and the same given key, and none is a key
-- from outside.
pub record ClerkKeysDiffer : Type 0 where
  pub same : (n m j k : List ℕ) → is_clerk_name n ≡ true → is_clerk_name m ≡ true
      → clerk_key n j ≡ clerk_key m k → (n ≡ m) × (j ≡ k)
  pub apart : (n k : List ℕ) → is_outside_key (clerk_key n k) ≡ false

-- The numbers and the day of a routing are in their ranges.
abbrev pub IsRouted : Routed → Type 0
IsRouted (Shelf branch) = IsNumber branch
IsRouted (HoldShelf hold branch until) = IsNumber hold × IsNumber branch × IsDayNumber until
IsRouted (Transit goal (Some hold)) = IsNumber goal × IsNumber hold
IsRouted (Transit goal None) = IsNumber goal

-- The reply can be kept: it is neither a page nor a refusal, and its numbers, amounts and days are in their
-- ranges.
abbrev pub IsKept : Reply → Type 0
IsKept Done = Unit {0}
IsKept (Lent loan due) = IsNumber loan × IsDayNumber due
IsKept (CheckedIn fine routed) = IsAmount fine × IsRouted routed
IsKept (Held hold) = IsNumber hold
IsKept (Moved routed) = IsRouted routed
IsKept (Lost fine price) = IsAmount fine × IsAmount price
IsKept (Owed owed) = IsAmount owed
IsKept (Shown _) = ⊥
IsKept (Refused _) = ⊥

-- Kept replies with the same reply text are the same.
abbrev pub ReplyTextsDiffer : Type 0
ReplyTextsDiffer = (a b : Reply) → IsKept a → IsKept b → reply_text a ≡ reply_text b → a ≡ b

-- The request text of every command is UTF-8.
abbrev pub RequestTextsUtf8 : Type 0
RequestTextsUtf8 = (c : Command) → IsCommand c → IsUtf8 (request_text c)

-- The reply text of every reply that can be kept is UTF-8.
abbrev pub ReplyTextsUtf8 : Type 0
ReplyTextsUtf8 = (r : Reply) → IsKept r → IsUtf8 (reply_text r)
