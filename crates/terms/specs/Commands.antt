-- The table of commands: each has a name and parts, and each part a name and a kind.
use Rattle.std.specs.Prelude.{◌≡◌, ◌≢◌, ◌<◌, ◌^◌, ℕ, Bool, false, List, [], ◌∷◌, length, map, codes, Option, Some, None, if◌then◌else◌}
use Rattle.std.specs.Borrow.{Bor}
use Rattle.std.specs.Fmt.{decimal}
use Rattle.std.specs.Str.{bytes_eq}
use Rattle.calendar.specs.Days.{IsDayNumber, day_text}
use Rattle.terms.specs.Forms.{is_card_key, is_barcode, is_name}
use Rattle.terms.specs.Laws.{IsCommand}
use Rattle.terms.specs.Texts.{Part, Number, Amount, Day, Mask, CardKey, Barcode, Name, said, command_words, mask_text}
use Rattle.terms.specs.declared.command.Command.{Command}
use Rattle.terms.specs.declared.form.PartKind.{PartKind}
use Rattle.terms.specs.declared.form.PartKind.TheVariants as kind
use Rattle.terms.specs.declared.form.PartForm.{PartForm}
use Rattle.terms.specs.declared.form.CommandForm.{CommandForm}

-- A text, as bytes.
abbrev pub Text : Type 0
Text = List ℕ

-- The texts behind references.
abbrev pub texts : List (Bor Text) → List Text
texts words = map (λ word. word.now) words

-- The kind of a part.
abbrev pub kind_of : Part → PartKind
kind_of (Number _) = kind.Number
kind_of (Amount _) = kind.Amount
kind_of (Day _) = kind.Day
kind_of (Mask _) = kind.Mask
kind_of (CardKey _) = kind.CardKey
kind_of (Barcode _) = kind.Barcode
kind_of (Name _) = kind.Name

-- A part's name and kind in the table; a command's name and parts.
abbrev pub Column : Type 0
Column = Text × PartKind

abbrev pub CommandEntry : Type 0
CommandEntry = Text × List Column

abbrev pub column : PartForm → Column
column part = (part.name.now, part.kind)

abbrev pub line : CommandForm → CommandEntry
line form = (form.name.now, map column form.parts.now)

-- The table.
abbrev pub commands : List CommandEntry
commands =
    (codes "begin-day", (codes "day", kind.Day) ∷ [])
    ∷ (codes "branch", (codes "branch", kind.Number) ∷ (codes "pickup", kind.Number) ∷ (codes "name", kind.Name) ∷ [])
    ∷ (codes "week", (codes "branch", kind.Number) ∷ (codes "mask", kind.Mask) ∷ [])
    ∷ (codes "close-day", (codes "branch", kind.Number) ∷ (codes "day", kind.Day) ∷ [])
    ∷ (codes "open-day", (codes "branch", kind.Number) ∷ (codes "day", kind.Day) ∷ [])
    ∷ (codes "kind", (codes "kind", kind.Number) ∷ (codes "loans", kind.Number) ∷ (codes "holds", kind.Number) ∷ (codes "debt", kind.Amount) ∷ [])
    ∷ (
      codes "rule",
      (codes "kind", kind.Number) ∷ (codes "copy-kind", kind.Number) ∷ (codes "period", kind.Number) ∷ (codes "renewals", kind.Number)
          ∷ (codes "rate", kind.Amount) ∷ (codes "cap", kind.Amount) ∷ [],
    )
    ∷ (codes "grace", (codes "kind", kind.Number) ∷ (codes "copy-kind", kind.Number) ∷ (codes "days", kind.Number) ∷ [])
    ∷ (codes "patron", (codes "patron", kind.Number) ∷ (codes "kind", kind.Number) ∷ (codes "card-key", kind.CardKey) ∷ (codes "name", kind.Name) ∷ [])
    ∷ (
      codes "acquire",
      (codes "copy", kind.Number) ∷ (codes "title", kind.Number) ∷ (codes "kind", kind.Number) ∷ (codes "home", kind.Number)
          ∷ (codes "price", kind.Amount) ∷ (codes "text", kind.Name) ∷ [],
    )
    ∷ (codes "card-key", (codes "patron", kind.Number) ∷ (codes "card-key", kind.CardKey) ∷ [])
    ∷ (codes "amend-patron", (codes "patron", kind.Number) ∷ (codes "kind", kind.Number) ∷ (codes "name", kind.Name) ∷ [])
    ∷ (codes "amend-branch", (codes "branch", kind.Number) ∷ (codes "pickup", kind.Number) ∷ (codes "name", kind.Name) ∷ [])
    ∷ (codes "amend-title", (codes "title", kind.Number) ∷ (codes "text", kind.Name) ∷ [])
    ∷ (codes "amend-copy", (codes "copy", kind.Number) ∷ (codes "kind", kind.Number) ∷ (codes "price", kind.Amount) ∷ [])
    ∷ (codes "rehome", (codes "copy", kind.Number) ∷ (codes "branch", kind.Number) ∷ [])
    ∷ (codes "copy-barcode", (codes "copy", kind.Number) ∷ (codes "barcode", kind.Barcode) ∷ [])
    ∷ (codes "patron-barcode", (codes "patron", kind.Number) ∷ (codes "barcode", kind.Barcode) ∷ [])
    ∷ (codes "drop-barcode", (codes "barcode", kind.Barcode) ∷ [])
    ∷ (codes "check-out", (codes "patron", kind.Number) ∷ (codes "copy", kind.Number) ∷ (codes "branch", kind.Number) ∷ [])
    ∷ (codes "check-in", (codes "copy", kind.Number) ∷ (codes "branch", kind.Number) ∷ [])
    ∷ (codes "renew", (codes "loan", kind.Number) ∷ [])
    ∷ (codes "place-hold", (codes "patron", kind.Number) ∷ (codes "title", kind.Number) ∷ (codes "branch", kind.Number) ∷ [])
    ∷ (codes "place-hold-from", (codes "patron", kind.Number) ∷ (codes "title", kind.Number) ∷ (codes "branch", kind.Number) ∷ (codes "day", kind.Day) ∷ [])
    ∷ (codes "cancel-hold", (codes "hold", kind.Number) ∷ [])
    ∷ (codes "unshelve", (codes "hold", kind.Number) ∷ [])
    ∷ (codes "unshelve-cancelled", (codes "hold", kind.Number) ∷ [])
    ∷ (codes "missing", (codes "copy", kind.Number) ∷ [])
    ∷ (codes "withdraw", (codes "copy", kind.Number) ∷ [])
    ∷ (codes "pay", (codes "patron", kind.Number) ∷ (codes "amount", kind.Amount) ∷ [])
    ∷ (codes "waive", (codes "patron", kind.Number) ∷ (codes "amount", kind.Amount) ∷ [])
    ∷ (codes "charge", (codes "patron", kind.Number) ∷ (codes "amount", kind.Amount) ∷ (codes "branch", kind.Number) ∷ (codes "text", kind.Name) ∷ [])
    ∷ (codes "pay-at", (codes "patron", kind.Number) ∷ (codes "amount", kind.Amount) ∷ (codes "branch", kind.Number) ∷ [])
    ∷ (codes "page", (codes "patron", kind.Number) ∷ [])
    ∷ (codes "copy", (codes "copy", kind.Number) ∷ [])
    ∷ (codes "copies", (codes "title", kind.Number) ∷ (codes "after", kind.Number) ∷ [])
    ∷ (codes "queue", (codes "title", kind.Number) ∷ (codes "after", kind.Number) ∷ [])
    ∷ (codes "account", (codes "patron", kind.Number) ∷ (codes "after", kind.Number) ∷ [])
    ∷ (codes "debts", (codes "after", kind.Number) ∷ [])
    ∷ (codes "overdue", (codes "branch", kind.Number) ∷ (codes "after", kind.Number) ∷ [])
    ∷ (codes "shelf", (codes "branch", kind.Number) ∷ (codes "after", kind.Number) ∷ [])
    ∷ (codes "pulls", (codes "branch", kind.Number) ∷ (codes "after", kind.Number) ∷ [])
    ∷ (codes "transits", (codes "branch", kind.Number) ∷ (codes "after", kind.Number) ∷ [])
    ∷ (codes "till", (codes "day", kind.Day) ∷ [])
    ∷ (codes "today", [])
    ∷ (codes "borrower", (codes "patron", kind.Number) ∷ [])
    ∷ (codes "find-patrons", (codes "after", kind.Number) ∷ (codes "text", kind.Name) ∷ [])
    ∷ (codes "find-titles", (codes "after", kind.Number) ∷ (codes "text", kind.Name) ∷ [])
    ∷ (codes "branches", (codes "after", kind.Number) ∷ [])
    ∷ (codes "closed-days", (codes "branch", kind.Number) ∷ (codes "after", kind.Number) ∷ [])
    ∷ (codes "kinds", (codes "after", kind.Number) ∷ [])
    ∷ (codes "rules", (codes "kind", kind.Number) ∷ (codes "after", kind.Number) ∷ [])
    ∷ (codes "missing-copies", (codes "after", kind.Number) ∷ [])
    ∷ (codes "loans", (codes "copy", kind.Number) ∷ (codes "after", kind.Number) ∷ [])
    ∷ (codes "find-barcode", (codes "barcode", kind.Barcode) ∷ [])
    ∷ (codes "till-at", (codes "branch", kind.Number) ∷ (codes "day", kind.Day) ∷ [])
    ∷ []

-- The parts of the command with this name.
unfoldable pub parts_in : List CommandEntry → Text → Option (List Column)
parts_in [] name = None
parts_in (first ∷ rest) name = if bytes_eq first.0 name then Some first.1 else parts_in rest name

-- The command is in the table: under its name are parts of its kinds.
pub record IsListed (command : Command) : Type 0 where
  pub parts : List Column
  pub found : parts_in commands (said command).0 ≡ Some parts
  pub kinds : map (λ part. part.1) parts ≡ map kind_of (said command).1

-- Every command is in the table.
abbrev pub CommandsAreListed : Type 0
CommandsAreListed = (command : Command) → IsListed command

-- A word can write the part: an amount must be below 2^32 for that, as every number is.
abbrev pub IsSayablePart : Part → Type 0
IsSayablePart (Number n) = Unit {0}
IsSayablePart (Amount n) = n < 2 ^ 32
IsSayablePart (Day n) = Unit {0}
IsSayablePart (Mask closed) = Unit {0}
IsSayablePart (CardKey t) = Unit {0}
IsSayablePart (Barcode t) = Unit {0}
IsSayablePart (Name t) = Unit {0}

abbrev pub AreSayable : List Part → Type 0
AreSayable [] = Unit {0}
AreSayable (part ∷ parts) = IsSayablePart part × AreSayable parts

-- Each part of the command has its form, and words can write its numbers and amounts.
abbrev pub IsSayable : Command → Type 0
IsSayable command = IsCommand command × AreSayable (said command).1

-- A name and the words after it are the words of this command.
abbrev pub IsReadAs : Text → List Text → Command → Type 0
IsReadAs name others command = IsSayable command × (command_words command ≡ name ∷ others)

-- A name and the words after it are the words of no command.
pub record IsNoCommand (name : Text) (others : List Text) : Type 0 where
  pub none : (command : Command) → IsReadAs name others command → ⊥

-- The word is no number.
pub record IsNoNumber (word : Text) : Type 0 where
  pub none : (n : ℕ) → n < 2 ^ 32 → word ≢ decimal n

-- The word is no day.
pub record IsNoDay (word : Text) : Type 0 where
  pub none : (n : ℕ) → IsDayNumber n → word ≢ day_text n

-- The word is no mask.
pub record IsNoMask (word : Text) : Type 0 where
  pub none : (closed : List Bool) → length closed ≡ 7 → word ≢ mask_text closed

-- The word is no name.
pub record IsNoName (word : Text) : Type 0 where
  pub none : is_name word ≡ false

-- The word is no card key.
pub record IsNoCardKey (word : Text) : Type 0 where
  pub none : is_card_key word ≡ false

-- The word is no barcode.
pub record IsNoBarcode (word : Text) : Type 0 where
  pub none : is_barcode word ≡ false
