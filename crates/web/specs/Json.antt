-- What requests' JSON bodies are.
use Rattle.std.specs.Prelude.{◌≡◌, ◌+◌, ◌≤◌, ℕ, length, List, [], ◌∷◌, codes, Option, Some, None, IsUtf8}
use Rattle.serde_json.specs.Data.{Data, number, unsigned, string, array, object, Items, no_items, item, Members, no_members, member}
use Rattle.serde_json.specs.Find.{get, get_member}
use Rattle.serde_json.specs.Read.{read}
use Rattle.calendar.specs.Days.{day_text}
use Rattle.web.specs.declared.limits.TheConstants.{MOST_WORDS}

-- The body is JSON text of these data.
pub record IsJson (body : List ℕ) (d : Data) : Type 0 where
  pub text : IsUtf8 body
  pub reads : read body ≡ Some d

-- The number of members.
abbrev pub count_members : Members → ℕ
count_members no_members = 0
count_members (member name d members) = 1 + count_members members

-- The first day in an object with this many members: none with two; with three, that of the text of its
-- member `from`.
abbrev pub TellsFirstDay : Data → ℕ → Option ℕ → Type 0
TellsFirstDay value count None = count ≡ 2
TellsFirstDay value count (Some day) = (count ≡ 3) × (get (codes "from") value ≡ Some (string (day_text day)))

-- An object with the members `branch` and `title`, and at most a member `from` besides.
abbrev pub IsHold : Data → ℕ → ℕ → Option ℕ → Type 0
IsHold (object members) branch title first_day =
    TellsFirstDay (object members) (count_members members) first_day × (get_member (codes "branch") members ≡ Some (number (unsigned branch)))
    × (get_member (codes "title") members ≡ Some (number (unsigned title)))
IsHold _ branch title first_day = ⊥

-- A list of texts.
abbrev pub texts_data : List (List ℕ) → Items
texts_data [] = no_items
texts_data (text ∷ texts) = item (string text) (texts_data texts)

-- The body is a JSON list of 1 to 12 texts.
pub record IsTextList (body : List ℕ) (texts : List (List ℕ)) : Type 0 where
  pub json : IsJson body (array (texts_data texts))
  pub some : 1 ≤ length texts
  pub few : length texts ≤ MOST_WORDS

-- The text, if the data are one.
abbrev pub data_text : Data → Option (List ℕ)
data_text (string text) = Some text
data_text _ = None
