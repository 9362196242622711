-- Files of keys: the clerks that they give, and their lines.
use Rattle.std.specs.Prelude.{◌≡◌, ◌≢◌, ◌+◌, ◌<◌, ◌≤◌, ◌++◌, ℕ, true, List, [], ◌∷◌, Option, Some, None, Result, Ok, Err}
use Rattle.std.specs.Prelude.{length, codes, All, AllPairs, IfSome}
use Rattle.terms.specs.Forms.{is_clerk_name, is_card_key}
use Rattle.clerks.specs.declared.list.TheConstants.{MOST_CLERKS}
use Rattle.clerks.specs.declared.clerk.Role.{Role}
use Rattle.clerks.specs.declared.clerk.Role.TheVariants.{Desk, Lending}
use Rattle.clerks.specs.declared.clerk.Clerk.{Clerk}
use Rattle.front.specs.declared.keys.KeysFault.{KeysFault}
use Rattle.front.specs.declared.keys.KeysFault.TheVariants.{Line, Read, Memory}

-- The word for a role.
abbrev pub role_word : Role → List ℕ
role_word Desk = codes "desk"
role_word Lending = codes "lending"

-- A clerk's name as text.
abbrev pub name_text : Option (List ℕ) → List ℕ
name_text None = []
name_text (Some name) = name

-- A clerk's line without its newline: name, role and key, with single spaces between them.
abbrev pub line_of : Clerk → List ℕ
line_of clerk = name_text clerk.name ++ (32 ∷ (role_word clerk.role ++ (32 ∷ clerk.key)))

-- The text of clerks: their lines in order, each ended by a newline.
abbrev pub text_of : List Clerk → List ℕ
text_of [] = []
text_of (clerk ∷ clerks) = line_of clerk ++ (10 ∷ text_of clerks)

-- A name is there, in its form.
abbrev pub IsNamed : Option (List ℕ) → Type 0
IsNamed None = ⊥
IsNamed (Some name) = is_clerk_name name ≡ true

-- A clerk with a name and a key in their forms.
pub record IsClerk (clerk : Clerk) : Type 0 where
  pub name : IsNamed clerk.name
  pub key : is_card_key clerk.key ≡ true

-- Two clerks have different names and different keys.
pub record Differ (one other : Clerk) : Type 0 where
  pub name : one.name ≢ other.name
  pub key : one.key ≢ other.key

-- The clerks of a file's first lines: each with a name and a key in their forms, any two of them with
-- different ones, and no more than may be.
pub record AreClerks (clerks : List Clerk) : Type 0 where
  pub each : All IsClerk clerks
  pub differ : AllPairs Differ clerks
  pub few : length clerks ≤ MOST_CLERKS

-- The clerks of a file.
pub record AreFileClerks (clerks : List Clerk) : Type 0 where
  pub good : AreClerks clerks
  pub some : 0 < length clerks

-- The bytes are the file of these clerks.
pub record IsFile (bytes : List ℕ) (clerks : List Clerk) : Type 0 where
  pub form : AreFileClerks clerks
  pub text : bytes ≡ text_of clerks

-- The bytes begin with the line of no clerk who can follow these.
pub record IsWrongAfter (above : List Clerk) (bytes : List ℕ) : Type 0 where
  pub none : (clerk : Clerk) (more : List ℕ) → AreClerks (above ++ clerk ∷ []) → bytes ≢ line_of clerk ++ (10 ∷ more)

-- The line with this number is the first that is wrong: the lines above are those of clerks, and it is not.
-- Nothing is wrong at the end of a file that has lines.
pub record IsFirstWrong (bytes : List ℕ) (number : ℕ) : Type 0 where
  pub above : List Clerk
  pub rest : List ℕ
  pub good : AreClerks above
  pub text : bytes ≡ text_of above ++ rest
  pub count : number ≡ length above + 1
  pub wrong : IsWrongAfter above rest
  pub goes_on : rest ≡ [] → above ≡ []

-- The bytes are the file of no clerks.
pub record IsNoFile (bytes : List ℕ) : Type 0 where
  pub none : (clerks : List Clerk) → IsFile bytes clerks → ⊥

-- What a reading of bytes, known or not, says of them.
abbrev pub ReadsKeys : Option (List ℕ) → Result (List Clerk) KeysFault → Type 0
ReadsKeys bytes (Ok clerks) = AreFileClerks clerks × IfSome bytes (λ all. all ≡ text_of clerks)
ReadsKeys bytes (Err (Line number)) =
    (0 < number) × (number ≤ MOST_CLERKS + 1) × IfSome bytes (λ all. IsFirstWrong all number × IsNoFile all)
ReadsKeys bytes (Err Read) = Unit {0}
ReadsKeys bytes (Err Memory) = Unit {0}

-- Bytes are the file of one list of clerks only, or have one first line that is wrong, and never both.
pub record AreReadOnce (bytes : List ℕ) : Type 0 where
  pub clerks : (one other : List Clerk) → IsFile bytes one → IsFile bytes other → one ≡ other
  pub line : (one other : ℕ) → IsFirstWrong bytes one → IsFirstWrong bytes other → one ≡ other
  pub not_both : (clerks : List Clerk) (number : ℕ) → IsFile bytes clerks → IsFirstWrong bytes number → ⊥

-- The same of all bytes.
abbrev pub KeysReadOnce : Type 0
KeysReadOnce = (bytes : List ℕ) → AreReadOnce bytes
