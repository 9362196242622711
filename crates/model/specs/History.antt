-- The list of accepted events, newest first, and what its commands set.
use Rattle.calendar.specs.declared.limits.TheConstants.{FIRST_DAY}
use Rattle.std.specs.Prelude.{ℕ, zero, suc, ◌+◌, ◌==◌, nat_le, Bool, true, false, ◌&&◌, not, if◌then◌else◌, List, [], ◌∷◌, ◌++◌, filter}
use Rattle.std.specs.Prelude.{Option, Some, None, is_none, option_map, unwrap_or, replicate, bytes_eq}
use Rattle.std.specs.Option.{option_or}
use Rattle.terms.specs.declared.command.Owner.{Owner}
use Rattle.terms.specs.declared.command.Command.{Command}
use Rattle.terms.specs.declared.command.Command.TheVariants.{BeginDay, Branch, Week, CloseDay, OpenDay, Kind, Rule, Grace, Patron, Acquire, CheckOut, PlaceHold}
use Rattle.terms.specs.declared.command.Command.TheVariants.{SetCardKey, AmendPatron, AmendBranch, AmendTitle, AmendCopy, Rehome}
use Rattle.terms.specs.declared.command.Command.TheVariants.{CopyBarcode, PatronBarcode, DropBarcode}
use Rattle.terms.specs.declared.row.Thing.{Thing}
use Rattle.terms.specs.declared.row.Thing.TheVariants as thing
use Rattle.terms.specs.Pictures.{same_thing}
use Rattle.model.specs.Calendar.{opens}

-- An accepted command that changes something, with its key and the key's owner.
pub record Event : Type 0 where
  pub owner : Owner
  pub key : List ℕ
  pub command : Command

-- Events, newest first.
abbrev pub History : Type 0
History = List Event

-- The numbers from 1 to n, ascending.
abbrev pub numbers_to : ℕ → List ℕ
numbers_to zero = []
numbers_to (suc n) = numbers_to n ++ (suc n) ∷ []

-- ---- the calendar

-- A begin-day makes its day today.
abbrev pub today_after : Command → ℕ → ℕ
today_after (BeginDay d) before = d
today_after _ before = before

-- Today is the day of the last begin-day; in a new library, the calendar's first day.
abbrev pub today : History → ℕ
today [] = FIRST_DAY
today (e ∷ H) = today_after e.command (today H)

-- A week sets the closed weekdays of its branch.
abbrev pub week_after : Command → ℕ → List Bool → List Bool
week_after (Week n closed) b before = if n == b then closed else before
week_after _ b before = before

-- The closed weekdays of a branch, Monday first: those of its last week command, none in a new branch.
abbrev pub week_of : History → ℕ → List Bool
week_of [] b = replicate 7 false
week_of (e ∷ H) b = week_after e.command b (week_of H b)

-- A close-day adds a single day to its branch's; an open-day removes it.
abbrev pub singles_after : Command → ℕ → List ℕ → List ℕ
singles_after (CloseDay n d) b before = if n == b then d ∷ before else before
singles_after (OpenDay n d) b before = if n == b then filter (λ e. not (d == e)) before else before
singles_after _ b before = before

-- The days that were closed singly at the branch and not reopened.
abbrev pub singles_of : History → ℕ → List ℕ
singles_of [] b = []
singles_of (e ∷ H) b = singles_after e.command b (singles_of H b)

-- Whether the branch is open on a day.
abbrev pub is_open : History → ℕ → ℕ → Bool
is_open H b = opens (week_of H b) (singles_of H b)

-- ---- what commands make or set

-- A branch: how many days a copy waits on its hold shelf, and its name.
pub record BranchFacts : Type 0 where
  pub pickup : ℕ
  pub name : List ℕ

-- A patron kind: the most open loans, the most active holds, and the most debt at check-out.
pub record KindFacts : Type 0 where
  pub loans : ℕ
  pub holds : ℕ
  pub debt : ℕ

-- A rule's terms: the loan period in days, the renewals, the cents for each day late, the cap, and the grace
-- days, for which lateness costs nothing.
pub record Terms : Type 0 where
  pub period : ℕ
  pub renewals : ℕ
  pub rate : ℕ
  pub cap : ℕ
  pub grace : ℕ

-- A patron: the kind, the card key and the name.
pub record PatronFacts : Type 0 where
  pub kind : ℕ
  pub card_key : List ℕ
  pub name : List ℕ

-- A copy: its title, its kind, its home branch and its price in cents.
pub record CopyFacts : Type 0 where
  pub title : ℕ
  pub kind : ℕ
  pub home : ℕ
  pub price : ℕ

-- The branch with this pick-up period and name.
abbrev pub with_pickup : ℕ → List ℕ → BranchFacts → BranchFacts
with_pickup pickup name r = record r { pickup = pickup; name = name }

-- A branch command makes its branch unless it exists; an amend-branch sets the pick-up period and the name of
-- one that does.
abbrev pub branch_after : Command → ℕ → Option BranchFacts → Option BranchFacts
branch_after (Branch n pickup name) b before = option_or before (if n == b then Some (record { pickup = pickup; name = name }) else None)
branch_after (AmendBranch n pickup name) b before = if n == b then option_map (with_pickup pickup name) before else before
branch_after _ b before = before

-- A branch is what its first command made, with what was set since.
abbrev pub branch_of : History → ℕ → Option BranchFacts
branch_of [] b = None
branch_of (e ∷ H) b = branch_after e.command b (branch_of H b)

-- A kind command sets its patron kind.
abbrev pub kind_after : Command → ℕ → Option KindFacts → Option KindFacts
kind_after (Kind n loans holds debt) k before = if n == k then Some (record { loans = loans; holds = holds; debt = debt }) else before
kind_after _ k before = before

-- A patron kind is what its last command set.
abbrev pub kind_of : History → ℕ → Option KindFacts
kind_of [] k = None
kind_of (e ∷ H) k = kind_after e.command k (kind_of H k)

-- The terms with these grace days.
abbrev pub with_grace : ℕ → Terms → Terms
with_grace days r = record r { grace = days }

-- A rule command sets the terms of its two kinds, with no grace days; a grace command sets the grace days of
-- an existing rule.
abbrev pub rule_after : Command → ℕ → ℕ → Option Terms → Option Terms
rule_after (Rule n m period renewals rate cap) k c before =
    if (n == k) && (m == c) then Some (record { period = period; renewals = renewals; rate = rate; cap = cap; grace = 0 }) else before
rule_after (Grace n m days) k c before = if (n == k) && (m == c) then option_map (with_grace days) before else before
rule_after _ k c before = before

-- The rule of a patron kind and a copy kind: set by its last rule command, with the grace days of the last
-- grace command since.
abbrev pub rule_of : History → ℕ → ℕ → Option Terms
rule_of [] k c = None
rule_of (e ∷ H) k c = rule_after e.command k c (rule_of H k c)

-- A branch command adds its number to the list.
abbrev pub branches_after : Command → List ℕ → List ℕ
branches_after (Branch n pickup name) before = n ∷ before
branches_after _ before = before

-- The numbers of all branches, some more than once.
abbrev pub branches : History → List ℕ
branches [] = []
branches (e ∷ H) = branches_after e.command (branches H)

-- A kind command adds its number to the list.
abbrev pub kinds_after : Command → List ℕ → List ℕ
kinds_after (Kind n loans holds debt) before = n ∷ before
kinds_after _ before = before

-- The numbers of all patron kinds, some more than once.
abbrev pub kinds : History → List ℕ
kinds [] = []
kinds (e ∷ H) = kinds_after e.command (kinds H)

-- A rule command of the patron kind adds its copy kind to the list.
abbrev pub ruled_after : Command → ℕ → List ℕ → List ℕ
ruled_after (Rule n m period renewals rate cap) k before = if n == k then m ∷ before else before
ruled_after _ k before = before

-- The copy kinds that a patron kind has rules for, some more than once.
abbrev pub ruled : History → ℕ → List ℕ
ruled [] k = []
ruled (e ∷ H) k = ruled_after e.command k (ruled H k)

-- The patron with this card key.
abbrev pub with_card_key : List ℕ → PatronFacts → PatronFacts
with_card_key card_key r = record r { card_key = card_key }

-- The patron with this kind and name.
abbrev pub with_kind : ℕ → List ℕ → PatronFacts → PatronFacts
with_kind kind name r = record r { kind = kind; name = name }

-- A patron command enrols its patron unless enrolled; a card-key sets the card key of an enrolled patron, an
-- amend-patron the kind and the name.
abbrev pub patron_after : Command → ℕ → Option PatronFacts → Option PatronFacts
patron_after (Patron n kind card_key name) p before =
    option_or before (if n == p then Some (record { kind = kind; card_key = card_key; name = name }) else None)
patron_after (SetCardKey n card_key) p before = if n == p then option_map (with_card_key card_key) before else before
patron_after (AmendPatron n kind name) p before = if n == p then option_map (with_kind kind name) before else before
patron_after _ p before = before

-- A patron is what the first patron command made, with what was set since.
abbrev pub patron_of : History → ℕ → Option PatronFacts
patron_of [] p = None
patron_of (e ∷ H) p = patron_after e.command p (patron_of H p)

-- An acquire makes its title unless it exists; an amend-title sets the text of one that does.
abbrev pub title_after : Command → ℕ → Option (List ℕ) → Option (List ℕ)
title_after (Acquire copy n kind home price text) t before = option_or before (if n == t then Some text else None)
title_after (AmendTitle n text) t before = if n == t then option_map (λ old. text) before else before
title_after _ t before = before

-- A title's text is that of the first acquire that names it, or of the last amend-title since.
abbrev pub title_of : History → ℕ → Option (List ℕ)
title_of [] t = None
title_of (e ∷ H) t = title_after e.command t (title_of H t)

-- The copy with this kind and price.
abbrev pub with_price : ℕ → ℕ → CopyFacts → CopyFacts
with_price kind price r = record r { kind = kind; price = price }

-- The copy with this home.
abbrev pub with_home : ℕ → CopyFacts → CopyFacts
with_home home r = record r { home = home }

-- An acquire makes its copy unless it exists; an amend-copy sets the kind and the price of one that does, a
-- rehome its home.
abbrev pub copy_after : Command → ℕ → Option CopyFacts → Option CopyFacts
copy_after (Acquire n title kind home price text) c before =
    option_or before (if n == c then Some (record { title = title; kind = kind; home = home; price = price }) else None)
copy_after (AmendCopy n kind price) c before = if n == c then option_map (with_price kind price) before else before
copy_after (Rehome n home) c before = if n == c then option_map (with_home home) before else before
copy_after _ c before = before

-- A copy is what its first acquire made, with what was set since.
abbrev pub copy_of : History → ℕ → Option CopyFacts
copy_of [] c = None
copy_of (e ∷ H) c = copy_after e.command c (copy_of H c)

-- The first acquire of a copy adds its number to the list.
abbrev pub copies_after : History → Command → List ℕ → List ℕ
copies_after H (Acquire n title kind home price text) before = if is_none (copy_of H n) then n ∷ before else before
copies_after H _ before = before

-- The numbers of all copies ever acquired.
abbrev pub copies : History → List ℕ
copies [] = []
copies (e ∷ H) = copies_after H e.command (copies H)

-- The first acquire of a title adds its number to the list.
abbrev pub titles_after : History → Command → List ℕ → List ℕ
titles_after H (Acquire copy n kind home price text) before = if is_none (title_of H n) then n ∷ before else before
titles_after H _ before = before

-- The numbers of all titles ever acquired.
abbrev pub titles : History → List ℕ
titles [] = []
titles (e ∷ H) = titles_after H e.command (titles H)

-- The first command of a patron adds its number to the list.
abbrev pub patrons_after : History → Command → List ℕ → List ℕ
patrons_after H (Patron n kind card_key name) before = if is_none (patron_of H n) then n ∷ before else before
patrons_after H _ before = before

-- The numbers of all patrons ever enrolled.
abbrev pub patrons : History → List ℕ
patrons [] = []
patrons (e ∷ H) = patrons_after H e.command (patrons H)

-- ---- barcodes

-- What a command does to barcodes: it gives a copy or a patron one, or takes one from whatever has it.
pub data Labelling : Type 0 where
  Gives : Thing → List ℕ → Labelling
  Takes : List ℕ → Labelling
  NoLabelling : Labelling

abbrev pub labelling : Command → Labelling
labelling (CopyBarcode c barcode) = Gives (thing.Copy c) barcode
labelling (PatronBarcode p barcode) = Gives (thing.Patron p) barcode
labelling (DropBarcode barcode) = Takes barcode
labelling _ = NoLabelling

-- The barcode, if any, is this one.
abbrev pub is_barcode_of : List ℕ → Option (List ℕ) → Bool
is_barcode_of barcode before = unwrap_or (option_map (λ x. bytes_eq x barcode) before) false

-- A barcode that is given to a thing takes the place of the thing's old one. One that is taken is its no more.
abbrev pub barcode_after : Labelling → Thing → Option (List ℕ) → Option (List ℕ)
barcode_after (Gives u barcode) t before = if same_thing u t then Some barcode else before
barcode_after (Takes barcode) t before = if is_barcode_of barcode before then None else before
barcode_after NoLabelling t before = before

-- The barcode of a copy or a patron: the last one given to it, unless that was taken since.
abbrev pub barcode_of : History → Thing → Option (List ℕ)
barcode_of [] t = None
barcode_of (e ∷ H) t = barcode_after (labelling e.command) t (barcode_of H t)

-- The thing, if any, is this one.
abbrev pub is_thing : Thing → Option Thing → Bool
is_thing u before = unwrap_or (option_map (λ t. same_thing u t) before) false

-- A barcode is of the thing that it is given to, and nobody's once it is taken, or that thing gets another.
abbrev pub thing_after : Labelling → List ℕ → Option Thing → Option Thing
thing_after (Gives u given) barcode before = if bytes_eq given barcode then Some u else (if is_thing u before then None else before)
thing_after (Takes taken) barcode before = if bytes_eq taken barcode then None else before
thing_after NoLabelling barcode before = before

-- The copy or the patron that has a barcode.
abbrev pub thing_of : History → List ℕ → Option Thing
thing_of [] barcode = None
thing_of (e ∷ H) barcode = thing_after (labelling e.command) barcode (thing_of H barcode)

-- ---- numbers given in order

-- A check-out makes one more loan.
abbrev pub loans_after : Command → ℕ → ℕ
loans_after (CheckOut patron copy branch) before = before + 1
loans_after _ before = before

-- The number of loans made.
abbrev pub loans : History → ℕ
loans [] = 0
loans (e ∷ H) = loans_after e.command (loans H)

-- The number of the next loan.
abbrev pub next_loan : History → ℕ
next_loan H = loans H + 1

-- A hold: who placed it, on which title, where to pick it up, and from which day, if not at once.
pub record HoldFacts : Type 0 where
  pub patron : ℕ
  pub title : ℕ
  pub branch : ℕ
  pub first_day : Option ℕ

-- A hold has begun at once if it has no first day, otherwise on that day.
abbrev pub has_begun : ℕ → Option ℕ → Bool
has_begun today None = true
has_begun today (Some day) = nat_le day today

-- The hold that a command makes.
abbrev pub hold_made : Command → Option HoldFacts
hold_made (PlaceHold p t b d) = Some (record { patron = p; title = t; branch = b; first_day = d })
hold_made _ = None

-- One more hold, if one is made.
abbrev pub holds_after : Option HoldFacts → ℕ → ℕ
holds_after (Some made) before = before + 1
holds_after None before = before

-- The number of holds placed.
abbrev pub holds : History → ℕ
holds [] = 0
holds (e ∷ H) = holds_after (hold_made e.command) (holds H)

-- The number of the next hold.
abbrev pub next_hold : History → ℕ
next_hold H = holds H + 1

-- A new hold gets the next number.
abbrev pub hold_after : History → Option HoldFacts → ℕ → Option HoldFacts → Option HoldFacts
hold_after H (Some made) h before = if next_hold H == h then Some made else before
hold_after H None h before = before

-- Hold n is the n-th made.
abbrev pub hold_of : History → ℕ → Option HoldFacts
hold_of [] h = None
hold_of (e ∷ H) h = hold_after H (hold_made e.command) h (hold_of H h)
