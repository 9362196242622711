-- What the desk's command line makes of a command's words.
use Rattle.std.proofs.Common.{◌≡◌, ◌∙◌, ◌&&◌, ℕ, Bool, true, false, refl, sym, subst, ap, ap₂, List, [], ◌∷◌, ◌++◌, ◌<◌, map, length, drop}
use Rattle.std.proofs.Common.{get_or, zero, suc, arith, Option, Some, None}
use Rattle.std.specs.Prelude.{find, fold, option_map}
use Rattle.std.specs.List.{list_any}
use Rattle.clap.proofs.OnLiterals.{clap_on_literals}
use Rattle.clap.proofs.WalkLemmas.{walk_stopped, first_value-rows}
use Rattle.clap.specs.Matches.{first_value}
use Rattle.clap.specs.declared.parser.matches.Found.{Found}
use Rattle.clap.specs.declared.parser.matches.ArgMatches.{ArgMatches}
use Rattle.clap.specs.declared.builder.command.Command.{Command}
use Rattle.std.proofs.lemmas.List.{length-map}
use Rattle.terms.specs.Commands.{Column, CommandEntry, column, commands, parts_in}
use Rattle.terms.specs.declared.form.PartForm.{PartForm}
use Rattle.clap.specs.Walk.{first_of, rows_of, Names, Row, Text, Walk, answers_to, nothing_held, walk, walk_from, walked}
use Rattle.clap.specs.Simple.{App, Shape, built, built_leaf, inherited, is_simple, HasMatchesOf, app_of, subcommand_rows_of, label_of}
use Rattle.clap.specs.Simple.{names_of, marked_built, with_leaf_noted, subcommand_of}
use Rattle.clap.specs.Takes.{takes, turn_passes, walk_passes}
use Rattle.std.specs.Str.{bytes_eq}
use Rattle.std.proofs.lemmas.Slice.Eq.{bytes_eq-Decides}
use Rattle.front.specs.Line.{HasShape, IsApp, command_app, desk_app, empty_app, names_in}
use Rattle.clap.specs.Words.{with_subcommand}
use Rattle.front.specs.Understood.{begins_with_hyphen}
use Rattle.front.proofs.Walks.{Takes, level_passes-words, rows_are, rows_by, distinct_by, or_false, values_by}

-- a command's name, and the names of its parts
abbrev Form : Type 0
Form = Text × List Text

-- the line with that command alone
abbrev desk : Form → App
desk form = with_subcommand empty_app (command_app form.0 form.1).top

abbrev top : Form → Shape
top form = (built (desk form)).top

abbrev names : Form → Names
names form = names_of (built (desk form))

-- the command of the line, once the line is built
abbrev leaf : Form → Shape
leaf form = built_leaf (inherited (with_leaf_noted (marked_built (desk form).top)) (command_app form.0 form.1).top)

-- the walk after the name of a command
abbrev stopped : Text → List Text → Walk
stopped name ws = record (walk_from nothing_held) { stopped = Some (name, ws) }

-- the first word, where it is the name of the command
record IsMet (form : Form) : Type 0 where
  simple : is_simple (desk form) ≡ true
  walk : walked (top form).rules (names form) (walk_from nothing_held) form.0 ≡ stopped form.0 []
  passes : turn_passes (top form) (names form) (walk_from nothing_held) form.0 ≡ true
  found : find (λ s. answers_to form.0 (label_of s)) (built (desk form)).subs ≡ Some (leaf form)
  named : (leaf form).name ≡ form.0
  takes : Takes (leaf form) form.1

abbrev AreMet : List CommandEntry → Type 0
AreMet [] = Unit {0}
AreMet (form ∷ rest) = IsMet (form.0, names_in form.1) × AreMet rest

are_met : AreMet commands
unfolding clap_on_literals
are_met = search

-- a command that is found is met
met_in : (forms : List CommandEntry) → AreMet forms → (name : Text) (parts : List Column) → parts_in forms name ≡ Some parts → IsMet (name, names_in parts)
unfolding parts_in
met_in [] met name parts e = absurd (cc)
met_in (form ∷ rest) met name parts e = go (bytes_eq form.0 name) refl (λ h. met_in rest met.1 name parts h)
  where
    go : (b : Bool) → bytes_eq form.0 name ≡ b → (parts_in rest name ≡ Some parts → IsMet (name, names_in parts)) → IsMet (name, names_in parts)
    go true t more =
        let same : form.0 ≡ name = (bytes_eq-Decides form.0 name).0 t in
        let one : Some form.1 ≡ Some parts = rw t at e in
        let parts_are : form.1 ≡ parts = cc in
        subst (λ (n : Text). IsMet (n, names_in parts)) same (subst (λ (ps : List Column). IsMet (form.0, names_in ps)) parts_are met.0)
    go false t more = more (rw t at e)

-- the line stops at the name, and leaves the other words to the command
walk-name : (form : Form) → IsMet form → (ws : List Text) → walk (top form).rules (names form) nothing_held (form.0 ∷ ws) ≡ stopped form.0 ws
walk-name form met ws = ap (λ (v : Walk). fold (walked (top form).rules (names form)) v ws) met.walk
    ∙ sym (walk_stopped (top form).rules (names form) (walk_from nothing_held) form.0 [] ws)

-- once it stopped, each word passes
stopped_passes : (form : Form) (seen ws : List Text) → walk_passes (top form) (names form) (stopped form.0 seen) ws ≡ true
unfolding walk_passes walked
stopped_passes form seen [] = refl
stopped_passes form seen (w ∷ ws) = stopped_passes form (seen ++ w ∷ []) ws

walk_passes-name : (form : Form) → IsMet form → (ws : List Text)
    → walk_passes (top form) (names form) (walk_from nothing_held) (form.0 ∷ ws) ≡ true
unfolding walk_passes
walk_passes-name form met ws =
    ap₂ (λ (b : Bool) (v : Walk). b && walk_passes (top form) (names form) v ws) met.passes met.walk ∙ stopped_passes form [] ws

-- the command takes the words, and each of its arguments has the word at its place
takes-words : (form : Form) → IsMet form → (ws : List Text) → length ws ≡ length form.1 → list_any begins_with_hyphen ws ≡ false
    → takes (desk form) (form.0 ∷ ws) ≡ true
takes-words form met ws long plain =
    let at_top = walk-name form met ws in
    let passes = walk_passes-name form met ws in
    let below = level_passes-words (leaf form) form.1 ws met.takes long plain in
    let found = met.found in
    let simple = met.simple in
    rw (simple, at_top, found, below, passes) refl

subcommand_of-words : (form : Form) → IsMet form → (ws : List Text) → length ws ≡ length form.1 → list_any begins_with_hyphen ws ≡ false
    → subcommand_of (desk form) (form.0 ∷ ws) ≡ Some (form.0, rows_by form.1 ws)
subcommand_of-words form met ws long plain =
    let at_top = walk-name form met ws in
    let found = met.found in
    let rows = rows_are (leaf form) form.1 ws met.takes long plain in
    let named = met.named in
    rw (at_top, found, named, rows) refl

-- the form of the words' command
abbrev met_form : CommandEntry → Form
met_form form = (form.0, names_in form.1)

met_by : (words : List Text) (form : CommandEntry) → HasShape words form → IsMet (met_form form)
met_by words form shape = met_in commands are_met form.0 form.1 shape.known

counted : (words : List Text) (form : CommandEntry) → (shape : HasShape words form) → length shape.others ≡ length (names_in form.1)
counted words form shape = shape.count ∙ sym (length-map form.1 (λ (part : Column). part.0))

plain_after : (words : List Text) (name : Text) (others : List Text) → words ≡ name ∷ others → list_any begins_with_hyphen words ≡ false
    → list_any begins_with_hyphen others ≡ false
plain_after words name others joined plain =
    let e : list_any begins_with_hyphen (name ∷ others) ≡ false = subst (λ (ws : List Text). list_any begins_with_hyphen ws ≡ false) joined plain in
    (or_false (begins_with_hyphen name) (list_any begins_with_hyphen others) e).1

pub taken-by_shape : (words : List Text) (form : CommandEntry) → HasShape words form → takes (desk_app form) words ≡ true
taken-by_shape words form shape =
    ap (takes (desk_app form)) shape.joined
    ∙ takes-words (met_form form) (met_by words form shape) shape.others (counted words form shape)
    (plain_after words form.0 shape.others shape.joined shape.plain)

rows-by_shape : (words : List Text) (form : CommandEntry) → (shape : HasShape words form)
    → subcommand_of (desk_app form) words ≡ Some (form.0, rows_by (names_in form.1) shape.others)
rows-by_shape words form shape =
    ap (subcommand_of (desk_app form)) shape.joined
    ∙ subcommand_of-words (met_form form) (met_by words form shape) shape.others (counted words form shape)
    (plain_after words form.0 shape.others shape.joined shape.plain)

first_values : (found : Found) (ids : List Text) → map (first_value found) ids ≡ map (λ id. first_of id (rows_of found)) ids
first_values found [] = refl
first_values found (id ∷ ids) = ap₂ (λ (x : Option Text) (xs : List (Option Text)). x ∷ xs) (first_value-rows found id) (first_values found ids)

-- what the matches hold is the words after the name
pub values-by_shape : (words : List Text) (form : CommandEntry) → HasShape words form → (o : Option (Text × List Row)) (found : Found)
    → o ≡ subcommand_of (desk_app form) words
    → Some (rows_of found) ≡ option_map (λ p. p.1) o → map (first_value found) (names_in form.1) ≡ map Some (drop 1 words)
values-by_shape words form shape o found is rows =
    let ids = names_in form.1 in
    let met = met_by words form shape in
    let known : option_map (λ p. p.1) o ≡ Some (rows_by ids shape.others) =
    ap (option_map (λ (p : Text × List Row). p.1)) (is ∙ rows-by_shape words form shape) in
    let both : Some (rows_of found) ≡ Some (rows_by ids shape.others) = rows ∙ known in
    let same : rows_of found ≡ rows_by ids shape.others = cc in
    let rest : drop 1 words ≡ shape.others = ap (drop 1) shape.joined in
    first_values found ids
    ∙ (ap (λ (rs : List Row). map (λ id. first_of id rs) ids) same
    ∙ (values_by ids shape.others (counted words form shape) (distinct_by (leaf (met_form form)) ids met.takes) ∙ sym (ap (map Some) rest)))

pub rows_there : (words : List Text) (form : CommandEntry) → HasShape words form → (o : Option (Text × List Row))
    → o ≡ subcommand_of (desk_app form) words → None ≡ option_map (λ p. p.1) o → ⊥
rows_there words form shape o is none =
    let known : option_map (λ p. p.1) o ≡ Some (rows_by (names_in form.1) shape.others) =
    ap (option_map (λ (p : Text × List Row). p.1)) (is ∙ rows-by_shape words form shape) in
    absurd (cc)

-- what a parse of the line gives
pub rows-parsed : (line : Command) (words : List Text) (form : CommandEntry) (m : ArgMatches) → HasShape words form
    → IsApp line (desk_app form) → HasMatchesOf (app_of line) words m
    → subcommand_rows_of m ≡ subcommand_of (desk_app form) words
rows-parsed line words form m shape same h =
    (h (ap is_simple same.app ∙ (met_by words form shape).simple)).1 ∙ ap (λ (a : App). subcommand_of a words) same.app

pub Somes-same : (xs ys : List Text) → map Some xs ≡ map Some ys → xs ≡ ys
Somes-same [] [] e = refl
Somes-same [] (y ∷ ys) e = absurd (cc)
Somes-same (x ∷ xs) [] e = absurd (cc)
Somes-same (x ∷ xs) (y ∷ ys) e = ap₂ (λ (z : Text) (zs : List Text). z ∷ zs) (cc) (Somes-same xs ys (cc))

-- a part that was given no word
pub none-given : (f : Text → Option Text) (parts : List PartForm) (i : ℕ) (d : PartForm) (found : List Text) → i < length parts
    → f (get_or parts i d).name.now ≡ None
    → map Some found ≡ map f (names_in (map column parts)) → ⊥
none-given f [] i d found lt none e = absurd (omega arith)
none-given f (p ∷ parts) i d [] lt none e = absurd (cc)
none-given f (p ∷ parts) zero d (x ∷ found) lt none e = let one : Some x ≡ f p.name.now = cc in absurd (cc)
none-given f (p ∷ parts) (suc i) d (x ∷ found) lt none e = none-given f parts i d found (omega arith) none (cc)
