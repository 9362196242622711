-- What `clap` makes of a command's words: it takes them, and each argument has the word in its place.
use Rattle.std.proofs.Common.{◌≡◌, ◌∙◌, ◌+◌, ◌&&◌, ◌||◌, ℕ, Bool, cond, true, false, refl, sym, ap, ap₂, List, [], ◌∷◌, ◌++◌, map, length}
use Rattle.std.proofs.Common.{Option, Some, None, append-nil, append_assoc, arith}
use Rattle.std.specs.Prelude.{not, min, fold}
use Rattle.std.specs.List.{list_all, list_any}
use Rattle.std.specs.Str.{bytes_eq}
use Rattle.std.proofs.lemmas.Bool.Decides.{Decides-eqb}
use Rattle.std.proofs.lemmas.Slice.Eq.{bytes_eq-Decides}
use Rattle.std.proofs.lemmas.List.{map-append}
use Rattle.clap.proofs.WalkLemmas.{list_any-map}
use Rattle.clap.specs.Lexer.{long_of, short_of, usize_max}
use Rattle.clap.specs.Walk.{Held, Row, Rule, Text, Walk, arg_by_id, arg_by_index, at_row, has_row, idle, more_values, nothing_held}
use Rattle.clap.specs.Walk.{rows_after, with_default, is_empty, first_of, reading_by, settled, settled_rows, walk, walked}
use Rattle.clap.specs.Simple.{Shape, filled, with_index}
use Rattle.clap.specs.Takes.{default_passes, is_given, level_passes, settle_passes, turn_passes, walk_passes}
use Rattle.clap.specs.declared.parser.matches.ValueSource.TheVariants.{CommandLine}
use Rattle.front.specs.Line.{required}
use Rattle.front.specs.Understood.{begins_with_hyphen}

-- an argument at its place, as `clap` fills it in
abbrev pub place : ℕ → Text → Rule
place i id = with_index i (filled (required id))

-- a word that `clap` takes as it stands
record IsPlainWord (w : Text) : Type 0 where
  long : long_of w ≡ None
  short : short_of w ≡ None
  dashes : bytes_eq w (45 ∷ 45 ∷ []) ≡ false

-- what was found for an argument
abbrev pub row : Text → Text → Row
row id w = record { id = id; values = w ∷ []; count = None; source = Some CommandLine; reading = reading_by (place 1 id) }

abbrev pub rows_by : List Text → List Text → List Row
rows_by [] ws = []
rows_by (id ∷ ids) [] = []
rows_by (id ∷ ids) (w ∷ ws) = row id w ∷ rows_by ids ws

-- the arguments stand at their places among the rules, from the place i on, after those with the ids `seen`
abbrev pub Placed : List Rule → ℕ → List Text → List Text → Type 0
Placed c i seen [] = Unit {0}
Placed c i seen (id ∷ ids) =
    (arg_by_index c i ≡ Some (place i id)) × (arg_by_id c id ≡ Some (place i id))
    × (list_any (λ x. bytes_eq x id) seen ≡ false) × Placed c (min (i + 1) usize_max) (seen ++ id ∷ []) ids

-- where the walk stands before the word of the place i
abbrev at : Held → ℕ → Walk
at h i = record { held = h; waiting = idle; position = i; is_trailing = false; stopped = None }

-- what is held after the word of an argument
abbrev taken : List Rule → Held → Text → Text → Held
taken c h id w = record { rows = settled_rows c h.pending h.rows; pending = Some (id, w ∷ []); skip = h.skip }

plain_word : (w : Text) → begins_with_hyphen w ≡ false → IsPlainWord w
plain_word [] e = record { long = refl; short = refl; dashes = refl }
plain_word (x ∷ xs) e = record { long = rw e refl; short = rw e refl; dashes = rw e refl }

and_false : (b : Bool) → (b && false) ≡ false
and_false true = refl
and_false false = refl

pub or_false : (a b : Bool) → (a || b) ≡ false → (a ≡ false) × (b ≡ false)
or_false true b e = absurd (cc)
or_false false b e = (refl, e)

or_true : (b : Bool) → (b || true) ≡ true
or_true true = refl
or_true false = refl

step : (c : List Rule) (h : Held) (i : ℕ) (id w : Text) → IsPlainWord w → arg_by_index c i ≡ Some (place i id)
    → walked c [] (at h i) w ≡ at (taken c h id w) (min (i + 1) usize_max)
unfolding walked
step c h i id w plain found =
    let w1 = plain.long in let w2 = plain.short in let w3 = plain.dashes in
    rw (w3, w1, w2, found, and_false) refl

-- a row joins where its id has none
at_row-new : (id : Text) (change : Row → List Row) (missing rows : List Row) → has_row id rows ≡ false → at_row id change missing rows ≡ rows ++ missing
at_row-new id change missing [] e = refl
at_row-new id change missing (r ∷ rows) e =
    let both = or_false (bytes_eq r.id id) (has_row id rows) e in
    let here = both.0 in
    rw here (ap (λ rest. r ∷ rest) (at_row-new id change missing rows both.1))

settled-taken : (c : List Rule) (h : Held) (i : ℕ) (id w : Text) → arg_by_id c id ≡ Some (place i id) → has_row id (settled c h).rows ≡ false
    → (settled c (taken c h id w)).rows ≡ (settled c h).rows ++ row id w ∷ []
settled-taken c h i id w found new =
    let rows = (settled c h).rows in
    rw found (rw (at_row-new id (λ _. []) [] rows new, append-nil rows) (at_row-new id (more_values CommandLine (w ∷ [])) (row id w ∷ []) rows new))

abbrev id_of : Row → Text
id_of r = r.id

-- the rows have the ids `seen`, so an id that is new to these has no row
new_row : (id : Text) (rows : List Row) (seen : List Text) → map id_of rows ≡ seen → list_any (λ x. bytes_eq x id) seen ≡ false → has_row id rows ≡ false
new_row id rows seen same new = list_any-map (λ x. bytes_eq x id) id_of rows ∙ (ap (list_any (λ x. bytes_eq x id)) same ∙ new)

-- each word goes to the argument at its place
walk-rows : (c : List Rule) (h : Held) (i : ℕ) (seen ids ws : List Text) → map id_of (settled c h).rows ≡ seen → Placed c i seen ids
    → length ws ≡ length ids → list_any begins_with_hyphen ws ≡ false
    → (settled c (fold (walked c []) (at h i) ws).held).rows ≡ (settled c h).rows ++ rows_by ids ws
walk-rows c h i seen [] [] same placed long plain = sym (append-nil (settled c h).rows)
walk-rows c h i seen [] (w ∷ ws) same placed long plain = absurd (cc)
walk-rows c h i seen (id ∷ ids) [] same placed long plain = absurd (cc)
walk-rows c h i seen (id ∷ ids) (w ∷ ws) same placed long plain =
    let rows = (settled c h).rows in
    let plains = or_false (begins_with_hyphen w) (list_any begins_with_hyphen ws) plain in
    let next = step c h i id w (plain_word w plains.0) placed.0 in
    let fresh = new_row id rows seen same placed.2 in
    let more : (settled c (taken c h id w)).rows ≡ rows ++ row id w ∷ [] = settled-taken c h i id w placed.1 fresh in
    let ids_are : map id_of (settled c (taken c h id w)).rows ≡ seen ++ id ∷ [] =
    ap (map id_of) more ∙ (map-append id_of rows (row id w ∷ []) ∙ ap (λ xs. xs ++ id ∷ []) same) in
    ap (λ (v : Walk). (settled c (fold (walked c []) v ws).held).rows) next
    ∙ (walk-rows c (taken c h id w) (min (i + 1) usize_max) (seen ++ id ∷ []) ids ws ids_are placed.3 (cc) plains.1
    ∙ (ap (λ xs. xs ++ rows_by ids ws) more ∙ append_assoc rows (row id w ∷ []) (rows_by ids ws)))

-- a word that is taken passes
settles : (s : Shape) (h : Held) (i : ℕ) (id w : Text) → arg_by_id s.rules id ≡ Some (place i id) → has_row id (settled s.rules h).rows ≡ false
    → settle_passes s.rules s.args_override_self (taken s.rules h id w) ≡ true
settles s h i id w found new = rw (found, new) refl

turns : (s : Shape) (h : Held) (i : ℕ) (id w : Text) → IsPlainWord w → arg_by_index s.rules i ≡ Some (place i id)
    → settle_passes s.rules s.args_override_self h ≡ true → turn_passes s [] (at h i) w ≡ true
turns s h i id w plain found settled =
    let w1 = plain.long in let w2 = plain.short in let w3 = plain.dashes in
    rw (w3, w1, w2, found, and_false, settled) refl

-- the words of the arguments all pass, and so does the last of them, which is still pending
walk-passing : (s : Shape) (h : Held) (i : ℕ) (seen ids ws : List Text) → map id_of (settled s.rules h).rows ≡ seen → Placed s.rules i seen ids
    → length ws ≡ length ids → list_any begins_with_hyphen ws ≡ false → settle_passes s.rules s.args_override_self h ≡ true
    → (walk_passes s [] (at h i) ws ≡ true) × (settle_passes s.rules s.args_override_self (fold (walked s.rules []) (at h i) ws).held ≡ true)
unfolding walk_passes
walk-passing s h i seen [] [] same placed long plain settled = (refl, settled)
walk-passing s h i seen [] (w ∷ ws) same placed long plain settled = absurd (cc)
walk-passing s h i seen (id ∷ ids) [] same placed long plain settled = absurd (cc)
walk-passing s h i seen (id ∷ ids) (w ∷ ws) same placed long plain is_settled =
    let c = s.rules in
    let rows = (settled c h).rows in
    let plains = or_false (begins_with_hyphen w) (list_any begins_with_hyphen ws) plain in
    let word = plain_word w plains.0 in
    let next = step c h i id w word placed.0 in
    let fresh = new_row id rows seen same placed.2 in
    let more : (settled c (taken c h id w)).rows ≡ rows ++ row id w ∷ [] = settled-taken c h i id w placed.1 fresh in
    let ids_are : map id_of (settled c (taken c h id w)).rows ≡ seen ++ id ∷ [] =
    ap (map id_of) more ∙ (map-append id_of rows (row id w ∷ []) ∙ ap (λ xs. xs ++ id ∷ []) same) in
    let turn = turns s h i id w word placed.0 is_settled in
    let rest = walk-passing s (taken c h id w) (min (i + 1) usize_max) (seen ++ id ∷ []) ids ws ids_are placed.3 (cc) plains.1
    (settles s h i id w placed.1 fresh) in (
      ap₂ (λ (b : Bool) (v : Walk). b && walk_passes s [] v ws) turn next ∙ rest.0,
      ap (λ (v : Walk). settle_passes c s.args_override_self (fold (walked c []) v ws).held) next ∙ rest.1,
    )

-- no argument has a default value
cond-same : {A : Type 0} (b : Bool) (x : A) → cond b x x ≡ x
cond-same true x = refl
cond-same false x = refl

no_items : {A : Type 0} (xs : List A) → is_empty xs ≡ true → xs ≡ []
no_items [] e = refl
no_items (x ∷ xs) e = let bad : length (x ∷ xs) ≡ 0 = (Decides-eqb (length (x ∷ xs)) 0).0 e in absurd (omega arith)

pub and_true : (a b : Bool) → (a && b) ≡ true → (a ≡ true) × (b ≡ true)
and_true true b e = (refl, e)
and_true false b e = absurd (cc)

abbrev pub has_no_default : Rule → Bool
has_no_default a = is_empty a.defaults

with_defaults-same : (rows : List Row) (c : List Rule) → list_all has_no_default c ≡ true → fold with_default rows c ≡ rows
with_defaults-same rows [] e = refl
with_defaults-same rows (a ∷ c) e =
    let both = and_true (has_no_default a) (list_all has_no_default c) e in
    let none = no_items a.defaults both.0 in
    let here : with_default rows a ≡ rows = rw none (cond-same (has_row a.id rows) rows) in
    ap (λ (xs : List Row). fold with_default xs c) here ∙ with_defaults-same rows c both.1

-- an argument whose id is among those that have words is given
given : (id : Text) (ids ws : List Text) → length ws ≡ length ids → list_any (λ x. bytes_eq x id) ids ≡ true → is_given id (rows_by ids ws) ≡ true
given id [] ws long here = absurd (cc)
given id (x ∷ ids) [] long here = absurd (cc)
given id (x ∷ ids) (w ∷ ws) long here = go (bytes_eq x id) refl (λ later. given id ids ws (cc) later)
  where
    go : (b : Bool) → bytes_eq x id ≡ b → (list_any (λ y. bytes_eq y id) ids ≡ true → is_given id (rows_by ids ws) ≡ true)
        → is_given id (rows_by (x ∷ ids) (w ∷ ws)) ≡ true
    go true e more = rw e refl
    go false e more = rw e (more (rw e at here))

abbrev pub is_expected : List Text → Rule → Bool
is_expected ids a = not a.required || list_any (λ x. bytes_eq x a.id) ids

all_given : (c : List Rule) (ids ws : List Text) → length ws ≡ length ids → list_all (is_expected ids) c ≡ true
    → list_all (λ a. not a.required || is_given a.id (rows_by ids ws)) c ≡ true
all_given [] ids ws long e = refl
all_given (a ∷ c) ids ws long e =
    let both = and_true (is_expected ids a) (list_all (is_expected ids) c) e in
    ap₂ (λ (x y : Bool). x && y) (go a.required refl both.0) (all_given c ids ws long both.1)
  where
    go : (r : Bool) → a.required ≡ r → is_expected ids a ≡ true → (not a.required || is_given a.id (rows_by ids ws)) ≡ true
    go true q h = rw q (given a.id ids ws long (rw q at h))
    go false q h = rw q refl

-- each argument has the word at its place
abbrev pub are_distinct : List Text → Bool
are_distinct [] = true
are_distinct (id ∷ ids) = not (list_any (λ x. bytes_eq id x) ids) && are_distinct ids

others_skip : (id w : Text) (rows : List Row) (ids : List Text) → list_any (λ x. bytes_eq id x) ids ≡ false
    → map (λ x. first_of x (row id w ∷ rows)) ids ≡ map (λ x. first_of x rows) ids
others_skip id w rows [] e = refl
others_skip id w rows (x ∷ ids) e =
    let both = or_false (bytes_eq id x) (list_any (λ y. bytes_eq id y) ids) e in
    let here = both.0 in
    rw here (ap (λ (rest : List (Option Text)). first_of x rows ∷ rest) (others_skip id w rows ids both.1))

not_true : (b : Bool) → not b ≡ true → b ≡ false
not_true true e = absurd (cc)
not_true false e = refl

same_bytes : (xs : List ℕ) → bytes_eq xs xs ≡ true
same_bytes xs = (bytes_eq-Decides xs xs).1 refl

pub values_by : (ids ws : List Text) → length ws ≡ length ids → are_distinct ids ≡ true → map (λ id. first_of id (rows_by ids ws)) ids ≡ map Some ws
values_by [] [] long e = refl
values_by [] (w ∷ ws) long e = absurd (cc)
values_by (id ∷ ids) [] long e = absurd (cc)
values_by (id ∷ ids) (w ∷ ws) long e =
    let both = and_true (not (list_any (λ x. bytes_eq id x) ids)) (are_distinct ids) e in
    let first : first_of id (row id w ∷ rows_by ids ws) ≡ Some w = let here = same_bytes id in rw here refl in
    ap₂ (λ (x : Option Text) (xs : List (Option Text)). x ∷ xs) first
    (others_skip id w (rows_by ids ws) ids (not_true _ both.0) ∙ values_by ids ws (cc) both.1)

-- a command that takes these words, but for the places of its arguments
abbrev pub fits : Shape → List Text → Bool
fits s ids = list_all has_no_default s.rules && (list_all default_passes s.rules && (list_all (λ a. a.is_free) s.rules
    && (list_all (is_expected ids) s.rules && (are_distinct ids && (not s.arg_required_else_help && not s.subcommand_required)))))

pub record Takes (s : Shape) (ids : List Text) : Type 0 where
  pub placed : Placed s.rules 1 [] ids
  pub fits : fits s ids ≡ true

record Fits (s : Shape) (ids : List Text) : Type 0 where
  defaults : list_all has_no_default s.rules ≡ true
  passes : list_all default_passes s.rules ≡ true
  free : list_all (λ a. a.is_free) s.rules ≡ true
  expected : list_all (is_expected ids) s.rules ≡ true
  distinct : are_distinct ids ≡ true
  else_help : s.arg_required_else_help ≡ false
  subcommand : s.subcommand_required ≡ false

parts_of : (s : Shape) (ids : List Text) → fits s ids ≡ true → Fits s ids
parts_of s ids e =
    let a = and_true _ _ e in
    let b = and_true _ _ a.1 in
    let c = and_true _ _ b.1 in
    let d = and_true _ _ c.1 in
    let f = and_true _ _ d.1 in
    let g = and_true _ _ f.1 in
    record {
      defaults = a.0;
      passes = b.0;
      free = c.0;
      expected = d.0;
      distinct = f.0;
      else_help = not_true _ g.0;
      subcommand = not_true _ g.1;
    }

pub rows_are : (s : Shape) (ids ws : List Text) → Takes s ids → length ws ≡ length ids → list_any begins_with_hyphen ws ≡ false
    → rows_after s.rules [] ws ≡ rows_by ids ws
rows_are s ids ws t long plain =
    let e : (settled s.rules (walk s.rules [] nothing_held ws).held).rows ≡ rows_by ids ws =
    walk-rows s.rules nothing_held 1 [] ids ws refl t.placed long plain in
    ap (λ (rows : List Row). fold with_default rows s.rules) e ∙ with_defaults-same (rows_by ids ws) s.rules (parts_of s ids t.fits).defaults

pub level_passes-words : (s : Shape) (ids ws : List Text) → Takes s ids → length ws ≡ length ids → list_any begins_with_hyphen ws ≡ false
    → level_passes s [] nothing_held ws false ≡ true
level_passes-words s ids ws t long plain =
    let pass = walk-passing s nothing_held 1 [] ids ws refl t.placed long plain refl in
    let walks = pass.0 in
    let settles = pass.1 in
    let rows = rows_are s ids ws t long plain in
    let p = parts_of s ids t.fits in
    let all = all_given s.rules ids ws long p.expected in
    let p1 = p.passes in let p2 = p.free in let p3 = p.else_help in let p4 = p.subcommand in
    rw (walks, settles, p1, p3, p4, p2, rows, all) (or_true (s.subcommand_negates_reqs && false))

pub distinct_by : (s : Shape) (ids : List Text) → Takes s ids → are_distinct ids ≡ true
distinct_by s ids t = (parts_of s ids t.fits).distinct
