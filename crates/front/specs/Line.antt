-- The command line of the desk: its commands, each with its arguments, as given to `clap`.
use Rattle.std.specs.Prelude.{◌≡◌, List, [], ◌∷◌, codes, true, false, Some, fold, length, drop, map}
use Rattle.std.specs.List.{list_any}
use Rattle.front.specs.Understood.{begins_with_hyphen}
use Rattle.clap.specs.Words.{App, Rule, Text, app_of, new_app, new_rule, with_rule, with_subcommand}
use Rattle.clap.specs.Simple.{new_shape}
use Rattle.terms.specs.Commands.{Column, CommandEntry, commands, parts_in}
use Rattle.clap.specs.declared.builder.command.Command.{Command}
use Rattle.clap.specs.declared.builder.command.Command.TheViews.{out-Command}

-- The names of parts.
abbrev pub names_in : List Column → List Text
names_in parts = map (λ part. part.0) parts

-- A required positional argument.
abbrev pub required : Text → Rule
required id = record (new_rule id) { required = true }

-- The command with one more argument.
abbrev pub with_required : App → Text → App
with_required app id = with_rule app (required id)

-- A command with its arguments.
abbrev pub command_app : Text → List Text → App
command_app name ids = fold with_required (new_app name) ids

-- The line with one more command.
abbrev pub with_form : App → CommandEntry → App
with_form line form = with_subcommand line (command_app form.0 (names_in form.1)).top

-- A line without commands, whose first word is a command's name.
abbrev pub empty_app : App
empty_app = record { top = record (new_shape (codes "desk")) { no_binary_name = true }; subs = [] }

-- The command line of the desk with this command alone.
abbrev pub desk_app : CommandEntry → App
desk_app form = with_form empty_app form

-- The words are the command's name and a word for each part; none begins with a hyphen.
pub record HasShape (words : List Text) (form : CommandEntry) : Type 0 where
  pub others : List Text
  pub joined : words ≡ form.0 ∷ others
  pub known : parts_in commands form.0 ≡ Some form.1
  pub count : length others ≡ length form.1
  pub plain : list_any begins_with_hyphen words ≡ false

-- The words are all but the first.
abbrev pub IsAfterName : List Text → List Text → Type 0
IsAfterName words others = others ≡ drop 1 words

-- `clap` reads the command as this one.
pub record IsApp (command : Command) (line : App) : Type 0 where
  pub app : app_of command ≡ line
  pub globals : (out-Command command).has_globals ≡ false
