-- The words of a command, as clap takes them.
use Rattle.std.specs.Prelude.{◌≡◌, List, [], ◌∷◌, Option, Some, None, Result, IfOk}
use Rattle.std.specs.Prelude.{pos, true, false}
use Rattle.std.specs.Option.{option_map}
use Rattle.clap.specs.Words.{App, Rule, Text, app_of, new_app, new_rule, with_rule, with_subcommand}
use Rattle.clap.specs.declared.builder.action.ArgAction.TheVariants.{Append, SetTrue}
use Rattle.clap.specs.declared.builder.command.Command.{Command}
use Rattle.clap.specs.declared.builder.command.Command.TheViews.{out-Command as fields_of}
use Rattle.clap.specs.declared.builder.value_parser.ValueParser.TheVariants as parser
use Rattle.load.specs.declared.ranges.NumberRange.{NumberRange}
use Rattle.command_line.specs.declared.word.Takes.{Takes}
use Rattle.command_line.specs.declared.word.Takes.TheVariants as takes
use Rattle.command_line.specs.declared.word.Word.{Word}

-- an option --name VALUE
abbrev pub option : Text → Rule
option name = record (new_rule name) { long = Some name; value_names = 1 }

-- an option --name N, with one of those numbers
abbrev pub number_option : NumberRange → Text → Rule
number_option range name =
    record (option name) { parser = Some (parser.Signed (pos range.least) (pos range.most)) }

-- the word of that name, by what stands in its place or after it
abbrev pub rule_by : Takes → Text → Rule
rule_by takes.Argument name = record (new_rule name) { required = true }
rule_by takes.FreeArgument name = new_rule name
rule_by takes.Nothing name = record (new_rule name) { long = Some name; action = Some SetTrue }
rule_by takes.Text name = option name
rule_by takes.Texts name = record (option name) { action = Some Append }
rule_by (takes.Number range) name = number_option range name
rule_by takes.NeededText name = record (option name) { required = true }
rule_by (takes.NeededNumber range) name = record (number_option range name) { required = true }

-- the word of that name, with a default if it has one
abbrev pub word : Text → Option Text → Takes → Rule
word name None takes = rule_by takes name
word name (Some default) takes = record (rule_by takes name) { defaults = default ∷ [] }

-- the word as clap takes it
abbrev pub rule_of_word : Word → Rule
rule_of_word w = word w.name.now (option_map (λ d. d.now) w.default) w.takes

-- an app with more words, in their order
abbrev pub with_rules : App → List Rule → App
with_rules app [] = app
with_rules app (rule ∷ rules) = with_rules (with_rule app rule) rules

-- a command with its words
abbrev pub command_app : Text → List Rule → App
command_app name rules = with_rules (new_app name) rules

-- clap's command is that one, and none of its words is of all commands
pub record IsForm (app : App) (made : Command) : Type 0 where
  pub is : app_of made ≡ app
  pub local : (fields_of made).has_globals ≡ false

-- clap's command has those words and, if the other was made, that one after them
abbrev pub IsAdded : {E : Type 0} → App → Result Command E → Command → Type 0
IsAdded app one more =
    (form : App) → IfOk one (IsForm form) → app_of more ≡ with_subcommand app form.top
