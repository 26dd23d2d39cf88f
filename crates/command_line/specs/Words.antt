-- What the words of a command line ask for, by clap's reading of a simple command.
use Rattle.std.specs.Prelude.{ℕ, ◌≡◌, ◌≤◌, ◌⊎◌, ◌↔◌, Bool, IsTrue, List, []}
use Rattle.std.specs.Prelude.{Option, Some, None, codes}
use Rattle.std.specs.Prelude.{length, map, min, option_map, string_bytes}
use Rattle.clap.specs.Words.{IsAmong, Row, Text, fault_of, first_of, subcommand_of}
use Rattle.clap.specs.declared.error.kind.ErrorKind.{ErrorKind}
use Rattle.clap.specs.declared.error.kind.ErrorKind.TheVariants.{DisplayHelp, DisplayVersion}
use Rattle.clap.specs.declared.error.kind.ErrorKind.TheVariants.{OutOfMemory}
use Rattle.load.specs.declared.ranges.NumberRange.{NumberRange}
use Rattle.command_line.specs.Forms.{abd_app, any_number, default_most, most_shown, shown_calls}
use Rattle.command_line.specs.Forms.{give_up_range, parts_range, shown_keys, workers_range}
use Rattle.command_line.specs.Reading.{AsksNumber, GivesFlag, Names, texts_given}
use Rattle.command_line.specs.RunWords.{AsksRun}
use Rattle.command_line.specs.declared.asked.By.{By}
use Rattle.command_line.specs.declared.asked.By.TheVariants as by
use Rattle.command_line.specs.declared.asked.CheckAsked.{CheckAsked}
use Rattle.command_line.specs.declared.asked.Command.{Command}
use Rattle.command_line.specs.declared.asked.Command.TheVariants.{Check, Decide, Draw, Explain}
use Rattle.command_line.specs.declared.asked.Command.TheVariants.{Justify, Monitor, Run, Simulate}
use Rattle.command_line.specs.declared.asked.Command.TheVariants.{Split, Trace, TracePage}
use Rattle.command_line.specs.declared.asked.DecideAsked.{DecideAsked}
use Rattle.command_line.specs.declared.asked.DrawAsked.{DrawAsked}
use Rattle.command_line.specs.declared.asked.JustifyAsked.{JustifyAsked}
use Rattle.command_line.specs.declared.asked.KeysAsked.{KeysAsked}
use Rattle.command_line.specs.declared.asked.MonitorAsked.{MonitorAsked}
use Rattle.command_line.specs.declared.asked.SplitAsked.{SplitAsked}
use Rattle.command_line.specs.declared.asked.Usage.{Usage}
use Rattle.command_line.specs.declared.asked.Usage.TheVariants as usage
use Rattle.command_line.specs.declared.lines.Lines.{Lines}
use Rattle.command_line.specs.declared.lines.Lines.TheVariants as form

-- the words after `check` or `decide` ask for lines in that form: for objects of JSON if they give
-- `--json`
abbrev pub AsksForm : List Row → Lines → Type 0
AsksForm rows form.Plain = GivesFlag rows (codes "json") → ⊥
AsksForm rows form.Json = GivesFlag rows (codes "json")

-- the words after `check` name the files, and ask for so many workers, and for lines in that form
pub record AsksCheck (rows : List Row) (asked : CheckAsked) : Type 0 where
  pub history : Names rows (codes "HISTORY") asked.history
  pub orders : Names rows (codes "ORDERS") asked.orders
  pub workers : AsksNumber rows (codes "workers") workers_range asked.workers
  pub form : AsksForm rows asked.form

-- the words after `decide` name the history, each key by a `--key` of its own, in their order, and
-- ask for so many keys, and for lines in that form
pub record AsksDecision (rows : List Row) (asked : DecideAsked) : Type 0 where
  pub history : Names rows (codes "HISTORY") asked.history
  pub keys : map (λ s. s.now) asked.keys.items ≡ texts_given rows (codes "key")
  pub most : AsksNumber rows (codes "most") shown_keys asked.most
  pub form : AsksForm rows asked.form

-- the words say by `--by` what orders are made by, or keys judged by: by tags where they have no
-- such option
abbrev pub AsksBy : List Row → By → Type 0
AsksBy rows by.Tags = (first_of (codes "by") rows ≡ None)
    ⊎ (first_of (codes "by") rows ≡ Some (codes "tags"))
AsksBy rows by.Values = first_of (codes "by") rows ≡ Some (codes "values")

-- the words after `justify` name the history, and say by `--by` what orders are made by, and by
-- `--unchecked` whether they go unchecked
pub record AsksOrders (rows : List Row) (asked : JustifyAsked) : Type 0 where
  pub history : Names rows (codes "HISTORY") asked.history
  pub by : AsksBy rows asked.by
  pub way : IsTrue asked.unchecked ↔ GivesFlag rows (codes "unchecked")

-- the words ask by `--most` for so many, a number in that range, or for so many where they have no
-- such option
abbrev pub AsksMost : List Row → NumberRange → ℕ → ℕ → Type 0
AsksMost rows range default most = AsksNumber rows (codes "most") range most
    ⊎ ((first_of (codes "most") rows ≡ None) × (most ≡ default))

-- the words after `explain` or `draw` name the files and the key, and ask for so many keys
pub record AsksKeys (rows : List Row) (asked : KeysAsked) : Type 0 where
  pub history : Names rows (codes "HISTORY") asked.history
  pub orders : first_of (codes "ORDERS") rows ≡ option_map (λ s. s.now) asked.orders
  pub key : first_of (codes "key") rows ≡ option_map (λ s. s.now) asked.key
  pub most : AsksMost rows shown_keys default_most asked.most

-- the words give a call's number after `--around`, or have no such option
abbrev pub AsksAround : List Row → Option ℕ → Type 0
AsksAround rows None = first_of (codes "around") rows ≡ None
AsksAround rows (Some call) = AsksNumber rows (codes "around") any_number call

-- the words after `draw` say by `--by` what keys are judged by, and have no such option beside
-- orders
pub record AsksDrawnBy (rows : List Row) (by : By) : Type 0 where
  pub says : AsksBy rows by
  pub alone : (first_of (codes "by") rows ≡ None) ⊎ (first_of (codes "ORDERS") rows ≡ None)

-- the words after `draw` ask by `--whole` for one picture of all keys, and then choose no keys
pub record AsksWhole (rows : List Row) (whole : Bool) : Type 0 where
  pub says : IsTrue whole ↔ GivesFlag rows (codes "whole")
  pub keys : IsTrue whole → first_of (codes "key") rows ≡ None
  pub most : IsTrue whole → first_of (codes "most") rows ≡ None

-- the words after `draw` ask for keys as those after `explain` do, say what these are judged by,
-- ask for so many calls, and for those around a call, and for one picture of all keys
pub record AsksDrawing (rows : List Row) (asked : DrawAsked) : Type 0 where
  pub keys : AsksKeys rows asked.keys
  pub by : AsksDrawnBy rows asked.by
  pub calls : AsksNumber rows (codes "calls") shown_calls asked.calls
  pub around : AsksAround rows asked.around
  pub whole : AsksWhole rows asked.whole

-- the words after `monitor` may name the file, say by `--all` whether other keys are judged on, by
-- `--give-up` after how many rows a read is given up, and ask for that form
pub record AsksMonitor (rows : List Row) (asked : MonitorAsked) : Type 0 where
  pub history : first_of (codes "FILE") rows ≡ option_map (λ s. s.now) asked.history
  pub all : IsTrue asked.all ↔ GivesFlag rows (codes "all")
  pub give_up : AsksNumber rows (codes "give-up") give_up_range asked.give_up
  pub form : AsksForm rows asked.form

-- the words after `split` may name the file, and say how many pieces there are, and in which folder
pub record AsksSplit (rows : List Row) (asked : SplitAsked) : Type 0 where
  pub history : first_of (codes "FILE") rows ≡ option_map (λ s. s.now) asked.history
  pub parts : AsksNumber rows (codes "parts") parts_range asked.parts
  pub into : Names rows (codes "into") asked.into

-- the words after `trace` name the script, and ask for so many lines of it
pub record AsksTrace (rows : List Row) (script : Text) (most : ℕ) : Type 0 where
  pub told : GivesFlag rows (codes "draw") → ⊥
  pub script_named : first_of (codes "SCRIPT") rows ≡ Some script
  pub lines : AsksMost rows any_number 10000 most

-- the words after `trace` name the script, and ask by `--draw` for a page with so many steps of it,
-- or the most that a page draws if they ask for more
pub record AsksTracePage (rows : List Row) (script : Text) (most : ℕ) : Type 0 where
  pub drawn : GivesFlag rows (codes "draw")
  pub script_named : first_of (codes "SCRIPT") rows ≡ Some script
  pub asked : ℕ
  pub steps : AsksMost rows any_number 1000 asked
  pub few : most ≡ min asked most_shown

-- the words after the command's name make it that command
abbrev pub Makes : List Row → Command → Type 0
Makes rows (Check asked) = AsksCheck rows asked
Makes rows (Decide asked) = AsksDecision rows asked
Makes rows (Draw asked) = AsksDrawing rows asked
Makes rows (Explain asked) = AsksKeys rows asked
Makes rows (Justify asked) = AsksOrders rows asked
Makes rows (Monitor asked) = AsksMonitor rows asked
Makes rows (Simulate script) = first_of (codes "SCRIPT") rows ≡ Some script.now
Makes rows (Split asked) = AsksSplit rows asked
Makes rows (Trace script most) = AsksTrace rows script.now most
Makes rows (TracePage script most) = AsksTracePage rows script.now most
Makes rows (Run asked) = AsksRun rows asked

-- the command's name
abbrev pub name_of : Command → Text
name_of (Check asked) = codes "check"
name_of (Decide asked) = codes "decide"
name_of (Draw asked) = codes "draw"
name_of (Explain asked) = codes "explain"
name_of (Justify asked) = codes "justify"
name_of (Monitor asked) = codes "monitor"
name_of (Simulate script) = codes "simulate"
name_of (Split asked) = codes "split"
name_of (Trace script most) = codes "trace"
name_of (TracePage script most) = codes "trace"
name_of (Run asked) = codes "run"

-- the command has that name, and the words after it make the command
abbrev pub MakesAs : Text → List Row → Command → Type 0
MakesAs name rows command = (name_of command ≡ name) × Makes rows command

-- the command that was met, with the words after its name
abbrev pub MakesOf : Option (Text × List Row) → Command → Type 0
MakesOf met command = (rows : List Row) × (met ≡ Some (name_of command, rows)) × Makes rows command

-- clap finds no fault in the words, and they ask neither for help nor for the version
abbrev pub AreParsed : List Text → Type 0
AreParsed words = fault_of abd_app words ≡ []

-- the words ask for the command: clap finds no fault in them, and they make it
abbrev pub Asks : List Text → Command → Type 0
Asks words command = AreParsed words × MakesOf (subcommand_of abd_app words) command

-- the kind is of a fault of the words
abbrev pub IsMistake : ErrorKind → Type 0
IsMistake kind = (kind ≡ DisplayHelp → ⊥) × (kind ≡ DisplayVersion → ⊥) × (kind ≡ OutOfMemory → ⊥)

-- the words have a fault, or clap finds none and they make no command
abbrev pub AreFaulty : List Text → Type 0
AreFaulty words =
    ((kind : ErrorKind) × IsAmong kind (fault_of abd_app words) × IsMistake kind)
    ⊎ (AreParsed words × ((command : Command) → MakesOf (subcommand_of abd_app words) command → ⊥))

-- why there is no command: help was asked for, or the version, or the words have a fault, or memory
-- ran out
abbrev pub AsksNothing : List Text → Usage → Type 0
AsksNothing words (usage.Help text) = IsAmong DisplayHelp (fault_of abd_app words)
AsksNothing words (usage.Version text) = IsAmong DisplayVersion (fault_of abd_app words)
AsksNothing words (usage.Fault text) = AreFaulty words
AsksNothing words usage.Memory = Unit {0}

-- the text isn't empty
abbrev pub HasWords : Text → Type 0
HasWords text = 1 ≤ length text

-- help, the version and faults are answered with words
abbrev pub IsSaid : Usage → Type 0
IsSaid (usage.Help text) = HasWords (string_bytes text)
IsSaid (usage.Version text) = HasWords (string_bytes text)
IsSaid (usage.Fault text) = HasWords (string_bytes text)
IsSaid usage.Memory = Unit {0}

-- the answer to an error of clap's that has that kind
abbrev pub IsUsageOf : ErrorKind → Usage → Type 0
IsUsageOf kind (usage.Help text) = kind ≡ DisplayHelp
IsUsageOf kind (usage.Version text) = kind ≡ DisplayVersion
IsUsageOf kind (usage.Fault text) = IsMistake kind
IsUsageOf kind usage.Memory = Unit {0}

-- the answer says that no command is made, where none is, or that memory ran out
abbrev pub MakesNothing : Type 0 → Usage → Type 0
MakesNothing none (usage.Help text) = ⊥
MakesNothing none (usage.Version text) = ⊥
MakesNothing none (usage.Fault text) = none
MakesNothing none usage.Memory = Unit {0}
