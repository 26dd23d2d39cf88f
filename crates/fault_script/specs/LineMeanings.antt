-- What a line's text says after the lines before it.
use Rattle.std.specs.Prelude.{ℕ, ◌==◌, List, [], ◌∷◌, Option, Some, None, Result, Ok, Err, codes}
use Rattle.std.specs.Prelude.{bytes_eq, length, nat_le, slice_index, if◌then◌else◌}
use Rattle.world_steps.specs.Configs.{Config}
use Rattle.fault_script.specs.declared.parse_line.Last.{Last}
use Rattle.fault_script.specs.declared.parse_line.Last.TheVariants as last
use Rattle.fault_script.specs.declared.parse_line.ConfigSoFar.{ConfigSoFar}
use Rattle.fault_script.specs.declared.parse_line.Said.{Said}
use Rattle.fault_script.specs.declared.parse_line.Said.TheVariants.{Opens, Runs}
use Rattle.fault_script.specs.declared.fault.LineFault.{LineFault}
use Rattle.fault_script.specs.declared.fault.LineFault.TheVariants.{NoReplicas, UnknownCommand}
use Rattle.fault_script.specs.declared.fault.LineFault.TheVariants.{TooManyCommands}
use Rattle.fault_script.specs.Words.{words, behind_word}
use Rattle.counted_devices.specs.Answers.{◌>>=◌}
use Rattle.fault_script.specs.Settings.{replicas_in, reads_in, votes_in}
use Rattle.fault_script.specs.Settings.{after_replicas, after_reads, after_votes}
use Rattle.fault_script.specs.Commands.{command_in}

-- `reads` stands directly after `replicas`
unfoldable pub reads_said : Config → Last → List (List ℕ) → Result ConfigSoFar LineFault
reads_said config last.Replicas args = do
  mode ← reads_in args
  Ok (after_reads config mode)
reads_said config last.Reads args = Err UnknownCommand
reads_said config last.Other args = Err UnknownCommand

-- `votes` sets the quorums
unfoldable pub votes_set : Config → List (List ℕ) → Result ConfigSoFar LineFault
votes_set config args = do
  quorums ← votes_in (length config.quorums.votes) args
  Ok (after_votes config quorums)

-- `votes` stands directly after `replicas`, or after `reads`
unfoldable pub votes_said : Config → Last → List (List ℕ) → Result ConfigSoFar LineFault
votes_said config last.Replicas args = votes_set config args
votes_said config last.Reads args = votes_set config args
votes_said config last.Other args = Err UnknownCommand

-- the first command is `replicas`
unfoldable pub first_said : List ℕ → List (List ℕ) → Result Said LineFault
first_said verb args =
    if bytes_eq verb (codes "replicas") then (do
      config ← replicas_in args
      Ok (Opens (after_replicas config)))
    else Err NoReplicas

-- what a first word, and what stands after it, say after the lines before
unfoldable pub said_in : Option ConfigSoFar → List ℕ → List ℕ → Result Said LineFault
said_in None verb args = first_said verb (words args)
said_in (Some opened) verb args =
    if bytes_eq verb (codes "replicas") then Err UnknownCommand
    else if bytes_eq verb (codes "reads") then (do
      set ← reads_said opened.config opened.last (words args)
      Ok (Opens set))
    else if bytes_eq verb (codes "votes") then (do
      set ← votes_said opened.config opened.last (words args)
      Ok (Opens set))
    else (do
      command ← command_in verb args
      Ok (Runs command))

-- the most commands, those of the configuration among them
abbrev pub command_limit : ℕ
command_limit = 1000000

-- what such a line says after so many commands: nothing where it is a comment
unfoldable pub command_says : Option ConfigSoFar → ℕ → List ℕ → List ℕ
    → Result (Option Said) LineFault
command_says before count verb args =
    if slice_index verb 0 == 35 then Ok None
    else if nat_le command_limit count then Err TooManyCommands
    else (do
      said ← said_in before verb args
      Ok (Some said))

-- what the words of a line say: nothing where it has none
unfoldable pub words_say : Option ConfigSoFar → ℕ → List (List ℕ) → List ℕ
    → Result (Option Said) LineFault
words_say before count [] args = Ok None
words_say before count (verb ∷ others) args = command_says before count verb args

-- what the text of a line says, by its words
unfoldable pub text_says : Option ConfigSoFar → ℕ → List ℕ → Result (Option Said) LineFault
text_says before count text = words_say before count (words text) (behind_word text)
