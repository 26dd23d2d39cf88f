-- Scripts: the commands that lines say, and the first fault among lines.
use Rattle.std.specs.Prelude.{ℕ, ◌≡◌, ◌+◌, List, [], ◌∷◌, ◌++◌, length, Option, Some, None, Ok, Err}
use Rattle.std.specs.Prelude.{option_map, fold, filter_map}
use Rattle.counted_devices.specs.Cuts.{Splits, last_lines}
use Rattle.counted_devices.specs.FirstFaults.{LineFaults, LineRules, faults_by}
use Rattle.script_runs.specs.declared.command.NumberedCommand.{NumberedCommand}
use Rattle.script_runs.specs.declared.command.Script.{Script}
use Rattle.fault_script.specs.declared.parse_line.Last.TheVariants.{Other}
use Rattle.fault_script.specs.declared.parse_line.ConfigSoFar.{ConfigSoFar}
use Rattle.fault_script.specs.declared.parse_line.Said.{Said}
use Rattle.fault_script.specs.declared.parse_line.Said.TheVariants.{Opens, Runs}
use Rattle.fault_script.specs.declared.fault.LineFault.{LineFault}
use Rattle.fault_script.specs.declared.fault.LineFault.TheVariants.{NoReplicas}
use Rattle.fault_script.specs.Lines.{ScriptLineSays}

-- what a line says, and its number from 1
pub record SaidLine : Type 0 where
  pub line : ℕ
  pub said : Said

-- the configuration after one more line
abbrev pub opened_after : Option ConfigSoFar → Said → Option ConfigSoFar
opened_after before (Opens opened) = Some opened
opened_after None (Runs command) = None
opened_after (Some opened) (Runs command) = Some (record { config = opened.config; last = Other })

-- the configuration after those lines
abbrev pub opened_of : List SaidLine → Option ConfigSoFar
opened_of saids = fold (λ before placed. opened_after before placed.said) None saids

-- the command of a line; a line of the configuration has none
abbrev pub command_by : ℕ → Said → Option NumberedCommand
command_by line (Opens opened) = None
command_by line (Runs command) = Some (record { line = line; command = command })

-- the commands of those lines
abbrev pub commands_of : List SaidLine → List NumberedCommand
commands_of saids = filter_map (λ placed. command_by placed.line placed.said) saids

-- the lines say those: each is blank or a comment, or says the next of them after those before
pub data ScriptLinesSay : List (List ℕ) → List SaidLine → Type 0 where
  no_line : ScriptLinesSay [] []
  blank_line : (lines : List (List ℕ)) (saids : List SaidLine) (line : List ℕ)
      → ScriptLinesSay lines saids → ScriptLineSays (opened_of saids) (length saids) line (Ok None)
      → ScriptLinesSay (lines ++ line ∷ []) saids
  command_line : (lines : List (List ℕ)) (saids : List SaidLine) (line : List ℕ) (said : Said)
      → ScriptLinesSay lines saids
      → ScriptLineSays (opened_of saids) (length saids) line (Ok (Some said))
      → ScriptLinesSay (lines ++ line ∷ [])
      (saids ++ record { line = length lines + 1; said = said } ∷ [])

-- the line after those lines has that fault, and that number
pub record LineHasFault (earlier : List (List ℕ)) (line : List ℕ) (number : ℕ) (fault : LineFault) :
    Type 0 where
  pub saids : List SaidLine
  pub read : ScriptLinesSay earlier saids
  pub counted : number ≡ length earlier + 1
  pub faulty : ScriptLineSays (opened_of saids) (length saids) line (Err fault)

-- the script is made of what the lines say: the last configuration, and the commands in their order
pub record IsMadeOf (saids : List SaidLine) (script : Script) : Type 0 where
  pub config : option_map (λ (opened : ConfigSoFar). opened.config) (opened_of saids)
      ≡ Some script.config
  pub commands : script.commands.items ≡ commands_of saids

-- the bytes are lines that say what the script is made of
pub record IsScript (bytes : List ℕ) (script : Script) : Type 0 where
  pub lines : List (List ℕ)
  pub rest : List ℕ
  pub splits : Splits bytes lines rest
  pub saids : List SaidLine
  pub read : ScriptLinesSay (last_lines lines rest) saids
  pub made : IsMadeOf saids script

-- the rules of a script's lines; at their end they must have said a configuration
abbrev pub script_rules : LineRules LineFault
script_rules = record {
  AreSound = λ lines. (saids : List SaidLine) × ScriptLinesSay lines saids;
  HasFault = λ earlier line. LineHasFault earlier line (length earlier + 1);
  LacksAtEnd = λ lines fault. ScriptLinesSay lines [] × (fault ≡ NoReplicas);
}

-- when the lines of a script have no fault, and which fault of them is the first
abbrev pub script_faults : LineFaults LineFault
script_faults = faults_by script_rules
