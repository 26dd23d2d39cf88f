-- What a line says by itself, without the lines before it.
use Rattle.std.specs.Prelude.{ℕ, ◌≡◌, List, Option, Some, None, Result, Ok, Err, codes, nat_le}
use Rattle.std.specs.Prelude.{string_bytes, if◌then◌else◌}
use Rattle.counted_devices.specs.Answers.{◌>>=◌}
use Rattle.script_runs.specs.declared.command.Command.{Command}
use Rattle.fault_script.specs.declared.parse_line.ConfigSoFar.{ConfigSoFar}
use Rattle.fault_script.specs.declared.parse_line.Said.{Said}
use Rattle.fault_script.specs.declared.parse_line.Said.TheVariants.{Runs}
use Rattle.fault_script.specs.declared.fault.LineFault.{LineFault}
use Rattle.fault_script.specs.declared.fault.LineFault.TheVariants.{NoReplicas, TooManyCommands}
use Rattle.fault_script.specs.declared.shown.Setting.{Setting}
use Rattle.fault_script.specs.declared.shown.Setting.TheVariants as setting
use Rattle.fault_script.specs.declared.shown.Shown.{Shown}
use Rattle.fault_script.specs.declared.shown.Shown.TheVariants as shown
use Rattle.fault_script.specs.LineMeanings.{command_limit, said_in, text_says}
use Rattle.fault_script.specs.Lines.{ScriptLineSays}

-- the first word of a line of the configuration
abbrev pub setting_word : Setting → List ℕ
setting_word setting.Replicas = codes "replicas"
setting_word setting.Reads = codes "reads"
setting_word setting.Votes = codes "votes"

-- a line of that first word is one of the configuration
abbrev pub IsSettingWord : List ℕ → Type 0
IsSettingWord verb = (setting : Setting) × (verb ≡ setting_word setting)

-- what a command, or the fault of its words, says after the lines before: there must be a
-- configuration
abbrev pub run_after : Option ConfigSoFar → Result Command LineFault → Result Said LineFault
run_after None command = Err NoReplicas
run_after (Some opened) command = do
  said ← command
  Ok (Runs said)

-- the same of a line that is neither blank nor a comment, after so many commands
abbrev pub one_more : ℕ → Result Said LineFault → Result (Option Said) LineFault
one_more count line = if nat_le command_limit count then Err TooManyCommands else (do
  said ← line
  Ok (Some said))

-- what a line that shows that says after the lines before, of which so many were commands
abbrev pub says_after : Option ConfigSoFar → ℕ → Shown → Result (Option Said) LineFault
says_after before count shown.Nothing = Ok None
says_after before count (shown.Sets setting args) =
    one_more count (said_in before (setting_word setting) (string_bytes args))
says_after before count (shown.Runs command) = one_more count (run_after before command)

-- the text shows that by itself: after whatever lines it says what that says there
abbrev pub TextShows : List ℕ → Shown → Type 0
TextShows text shown = (before : Option ConfigSoFar) (count : ℕ)
    → text_says before count text ≡ says_after before count shown

-- the line, without its end, shows that item or that fault by itself: after whatever lines it says
-- what that says there
abbrev pub ScriptLineShows : List ℕ → Result Shown LineFault → Type 0
ScriptLineShows line shows = (before : Option ConfigSoFar) (count : ℕ)
    → ScriptLineSays before count line (shows >>= says_after before count)
