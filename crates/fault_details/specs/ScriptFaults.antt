-- What is said of a script's fault.
use Rattle.std.specs.Prelude.{ℕ, ◌≡◌, ◌⊎◌, ◌++◌, ◌==◌, ◌&&◌, ◌||◌, List, [], ◌∷◌, Bool, true, false}
use Rattle.std.specs.Prelude.{codes, nat_le, if◌then◌else◌}
use Rattle.counted_devices.specs.declared.read_fault.FaultKind.TheVariants.{Line}
use Rattle.counted_devices.specs.DeviceStates.{DeviceStates}
use Rattle.counted_devices.specs.Deliveries.{ReadsFrom}
use Rattle.counted_devices.specs.FaultTexts.{kind_text}
use Rattle.counted_devices.specs.Numbers.{fault_number}
use Rattle.counted_devices.specs.FirstFaults.{StopsFrom}
use Rattle.script_runs.specs.declared.command.Script.{Script}
use Rattle.fault_script.specs.declared.fault.LineFault as script
use Rattle.fault_script.specs.Faults.{ScriptError}
use Rattle.fault_script.specs.Numbers.{line_fault_number, line_fault_text}
use Rattle.fault_script.specs.Scripts.{IsScript, script_faults}
use Rattle.file_format.specs.declared.fault.LineFault.TheVariants as fault
use Rattle.file_format.specs.Faults.{FaultKind, FileFault}
use Rattle.sentences.specs.Words.{numbered}
use Rattle.fault_details.specs.declared.found_line.FoundLine.{FoundLine}
use Rattle.fault_details.specs.FileFaults.{Explains}
use Rattle.fault_details.specs.Shown.{sentence}

-- one line on the line is added, after two blanks, with no control character
abbrev pub AddsScript : FoundLine → script.LineFault → List ℕ → List ℕ → Type 0
AddsScript line why old new = (words : List ℕ) × (new ≡ old ++ sentence words)

-- ---- a script that was given as a history

-- a blank, a tab, or an end of a line
abbrev pub is_space : ℕ → Bool
is_space b = b == 32 || b == 9 || b == 10 || b == 13

-- a letter or `#`
abbrev pub begins_word : ℕ → Bool
begins_word b = (nat_le 65 b && nat_le b 90) || (nat_le 97 b && nat_le b 122) || b == 35

-- the first byte that is no white space is a letter or `#`
abbrev pub begins_script : List ℕ → Bool
begins_script [] = false
begins_script (b ∷ bytes) = if is_space b then begins_script bytes else begins_word b

-- it is the fault that a script's line has as a history's: it is no JSON, or too long
abbrev pub is_fault_of_scripts : FaultKind → Bool
is_fault_of_scripts (Line fault.NotJson) = true
is_fault_of_scripts (Line fault.TooLong) = true
is_fault_of_scripts other = false

-- a history that begins with those bytes and has that fault is taken for a script
abbrev pub seems_script : FileFault → List ℕ → Bool
seems_script why bytes =
    why.line == 1 && (is_fault_of_scripts why.kind && begins_script bytes)

-- the fault that it has as a script: its line, its number and its text
unfoldable pub script_fault_line : ScriptError → List ℕ
script_fault_line why = numbered (codes "  as a script: line ") why.line
    ++ (numbered (codes ": script fault ") (fault_number line_fault_number 7 8 why.kind)
    ++ (codes " " ++ (kind_text line_fault_text why.kind ++ codes "\n")))

-- what two readers gave is a script, or the first has a fault, which is explained by what the
-- second gave
abbrev pub ExplainsScript : DeviceStates → DeviceStates → List ℕ → Type 0
ExplainsScript first again text =
    ((made : Script) × ReadsFrom IsScript first made
    × (text ≡ codes "  it is a script, which abd simulate runs\n"))
    ⊎ ((why : ScriptError) × StopsFrom script_faults first why × (details : List ℕ)
    × Explains AddsScript again why.line why.kind details
    × (text ≡ script_fault_line why ++ details))
